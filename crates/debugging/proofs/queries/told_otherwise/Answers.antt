use Rattle.std.proofs.Common.{ℕ, List, ◌≡◌, IfOk, subst}
use Rattle.debugging.proofs.queries.told_otherwise.Goals as goal

pub returns : goal.returns
returns c = λ text asks. subst (λ (t : List ℕ). IfOk c.copied.result (λ told. told.items ≡ t)) (c.constant.ensures text asks) c.copied.ensures
