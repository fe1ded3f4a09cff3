use Rattle.std.proofs.Common.{◌≡◌, List, ℕ, [], subst}
use Rattle.std.specs.Prelude.{◌↔◌, IsTrue}
use Rattle.wire.proofs.Reading.{none_left}
use Rattle.wire.proofs.fields.Fields.is_done.Goals as goal

pub returns : goal.returns
returns c = subst (λ (fields : List (List ℕ)). IsTrue c.is_none.result ↔ (fields ≡ [])) c.self.view_is
    (none_left (λ text. text.now) c.self.inside.rest c.is_none.result c.is_none.ensures)
