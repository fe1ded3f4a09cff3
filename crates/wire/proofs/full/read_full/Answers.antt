use Rattle.std.proofs.Common.{ℕ, List, subst}
use Rattle.std.specs.Prelude.{IfSome, IfNone}
use Rattle.wire.specs.Requests.{HasFull, full_fields}
use Rattle.wire.specs.Values.{IsHart}
use Rattle.wire.proofs.Reading.{exact_spelled}
use Rattle.wire.proofs.RequestFields.{full_back, full_same}
use Rattle.wire.proofs.full.read_full.Goals as goal

pub returns : goal.returns
returns c =
    let harts = c.args.harts in
    let r = c.full_of.result in
    record {
      exact = exact_spelled c.args.text.now (IsHart harts) full_fields r (full_back harts) (full_same harts)
          (subst (λ (fs : List (List ℕ)). IfSome r (λ a. HasFull harts fs a)) c.new.ensures c.full_of.ensures.found)
          (subst (λ (fs : List (List ℕ)). IfNone r ((a : ℕ) → HasFull harts fs a → ⊥)) c.new.ensures c.full_of.ensures.none);
    }
