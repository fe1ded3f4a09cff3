use Rattle.std.proofs.Common.{ℕ, List, subst}
use Rattle.std.specs.Prelude.{IfSome, IfNone}
use Rattle.wire.specs.Requests.{IsRequest, HasRequest, request_fields}
use Rattle.wire.specs.declared.requests.Request.{Request}
use Rattle.wire.proofs.Reading.{exact_spelled}
use Rattle.wire.proofs.RequestFields.{request_back, request_same}
use Rattle.wire.proofs.requests.read_request.Goals as goal

pub returns : goal.returns
returns c =
    let harts = c.args.harts in
    let r = c.request_of.result in
    record {
      exact = exact_spelled c.args.text.now (IsRequest harts) request_fields r (request_back harts) (request_same harts)
          (subst (λ (fs : List (List ℕ)). IfSome r (λ a. HasRequest harts fs a)) c.new.ensures c.request_of.ensures.found)
          (subst (λ (fs : List (List ℕ)). IfNone r ((a : Request) → HasRequest harts fs a → ⊥)) c.new.ensures c.request_of.ensures.none);
    }
