use Rattle.std.proofs.Common.{◌≡◌, ◌+◌, ℕ, List, [], ◌∷◌, Some, length, slice_get, ap, ◌∙◌, length-append, arith}
use Rattle.std.proofs.lemmas.Option.{slice_get_within}
use Rattle.rv32_hart.specs.Hart.{Hart}
use Rattle.requests.specs.Queues.{QueueView}
use Rattle.leading.proofs.Queueing.{one_begun, one_given, one_in_limit}
use Rattle.leading.proofs.inputs.queues_of.Goals as goal

pub loop-number-preserved : goal.loop-number-preserved
loop-number-preserved c =
    let machine = c.args.machine.now in
    let qs = c.loop-number.queues.items in
    let n = c.loop-number.number in
    let q = c.new-in-loop-number.result in
    let was = c.loop-number.invariant in
    let one = one_given machine n c.new.result c.given-words.result c.hart.result.now q c.new.ensures c.hart.ensures c.given-words.ensures.value
    c.given-words.ensures.limit c.new-in-loop-number.ensures.value in
    record {
      many = ap (λ (l : List QueueView). length l) c.in_ok-push.ensures.items ∙ length-append qs (q ∷ []) ∙ ap (λ (z : ℕ). z + 1) was.many;
      behind =
          λ hart h lt at.
          rw c.in_ok-push.ensures.items (one_begun machine qs q n was.many (λ k there. (one k there).0) was.behind hart h lt at);
      limit = one_in_limit machine n (λ k there. (one k there).1) was.limit;
    }

pub returns-clause-limit : goal.returns-clause-limit
returns-clause-limit c = λ hart h at.
    let inside = slice_get_within c.args.machine.now.harts hart h at in
    c.loop-number.invariant.limit hart h (omega (arith, inside, c.loop-number-test.false, c.harts-number-end.ensures.value)) at
