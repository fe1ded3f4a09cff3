use Rattle.std.proofs.Common.{refl, sym, ap, ◌∙◌, arith}
use Rattle.std.proofs.lemmas.Option.{slice_get_within}
use Rattle.leading.specs.Leaders.{queue_at}
use Rattle.leading.proofs.Handing.{one_is_handed}
use Rattle.leading.proofs.Queueing.{queue_there}
use Rattle.leading.proofs.inputs.has_input.Goals as goal

pub returns-then-is_some : goal.returns-then-is_some
returns-then-is_some c = (
  λ e. absurd (cc e),
  λ none.
      let qs = c.args.queues.now in
      let n = c.new-hart.result in
      let state = c.hart-state.result.now in
      let queue = c.index-queues-index.result in
      let inside = slice_get_within c.args.machine.now.harts n state c.hart-state.ensures in
      let at = c.index.ensures.value in
      let there = queue_there qs c.index.result queue (omega (arith, inside, at, c.requires)) c.index-queues-index.is ∙ ap (queue_at qs) at in
      absurd (one_is_handed c.args.machine.now qs n state queue c.next_input.result c.hart-state.ensures there c.next_input.ensures.next
      (sym c.is_some.ensures ∙ c.if-is_some.true) none),
)

pub returns : goal.returns
returns c = (
  λ e hart h at.
      c.loop-number.invariant hart h
      (let inside = slice_get_within c.args.machine.now.harts hart h at in omega (arith, inside, c.loop-number-test.false, c.harts-number-end.ensures.value)) at,
  λ none. refl,
)
