use Rattle.std.proofs.Common.{◌≡◌, ◌+◌, [], ◌∷◌, ◌++◌, List, length, sym, ap, ◌∙◌, append_assoc}
use Rattle.std.specs.Vec.Iter.{into_iter_items}
use Rattle.std.proofs.lemmas.List.{length-append}
use Rattle.fragment_codec.specs.declared.frame.Frame.{Frame}
use Rattle.log_join.specs.Stores.{nothing}
use Rattle.stations.proofs.Held.{come_one}
use Rattle.log_mending.proofs.Filled.{is_none}
use Rattle.log_mending.proofs.gathering.gather.Goals as goal

pub loop-frame-preserved : goal.loop-frame-preserved
loop-frame-preserved c =
    let at = c.loop-frame in
    let frame = c.in-Some.frame in
    let steps : into_iter_items at.frame-iterator ≡ frame ∷ into_iter_items c.next.new.self = c.in-Some.ensures.steps.0 in (
      come_one (nothing c.args.guest) at.store c.put_fit.new.store at.yielded frame at.invariant.0
          (c.in_ok-misfit.ensures.joined (is_none _ c.in_default.not-Some)),
      length-append at.yielded (frame ∷ []) ∙ ap (λ n. n + 1) at.invariant.1,
      append_assoc at.yielded (frame ∷ []) _ ∙ rw (← steps) at.invariant.2,
    )
