use Rattle.std.proofs.Common.{ap, ◌∙◌, ◌==◌, List, length}
use Rattle.fragment_codec.specs.declared.frame.Frame.{Frame}
use Rattle.log_mending.proofs.Scans.{no_frame, some_frame, none_of, some_of}
use Rattle.log_mending.proofs.scanning.has_frame.Goals as goal

pub returns-clause-some : goal.returns-clause-some
returns-clause-some c = λ e.
    let front = c.in_ok-front.front in
    some_frame c.args.bytes.now front.frames.items front.size front.fault c.in_ok-front.ensures.front
    (some_of front.frames.items c.are_none.result (c.are_none.ensures ∙ ap (λ (l : List Frame). length l == 0) c.deref.ensures.value) e)

pub returns-clause-none : goal.returns-clause-none
returns-clause-none c = λ e.
    let front = c.in_ok-front.front in
    no_frame c.args.bytes.now front.frames.items front.size front.fault c.in_ok-front.ensures.front
    (none_of front.frames.items c.are_none.result (c.are_none.ensures ∙ ap (λ (l : List Frame). length l == 0) c.deref.ensures.value) e)
