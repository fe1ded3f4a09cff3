use Rattle.std.proofs.Common.{List, [], ◌∷◌, sym, subst}
use Rattle.fragment_codec.specs.declared.frame.Frame.{Frame}
use Rattle.fragment_codec.specs.Streams.{Splits}
use Rattle.fragment_codec.specs.machinery.Fronts.{IsFront}
use Rattle.fragment_codec.proofs.streams.Splits.{splits_on, splits_front}
use Rattle.fragment_codec.proofs.feed.read_frames.Goals as goal

pub loop-frame-preserved : goal.loop-frame-preserved
loop-frame-preserved c = λ stream s.
    let rest = c.loop-frame.rest.now in
    let behind = c.split_at.result.1.now in
    let front = subst (IsFront rest) c.in-Ok-Whole.field-0-is c.in-Ok-Whole.ensures.front in
    let one : Splits rest (c.in-Ok-Whole.frame ∷ []) behind =
    subst (Splits rest (c.in-Ok-Whole.frame ∷ [])) (sym c.split_at.ensures.back) (splits_front rest c.in-Ok-Whole.frame c.in-Ok-Whole.n front) in
    subst (λ (fs : List Frame). Splits stream fs behind) (sym c.in_ok-push-in-Ok-Whole.ensures.items)
    (splits_on stream rest behind c.loop-frame.frames.items (c.in-Ok-Whole.frame ∷ []) (c.loop-frame.invariant stream s) one)
