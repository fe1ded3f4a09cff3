use Rattle.std.proofs.Common.{[], ◌∷◌, sym, subst}
use Rattle.fragment_codec.specs.declared.frame.Frame.{Frame}
use Rattle.fragment_codec.specs.declared.frame.Frame.TheVariants.{Log, Opening}
use Rattle.fragment_codec.specs.Streams.{spelling, Splits}
use Rattle.fragment_codec.proofs.streams.Splits.{alone}
use Rattle.fragment_codec.proofs.writing.write_frame.Goals as goal

pub returns-in-Log-clause-read_again : goal.returns-in-Log-clause-read_again
returns-in-Log-clause-read_again g c =
    subst (λ (f : Frame). Splits (spelling f) (f ∷ []) []) (sym c.in-Log.is) (alone (Log c.in-Log.fragment) c.put_log.ensures.rules)

pub returns-in-Opening-clause-read_again : goal.returns-in-Opening-clause-read_again
returns-in-Opening-clause-read_again g c =
    subst (λ (f : Frame). Splits (spelling f) (f ∷ []) []) (sym c.in-Opening.is) (alone (Opening c.in-Opening.opening) c.put_opening.ensures.rules)
