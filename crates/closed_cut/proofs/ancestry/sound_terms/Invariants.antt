use Rattle.closed_cut.proofs.Chains.{AreFirst}
use Rattle.closed_cut.proofs.ancestry.sound_terms.Given as goal

abbrev pub invariant-loop-term : goal.invariant-loop-term
invariant-loop-term l = AreFirst l.store l.term-items l.sound.items l.term-index
