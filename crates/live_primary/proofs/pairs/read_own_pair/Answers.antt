use Rattle.std.proofs.Common.{inl, inr, refl}
use Rattle.std.proofs.lemmas.Bool.{false≢true}
use Rattle.live_primary.proofs.pairs.read_own_pair.Goals as goal

pub returns-else-is_of-clause-fault : goal.returns-else-is_of-clause-fault
returns-else-is_of-clause-fault c =
    inr (c.in-Some.first.0, c.in-Some.first.1.now, c.in-Some.ensures.found, inl (c.other_quorum.ensures, λ e. false≢true (c.if-is_of.ensures.1 e)))

pub returns-else-is_one-clause-fault : goal.returns-else-is_one-clause-fault
returns-else-is_one-clause-fault c =
    inr (
      c.in-Some.first.0,
      c.in-Some.first.1.now,
      c.in-Some.ensures.found,
      inr (c.other_pair-else-is_one.ensures, c.if-is_of.ensures.0 refl, λ e. false≢true (c.if-is_one.ensures.1 e)),
    )
