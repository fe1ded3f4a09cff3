use Rattle.hart_replay.proofs.walking.Walk.{front_of_chain}
use Rattle.hart_replay.specs.Plans.{terms_of}
use Rattle.hart_replay.proofs.planning.plan.Goals as goal

pub returns-clause-chain : goal.returns-clause-chain
returns-clause-chain c =
    rw c.new.ensures.legs
    (front_of_chain c.args.store.now c.args.position.now c.requires (terms_of c.in_ok-legs.legs.items) c.in_ok-legs.ensures.terms)

pub returns-clause-inputs : goal.returns-clause-inputs
returns-clause-inputs c = rw c.new.ensures.legs c.in_ok-legs.ensures.inputs

pub returns-clause-cuts : goal.returns-clause-cuts
returns-clause-cuts c = rw c.new.ensures.legs c.in_ok-legs.ensures.cuts

pub returns-clause-marks : goal.returns-clause-marks
returns-clause-marks c = rw c.new.ensures.legs c.in_ok-legs.ensures.marks
