use Rattle.std.proofs.Common.{ap}
use Rattle.book_modes.specs.declared.mode.Leg.{Leg}
use Rattle.hart_lease.specs.Runs.{heard_in}
use Rattle.hart_replay.proofs.rounds.Ends.{outcome_of, fault_of}
use Rattle.hart_replay.proofs.rounds.Leases.{free_alone}
use Rattle.hart_threads.proofs.Finishing.{stops}
use Rattle.hart_threads.proofs.legs.replay_leg.Goals as goal

pub run_crew-held-requires-clause-free : goal.run_crew-held-requires-clause-free
run_crew-held-requires-clause-free g c lifetimes order = free_alone

pub returns : goal.returns
returns g c =
    let m = c.args.start in
    let leg = c.args.leg.now in
    let b = c.in_ok-ended.ended in
    let stopped =
    stops m leg c.in_ok-begun.begun c.in_ok-copy.copy c.pick.result b c.in_ok-begun.ensures c.in_ok-copy.ensures c.pick.ensures c.in_ok-ended.ensures.leading
    c.in_ok-ended.ensures.held in
    let heard = ap (λ (leg : Leg). heard_in leg.inputs) stopped.leading.mode in
    let run = c.into_machine.ensures.run in
    let begins = c.into_machine.ensures.begins in
    let here = c.into_machine.ensures.value in
    record {
      ok =
          outcome_of m leg c.requires.leg c.requires.base b stopped (heard_in b.mode.inputs) heard run begins c.into_machine.result c.come_to.result here
          c.come_to.ensures.ok;
      fault =
          fault_of m leg c.requires.leg c.requires.base b stopped (heard_in b.mode.inputs) heard run begins c.into_machine.result c.come_to.result here
          c.come_to.ensures.fault;
    }
