use Rattle.std.proofs.Common.{Ok, refl, ap}
use Rattle.log_join.specs.declared.answers.Put.{Put}
use Rattle.live_keeper.proofs.Steps.{passed_over, took}
use Rattle.live_keeper.proofs.turns.take_frame.Goals as goal

pub returns-then-is_far-clause-taken : goal.returns-then-is_far-clause-taken
returns-then-is_far-clause-taken c = passed_over c.args.station.now c.args.frame (c.if-is_far.ensures.0 refl)

pub returns-in-New : goal.returns-in-New
returns-in-New c = record {
  taken = took c.args.station.now c.take.new.self c.args.frame c.in-Ok.put (λ far. let e = c.if-is_far.ensures.1 far in absurd cc)
      c.in-Ok.ensures.answer c.in-New.is
      (λ new. c.in-Ok.ensures.joined (ap (λ (p : Put). Ok p) new)) (λ new. c.in-Ok.ensures.fresh (ap (λ (p : Put). Ok p) new)) c.in-Ok.ensures.stays
      c.in-Ok.ensures.seen c.in-Ok.ensures.keeper;
  fault = tt;
}
