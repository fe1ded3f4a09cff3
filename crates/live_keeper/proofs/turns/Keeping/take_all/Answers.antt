use Rattle.std.proofs.Common.{refl, sym, ◌∙◌, append-nil}
use Rattle.live_keeper.specs.Turns.{NoEvent}
use Rattle.live_keeper.proofs.Steps.{one_more, logged_before, logged_now, passed_on, silent_still}
use Rattle.live_keeper.proofs.turns.Keeping.take_all.Goals as goal

pub loop-event-init : goal.loop-event-init
loop-event-init c = record { taken = NoEvent c.args.self.now; logged = refl; passed = sym (append-nil c.args.deeds.now.items) }

pub returns-in_err-is_asked-clause-silent : goal.returns-in_err-is_asked-clause-silent
returns-in_err-is_asked-clause-silent c = λ silent.
    silent_still c.args.deeds.now.items c.take.new.deeds.items c.loop-event.yielded (c.in_err-is_asked.ensures.silent ∙ c.loop-event.invariant.passed) silent

pub loop-event-preserved-then-logged : goal.loop-event-preserved-then-logged
loop-event-preserved-then-logged c =
    let at = c.loop-event in
    let event = c.in-Some.event in
    record {
      taken = one_more c.args.self.now at.self c.take.new.self at.yielded event at.invariant.taken c.in_ok-is_asked.ensures.taken;
      logged = logged_before at.yielded event at.logged at.invariant.logged c.if-logged.true;
      passed = passed_on at.yielded event c.args.deeds.now.items at.deeds.items c.take.new.deeds.items at.invariant.passed c.in_ok-is_asked.ensures.passed;
    }

pub loop-event-preserved : goal.loop-event-preserved
loop-event-preserved c =
    let at = c.loop-event in
    let event = c.in-Some.event in
    record {
      taken = one_more c.args.self.now at.self c.take.new.self at.yielded event at.invariant.taken c.in_ok-is_asked.ensures.taken;
      logged = logged_now at.yielded event at.logged c.in_ok-is_asked.is_asked at.invariant.logged c.if-logged.false c.in_ok-is_asked.ensures.logged;
      passed = passed_on at.yielded event c.args.deeds.now.items at.deeds.items c.take.new.deeds.items at.invariant.passed c.in_ok-is_asked.ensures.passed;
    }

pub returns-clause-silent : goal.returns-clause-silent
returns-clause-silent c = λ silent.
    silent_still c.args.deeds.now.items c.loop-event.deeds.items c.loop-event.yielded c.loop-event.invariant.passed silent
