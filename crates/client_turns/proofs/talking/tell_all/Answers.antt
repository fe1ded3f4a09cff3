use Rattle.client_turns.proofs.Steps.{told_one, told_all}
use Rattle.client_turns.proofs.talking.tell_all.Goals as goal

pub loop-told-preserved : goal.loop-told-preserved
loop-told-preserved c =
    told_one c.args.talk.now c.loop-told.talk c.tell.new.self c.args.deeds.now.items c.loop-told.deeds.items c.add.new.deeds.items c.in-Some.told
    c.loop-told.invariant c.in-Some.ensures.next.0 c.in-Some.ensures.next.1 c.in-Some.ensures.next.2 c.in_ok-add.ensures

pub returns : goal.returns
returns c =
    told_all c.args.talk.now c.loop-told.talk c.tell.new.self c.args.deeds.now.items c.loop-told.deeds.items c.loop-told.invariant
    c.in_default.ensures.none.0 c.in_default.ensures.none.1
