use Rattle.client_turns.proofs.Steps.{full_said, said_other, said_line}
use Rattle.client_turns.proofs.talking.take_line.Goals as goal

pub returns-then-is_full : goal.returns-then-is_full
returns-then-is_full c = full_said c.args.talk.now c.args.text.now c.args.deeds.now.items (c.is_full.ensures.full c.if-is_full.true)

pub returns-in-Contradiction : goal.returns-in-Contradiction
returns-in-Contradiction c =
    said_other c.args.talk.now c.hear.new.talk c.args.text.now c.args.deeds.now.items c.hear.new.deeds.items c.in_ok-what.what
    (c.is_full.ensures.other c.if-is_full.false) c.in_ok-what.ensures.hears c.in_ok-what.ensures.anew c.in-Contradiction.is

pub returns : goal.returns
returns c =
    said_line c.args.talk.now c.hear.new.talk c.go_on.new.talk c.args.text.now c.args.deeds.now.items c.hear.new.deeds.items c.go_on.new.deeds.items
    c.in_ok-what.what (c.is_full.ensures.other c.if-is_full.false) c.in_ok-what.ensures.hears c.in_ok-what.ensures.anew
    c.in_default.not-Contradiction c.in_ok-go_on.ensures
