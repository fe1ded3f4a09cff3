use Rattle.debugging.proofs.Reporting.{goes_named, who_named}
use Rattle.debugging.proofs.session.Session.do_with.Goals as goal

pub returns-then-is-clause-told : goal.returns-then-is-clause-told
returns-then-is-clause-told c =
    goes_named c.go_to_place.result c.args.name.now c.args.words.now c.args.text.now.items c.go_to_place.new.text.items c.args.self.now c.go_to_place.new.self
    (c.is.ensures.0 c.if-is.true) c.go_to_place.ensures.went

pub returns-then-is-2-clause-told : goal.returns-then-is-2-clause-told
returns-then-is-2-clause-told c =
    who_named c.tell_who.result c.args.name.now c.args.words.now c.args.text.now.items c.tell_who.new.text.items c.args.self.now c.tell_who.new.self
    (c.is-2.ensures.0 c.if-is-2.true) c.tell_who.ensures.told
