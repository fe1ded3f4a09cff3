use Rattle.debugging.specs.Notes.{harts_of}
use Rattle.debugging.specs.Monitor.{Told, IsPutBehind, Tells}
use Rattle.debugging.proofs.Reporting.{where_told, none_told, named_told}
use Rattle.debugging.proofs.session.Session.tell_of.Goals as goal

pub returns-then-is-clause-told : goal.returns-then-is-clause-told
returns-then-is-clause-told c =
    where_told (harts_of c.args.self.now) c.args.command.now _ _ c.args.text.now.items c.put_place.new.text.items c.args.self.now c.cut.ensures.one c.cut.ensures.all
    (c.is.ensures.0 c.if-is.true) (rw (← c.self.view_is) c.in_ok-put_place.ensures)

pub returns-then-is-2-clause-told : goal.returns-then-is-2-clause-told
returns-then-is-2-clause-told c = λ told asks.
    absurd (none_told (harts_of c.args.self.now) c.args.command.now _ _ told c.cut.ensures.one c.cut.ensures.all (c.is-2.ensures.0 c.if-is-2.true) asks)

pub returns-clause-told : goal.returns-clause-told
returns-clause-told c =
    named_told c.do_with.result (harts_of c.args.self.now) c.args.command.now _ _
    (λ (told : Told). IsPutBehind c.args.text.now.items c.do_with.new.text.items (Tells told c.args.self.now c.do_with.new.self)) c.cut.ensures.one c.cut.ensures.all
    (λ w. let yes = c.is.ensures.1 w in let no = c.if-is.false in absurd cc) c.do_with.ensures.told
