use Rattle.debugging.proofs.Reporting.{told_who}
use Rattle.debugging.proofs.session.Session.tell_who.Goals as goal

pub returns-in-Some-clause-told : goal.returns-in-Some-clause-told
returns-in-Some-clause-told c =
    told_who c.tell_writer.result c.args.words.now c.args.text.now.items c.tell_writer.new.text.items c.in-Some.word c.args.self.now c.tell_writer.new.self
    c.read_watched.result c.in-Some.is c.read_watched.ensures c.tell_writer.ensures.stays c.tell_writer.ensures.told

pub returns-in_ok-put-in-None-clause-told : goal.returns-in_ok-put-in-None-clause-told
returns-in_ok-put-in-None-clause-told c = λ address is. let e = c.in-None.ensures address is in absurd cc
