use Rattle.debugging.proofs.Telling.{told_answer}
use Rattle.debugging.proofs.session.Session.obey.Goals as goal

pub returns-in-Query-clause-answers : goal.returns-in-Query-clause-answers
returns-in-Query-clause-answers c = rw c.in-Query.is (told_answer c.answer_query.result c.args.packet.now c.args.self.now c.answer_query.new.self
    c.answer_query.ensures.still c.answer_query.ensures.told)
