use Rattle.std.proofs.Common.{IfOk, sym, subst, ◌∙◌}
use Rattle.debugging.specs.declared.commands.Command.{Command}
use Rattle.debugging.specs.Commands.{IsStill}
use Rattle.debugging.specs.Answers.{Answers}
use Rattle.debugging.proofs.Lines.{stays}
use Rattle.debugging.proofs.session.Session.answer.Goals as goal

pub returns-in-Show-clause-answers : goal.returns-in-Show-clause-answers
returns-in-Show-clause-answers c = λ k asks.
    subst (λ (d : Command). IfOk c.answer_show.result (Answers c.args.packet.now d c.args.self.now c.args.self.now)) (sym c.in-Show.is ∙ c.read_command.ensures k asks) c.answer_show.ensures

pub returns-in-Change-clause-answers : goal.returns-in-Change-clause-answers
returns-in-Change-clause-answers c = λ k asks.
    subst (λ (d : Command). IfOk c.past.result (Answers c.args.packet.now d c.args.self.now c.args.self.now)) (sym c.in-Change.is ∙ c.read_command.ensures k asks) c.past.ensures

pub returns-in-Note-clause-answers : goal.returns-in-Note-clause-answers
returns-in-Note-clause-answers c = λ k asks.
    subst (λ (d : Command). IfOk c.answer_note.result (Answers c.args.packet.now d c.args.self.now c.answer_note.new.self)) (sym c.in-Note.is ∙ c.read_command.ensures k asks) c.answer_note.ensures.noted

pub returns-in-Note-clause-still : goal.returns-in-Note-clause-still
returns-in-Note-clause-still c = λ k asks still. absurd (subst IsStill (sym (sym c.in-Note.is ∙ c.read_command.ensures k asks)) still)

pub returns-in-Note-clause-line : goal.returns-in-Note-clause-line
returns-in-Note-clause-line c = stays _ _ c.answer_note.ensures.line

pub returns-in-Go-clause-answers : goal.returns-in-Go-clause-answers
returns-in-Go-clause-answers c = λ k asks.
    subst (λ (d : Command). IfOk c.lead.result (Answers c.args.packet.now d c.args.self.now c.lead.new.self)) (sym c.in-Go.is ∙ c.read_command.ensures k asks) c.lead.ensures.went

pub returns-in-Go-clause-still : goal.returns-in-Go-clause-still
returns-in-Go-clause-still c = λ k asks still. absurd (subst IsStill (sym (sym c.in-Go.is ∙ c.read_command.ensures k asks)) still)

pub returns-in-Other-clause-answers : goal.returns-in-Other-clause-answers
returns-in-Other-clause-answers c = λ k asks.
    subst (λ (d : Command). IfOk c.obey.result (Answers c.args.packet.now d c.args.self.now c.obey.new.self)) (sym c.in-Other.is ∙ c.read_command.ensures k asks) c.obey.ensures.answers

pub returns-in-Other-clause-still : goal.returns-in-Other-clause-still
returns-in-Other-clause-still c = λ k asks still. c.obey.ensures.still (subst IsStill (sym (sym c.in-Other.is ∙ c.read_command.ensures k asks)) still)
