use Rattle.std.proofs.Common.{sym, ◌∙◌}
use Rattle.debugging.proofs.Asking.{change_asked, show_asked, note_asked, other_asked, way_asked, unknown_asked}
use Rattle.debugging.proofs.commands.read_command.Goals as goal

pub returns-in-Shows : goal.returns-in-Shows
returns-in-Shows c = λ k asks. show_asked c.args.packet.now c.in-Some.first c.in-Some.rest.now k c.read_show.result c.in-Some.ensures.some (sym c.kind_of.ensures ∙ c.in-Shows.is)
    c.read_show.ensures.why c.read_show.ensures.registers c.read_show.ensures.register c.read_show.ensures.memory asks

pub returns-in-Changes : goal.returns-in-Changes
returns-in-Changes c = λ k asks. change_asked c.args.packet.now c.in-Some.first c.in-Some.rest.now k c.in-Some.ensures.some (sym c.kind_of.ensures ∙ c.in-Changes.is) asks

pub returns-in-Notes : goal.returns-in-Notes
returns-in-Notes c = λ k asks. note_asked c.args.packet.now c.in-Some.first c.in-Some.rest.now k c.read_note.result c.in-Some.ensures.some (sym c.kind_of.ensures ∙ c.in-Notes.is)
    c.read_note.ensures.choose c.read_note.ensures.there c.read_note.ensures.insert c.read_note.ensures.remove asks

pub returns-in-Asks : goal.returns-in-Asks
returns-in-Asks c = λ k asks. other_asked c.args.packet.now c.in-Some.first c.in-Some.rest.now k c.read_other.result c.in-Some.ensures.some (sym c.kind_of.ensures ∙ c.in-Asks.is)
    c.read_other.ensures.query c.read_other.ensures.detach c.read_other.ensures.kill asks

pub returns-in-Goes : goal.returns-in-Goes
returns-in-Goes c = λ k asks. way_asked c.args.packet.now c.in-Some.first c.in-Some.rest.now k c.read_way.result c.in-Some.ensures.some (sym c.kind_of.ensures ∙ c.in-Goes.is)
    c.read_way.ensures asks

pub returns-in-Nothing : goal.returns-in-Nothing
returns-in-Nothing c = λ k asks. unknown_asked c.args.packet.now c.in-Some.first c.in-Some.rest.now k c.in-Some.ensures.some (sym c.kind_of.ensures ∙ c.in-Nothing.is) asks
