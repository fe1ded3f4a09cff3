use Rattle.debugging.specs.Shown.{registers_text}
use Rattle.debugging.proofs.Showing.{shown_of, not_there}
use Rattle.debugging.proofs.session.Session.show_registers.Goals as goal

pub returns-in-Some : goal.returns-in-Some
returns-in-Some c = shown_of (λ t. t.items) c.registers_text.result c.args.self.now c.in-Some.hart.now registers_text c.in-Some.ensures.some c.registers_text.ensures

pub returns-in_ok-to_vec-in-None : goal.returns-in_ok-to_vec-in-None
returns-in_ok-to_vec-in-None c = λ h shown. absurd (not_there c.args.self.now.line.stands.machine.harts c.args.self.now.shown h c.in-None.ensures.none shown)
