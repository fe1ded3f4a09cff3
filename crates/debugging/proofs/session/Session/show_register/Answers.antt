use Rattle.std.specs.Prelude.{option_map}
use Rattle.debugging.specs.Shown.{word_digits, register_at, or_wrong}
use Rattle.debugging.proofs.Showing.{shown_of, not_there}
use Rattle.debugging.proofs.session.Session.show_register.Goals as goal

pub returns-in-Some : goal.returns-in-Some
returns-in-Some c = shown_of (λ t. t.items) c.register_text.result c.args.self.now c.in-Some.hart.now (λ h. or_wrong (option_map word_digits (register_at h c.args.number)))
    c.in-Some.ensures.some c.register_text.ensures

pub returns-in_ok-to_vec-in-None : goal.returns-in_ok-to_vec-in-None
returns-in_ok-to_vec-in-None c = λ h shown. absurd (not_there c.args.self.now.line.stands.machine.harts c.args.self.now.shown h c.in-None.ensures.none shown)
