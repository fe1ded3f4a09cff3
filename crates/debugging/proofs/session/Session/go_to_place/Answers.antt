use Rattle.debugging.proofs.Reporting.{went_there}
use Rattle.debugging.proofs.session.Session.go_to_place.Goals as goal

pub returns-in-Some-clause-went : goal.returns-in-Some-clause-went
returns-in-Some-clause-went c =
    went_there c.go_to_step.result c.args.words.now c.args.text.now.items c.go_to_step.new.text.items c.harts.result c.in-Some.hart c.in-Some.count _ _ c.now-now.result
    c.args.self.now c.go_to_step.new.self c.read_place.result c.in-Some.is c.read_place.ensures (rw (← c.self.view_is) c.harts.ensures.value)
    (rw (← c.self.view_is) c.now-now.ensures.value) c.go_to_step.ensures.went (let e = c.in-Some.hart-is in cc) (let e = c.in-Some.count-is in cc)
