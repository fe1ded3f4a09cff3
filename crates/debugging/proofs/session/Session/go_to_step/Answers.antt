use Rattle.std.proofs.Common.{inl, refl, Some}
use Rattle.debugging.specs.Sessions.{SessionView}
use Rattle.debugging.proofs.Reporting.{stayed}
use Rattle.debugging.proofs.session.Session.go_to_step.Goals as goal

pub returns-then-not-branch-clause-went : goal.returns-then-not-branch-clause-went
returns-then-not-branch-clause-went c =
    let none = c.in_ok-go_to_count.ensures.none c.if-not-branch.true in
    let s : SessionView = record { line = c.self.inside.line; shown = c.self.inside.shown; led = c.self.inside.led; points = c.self.inside.points.items } in
    rw (c.in-Some.is, ← c.self.view_is) (stayed c.stay-then-not-branch.result c.args.hart (Some c.in-Some.count) c.args.now s c.stay-then-not-branch.new.self
    c.args.text.now.items c.stay-then-not-branch.new.text.items none.1 c.stay-then-not-branch.ensures.there c.stay-then-not-branch.ensures.told)

pub returns-clause-went : goal.returns-clause-went
returns-clause-went c =
    let place = c.in_ok-put_place.ensures in
    let there = c.if-not-branch.false in
    rw (c.in-Some.is, ← c.self.view_is) (place.0, place.1, inl (c.in-Some.count, refl, record { has = c.in_ok-go_to_count.ensures.there there; fewer = c.in_ok-go_to_count.ensures.first there }, refl, place.2))
