use Rattle.std.proofs.Common.{ℕ, List, refl, subst}
use Rattle.moments.specs.declared.points.Point.{Point}
use Rattle.debugging.specs.Ways.{Goes}
use Rattle.debugging.proofs.session.Session.go.Goals as goal

pub returns-clause-went : goal.returns-clause-went
returns-clause-went c = λ hart led.
    let went = subst (λ (points : List Point). Goes c.args.way points c.led_by-hart.result c.self.inside.line c.go.new.line c.in_ok-arrival.arrival)
    c.deref.ensures.value c.in_ok-arrival.ensures.went in
    rw (← c.self.view_is) (
      c.in_ok-arrival.arrival,
      subst (λ (h : ℕ). Goes c.args.way c.self.inside.points.items h c.self.inside.line c.go.new.line c.in_ok-arrival.arrival) (c.led_by-hart.ensures hart led) went,
      refl,
      c.in_ok-stop_text.ensures,
    )
