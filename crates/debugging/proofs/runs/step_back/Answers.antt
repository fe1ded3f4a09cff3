use Rattle.std.proofs.Common.{refl, sym, ◌∙◌, arith}
use Rattle.debugging.specs.Sessions.{IsFirstWith}
use Rattle.debugging.proofs.Lines.{before_step}
use Rattle.debugging.proofs.Going.{back_led, back_none, back_begun, is_some_moment}
use Rattle.debugging.proofs.runs.step_back.Goals as goal

pub returns-then-count-eq0-clause-went : goal.returns-then-count-eq0-clause-went
returns-then-count-eq0-clause-went c = rw c.arrived.ensures (back_none _ _ _ _ c.count_of-count.ensures.value refl c.if-count-eq0.true)

pub returns-then-now-eq0-clause-went : goal.returns-then-now-eq0-clause-went
returns-then-now-eq0-clause-went c =
    rw c.arrived-then-now-eq0.ensures (back_begun _ _ _ _ _ c.in_ok-is_there.is_there c.count_of-count.ensures.value (sym c.now-now.ensures.value ∙ c.if-now-eq0.true)
    (λ yes. record { has = c.in_ok-is_there.ensures.there yes; fewer = c.in_ok-is_there.ensures.first yes }) c.in_ok-is_there.ensures.none c.now-now.ensures.at)

pub returns-then-is_there-clause-went : goal.returns-then-is_there-clause-went
returns-then-is_there-clause-went c =
    let first : IsFirstWith c.go_to_count.new.self c.args.hart c.count_of-count.result =
    record { has = c.in_ok-is_there.ensures.there c.if-is_there.true; fewer = c.in_ok-is_there.ensures.first c.if-is_there.true } in
    rw c.arrived-then-is_there.ensures (back_led _ _ _ _ c.count_of-count.ensures.value
    (before_step c.go_to_count.new.self c.go_to.new.self c.args.hart c.count_of-count.result c.now-now.result first c.go_to.ensures.line c.now-now.ensures.value (omega (arith, c.in_ok-go_to.ensures.there, c.if-now-eq0.false))))

pub returns-clause-went : goal.returns-clause-went
returns-clause-went c =
    absurd (is_some_moment _ _ _ _ _ c.count_of-count.ensures.value (c.in_ok-is_there.ensures.none c.if-is_there.false) c.now-now.ensures.at)
