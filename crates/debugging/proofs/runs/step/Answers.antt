use Rattle.debugging.proofs.Going.{stepped_first, stepped_none}
use Rattle.debugging.proofs.runs.step.Goals as goal

pub returns-then-is_led-clause-went : goal.returns-then-is_led-clause-went
returns-then-is_led-clause-went c =
    rw c.arrived.ensures (stepped_first _ _ _ _ c.count_of-count.ensures.value
    (record { has = c.in_ok-is_led.ensures.there c.if-is_led.true; fewer = c.in_ok-is_led.ensures.first c.if-is_led.true }))

pub returns-clause-went : goal.returns-clause-went
returns-clause-went c =
    let none = c.in_ok-is_led.ensures.none c.if-is_led.false in rw c.arrived-2.ensures (stepped_none _ _ _ _ c.count_of-count.ensures.value none.0 none.1)
