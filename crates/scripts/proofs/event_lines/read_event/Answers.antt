use Rattle.std.proofs.Common.{◌≡◌, ◌++◌, ◌∷◌}
use Rattle.scripts.specs.Events.{AreNumbers, spaced_numbers}
use Rattle.scripts.proofs.Found.{if_none_map, from_none, from_some, never}
use Rattle.scripts.proofs.Names.{no_numbers, says_nothing}
use Rattle.scripts.proofs.event_lines.read_event.Goals as goal

pub returns-in-Some-2-clause-none : goal.returns-in-Some-2-clause-none
returns-in-Some-2-clause-none c =
    let text = from_some c.cut.result.1 c.in-Some.behind (λ b. c.args.text.now ≡ c.cut.result.0.now ++ 32 ∷ b.now) c.in-Some.is c.cut.ensures.some in
    let numbers = from_some c.in_ok-numbers.field-0 c.in-Some-2.numbers (λ v. AreNumbers v.items × (32 ∷ c.in-Some.behind.now ≡ spaced_numbers v.items))
    c.in-Some-2.is c.in_ok-numbers.ensures.found in
    if_none_map c.event_of.result (λ nothing. says_nothing c.args.harts c.args.text.now c.cut.result.0.now c.in-Some.behind.now c.in-Some-2.numbers.items
    c.cut.ensures.one text (λ e. never (c.if-is.ensures.1 e)) numbers.0 numbers.1 nothing) c.event_of.ensures.none

pub returns-in-None-clause-none : goal.returns-in-None-clause-none
returns-in-None-clause-none c =
    let text = from_some c.cut.result.1 c.in-Some.behind (λ b. c.args.text.now ≡ c.cut.result.0.now ++ 32 ∷ b.now) c.in-Some.is c.cut.ensures.some in
    no_numbers c.args.harts c.args.text.now c.cut.result.0.now c.in-Some.behind.now c.cut.ensures.one text (λ e. never (c.if-is.ensures.1 e))
    (from_none c.in_ok-numbers.field-0 _ c.in-None.is c.in_ok-numbers.ensures.none)
