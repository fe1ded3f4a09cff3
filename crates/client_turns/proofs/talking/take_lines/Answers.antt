use Rattle.std.proofs.Common.{◌≡◌, ◌∷◌, ◌+◌, ℕ, List, drop, Option, None, Some, subst, arith}
use Rattle.std.proofs.lemmas.List.{drop_all}
use Rattle.client_turns.specs.Turns.{TakesLine}
use Rattle.client_turns.specs.declared.deeds.ClientEnd.{ClientEnd}
use Rattle.client_turns.proofs.Steps.{HasTaken, taken_one, taken_last, taken_all, next_line}
use Rattle.client_turns.proofs.talking.take_lines.Goals as goal

pub returns-in-Some : goal.returns-in-Some
returns-in-Some c =
    let at = c.loop-line in
    let rest = drop (at.line-index + 1) c.args.lines.now in
    let text = c.as_slice.result.now in
    let next = next_line c.args.lines.now at.line-index text c.line-item.result c.loop-line-test.true c.line-item.is c.as_slice.ensures in
    taken_last c.args.talk.now at.talk c.take_line.new.talk c.args.deeds.now.items at.deeds.items c.take_line.new.deeds.items c.in_ok-end.ensures.0 c.args.lines.now rest
    text c.in-Some.end
    (subst (λ (lines : List (List ℕ)). HasTaken c.args.talk.now at.talk c.args.deeds.now.items at.deeds.items c.args.lines.now lines) next at.invariant)
    (subst (λ (end : Option ClientEnd). TakesLine text at.talk c.take_line.new.talk c.in_ok-end.ensures.0 end) c.in-Some.is c.in_ok-end.ensures.1) c.in_ok-end.ensures.2

pub loop-line-preserved : goal.loop-line-preserved
loop-line-preserved c =
    let at = c.loop-line in
    let rest = drop (at.line-index + 1) c.args.lines.now in
    let text = c.as_slice.result.now in
    let next = next_line c.args.lines.now at.line-index text c.line-item.result c.loop-line-test.true c.line-item.is c.as_slice.ensures in
    taken_one c.args.talk.now at.talk c.take_line.new.talk c.args.deeds.now.items at.deeds.items c.take_line.new.deeds.items c.in_ok-end.ensures.0 c.args.lines.now rest
    text
    (subst (λ (lines : List (List ℕ)). HasTaken c.args.talk.now at.talk c.args.deeds.now.items at.deeds.items c.args.lines.now lines) next at.invariant)
    (subst (λ (end : Option ClientEnd). TakesLine text at.talk c.take_line.new.talk c.in_ok-end.ensures.0 end) c.in_default.is c.in_ok-end.ensures.1) c.in_ok-end.ensures.2

pub returns : goal.returns
returns c =
    let at = c.loop-line in
    taken_all c.args.talk.now at.talk c.args.deeds.now.items at.deeds.items c.args.lines.now
    (subst (λ (rest : List (List ℕ)). HasTaken c.args.talk.now at.talk c.args.deeds.now.items at.deeds.items c.args.lines.now rest)
    (drop_all at.line-index c.args.lines.now (omega (arith, c.loop-line-test.false))) at.invariant)
