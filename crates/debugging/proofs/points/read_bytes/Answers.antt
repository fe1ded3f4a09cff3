use Rattle.std.proofs.Common.{◌≡◌, ℕ, List, [], sym, subst, ◌∙◌}
use Rattle.debugging.specs.Asked.{HasNone, IsRange}
use Rattle.debugging.proofs.Digits.{cut_is, uncut_is}
use Rattle.debugging.proofs.points.read_bytes.Goals as goal

pub returns-then-is : goal.returns-then-is
returns-then-is c = λ range address many is one r.
    let a = cut_is 44 c.args.text.now c.cut.result.0.now c.cut.result.1.now [] range c.cut.ensures.one c.cut.ensures.all tt is in
    let none : HasNone 59 c.cut.result.1.now = subst (λ (t : List ℕ). HasNone 59 t) (sym a.1) one in
    let b = uncut_is 59 c.cut.result.1.now c.cut-2.result.0.now c.cut-2.result.1.now none c.cut-2.ensures.all in
    c.read_range.ensures address many (subst (λ (t : List ℕ). IsRange t address many) (sym (b.0 ∙ a.1)) r)

pub returns : goal.returns
returns c = λ range address many is one r.
    let a = cut_is 44 c.args.text.now c.cut.result.0.now c.cut.result.1.now [] range c.cut.ensures.one c.cut.ensures.all tt is in
    let yes = c.is.ensures.1 a.0 in let no = c.if-is.false in absurd cc
