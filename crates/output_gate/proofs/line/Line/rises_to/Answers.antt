use Rattle.std.proofs.Common.{◌≡◌, ◌∙◌, ◌-◌, ℕ, List, take, drop, length, ap, subst, arith}
use Rattle.std.specs.Prelude.{Some, slice_get}
use Rattle.std.proofs.lemmas.Bool.{leb-true}
use Rattle.std.proofs.lemmas.List.{take_all, length-drop}
use Rattle.ft_types.specs.declared.output.Output.{Output}
use Rattle.output_gate.specs.Gates.{LineView}
use Rattle.output_gate.specs.Orders.{AreInLine}
use Rattle.output_gate.proofs.Moves.{up_to}
use Rattle.output_gate.proofs.line.Line.rises_to.Goals as goal

pub returns-then-self : goal.returns-then-self
returns-then-self c = λ t.
    let r : ℕ = c.self.inside.released in
    let xs : List Output = c.as_slice.result.now in
    let waits : drop r c.self.inside.offered.items ≡ c.args.self.now.waiting = ap (λ (l : LineView). l.waiting) c.self.view_is in
    let line : AreInLine c.args.self.now.waiting = subst AreInLine waits (c.self.invariant.1 c.if-self.true) in
    let all : take (length xs - r) (drop r xs) ≡ drop r xs = take_all (length xs - r) (drop r xs) (let long = length-drop r xs in omega arith) in
    let same : take (length xs - r) (drop r xs) ≡ c.args.self.now.waiting = all ∙ ap (drop r) c.as_slice.ensures.value ∙ waits in
    let last : Some c.in-Some.last.now ≡ slice_get c.args.self.now.waiting (length c.args.self.now.waiting - 1)
    = subst (λ (l : List Output). Some c.in-Some.last.now ≡ slice_get l (length l - 1)) same c.in-Some.ensures.value in
    (line, up_to c.args.step c.args.self.now.waiting c.in-Some.last.now line last (leb-true c.in-Some.last.now.step c.args.step t))
