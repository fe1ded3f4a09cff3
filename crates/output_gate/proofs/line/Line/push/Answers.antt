use Rattle.std.proofs.Common.{◌≡◌, ◌≤◌, ℕ, ◌∙◌, List, [], ◌∷◌, ◌++◌, drop, length, length-append, ap, sym, subst, arith}
use Rattle.std.proofs.lemmas.List.{drop-append-le}
use Rattle.ft_types.specs.declared.output.Output.{Output}
use Rattle.output_gate.specs.Gates.{LineView}
use Rattle.output_gate.specs.Orders.{AreInLine}
use Rattle.output_gate.proofs.Gates.{line-more}
use Rattle.output_gate.proofs.line.Line.push.Goals as goal

pub invariant_of-self-2 : goal.invariant_of-self-2
invariant_of-self-2 c =
    let r : ℕ = c.self.inside.released in
    let xs : List Output = c.self.inside.offered.items in
    let x : Output = c.args.output in
    let waits : drop r xs ≡ c.args.self.now.waiting = ap (λ (l : LineView). l.waiting) c.self.view_is in
    let one : c.push-2.new.self.items ≡ xs ++ x ∷ [] = c.in_ok-push-2.ensures.items in
    let within : r ≤ length xs = c.self.invariant.0 in
    let long = ap length one ∙ length-append xs (x ∷ []) in (
      omega arith,
      λ t. subst AreInLine (ap (λ (l : List Output). l ++ x ∷ []) (sym waits) ∙ sym (ap (drop r) one ∙ drop-append-le r xs (x ∷ []) within))
          (line-more c.args.self.now.waiting x (c.rises_to-rises.ensures t).0 c.requires.1 (c.rises_to-rises.ensures t).1),
      c.self.invariant.2,
      c.self.invariant.3,
    )
