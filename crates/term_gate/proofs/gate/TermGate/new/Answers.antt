use Rattle.std.proofs.Common.{ℕ, List, [], length, get_or, replicate, sym, ap, ◌∙◌, arith}
use Rattle.std.proofs.lemmas.List.{length-replicate, get_or-replicate}
use Rattle.term_gate.proofs.gate.TermGate.new.Goals as goal

pub invariant_of-result : goal.invariant_of-result
invariant_of-result c =
    let parts = c.new_after.ensures.parts in
    let rows = c.in_ok-acked.ensures in
    let row : List ℕ = replicate c.args.harts 0 in
    let many = ap length rows ∙ length-replicate c.args.keepers row in
    record {
      term = sym parts.0;
      keepers = many ∙ sym parts.1;
      few = omega (arith, many, c.requires.quorum);
      wide = λ keeper below.
          ap (λ (table : List (List ℕ)). length (get_or table keeper [])) rows
          ∙ ap length (get_or-replicate c.args.keepers keeper row [] (omega (arith, many, below)))
          ∙ length-replicate c.args.harts 0;
      below = λ keeper hart. omega (arith, c.new_after.ensures.noted keeper hart);
    }
