use Rattle.std.proofs.Common.{◌≡◌, inl, inr, ℕ, zero, suc, List, length, replicate, slice_index_or, refl, sym, ap, ◌∙◌, arith}
use Rattle.std.proofs.lemmas.Bool.{cases_lt}
use Rattle.std.proofs.lemmas.List.{get_or_past, length-replicate}
use Rattle.ft_types.specs.declared.names.TheConstants.{HART_ROW}
use Rattle.output_gate.specs.Gates.{LineView, fresh_line}
use Rattle.output_gate.proofs.Gates.{no_line}
use Rattle.output_gate.proofs.gate.lines_after.Goals as goal

none_at : (n hart : ℕ) → slice_index_or (replicate n no_line) hart no_line ≡ no_line
none_at zero hart = refl
none_at (suc n) zero = refl
none_at (suc n) (suc hart) = none_at n hart

pub loop-number-init : goal.loop-number-init
loop-number-init c =
    record {
      harts = ap length c.no_lines-lines.ensures ∙ length-replicate {A = LineView} HART_ROW no_line;
      done = λ hart less. absurd (omega (arith, less));
      left = λ hart le. ap (λ (lines : List LineView). slice_index_or lines hart no_line) c.no_lines-lines.ensures ∙ none_at HART_ROW hart;
    }

pub returns-clause-each : goal.returns-clause-each
returns-clause-each c hart =
    elim (cases_lt hart c.loop-number.number) [
      | inl less ↦ c.loop-number.invariant.done hart less
      | inr over ↦
          let end = c.loop-number-test.false in
          let many = c.harts-number-end.ensures.value in
          c.loop-number.invariant.left hart over ∙ ap fresh_line (sym (get_or_past c.args.marks.now hart 0 (omega (arith, over, end, many))))
    ]
