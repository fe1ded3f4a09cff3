use Rattle.std.proofs.Common.{◌≡◌, ◌≤◌, inl, inr, get_or, subst, sym, ap, arith}
use Rattle.std.specs.List.{AllWithin}
use Rattle.std.proofs.lemmas.Bool.{cases_lt}
use Rattle.ft_types.specs.Counts.{count_at}
use Rattle.edge_log.specs.declared.Edge.{Edge}
use Rattle.closed_cut.proofs.Lowerings.{met_below}
use Rattle.closed_cut.proofs.lowering.unmet_hart.Goals as goal
use Rattle.closed_cut.proofs.lowering.unmet_hart.Goals.{else-end-gt0-via-then-end-gt0+else-get-edges, else-end-gt0-via-else-end-gt0}

pub loop-number-preserved : goal.loop-number-preserved
loop-number-preserved c h less =
    elim (cases_lt h c.loop-number.number) [
      | inl before ↦ c.loop-number.invariant h before
      | inr from ↦
          let at : h ≡ c.index.result = omega arith in
          let same : c.index.result ≡ c.new-hart.result = omega arith in
          let long : get_or c.args.ends.now c.index.result 0 ≤ _ = c.requires.ends c.index.result in
          subst (λ h. AllWithin (λ e. e.after ≤ count_at c.args.cut h) c.args.edges.now 0 (get_or c.args.ends.now h 0)) (sym at)
          (elim c.else-end-gt0.branch [
            | else-end-gt0-via-then-end-gt0+else-get-edges w ↦
                let is : count_at c.args.cut c.index.result ≡ count_at c.args.cut c.new-hart.result = ap (count_at c.args.cut) same in
                let here : w.index-edges-end.result.after ≡ _ = ap (λ (e : Edge). e.after) w.index-edges-end.is in
                let le : w.index-edges-end.result.after ≤ count_at c.args.cut c.index.result = omega arith in
                met_below c.args.edges.now (count_at c.args.cut c.index.result) (get_or c.args.ends.now c.index.result 0) w.index-edges-end.result
                c.requires.sorted w.if-end-gt0.true long w.index-edges-end.is le
            | else-end-gt0-via-else-end-gt0 w ↦ λ k d a b. absurd (omega arith)
          ])
    ]
