use Rattle.std.proofs.Common.{ℕ, List, ◌∷◌, ◌++◌, length, take, map, get_or, sym, ap, ◌∙◌, subst, ◌<◌, arith}
use Rattle.std.specs.Prelude.{codes, decimal}
use Rattle.wire.specs.Fields.{spelling}
use Rattle.wire.proofs.Rows.{counts_spelled}
use Rattle.wire.proofs.acknowledgements.acknowledgement_line.Goals as goal

pub loop-count-preserved : goal.loop-count-preserved
loop-count-preserved c =
    let a = c.args.acknowledgement.now in
    let at = c.loop-count.count-index in
    let row = c.as_slice-count-items.ensures.value in
    record {
      room = omega (arith, c.loop-count.invariant.room, c.push_number-in-loop-count.ensures.len);
      spelled = c.push_number-in-loop-count.ensures.bytes
          ∙ ap (λ (t : List ℕ). t ++ 32 ∷ decimal (get_or c.as_slice-count-items.result.now at 0)) c.loop-count.invariant.spelled
          ∙ sym (counts_spelled (codes "ack") (decimal a.term) (decimal a.keeper) a.counts at (subst (λ (ns : List ℕ). at < length ns) row c.loop-count-test.true)
          ∙ ap (λ (ns : List ℕ). spelling (codes "ack" ∷ decimal a.term ∷ decimal a.keeper ∷ map decimal (take at a.counts)) ++ 32 ∷ decimal (get_or ns at 0)) (sym row));
    }
