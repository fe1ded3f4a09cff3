use Rattle.std.proofs.Common.{◌≡◌, ◌<◌, ◌+◌, ◌++◌, ◌∷◌, [], ℕ, List, length, slice_set, take, arith, ap, subst, sym, ◌∙◌}
use Rattle.std.proofs.lemmas.List.{length-replicate, length-set, take_more, take_all}
use Rattle.ft_types.specs.declared.output.Output.{Output}
use Rattle.ft_types.specs.declared.names.TheConstants.{HART_ROW}
use Rattle.pair.proofs.GoneOut.{AreFirst, none_first, first_still, first_more}
use Rattle.pair.proofs.beside.first_ones.Goals as goal
use Rattle.pair.proofs.beside.first_ones.Goals.{then-output-many, else-output-many}

pub loop-output-init : goal.loop-output-init
loop-output-init c = record { row = length-replicate {A = ℕ} HART_ROW 0; first = none_first HART_ROW _ }

pub loop-output-preserved : goal.loop-output-preserved
loop-output-preserved c =
    let released = c.args.released.now in
    let i = c.loop-output.output-index in
    let o = c.output-item.result in
    let more : take (i + 1) released ≡ take i released ++ o ∷ [] =
    take_more released i o (omega arith) ∙ ap (λ (x : Output). take i released ++ x ∷ []) (sym c.output-item.is) in
    let was = c.loop-output.invariant in
    elim c.if-output-many.branch [
      | then-output-many w ↦ record {
        row = ap length w.many-is ∙ length-set c.loop-output.many c.index-hart.result w.saturating_add.result ∙ was.row;
        first = subst (λ (ms : List ℕ). AreFirst (take (i + 1) released) ms) (sym w.many-is)
            (subst (λ (xs : List Output). AreFirst xs (slice_set c.loop-output.many c.index-hart.result w.saturating_add.result)) (sym more)
            (first_more c.loop-output.many (take i released) o c.index-hart.result w.saturating_add.result c.index-hart.ensures.value
            (omega (arith, c.index-hart.ensures.below, was.row)) w.if-output-many.true (let s = w.saturating_add in omega arith) was.first));
      }
      | else-output-many w ↦ record {
        row = ap length w.many-is ∙ was.row;
        first = subst (λ (ms : List ℕ). AreFirst (take (i + 1) released) ms) (sym w.many-is)
            (subst (λ (xs : List Output). AreFirst xs c.loop-output.many) (sym more) (first_still c.loop-output.many (take i released) o was.first));
      }
    ]

pub returns : goal.returns
returns c = subst (λ (xs : List Output). AreFirst xs c.loop-output.many) (take_all c.loop-output.output-index c.args.released.now (omega arith)) c.loop-output.invariant.first
