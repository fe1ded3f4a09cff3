use Rattle.std.proofs.Common.{◌≡◌, ℕ, ◌<◌, ◌≤◌, List, [], slice_index_or, ◌∙◌, ap, sym, subst, arith}
use Rattle.std.proofs.lemmas.List.{get_or_read}
use mathlib.Core.Logic.{dite}
use native.Mathlib.Decide.{ℕ_discrete, dec_lt}
use Rattle.ft_types.specs.Counts.{count_at}
use Rattle.output_gate.specs.Gates.{GateView, noted_at}
use Rattle.term_gate.proofs.Tables.{no_row}
use Rattle.term_gate.proofs.acked.note_all.Goals as goal

pub note_row-requires-clause-below : goal.note_row-requires-clause-below
note_row-requires-clause-below c hart =
    let number : ℕ = c.loop-number.number in let is : c.new.result ≡ number = c.new.ensures in
    let row : c.index-rows-number.result ≡ slice_index_or c.args.rows.now number [] =
    get_or_read c.args.rows.now number c.index-rows-number.result (omega arith) c.index-rows-number.is [] in
    let left : noted_at c.loop-number.gate number hart ≡ noted_at c.args.gate.now number hart = c.loop-number.invariant.left number hart (omega arith) in
    let bound : noted_at c.args.gate.now number hart ≤ count_at (slice_index_or c.args.rows.now number []) hart = c.requires.below number hart in
    let now : noted_at c.loop-number.gate number hart ≤ count_at (slice_index_or c.args.rows.now number []) hart = omega arith in
    subst (λ (k : ℕ). noted_at c.loop-number.gate k hart ≤ count_at c.index-rows-number.result hart) (sym is)
    (subst (λ (row : List ℕ). noted_at c.loop-number.gate number hart ≤ count_at row hart) (sym row) now)

pub loop-number-preserved : goal.loop-number-preserved
loop-number-preserved c =
    let i = c.loop-number.invariant in let n = c.note_row.ensures in let x : ℕ = c.new.result in let number : ℕ = c.loop-number.number in
    let is : x ≡ number = c.new.ensures in
    let row : c.index-rows-number.result ≡ slice_index_or c.args.rows.now number [] =
    get_or_read c.args.rows.now number c.index-rows-number.result (omega arith) c.index-rows-number.is [] in record {
      keepers = i.keepers ∙ sym (ap (λ (v : GateView). v.keepers) n.rest);
      noted = λ k hart below. dite (ℕ_discrete k x)
          (λ q. subst (λ (z : ℕ). noted_at c.note_row.new.gate z hart ≡ count_at (slice_index_or c.args.rows.now z []) hart) (sym q)
          (n.noted hart ∙ ap (λ (row : List ℕ). count_at row hart) (row ∙ ap (λ (z : ℕ). slice_index_or c.args.rows.now z []) (sym is))))
          (λ ne. n.others k hart ne ∙ i.noted k hart (omega arith));
      left = λ k hart from. n.others k hart (λ q. absurd (omega arith)) ∙ i.left k hart (omega arith);
      rest = n.rest ∙ ap (λ (v : GateView). record v { noted = c.note_row.new.gate.noted }) i.rest;
    }

pub returns-clause-noted : goal.returns-clause-noted
returns-clause-noted c k hart =
    let i = c.loop-number.invariant in let number : ℕ = c.loop-number.number in
    dite (dec_lt k number)
    (λ (lt : k < number). i.noted k hart lt)
    (λ (ge : k < number → ⊥).
    let left : noted_at c.loop-number.gate k hart ≡ noted_at c.args.gate.now k hart = i.left k hart (omega arith) in
    let none : count_at (slice_index_or c.args.rows.now k []) hart ≡ 0 = no_row c.args.rows.now k hart (omega arith) in
    let bound : noted_at c.args.gate.now k hart ≤ count_at (slice_index_or c.args.rows.now k []) hart = c.requires.below k hart in omega arith)
