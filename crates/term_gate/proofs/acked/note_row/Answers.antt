use Rattle.std.proofs.Common.{◌≡◌, inl, inr, ℕ, ◌<◌, ◌≤◌, max, ◌∙◌, ap, sym, subst, arith}
use Rattle.std.proofs.lemmas.List.{get_or_past}
use mathlib.Core.Logic.{dite}
use native.Mathlib.Decide.{ℕ_discrete, dec_lt}
use Rattle.ft_types.specs.Counts.{count_at}
use Rattle.output_gate.specs.Gates.{GateView, noted_at}
use Rattle.term_gate.proofs.acked.note_row.Goals as goal

pub loop-number-preserved : goal.loop-number-preserved
loop-number-preserved c =
    let i = c.loop-number.invariant in let n = c.note.ensures in let keeper : ℕ = c.args.keeper in let x : ℕ = c.new-hart.result in
    let number : ℕ = c.loop-number.number in let is : x ≡ number = c.new-hart.ensures in
    let old : noted_at c.loop-number.gate keeper x ≡ noted_at c.args.gate.now keeper x = i.left x (omega arith) in
    let bound : noted_at c.args.gate.now keeper x ≤ count_at c.args.row.now x = c.requires.below x in
    let count : c.get.result ≡ count_at c.args.row.now x = c.get.ensures.value in
    let greatest : noted_at c.note.new.self keeper x ≡ max (noted_at c.loop-number.gate keeper x) c.get.result = n.greatest in
    let top : noted_at c.note.new.self keeper x ≡ count_at c.args.row.now x = omega arith in record {
      own = subst (λ (v : GateView). keeper < v.keepers) (sym n.rest) i.own;
      noted = λ hart below. dite (ℕ_discrete hart x)
          (λ q. subst (λ (h : ℕ). noted_at c.note.new.self keeper h ≡ count_at c.args.row.now h) (sym q) top)
          (λ ne. n.others keeper hart (inr ne) ∙ i.noted hart (omega arith));
      left = λ hart from. n.others keeper hart (inr (λ q. absurd (omega arith))) ∙ i.left hart (omega arith);
      others = λ k hart ne. n.others k hart (inl ne) ∙ i.others k hart ne;
      rest = n.rest ∙ ap (λ (v : GateView). record v { noted = c.note.new.self.noted }) i.rest;
    }

pub returns-clause-noted : goal.returns-clause-noted
returns-clause-noted c hart =
    let i = c.loop-number.invariant in let number : ℕ = c.loop-number.number in
    dite (dec_lt hart number)
    (λ (lt : hart < number). i.noted hart lt)
    (λ (ge : hart < number → ⊥).
    let left : noted_at c.loop-number.gate c.args.keeper hart ≡ noted_at c.args.gate.now c.args.keeper hart = i.left hart (omega arith) in
    let none : count_at c.args.row.now hart ≡ 0 = get_or_past c.args.row.now hart 0 (omega arith) in
    let bound : noted_at c.args.gate.now c.args.keeper hart ≤ count_at c.args.row.now hart = c.requires.below hart in omega arith)
