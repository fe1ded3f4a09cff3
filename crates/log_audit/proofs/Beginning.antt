-- Where the run of a leg begins.
use Rattle.std.proofs.Common.{◌≡◌, inl, inr, ℕ, zero, suc, ◌≤◌, List, [], All, Contains, length, replicate, slice_index, slice_index_or, refl, ap, subst, ◌∙◌, arith}
use Rattle.std.proofs.lemmas.Bool.{cases_lt}
use Rattle.std.proofs.lemmas.List.{get_or-replicate, get_or_past, length-replicate}
use Rattle.ft_types.specs.Counts.{count_at}
use Rattle.interleaving.specs.Log.{Edge}
use Rattle.ft_types.specs.declared.names.TheConstants.{HART_ROW}
use Rattle.edge_log.specs.EdgeLog.{IsOfHart, row_of}
use Rattle.guest_image.specs.Machine.{MachineState}
use Rattle.hart_lease.specs.Runs.{counts_of}
use Rattle.hart_replay.specs.declared.plans.PlannedLeg.{PlannedLeg}
use Rattle.hart_replay.specs.Plans.{IsLeg, log_of}
use Rattle.log_audit.specs.declared.marks.Uses.{Uses}
use Rattle.log_audit.specs.declared.befores.Before.{Before as Entry}
use Rattle.log_audit.specs.machinery.Befores.{row_of as row_of_entries}
use Rattle.log_audit.specs.machinery.Marks.{unmarked, unused, read_mark, written_mark}
use Rattle.log_audit.specs.machinery.Covered.{IsCovered, IsOn, begun}
use Rattle.log_audit.proofs.Agreeing.{from_start}
use Rattle.log_audit.proofs.Knowing.{known_none}

zero_at : (g : ℕ) → slice_index (replicate HART_ROW 0) g ≡ 0
zero_at g = elim (cases_lt g HART_ROW) [
  | inl lt ↦ get_or-replicate HART_ROW g 0 0 lt
  | inr ge ↦ get_or_past (replicate HART_ROW 0) g 0 ge
]

all_unused : (n page : ℕ) → slice_index_or (replicate n unused) page unused ≡ unused
all_unused n page = elim (cases_lt page n) [
  | inl lt ↦ get_or-replicate n page unused unused lt
  | inr ge ↦
      let many : length (replicate n unused) ≡ n = length-replicate {A = Uses} n unused in
      get_or_past (replicate n unused) page unused (omega (arith, ge, many))
]

unread : (pages : List (List ℕ)) (page hart : ℕ) → read_mark (unmarked pages) page hart ≡ 0
unread pages page hart = ap (λ (u : Uses). slice_index u.read hart) (all_unused (length pages) page) ∙ zero_at hart

unwritten : (pages : List (List ℕ)) (page hart : ℕ) → written_mark (unmarked pages) page hart ≡ 0
unwritten pages page hart = ap (λ (u : Uses). slice_index u.written hart) (all_unused (length pages) page) ∙ zero_at hart

no_entry : (n hart : ℕ) (b : Entry) → Contains (row_of_entries (replicate n []) hart) b → ⊥
no_entry zero hart b (k, lt, is) = absurd (omega (arith, lt))
no_entry (suc n) zero b (k, lt, is) = absurd (omega (arith, lt))
no_entry (suc n) (suc hart) b there = no_entry n hart b there

module _ (leg : PlannedLeg) (m : MachineState) (is_leg : IsLeg (length m.harts) leg) (base : (hart : ℕ) → count_at leg.base hart ≡ counts_of m hart)
    (own : (hart : ℕ) → All (IsOfHart leg.edges.start hart) (row_of leg.edges hart)) where
  later : (e : Edge) → Contains (log_of leg).edges e → counts_of m e.hart ≤ e.step
  later e there = subst (λ (n : ℕ). n ≤ e.step) (base e.hart) (from_start leg (length m.harts) is_leg own e there)

  nothing_yet : IsCovered leg [] (counts_of m) (begun m)
  nothing_yet =
      record {
        begins = tt;
        run = refl;
        pages = refl;
        harts = refl;
        counts = base;
        ordered = tt;
        noted = tt;
        read_marks = λ page hart. inl (unread m.pages page hart);
        written_marks = λ page hart. inl (unwritten m.pages page hart);
        wide = λ hart b there. absurd (no_entry HART_ROW hart b there);
        known = known_none (log_of leg).edges (counts_of m) later;
      }

  pub begun_on : IsOn leg (begun m)
  begun_on = ([], nothing_yet)
