-- Whether a hart may go, from what its log has at its count.
use Rattle.std.proofs.Common.{◌≡◌, inl, inr, ℕ, ◌-◌, ◌<◌, ◌≤◌, ◌==◌, ◌↔◌, Bool, true, false, List, length, filter, All, Contains, slice_get, slice_index_or, Option, Some, IsTrue, ap, sym, subst, ◌∙◌, arith}
use Rattle.std.proofs.lemmas.Bool.Decides.{eqb_tells}
use Rattle.std.proofs.lemmas.List.{get_or_default}
use Rattle.std.proofs.lemmas.List.Elements.{All-contains}
use Rattle.ft_types.specs.Counts.{count_at}
use Rattle.interleaving.specs.Log.{Edge as TheoryEdge, IsMet}
use Rattle.edge_log.specs.declared.Edge.{Edge}
use Rattle.edge_log.specs.EdgeLog.{IsLog, row_of, edge_as}
use Rattle.edge_log.proofs.Logs.{in_row, of_row, to_edges}
use Rattle.interleaving.specs.Stored.{halted_of}
use Rattle.rv32_hart.specs.Hart.{Hart}
use Rattle.rv32_hart.specs.Hardware.{hardware}
use Rattle.guest_image.specs.Machine.{MachineState}
use Rattle.hart_lease.specs.Runs.{counts_of}
use Rattle.hart_replay.specs.declared.plans.PlannedLeg.{PlannedLeg}
use Rattle.hart_replay.specs.Plans.{log_of}
use Rattle.hart_replay.specs.Replays.{is_halted}
use Rattle.log_audit.proofs.Bringing.{in_filter, of_filter}
use Rattle.plan_lines.specs.Line.{MayGo}

true_or_false : true ≡ false → ⊥
true_or_false e = cc

module _ (leg : PlannedLeg) (hart count : ℕ) (now : ℕ → ℕ) (count_is : count ≡ now hart) (here : List Edge) (rules : IsLog leg.edges.start leg.edges.rows)
    (here_is : here ≡ filter (λ e. e.at == count) (row_of leg.edges hart)) where
  pub met_of_all : All (λ e. e.after ≤ now e.other) here → IsMet (log_of leg).edges now hart
  met_of_all met e has of_hart at =
      let (x, stands, same) = in_row leg.edges.start leg.edges.rows rules e has in
      let here_at : x.at ≡ count = ap (λ (y : TheoryEdge). y.step) same ∙ at ∙ sym count_is in
      let row : Contains (row_of leg.edges hart) x = subst (λ (h : ℕ). Contains (row_of leg.edges h) x) of_hart stands in
      let so : (x.at == count) ≡ true = elim (eqb_tells x.at count) [ inl is ↦ is.0 | inr other ↦ absurd (other.1 here_at) ] in
      let there : Contains here x =
      subst (λ (l : List Edge). Contains l x) (sym here_is) (in_filter (λ (e : Edge). e.at == count) (row_of leg.edges hart) x row so) in
      let le = All-contains (λ (y : Edge). y.after ≤ now y.other) here x met there in
      let asks : x.after ≡ e.count = ap (λ (y : TheoryEdge). y.count) same in
      let of_other : now x.other ≡ now e.other = ap (λ (y : TheoryEdge). now y.other) same in
      omega (arith, le, asks, of_other)

  pub all_of_met : IsMet (log_of leg).edges now hart → All (λ e. e.after ≤ now e.other) here
  all_of_met met k d lt =
      let there : Contains here (slice_index_or here k d) = (k, lt, get_or_default here k (slice_index_or here k d) d lt) in
      let (stands, is_so) =
      of_filter (λ (e : Edge). e.at == count) (row_of leg.edges hart) (slice_index_or here k d)
      (subst (λ (l : List Edge). Contains l (slice_index_or here k d)) here_is there) in
      let at : (slice_index_or here k d).at ≡ count =
      elim (eqb_tells (slice_index_or here k d).at count) [ inl same ↦ same.1 | inr other ↦ absurd (true_or_false (sym is_so ∙ other.0)) ] in
      let own = (of_row leg.edges.start leg.edges.rows rules hart (slice_index_or here k d) stands).own in
      met (edge_as (slice_index_or here k d)) (to_edges leg.edges.rows hart (slice_index_or here k d) stands) own (at ∙ count_is)

  -- the hart is below its end, and whether its edges are met was looked at
  pub both_met : (end : ℕ) → end ≡ count_at leg.ends hart → count < end → (met : Bool) → IsTrue met ↔ All (λ e. e.after ≤ now e.other) here →
      IsTrue met ↔ ((count < count_at leg.ends hart) × IsMet (log_of leg).edges now hart)
  both_met end is below met exact = (λ so. (omega (arith, is, below), met_of_all (exact.0 so)), λ both. exact.1 (all_of_met both.1))

-- ---- from what a hart's state tells

runs_so : (m : MachineState) (hart : ℕ) (h : Hart) → slice_get m.harts hart ≡ Some h → is_halted m hart ≡ h.halted
runs_so m hart h found = ap (λ (o : Option Hart). halted_of (hardware (length m.pages)) o) found

pub halted_stays : (leg : PlannedLeg) (m : MachineState) (hart : ℕ) (h : Hart) → slice_get m.harts hart ≡ Some h → h.halted ≡ true → MayGo leg m hart → ⊥
halted_stays leg m hart h found halted may = true_or_false (sym halted ∙ sym (runs_so m hart h found) ∙ may.runs)

pub passes : (leg : PlannedLeg) (m : MachineState) (hart count : ℕ) (h : Hart) (result : Bool) → slice_get m.harts hart ≡ Some h → h.halted ≡ false →
    count ≡ counts_of m hart → IsTrue result ↔ ((count < count_at leg.ends hart) × IsMet (log_of leg).edges (counts_of m) hart) →
    IsTrue result ↔ MayGo leg m hart
passes leg m hart count h result found runs is exact = (
  λ yes. let both = exact.0 yes in let lt = both.0 in
      record { runs = runs_so m hart h found ∙ runs; below = omega (arith, is, lt); met = both.1 },
  λ may. let below = may.below in exact.1 (omega (arith, is, below), may.met),
)
