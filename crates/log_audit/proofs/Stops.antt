-- Where a hart has no edges and inputs.
use Rattle.std.proofs.Common.{◌≡◌, inl, inr, ℕ, ◌<◌, ◌≤◌, min, List, [], ◌∷◌, All, Option, Some, None, IfSome, IfNone}
use Rattle.std.proofs.Common.{unwrap_or, refl, ap, subst, arith, Contains}
use Rattle.std.proofs.lemmas.Bool.Decides.{eqb_tells}
use Rattle.std.proofs.lemmas.List.Elements.{All-head, All-tail, All-contains}
use Rattle.ft_types.specs.Counts.{count_at}
use Rattle.interleaving.specs.Log.{Edge as TheoryEdge}
use Rattle.edge_log.specs.declared.Edge.{Edge}
use Rattle.edge_log.specs.EdgeLog.{IsLog, row_of}
use Rattle.edge_log.proofs.Logs.{in_row}
use Rattle.input_log.specs.declared.Input.{Input}
use Rattle.input_log.specs.Inputs.{inputs_of, inputs_at}
use Rattle.hart_replay.specs.declared.plans.PlannedLeg.{PlannedLeg}
use Rattle.log_audit.specs.machinery.Covered.{IsQuietTo}

-- the first count from this one on that the list has, or the end, is no later than each that it has
pub or_end : {A : Type 0} (at : A → ℕ) (xs : List A) (count end : ℕ) (found : Option ℕ) → IfSome found (λ n. All (λ x. count ≤ at x → n ≤ at x) xs) →
    IfNone found (All (λ x. at x < count) xs) → All (λ x. count ≤ at x → min end (unwrap_or found end) ≤ at x) xs
or_end at xs count end None first none = λ k d lt le. let low = none k d lt in absurd (omega (arith, low, le))
or_end at xs count end (Some n) first none = λ k d lt le. let is = first k d lt le in omega (arith, is)

-- where each input comes later, none is there
none_at : (count stop n : ℕ) (row : List (ℕ × Input)) → All (λ x. count ≤ x.0 → stop ≤ x.0) row → count ≤ n → n < stop → inputs_at row n ≡ []
none_at count stop n [] all le lt = refl
none_at count stop n (x ∷ rest) all le lt =
    let tail = none_at count stop n rest (All-tail (λ (y : ℕ × Input). count ≤ y.0 → stop ≤ y.0) x rest all) le lt in
    elim (eqb_tells x.0 n) [
      | inl same ↦
          let is = same.0 in
          let late = All-head (λ (y : ℕ × Input). count ≤ y.0 → stop ≤ y.0) x rest all (omega (arith, is, le)) in
          absurd (omega (arith, late, is, lt))
      | inr other ↦ rw (other.0) tail
    ]

pub stop_quiet : (leg : PlannedLeg) (hart count end : ℕ) (edge input : Option ℕ) → IsLog leg.edges.start leg.edges.rows → end ≡ count_at leg.ends hart →
    IfSome edge (λ n. All (λ e. count ≤ e.at → n ≤ e.at) (row_of leg.edges hart)) → IfNone edge (All (λ e. e.at < count) (row_of leg.edges hart)) →
    IfSome input (λ n. All (λ x. count ≤ x.0 → n ≤ x.0) (inputs_of leg.inputs hart)) → IfNone input (All (λ x. x.0 < count) (inputs_of leg.inputs hart)) →
    IsQuietTo leg hart count (min (min end (unwrap_or edge end)) (unwrap_or input end))
stop_quiet leg hart count end edge input rules is first none first_input no_input =
    record {
      within = omega (arith, is);
      edges = λ e has own le.
          let (x, stands, same) = in_row leg.edges.start leg.edges.rows rules e has in
          let at : x.at ≡ e.step = ap (λ (y : TheoryEdge). y.step) same in
          let here : Contains (row_of leg.edges hart) x = subst (λ (h : ℕ). Contains (row_of leg.edges h) x) own stands in
          let late = All-contains (λ (y : Edge). count ≤ y.at → min end (unwrap_or edge end) ≤ y.at) (row_of leg.edges hart) x
          (or_end (λ (y : Edge). y.at) (row_of leg.edges hart) count end edge first none) here (omega (arith, at, le)) in
          omega (arith, late, at);
      inputs = λ n from lt.
          none_at count (min end (unwrap_or input end)) n (inputs_of leg.inputs hart)
          (or_end (λ (y : ℕ × Input). y.0) (inputs_of leg.inputs hart) count end input first_input no_input) from (omega (arith, lt));
    }
