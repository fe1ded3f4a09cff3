-- The edges of a log, as a hart that is lent meets them.
use Rattle.std.proofs.Common.{◌≡◌, ◌≢◌, ◌==◌, ℕ, ◌+◌, ◌<◌, ◌≤◌, List, [], ◌∷◌, Bool, true, false, cond, All, Any, Contains, filter, map, Option, None, Some}
use Rattle.std.proofs.Common.{IfSome, IfNone, ◌⊎◌, inl, inr, refl, ap, sym, ◌∙◌, subst, arith}
use Rattle.std.proofs.lemmas.Bool.Decides.{nat_tests}
use Rattle.std.proofs.lemmas.Bool.{cases_lt}
use Rattle.std.proofs.lemmas.List.Elements.{All-contains, Contains-append_right}
use Rattle.interleaving.specs.Log as theory
use Rattle.interleaving.specs.Log.{HasUnmet}
use Rattle.interleaving.proofs.Cuts.{here, here_or_later}
use Rattle.edge_log.specs.declared.Edge.{Edge}
use Rattle.edge_log.specs.EdgeLog.{Edges, IsLog, row_of, edge_as, edges_of}
use Rattle.edge_log.proofs.Logs.{to_edges, of_row, in_row}
use Rattle.input_log.specs.declared.Input.{Input}
use Rattle.input_log.specs.Inputs.{inputs_of, inputs_at}
use Rattle.hart_lease.specs.Runs.{Heard, heard_in, IsStop, MayGoTo}

from_count : (n : ℕ) (xs : List Edge) (x : Edge) → Contains (filter (λ e. e.at == n) xs) x → Contains xs x × (x.at ≡ n)
from_count n [] x (k, below, is) = absurd (omega arith)
from_count n (y ∷ ys) x h = of (y.at == n) refl (λ more. let found = from_count n ys x more in (Contains-append_right (y ∷ []) ys x found.0, found.1)) h
  where
    of : (b : Bool) → (y.at == n) ≡ b → (Contains (filter (λ e. e.at == n) ys) x → Contains (y ∷ ys) x × (x.at ≡ n)) →
        Contains (cond b (y ∷ filter (λ e. e.at == n) ys) (filter (λ e. e.at == n) ys)) x → Contains (y ∷ ys) x × (x.at ≡ n)
    of false e later more = later more
    of true e later more =
        elim (here_or_later y (filter (λ e. e.at == n) ys) x more) [
          | inl same ↦ let at : y.at ≡ n = grind (arith, nat_tests) in (subst (Contains (y ∷ ys)) same (here y ys), ap (λ (z : Edge). z.at) (sym same) ∙ at)
          | inr rest ↦ later rest
        ]

to_count : (n : ℕ) (xs : List Edge) (x : Edge) → Contains xs x → x.at ≡ n → Contains (filter (λ e. e.at == n) xs) x
to_count n [] x (k, below, is) at = absurd (omega arith)
to_count n (y ∷ ys) x h at = of (y.at == n) refl (λ later. to_count n ys x later at) (here_or_later y ys x h)
  where
    of : (b : Bool) → (y.at == n) ≡ b → (Contains ys x → Contains (filter (λ e. e.at == n) ys) x) → (y ≡ x) ⊎ Contains ys x →
        Contains (cond b (y ∷ filter (λ e. e.at == n) ys) (filter (λ e. e.at == n) ys)) x
    of false e more (inl same) = let here : y.at ≡ n = ap (λ (z : Edge). z.at) same ∙ at in absurd (grind (arith, nat_tests))
    of false e more (inr later) = more later
    of true e more (inl same) = subst (Contains (y ∷ filter (λ e. e.at == n) ys)) same (here y (filter (λ e. e.at == n) ys))
    of true e more (inr later) = Contains-append_right (y ∷ []) (filter (λ e. e.at == n) ys) x (more later)

module _ (log : Edges) (rules : IsLog log.start log.rows) (hart : ℕ) where
  -- an edge of the hart stands in its row
  record InRow (e : theory.Edge) : Type 0 where
    pub edge : Edge
    pub is_in : Contains (row_of log hart) edge
    pub is : edge_as edge ≡ e

  found_in_row : (e : theory.Edge) → Contains (edges_of log) e → e.hart ≡ hart → InRow e
  found_in_row e is_in own =
      let (x, at, is) = in_row log.start log.rows rules e is_in in
      record { edge = x; is_in = subst (λ h. Contains (row_of log h) x) own at; is = is }

  -- an edge at the hart's count that is not met is one of the hart's next step
  pub unmet_at : (now : ℕ → ℕ) (n : ℕ) → n ≡ now hart → Any (λ e. now e.other < e.after) (filter (λ e. e.at == n) (row_of log hart)) →
      HasUnmet (edges_of log) now hart
  unmet_at now n same (k, x, below, is, lt) =
      let found = from_count n (row_of log hart) x (k, below, is) in
      (edge_as x, to_edges log.rows hart x found.0, (of_row log.start log.rows rules hart x found.0).own, found.1 ∙ same, lt)

  pub at_unmet : (now : ℕ → ℕ) (n : ℕ) → n ≡ now hart → HasUnmet (edges_of log) now hart →
      Any (λ e. now e.other < e.after) (filter (λ e. e.at == n) (row_of log hart))
  at_unmet now n same (e, is_in, own, step, lt) =
      let f = found_in_row e is_in own in
      let (k, below, is) = to_count n (row_of log hart) f.edge f.is_in (ap (λ (z : theory.Edge). z.step) f.is ∙ step ∙ sym same) in
      let other : f.edge.other ≡ e.other = ap (λ (z : theory.Edge). z.other) f.is in
      let count : f.edge.after ≡ e.count = ap (λ (z : theory.Edge). z.count) f.is in
      (k, f.edge, below, is, omega (arith, ap now other, count, lt))

-- a row of counts, from this one on

pub record IsFirst {A : Type 0} (at : A → ℕ) (row : List A) (from : ℕ) (next : Option ℕ) : Type 0 where
  pub found : IfSome next (λ n. (from ≤ n) × Any (λ x. at x ≡ n) row)
  pub first : IfSome next (λ n. All (λ x. from ≤ at x → n ≤ at x) row)
  pub none : IfNone next (All (λ x. at x < from) row)

bounds : {A : Type 0} (at : A → ℕ) (row : List A) (from : ℕ) (next : Option ℕ) → IsFirst at row from next → (stop : ℕ) → IfSome next (λ n. stop ≤ n) →
    (x : A) → Contains row x → from ≤ at x → stop ≤ at x
bounds at row from None p stop le x is_in above = let below = All-contains (λ x. at x < from) row x p.none is_in in absurd (omega (arith, below, above))
bounds at row from (Some n) p stop le x is_in above =
    let later = All-contains (λ x. from ≤ at x → n ≤ at x) row x p.first is_in above in omega (arith, later, le)

lower : (o : Option ℕ) (a b : ℕ) → b ≤ a → IfSome o (λ n. a ≤ n) → IfSome o (λ n. b ≤ n)
lower None a b le p = p
lower (Some n) a b le p = omega (arith, le, p)

found_at : {A : Type 0} (at : A → ℕ) (row : List A) (from : ℕ) (next : Option ℕ) → IsFirst at row from next → (n : ℕ) → next ≡ Some n →
    (from ≤ n) × Any (λ x. at x ≡ n) row
found_at at row from next p n is = subst (λ o. IfSome o (λ n. (from ≤ n) × Any (λ x. at x ≡ n) row)) is p.found

-- inputs at a count that none has, and at one that some has
no_inputs : (row : List (ℕ × Input)) (n : ℕ) → ((x : ℕ × Input) → Contains row x → x.0 ≢ n) → inputs_at row n ≡ []
no_inputs [] n none = refl
no_inputs (y ∷ row) n none = of (y.0 == n) refl (no_inputs row n (λ x is_in. none x (Contains-append_right (y ∷ []) row x is_in)))
  where
    of : (b : Bool) → (y.0 == n) ≡ b → inputs_at row n ≡ [] →
        map (λ (x : ℕ × Input). x.1) (cond b (y ∷ filter (λ x. x.0 == n) row) (filter (λ x. x.0 == n) row)) ≡ []
    of true e later = let same : y.0 ≡ n = grind (arith, nat_tests) in absurd (none y (here y row) same)
    of false e later = later

some_inputs : (row : List (ℕ × Input)) (n : ℕ) (x : ℕ × Input) → Contains row x → x.0 ≡ n → inputs_at row n ≢ []
some_inputs [] n x (k, below, is) at = absurd (omega arith)
some_inputs (y ∷ row) n x h at = of (y.0 == n) refl (λ later. some_inputs row n x later at) (here_or_later y row x h)
  where
    of : (b : Bool) → (y.0 == n) ≡ b → (Contains row x → inputs_at row n ≢ []) → (y ≡ x) ⊎ Contains row x →
        map (λ (x : ℕ × Input). x.1) (cond b (y ∷ filter (λ x. x.0 == n) row) (filter (λ x. x.0 == n) row)) ≢ []
    of true e later is = λ none. cc
    of false e later (inl same) = let is : y.0 ≡ n = ap (λ (z : ℕ × Input). z.0) same ∙ at in absurd (grind (arith, nat_tests))
    of false e later (inr more) = later more

-- the hart's limit, its next edge and its next inputs, and the least of them
module _ (log : Edges) (rules : IsLog log.start log.rows) (hart : ℕ) (inputs : List (List (ℕ × Input))) (limit count : ℕ) (edge input : Option ℕ)
    (edges : IsFirst (λ e. e.at) (row_of log hart) (count + 1) edge) (given : IsFirst (λ x. x.0) (inputs_of inputs hart) (count + 1) input)
    (sooner stop : ℕ) (below : count < limit) (at_most : sooner ≤ limit) (before : IfSome edge (λ n. sooner ≤ n))
    (one : (sooner ≡ limit) ⊎ (edge ≡ Some sooner)) (stops : stop ≤ sooner) (least : IfSome input (λ n. stop ≤ n))
    (either : (stop ≡ sooner) ⊎ (input ≡ Some stop)) where
  abbrev Reason : Type 0
  Reason =
      (stop ≡ limit) ⊎ ((e : theory.Edge) × Contains (edges_of log) e × (e.hart ≡ hart) × (e.step ≡ stop)) ⊎ (heard_in inputs hart stop ≢ [])

  sooner_above : (sooner ≡ limit) ⊎ (edge ≡ Some sooner) → count < sooner
  sooner_above (inl is) = omega (arith, below, is)
  sooner_above (inr is) = let from = (found_at (λ e. e.at) (row_of log hart) (count + 1) edge edges sooner is).0 in omega (arith, from)

  stop_above : (stop ≡ sooner) ⊎ (input ≡ Some stop) → count < stop
  stop_above (inl is) = let lt = sooner_above one in omega (arith, lt, is)
  stop_above (inr is) = let from = (found_at (λ x. x.0) (inputs_of inputs hart) (count + 1) input given stop is).0 in omega (arith, from)

  reason_is : (stop ≡ sooner) ⊎ (input ≡ Some stop) → (sooner ≡ limit) ⊎ (edge ≡ Some sooner) → Reason
  reason_is (inr is) other =
      let (k, x, lt, at, same) = (found_at (λ x. x.0) (inputs_of inputs hart) (count + 1) input given stop is).1 in
      inr (inr (some_inputs (inputs_of inputs hart) stop x (k, lt, at) same))
  reason_is (inl is) (inl limit_is) = inl (is ∙ limit_is)
  reason_is (inl is) (inr edge_is) =
      let (k, x, lt, at, same) = (found_at (λ e. e.at) (row_of log hart) (count + 1) edge edges sooner edge_is).1 in
      inr (inl (edge_as x, to_edges log.rows hart x (k, lt, at), (of_row log.start log.rows rules hart x (k, lt, at)).own, same ∙ sym is))

  pub stop_is : IsStop (edges_of log) (heard_in inputs) limit hart count stop
  stop_is = record {
    above = stop_above either;
    within = omega (arith, stops, at_most);
    first = λ e is_in own above.
        let f = found_in_row log rules hart e is_in own in
        let step : f.edge.at ≡ e.step = ap (λ (z : theory.Edge). z.step) f.is in
        let le = bounds (λ e. e.at) (row_of log hart) (count + 1) edge edges stop (lower edge sooner stop stops before) f.edge f.is_in
        (omega (arith, step, above)) in
        omega (arith, le, step);
    quiet = λ n from lt.
        no_inputs (inputs_of inputs hart) n (λ x is_in same.
        let le = bounds (λ x. x.0) (inputs_of inputs hart) (count + 1) input given stop least x is_in (omega (arith, same, from)) in
        absurd (omega (arith, le, same, lt)));
    reason = reason_is either one;
  }

-- a hart with no unmet edge may go to its stop
pub may_go : (edges : List theory.Edge) (heard : Heard) (now : ℕ → ℕ) (limit hart count stop : ℕ) → (HasUnmet edges now hart → ⊥) → count ≡ now hart →
    IsStop edges heard limit hart count stop → MayGoTo edges now hart stop
may_go edges heard now limit hart count stop none same at = record {
  met = none_below;
  first = λ e is_in own above. at.first e is_in own (omega (arith, above, same));
}
  where
    none_below : (e : theory.Edge) → Contains edges e → e.hart ≡ hart → e.step ≡ now hart → e.count ≤ now e.other
    none_below e is_in own step =
        elim (cases_lt (now e.other) e.count) [
          | inl lt ↦ absurd (none (e, is_in, own, step, lt))
          | inr le ↦ le
        ]
