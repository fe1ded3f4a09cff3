-- A hart's turn, once its edges are brought.
use Rattle.std.proofs.Common.{◌≡◌, inl, inr, ℕ, zero, suc, ◌<◌, ◌≤◌, ◌==◌, Bool, true, false, List, [], ◌∷◌, length, filter, All, Contains, if◌then◌else◌, refl, ap, sym, subst, ◌∙◌, arith}
use Rattle.std.proofs.lemmas.Bool.{cases_lt}
use Rattle.std.proofs.lemmas.Bool.Decides.{eqb_tells}
use Rattle.std.proofs.lemmas.List.Elements.{All-contains}
use Rattle.interleaving.specs.Log.{Edge as TheoryEdge, IsMet, HasUnmet, bump}
use Rattle.ft_types.specs.declared.names.TheConstants.{HART_LIMIT, HART_ROW}
use Rattle.edge_log.specs.declared.Edge.{Edge}
use Rattle.edge_log.specs.EdgeLog.{IsLog, row_of as edges_at, edge_as}
use Rattle.edge_log.proofs.Logs.{in_row, of_row, to_edges}
use Rattle.hart_lease.specs.Runs.{counts_of}
use Rattle.hart_replay.specs.declared.plans.PlannedLeg.{PlannedLeg}
use Rattle.hart_replay.specs.Plans.{log_of}
use Rattle.log_audit.specs.declared.befores.Before.{Before as Entry}
use Rattle.log_audit.specs.machinery.Befores.{Brings}
use Rattle.log_audit.specs.machinery.Covered.{HartsView, machine_of, IsCovered, InForce}
use Rattle.log_audit.proofs.Knowing.{known_brought}
use Rattle.log_audit.proofs.Widths.{brought_many}

chosen : {A : Type 0} (b : Bool) (y : A) (rest : List A) (x : A) → Contains rest x → Contains (if b then y ∷ rest else rest) x
chosen true y rest x (i, below, at) = (suc i, omega (arith, below), at)
chosen false y rest x there = there

pub in_filter : {A : Type 0} (p : A → Bool) (xs : List A) (x : A) → Contains xs x → p x ≡ true → Contains (filter p xs) x
in_filter p [] x (k, lt, is) so = absurd (omega (arith, lt))
in_filter p (y ∷ ys) x (zero, lt, is) so = let same : p y ≡ true = ap p is ∙ so in rw same (0, omega arith, is)
in_filter p (y ∷ ys) x (suc k, lt, is) so = chosen (p y) y (filter p ys) x (in_filter p ys x (k, omega (arith, lt), is) so)

picked : {A : Type 0} (p : A → Bool) (y : A) (ys : List A) (x : A) (b : Bool) → p y ≡ b → (Contains (filter p ys) x → Contains ys x × (p x ≡ true)) →
    Contains (if b then y ∷ filter p ys else filter p ys) x → Contains (y ∷ ys) x × (p x ≡ true)
picked p y ys x true e later (zero, lt, is) = ((0, omega arith, is), sym (ap p is) ∙ e)
picked p y ys x true e later (suc i, lt, is) =
    let ((k, below, at), so) = later (i, omega (arith, lt), is) in ((suc k, omega (arith, below), at), so)
picked p y ys x false e later there = let ((k, below, at), so) = later there in ((suc k, omega (arith, below), at), so)

pub of_filter : {A : Type 0} (p : A → Bool) (xs : List A) (x : A) → Contains (filter p xs) x → Contains xs x × (p x ≡ true)
of_filter p [] x (k, lt, is) = absurd (omega (arith, lt))
of_filter p (y ∷ ys) x there = picked p y ys x (p y) refl (λ t. of_filter p ys x t) there

module _ (leg : PlannedLeg) (order : List ℕ) (v : HartsView) (covered : IsCovered leg order (counts_of (machine_of v)) v) (hart : ℕ) (lt : hart < HART_LIMIT)
    (rules : IsLog leg.edges.start leg.edges.rows) (here : List Edge) (count : ℕ) (now : count ≡ counts_of (machine_of v) hart)
    (here_is : here ≡ filter (λ e. e.at == count) (edges_at leg.edges hart)) (met : All (λ e. e.after ≤ counts_of (machine_of v) e.other) here) where
  own : (x : Edge) → Contains here x → Contains (edges_at leg.edges hart) x × (x.at ≡ count)
  own x there =
      let (stands, is_so) = of_filter (λ (e : Edge). e.at == count) (edges_at leg.edges hart) x (subst (λ (l : List Edge). Contains l x) here_is there) in
      (stands, elim (eqb_tells x.at count) [ inl same ↦ same.1 | inr other ↦ absurd (true_or_false (sym is_so ∙ other.0)) ])
    where
      true_or_false : true ≡ false → ⊥
      true_or_false e = cc

  each : (e : TheoryEdge) → Contains (log_of leg).edges e → e.hart ≡ hart → e.step ≡ counts_of (machine_of v) hart → (x : Edge) × Contains here x × (edge_as x ≡ e)
  each e has of_hart at =
      let (x, stands, same) = in_row leg.edges.start leg.edges.rows rules e has in
      let here_at : x.at ≡ count = ap (λ (y : TheoryEdge). y.step) same ∙ at ∙ sym now in
      let row : Contains (edges_at leg.edges hart) x = subst (λ (h : ℕ). Contains (edges_at leg.edges h) x) of_hart stands in
      let so : (x.at == count) ≡ true = elim (eqb_tells x.at count) [ inl is ↦ is.0 | inr other ↦ absurd (other.1 here_at) ] in
      (x, subst (λ (l : List Edge). Contains l x) (sym here_is) (in_filter (λ (e : Edge). e.at == count) (edges_at leg.edges hart) x row so), same)

  pub is_met : IsMet (log_of leg).edges (counts_of (machine_of v)) hart
  is_met e has of_hart at =
      let (x, there, same) = each e has of_hart at in
      let le = All-contains (λ (y : Edge). y.after ≤ counts_of (machine_of v) y.other) here x met there in
      let asks : x.after ≡ e.count = ap (λ (y : TheoryEdge). y.count) same in
      let of_other : counts_of (machine_of v) x.other ≡ counts_of (machine_of v) e.other = ap (λ (y : TheoryEdge). counts_of (machine_of v) y.other) same in
      omega (arith, le, asks, of_other)

  pub brought_covered : (steps : List ℕ) (new : List (List Entry)) → Brings v.befores hart count here steps new →
      IsCovered leg order (bump (counts_of (machine_of v)) hart) (record v { befores = new }) × InForce new hart steps
  brought_covered steps new brings =
      let brings_now : Brings v.befores hart (counts_of (machine_of v) hart) here steps new = subst (λ (n : ℕ). Brings v.befores hart n here steps new) now brings in
      let many : length v.befores ≡ HART_ROW = covered.known.many in
      let (known, force) =
      known_brought (log_of leg).edges (counts_of (machine_of v)) v.befores hart here steps new covered.known covered.wide lt brings_now each
      (λ x there.
      let (stands, at) = own x there in
      let of = of_row leg.edges.start leg.edges.rows rules hart x stands in
      let few = rules.harts in
      let other = of.other in
      (to_edges leg.edges.rows hart x stands, of.own, at ∙ now, omega (arith, few, other)))
      (λ x there. All-contains (λ (y : Edge). y.after ≤ counts_of (machine_of v) y.other) here x met there) in (
        record {
          begins = covered.begins;
          run = covered.run;
          pages = covered.pages;
          harts = covered.harts;
          counts = covered.counts;
          ordered = covered.ordered;
          noted = covered.noted;
          read_marks = covered.read_marks;
          written_marks = covered.written_marks;
          wide = (brought_many v.befores covered.wide hart (counts_of (machine_of v) hart) here steps new (omega (arith, many, lt)) brings_now).1;
          known = known;
        },
        force,
      )

all_with : {A : Type 0} (P : A → Type 0) (x : A) (rest : List A) → P x → All P rest → All P (x ∷ rest)
all_with P x rest first all zero d lt = first
all_with P x rest first all (suc k) d lt = all k d (omega (arith, lt))

-- where not all are met, one is not
pub not_all : (asks has : Edge → ℕ) (xs : List Edge) → (All (λ e. asks e ≤ has e) xs → ⊥) → (e : Edge) × Contains xs e × (has e < asks e)
not_all asks has [] none = absurd (none (λ k d lt. absurd (omega (arith, lt))))
not_all asks has (x ∷ rest) none =
    elim (cases_lt (has x) (asks x)) [
      | inl less ↦ (x, (0, omega arith, refl), less)
      | inr le ↦
          let (e, (k, lt, is), less) = not_all asks has rest (λ all. none (all_with (λ (y : Edge). asks y ≤ has y) x rest le all)) in
          (e, (suc k, omega (arith, lt), is), less)
    ]

pub has_unmet : (leg : PlannedLeg) (hart count : ℕ) (now : ℕ → ℕ) (here : List Edge) → IsLog leg.edges.start leg.edges.rows →
    here ≡ filter (λ e. e.at == count) (edges_at leg.edges hart) → count ≡ now hart → (All (λ e. e.after ≤ now e.other) here → ⊥) →
    HasUnmet (log_of leg).edges now hart
has_unmet leg hart count now here rules here_is at none =
    let (e, there, less) = not_all (λ (y : Edge). y.after) (λ (y : Edge). now y.other) here none in
    let (stands, is_so) = of_filter (λ (y : Edge). y.at == count) (edges_at leg.edges hart) e (subst (λ (l : List Edge). Contains l e) here_is there) in
    let of = of_row leg.edges.start leg.edges.rows rules hart e stands in
    let own : e.at ≡ count = elim (eqb_tells e.at count) [ inl same ↦ same.1 | inr other ↦ absurd (no_both (sym is_so ∙ other.0)) ] in
    (edge_as e, to_edges leg.edges.rows hart e stands, of.own, own ∙ at, less)
  where
    no_both : true ≡ false → ⊥
    no_both e = cc
