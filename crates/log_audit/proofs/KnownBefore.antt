-- Where it is known what the edges put before steps, the order of steps is told by the entries.
use Rattle.std.proofs.Common.{◌≡◌, ◌≢◌, ◌⊎◌, inl, inr, ℕ, ◌<◌, ◌≤◌, List, slice_index, sym, ap, subst, ◌∙◌, arith, le_trans, Contains}
use Rattle.interleaving.specs.Log.{Edge, Place, Before, Own, Across, Through}
use Rattle.log_audit.specs.declared.befores.Before.{Before as Entry}
use Rattle.log_audit.specs.machinery.Befores.{row_of}
use Rattle.log_audit.specs.machinery.Covered.{IsKnown, InForce}
use Rattle.log_audit.proofs.Gathering.{place_at, before_later}

-- what is in force comes before each step that none of the hart's entries comes after
pub force_sound : (edges : List Edge) (reach now : ℕ → ℕ) (rows : List (List Entry)) (hart : ℕ) (before : List ℕ) → IsKnown edges reach now rows →
    InForce rows hart before → (count : ℕ) → ((b : Entry) → Contains (row_of rows hart) b → b.since ≤ count) → (g x : ℕ) →
    x < slice_index before g → Before edges (record { hart = g; step = x }) (record { hart = hart; step = count })
force_sound edges reach now rows hart before known force count upto g x less = elim (force.some g) [
  | inl none ↦ absurd (omega (arith, none, less))
  | inr entry ↦
      let (b, there, le) = entry in
      before_later edges (place_at g x) hart b.since count (upto b there) (known.sound hart b there g x (omega (arith, less, le)))
]

module _ (edges : List Edge) (reach now : ℕ → ℕ) (rows : List (List Entry)) (known : IsKnown edges reach now rows)
    (reached : (h : ℕ) → now h ≤ reach h) where
  -- the first step is an earlier one of the same hart, or an entry from the second step or before has it
  abbrev pub IsTold : Place → Place → Type 0
  IsTold a b =
      ((a.hart ≡ b.hart) × (a.step < b.step)) ⊎
      ((c : Entry) × Contains (row_of rows b.hart) c × (c.since ≤ b.step) × (a.step < slice_index c.steps a.hart))

  -- an entry of another step of the hart, before this one
  told_later : (a m b : Place) → m.hart ≡ b.hart → m.step < b.step → IsTold a m → IsTold a b
  told_later a m b same less told = elim told [
    | inl own ↦ (let earlier = own.1 in inl (own.0 ∙ same, omega (arith, earlier, less)))
    | inr entry ↦
        let (c, there, early, has) = entry in
        inr (c, subst (λ (h : ℕ). Contains (row_of rows h) c) same there, omega (arith, early, less), has)
  ]

  -- what comes before a step that an entry has is had by the entry
  told_within : (a m b : Place) (c : Entry) → Contains (row_of rows b.hart) c → c.since ≤ b.step → m.step < slice_index c.steps m.hart → IsTold a m → IsTold a b
  told_within a m b c there early has told = elim told [
    | inl own ↦
        let same : slice_index c.steps a.hart ≡ slice_index c.steps m.hart = ap (slice_index c.steps) own.0 in
        let less = own.1 in inr (c, there, early, omega (arith, same, less, has))
    | inr entry ↦
        let (d, d_there, d_early, d_has) = entry in
        let more = known.closed b.hart c there m.hart m.step has d d_there d_early a.hart in
        inr (c, there, early, omega (arith, d_has, more))
  ]

  pub before_is_known : {a b : Place} → Before edges a b → b.step < reach b.hart →
      ((a.hart ≡ b.hart) × (a.step < b.step)) ⊎
      ((c : Entry) × Contains (row_of rows b.hart) c × (c.since ≤ b.step) × (a.step < slice_index c.steps a.hart))
  before_is_known (Own {a = a} {b = b} same less) below = inl (same, less)
  before_is_known (Across {a = a} {b = b} e is_edge other less hart from) below =
      let alike : reach b.hart ≡ reach e.hart = ap reach hart in
      let (c, there, early, many) = known.each e is_edge (omega (arith, from, below, alike)) in
      let same : slice_index c.steps a.hart ≡ slice_index c.steps e.other = ap (slice_index c.steps) other in
      inr (c, subst (λ (h : ℕ). Contains (row_of rows h) c) (sym hart) there, le_trans early from, omega (arith, less, many, same))
  before_is_known (Through {a = a} {b = m} {c = b} p q) below = elim (before_is_known q below) [
    | inl own ↦
        let alike : reach m.hart ≡ reach b.hart = ap reach own.0 in
        let less = own.1 in told_later a m b own.0 own.1 (before_is_known p (omega (arith, alike, less, below)))
    | inr entry ↦
        let (c, there, early, has) = entry in
        let le = known.bound b.hart c there m.hart in
        let far = reached m.hart in told_within a m b c there early has (before_is_known p (omega (arith, has, le, far)))
  ]

  -- a step that is not in force does not come before the hart's step
  pub not_before : (hart : ℕ) (before : List ℕ) → InForce rows hart before → (g x count : ℕ) → g ≢ hart → slice_index before g ≤ x → count < reach hart →
      Before edges (record { hart = g; step = x }) (record { hart = hart; step = count }) → ⊥
  not_before hart before force g x count other past below is = elim (before_is_known is below) [
    | inl own ↦ other own.0
    | inr entry ↦
        let (c, there, early, has) = entry in
        let le = force.all c there g in omega (arith, has, le, past)
  ]

  -- no step that was taken comes after another hart's next
  pub not_after : (hart g x : ℕ) → x < now g → g ≢ hart → Before edges (record { hart = hart; step = now hart }) (record { hart = g; step = x }) → ⊥
  not_after hart g x taken other is =
      let far = reached g in
      elim (before_is_known is (omega (arith, taken, far))) [
        | inl own ↦ other (sym own.0)
        | inr entry ↦
            let (c, there, early, has) = entry in
            let le = known.bound g c there hart in omega (arith, has, le)
      ]
