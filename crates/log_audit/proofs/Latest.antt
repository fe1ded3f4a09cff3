-- What is latest in a row, and what one edge brings.
use Rattle.std.proofs.Common.{◌≡◌, ◌≢◌, ◌⊎◌, inl, inr, ℕ, zero, suc, ◌<◌, ◌≤◌, max, List, [], ◌∷◌, length, slice_index, slice_index_or, slice_set}
use Rattle.std.proofs.Common.{refl, sym, ap, subst, ◌∙◌, arith, le_refl, Contains, AllPairs, length-set, get_or-set_same, get_or-set_other}
use Rattle.std.proofs.lemmas.Bool.{cases_lt}
use Rattle.std.proofs.lemmas.List.{get_or_read, get_or-replicate, get_or_past}
use Rattle.std.proofs.lemmas.List.Elements.{Contains-get_or}
use Rattle.ft_types.specs.Counts.{greater, zipped}
use Rattle.ft_types.specs.declared.names.TheConstants.{HART_LIMIT, HART_ROW}
use Rattle.ft_types.proofs.Zips.{length-zipped}
use Rattle.interleaving.proofs.Put.{same_or_not}
use Rattle.log_audit.specs.declared.befores.Before.{Before as Entry}
use Rattle.log_audit.specs.machinery.Befores.{row_of, no_steps, steps_in_front, IsLatest}

-- ---- rows

abbrev blank : Entry
blank = record { since = 0; steps = no_steps }

-- later entries have no less
abbrev pub IsGrowing : List Entry → Type 0
IsGrowing row = AllPairs (λ a b. (g : ℕ) → slice_index a.steps g ≤ slice_index b.steps g) row

pub none_at : (g : ℕ) → slice_index no_steps g ≡ 0
none_at g = elim (cases_lt g HART_ROW) [
  | inl lt ↦ get_or-replicate HART_ROW g 0 0 lt
  | inr ge ↦ get_or_past no_steps g 0 ge
]

pub none_in : {A : Type 0} (xs : List A) (x : A) → xs ≡ [] → Contains xs x → ⊥
none_in xs x e (k, lt, is) = let none : length xs ≡ 0 = ap length e in omega (arith, lt, none)

pub in_one : {A : Type 0} (x y : A) → Contains (y ∷ []) x → x ≡ y
in_one x y (zero, lt, is) = sym is
in_one x y (suc k, lt, is) = absurd (omega (arith, lt))

-- each entry in front of a place has no more than the last of them
in_front : (row : List Entry) → IsGrowing row → (place : ℕ) → place ≤ length row → (k : ℕ) → k < place → (b : Entry) →
    slice_index_or row k blank ≡ b → (g : ℕ) → slice_index b.steps g ≤ slice_index (steps_in_front row place) g
in_front row growing zero within k lt b is g = absurd (omega (arith, lt))
in_front row growing (suc n) within k lt b is g = elim (cases_lt k n) [
  | inl less ↦
      subst (λ (x : Entry). slice_index x.steps g ≤ slice_index (slice_index_or row n blank).steps g) is
      (growing k n blank less (omega (arith, within)) g)
  | inr more ↦
      let same : k ≡ n = omega (arith, lt, more) in
      subst (λ (x : Entry). slice_index b.steps g ≤ slice_index x.steps g) (sym is ∙ ap (λ (i : ℕ). slice_index_or row i blank) same)
      (le_refl (slice_index b.steps g))
]

-- the entries that do not come after the count have no more than what is latest
pub latest_covers : (row : List Entry) (count : ℕ) (steps : List ℕ) → IsGrowing row → IsLatest row count steps → (b : Entry) → Contains row b →
    b.since ≤ count → (g : ℕ) → slice_index b.steps g ≤ slice_index steps g
latest_covers row count steps growing latest b (k, within, is) early g = elim (cases_lt k latest.place) [
  | inl front ↦
      subst (λ (all : List ℕ). slice_index b.steps g ≤ slice_index all g) (sym latest.steps_are)
      (in_front row growing latest.place latest.within k front b (sym (get_or_read row k b within (sym is) blank)) g)
  | inr behind ↦
      let late : count < (slice_index_or row k b).since = latest.after k b behind within in
      let same : (slice_index_or row k b).since ≡ b.since = ap (λ (x : Entry). x.since) is in
      absurd (omega (arith, late, same, early))
]

-- what is latest is nothing, or an entry's
pub latest_is : (row : List Entry) (count : ℕ) (steps : List ℕ) → IsLatest row count steps →
    (steps ≡ no_steps) ⊎ ((b : Entry) × Contains row b × (b.since ≤ count) × (steps ≡ b.steps))
latest_is row count steps latest = by_place latest.place latest.within latest.upto latest.steps_are
  where
    by_place : (place : ℕ) → place ≤ length row → ((k : ℕ) (d : Entry) → 0 ≤ k → k < place → (slice_index_or row k d).since ≤ count) →
        steps ≡ steps_in_front row place → (steps ≡ no_steps) ⊎ ((b : Entry) × Contains row b × (b.since ≤ count) × (steps ≡ b.steps))
    by_place zero within upto is = inl is
    by_place (suc n) within upto is =
        inr (slice_index_or row n blank, Contains-get_or row n blank (omega (arith, within)), upto n blank (omega arith) (omega arith), is)

pub some_or_none : {A : Type 0} (xs : List A) → (xs ≡ []) ⊎ (xs ≡ [] → ⊥)
some_or_none [] = inl refl
some_or_none (x ∷ xs) = inr (λ e. let none = ap length e in omega (arith, none))

-- ---- one more entry

-- a hart's row, once one has changed
pub row_at : (rows : List (List Entry)) (hart h : ℕ) (row : List Entry) → hart < length rows →
    ((h ≡ hart) × (row_of (slice_set rows hart row) h ≡ row)) ⊎ ((h ≢ hart) × (row_of (slice_set rows hart row) h ≡ row_of rows h))
row_at rows hart h row lt = elim (same_or_not h hart) [
  | inl same ↦ inl (same, ap (λ (i : ℕ). row_of (slice_set rows hart row) i) same ∙ get_or-set_same rows hart row [] lt)
  | inr other ↦ inr (other, get_or-set_other rows hart h row [] other)
]

-- ---- what one edge brings

zipped_at : (f : ℕ → ℕ → ℕ) (xs ys : List ℕ) (g : ℕ) → f 0 0 ≡ 0 → length xs ≡ length ys →
    slice_index (zipped f xs ys) g ≡ f (slice_index xs g) (slice_index ys g)
zipped_at f [] [] g none e = sym none
zipped_at f [] (y ∷ ys) g none e = absurd (omega (arith, e))
zipped_at f (x ∷ xs) [] g none e = absurd (omega (arith, e))
zipped_at f (x ∷ xs) (y ∷ ys) zero none e = refl
zipped_at f (x ∷ xs) (y ∷ ys) (suc g) none e = zipped_at f xs ys g none (omega (arith, e))

-- hart by hart, all is what was there, or what is below the edge, or, at the other hart, what the edge names; and no less than these
pub record IsGreatest (steps below all : List ℕ) (other after : ℕ) : Type 0 where
  pub from_steps : (g : ℕ) → slice_index steps g ≤ slice_index all g
  pub from_below : (g : ℕ) → slice_index below g ≤ slice_index all g
  pub named : after ≤ slice_index all other
  pub no_more : (g x : ℕ) → x < slice_index all g → (x < slice_index steps g) ⊎ ((x < slice_index below g) ⊎ ((g ≡ other) × (x < after)))

module _ (steps below : List ℕ) (other after : ℕ) (many : length steps ≡ HART_ROW) (many_below : length below ≡ HART_ROW) (lt : other < HART_LIMIT) where
  abbrev pub all : List ℕ
  all = slice_set (greater steps below) other (max (slice_index (greater steps below) other) after)

  two : (g : ℕ) → slice_index (greater steps below) g ≡ max (slice_index steps g) (slice_index below g)
  two g = zipped_at max steps below g refl (many ∙ sym many_below)

  long : length (greater steps below) ≡ HART_ROW
  long = length-zipped max steps below (many ∙ sym many_below) ∙ many

  pub many_all : length all ≡ HART_ROW
  many_all = length-set (greater steps below) other (max (slice_index (greater steps below) other) after) ∙ long

  here : slice_index all other ≡ max (slice_index (greater steps below) other) after
  here = get_or-set_same (greater steps below) other (max (slice_index (greater steps below) other) after) 0 (omega (arith, long, lt))

  there : (g : ℕ) → g ≢ other → slice_index all g ≡ slice_index (greater steps below) g
  there g ne = get_or-set_other (greater steps below) other g (max (slice_index (greater steps below) other) after) 0 ne

  at : (g : ℕ) → g ≡ other → slice_index all g ≡ max (slice_index (greater steps below) g) after
  at g e = subst (λ (i : ℕ). slice_index all i ≡ max (slice_index (greater steps below) i) after) (sym e) here

  both : (g : ℕ) → (slice_index steps g ≤ slice_index all g) × (slice_index below g ≤ slice_index all g)
  both g = elim (same_or_not g other) [
    | inl same ↦ let is = at g same in let of = two g in (omega (arith, is, of), omega (arith, is, of))
    | inr ne ↦ let is = there g ne in let of = two g in (omega (arith, is, of), omega (arith, is, of))
  ]

  no_more : (g x : ℕ) → x < slice_index all g → (x < slice_index steps g) ⊎ ((x < slice_index below g) ⊎ ((g ≡ other) × (x < after)))
  no_more g x less = elim (cases_lt x (slice_index steps g)) [
    | inl in_steps ↦ inl in_steps
    | inr past ↦ elim (cases_lt x (slice_index below g)) [
      | inl in_below ↦ inr (inl in_below)
      | inr past_below ↦ elim (same_or_not g other) [
        | inl same ↦ let is = at g same in let of = two g in inr (inr (same, omega (arith, is, of, less, past, past_below)))
        | inr ne ↦ let is = there g ne in let of = two g in absurd (omega (arith, is, of, less, past, past_below))
      ]
    ]
  ]

  pub greatest : IsGreatest steps below all other after
  greatest = record { from_steps = λ g. (both g).0; from_below = λ g. (both g).1; named = omega (arith, here); no_more = no_more }
