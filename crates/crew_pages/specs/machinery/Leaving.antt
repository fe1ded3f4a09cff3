-- Counts on leaving, as flags beside counts.
use Rattle.std.specs.Prelude.{◌≡◌, ℕ, List, [], ◌∷◌, Bool, true, false, Option, Some, None, length, refl}
use Rattle.std.proofs.Common.{ap, sym, ◌∙◌, arith}
use Rattle.ft_types.specs.declared.names.TheConstants.{HART_ROW}
use Rattle.crew_pages.specs.machinery.Reach.{reach_of}

-- of each hart that has a flag its count
abbrev pub left_of : List Bool → List ℕ → List (Option ℕ)
left_of flags [] = []
left_of [] (count ∷ counts) = None ∷ left_of [] counts
left_of (true ∷ flags) (count ∷ counts) = Some count ∷ left_of flags counts
left_of (false ∷ flags) (count ∷ counts) = None ∷ left_of flags counts

abbrev pub harts_of : List (Option ℕ) → List Bool
harts_of [] = []
harts_of (None ∷ left) = false ∷ harts_of left
harts_of (Some count ∷ left) = true ∷ harts_of left

abbrev pub counts_of : List (Option ℕ) → List ℕ
counts_of [] = []
counts_of (None ∷ left) = 0 ∷ counts_of left
counts_of (Some count ∷ left) = count ∷ counts_of left

-- the count of each hart that has no flag is 0
abbrev pub AreBlank : List Bool → List ℕ → Type 0
AreBlank flags [] = Unit {0}
AreBlank [] (count ∷ counts) = (count ≡ 0) × AreBlank [] counts
AreBlank (true ∷ flags) (count ∷ counts) = AreBlank flags counts
AreBlank (false ∷ flags) (count ∷ counts) = (count ≡ 0) × AreBlank flags counts

-- what the flags and counts keep, of which the reach is this one
pub record AreLeft (flags : List Bool) (counts : List ℕ) (reach : ℕ) : Type 0 where
  pub flag_each : length flags ≡ HART_ROW
  pub count_each : length counts ≡ HART_ROW
  pub blank : AreBlank flags counts
  pub reaches : reach_of (left_of flags counts) ≡ reach

flags_again : (flags : List Bool) (counts : List ℕ) → length flags ≡ length counts → harts_of (left_of flags counts) ≡ flags
flags_again [] [] long = refl
flags_again (flag ∷ flags) [] long = absurd (omega (arith, long))
flags_again [] (count ∷ counts) long = absurd (omega (arith, long))
flags_again (true ∷ flags) (count ∷ counts) long = ap (λ (fs : List Bool). true ∷ fs) (flags_again flags counts (omega (arith, long)))
flags_again (false ∷ flags) (count ∷ counts) long = ap (λ (fs : List Bool). false ∷ fs) (flags_again flags counts (omega (arith, long)))

counts_again : (flags : List Bool) (counts : List ℕ) → AreBlank flags counts → counts_of (left_of flags counts) ≡ counts
counts_again flags [] blank = refl
counts_again [] (count ∷ counts) blank = ap (λ (c : ℕ). c ∷ counts_of (left_of [] counts)) (sym blank.0) ∙ ap (λ (cs : List ℕ). count ∷ cs) (counts_again [] counts blank.1)
counts_again (true ∷ flags) (count ∷ counts) blank = ap (λ (cs : List ℕ). count ∷ cs) (counts_again flags counts blank)
counts_again (false ∷ flags) (count ∷ counts) blank =
    ap (λ (c : ℕ). c ∷ counts_of (left_of flags counts)) (sym blank.0) ∙ ap (λ (cs : List ℕ). count ∷ cs) (counts_again flags counts blank.1)

-- both come back from what they say
pub harts_back : {flags : List Bool} {counts : List ℕ} {reach : ℕ} → AreLeft flags counts reach → harts_of (left_of flags counts) ≡ flags
harts_back {flags} {counts} are = flags_again flags counts (are.flag_each ∙ sym are.count_each)

pub counts_back : {flags : List Bool} {counts : List ℕ} {reach : ℕ} → AreLeft flags counts reach → counts_of (left_of flags counts) ≡ counts
counts_back {flags} {counts} are = counts_again flags counts are.blank
