-- A row of counts in HART_ROW words.
use Rattle.std.specs.Prelude.{◌≡◌, ℕ, ◌-◌, ◌≤◌, List, ◌++◌, length, take, drop, refl}
use Rattle.std.specs.List.{AllByRecursion}
use Rattle.std.proofs.Common.{arith, replicate}
use Rattle.std.proofs.lemmas.List.{take-append-drop}
use Rattle.std.proofs.lemmas.Grind.{common_steps}
use Rattle.ft_types.specs.Counts.{IsCount}
use Rattle.ft_types.specs.declared.names.TheConstants.{HART_LIMIT, HART_ROW}

-- the first `harts` words are counts, and the others are 0
pub record IsRow (row : List ℕ) (harts : ℕ) : Type 0 where
  pub limit : harts ≤ HART_LIMIT
  pub words : length row ≡ HART_ROW
  pub counts : AllByRecursion IsCount row
  pub rest : drop harts row ≡ replicate (HART_ROW - harts) 0

pub length_of_view : (row : List ℕ) (harts : ℕ) → IsRow row harts → length (take harts row) ≡ harts
length_of_view row harts h = grind (arith, common_steps, h.limit, h.words)

-- the view has all of the words
pub words_of_view : (row : List ℕ) (harts : ℕ) → IsRow row harts →
    take harts row ++ replicate (HART_ROW - length (take harts row)) 0 ≡ row
words_of_view row harts h = rw (length_of_view row harts h, ← h.rest, take-append-drop) refl
