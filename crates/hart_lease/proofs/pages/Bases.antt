-- Pages that were taken to write, as they were lent.
use Rattle.std.proofs.Common.{◌≡◌, ◌≢◌, ◌∙◌, ◌<◌, ◌⊎◌, inl, inr, ℕ, List, Option, None, Some, length, slice_set, slice_index_or, sym, ap, get_or-set_same}
use Rattle.std.proofs.Common.{get_or-set_other, zero, suc, replicate, refl}
use Rattle.rv32_hart.proofs.QuietRuns.{same_or_other}
use Rattle.ft_types.specs.declared.names.Want.TheVariants.{Read, Write}
use Rattle.hart_lease.specs.declared.taken.Taken.{Taken}
use Rattle.hart_lease.specs.Taken.{taken_at, taking, right_of_taken, HaveBases}

right_again : (held : Option Taken) (count : ℕ) → right_of_taken (Some (taking held Read count)) ≡ Some Write → right_of_taken held ≡ Some Write
right_again None count is = cc
right_again (Some taken) count is = is

read_at : (taken : List (Option Taken)) (bases : List (Option (List ℕ))) (page count q : ℕ) → page < length taken → HaveBases taken bases →
    (q ≡ page) ⊎ (q ≢ page) →
    right_of_taken (taken_at (slice_set taken page (Some (taking (taken_at taken page) Read count))) q) ≡ Some Write → slice_index_or bases q None ≢ None
read_at taken bases page count q row all (inl same) is =
    all q (ap (λ (r : ℕ). right_of_taken (taken_at taken r)) same ∙ right_again (taken_at taken page) count
    (sym (ap right_of_taken (get_or-set_same taken page (Some (taking (taken_at taken page) Read count)) None row)) ∙
    (sym (ap (λ (r : ℕ). right_of_taken (taken_at (slice_set taken page (Some (taking (taken_at taken page) Read count))) r)) same) ∙ is)))
read_at taken bases page count q row all (inr ne) is =
    all q (sym (ap right_of_taken (get_or-set_other taken page q (Some (taking (taken_at taken page) Read count)) None ne)) ∙ is)

-- a page more to read
pub based_read : (taken : List (Option Taken)) (bases : List (Option (List ℕ))) (page count : ℕ) → page < length taken → HaveBases taken bases →
    HaveBases (slice_set taken page (Some (taking (taken_at taken page) Read count))) bases
based_read taken bases page count row all = λ q is. read_at taken bases page count q row all (same_or_other q page) is

written_at : (taken : List (Option Taken)) (bases : List (Option (List ℕ))) (page count q : ℕ) (base : List ℕ) → page < length bases → HaveBases taken bases →
    (q ≡ page) ⊎ (q ≢ page) →
    right_of_taken (taken_at (slice_set taken page (Some (taking (taken_at taken page) Write count))) q) ≡ Some Write →
    slice_index_or (slice_set bases page (Some base)) q None ≢ None
written_at taken bases page count q base row all (inl same) is = λ none.
    let there : slice_index_or (slice_set bases page (Some base)) q None ≡ Some base =
    ap (λ (r : ℕ). slice_index_or (slice_set bases page (Some base)) r None) same ∙ get_or-set_same bases page (Some base) None row in
    cc
written_at taken bases page count q base row all (inr ne) is = λ none.
    all q (sym (ap right_of_taken (get_or-set_other taken page q (Some (taking (taken_at taken page) Write count)) None ne)) ∙ is)
    (sym (get_or-set_other bases page q (Some base) None ne) ∙ none)

-- a page more to write
pub based_write : (taken : List (Option Taken)) (bases : List (Option (List ℕ))) (page count : ℕ) (base : List ℕ) → page < length bases → HaveBases taken bases →
    HaveBases (slice_set taken page (Some (taking (taken_at taken page) Write count))) (slice_set bases page (Some base))
based_write taken bases page count base row all = λ q is. written_at taken bases page count q base row all (same_or_other q page) is

none_at : (n page : ℕ) → taken_at (replicate n None) page ≡ None
none_at zero page = refl
none_at (suc n) zero = refl
none_at (suc n) (suc page) = none_at n page

-- no page yet
pub based_none : (bases : List (Option (List ℕ))) (n : ℕ) → HaveBases (replicate n None) bases
based_none bases n = λ page is. let h : right_of_taken None ≡ Some Write = sym (ap right_of_taken (none_at n page)) ∙ is in cc
