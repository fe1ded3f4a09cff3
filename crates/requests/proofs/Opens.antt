-- The first word without an answer, and those that are asked for again.
use Rattle.std.proofs.Common.{◌≡◌, ◌+◌, ◌<◌, ◌≤◌, ℕ, zero, suc, true, false, max, List, [], ◌∷◌, ◌++◌, Option, None, Some, length, take, set, get_or, inl, inr, refl, sym, ap, ◌∙◌, arith}
use Rattle.std.specs.Prelude.{slice_index, is_some}
use Rattle.std.proofs.lemmas.Bool.{cases_lt}
use Rattle.wire.specs.declared.requests.Request.{Request}
use Rattle.wire.specs.declared.requests.Request.TheVariants.{Word}
use Rattle.requests.specs.Asking.{first_open, open_words}

-- ---- the first one

pub open_within : (answers : List (Option ℕ)) → first_open answers ≤ length answers
open_within [] = omega arith
open_within (None ∷ answers) = omega arith
open_within (Some word ∷ answers) = omega (arith, open_within answers)

-- it is no later than one without an answer
pub open_at_most : (answers : List (Option ℕ)) (n : ℕ) → is_some (get_or answers n None) ≡ false → n < length answers → first_open answers ≤ n
open_at_most [] n e lt = omega arith
open_at_most (None ∷ answers) n e lt = omega arith
open_at_most (Some word ∷ answers) zero e lt = absurd cc
open_at_most (Some word ∷ answers) (suc n) e lt = omega (arith, open_at_most answers n e (omega arith))

-- and later than one that has its answer, before which all have theirs
pub open_past : (answers : List (Option ℕ)) (n : ℕ) → n ≤ first_open answers → is_some (get_or answers n None) ≡ true → suc n ≤ first_open answers
open_past [] n le e = absurd cc
open_past (None ∷ answers) zero le e = absurd cc
open_past (None ∷ answers) (suc n) le e = omega arith
open_past (Some had ∷ answers) zero le e = omega arith
open_past (Some had ∷ answers) (suc n) le e = omega (arith, open_past answers n (omega arith) e)

-- an answer more
pub open_raised : (answers : List (Option ℕ)) (n word : ℕ) → first_open answers ≤ first_open (set answers n (Some word))
open_raised [] n word = omega arith
open_raised (None ∷ answers) n word = omega arith
open_raised (Some had ∷ answers) zero word = omega arith
open_raised (Some had ∷ answers) (suc n) word = omega (arith, open_raised answers n word)

-- ---- those that are asked for again

-- none of those before the first
pub open_none : (hart number n : ℕ) (words : List ℕ) (answers : List (Option ℕ)) → n ≤ first_open answers → open_words hart number (take n words) answers ≡ []
open_none hart number zero words answers le = refl
open_none hart number (suc n) [] answers le = refl
open_none hart number (suc n) (word ∷ words) [] le = refl
open_none hart number (suc n) (word ∷ words) (None ∷ answers) le = absurd (omega arith)
open_none hart number (suc n) (word ∷ words) (Some had ∷ answers) le = open_none hart (suc number) n words answers (omega arith)

request_at : (hart : ℕ) (words : List ℕ) (n m k : ℕ) → m ≡ k → Word hart (slice_index words n) (Some m) ≡ Word hart (slice_index words n) (Some k)
request_at hart words n m k e = ap (λ (j : ℕ). Word hart (slice_index words n) (Some j)) e

-- one without an answer is the next
pub open_more : (hart number n : ℕ) (words : List ℕ) (answers : List (Option ℕ)) → n < length words → n < length answers →
    is_some (get_or answers n None) ≡ false →
    open_words hart number (take (suc n) words) answers
    ≡ open_words hart number (take n words) answers ++ Word hart (slice_index words n) (Some (number + n)) ∷ []
open_more hart number n [] answers lt within e = absurd (omega arith)
open_more hart number n (word ∷ words) [] lt within e = absurd (omega arith)
open_more hart number zero (word ∷ words) (None ∷ answers) lt within e = ap (λ (r : Request). r ∷ [])
    (ap (λ (k : ℕ). Word hart word (Some k)) (omega arith))
open_more hart number zero (word ∷ words) (Some had ∷ answers) lt within e = absurd cc
open_more hart number (suc n) (word ∷ words) (None ∷ answers) lt within e =
    ap (λ (rs : List Request). Word hart word (Some number) ∷ rs) (open_more hart (suc number) n words answers (omega arith) (omega arith) e
    ∙ ap (λ (r : Request). open_words hart (suc number) (take n words) answers ++ r ∷ []) (request_at hart words n (suc number + n) (number + suc n) (omega arith)))
open_more hart number (suc n) (word ∷ words) (Some had ∷ answers) lt within e =
    open_more hart (suc number) n words answers (omega arith) (omega arith) e
    ∙ ap (λ (r : Request). open_words hart (suc number) (take n words) answers ++ r ∷ []) (request_at hart words n (suc number + n) (number + suc n) (omega arith))

-- one that has its answer is not asked for
pub open_past_one : (hart number n : ℕ) (words : List ℕ) (answers : List (Option ℕ)) → is_some (get_or answers n None) ≡ true →
    open_words hart number (take (suc n) words) answers ≡ open_words hart number (take n words) answers
open_past_one hart number zero [] answers e = refl
open_past_one hart number (suc n) [] answers e = refl
open_past_one hart number n (w ∷ words) [] e = absurd cc
open_past_one hart number zero (w ∷ words) (None ∷ answers) e = absurd cc
open_past_one hart number zero (w ∷ words) (Some had ∷ answers) e = refl
open_past_one hart number (suc n) (w ∷ words) (None ∷ answers) e =
    ap (λ (rs : List Request). Word hart w (Some number) ∷ rs) (open_past_one hart (suc number) n words answers e)
open_past_one hart number (suc n) (w ∷ words) (Some had ∷ answers) e = open_past_one hart (suc number) n words answers e

-- behind those that were asked for, or the first one, there are no more
pub open_end : (hart first sent n : ℕ) (words : List ℕ) (answers : List (Option ℕ)) → first ≡ first_open answers → sent ≤ n → n ≤ max first sent →
    open_words hart 0 (take n words) answers ≡ open_words hart 0 (take sent words) answers
open_end hart first sent n words answers is ge le =
    elim (cases_lt sent first) [
      | inl lt ↦ open_none hart 0 n words answers (omega arith) ∙ sym (open_none hart 0 sent words answers (omega arith))
      | inr over ↦ ap (λ (k : ℕ). open_words hart 0 (take k words) answers) (let e : n ≡ sent = omega arith in e)
    ]

-- ---- one number after the other

pub open_one : (hart n : ℕ) (words : List ℕ) (answers : List (Option ℕ)) → n < length words → n < length answers → is_some (get_or answers n None) ≡ false →
    open_words hart 0 (take (n + 1) words) answers ≡ open_words hart 0 (take n words) answers ++ Word hart (slice_index words n) (Some n) ∷ []
open_one hart n words answers lt within e =
    ap (λ (k : ℕ). open_words hart 0 (take k words) answers) (let s : n + 1 ≡ suc n = omega arith in s)
    ∙ open_more hart 0 n words answers lt within e
    ∙ ap (λ (r : Request). open_words hart 0 (take n words) answers ++ r ∷ []) (request_at hart words n (0 + n) n (omega arith))

pub open_kept : (hart n : ℕ) (words : List ℕ) (answers : List (Option ℕ)) → is_some (get_or answers n None) ≡ true →
    open_words hart 0 (take (n + 1) words) answers ≡ open_words hart 0 (take n words) answers
open_kept hart n words answers e =
    ap (λ (k : ℕ). open_words hart 0 (take k words) answers) (let s : n + 1 ≡ suc n = omega arith in s) ∙ open_past_one hart 0 n words answers e

-- what stands at a place does so whatever stands in for none
pub same_at : (answers : List (Option ℕ)) (n : ℕ) (o : Option ℕ) → n < length answers → o ≡ get_or answers n o → get_or answers n None ≡ o
same_at [] n o lt e = absurd (omega arith)
same_at (x ∷ answers) zero o lt e = sym e
same_at (x ∷ answers) (suc n) o lt e = same_at answers n o (omega arith) e
