-- What goes from the front of a queue.
use Rattle.std.proofs.Common.{◌≡◌, ℕ, suc, ◌+◌, ◌-◌, ◌<◌, Bool, true, false, cond, List, [], ◌∷◌, ◌++◌, length, get_or, take, drop, map, leb, Option, None}
use Rattle.std.proofs.Common.{Some, arith, refl, sym, ap, ◌∙◌, true≢false}
use Rattle.std.specs.List.{take_while}
use Rattle.std.specs.Option.{option_to_list}
use Rattle.std.proofs.Math.Seq.{take-nil, drop-nil}
use Rattle.std.proofs.lemmas.List.{append_assoc, map-append}
use Rattle.std.proofs.lemmas.List.Sums.{take_while-cons}
use Rattle.input_log.specs.declared.WaitingInput.{WaitingInput}
use Rattle.input_log.specs.Waiting.{others_going, others_staying}

-- ---- while elements pass

module _ {A : Type 0} (p : A → Bool) where
  first_passes : (room : ℕ) (x : A) (xs : List A) → p x ≡ true → take (suc room) (take_while p (x ∷ xs)) ≡ x ∷ take room (take_while p xs)
  first_passes room x xs passes = ap (take (suc room)) (take_while-cons p x xs ∙ ap (λ b. cond b (x ∷ take_while p xs) []) passes)

  first_stops : (room : ℕ) (x : A) (xs : List A) → p x ≡ false → take room (take_while p (x ∷ xs)) ≡ []
  first_stops room x xs stops =
      ap (take room) (take_while-cons p x xs ∙ ap (λ b. cond b (x ∷ take_while p xs) []) stops) ∙ take-nil room

-- ---- one step of a queue

-- the first goes, and what follows goes as if it had never been there
pub goes_first : (n : ℕ) (old new : List WaitingInput) (first : Option WaitingInput) (goes : Bool) → goes ≡ true →
    (old ≡ [] → goes ≡ false) → ((w : WaitingInput) (rest : List WaitingInput) → old ≡ w ∷ rest → goes ≡ leb w.not_before n) →
    ((d : WaitingInput) → 0 < length old → first ≡ Some (get_or old 0 d)) → new ≡ drop 1 old →
    (room : ℕ) → others_going n (suc room) old ≡ option_to_list first ++ others_going n room new
goes_first n [] new first goes is none at value rest room = absurd (true≢false (sym is ∙ none refl))
goes_first n (x ∷ xs) new first goes is none at value rest room =
    rw (value x (omega arith), rest) (first_passes (λ w. leb w.not_before n) room x xs (sym (at x xs refl) ∙ is))

pub stays_behind : (n : ℕ) (old new : List WaitingInput) (goes : Bool) → goes ≡ true →
    (old ≡ [] → goes ≡ false) → ((w : WaitingInput) (rest : List WaitingInput) → old ≡ w ∷ rest → goes ≡ leb w.not_before n) →
    new ≡ drop 1 old → (room : ℕ) → others_staying n (suc room) old ≡ others_staying n room new
stays_behind n [] new goes is none at rest room = absurd (true≢false (sym is ∙ none refl))
stays_behind n (x ∷ xs) new goes is none at rest room =
    rw (rest, first_passes (λ w. leb w.not_before n) room x xs (sym (at x xs refl) ∙ is)) refl

-- the first stays, and so does what follows
pub none_goes : (n : ℕ) (old : List WaitingInput) (goes : Bool) → goes ≡ false →
    ((w : WaitingInput) (rest : List WaitingInput) → old ≡ w ∷ rest → goes ≡ leb w.not_before n) →
    (room : ℕ) → others_going n room old ≡ []
none_goes n [] goes is at room = take-nil room
none_goes n (x ∷ xs) goes is at room = first_stops (λ w. leb w.not_before n) room x xs (sym (at x xs refl) ∙ is)

-- ---- a loop that moves what goes

-- one step of n, the last but k
pub steps_left : (n k : ℕ) → k < n → n - k ≡ suc (n - (k + 1))
steps_left n k less = omega arith

module _ {A B : Type 0} (f : A → B) where
  -- what was moved stands before what is still to be moved
  pub moved : (out next : List B) (r : Option A) (more rest : List A) → more ≡ option_to_list r ++ rest → next ≡ out ++ map f (option_to_list r) →
      next ++ map f rest ≡ out ++ map f more
  moved out next r more rest is pushed =
      rw (is, pushed, map-append f (option_to_list r) rest) (append_assoc out (map f (option_to_list r)) (map f rest))

module _ {A : Type 0} (n k : ℕ) (less : k < n) (new : List A) where
  -- a queue gives its first, where it has one
  pub taken_first : (old : List A) (r : Option A) → old ≡ option_to_list r ++ new → ((d : A) → 0 < length old → r ≡ Some (get_or old 0 d)) →
      take (n - k) old ≡ option_to_list r ++ take (n - (k + 1)) new
  taken_first old (Some x) items value = rw (steps_left n k less, items) refl
  taken_first [] None items value = rw (← items, take-nil {A = A} (n - (k + 1)), take-nil {A = A} (n - k)) refl
  taken_first (x ∷ xs) None items value = let h : None ≡ Some x = value x (omega arith) in cc

  -- and what is behind it stays
  pub left_behind : (old : List A) (r : Option A) → old ≡ option_to_list r ++ new → ((d : A) → 0 < length old → r ≡ Some (get_or old 0 d)) →
      drop (n - (k + 1)) new ≡ drop (n - k) old
  left_behind old (Some x) items value = rw (steps_left n k less, items) refl
  left_behind [] None items value = rw (← items, drop-nil {A = A} (n - (k + 1)), drop-nil {A = A} (n - k)) refl
  left_behind (x ∷ xs) None items value = let h : None ≡ Some x = value x (omega arith) in cc
