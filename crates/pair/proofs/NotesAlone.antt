-- A primary's book, of which nothing is another but its notes.
use Rattle.std.proofs.Common.{◌≡◌, ◌≤◌, ◌⊎◌, ◌++◌, ⊎_elim, ℕ, Bool, true, false, List, [], ◌∷◌, Result, Ok, Err, OnOk, OnErr, filter, if◌then◌else◌, nat_lt, inl, inr, sym, subst}
use Rattle.std.specs.List.{Contains}
use Rattle.std.proofs.lemmas.Bool.{cases_eq}
use Rattle.std.proofs.lemmas.List.Elements.{All-contains, All-contains_itself, All-filter, Contains-push_cases}
use Rattle.input_log.specs.Notes.{greatest, notes_of}
use Rattle.hart_lease.specs.Runs.{counts_of}
use Rattle.page_book.specs.Books.{BookView}
use Rattle.page_book.specs.Tellings.{OnlyNotes}
use Rattle.page_book.proofs.Tellings.{only_notes_none, only_one_noted}
use Rattle.book_modes.specs.Recordings.{RecordingView, IsNoting}
use Rattle.pair.specs.Released.{NotesUpTo}

-- a note was made, or memory was refused
pub noted_or_not : {A E : Type 0} (r : Result A E) (b c : BookView RecordingView) (hart number : ℕ) →
    OnOk r (IsNoting b.mode hart (counts_of b.machine hart) number c.mode) → c ≡ record b { mode = c.mode } → OnErr r (c ≡ b) → OnlyNotes b c
noted_or_not (Ok x) b c hart number noted book same = only_one_noted b c hart number noted book
noted_or_not (Err e) b c hart number noted book same = subst (OnlyNotes b) (sym same) (only_notes_none b)

-- one note more, or none
picked : (more : Bool) (notes : List (ℕ × ℕ)) (stays : ℕ × ℕ → Bool) (at number many : ℕ) → number ≤ many → (x : ℕ × ℕ) →
    Contains (if more then filter stays notes ++ (at, number) ∷ [] else notes) x → Contains notes x ⊎ (x.1 ≤ many)
picked true notes stays at number many few x there = ⊎_elim
    (λ (was : Contains (filter stays notes) x).
    inl (All-contains (Contains notes) (filter stays notes) x (All-filter stays (Contains notes) notes (All-contains_itself notes)) was))
    (λ (is : (at, number) ≡ x). inr (subst (λ (y : ℕ × ℕ). y.1 ≤ many) is few))
    (Contains-push_cases (filter stays notes) (at, number) x there)
picked false notes stays at number many few x there = inl there

-- it tells of no more outputs than that
pub notes_up_to : {A E : Type 0} (r : Result A E) (b c : BookView RecordingView) (hart number many : ℕ) →
    OnOk r (IsNoting b.mode hart (counts_of b.machine hart) number c.mode) → OnErr r (c ≡ b) → number ≤ many → NotesUpTo b hart many c
notes_up_to (Ok y) b c hart number many is same few other x there = elim (cases_eq other hart) [
  | inl here ↦
      let notes = notes_of b.mode.notes hart in
      ⊎_elim
      (λ (was : Contains notes x). inl (subst (λ (h : ℕ). Contains (notes_of b.mode.notes h) x) (sym here) was))
      (λ (le : x.1 ≤ many). inr (here, le))
      (picked (nat_lt (greatest notes) number) notes (λ y. nat_lt y.0 (counts_of b.machine hart)) (counts_of b.machine hart) number many few x
      (subst (λ (xs : List (ℕ × ℕ)). Contains xs x) is.noted (subst (λ (h : ℕ). Contains (notes_of c.mode.notes h) x) here there)))
  | inr ne ↦ inl (subst (λ (xs : List (ℕ × ℕ)). Contains xs x) (is.others other ne) there)
]
notes_up_to (Err e) b c hart number many is same few other x there =
    inl (subst (λ (v : BookView RecordingView). Contains (notes_of v.mode.notes other) x) same there)

-- nor does a book that is as it was
pub notes_none : (b : BookView RecordingView) (hart many : ℕ) → NotesUpTo b hart many b
notes_none b hart many other x there = inl there
