-- The world stays one that comes in the theory: what went out is noted.
use Rattle.std.proofs.Common.{◌≡◌, ◌⊎◌, inl, inr, ℕ, zero, suc, ◌+◌, ◌<◌, ◌≤◌, min, Bool, true, false, cond, nat_lt, List, [], ◌∷◌, ◌++◌, filter, Contains, Some, None, refl, sym, ap, subst, ◌∙◌, arith, lt-ltb}
use Rattle.std.proofs.lemmas.Bool.{cases_lt}
use Rattle.std.proofs.lemmas.List.Elements.{Contains-append_left, Contains-append_right, Contains-append_cases}
use Rattle.interleaving.specs.Lists.{put}
use Rattle.interleaving.specs.Log.{Log as EdgesAndInputs}
use Rattle.interleaving.proofs.Put.{same_or_not, put_same, put_other}
use Rattle.interleaving.proofs.Cuts.{here, here_or_later}
use Rattle.ft_types.specs.declared.names.TheConstants.{HART_LIMIT}
use Rattle.ft_types.specs.declared.output.Output.{Output}
use Rattle.guest_image.specs.Image.{guest_of}
use Rattle.input_log.specs.declared.Input.{Input}
use Rattle.input_log.specs.Notes.{notes_of, noted, greatest}
use Rattle.hart_lease.specs.Runs.{counts_of}
use Rattle.page_book.specs.Books.{BookView}
use Rattle.book_modes.specs.Recordings.{RecordingView}
use Rattle.hart_replay.specs.Primaries.{IsPrimary}
use Rattle.output_gate.specs.Gates.{mark_at}
use Rattle.fenced_theory.specs.Notes.{IsNoting}
use Rattle.failover_world.specs.machinery.Stopping as theory
use Rattle.fenced_theory.proofs.Stores.{see}
use Rattle.book_recorder.specs.TermBooks.{ComesOf}
use Rattle.failover_world.specs.Worlds.{WorldView, term_of}
use Rattle.primary.specs.Noting.{last_of, noted_to, NotesAll}
use Rattle.failover_world.specs.machinery.Tied.{retold, retold_in, told_as, theory_world, quorum_of, live_book, IsTied}
use Rattle.primary.proofs.Put.{put_own, put_put}
use Rattle.failover_world.proofs.Stopping.{makes_note}
use Rattle.failover_world.proofs.Ties.{with_book, new_book, terms, comes_on, goes_with}

-- ---- one note more

pub in_filter : {A : Type 0} (p : A → Bool) (xs : List A) (x : A) → Contains (filter p xs) x → Contains xs x × (p x ≡ true)
in_filter p [] x (k, below, same) = absurd (omega (arith, below))
in_filter p (y ∷ xs) x has = go (p y) refl (in_filter p xs x) has
  where
    go : (b : Bool) → p y ≡ b → (Contains (filter p xs) x → Contains xs x × (p x ≡ true)) → Contains (cond b (y ∷ filter p xs) (filter p xs)) x →
        Contains (y ∷ xs) x × (p x ≡ true)
    go true is among has =
        elim (here_or_later y (filter p xs) x has) [
          | inl same ↦ (subst (Contains (y ∷ xs)) same (here y xs), subst (λ z. p z ≡ true) same is)
          | inr later ↦ let (at, holds) = among later in (Contains-append_right (y ∷ []) xs x at, holds)
        ]
    go false is among has = let (at, holds) = among has in (Contains-append_right (y ∷ []) xs x at, holds)

pub to_filter : {A : Type 0} (p : A → Bool) (xs : List A) (x : A) → Contains xs x → p x ≡ true → Contains (filter p xs) x
to_filter p [] x (k, below, same) passes = absurd (omega (arith, below))
to_filter p (y ∷ xs) x has passes = go (p y) refl (to_filter p xs x)
  where
    go : (b : Bool) → p y ≡ b → (Contains xs x → p x ≡ true → Contains (filter p xs) x) → Contains (cond b (y ∷ filter p xs) (filter p xs)) x
    go true is among =
        elim (here_or_later y xs x has) [
          | inl same ↦ subst (Contains (y ∷ filter p xs)) same (here y (filter p xs))
          | inr later ↦ Contains-append_right (y ∷ []) (filter p xs) x (among later passes)
        ]
    go false is among =
        elim (here_or_later y xs x has) [
          | inl same ↦ let yes : true ≡ false = sym passes ∙ ap p (sym same) ∙ is in cc
          | inr later ↦ among later passes
        ]

only_one : {A : Type 0} (x y : A) → Contains (x ∷ []) y → x ≡ y
only_one x y (zero, below, same) = same
only_one x y (suc k, below, same) = absurd (omega (arith, below))

is_noting : (old : List (ℕ × ℕ)) (count number : ℕ) → IsNoting old count number (noted old count number)
is_noting old count number = go (nat_lt (greatest old) number)
  where
    go : (b : Bool) → IsNoting old count number (cond b (filter (λ x. nat_lt x.0 count) old ++ (count, number) ∷ []) old)
    go true =
        record {
          only = λ note has. elim (Contains-append_cases (filter (λ x. nat_lt x.0 count) old) ((count, number) ∷ []) note has) [
            | inl was ↦ inl (in_filter (λ x. nat_lt x.0 count) old note was).0
            | inr new ↦
                let same : (count, number) ≡ note = only_one (count, number) note new in
                inr (sym (ap (λ (x : ℕ × ℕ). x.0) same), sym (ap (λ (x : ℕ × ℕ). x.1) same))
          ];
          kept = λ note has below.
              Contains-append_left (filter (λ x. nat_lt x.0 count) old) ((count, number) ∷ []) note
              (to_filter (λ x. nat_lt x.0 count) old note has (lt-ltb note.0 count below));
        }
    go false = record { only = λ note has. inl has; kept = λ note has below. has }

-- ---- the world, with a book that notes what went out

module _ (v : WorldView) (is : IsTied v) (c : BookView RecordingView) (runs : v.runs ≡ true) (on : ComesOf v.primary.book c) (primary : IsPrimary c)
    (given : List Output) (all : NotesAll given v.primary.book c)
    (out : (hart last : ℕ) → last_of hart given ≡ Some last → (k : ℕ) → k < last + 1 → (k < mark_at v.gate.gate hart) ⊎ theory.WentOut is.out hart k)
    (few : (hart last : ℕ) → last_of hart given ≡ Some last → hart < HART_LIMIT) where
  -- the term's notes, with those of the harts below the n-th as the book has them
  rows : ℕ → ℕ → List (ℕ × ℕ)
  rows zero = is.notes (term_of v)
  rows (suc n) = put (rows n) n (notes_of c.mode.notes n)

  abbrev its_notes : ℕ → ℕ → ℕ → List (ℕ × ℕ)
  its_notes n = put is.notes (term_of v) (rows n)

  abbrev Comes : (ℕ → ℕ → List (ℕ × ℕ)) → Type 0
  Comes notes =
      theory.Comes is.is_recorder.recorder (guest_of v.image) (quorum_of v)
      (theory_world v.image.pages is.are_theory (guest_of v.image) (with_book v c) (terms v is c runs on primary) notes is.marks is.out)

  not_yet : (n hart : ℕ) → n ≤ hart → rows n hart ≡ is.notes (term_of v) hart
  unfolding rows
  not_yet zero hart le = refl
  not_yet (suc n) hart le =
      put_other (rows n) n hart (notes_of c.mode.notes n) (λ same. absurd (omega (arith, le, same))) ∙ not_yet n hart (omega (arith, le))

  done : (n hart : ℕ) → hart < n → rows n hart ≡ notes_of c.mode.notes hart
  unfolding rows
  done zero hart less = absurd (omega (arith, less))
  done (suc n) hart less =
      elim (same_or_not n hart) [
        | inl same ↦ put_same (rows n) n hart (notes_of c.mode.notes n) same ∙ ap (notes_of c.mode.notes) same
        | inr other ↦ put_other (rows n) n hart (notes_of c.mode.notes n) other ∙ done n hart (below n hart less other)
      ]
    where
      below : (n hart : ℕ) → hart < suc n → (n ≡ hart → ⊥) → hart < n
      below n hart less other = elim (cases_lt hart n) [ inl lt ↦ lt | inr over ↦ absurd (other (omega (arith, less, over))) ]

  -- where none of the hart's went out its notes are as they were
  as_they_were : (hart : ℕ) → last_of hart given ≡ None → notes_of c.mode.notes hart ≡ is.notes (term_of v) hart
  as_they_were hart none =
      all.notes hart
      ∙ ap (λ last. noted_to last (counts_of v.primary.book.machine hart) (notes_of v.primary.book.mode.notes hart)) none
      ∙ sym (is.noted hart)

  counted : (hart : ℕ) → is.is_recorder.recorder.counts (is.are_theory.book c (new_book v is c runs on primary)) hart ≡ counts_of v.primary.book.machine hart
  counted hart =
      ap (λ f. f hart) (is.is_recorder.counts_are (is.are_theory.book c (new_book v is c runs on primary)))
      ∙ ap (λ (l : EdgesAndInputs (List Input)). l.end hart) (is.are_theory.log c (new_book v is c runs on primary))
      ∙ ap (λ (b : BookView RecordingView). counts_of b.machine hart) all.rest

  one_more : (n last : ℕ) → last_of n given ≡ Some last → Comes (its_notes n) → Comes (its_notes (suc n))
  unfolding rows
  one_more n last some comes =
      let count : ℕ = counts_of v.primary.book.machine n in
      let number : ℕ = min (last + 1) count in
      let old : List (ℕ × ℕ) = notes_of v.primary.book.mode.notes n in
      let was : its_notes n (term_of v) n ≡ old =
      ap (λ (f : ℕ → List (ℕ × ℕ)). f n) (put_same is.notes (term_of v) (term_of v) (rows n) refl) ∙ not_yet n n (omega arith) ∙ is.noted n in
      let new : notes_of c.mode.notes n ≡ noted old count number = all.notes n ∙ ap (λ l. noted_to l count old) some in
      let noting : IsNoting (its_notes n (term_of v) n) (is.is_recorder.recorder.counts (is.are_theory.book c (new_book v is c runs on primary)) n) number (notes_of c.mode.notes n) =
      subst (λ l. IsNoting l (is.is_recorder.recorder.counts (is.are_theory.book c (new_book v is c runs on primary)) n) number (notes_of c.mode.notes n)) (sym was)
      (subst (λ m. IsNoting old m number (notes_of c.mode.notes n)) (sym (counted n)) (subst (IsNoting old count number) (sym new) (is_noting old count number))) in
      let same : put (its_notes n) (term_of v) (put (its_notes n (term_of v)) n (notes_of c.mode.notes n)) ≡ its_notes (suc n) =
      put_put is.notes (term_of v) (rows n) (put (its_notes n (term_of v)) n (notes_of c.mode.notes n))
      ∙ ap (λ (f : ℕ → List (ℕ × ℕ)). put is.notes (term_of v) (put f n (notes_of c.mode.notes n))) (put_same is.notes (term_of v) (term_of v) (rows n) refl) in
      subst Comes same
      (makes_note is.is_recorder.recorder (guest_of v.image) (quorum_of v) comes
      (retold (told_as v.image.pages is.are_theory) (live_book (with_book v c) is.pieces (new_book v is c runs on primary))) n number
      (notes_of c.mode.notes n)
      (ap (retold_in (told_as v.image.pages is.are_theory))
      (put_same is.terms (term_of v) (term_of v) (Some (live_book (with_book v c) is.pieces (new_book v is c runs on primary))) refl))
      noting (λ k less.
      subst (λ mark. (k < mark) ⊎ theory.WentOut is.out n k) (sym (is.marked n)) (out n last some k (omega (arith, less)))))

  comes_to : (n : ℕ) → Comes (its_notes n)
  unfolding rows
  comes_to zero = subst Comes (sym (put_own is.notes (term_of v) (is.notes (term_of v)) refl)) (comes_on v is c runs on primary)
  comes_to (suc n) =
      elim (see (last_of n given)) [
        | inl none ↦
            let same : put (rows n) n (notes_of c.mode.notes n) ≡ rows n =
            put_own (rows n) n (notes_of c.mode.notes n) (not_yet n n (omega arith) ∙ sym (as_they_were n none)) in
            subst (λ f. Comes (put is.notes (term_of v) f)) (sym same) (comes_to n)
        | inr (last, some) ↦ one_more n last some (comes_to n)
      ]

  all_noted : (hart : ℕ) → rows HART_LIMIT hart ≡ notes_of c.mode.notes hart
  all_noted hart =
      elim (cases_lt hart HART_LIMIT) [
        | inl less ↦ done HART_LIMIT hart less
        | inr over ↦
            not_yet HART_LIMIT hart over
            ∙ elim (see (last_of hart given)) [
              | inl none ↦ sym (as_they_were hart none)
              | inr (last, some) ↦ let less : hart < HART_LIMIT = few hart last some in absurd (omega (arith, less, over))
            ]
      ]

  -- it is noted that the outputs went out
  pub notes_out : IsTied (with_book v c)
  notes_out =
      goes_with v is c runs on primary (its_notes HART_LIMIT) (comes_to HART_LIMIT)
      (λ hart. ap (λ (f : ℕ → List (ℕ × ℕ)). f hart) (put_same is.notes (term_of v) (term_of v) (rows HART_LIMIT) refl) ∙ all_noted hart)
      (λ u less. put_other is.notes (term_of v) u (rows HART_LIMIT) (λ same. absurd (omega (arith, less, same))))
