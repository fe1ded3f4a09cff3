-- What went out in a term is noted in the theory, hart by hart.
use Rattle.std.proofs.Common.{◌≡◌, ◌⊎◌, inl, inr, ℕ, zero, suc, ◌+◌, ◌<◌, ◌≤◌, min, Bool, true, false, cond, nat_lt, List, [], ◌∷◌, ◌++◌, filter}
use Rattle.std.proofs.Common.{Some, None, refl, sym, ap, subst, ◌∙◌, arith, lt-ltb}
use Rattle.std.proofs.lemmas.Bool.{cases_lt}
use Rattle.std.proofs.lemmas.List.Elements.{Contains-append_left, Contains-append_cases}
use Rattle.interleaving.specs.Lists.{put}
use Rattle.interleaving.proofs.Put.{same_or_not, put_same, put_other}
use Rattle.ft_types.specs.Guests.{GuestParts}
use Rattle.ft_types.specs.declared.names.TheConstants.{HART_LIMIT}
use Rattle.ft_types.specs.declared.output.Output.{Output}
use Rattle.input_log.specs.Notes.{noted, greatest}
use Rattle.log_join.specs.Families.{Past}
use Rattle.fenced_theory.specs.Notes.{IsNoting}
use Rattle.fenced_theory.specs.Recorders.{Recorder}
use Rattle.fenced_theory.specs.Worlds as theory
use Rattle.fenced_theory.proofs.Stores.{see}
use Rattle.primary.specs.Noting.{last_of, noted_to}
use Rattle.primary.proofs.Put.{put_own, put_put}
use Rattle.failover_world.proofs.Noting.{in_filter, to_filter}
use Rattle.process_world.proofs.Lists.{only_one}

-- ---- one note more

-- what a hart's log does with a note is what the theory's does
is_noting : (old : List (ℕ × ℕ)) (count number : ℕ) → IsNoting old count number (noted old count number)
is_noting old count number = go (nat_lt (greatest old) number)
  where
    go : (b : Bool) → IsNoting old count number (cond b (filter (λ x. nat_lt x.0 count) old ++ (count, number) ∷ []) old)
    go true =
        record {
          only = λ note has. elim (Contains-append_cases (filter (λ x. nat_lt x.0 count) old) ((count, number) ∷ []) note has) [
            | inl was ↦ inl (in_filter (λ x. nat_lt x.0 count) old note was).0
            | inr new ↦
                let same : (count, number) ≡ note = only_one (count, number) note new in
                inr (sym (ap (λ (x : ℕ × ℕ). x.0) same), sym (ap (λ (x : ℕ × ℕ). x.1) same))
          ];
          kept = λ note has below.
              Contains-append_left (filter (λ x. nat_lt x.0 count) old) ((count, number) ∷ []) note
              (to_filter (λ x. nat_lt x.0 count) old note has (lt-ltb note.0 count below));
        }
    go false = record { only = λ note has. inl has; kept = λ note has below. has }

-- ---- notes of what went out

-- the world comes with these notes of the term, and of other terms with those that they had
pub record IsNoted {Book Fact : Type 0} (recorder : Recorder Book Fact) (guest : GuestParts) (quorum : theory.Quorum) (w : theory.World Book) (term : ℕ)
    (new : ℕ → List (ℕ × ℕ)) : Type 0 where
  pub notes : ℕ → ℕ → List (ℕ × ℕ)
  pub comes : theory.Comes recorder guest quorum (record w { notes = notes })
  pub own : (hart : ℕ) → notes term hart ≡ new hart
  pub others : (u hart : ℕ) → (term ≡ u → ⊥) → notes u hart ≡ w.notes u hart

module _ {Book Fact : Type 0} (recorder : Recorder Book Fact) (guest : GuestParts) (quorum : theory.Quorum) (w : theory.World Book) (term : ℕ) (p : Past Book)
    (there : w.terms term ≡ Some p) (counts : ℕ → ℕ) (counted : (hart : ℕ) → recorder.counts p.told hart ≡ counts hart) (given : List Output)
    (old new : ℕ → List (ℕ × ℕ)) (were : (hart : ℕ) → w.notes term hart ≡ old hart)
    (are : (hart : ℕ) → new hart ≡ noted_to (last_of hart given) (counts hart) (old hart))
    (out : (hart last : ℕ) → last_of hart given ≡ Some last → (k : ℕ) → k < last + 1 → (k < w.marks term hart) ⊎ theory.WentOutBy w.released term hart k)
    (few : (hart last : ℕ) → last_of hart given ≡ Some last → hart < HART_LIMIT) where
  -- the term's notes, with those of the harts below the n-th as they are now
  rows : ℕ → ℕ → List (ℕ × ℕ)
  rows zero = w.notes term
  rows (suc n) = put (rows n) n (new n)

  -- the notes of all terms, with these
  abbrev its_notes : ℕ → ℕ → ℕ → List (ℕ × ℕ)
  its_notes n = put w.notes term (rows n)

  -- the world with these notes comes
  abbrev Comes : (ℕ → ℕ → List (ℕ × ℕ)) → Type 0
  Comes notes = theory.Comes recorder guest quorum (record w { notes = notes })

  -- of the others they are as they were
  not_yet : (n hart : ℕ) → n ≤ hart → rows n hart ≡ w.notes term hart
  unfolding rows
  not_yet zero hart le = refl
  not_yet (suc n) hart le = put_other (rows n) n hart (new n) (λ same. absurd (omega (arith, le, same))) ∙ not_yet n hart (omega (arith, le))

  -- of those below they are as they are now
  done : (n hart : ℕ) → hart < n → rows n hart ≡ new hart
  unfolding rows
  done zero hart less = absurd (omega (arith, less))
  done (suc n) hart less =
      elim (same_or_not n hart) [
        | inl same ↦ put_same (rows n) n hart (new n) same ∙ ap new same
        | inr other ↦ put_other (rows n) n hart (new n) other ∙ done n hart (below n hart less other)
      ]
    where
      below : (n hart : ℕ) → hart < suc n → (n ≡ hart → ⊥) → hart < n
      below n hart less other = elim (cases_lt hart n) [ inl lt ↦ lt | inr over ↦ absurd (other (omega (arith, less, over))) ]

  -- where none of the hart's went out its notes are as they were
  as_they_were : (hart : ℕ) → last_of hart given ≡ None → new hart ≡ w.notes term hart
  as_they_were hart none = are hart ∙ ap (λ last. noted_to last (counts hart) (old hart)) none ∙ sym (were hart)

  -- what the book did is a note of the theory
  is_note : (n last : ℕ) → last_of n given ≡ Some last →
      IsNoting (its_notes n term n) (recorder.counts p.told n) (min (last + 1) (counts n)) (new n)
  is_note n last some =
      let was : its_notes n term n ≡ old n =
      ap (λ (f : ℕ → List (ℕ × ℕ)). f n) (put_same w.notes term term (rows n) refl) ∙ not_yet n n (omega arith) ∙ were n in
      let now : new n ≡ noted (old n) (counts n) (min (last + 1) (counts n)) = are n ∙ ap (λ l. noted_to l (counts n) (old n)) some in
      subst (λ l. IsNoting l (recorder.counts p.told n) (min (last + 1) (counts n)) (new n)) (sym was)
      (subst (λ m. IsNoting (old n) m (min (last + 1) (counts n)) (new n)) (sym (counted n))
      (subst (IsNoting (old n) (counts n) (min (last + 1) (counts n))) (sym now) (is_noting (old n) (counts n) (min (last + 1) (counts n)))))

  -- one hart more, of which outputs went out
  one_more : (n last : ℕ) → last_of n given ≡ Some last → Comes (its_notes n) → Comes (its_notes (suc n))
  unfolding rows
  one_more n last some comes =
      let number : ℕ = min (last + 1) (counts n) in
      let same : put (its_notes n) term (put (its_notes n term) n (new n)) ≡ its_notes (suc n) =
      put_put w.notes term (rows n) (put (its_notes n term) n (new n))
      ∙ ap (λ (f : ℕ → List (ℕ × ℕ)). put w.notes term (put f n (new n))) (put_same w.notes term term (rows n) refl) in
      subst Comes same
      (theory.Then comes (theory.Note term p n number (new n) there (is_note n last some) (λ k less. out n last some k (omega (arith, less)))))

  -- one hart after the other
  comes_to : theory.Comes recorder guest quorum w → (n : ℕ) → Comes (its_notes n)
  unfolding rows
  comes_to comes zero = subst Comes (sym (put_own w.notes term (w.notes term) refl)) comes
  comes_to comes (suc n) =
      elim (see (last_of n given)) [
        | inl none ↦
            let same : put (rows n) n (new n) ≡ rows n = put_own (rows n) n (new n) (not_yet n n (omega arith) ∙ sym (as_they_were n none)) in
            subst (λ f. Comes (put w.notes term f)) (sym same) (comes_to comes n)
        | inr (last, some) ↦ one_more n last some (comes_to comes n)
      ]

  -- and then all
  all_done : (hart : ℕ) → rows HART_LIMIT hart ≡ new hart
  all_done hart =
      elim (cases_lt hart HART_LIMIT) [
        | inl less ↦ done HART_LIMIT hart less
        | inr over ↦
            not_yet HART_LIMIT hart over
            ∙ elim (see (last_of hart given)) [
              | inl none ↦ sym (as_they_were hart none)
              | inr (last, some) ↦ let less : hart < HART_LIMIT = few hart last some in absurd (omega (arith, less, over))
            ]
      ]

  -- the world comes in which it is noted
  pub notes_out : theory.Comes recorder guest quorum w → IsNoted recorder guest quorum w term new
  notes_out comes =
      record {
        notes = its_notes HART_LIMIT;
        comes = comes_to comes HART_LIMIT;
        own = λ hart. ap (λ (f : ℕ → List (ℕ × ℕ)). f hart) (put_same w.notes term term (rows HART_LIMIT) refl) ∙ all_done hart;
        others = λ u hart other. ap (λ (f : ℕ → List (ℕ × ℕ)). f hart) (put_other w.notes term u (rows HART_LIMIT) other);
      }
