-- The world stays one that comes in the theory: what a primary does.
use Rattle.std.proofs.Common.{◌≡◌, ℕ, ◌<◌, List, inl, inr, true, Contains, Some, None, refl, sym, ap, subst, ◌∙◌}
use Rattle.interleaving.specs.Lists.{put}
use Rattle.input_log.specs.Notes.{notes_of}
use Rattle.interleaving.proofs.Put.{same_or_not, put_same, put_other}
use Rattle.guest_image.specs.Image.{guest_of}
use Rattle.guest_image.specs.Machine.{MachineState}
use Rattle.page_book.specs.Books.{BookView}
use Rattle.book_modes.specs.Recordings.{RecordingView}
use Rattle.fragment_codec.specs.declared.frame.Frame.TheVariants.{Opening}
use Rattle.log_join.specs.Families.{Family}
use Rattle.hart_replay.specs.Primaries.{IsPrimary}
use Rattle.hart_replay.proofs.honesty.Sealing.{terms_go_on}
use Rattle.fenced_theory.specs.Machines.{ByRun}
use Rattle.failover_world.specs.machinery.Stopping as theory
use Rattle.book_recorder.specs.TermBooks.{IsTermBook, ComesOf}
use Rattle.book_recorder.proofs.Books.{later_are_term_books}
use Rattle.go_live.specs.Histories.{MakesLonger}
use Rattle.failover_world.specs.Worlds.{WorldView, term_of}
use Rattle.failover_world.specs.machinery.Tied.{TermBook, retold, retold_in, history, told_as, theory_world, quorum_of, live_book, live_term, IsTied}
use Rattle.failover_world.proofs.Places.{retold_put}
use Rattle.failover_world.proofs.Stopping.{steps}
use Rattle.primary.proofs.Put.{put_put}
use Rattle.failover_world.proofs.Before.{still_before, no_other_still}

-- the world with another book
abbrev pub with_book : WorldView → BookView RecordingView → WorldView
with_book v c = record v { primary = record v.primary { book = c } }

module _ (v : WorldView) (is : IsTied v) (c : BookView RecordingView) (runs : v.runs ≡ true) (on : ComesOf v.primary.book c) (primary : IsPrimary c) where
  pub new_book : IsTermBook v.image.pages c
  new_book = later_are_term_books v.image.pages v.primary.book c is.is_book on primary

  abbrev pub terms : Family (TermBook v.image.pages)
  terms = put is.terms (term_of v) (Some (live_book (with_book v c) is.pieces new_book))

  -- the book goes on in the theory
  stepped : theory.Comes is.is_recorder.recorder (guest_of v.image) (quorum_of v)
      (theory.stepped (theory_world v.image.pages is.are_theory (guest_of v.image) v is.terms is.notes is.marks is.out)
      (retold (told_as v.image.pages is.are_theory) (live_book v is.pieces is.is_book)) (is.are_theory.book c new_book))
  stepped =
      let b = is.are_theory.book v.primary.book is.is_book in
      let d = is.are_theory.book c new_book in
      let fact = ByRun b d (is.are_theory.on v.primary.book c is.is_book new_book on) in
      steps is.is_recorder.recorder (guest_of v.image) (quorum_of v) is.comes
      (retold (told_as v.image.pages is.are_theory) (live_book v is.pieces is.is_book)) d
      (ap (retold_in (told_as v.image.pages is.are_theory)) is.there) (fact, is.is_recorder.tells fact)

  pub comes_on : theory.Comes is.is_recorder.recorder (guest_of v.image) (quorum_of v)
      (theory_world v.image.pages is.are_theory (guest_of v.image) (with_book v c) terms is.notes is.marks is.out)
  comes_on =
      subst
      (λ t. theory.Comes is.is_recorder.recorder (guest_of v.image) (quorum_of v)
      (record (theory_world v.image.pages is.are_theory (guest_of v.image) v is.terms is.notes is.marks is.out) { terms = t }))
      (sym (retold_put (told_as v.image.pages is.are_theory) is.terms (term_of v) (Some (live_book (with_book v c) is.pieces new_book)))) stepped

  -- with these notes of the term, and those of other terms as they were
  pub goes_with : (notes : ℕ → ℕ → List (ℕ × ℕ)) →
      theory.Comes is.is_recorder.recorder (guest_of v.image) (quorum_of v)
      (theory_world v.image.pages is.are_theory (guest_of v.image) (with_book v c) terms notes is.marks is.out) →
      ((hart : ℕ) → notes (term_of v) hart ≡ notes_of c.mode.notes hart) → ((u : ℕ) → u < term_of v → notes u ≡ is.notes u) → IsTied (with_book v c)
  goes_with notes comes noted others =
      record {
        are_theory = is.are_theory;
        is_recorder = is.is_recorder;
        terms = put is.terms (term_of v) (Some (live_book (with_book v c) is.pieces new_book));
        notes = notes;
        marks = is.marks;
        out = is.out;
        comes = comes;
        went_out = is.went_out;
        no_more = is.no_more;
        gone_out = is.gone_out;
        noted = noted;
        noted_before = λ p has hart.
            ap (λ (f : ℕ → List (ℕ × ℕ)). f hart) (others p.opening.term (is.before p has).earlier) ∙ is.noted_before p has hart;
        marked = is.marked;
        pieces = is.pieces;
        is_book = new_book;
        there = put_same is.terms (term_of v) (term_of v) (Some (live_book (with_book v c) is.pieces new_book)) refl;
        of_book = terms_go_on v.primary.book c (live_term v is.pieces) is.of_book on.start on.tells;
        sealed = is.sealed;
        opened = λ u p at. elim (same_or_not (term_of v) u) [
          | inl same ↦
              let was = is.opened (term_of v) (live_book v is.pieces is.is_book) is.there in
              let e : Some (live_book (with_book v c) is.pieces new_book) ≡ Some p =
              sym (put_same is.terms (term_of v) u (Some (live_book (with_book v c) is.pieces new_book)) same) ∙ at in
              let o : v.primary.opening ≡ p.opening = cc in
              subst (λ o. Contains v.sent (Opening o)) o was
          | inr other ↦ is.opened u p (sym (put_other is.terms (term_of v) u (Some (live_book (with_book v c) is.pieces new_book)) other) ∙ at)
        ];
        longer =
            subst (λ (m : MachineState). MakesLonger v.image (history (put terms (term_of v) None)) (term_of v) m v.primary.opening) (sym on.start)
            (subst (λ (t : Family (TermBook v.image.pages)). MakesLonger v.image (history t) (term_of v) v.primary.book.start v.primary.opening)
            (sym (put_put is.terms (term_of v) (Some (live_book (with_book v c) is.pieces new_book)) None)) is.longer);
        before = λ p has.
            let b = is.before p has in still_before is.terms (term_of v) (term_of v) (live_book (with_book v c) is.pieces new_book) p b b.earlier;
        no_other = no_other_still is.terms (term_of v) v.stopped (live_book (with_book v c) is.pieces new_book) is.no_other;
      }

  pub goes_on : ((hart : ℕ) → notes_of c.mode.notes hart ≡ notes_of v.primary.book.mode.notes hart) → IsTied (with_book v c)
  goes_on noted = goes_with is.notes comes_on (λ hart. is.noted hart ∙ sym (noted hart)) (λ u less. refl)
