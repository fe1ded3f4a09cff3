-- What holds of the outputs that went out, by the theory of failover.
use Rattle.std.proofs.Common.{◌≡◌, ℕ, zero, suc, ◌<◌, List, [], ◌∷◌, map, slice_get, Contains, Option, Some, None, inl, inr, refl, sym, ap, subst, ◌∙◌}
use Rattle.ft_types.specs.Counts.{count_at}
use Rattle.input_log.specs.Notes.{notes_of}
use Rattle.rv32_hart.specs.Hart.{Hart}
use Rattle.guest_image.specs.Image.{guest_of}
use Rattle.hart_lease.specs.Runs.{LeadsTo}
use Rattle.book_modes.specs.Recordings.{heard_by}
use Rattle.fragment_codec.specs.declared.frame.Frame.TheVariants.{Opening}
use Rattle.ft_types.specs.Guests.{IsGuest}
use Rattle.fragment_codec.specs.Rules.{OpeningParts}
use Rattle.log_join.specs.Families.{Past}
use Rattle.ft_types.specs.declared.position.Position.{Position}
use Rattle.primary.specs.declared.granted.Primary.{Primary}
use Rattle.primary.specs.declared.released.Released.{Released}
use Rattle.log_join.specs.Stores.{nothing}
use Rattle.log_join.proofs.Families.{granted_opening}
use Rattle.book_recorder.specs.TermBooks.{outputs_of}
use Rattle.fenced_theory.specs.Recorders.{Output as TheoryOutput}
use Rattle.fenced_theory.specs.Families.{Keeps, Here as IsHere, Above as IsAbove, IsInside}
use Rattle.fenced_theory.specs.Laws.{has_acked, IsFailover, AreRightNotes}
use Rattle.fenced_theory.specs.Worlds.{World}
use Rattle.fenced_theory.proofs.Events.{failover}
use Rattle.fenced_theory.proofs.Noted.{right_notes}
use Rattle.fenced_theory.proofs.Ruled.{ruled}
use Rattle.failover_world.specs.machinery.Stopping as theory
use Rattle.failover_world.specs.machinery.Stopping.{beside}
use Rattle.failover_world.specs.Worlds.{WorldView}
use Rattle.primary.specs.Outputs.{said_by}
use Rattle.failover_world.specs.Promises.{IsInChain, Here, Above, IsInside as IsInsideHere, IsOne, IsOfMachine, IsKept, AreHeld, AreAckedInside, IsPrimaryOf, AreNotesReleased, NoneIsNoted}
use Rattle.failover_world.specs.machinery.Tied.{Books, retold, retold_in, told_as, theory_released, theory_world, quorum_of, live_book, IsTied}
use Rattle.failover_world.proofs.Places.{there_too}
use Rattle.failover_world.proofs.Stopping.{current, acked_inside}
use Rattle.failover_world.proofs.Releasing.{outputs_are}

unmapped : {A B : Type 0} (f : A → B) (xs : List A) (n : ℕ) (y : B) → slice_get (map f xs) n ≡ Some y → (x : A) × (slice_get xs n ≡ Some x) × (f x ≡ y)
unmapped f [] n y is = absurd cc
unmapped f (x ∷ xs) zero y is = (x, refl, let e : f x ≡ y = cc in e)
unmapped f (x ∷ xs) (suc n) y is = unmapped f xs n y is

out_of_theory : (h : Option Hart) (n step word : ℕ) → slice_get (outputs_of h) n ≡ Some (record { step = step; word = word }) →
    slice_get (said_by h) n ≡ Some (step, word)
out_of_theory None n step word is = absurd cc
out_of_theory (Some h) n step word is =
    let (x, at, same) = unmapped (λ (o : ℕ × ℕ). as_output o) h.outputs n (record { step = step; word = word }) is in
    at ∙ ap (λ (o : TheoryOutput). Some (o.step, o.word)) same
  where
    as_output : ℕ × ℕ → TheoryOutput
    as_output o = record { step = o.0; word = o.1 }

-- what is told of a term is of a term that is there, with its opening
pub untold : {A B : Type 0} (f : A → B) (x : Option (Past A)) (q : Past B) → retold_in f x ≡ Some q → (p : Past A) × (x ≡ Some p) × (p.opening ≡ q.opening)
untold f None q is = absurd cc
untold f (Some p) q is = (p, refl, let e : retold f p ≡ q = cc in ap (λ (r : Past _). r.opening) e)

module _ (v : WorldView) (is : IsTied v) where
  -- the theory's world beside it, and its laws
  abbrev world : World (Books v.image.pages is.are_theory)
  world = beside (theory_world v.image.pages is.are_theory (guest_of v.image) v is.terms is.notes is.marks is.out) is.comes.keepers

  pub laws : IsFailover is.is_recorder.recorder (quorum_of v) world
  laws = failover is.is_recorder.recorder (guest_of v.image) (quorum_of v) world is.comes.comes

  notes : AreRightNotes is.is_recorder.recorder world
  notes = right_notes is.is_recorder.recorder (guest_of v.image) (quorum_of v) world is.comes.comes

  pub is_one : IsOne v
  is_one r s has_r has_s hart number =
      let same = laws.one (theory_released r) (theory_released s) (is.went_out r has_r) (is.went_out s has_s) hart number in
      (ap (λ o. o.step) same, ap (λ o. o.word) same)

  pub is_of_machine : LeadsTo (heard_by v.primary.book.mode) v.primary.book.start v.primary.book.journal v.primary.book.machine → IsOfMachine v
  is_of_machine leads r has =
      out_of_theory (slice_get v.primary.book.machine.harts r.output.hart) r.output.number r.output.step r.output.word
      (
      ap (λ os. slice_get os r.output.number) (sym (outputs_are v is leads r.output.hart))
      ∙ current is.is_recorder.recorder (guest_of v.image) (quorum_of v) is.comes (theory_released r) (retold (told_as v.image.pages is.are_theory) (live_book v is.pieces is.is_book)) (is.went_out r has)
      (ap (retold_in (told_as v.image.pages is.are_theory)) is.there)
      )

  pub are_acked_inside : AreAckedInside v
  are_acked_inside keeper hart store p at =
      acked_inside is.is_recorder.recorder (guest_of v.image) (quorum_of v) is.comes keeper hart store p
      (there_too v.stores keeper store (Some (nothing (guest_of v.image))) at)

  -- the theory's notes of a term are those of its book
  noted_in_theory : (p : Primary) → IsPrimaryOf v p → (hart : ℕ) → is.notes p.opening.term hart ≡ notes_of p.book.mode.notes hart
  noted_in_theory p (inl same) hart =
      subst (λ (q : Primary). is.notes q.opening.term hart ≡ notes_of q.book.mode.notes hart) (sym same) (is.noted hart)
  noted_in_theory p (inr was) hart = is.noted_before p was hart

  pub are_notes_released : AreNotesReleased v
  are_notes_released p hart number note its has below =
      let (r, out, own, is_number, older) =
      notes.noted p.opening.term hart note number (subst (λ (notes : List (ℕ × ℕ)). Contains notes note) (sym (noted_in_theory p its hart)) has) below in
      let (q, there, same) = is.no_more r out in
      (q, there, ap (λ (s : theory.Released). s.hart) same ∙ own, ap (λ (s : theory.Released). s.number) same ∙ is_number)

  module _ (guest : IsGuest (guest_of v.image)) where
    abbrev told_terms : ℕ → Option (Past (Books v.image.pages is.are_theory))
    told_terms u = retold_in (told_as v.image.pages is.are_theory) (is.terms u)

    opened : (u : ℕ) (q : Past (Books v.image.pages is.are_theory)) → told_terms u ≡ Some q → Contains v.sent (Opening q.opening)
    opened u q at =
        let (p, there, same) = untold (told_as v.image.pages is.are_theory) (is.terms u) q at in
        subst (λ (o : OpeningParts). Contains v.sent (Opening o)) same (is.opened u p there)

    of_term : (u : ℕ) (q : Past (Books v.image.pages is.are_theory)) → told_terms u ≡ Some q → q.opening.term ≡ u
    of_term u q at = ((ruled is.is_recorder.recorder (guest_of v.image) (quorum_of v) guest is.comes.comes).terms.openings u q at).same_term

    in_chain : (term hart step : ℕ) {u : ℕ} → Keeps told_terms term hart step u → IsInChain v term hart step u
    in_chain term hart step (IsHere {u = u} q at parent inside) = Here q.opening (opened u q at) (of_term u q at) parent inside
    in_chain term hart step (IsAbove {u = u} q at rest) = Above q.opening (opened u q at) (of_term u q at) (in_chain term hart step rest)

    of_chain : (term hart step : ℕ) {u : ℕ} → IsInChain v term hart step u → Keeps told_terms term hart step u
    of_chain term hart step (Here o sent is_term parent inside) =
        let (q, at, same) = granted_opening told_terms o.term o (laws.honest.frames (Opening o) sent) in
        subst (Keeps told_terms term hart step) is_term
        (IsHere q at (ap (λ (p : OpeningParts). p.parent) same ∙ parent) (subst (λ (p : OpeningParts). step < count_at p.base hart) (sym same) inside))
    of_chain term hart step (Above o sent is_term rest) =
        let (q, at, same) = granted_opening told_terms o.term o (laws.honest.frames (Opening o) sent) in
        subst (Keeps told_terms term hart step) is_term
        (IsAbove q at (subst (Keeps told_terms term hart step) (sym (ap (λ (p : OpeningParts). p.parent) same)) (of_chain term hart step rest)))

    pub none_is_noted : NoneIsNoted v
    none_is_noted r p note out its has inside =
        notes.fresh (theory_released r) p.opening.term note (is.went_out r out)
        (subst (λ (notes : List (ℕ × ℕ)). Contains notes note) (sym (noted_in_theory p its r.output.hart)) has)
        (of_chain p.opening.term r.output.hart note.0 inside)

    pub is_kept : IsKept v
    is_kept r o has sent later =
        let (q, at, same) = granted_opening told_terms o.term o (laws.honest.frames (Opening o) sent) in (
          in_chain r.term r.output.hart r.output.step (laws.kept (theory_released r) o.term q (is.went_out r has) at later),
          subst (λ (p : OpeningParts). r.output.step < count_at p.base r.output.hart) same
              (laws.within (theory_released r) o.term q (is.went_out r has) at later),
        )

    -- inside a position in the theory's words
    inside : (r : Released) (p : Position) → IsInside told_terms r.term r.output.hart r.output.step p → r.output.step < count_at p.counts r.output.hart →
        IsInsideHere v r p
    inside r p (inl (same, below)) less = (inl same, less)
    inside r p (inr keeps) less = (inr (in_chain r.term r.output.hart r.output.step keeps), less)

    pub are_held : AreHeld v
    are_held r has =
        let held = laws.held (theory_released r) (is.went_out r has) in
        record {
          by = has_acked world (theory_released r);
          enough = held.enough;
          inside = λ keeper s p below chosen at position.
              let both = held.inside keeper s p chosen (inl (there_too v.stores keeper s (Some (nothing (guest_of v.image))) at)) position in
              inside r p both.0 both.1;
        }
