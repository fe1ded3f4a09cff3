-- What the theory tells of the world: its laws, and its terms as those of primaries.
use Rattle.std.proofs.Common.{◌≡◌, ℕ, slice_get, Some, sym, ap, ◌∙◌}
use Rattle.guest_image.specs.Image.{guest_of}
use Rattle.log_join.specs.Families.{Past}
use Rattle.fenced_theory.specs.Laws.{IsFailover, AreRightNotes}
use Rattle.fenced_theory.proofs.Invariant.{Invariant}
use Rattle.fenced_theory.proofs.Events.{always, failover}
use Rattle.fenced_theory.proofs.Growing.{some_same}
use Rattle.fenced_theory.proofs.Noted.{right_notes}
use Rattle.failover_world.specs.machinery.Tied.{TermBook, Books, retold}
use Rattle.failover_world.proofs.Promises.{untold}
use Rattle.process_world.specs.Worlds.{Led, ProcessWorld}
use Rattle.process_world.specs.machinery.Tied.{quorum_of, IsTied}
use Rattle.process_world.proofs.Seats.{told, in_world}

module _ (w : ProcessWorld) (is : IsTied w) where
  -- what holds of each world that comes in the theory
  pub always_is : Invariant is.is_recorder.recorder (quorum_of w) is.world
  always_is = always is.is_recorder.recorder (guest_of w.image) (quorum_of w) is.comes

  -- what holds of the outputs that went out there
  pub laws : IsFailover is.is_recorder.recorder (quorum_of w) is.world
  laws = failover is.is_recorder.recorder (guest_of w.image) (quorum_of w) is.world is.comes

  -- and of what is noted of them
  pub notes : AreRightNotes is.is_recorder.recorder is.world
  notes = right_notes is.is_recorder.recorder (guest_of w.image) (quorum_of w) is.world is.comes

  -- the theory's term of a primary that was granted, with its opening
  pub its_term : (n : ℕ) (l : Led) → slice_get w.led n ≡ Some l →
      (q : Past (Books w.image.pages is.are_theory)) × (is.world.terms l.opening.term ≡ Some q) × (q.opening ≡ l.opening)
  its_term n l at =
      let (p, there, same, book) = is.granted.each n l at in (retold (told w is) p, in_world w is l.opening.term (Some p) there, same)

  -- each term of the family is that of a primary that was granted, with its opening and its book
  pub its_granted : (u : ℕ) (p : Past (TermBook w.image.pages)) → is.terms u ≡ Some p →
      (n : ℕ) × (l : Led) × (slice_get w.led n ≡ Some l) × (l.opening.term ≡ u) × (p.opening ≡ l.opening) × (p.told.book ≡ l.book)
  its_granted u p there =
      let (n, l, here, of_term) = is.granted.no_other u p there in
      let (q, also, opening, book) = is.granted.each n l here in
      let e : p ≡ q = some_same there (ap is.terms (sym of_term) ∙ also) in
      (n, l, here, of_term, ap (λ (r : Past (TermBook w.image.pages)). r.opening) e ∙ opening, ap (λ (r : Past (TermBook w.image.pages)). r.told.book) e ∙ book)

  -- each term of the theory is that of a primary that was granted, with its opening
  pub its_primary : (u : ℕ) (q : Past (Books w.image.pages is.are_theory)) → is.world.terms u ≡ Some q →
      (n : ℕ) × (l : Led) × (slice_get w.led n ≡ Some l) × (l.opening.term ≡ u) × (l.opening ≡ q.opening)
  its_primary u q at =
      let (p, there, same) = untold (told w is) (is.terms u) q (ap (λ f. f u) (sym is.terms_are) ∙ at) in
      let (n, l, here, of_term, opening, book) = its_granted u p there in (n, l, here, of_term, sym opening ∙ same)
