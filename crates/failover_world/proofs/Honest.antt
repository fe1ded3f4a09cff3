-- What was sent, and what keepers hold, are of one history of the image.
use Rattle.std.proofs.Common.{ℕ, Option, Some, refl, sym, ap, ◌∙◌}
use Rattle.guest_image.specs.Image.{guest_of}
use Rattle.fragment_codec.specs.declared.frame.Frame.{Frame}
use Rattle.fragment_codec.specs.declared.frame.Frame.TheVariants.{Log, Opening}
use Rattle.log_join.specs.Families.{Past, OfFamily}
use Rattle.log_join.specs.Stores.{nothing}
use Rattle.hart_replay.specs.Primaries.{term_of as history_of}
use Rattle.primary.specs.declared.granted.Primary.{Primary}
use Rattle.failover_world.specs.Worlds.{WorldView, term_of}
use Rattle.failover_world.specs.Promises.{IsItsTerm, AreHonest}
use Rattle.failover_world.specs.machinery.Tied.{TermBook, retold, retold_in, history, told_as, live_term, IsBefore, IsTied, quorum_of}
use Rattle.failover_world.proofs.Places.{there_too}
use Rattle.failover_world.proofs.Stopping.{kept}
use Rattle.failover_world.proofs.Chosen.{opening_retold, piece_retold, honest_retold, is_history}
use Rattle.failover_world.proofs.Promises.{laws, untold}

-- what is told of the terms says nothing of frames
frame_retold : {A B C : Type 0} (f : A → B) (g : A → C) (terms : ℕ → Option (Past A)) (frame : Frame) →
    OfFamily (λ u. retold_in f (terms u)) frame → OfFamily (λ u. retold_in g (terms u)) frame
frame_retold f g terms (Opening o) is = opening_retold g (terms o.term) ∙ sym (opening_retold f (terms o.term)) ∙ is
frame_retold f g terms (Log piece) is =
    piece_retold g (terms piece.key.term) piece.key.hart piece.key.place ∙ sym (piece_retold f (terms piece.key.term) piece.key.hart piece.key.place) ∙ is

module _ (v : WorldView) (is : IsTied v) where
  its_term : (last : ℕ) (p : Primary) → IsBefore is.terms last p → IsItsTerm (history is.terms) p
  its_term last p is_before =
      record {
        past = retold (λ (t : TermBook v.image.pages). history_of t.book) is_before.past;
        there = ap (retold_in (λ (t : TermBook v.image.pages). history_of t.book)) is_before.there;
        opening = is_before.opening;
        of_book = is_before.of_book;
      }

  pub are_honest : AreHonest v
  are_honest =
      let its = kept is.is_recorder.recorder (guest_of v.image) (quorum_of v) is.comes in
      record {
        history = history is.terms;
        is_history = is_history v is;
        sent = λ f has.
            frame_retold (told_as v.image.pages is.are_theory) (λ (t : TermBook v.image.pages). history_of t.book) is.terms f
            ((laws v is).honest.frames f has);
        stores = λ keeper s at.
            honest_retold (told_as v.image.pages is.are_theory) (λ (t : TermBook v.image.pages). history_of t.book) is.terms s
            (its.stores keeper s (there_too v.stores keeper s (Some (nothing (guest_of v.image))) at));
        last =
            record {
              past = live_term v is.pieces;
              there = ap (retold_in (λ (t : TermBook v.image.pages). history_of t.book)) is.there;
              opening = refl;
              of_book = is.of_book;
            };
        before = λ p has. let b = is.before p has in (its_term (term_of v) p b, b.earlier);
        no_other = λ u past at.
            let (p, there, same) = untold (λ (t : TermBook v.image.pages). history_of t.book) (is.terms u) past at in is.no_other u p there;
      }
