-- A world that is tied to the theory keeps its promises.
use Rattle.std.proofs.Common.{◌≡◌, inl, inr, ℕ, ◌<◌, ◌≤◌, List, [], Contains, slice_get, Option, Some, refl, sym, ap, subst, ◌∙◌}
use Rattle.ft_types.specs.Counts.{count_at}
use Rattle.ft_types.specs.declared.position.Position.{Position}
use Rattle.guest_image.specs.Image.{guest_of}
use Rattle.fragment_codec.specs.declared.frame.Frame.{Frame}
use Rattle.fragment_codec.specs.declared.frame.Frame.TheVariants.{Log, Opening}
use Rattle.fragment_codec.specs.Rules.{OpeningParts}
use Rattle.fragment_codec.specs.Streams.{Splits}
use Rattle.log_join.specs.Coming.{IsJoinOf}
use Rattle.log_join.specs.Families.{Past, OfFamily}
use Rattle.log_join.specs.Stores.{StoreView}
use Rattle.fenced_theory.specs.Families.{Keeps, Here as IsHere, Above as IsAbove, IsInside as IsInsideThere}
use Rattle.fenced_theory.specs.Laws.{has_acked}
use Rattle.fenced_theory.specs.Recorders.{Output}
use Rattle.fenced_theory.specs.Worlds.{Released}
use Rattle.fenced_theory.proofs.Growing.{some_same}
use Rattle.keeper_disks.specs.Disks.{Disk}
use Rattle.leading.specs.Leaders.{LeaderView}
use Rattle.primary.specs.Outputs.{said_at}
use Rattle.wire.specs.declared.answers.Answer.{Answer}
use Rattle.failover_world.specs.machinery.Tied.{retold_in, history}
use Rattle.failover_world.proofs.Chosen.{opening_retold, piece_retold}
use Rattle.failover_world.proofs.Promises.{untold}
use Rattle.process_world.specs.Worlds.{Led, ProcessWorld, Leads}
use Rattle.process_world.specs.Promises.{IsInChain, Here, Above, IsInside, IsOnDisks, WentOut, IsOne, AreHonest, AreNotesOut, KeepsPromises}
use Rattle.process_world.specs.machinery.Tied.{told_by, IsTold, IsTied}
use Rattle.process_world.specs.machinery.Worded.{AreWorded}
use Rattle.process_world.proofs.Seats.{tell, told}
use Rattle.process_world.proofs.Giving.{one_join}
use Rattle.process_world.proofs.Terms.{own, past_now, there_now}
use Rattle.process_world.proofs.Releasing.{of_machine}
use Rattle.process_world.proofs.Laws.{always_is, laws, notes, its_term, its_primary}
use Rattle.process_world.proofs.GivenWords.{are_words}

-- what is told of the terms says nothing of frames
frame_retold : {A B C : Type 0} (f : A → B) (g : A → C) (terms : ℕ → Option (Past A)) (frame : Frame) →
    OfFamily (λ u. retold_in f (terms u)) frame → OfFamily (λ u. retold_in g (terms u)) frame
frame_retold f g terms (Opening o) is = opening_retold g (terms o.term) ∙ sym (opening_retold f (terms o.term)) ∙ is
frame_retold f g terms (Log piece) is =
    piece_retold g (terms piece.key.term) piece.key.hart piece.key.place ∙ sym (piece_retold f (terms piece.key.term) piece.key.hart piece.key.place) ∙ is

-- an output that went out, as it is told in a term
abbrev as_told : Released → ℕ → Answer
as_told r term = record { term = term; output = record { hart = r.hart; number = r.number; step = r.output.step; word = r.output.word } }

-- what is told of an output that went out is that output
told_so : (released : List Released) (a : Answer) (t : IsTold released a) → as_told t.out a.term ≡ a
told_so released a t =
    λ i. record { term = a.term; output = record { hart = t.of_hart i; number = t.of_number i; step = t.of_step i; word = t.of_word i } }

module _ (w : ProcessWorld) (is : IsTied w) where
  -- ---- what was sent

  -- all that was sent is of the history that the terms' books tell
  are_honest : AreHonest w
  are_honest =
      record {
        history = history is.terms;
        is_history = is.is_history;
        sent = λ f has.
            frame_retold (told w is) (tell w is) is.terms f
            (subst (λ terms. OfFamily terms f) is.terms_are ((always_is w is).frames f (subst (λ fs. Contains fs f) (sym is.sent) has)));
        each = λ n l at.
            let within = (own w is n l at).within in
            (told_by l.primary within.pieces, ap (retold_in (tell w is)) within.there, refl, within.of_book);
        no_other = λ u past at. let (p, there, same) = untold (tell w is) (is.terms u) past at in is.granted.no_other u p there;
      }

  -- ---- what went out

  -- what a term of the theory keeps is inside its chain here
  in_chain : (term hart step : ℕ) {u : ℕ} → Keeps is.world.terms term hart step u → IsInChain w term hart step u
  in_chain term hart step (IsHere {u = u} q at parent inside) =
      let (n, l, there, of_term, same) = its_primary w is u q at in
      subst (IsInChain w term hart step) of_term
      (Here n l there (ap (λ (o : OpeningParts). o.parent) same ∙ parent) (subst (λ (o : OpeningParts). step < count_at o.base hart) (sym same) inside))
  in_chain term hart step (IsAbove {u = u} q at rest) =
      let (n, l, there, of_term, same) = its_primary w is u q at in
      subst (IsInChain w term hart step) of_term
      (Above n l there (subst (λ (o : OpeningParts). IsInChain w term hart step o.parent) (sym same) (in_chain term hart step rest)))

  -- and what is inside a position there is so here
  inside : (term hart step : ℕ) (p : Position) → IsInsideThere is.world.terms term hart step p → step < count_at p.counts hart →
      IsInside w term hart step p
  inside term hart step p (inl (same, below)) less = (inl same, less)
  inside term hart step p (inr keeps) less = (inr (in_chain term hart step keeps), less)

  -- the frames that are safe on a disk make the store that its keeper saved
  saved_one : (keeper : ℕ) (d : Disk) (frames : List Frame) (s : StoreView) → w.disks keeper ≡ Some d → Splits d.files.safe frames [] →
      IsJoinOf (guest_of w.image) frames s → is.world.saved keeper ≡ Some s
  saved_one keeper d frames s at splits join =
      let site = is.standing keeper d at in
      site.wrote_it ∙ ap Some (one_join (guest_of w.image) is.world.sent d.files.safe site.written s frames site.safe splits join)

  -- who acknowledged an output has it on disk
  on_disks : (r : Released) → Contains is.world.released r → IsOnDisks w r.term r.hart r.output.step
  on_disks r has =
      let held = (laws w is).held r has in
      record {
        by = has_acked is.world r;
        enough = held.enough;
        inside = λ keeper d frames s p below by at splits join position.
            let both = held.inside keeper s p by (inr (saved_one keeper d frames s at splits join)) position in
            inside r.term r.hart r.output.step p both.0 both.1;
      }

  -- the term in which an output went out was granted
  was_granted : (r : Released) → Contains is.world.released r → (n : ℕ) × (l : Led) × (slice_get w.led n ≡ Some l) × (l.opening.term ≡ r.term)
  was_granted r has =
      let it = (always_is w is).released r has in
      let (n, l, at, of_term, same) = its_primary w is r.term it.past it.is in (n, l, at, of_term)

  -- a primary's machine has it, in its term or a later one
  has_it : (r : Released) → Contains is.world.released r → (n : ℕ) (l : LeaderView) → Leads w n l → r.term ≤ l.primary.opening.term →
      slice_get (said_at l.primary.book.machine r.hart) r.number ≡ Some (r.output.step, r.output.word)
  has_it r has n l at le =
      of_machine w is l.primary.book (own w is n l at).within.is_book (own w is n l at).led r.hart r.number r.output
      ((laws w is).has r l.primary.opening.term (past_now w is n l at) has (there_now w is n l at) le)

  -- each later term keeps it
  kept_by : (r : Released) → Contains is.world.released r → (n : ℕ) (l : Led) → slice_get w.led n ≡ Some l → r.term < l.opening.term →
      IsInChain w r.term r.hart r.output.step l.opening.term × (r.output.step < count_at l.opening.base r.hart)
  kept_by r has n l at later =
      let (q, there, same) = its_term w is n l at in (
        in_chain r.term r.hart r.output.step ((laws w is).kept r l.opening.term q has there later),
        subst (λ (o : OpeningParts). r.output.step < count_at o.base r.hart) same ((laws w is).within r l.opening.term q has there later),
      )

  -- an output that went out in the theory did so here
  goes_out : (r : Released) → Contains is.world.released r → (term : ℕ) → r.term ≤ term → WentOut w (as_told r term)
  goes_out r has term le =
      record {
        term = r.term;
        no_later = le;
        granted = was_granted r has;
        on_disks = on_disks r has;
        has = has_it r has;
        kept = kept_by r has;
      }

  -- so what is told went out
  went_out : (a : Answer) → IsTold is.world.released a → WentOut w a
  went_out a t = subst (WentOut w) (told_so is.world.released a t) (goes_out t.out t.has a.term t.no_later)

  -- of one hart and number the theory has one output
  is_one : IsOne w
  is_one a b has_a has_b hart number =
      let s = is.told a has_a in
      let t = is.told b has_b in
      let same = (laws w is).one s.out t.out s.has t.has (s.of_hart ∙ hart ∙ sym t.of_hart) (s.of_number ∙ number ∙ sym t.of_number) in (
        sym s.of_step ∙ ap (λ (o : Output). o.step) same ∙ t.of_step,
        sym s.of_word ∙ ap (λ (o : Output). o.word) same ∙ t.of_word,
      )

  -- ---- what is noted

  module _ (n : ℕ) (l : LeaderView) (at : Leads w n l) where
    -- what the theory's machine of a primary has at a number is what the primary's has
    noted_one : (r : Released) (hart number : ℕ) (said : ℕ × ℕ) → Contains is.world.released r → r.hart ≡ hart → r.number ≡ number →
        r.term ≤ l.primary.opening.term → slice_get (said_at l.primary.book.machine hart) number ≡ Some said →
        IsTold is.world.released
        (record { term = l.primary.opening.term; output = record { hart = hart; number = number; step = said.0; word = said.1 } })
    noted_one r hart number said has of_hart of_number le own =
        let there =
        subst (λ h. slice_get (said_at l.primary.book.machine h) number ≡ Some (r.output.step, r.output.word)) of_hart
        (subst (λ m. slice_get (said_at l.primary.book.machine r.hart) m ≡ Some (r.output.step, r.output.word)) of_number (has_it r has n l at le)) in
        let same : (r.output.step, r.output.word) ≡ said = some_same there own in
        record {
          out = r;
          has = has;
          of_hart = of_hart;
          of_number = of_number;
          of_step = ap (λ (o : ℕ × ℕ). o.0) same;
          of_word = ap (λ (o : ℕ × ℕ). o.1) same;
          no_later = le;
        }

  -- what a book notes to be out went out
  are_notes_out : AreNotesOut w
  are_notes_out n l hart number note said at has below there_said =
      let there = subst (λ (ns : List (ℕ × ℕ)). Contains ns note) (sym ((own w is n l at).noted hart)) has in
      let (r, out, of_hart, of_number, le) = (notes w is).noted l.primary.opening.term hart note number there below in
      went_out (record { term = l.primary.opening.term; output = record { hart = hart; number = number; step = said.0; word = said.1 } })
      (noted_one n l at r hart number said out of_hart of_number le there_said)

  -- so the world keeps its promises, where its words are known
  pub promises : AreWorded w.asked w.led → KeepsPromises w
  promises words =
      record {
        honest = are_honest;
        out = λ a has. went_out a (is.told a has);
        one = is_one;
        heard = is.heard;
        noted = are_notes_out;
        words = are_words w is words;
      }
