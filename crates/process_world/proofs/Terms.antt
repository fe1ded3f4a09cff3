-- A primary's term in the theory's world: the world stays tied where the term is another, and a book that goes on makes such a term.
use Rattle.std.proofs.Common.{◌≡◌, inr, inl, ℕ, List, Contains, slice_get, Some, refl, sym, ap, subst, ◌∙◌, arith, le_of_eq, le_trans}
use Rattle.interleaving.specs.Lists.{put}
use Rattle.interleaving.proofs.Put.{put_same, put_other}
use Rattle.ft_types.specs.declared.output.Output.{Output}
use Rattle.guest_image.specs.Image.{guest_of}
use Rattle.input_log.specs.Notes.{notes_of}
use Rattle.hart_lease.specs.Runs.{LeadsTo}
use Rattle.page_book.specs.Books.{BookView}
use Rattle.book_modes.specs.Recordings.{RecordingView, heard_by}
use Rattle.fragment_codec.specs.declared.frame.Frame.{Frame}
use Rattle.fragment_codec.specs.Rules.{FragmentParts, OpeningParts}
use Rattle.log_pieces.specs.Pieces.{SealedView}
use Rattle.log_join.specs.Families.{Past}
use Rattle.term_gate.specs.TermGates.{TermGateView, acked_at}
use Rattle.hart_replay.specs.Images.{IsHistoryOf}
use Rattle.hart_replay.specs.Primaries.{IsPrimary, IsTermOfBook, IsSealedTo}
use Rattle.hart_replay.proofs.honesty.Sealing.{terms_go_on}
use Rattle.fenced_theory.specs.Machines.{ByRun}
use Rattle.fenced_theory.specs.Worlds as theory
use Rattle.fenced_theory.proofs.Growing.{some_same}
use Rattle.fenced_histories.proofs.Books.{books_go_on}
use Rattle.book_recorder.specs.TermBooks.{IsTermBook, ComesOf}
use Rattle.book_recorder.proofs.Books.{later_are_term_books}
use Rattle.primary.specs.declared.granted.Primary.{Primary}
use Rattle.primary.specs.Gating.{AreOffered, IsAsItWas}
use Rattle.requests.specs.Queues.{QueueView}
use Rattle.leading.specs.Leaders.{LeaderView}
use Rattle.failover_world.specs.machinery.Tied.{TermBook, Books, retold, retold_in, history}
use Rattle.failover_world.proofs.Places.{retold_put}
use Rattle.process_world.specs.Worlds.{ProcessWorld, Leads, led_as}
use Rattle.process_world.specs.Happenings.{led_by}
use Rattle.process_world.specs.machinery.Tied.{IsIn, IsTied, past_of, told_by}
use Rattle.process_world.proofs.Lists.{set_cases}
use Rattle.process_world.proofs.Seats.{stays, one_leader, granted_put, still_told, with_terms, moved, Theory, Terms, ComesIn, IsNow, tell, told}
use Rattle.process_world.proofs.Seats.{in_world}

module _ (w : ProcessWorld) (is : IsTied w) (n : ℕ) (l : LeaderView) (at : Leads w n l) where
  -- what is known of the primary
  pub own : IsNow w is is.world is.terms l
  own = is.leaders n l at

  -- the number of its term
  abbrev term : ℕ
  term = l.primary.opening.term

  -- its term, in the theory
  abbrev pub past_now : Past (Books w.image.pages is.are_theory)
  past_now = retold (told w is) (past_of l.primary own.within.pieces own.within.is_book)

  -- which the theory's world has
  pub there_now : is.world.terms l.primary.opening.term ≡ Some past_now
  there_now = in_world w is term (Some (past_of l.primary own.within.pieces own.within.is_book)) own.within.there

  -- and in the history
  there_told : history is.terms term ≡ Some (told_by l.primary own.within.pieces)
  there_told = ap (retold_in (tell w is)) own.within.there

  -- ---- its term is another

  -- the family with this term
  abbrev pub terms_with : Past (TermBook w.image.pages) → Terms w is
  terms_with p = put is.terms l.primary.opening.term (Some p)

  -- the theory's world with this term, these frames, these outputs gone out, and these notes
  abbrev pub world_with : Past (TermBook w.image.pages) → List Frame → List theory.Released → (ℕ → ℕ → List (ℕ × ℕ)) → Theory w is
  world_with p sent released notes =
      with_terms w is (put is.world.terms l.primary.opening.term (Some (retold (told w is) p))) sent released notes is.world.marks

  -- the world in which the primary is this one
  pub retermed : (new : LeaderView) (p : Past (TermBook w.image.pages)) (frames sent : List Frame) (released : List theory.Released)
      (notes : ℕ → ℕ → List (ℕ × ℕ)) → new.primary.opening ≡ l.primary.opening → p.opening ≡ l.primary.opening →
      ComesIn w is (world_with p sent released notes) → IsHistoryOf w.image (history (terms_with p)) → sent ≡ frames →
      ((f : Frame) → Contains is.world.sent f → Contains sent f) → ((r : theory.Released) → Contains is.world.released r → Contains released r) →
      ((u hart : ℕ) → (l.primary.opening.term ≡ u → ⊥) → notes u hart ≡ is.world.notes u hart) →
      IsNow w is (world_with p sent released notes) (terms_with p) new → IsTied (record w { led = led_by w n new; frames = frames })
  retermed new p frames sent released notes same opening comes is_history sent_is more out others now =
      let v = world_with p sent released notes in
      let its_book : p.told.book ≡ new.primary.book =
      ap (λ (q : Past (TermBook w.image.pages)). q.told.book)
      (some_same (put_same is.terms term new.primary.opening.term (Some p) (ap (λ (o : OpeningParts). o.term) (sym same))) now.within.there) in
      moved w is (led_by w n new) frames w.told w.clients w.asked (terms_with p) v.terms sent released notes is.world.marks comes
      (ap (λ f. put f term (Some (retold (told w is) p))) is.terms_are ∙ sym (retold_put (told w is) is.terms term (Some p))) is_history
      (granted_put is.terms w.led n (led_as l) (led_as new) p is.granted at same (opening ∙ sym same) its_book)
      (λ m k there. elim (set_cases w.led n m (led_as new) (led_as k) there) [
        | inl (here, so) ↦ subst (IsNow w is v (terms_with p)) (one_leader new k so) now
        | inr (other, was) ↦
            let apart : (term ≡ k.primary.opening.term → ⊥) = λ e. other (is.granted.apart n m (led_as l) (led_as k) at was e) in
            stays is.world v is.terms (terms_with p) (guest_of w.image) w.keepers w.need k (is.leaders m k was)
            (put_other is.terms term k.primary.opening.term (Some p) apart) (λ keeper hart. omega arith) out
            (λ hart. others k.primary.opening.term hart apart) (λ hart. refl)
      ])
      sent_is more (λ a has. still_told is.world.released released out a (is.told a has)) is.heard

  -- ---- its book goes on, or more of its pieces go out

  -- the primary with this book, cut so far
  abbrev pub next : BookView RecordingView → SealedView → Primary
  next c sealed = record l.primary { book = c; sealed = sealed }

  module _ (c : BookView RecordingView) (sealed : SealedView) (pieces : ℕ → List FragmentParts) (is_book : IsTermBook w.image.pages c)
      (of_book : IsTermOfBook c (told_by (next c sealed) pieces)) where
    -- the terms with its term are a history
    pub next_history : ComesOf l.primary.book c →
        ((hart place : ℕ) (piece : FragmentParts) → slice_get (own.within.pieces hart) place ≡ Some piece → slice_get (pieces hart) place ≡ Some piece) →
        IsHistoryOf w.image (history (terms_with (past_of (next c sealed) pieces is_book)))
    next_history on keeps =
        subst (IsHistoryOf w.image) (sym (retold_put (tell w is) is.terms term (Some (past_of (next c sealed) pieces is_book))))
        (books_go_on w.image (history is.terms) term l.primary.book c (told_by l.primary own.within.pieces) (told_by (next c sealed) pieces)
        is.are_theory is.is_history there_told
        (record {
          before = own.within.is_book;
          after = is_book;
          comes = on;
          was = own.within.of_book;
          is = of_book;
          opening = refl;
          keeps = keeps;
        })).is_history

    -- and the primary's is among them
    pub next_within : IsSealedTo (told_by (next c sealed) pieces) sealed → IsIn (terms_with (past_of (next c sealed) pieces is_book)) (next c sealed)
    next_within is_sealed =
        record {
          pieces = pieces;
          is_book = is_book;
          there = put_same is.terms term term (Some (past_of (next c sealed) pieces is_book)) refl;
          of_book = of_book;
          sealed = is_sealed;
        }

  module _ (c : BookView RecordingView) (on : ComesOf l.primary.book c) (primary : IsPrimary c) where
    -- it is a book of the theory
    pub new_book : IsTermBook w.image.pages c
    new_book = later_are_term_books w.image.pages l.primary.book c own.within.is_book on primary

    -- its term, with the pieces that were sent
    abbrev pub new_past : Past (TermBook w.image.pages)
    new_past = past_of (next c l.primary.sealed) own.within.pieces new_book

    -- the theory's world with it comes
    pub book_comes : ComesIn w is (world_with new_past is.world.sent is.world.released is.world.notes)
    book_comes =
        let b = is.are_theory.book l.primary.book own.within.is_book in
        let d = is.are_theory.book c new_book in
        let fact = ByRun b d (is.are_theory.on l.primary.book c own.within.is_book new_book on) in
        theory.Then is.comes (theory.Step l.primary.opening.term past_now d there_now (fact, is.is_recorder.tells fact))

    -- the pieces that were sent are the book's
    of_book : IsTermOfBook c (told_by (next c l.primary.sealed) own.within.pieces)
    of_book = terms_go_on l.primary.book c (told_by l.primary own.within.pieces) own.within.of_book on.start on.tells

    -- so the family has its term
    pub book_within : IsIn (terms_with new_past) (next c l.primary.sealed)
    book_within = next_within c l.primary.sealed own.within.pieces new_book of_book own.within.sealed

    -- the world in which the primary's book is this one, where these outputs went out, and these notes are in the theory
    pub goes_on : (new : LeaderView) (released : List theory.Released) (notes : ℕ → ℕ → List (ℕ × ℕ)) → new.primary.opening ≡ l.primary.opening →
        ComesIn w is (world_with new_past is.world.sent released notes) →
        ((r : theory.Released) → Contains is.world.released r → Contains released r) →
        ((u hart : ℕ) → (l.primary.opening.term ≡ u → ⊥) → notes u hart ≡ is.world.notes u hart) →
        IsNow w is (world_with new_past is.world.sent released notes) (terms_with new_past) new → IsTied (record w { led = led_by w n new })
    goes_on new released notes same comes out others now =
        retermed new new_past w.frames is.world.sent released notes same refl comes
        (next_history c l.primary.sealed own.within.pieces new_book of_book on (λ hart place piece there. there)) is.sent (λ f has. has) out others now

    -- the primary with this book, this gate, and what waits for it
    abbrev gone_on : TermGateView → List QueueView → LeaderView
    gone_on gate queues = record l { primary = record l.primary { book = c }; gate = gate; queues = queues }

    -- it leads on in the theory's world with the book
    leads_on : (gate : TermGateView) (queues : List QueueView) → IsAsItWas l.gate gate → AreOffered gate.gate c.machine →
        LeadsTo (heard_by c.mode) c.start c.journal c.machine → ((hart : ℕ) → notes_of c.mode.notes hart ≡ notes_of l.primary.book.mode.notes hart) →
        IsNow w is (world_with new_past is.world.sent is.world.released is.world.notes) (terms_with new_past) (gone_on gate queues)
    leads_on gate queues was offered led notes =
        record {
          within = book_within;
          of_guest = own.of_guest;
          of_keepers = ap (λ (g : TermGateView). g.gate.keepers) was.rest ∙ own.of_keepers;
          of_need = ap (λ (g : TermGateView). g.gate.need) was.rest ∙ own.of_need;
          of_term = ap (λ (g : TermGateView). g.gate.term) was.rest ∙ own.of_term;
          offered = offered;
          led = led;
          acked = λ keeper hart. le_trans (le_of_eq (ap (λ (g : TermGateView). acked_at g keeper hart) was.rest)) (own.acked keeper hart);
          released = own.released;
          gone = λ hart o has. own.gone hart o (subst (λ (os : List Output). Contains os o) ((was.lines hart).gone) has);
          noted = λ hart. own.noted hart ∙ sym (notes hart);
          marked = λ hart. own.marked hart ∙ sym ((was.lines hart).mark);
        }

    -- so the world is tied where the notes are the same, and nothing but what was offered is another at the gate
    pub steps_on : (gate : TermGateView) (queues : List QueueView) → IsAsItWas l.gate gate → AreOffered gate.gate c.machine →
        LeadsTo (heard_by c.mode) c.start c.journal c.machine → ((hart : ℕ) → notes_of c.mode.notes hart ≡ notes_of l.primary.book.mode.notes hart) →
        IsTied (record w { led = led_by w n (record l { primary = record l.primary { book = c }; gate = gate; queues = queues }) })
    steps_on gate queues was offered led notes =
        goes_on (gone_on gate queues) is.world.released is.world.notes refl book_comes (λ r has. has) (λ u hart other. refl)
        (leads_on gate queues was offered led notes)
