-- A primary hears an acknowledgement: it is noted at the gate, outputs go out, and the book notes that they did.
use Rattle.std.proofs.Common.{◌≡◌, ◌⊎◌, inl, inr, ℕ, ◌+◌, ◌<◌, ◌≤◌, List, [], ◌++◌, Contains, Some}
use Rattle.std.proofs.Common.{refl, sym, ap, subst, ◌∙◌, arith, le_trans, le_of_eq}
use Rattle.std.proofs.lemmas.List.Elements.{Contains-append_cases}
use Rattle.interleaving.specs.Lists.{Each}
use Rattle.interleaving.specs.Log.{Log as EdgesAndInputs}
use Rattle.interleaving.proofs.Put.{put_same}
use Rattle.input_log.specs.declared.Input.{Input}
use Rattle.ft_types.specs.Counts.{count_at}
use Rattle.ft_types.specs.declared.output.Output.{Output}
use Rattle.guest_image.specs.Image.{guest_of}
use Rattle.guest_image.specs.Machine.{MachineState}
use Rattle.input_log.specs.Notes.{NotesOfOne, notes_of}
use Rattle.hart_lease.specs.Runs.{counts_of}
use Rattle.hart_lease.proofs.journals.GoingOn.{get-set_here}
use Rattle.page_book.specs.Books.{BookView}
use Rattle.page_book.specs.Tellings.{OnlyNotes}
use Rattle.page_book.proofs.Tellings.{only_room}
use Rattle.book_modes.specs.Recordings.{RecordingView}
use Rattle.log_join.specs.Families.{Past}
use Rattle.hart_replay.specs.Primaries.{IsPrimary}
use Rattle.book_recorder.specs.TermBooks.{IsTermBook, ComesOf}
use Rattle.output_gate.specs.Gates.{LineView, mark_at, gone_of, held_outputs}
use Rattle.output_gate.specs.Orders.{AreAbove}
use Rattle.term_gate.specs.TermGates.{TermGateView, acked_at}
use Rattle.fenced_theory.specs.Worlds as theory
use Rattle.primary.specs.declared.released.Released.{Released}
use Rattle.primary.specs.Gating.{AreOffered, AreRising, LetGo, released_in}
use Rattle.primary.specs.Noting.{last_of, noted_to}
use Rattle.primary.proofs.Waiting.{all_stay, still_offered, released_offered}
use Rattle.wire.specs.declared.acknowledgements.Acknowledgement.{Acknowledgement}
use Rattle.leading.specs.Leaders.{LeaderView}
use Rattle.leading.specs.Hearing.{LetsGo, LetsNothingGo, Notes, WithNoted}
use Rattle.leading.proofs.Noting.{noted_rest}
use Rattle.failover_world.specs.machinery.Tied.{Books, retold, theory_released}
use Rattle.failover_world.proofs.Given.{goes_now, of_a_hart, all_out, above_before}
use Rattle.failover_world.proofs.Going.{IsGoing, going}
use Rattle.failover_world.proofs.Renoted.{comes_of, noted_on}
use Rattle.failover_world.proofs.Rows.{set_set}
use Rattle.process_world.specs.Worlds.{ProcessWorld, Led, Leads, led_as}
use Rattle.process_world.specs.Happenings.{OnlyHears, led_by}
use Rattle.process_world.specs.machinery.Tied.{IsTied, quorum_of}
use Rattle.process_world.proofs.Lists.{set_either}
use Rattle.process_world.proofs.Seats.{renewed, leader_changed, none_told, Theory, ComesIn, IsNow, told}
use Rattle.process_world.proofs.Terms.{own, terms_with, world_with, new_book, new_past, book_comes, book_within, goes_on, steps_on}
use Rattle.process_world.proofs.Releasing.{in_theory, rising, goes_out, out_with, kept_in, one_added, added_in, of_term, comes_with}
use Rattle.process_world.proofs.Noting.{IsNoted, notes_out}

-- ---- the acknowledgement is noted

module _ (w : ProcessWorld) (is : IsTied w) (n : ℕ) (l : LeaderView) (at : Leads w n l) (a : Acknowledgement) (has : Contains w.said a) where
  -- what the theory has as acknowledged in the term
  abbrev acked : ℕ → ℕ → ℕ
  acked = is.world.acked l.primary.opening.term

  -- the gate has no more as acknowledged than the theory
  acked_now : (h : TermGateView) → Notes l.primary.sealed l.gate a h → (keeper hart : ℕ) → acked_at h keeper hart ≤ acked keeper hart
  acked_now h (inl (counted, same)) keeper hart =
      subst (λ (g : TermGateView). acked_at g keeper hart ≤ acked keeper hart) (sym same)
      (elim (set_either l.gate.acked a.keeper keeper a.counts []) [
        | inl (this, new) ↦
            let here : is.world.acked a.term a.keeper hart ≡ acked keeper hart =
            ap (λ t. is.world.acked t a.keeper hart) (counted.term ∙ (own w is n l at).of_term) ∙ ap (λ k. acked k hart) this in
            subst (λ (row : List ℕ). count_at row hart ≤ acked keeper hart) (sym new) (le_trans (is.said a has hart) (le_of_eq here))
        | inr old ↦ subst (λ (row : List ℕ). count_at row hart ≤ acked keeper hart) (sym old) ((own w is n l at).acked keeper hart)
      ])
  acked_now h (inr (none, same)) keeper hart =
      subst (λ (g : TermGateView). acked_at g keeper hart ≤ acked keeper hart) (sym same) ((own w is n l at).acked keeper hart)

  -- so the world is tied where the primary's gate has noted it
  noted_now : (h : TermGateView) → Notes l.primary.sealed l.gate a h → IsTied (record w { led = led_by w n (record l { gate = h }) })
  noted_now h notes =
      subst (λ (g : TermGateView). IsTied (record w { led = led_by w n (record l { gate = g }) })) (sym (noted_rest l.primary.sealed l.gate a h notes))
      (leader_changed w is n l (record l { gate = record l.gate { acked = h.acked } }) at refl refl
      (renewed is.world is.world is.terms is.terms (guest_of w.image) w.keepers w.need l l.primary.sealed h.acked l.queues (own w is n l at)
      (own w is n l at).within (acked_now h notes) (λ r there. there) (λ hart. refl) (λ hart. refl)) [] (none_told w is))

  -- and where it then does what leaves such a world tied
  noted_first : (h : TermGateView) → Notes l.primary.sealed l.gate a h → (new : LeaderView) →
      ((v : ProcessWorld) → IsTied v → Leads v n (record l { gate = h }) → IsTied (record v { led = led_by v n new })) →
      IsTied (record w { led = led_by w n new })
  noted_first h notes new then =
      let noted : LeaderView = record l { gate = h } in
      subst (λ (led : List Led). IsTied (record w { led = led })) (set_set w.led n (led_as noted) (led_as new))
      (then (record w { led = led_by w n noted }) (noted_now h notes) (get-set_here w.led n (led_as noted) (led_as l) at))

-- ---- a book that only got notes, or room for them

-- the book with these notes
abbrev renoted : BookView RecordingView → List NotesOfOne → BookView RecordingView
renoted b notes = record b { mode = record b.mode { notes = notes } }

-- its log is honest, as the book's is
notes_primary : (b : BookView RecordingView) (notes : List NotesOfOne) → IsPrimary b → IsPrimary (renoted b notes)
notes_primary b notes is = record { log = is.log; honest = is.honest }

-- the primary with these notes in its book, this gate, and what went out
abbrev as_heard : LeaderView → List NotesOfOne → TermGateView → List Released → LeaderView
as_heard l notes h now = record l { primary = record l.primary { book = renoted l.primary.book notes }; gate = h; released = now }

-- ---- outputs go out

module _ (w : ProcessWorld) (is : IsTied w) (n : ℕ) (l : LeaderView) (at : Leads w n l) (h : TermGateView) (now : List Released)
    (lets : LetGo l.primary.opening.term l.primary.book.machine l.gate l.released h now) (notes : List NotesOfOne)
    (noted_is : (hart : ℕ) → notes_of notes hart ≡
    noted_to (last_of hart lets.given) (counts_of l.primary.book.machine hart) (notes_of l.primary.book.mode.notes hart)) where
  -- what is known of the primary
  abbrev its : IsNow w is is.world is.terms l
  its = own w is n l at

  -- the primary's term
  abbrev term : ℕ
  term = l.primary.opening.term

  -- its machine
  abbrev m : MachineState
  m = l.primary.book.machine

  -- its book with the notes
  abbrev book : BookView RecordingView
  book = renoted l.primary.book notes

  -- which comes of the old one
  on : ComesOf l.primary.book book
  on = comes_of l.primary.book book (noted_on lets.given l.primary.book book (record { rest = refl; notes = noted_is }))

  -- and whose log is honest
  primary : IsPrimary book
  primary = notes_primary l.primary.book notes its.within.is_book.primary

  -- so it is a book of the theory
  abbrev is_book : IsTermBook w.image.pages book
  is_book = new_book w is n l at book on primary

  -- what goes out
  abbrev out : List Output
  out = held_outputs l.gate.gate.need h.gate.noted lets.offered.gate.lines

  -- what went out in the theory
  abbrev went : List theory.Released
  went = out_with term out is.world.released

  -- the theory's world with the book, what went out, and these notes
  abbrev with_rest : List theory.Released → (ℕ → ℕ → List (ℕ × ℕ)) → Theory w is
  with_rest = world_with w is n l at (new_past w is n l at book on primary) is.world.sent

  -- what went out in the term by now
  gone : now ≡ l.released ++ released_in term out
  gone = lets.out ∙ ap (λ os. l.released ++ released_in term os) lets.held

  -- the machine's first outputs were offered before they went
  offered : AreOffered lets.offered.gate m
  offered = all_stay lets.offered.gate m lets.all

  -- enough keepers acknowledged each that goes
  all_going : Each (IsGoing w.keepers w.need l.gate m) out
  all_going =
      subst (λ k. Each (IsGoing k w.need l.gate m) out) its.of_keepers
      (subst (λ n. Each (IsGoing l.gate.gate.keepers n l.gate m) out) its.of_need
      (going l.gate.gate.need l.gate lets.offered.gate h.gate.noted m lets.acked offered))

  -- and none is below its hart's mark
  above : Each (λ o. mark_at l.gate.gate o.hart ≤ o.number) out
  above = above_before l.gate lets.offered out lets.more (subst (AreAbove lets.offered.gate) lets.held lets.above)

  -- the term in the theory, with the book
  abbrev past : Past (Books w.image.pages is.are_theory)
  past = retold (told w is) (new_past w is n l at book on primary)

  -- the theory's world has it
  there : (with_rest is.world.released is.world.notes).terms term ≡ Some past
  there = put_same is.world.terms term term (Some past) refl

  -- they go out in the theory
  comes_out : ComesIn w is (with_rest went is.world.notes)
  comes_out =
      comes_with is.is_recorder.recorder (guest_of w.image) (quorum_of w) (with_rest is.world.released is.world.notes) term past there m l.gate
      (in_theory w is book is_book its.led) its.acked its.marked out is.world.released all_going above (book_comes w is n l at book on primary)

  -- the machine's outputs rise
  still_rising : AreRising m
  still_rising = rising w is l.primary.book its.within.is_book its.led

  -- whatever is gone at the gate went out
  gone_by : (hart : ℕ) (o : Output) → Contains (gone_of h.gate hart) o → theory.WentOutBy went term hart o.number
  gone_by hart o has =
      elim (goes_now l.gate.gate.need h.gate.noted lets.offered.gate h.gate m lets.lines offered hart o has) [
        | inl was ↦
            let (r, there, of_hart, of_number, no_later) = its.gone hart o (subst (λ (os : List Output). Contains os o) ((lets.more.lines hart).gone) was) in
            (r, kept_in term out is.world.released r there, of_hart, of_number, no_later)
        | inr (one, own) ↦ (theory_released (goes_out term o), one_added term out is.world.released o one, own, refl, omega arith)
      ]

  -- what is noted of a hart is out, or below its mark
  known : (hart last : ℕ) → last_of hart out ≡ Some last → (k : ℕ) → k < last + 1 →
      (k < is.world.marks term hart) ⊎ theory.WentOutBy went term hart k
  known hart last some k less =
      elim (all_out l.gate.gate.need h.gate.noted lets.offered.gate h.gate m lets.lines still_rising offered lets.all lets.passed lets.harts hart last some k
      less) [
        | inl below ↦ inl (subst (λ n. k < n) ((lets.more.lines hart).mark ∙ sym (its.marked hart)) below)
        | inr (p, is_gone, number) ↦ inr (subst (theory.WentOutBy went term hart) number (gone_by hart p is_gone))
      ]

  -- the theory counts as the book does
  counted : (hart : ℕ) → is.is_recorder.recorder.counts past.told hart ≡ counts_of m hart
  counted hart =
      ap (λ f. f hart) (is.is_recorder.counts_are (is.are_theory.book book is_book))
      ∙ ap (λ (x : EdgesAndInputs (List Input)). x.end hart) (is.are_theory.log book is_book)

  -- and it is noted in the theory
  noted : IsNoted is.is_recorder.recorder (guest_of w.image) (quorum_of w) (with_rest went is.world.notes) term (notes_of notes)
  noted =
      notes_out is.is_recorder.recorder (guest_of w.image) (quorum_of w) (with_rest went is.world.notes) term past there (counts_of m) counted out
      (notes_of l.primary.book.mode.notes) (notes_of notes) its.noted
      (λ hart. noted_is hart ∙ ap (λ os. noted_to (last_of hart os) (counts_of m hart) (notes_of l.primary.book.mode.notes hart)) lets.held) known
      (of_a_hart l.gate.gate.need h.gate.noted lets.offered.gate h.gate m lets.lines offered lets.harts) comes_out

  -- the primary that let them go
  let_out : IsNow w is (with_rest went noted.notes) (terms_with w is n l at (new_past w is n l at book on primary)) (as_heard l notes h now)
  let_out =
      record {
        within = book_within w is n l at book on primary;
        of_guest = its.of_guest;
        of_keepers = ap (λ (g : TermGateView). g.gate.keepers) lets.gate ∙ its.of_keepers;
        of_need = ap (λ (g : TermGateView). g.gate.need) lets.gate ∙ its.of_need;
        of_term = ap (λ (g : TermGateView). g.gate.term) lets.gate ∙ its.of_term;
        offered =
            released_offered lets.offered.gate h.gate m offered
            (still_offered l.gate.gate.need h.gate.noted lets.offered.gate h.gate m still_rising offered lets.lines);
        led = its.led;
        acked = λ keeper hart. le_trans (le_of_eq (ap (λ (g : TermGateView). acked_at g keeper hart) lets.gate)) (its.acked keeper hart);
        released = λ r has.
            elim (Contains-append_cases l.released (released_in term out) r (subst (λ rs. Contains rs r) gone has)) [
              | inl was ↦ let (there, own) = its.released r was in (kept_in term out is.world.released (theory_released r) there, own)
              | inr new ↦ (added_in term out is.world.released r new, of_term term out r new)
            ];
        gone = gone_by;
        noted = noted.own;
        marked = λ hart. its.marked hart ∙ sym (ap (λ (line : LineView). line.mark) (lets.lines hart) ∙ (lets.more.lines hart).mark);
      }

  -- so the world is tied
  lets_go : IsTied (record w { led = led_by w n (as_heard l notes h now) })
  lets_go =
      goes_on w is n l at book on primary (as_heard l notes h now) went noted.notes refl noted.comes (kept_in term out is.world.released) noted.others
      let_out

-- a primary hears an acknowledgement, and lets outputs go
pub hears_said : (w : ProcessWorld) (is : IsTied w) (n : ℕ) (old new : LeaderView) (a : Acknowledgement) → Leads w n old → Contains w.said a →
    WithNoted old a (λ noted. LetsGo old noted new) → OnlyHears old new → IsTied (record w { led = led_by w n new })
hears_said w is n old new a at has (noted, notes, goes) only =
    let whole : new ≡ as_heard old new.primary.book.mode.notes new.gate new.released =
    only ∙ (λ i. record old { primary = record old.primary { book = goes.notes.rest i }; gate = new.gate; released = new.released }) in
    subst (λ (x : LeaderView). IsTied (record w { led = led_by w n x })) (sym whole)
    (noted_first w is n old at a has noted notes (as_heard old new.primary.book.mode.notes new.gate new.released)
    (λ v tied there. lets_go v tied n (record old { gate = noted }) there new.gate new.released goes.lets new.primary.book.mode.notes goes.notes.notes))

-- a primary hears an acknowledgement, and memory for letting outputs go is refused
pub lacks_memory : (w : ProcessWorld) (is : IsTied w) (n : ℕ) (old new : LeaderView) (a : Acknowledgement) → Leads w n old → Contains w.said a →
    WithNoted old a (λ noted. LetsNothingGo old noted new) → OnlyHears old new → IsTied (record w { led = led_by w n new })
lacks_memory w is n old new a at has (noted, notes, none) only =
    let b = renoted old.primary.book new.primary.book.mode.notes in
    let room : new.primary.book ≡ b =
    none.book ∙ ap (λ (mode : RecordingView). let x : BookView RecordingView = record old.primary.book { mode = mode } in x) none.room.rest in
    let only_notes : OnlyNotes old.primary.book b = subst (OnlyNotes old.primary.book) room (only_room old.primary.book new.primary.book none.room none.book) in
    let whole : new ≡ as_heard old new.primary.book.mode.notes new.gate old.released = only ∙ (λ i.
    record old { primary = record old.primary { book = room i }; gate = new.gate; released = none.released i }) in
    subst (λ (x : LeaderView). IsTied (record w { led = led_by w n x })) (sym whole)
    (noted_first w is n old at a has noted notes (as_heard old new.primary.book.mode.notes new.gate old.released)
    (λ v tied there.
    let its = own v tied n (record old { gate = noted }) there in
    steps_on v tied n (record old { gate = noted }) there b (comes_of old.primary.book b only_notes)
    (notes_primary old.primary.book new.primary.book.mode.notes its.within.is_book.primary) new.gate old.queues none.gate none.offered its.led none.room.same))
