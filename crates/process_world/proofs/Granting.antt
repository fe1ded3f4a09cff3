-- A primary goes live, from logs that were handed over to its term: the world stays tied to the theory, while older primaries run on.
use Rattle.std.proofs.Common.{◌≡◌, inl, inr, ℕ, zero, suc, ◌<◌, ◌≤◌, List, [], ◌∷◌, ◌++◌, length, map, replicate, slice_get, get_or, Option, Some, None, refl}
use Rattle.std.proofs.Common.{sym, ap, subst, ◌∙◌, arith}
use Rattle.std.specs.Prelude.{All}
use Rattle.std.specs.List.{range_with_len}
use Rattle.std.proofs.lemmas.List.Elements.{Contains-append_left}
use Rattle.ft_types.specs.Counts.{count_at}
use Rattle.ft_types.specs.declared.position.Position.{Position}
use Rattle.ft_types.specs.declared.quorum.Quorum.{Quorum}
use Rattle.interleaving.specs.Lists.{put}
use Rattle.interleaving.specs.Log.{IsCut}
use Rattle.interleaving.specs.Machine.{Turn, at}
use Rattle.interleaving.specs.Stored.{system_of, view}
use Rattle.interleaving.proofs.Put.{put_same, put_other}
use Rattle.input_log.specs.declared.Input.{Input}
use Rattle.rv32_hart.specs.Hart.{boot_hart}
use Rattle.rv32_hart.specs.Hardware.{hardware}
use Rattle.guest_image.specs.Image.{guest_of}
use Rattle.guest_image.specs.Machine.{boot_machine}
use Rattle.hart_lease.specs.Runs.{LeadsTo, counts_of, journal_turns}
use Rattle.page_book.specs.Books.{BookView}
use Rattle.book_modes.specs.Hearings.{HartMachine}
use Rattle.book_modes.specs.Recordings.{RecordingView, heard_by}
use Rattle.fragment_codec.specs.declared.frame.Frame.TheVariants.{Opening}
use Rattle.fragment_codec.specs.Rules.{OpeningParts, IsOpening}
use Rattle.log_join.specs.Families.{Past, Family}
use Rattle.hart_replay.specs.Histories.{IsTerm, machine_in}
use Rattle.hart_replay.specs.Images.{GuestTerm, IsHistoryOf, machine_of, boot_of}
use Rattle.hart_replay.specs.Plans.{noted_in}
use Rattle.hart_replay.specs.Primaries.{IsTermOfBook, unsealed}
use Rattle.hart_replay.proofs.honesty.Replays.{legs_keep_pages, boot_pages}
use Rattle.hart_replay.proofs.honesty.Sealing.{unsealed_is_of_book}
use Rattle.closed_cut.proofs.Chains.{zero_row}
use Rattle.fenced_theory.specs.Machines.{BookFact, AreTidy, AtBoot, AtCut}
use Rattle.fenced_theory.specs.Worlds as theory
use Rattle.fenced_theory.proofs.Events.{always}
use Rattle.fenced_theory.proofs.Growing.{some_same, some_none}
use Rattle.fenced_theory.proofs.Invariant.{Invariant}
use Rattle.fenced_theory.proofs.Stores.{see}
use Rattle.book_recorder.specs.TermBooks.{outputs_of, IsTermBook, IsRevived}
use Rattle.book_recorder.proofs.Books.{revived_are_term_books}
use Rattle.output_gate.specs.Gates.{gone_of}
use Rattle.term_gate.specs.TermGates.{acked_at}
use Rattle.primary.specs.declared.granted.Primary.{Primary}
use Rattle.primary.specs.Primaries.{BeginsFrom}
use Rattle.primary.proofs.Waiting.{all_stay}
use Rattle.fenced_live.specs.declared.given.Given.{Given}
use Rattle.go_live.specs.Beginnings.{GoesLive, BeginsTerm}
use Rattle.go_live.proofs.Joins.{joined_below}
use Rattle.leading.specs.Beginning.{GoesLiveGiven, stores_in, givers_in}
use Rattle.leading.specs.Leaders.{LeaderView}
use Rattle.failover_world.specs.machinery.Tied.{TermBook, Books, retold, retold_in, history}
use Rattle.failover_world.proofs.Marks.{are_marks}
use Rattle.failover_world.proofs.Places.{retold_put}
use Rattle.process_world.specs.Worlds.{ProcessWorld, IsNotGranted, led_as}
use Rattle.process_world.specs.Happenings.{WasHanded}
use Rattle.process_world.specs.machinery.Tied.{quorum_of, past_of, IsTied}
use Rattle.process_world.proofs.Lists.{none_in, push_cases}
use Rattle.process_world.proofs.Seats.{stays, one_leader, granted_more, moved, Theory, ComesIn, IsNow, tell, told, in_world}
use Rattle.process_world.proofs.Giving.{gave, enough, honest, all_given}

-- ---- what a primary begins with

-- no hart of boot has put out anything
none_out : (harts : ℕ) (numbers : List ℕ) (hart : ℕ) → outputs_of (slice_get (map (boot_hart harts) numbers) hart) ≡ []
unfolding boot_hart
none_out harts [] hart = refl
none_out harts (n ∷ numbers) zero = refl
none_out harts (n ∷ numbers) (suc hart) = none_out harts numbers hart

-- nothing was acknowledged
none_acked : (keepers harts k hart : ℕ) → count_at (get_or (replicate keepers (replicate harts 0)) k []) hart ≡ 0
none_acked zero harts k hart = refl
none_acked (suc keepers) harts zero hart = zero_row harts hart
none_acked (suc keepers) harts (suc k) hart = none_acked keepers harts k hart

-- its journal leads to its machine where nothing is settled
begun_led : (book : BookView RecordingView) → BeginsFrom book.start book → LeadsTo (heard_by book.mode) book.start book.journal book.machine
begun_led book begins =
    subst (λ journal. LeadsTo (heard_by book.mode) book.start journal book.machine) (sym (ap (λ (b : BookView RecordingView). b.journal) begins))
    (ap Some (sym (ap (λ (b : BookView RecordingView). b.machine) begins)))

module _ (w : ProcessWorld) (is : IsTied w) (term : ℕ) (given : List Given) (l : LeaderView) (new : IsNotGranted w term)
    (handed : All (WasHanded w term) given)
    (live : GoesLive w.image w.keepers w.need term (givers_in given) (stores_in given) l.primary l.gate)
    (begins : BeginsTerm w.image term (stores_in given) l.primary) where
  -- the primary
  abbrev p : Primary
  p = l.primary

  -- the position that it goes on from
  abbrev position : Position
  position = live.at.position

  -- by hart, the counts there
  abbrev cut : ℕ → ℕ
  cut = count_at live.at.position.counts

  -- its base are the counts with which its book begins
  base : (hart : ℕ) → count_at p.opening.base hart ≡ counts_of p.book.start hart
  base hart = ap (λ (o : OpeningParts). count_at o.base hart) live.at.opened ∙ sym (live.at.replayed.counts hart)

  -- it is of the term
  is_term : p.opening.term ≡ term
  is_term = ap (λ (o : OpeningParts). o.term) live.at.opened

  -- and goes on from that of the position
  parent : p.opening.parent ≡ position.term
  parent = ap (λ (o : OpeningParts). o.parent) live.at.opened

  -- its machine has as many pages as the image's
  as_large : length p.book.start.pages ≡ w.image.pages
  as_large = legs_keep_pages live.at.replayed.legs (boot_machine w.image) p.book.start live.at.replayed.outcome ∙ boot_pages w.image

  -- what holds of each world of the theory
  kept : Invariant is.is_recorder.recorder (quorum_of w) is.world
  kept = always is.is_recorder.recorder (guest_of w.image) (quorum_of w) is.comes

  -- no such term was granted
  not_granted : is.terms term ≡ None
  not_granted =
      elim (see (is.terms term)) [
        | inl none ↦ none
        | inr (q, there) ↦ let (n, l, at, of_term) = is.granted.no_other term q there in absurd (new n l at of_term)
      ]

  -- ---- its book

  -- it begins at the history's machine at the position
  starts : view (hardware w.image.pages) p.book.start ≡ machine_of w.image (history is.terms) position.term cut
  starts =
      begins.is_history (history is.terms) (honest w is term given handed)
      ∙ ap (λ (o : OpeningParts). machine_of w.image (history is.terms) o.parent (count_at o.base)) live.at.opened

  -- that is boot's where the position's term was not granted
  from_boot : is.terms position.term ≡ None → view (hardware w.image.pages) p.book.start ≡ boot_of w.image
  from_boot none =
      starts ∙ ap (λ (t : Option GuestTerm). machine_in (system_of (hardware w.image.pages)) (boot_of w.image) t cut) (ap (retold_in (tell w is)) none)

  -- where nothing was put out
  tidy_at_boot : is.terms position.term ≡ None → (hart : ℕ) → AreTidy (counts_of p.book.start hart) (outputs_of (slice_get p.book.start.harts hart))
  tidy_at_boot none hart =
      subst (λ os. AreTidy (counts_of p.book.start hart) os)
      (sym (ap (λ (m : HartMachine). outputs_of (m.harts hart)) (from_boot none) ∙ none_out w.image.harts (range_with_len 0 w.image.harts) hart))
      (record { rising = tt; below = tt })

  -- the new term, of which nothing is cut
  abbrev past : GuestTerm
  past = unsealed p.opening p.book

  -- it is the term of the book
  of_book : IsTermOfBook p.book past
  of_book = unsealed_is_of_book p.book p.opening base

  -- it makes the history longer
  longer : IsHistoryOf w.image (put (history is.terms) term (Some past))
  longer =
      begins.longer (history is.terms) (honest w is term given handed) (ap (retold_in (tell w is)) not_granted) p.book past refl begins.primary of_book refl

  -- and a term of the longer history
  new_term : IsTerm (system_of (hardware w.image.pages)) (boot_of w.image) (put (history is.terms) term (Some past)) term past
  new_term = longer.is_history.terms term past (put_same (history is.terms) term term (Some past) refl)

  module _ (q : Past (TermBook w.image.pages)) (there : is.terms position.term ≡ Some q) where
    -- the term that it goes on from, in the theory
    there_told : is.world.terms position.term ≡ Some (retold (told w is) q)
    there_told = in_world w is position.term (Some q) there

    -- the new book begins at a closed cut of its log
    its_cut : IsCut (tell w is q.told).log (counts_of p.book.start)
    its_cut =
        elim new_term.place [
          | inl boot ↦ some_none (ap is.world.terms (sym boot ∙ parent) ∙ there_told) kept.family.none
          | inr (was, at, closed) ↦
              let older : p.opening.parent < term = new_term.older in
              let same =
              some_same at
              (put_other (history is.terms) term p.opening.parent (Some past) (λ e. absurd (omega (arith, older, e)))
              ∙ ap (history is.terms) parent ∙ ap (retold_in (tell w is)) there) in
              subst (λ (t : GuestTerm). IsCut t.told.log (counts_of p.book.start)) same closed
        ]

    -- and at the machine of its book there
    revived : IsRevived w.image.pages q.told.book cut p.book
    revived =
        record {
          above = λ hart. subst (λ n. counts_of q.told.book.start hart ≤ n) (live.at.replayed.counts hart) (its_cut.from_start hart);
          within = λ hart. subst (λ n. n ≤ counts_of q.told.book.machine hart) (live.at.replayed.counts hart) (its_cut.to_end hart);
          start =
              starts
              ∙ ap (λ (t : Option GuestTerm). machine_in (system_of (hardware w.image.pages)) (boot_of w.image) t cut) (ap (retold_in (tell w is)) there)
              ∙ ap
              (λ (n : ℕ). at (system_of (hardware w.image.pages)) (view (hardware n) q.told.book.start)
              (journal_turns (heard_by q.told.book.mode) q.told.book.start q.told.book.journal) cut) q.told.is.many;
        }

  -- so it is a book of the theory
  own_book : IsTermBook w.image.pages p.book
  own_book =
      elim (see (is.terms position.term)) [
        | inl none ↦ record { primary = begins.primary; many = as_large; log_start = live.unused.log_start; tidy = tidy_at_boot none }
        | inr (q, there) ↦
            revived_are_term_books w.image.pages q.told.book p.book cut q.told.is (revived q there) begins.primary as_large live.unused.log_start
      ]

  -- ---- in the theory

  -- the book, in the theory
  abbrev now : Books w.image.pages is.are_theory
  now = is.are_theory.book p.book own_book

  -- it begins at the position: at boot
  begun_at_boot : is.terms position.term ≡ None → theory.BeginsAt is.is_recorder.recorder is.world.terms position now
  begun_at_boot none =
      let fact : BookFact (system_of (hardware w.image.pages)) is.are_theory.outs (boot_of w.image) =
      AtBoot now (is.are_theory.from p.book own_book ∙ from_boot none) in
      theory.AtBoot (in_world w is position.term None none) (fact, is.is_recorder.tells fact)

  -- or at the cut of the older book
  begun_at_cut : (q : Past (TermBook w.image.pages)) → is.terms position.term ≡ Some q →
      theory.BeginsAt is.is_recorder.recorder is.world.terms position now
  begun_at_cut q there =
      let was = is.are_theory.book q.told.book q.told.is in
      let fact : BookFact (system_of (hardware w.image.pages)) is.are_theory.outs (boot_of w.image) =
      AtCut was cut now
      (
      is.are_theory.from p.book own_book ∙ (revived q there).start
      ∙ ap (λ (m : HartMachine). at (system_of (hardware w.image.pages)) m
      (journal_turns (heard_by q.told.book.mode) q.told.book.start q.told.book.journal) cut) (sym (is.are_theory.from q.told.book q.told.is))
      ∙ ap (λ (ts : List (Turn (List Input))). at (system_of (hardware w.image.pages)) was.from ts cut) (sym (is.are_theory.turns q.told.book q.told.is))
      )
      (
      is.are_theory.turns p.book own_book
      ∙ ap (λ (b : BookView RecordingView). journal_turns (heard_by p.book.mode) p.book.start b.journal) live.begins
      ) in
      theory.AtCut (retold (told w is) q) (there_told q there) (fact, is.is_recorder.tells fact)

  -- so it begins at the position
  begun : theory.BeginsAt is.is_recorder.recorder is.world.terms position now
  begun = elim (see (is.terms position.term)) [ inl none ↦ begun_at_boot none | inr (q, there) ↦ begun_at_cut q there ]

  -- the join has what keepers gave
  has : theory.HasGiven (guest_of w.image) is.world.terms (is.world.given term) (gave given) w.keepers live.at.joined
  has = all_given w is term given handed live.at.joined live.at.are_joined

  -- what is noted in the legs of the plan
  abbrev marks : ℕ → ℕ
  marks hart = noted_in live.at.replayed.legs hart

  -- the world in which the term is granted
  abbrev after : Theory w is
  after = theory.granted (guest_of w.image) is.world term position now marks

  -- the theory grants the term
  in_theory : ComesIn w is after
  in_theory =
      theory.Then is.comes
      (theory.Grant term (gave given) live.at.joined position now marks (in_world w is term None not_granted) has
      (enough w.keepers w.need given live.enough)
      (λ other o one. joined_below (guest_of w.image) (stores_in given) term live.at.joined live.new live.at.are_joined other o one)
      live.at.replayed.is_position (subst IsOpening live.at.opened begins.rules) begun
      (λ hart.
      are_marks is.is_recorder.recorder is.world.terms kept.family live.at.joined has.honest position live.at.replayed.legs live.at.replayed.planned hart))

  -- ---- what is then there

  -- the term with its book
  abbrev new_past : Past (TermBook w.image.pages)
  new_past = past_of p (λ hart. []) own_book

  -- the family with it
  abbrev terms : Family (TermBook w.image.pages)
  terms = put is.terms p.opening.term (Some new_past)

  -- the theory's terms are the books'
  terms_now : after.terms ≡ (λ u. retold_in (told w is) (terms u))
  terms_now =
      ap (λ f. put f term (Some (theory.new_term (guest_of w.image) term position now))) is.terms_are
      ∙ ap
      (λ (o : OpeningParts). put (λ u. retold_in (told w is) (is.terms u)) o.term
      (Some (let x : Past (Books w.image.pages is.are_theory) = record { opening = o; told = now; pieces = λ hart. [] } in x))) (sym live.at.opened)
      ∙ sym (retold_put (told w is) is.terms p.opening.term (Some new_past))

  -- and a history
  history_now : IsHistoryOf w.image (history terms)
  history_now =
      subst (IsHistoryOf w.image) (sym (retold_put (tell w is) is.terms p.opening.term (Some new_past)))
      (subst (λ t. IsHistoryOf w.image (put (history is.terms) t (Some past))) (sym is_term) longer)

  -- the opening was sent
  sent_now : after.sent ≡ w.frames ++ Opening p.opening ∷ []
  sent_now =
      ap (λ fs. fs ++ Opening (theory.new_opening (guest_of w.image) term position) ∷ []) is.sent
      ∙ ap (λ (o : OpeningParts). w.frames ++ Opening o ∷ []) (sym live.at.opened)

  -- ---- the primaries

  -- what was known of those of other terms is known still
  other_stays : (k : LeaderView) → (term ≡ k.primary.opening.term → ⊥) → IsNow w is is.world is.terms k → IsNow w is after terms k
  other_stays k apart was =
      stays is.world after is.terms terms (guest_of w.image) w.keepers w.need k was
      (put_other is.terms p.opening.term k.primary.opening.term (Some new_past) (λ e. apart (sym is_term ∙ e)))
      (λ keeper hart. omega arith) (λ r has. has)
      (λ hart. ap (λ f. f hart) (put_other is.world.notes term k.primary.opening.term (λ hart. []) apart))
      (λ hart. ap (λ f. f hart) (put_other is.world.marks term k.primary.opening.term marks apart))

  -- the new one knows of nothing that was done in its term
  own_leader : l.released ≡ [] → IsNow w is after terms l
  own_leader quiet =
      record {
        within =
            record {
              pieces = λ hart. [];
              is_book = own_book;
              there = put_same is.terms p.opening.term p.opening.term (Some new_past) refl;
              of_book = of_book;
              sealed = live.uncut.1;
            };
        of_guest = ap (λ (o : OpeningParts). o.guest) live.at.opened;
        of_keepers = live.gate.of_keepers;
        of_need = live.gate.of_need;
        of_term = live.gate.of_term ∙ sym is_term;
        offered = all_stay l.gate.gate p.book.machine live.offered;
        led = begun_led p.book live.begins;
        acked = λ keeper hart.
            let none : acked_at l.gate keeper hart ≡ 0 =
            ap (λ rows. count_at (get_or rows keeper []) hart) live.gate.acked ∙ none_acked w.keepers w.image.harts keeper hart in
            omega (arith, none);
        released = λ r has. none_in l.released r quiet has;
        gone = λ hart o has. none_in (gone_of l.gate.gate hart) o (live.gate.gone hart) has;
        noted = λ hart.
            ap (λ f. f hart) (put_same is.world.notes term p.opening.term (λ hart. []) (sym is_term)) ∙ sym (live.unused.notes hart);
        marked = λ hart.
            ap (λ f. f hart) (put_same is.world.marks term p.opening.term marks (sym is_term))
            ∙ sym (live.at.replayed.noted hart) ∙ sym (live.gate.marked hart);
      }

  -- so each is in the theory's world
  leaders_now : l.released ≡ [] → (n : ℕ) (k : LeaderView) → slice_get (w.led ++ led_as l ∷ []) n ≡ Some (led_as k) → IsNow w is after terms k
  leaders_now quiet n k at =
      elim (push_cases w.led (led_as l) n (led_as k) at) [
        | inl was ↦ other_stays k (λ e. new n (led_as k) was (sym e)) (is.leaders n k was)
        | inr (last, same) ↦ subst (IsNow w is after terms) (one_leader l k same) (own_leader quiet)
      ]

  -- nothing of what keepers have, said or gave is another
  tied : l.released ≡ [] → IsTied (record w { led = w.led ++ led_as l ∷ []; frames = w.frames ++ Opening l.primary.opening ∷ [] })
  tied quiet =
      moved w is (w.led ++ led_as l ∷ []) (w.frames ++ Opening l.primary.opening ∷ []) w.told w.clients w.asked terms after.terms after.sent
      after.released after.notes after.marks in_theory terms_now history_now
      (granted_more is.terms w.led (led_as l) new_past is.granted (λ n k at same. new n k at (sym same ∙ is_term)) refl refl) (leaders_now quiet) sent_now
      (λ f has. Contains-append_left is.world.sent (Opening (theory.new_opening (guest_of w.image) term position) ∷ []) f has) is.told is.heard

-- a primary goes live
pub goes_live : (w : ProcessWorld) (is : IsTied w) (term : ℕ) (quorum : Quorum) (given : List Given) (l : LeaderView) → IsNotGranted w term →
    quorum.keepers ≡ w.keepers → quorum.need ≡ w.need → All (WasHanded w term) given → GoesLiveGiven w.image quorum term given l.primary l.gate →
    l.released ≡ [] → IsTied (record w { led = w.led ++ led_as l ∷ []; frames = w.frames ++ Opening l.primary.opening ∷ [] })
goes_live w is term quorum given l new keepers need handed goes quiet =
    tied w is term given l new handed
    (subst (λ n. GoesLive w.image n w.need term (givers_in given) (stores_in given) l.primary l.gate) keepers
    (subst (λ n. GoesLive w.image quorum.keepers n term (givers_in given) (stores_in given) l.primary l.gate) need goes.live))
    goes.begins quiet
