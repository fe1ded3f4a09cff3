-- What is tied to the theory stays so: of primaries, of the terms that were granted, and of a world where the theory's is the same.
use Rattle.std.proofs.Common.{◌≡◌, inl, inr, ℕ, ◌≤◌, List, [], ◌∷◌, ◌++◌, length, Contains, slice_get, slice_set, Option, Some, refl, sym, ap, subst, ◌∙◌}
use Rattle.std.proofs.Common.{le_trans}
use Rattle.std.proofs.lemmas.List.Elements.{Contains-append_cases, Contains-append_right}
use Rattle.interleaving.specs.Lists.{put}
use Rattle.interleaving.proofs.Put.{same_or_not, put_same, put_other}
use Rattle.ft_types.specs.Guests.{GuestParts}
use Rattle.rv32_hart.specs.Hart.{Hart}
use Rattle.fragment_codec.specs.declared.frame.Frame.{Frame}
use Rattle.fragment_codec.specs.Rules.{OpeningParts}
use Rattle.guest_image.specs.Image.{guest_of}
use Rattle.hart_lease.proofs.journals.GoingOn.{get-set_here, get-set_there}
use Rattle.log_join.specs.Families.{Past, Family}
use Rattle.log_pieces.specs.Pieces.{SealedView}
use Rattle.term_gate.specs.TermGates.{acked_at}
use Rattle.hart_replay.specs.Histories.{TermHistory}
use Rattle.hart_replay.specs.Images.{IsHistoryOf}
use Rattle.hart_replay.specs.Primaries.{term_of as history_of}
use Rattle.hart_replay.proofs.failovers.Longer.{slice_left}
use Rattle.fenced_theory.specs.Worlds as theory
use Rattle.fenced_theory.proofs.Growing.{some_same}
use Rattle.primary.specs.declared.granted.Primary.{Primary}
use Rattle.primary.proofs.Put.{put_own}
use Rattle.keeper_disks.specs.Disks.{Disk, HasFenced}
use Rattle.keeper_disks.proofs.Has.{still_sent}
use Rattle.keeper_disks.proofs.Standings.{disks_stay}
use Rattle.requests.specs.Queues.{QueueView}
use Rattle.asking.specs.Talks.{TalkView}
use Rattle.leading.specs.Leaders.{LeaderView}
use Rattle.wire.specs.declared.answers.Answer.{Answer}
use Rattle.wire.specs.declared.requests.Request.{Request}
use Rattle.failover_world.specs.machinery.Tied.{TermBook, Books, retold_in, history, told_as, theory_released}
use Rattle.process_world.specs.Worlds.{Handed, Led, ProcessWorld, Leads, led_as}
use Rattle.process_world.specs.Happenings.{led_by}
use Rattle.process_world.specs.Promises.{AreHeard}
use Rattle.process_world.specs.machinery.Tied.{quorum_of, IsIn, AreGranted, IsLeader, IsGiven, IsTold, IsTied}
use Rattle.process_world.proofs.Lists.{none_in, set_cases, push_last, push_cases}

-- ---- one primary

-- a primary of which nothing but how far its log is cut, what its gate has as acknowledged, and what waits for it is another
pub renewed : {Book : Type 0} {pages : ℕ} (w v : theory.World Book) (terms now : Family (TermBook pages)) (guest : GuestParts) (keepers need : ℕ)
    (l : LeaderView) (sealed : SealedView) (acked : List (List ℕ)) (queues : List QueueView) → IsLeader w terms guest keepers need l →
    IsIn now (record l.primary { sealed = sealed }) →
    ((keeper hart : ℕ) → acked_at (record l.gate { acked = acked }) keeper hart ≤ v.acked l.primary.opening.term keeper hart) →
    ((r : theory.Released) → Contains w.released r → Contains v.released r) →
    ((hart : ℕ) → v.notes l.primary.opening.term hart ≡ w.notes l.primary.opening.term hart) →
    ((hart : ℕ) → v.marks l.primary.opening.term hart ≡ w.marks l.primary.opening.term hart) →
    IsLeader v now guest keepers need
    (record l { primary = record l.primary { sealed = sealed }; gate = record l.gate { acked = acked }; queues = queues })
renewed w v terms now guest keepers need l sealed acked queues is within all_acked more notes marks =
    record {
      within = within;
      of_guest = is.of_guest;
      of_keepers = is.of_keepers;
      of_need = is.of_need;
      of_term = is.of_term;
      offered = is.offered;
      led = is.led;
      acked = all_acked;
      released = λ r has. let (there, own) = is.released r has in (more (theory_released r) there, own);
      gone = λ hart o has. let (r, there, of_hart, of_number, no_later) = is.gone hart o has in (r, more r there, of_hart, of_number, no_later);
      noted = λ hart. notes hart ∙ is.noted hart;
      marked = λ hart. marks hart ∙ is.marked hart;
    }

-- its term is the same in another family
within_stays : {pages : ℕ} (terms now : Family (TermBook pages)) (p : Primary) → IsIn terms p → now p.opening.term ≡ terms p.opening.term → IsIn now p
within_stays terms now p is same =
    record { pieces = is.pieces; is_book = is.is_book; there = same ∙ is.there; of_book = is.of_book; sealed = is.sealed }

-- a primary whose term, acknowledgements, notes and marks are what they were
pub stays : {Book : Type 0} {pages : ℕ} (w v : theory.World Book) (terms now : Family (TermBook pages)) (guest : GuestParts) (keepers need : ℕ)
    (l : LeaderView) → IsLeader w terms guest keepers need l → now l.primary.opening.term ≡ terms l.primary.opening.term →
    ((keeper hart : ℕ) → w.acked l.primary.opening.term keeper hart ≤ v.acked l.primary.opening.term keeper hart) →
    ((r : theory.Released) → Contains w.released r → Contains v.released r) →
    ((hart : ℕ) → v.notes l.primary.opening.term hart ≡ w.notes l.primary.opening.term hart) →
    ((hart : ℕ) → v.marks l.primary.opening.term hart ≡ w.marks l.primary.opening.term hart) → IsLeader v now guest keepers need l
stays w v terms now guest keepers need l is same acked more notes marks =
    renewed w v terms now guest keepers need l l.primary.sealed l.gate.acked l.queues is (within_stays terms now l.primary is.within same)
    (λ keeper hart. le_trans (is.acked keeper hart) (acked keeper hart)) more notes marks

-- ---- the primaries of a world

-- one process leads as one
pub one_leader : (a b : LeaderView) → led_as a ≡ led_as b → a ≡ b
one_leader a b same = let e : Some a ≡ Some b = ap (λ (l : Led). l.leader) same in cc

-- ---- the terms that were granted

-- the family's term of the primary has its opening and its book
abbrev IsOfTerm : {pages : ℕ} → Family (TermBook pages) → Led → Type 0
IsOfTerm {pages} terms l = (p : Past (TermBook pages)) × (terms l.opening.term ≡ Some p) × (p.opening ≡ l.opening) × (p.told.book ≡ l.book)

-- where one of the primaries is another of its opening, each opening was there
opening_was : (led : List Led) (n : ℕ) (x y : Led) → slice_get led n ≡ Some x → y.opening ≡ x.opening → (m : ℕ) (l : Led) →
    slice_get (slice_set led n y) m ≡ Some l → (k : Led) × (slice_get led m ≡ Some k) × (k.opening ≡ l.opening)
opening_was led n x y at same m l there =
    elim (set_cases led n m y l there) [
      | inl (here, is) ↦ (x, subst (λ (k : ℕ). slice_get led k ≡ Some x) here at, sym same ∙ ap (λ (l : Led). l.opening) is)
      | inr (other, was) ↦ (l, was, refl)
    ]

-- one of the primaries is another of its opening, and its term is another, with that opening and with the primary's book
pub granted_put : {pages : ℕ} (terms : Family (TermBook pages)) (led : List Led) (n : ℕ) (x y : Led) (p : Past (TermBook pages)) → AreGranted terms led →
    slice_get led n ≡ Some x → y.opening ≡ x.opening → p.opening ≡ y.opening → p.told.book ≡ y.book →
    AreGranted (put terms x.opening.term (Some p)) (slice_set led n y)
granted_put {pages} terms led n x y p are at same opening book =
    record {
      each = λ m l there. elim (set_cases led n m y l there) [
        | inl (here, is) ↦
            subst (IsOfTerm (put terms x.opening.term (Some p))) is
            (p, put_same terms x.opening.term y.opening.term (Some p) (ap (λ (o : OpeningParts). o.term) (sym same)), opening, book)
        | inr (other, was) ↦
            let (q, there, of, its) = are.each m l was in
            (q, put_other terms x.opening.term l.opening.term (Some p) (λ e. other (are.apart n m x l at was e)) ∙ there, of, its)
      ];
      apart = λ m k l j one two e.
          let (a, was, of) = opening_was led n x y at same m l one in
          let (b, too, also) = opening_was led n x y at same k j two in
          are.apart m k a b was too (ap (λ (o : OpeningParts). o.term) of ∙ e ∙ sym (ap (λ (o : OpeningParts). o.term) also));
      no_other = λ u q there. elim (same_or_not x.opening.term u) [
        | inl here ↦ (n, y, get-set_here led n y x at, ap (λ (o : OpeningParts). o.term) same ∙ here)
        | inr other ↦
            let (m, l, was, of_term) = are.no_other u q (sym (put_other terms x.opening.term u (Some p) other) ∙ there) in
            let apart : (n ≡ m → ⊥) = λ e. other (ap (λ (l : Led). l.opening.term) (some_same at (ap (slice_get led) e ∙ was)) ∙ of_term) in
            (m, l, get-set_there led n y m apart ∙ was, of_term)
      ];
    }

-- one of the primaries is another of its opening, with its book
granted_set : {pages : ℕ} (terms : Family (TermBook pages)) (led : List Led) (n : ℕ) (x y : Led) → AreGranted terms led → slice_get led n ≡ Some x →
    y.opening ≡ x.opening → y.book ≡ x.book → AreGranted terms (slice_set led n y)
granted_set {pages} terms led n x y are at same book =
    let (p, there, of, its) = are.each n x at in
    subst (λ (now : Family (TermBook pages)). AreGranted now (slice_set led n y)) (put_own terms x.opening.term (Some p) there)
    (granted_put terms led n x y p are at same (of ∙ sym same) (its ∙ sym book))

-- one more was granted
pub granted_more : {pages : ℕ} (terms : Family (TermBook pages)) (led : List Led) (x : Led) (p : Past (TermBook pages)) → AreGranted terms led →
    ((n : ℕ) (l : Led) → slice_get led n ≡ Some l → x.opening.term ≡ l.opening.term → ⊥) → p.opening ≡ x.opening → p.told.book ≡ x.book →
    AreGranted (put terms x.opening.term (Some p)) (led ++ x ∷ [])
granted_more {pages} terms led x p are new same book =
    record {
      each = λ n l there. elim (push_cases led x n l there) [
        | inl was ↦
            let (q, at, of, its) = are.each n l was in (q, put_other terms x.opening.term l.opening.term (Some p) (new n l was) ∙ at, of, its)
        | inr (last, is) ↦
            subst (IsOfTerm (put terms x.opening.term (Some p))) is (p, put_same terms x.opening.term x.opening.term (Some p) refl, same, book)
      ];
      apart = λ n m l k one two e. elim (push_cases led x n l one) [
        | inl was ↦ elim (push_cases led x m k two) [
          | inl also ↦ are.apart n m l k was also e
          | inr (last, is) ↦ absurd (new n l was (ap (λ (l : Led). l.opening.term) is ∙ sym e))
        ]
        | inr (last, is) ↦ elim (push_cases led x m k two) [
          | inl also ↦ absurd (new m k also (ap (λ (l : Led). l.opening.term) is ∙ e))
          | inr (too, is_so) ↦ last ∙ sym too
        ]
      ];
      no_other = λ u q there. elim (same_or_not x.opening.term u) [
        | inl here ↦ (length led, x, push_last led x, here)
        | inr other ↦
            let (n, l, at, of_term) = are.no_other u q (sym (put_other terms x.opening.term u (Some p) other) ∙ there) in
            (n, l, slice_left led (x ∷ []) n l at, of_term)
      ];
    }

-- ---- what was handed over and what was told

-- what was handed over is so still where it was given, and is given once
pub given_stays : {Book : Type 0} (w v : theory.World Book) (guest : GuestParts) (disks now : ℕ → Option Disk) (h : Handed) →
    v.given h.term h.keeper ≡ w.given h.term h.keeper → ((f : Frame) → Contains w.sent f → Contains v.sent f) →
    ((d : Disk) → now h.keeper ≡ Some d → (h.term ≤ d.files.fence) × (d.hand ≡ HasFenced h.term → ⊥)) → IsGiven w guest disks h → IsGiven v guest now h
given_stays w v guest disks now h given more once is =
    record {
      store = is.store;
      given = given ∙ is.given;
      frames = still_sent guest w.sent v.sent more h.bytes [] is.store is.frames;
      once = once;
    }

-- what was told went out still
pub still_told : (rs ss : List theory.Released) → ((r : theory.Released) → Contains rs r → Contains ss r) → (a : Answer) → IsTold rs a → IsTold ss a
still_told rs ss more a is =
    record {
      out = is.out;
      has = more is.out is.has;
      of_hart = is.of_hart;
      of_number = is.of_number;
      of_step = is.of_step;
      of_word = is.of_word;
      no_later = is.no_later;
    }

module _ (w : ProcessWorld) (is : IsTied w) where
  -- ---- the theory of the world

  -- a world of the theory
  abbrev pub Theory : Type 0
  Theory = theory.World (Books w.image.pages is.are_theory)

  -- the books of terms
  abbrev pub Terms : Type 0
  Terms = Family (TermBook w.image.pages)

  -- a world that comes there
  abbrev pub ComesIn : Theory → Type 0
  ComesIn v = theory.Comes is.is_recorder.recorder (guest_of w.image) (quorum_of w) v

  -- what a primary knows and did, in such a world
  abbrev pub IsNow : Theory → Terms → LeaderView → Type 0
  IsNow v now l = IsLeader v now (guest_of w.image) w.keepers w.need l

  -- what a term's book tells, and how the theory has it
  abbrev pub tell : TermBook w.image.pages → TermHistory (Option Hart) (Option (List ℕ))
  tell t = history_of t.book

  -- how the theory has the book
  abbrev pub told : TermBook w.image.pages → Books w.image.pages is.are_theory
  told = told_as w.image.pages is.are_theory

  -- what the family has of a term, the theory's world has
  pub in_world : (u : ℕ) (x : Option (Past (TermBook w.image.pages))) → is.terms u ≡ x → is.world.terms u ≡ retold_in told x
  in_world u x there = ap (λ f. f u) is.terms_are ∙ ap (retold_in told) there

  -- ---- what keepers have is as it was

  -- the theory's world with these terms, frames, outputs that went out, notes and marks
  abbrev pub with_terms : Family (Books w.image.pages is.are_theory) → List Frame → List theory.Released → (ℕ → ℕ → List (ℕ × ℕ)) → (ℕ → ℕ → ℕ) →
      Theory
  with_terms terms sent released notes marks =
      record is.world { terms = terms; sent = sent; released = released; notes = notes; marks = marks }

  -- of primaries, of what was sent and told, of clients and of requests there are others
  pub moved : (led : List Led) (frames : List Frame) (answers : List Answer) (clients : List TalkView) (asked : List Request) (now : Terms)
      (terms : Family (Books w.image.pages is.are_theory)) (sent : List Frame) (released : List theory.Released) (notes : ℕ → ℕ → List (ℕ × ℕ))
      (marks : ℕ → ℕ → ℕ) → ComesIn (with_terms terms sent released notes marks) → terms ≡ (λ u. retold_in told (now u)) →
      IsHistoryOf w.image (history now) → AreGranted now led →
      ((n : ℕ) (l : LeaderView) → slice_get led n ≡ Some (led_as l) → IsNow (with_terms terms sent released notes marks) now l) → sent ≡ frames →
      ((f : Frame) → Contains is.world.sent f → Contains sent f) → ((a : Answer) → Contains answers a → IsTold released a) →
      AreHeard (record w { told = answers; clients = clients }) →
      IsTied (record w { led = led; frames = frames; told = answers; clients = clients; asked = asked })
  moved led frames answers clients asked now terms sent released notes marks comes terms_are is_history granted leaders same more all_told all_heard =
      let v = with_terms terms sent released notes marks in
      record {
        are_theory = is.are_theory;
        is_recorder = is.is_recorder;
        terms = now;
        world = v;
        comes = comes;
        terms_are = terms_are;
        is_history = is_history;
        granted = granted;
        leaders = leaders;
        sent = same;
        standing = λ keeper d there.
            disks_stay (Books w.image.pages is.are_theory) (guest_of w.image) is.world v keeper d (is.standing keeper d there)
            (record { stores = refl; saved = refl; fence = refl; given = λ u. refl; acked = λ u. refl }) more;
        said = is.said;
        only_said = is.only_said;
        handed = λ h has. let was = is.handed h has in given_stays is.world v (guest_of w.image) w.disks w.disks h refl more was.once was;
        told = all_told;
        heard = all_heard;
      }

  -- ---- the same world of the theory

  -- of primaries, of what was told, of clients and of requests there are others
  pub with_parts : (led : List Led) (answers : List Answer) (clients : List TalkView) (asked : List Request) → AreGranted is.terms led →
      ((n : ℕ) (l : LeaderView) → slice_get led n ≡ Some (led_as l) → IsNow is.world is.terms l) →
      ((a : Answer) → Contains answers a → IsTold is.world.released a) → AreHeard (record w { told = answers; clients = clients }) →
      IsTied (record w { led = led; told = answers; clients = clients; asked = asked })
  with_parts led answers clients asked granted leaders all_told all_heard =
      moved led w.frames answers clients asked is.terms is.world.terms is.world.sent is.world.released is.world.notes is.world.marks is.comes is.terms_are
      is.is_history granted leaders is.sent (λ f has. has) all_told all_heard

  -- where more is told, what was heard was told still
  pub still_heard : (answers : List Answer) → AreHeard (record w { told = answers ++ w.told })
  still_heard answers c t number word at had_it =
      let (a, has, of_hart, of_number, of_word) = is.heard c t number word at had_it in
      (a, Contains-append_right answers w.told a has, of_hart, of_number, of_word)

  -- where more is told that went out, all that is told did
  pub more_told : (answers : List Answer) → ((a : Answer) → Contains answers a → IsTold is.world.released a) →
      (a : Answer) → Contains (answers ++ w.told) a → IsTold is.world.released a
  more_told answers out a has = elim (Contains-append_cases answers w.told a has) [ inl new ↦ out a new | inr old ↦ is.told a old ]

  -- a primary that was granted is this one now, of the same term and book, and these are told
  pub led_changed : (n : ℕ) (x y : Led) → slice_get w.led n ≡ Some x → y.opening ≡ x.opening → y.book ≡ x.book →
      ((l : LeaderView) → y ≡ led_as l → IsNow is.world is.terms l) → (answers : List Answer) →
      ((a : Answer) → Contains answers a → IsTold is.world.released a) →
      IsTied (record w { led = slice_set w.led n y; told = answers ++ w.told })
  led_changed n x y at same book own answers out =
      with_parts (slice_set w.led n y) (answers ++ w.told) w.clients w.asked (granted_set is.terms w.led n x y is.granted at same book)
      (λ m l there. elim (set_cases w.led n m y (led_as l) there) [
        | inl (here, so) ↦ own l so
        | inr (other, was) ↦ is.leaders m l was
      ])
      (more_told answers out) (still_heard answers)

  -- nothing is told
  pub none_told : (a : Answer) → Contains [] a → IsTold is.world.released a
  none_told a has = none_in [] a refl has

  -- a primary is this one, as the theory's world has it, and these are told
  pub leader_changed : (n : ℕ) (old new : LeaderView) → Leads w n old → new.primary.opening ≡ old.primary.opening →
      new.primary.book ≡ old.primary.book → IsNow is.world is.terms new → (answers : List Answer) →
      ((a : Answer) → Contains answers a → IsTold is.world.released a) →
      IsTied (record w { led = led_by w n new; told = answers ++ w.told })
  leader_changed n old new at same book own answers out =
      led_changed n (led_as old) (led_as new) at same book (λ l so. subst (IsNow is.world is.terms) (one_leader new l so) own) answers out
