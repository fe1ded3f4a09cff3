-- The world stays one that comes in the theory: a primary goes live.
use Rattle.std.proofs.Common.{◌≡◌, inl, inr, ℕ, zero, suc, ◌+◌, ◌<◌, ◌≤◌, true, false, List, [], ◌∷◌, ◌++◌, length, map, replicate, slice_get, slice_index_or, get_or, Contains, Option, Some, None, refl, sym, ap, subst, ◌∙◌, arith}
use Rattle.std.specs.List.{range_with_len}
use Rattle.std.proofs.lemmas.List.Elements.{Contains-append_left, Contains-push}
use Rattle.std.proofs.Math.Path.{fun_ext}
use Rattle.ft_types.specs.Counts.{count_at}
use Rattle.ft_types.specs.declared.output.Output.{Output}
use Rattle.edge_log.specs.EdgeLog.{start_of}
use Rattle.interleaving.specs.Lists.{put, Each, EachPair}
use Rattle.interleaving.specs.Machine.{Turn, at}
use Rattle.interleaving.specs.Log.{IsCut}
use Rattle.interleaving.specs.Stored.{system_of, view}
use Rattle.interleaving.proofs.Put.{same_or_not, put_same, put_other}
use Rattle.input_log.specs.declared.Input.{Input}
use Rattle.input_log.specs.Notes.{notes_of}
use Rattle.rv32_hart.specs.Hart.{Hart, boot_hart}
use Rattle.rv32_hart.specs.Hardware.{hardware}
use Rattle.guest_image.specs.Image.{guest_of}
use Rattle.guest_image.specs.Machine.{MachineState, boot_machine}
use Rattle.fragment_codec.specs.declared.frame.Frame.TheVariants.{Opening}
use Rattle.fragment_codec.specs.Rules.{OpeningParts, IsOpening}
use Rattle.log_join.specs.Families.{Past, Family}
use Rattle.ft_types.specs.declared.position.Position.{Position}
use Rattle.page_book.specs.Books.{BookView}
use Rattle.book_modes.specs.Hearings.{HartMachine}
use Rattle.book_modes.specs.Recordings.{RecordingView, heard_by}
use Rattle.hart_lease.specs.Runs.{counts_of, journal_turns}
use Rattle.hart_replay.specs.Histories.{TermHistory, IsTerm, machine_in}
use Rattle.hart_replay.specs.Images.{GuestTerm, machine_of, boot_of}
use Rattle.hart_replay.specs.Plans.{noted_in}
use Rattle.hart_replay.specs.Primaries.{IsTermOfBook, unsealed, term_of as history_of}
use Rattle.hart_replay.proofs.honesty.Sealing.{unsealed_is_of_book}
use Rattle.hart_replay.proofs.honesty.Replays.{legs_keep_pages, boot_pages}
use Rattle.fenced_theory.specs.Machines.{Book, BookFact, AreTidy, AtBoot, AtCut}
use Rattle.fenced_theory.specs.Lists.{how_many}
use Rattle.fenced_theory.specs.Recorders.{Output as TheoryOutput}
use Rattle.failover_world.specs.machinery.Stopping as theory
use Rattle.fenced_theory.proofs.Invariant.{Invariant}
use Rattle.fenced_theory.proofs.Stores.{see}
use Rattle.book_recorder.specs.TermBooks.{outputs_of, IsTermBook, IsRevived}
use Rattle.book_recorder.proofs.Books.{revived_are_term_books}
use Rattle.term_gate.specs.TermGates.{TermGateView, acked_at}
use Rattle.go_live.specs.Lives.{IsAtPosition}
use Rattle.go_live.specs.Histories.{MakesLonger}
use Rattle.go_live.specs.Beginnings.{GoesLive, BeginsTerm}
use Rattle.primary.specs.declared.granted.Primary.{Primary}
use Rattle.failover_world.specs.Worlds.{WorldView, term_of}
use Rattle.primary.specs.Outputs.{said_by, said_at}
use Rattle.primary.specs.Gating.{AreRising}
use Rattle.failover_world.specs.Happenings.{GoesLiveFrom, stores_of}
use Rattle.failover_world.specs.machinery.Tied.{TermBook, retold, retold_in, history, told_as, theory_world, quorum_of, live_book, AreParts, IsTied}
use Rattle.failover_world.proofs.Places.{retold_put}
use Rattle.failover_world.proofs.Stopping as stopping
use Rattle.primary.proofs.Put.{put_put}
use Rattle.failover_world.proofs.Before.{stopped_or_now, before_now, no_other_with}
use Rattle.failover_world.proofs.Chosen.{chosen_of, put_own, honest, all_given, enough}
use Rattle.failover_world.proofs.Marks.{are_marks}

-- no hart of boot has put out anything
none_out : (harts : ℕ) (numbers : List ℕ) (hart : ℕ) → outputs_of (slice_get (map (boot_hart harts) numbers) hart) ≡ []
unfolding boot_hart
none_out harts [] hart = refl
none_out harts (n ∷ numbers) zero = refl
none_out harts (n ∷ numbers) (suc hart) = none_out harts numbers hart

none_gone : {A : Type 0} (x : A) → Contains [] x → ⊥
none_gone x (k, below, is) = absurd (omega (arith, below))

-- nothing was acknowledged
none_acked : (n k : ℕ) (row : List ℕ) → ((hart : ℕ) → count_at row hart ≡ 0) → (hart : ℕ) → count_at (get_or (replicate n row) k []) hart ≡ 0
none_acked zero k row none hart = refl
none_acked (suc n) zero row none hart = none hart
none_acked (suc n) (suc k) row none hart = none_acked n k row none hart

no_counts : (n hart : ℕ) → count_at (replicate n 0) hart ≡ 0
no_counts zero hart = refl
no_counts (suc n) zero = refl
no_counts (suc n) (suc hart) = no_counts n hart

some_is : {A : Type 0} (x y : A) → Some x ≡ Some y → x ≡ y
some_is x y e = cc

no_some : {A : Type 0} (x : A) (a : Option A) → a ≡ None → a ≡ Some x → ⊥
no_some x a none some = let e : None ≡ Some x = sym none ∙ some in cc

each_mapped : {A B : Type 0} (P : B → Type 0) (f : A → B) (xs : List A) → Each P (map f xs) → Each (λ x. P (f x)) xs
each_mapped P f [] all = tt
each_mapped P f (x ∷ xs) (first, rest) = (first, each_mapped P f xs rest)

pair_mapped : {A B : Type 0} (R : B → B → Type 0) (f : A → B) (xs : List A) → EachPair R (map f xs) → EachPair (λ a b. R (f a) (f b)) xs
pair_mapped R f [] all = tt
pair_mapped R f (x ∷ xs) (first, rest) = (each_mapped (R (f x)) f xs first, pair_mapped R f xs rest)

-- the outputs of the machine with which it begins stand in the order of their steps
rising_said : (h : Option Hart) → EachPair (λ o p. o.step < p.step) (outputs_of h) → EachPair (λ a b. a.0 < b.0) (said_by h)
rising_said None rising = tt
rising_said (Some h) rising = pair_mapped (λ (o p : TheoryOutput). o.step < p.step) (λ o. record { step = o.0; word = o.1 }) h.outputs rising

module _ (v : WorldView) (is : IsTied v) (term : ℕ) (named : List ℕ) (p : Primary)
    (marks : List ℕ) (begun_at : IsAtPosition v.image (map (λ s. s.1) (stores_of v.stores named)) term p.book.start p.opening marks) (later : term_of v < term)
    (log_start : (hart : ℕ) → start_of p.book.mode.edges hart ≡ counts_of p.book.start hart) (begins : BeginsTerm v.image term (map (λ s. s.1) (stores_of v.stores named)) p) where
  abbrev pages : ℕ
  pages = v.image.pages

  abbrev position : Position
  position = begun_at.position

  abbrev cut : ℕ → ℕ
  cut = count_at begun_at.position.counts

  abbrev tell : TermBook v.image.pages → TermHistory (Option Hart) (Option (List ℕ))
  tell t = history_of t.book

  base : (hart : ℕ) → count_at p.opening.base hart ≡ counts_of p.book.start hart
  base hart = ap (λ (o : OpeningParts). count_at o.base hart) begun_at.opened ∙ sym (begun_at.replayed.counts hart)

  is_term : p.opening.term ≡ term
  is_term = ap (λ (o : OpeningParts). o.term) begun_at.opened

  parent : p.opening.parent ≡ position.term
  parent = ap (λ (o : OpeningParts). o.parent) begun_at.opened

  as_large : length p.book.start.pages ≡ v.image.pages
  as_large = legs_keep_pages begun_at.replayed.legs (boot_machine v.image) p.book.start begun_at.replayed.outcome ∙ boot_pages v.image

  kept : Invariant is.is_recorder.recorder (quorum_of v)
      (theory.beside (theory_world v.image.pages is.are_theory (guest_of v.image) v is.terms is.notes is.marks is.out) is.comes.keepers)
  kept = stopping.kept is.is_recorder.recorder (guest_of v.image) (quorum_of v) is.comes

  -- no such term was granted
  not_granted : is.terms term ≡ None
  not_granted =
      elim (see (is.terms term)) [
        | inl none ↦ none
        | inr (q, there) ↦
            let old : term ≤ term_of v = is.comes.last term (retold (told_as v.image.pages is.are_theory) q)
            (ap (retold_in (told_as v.image.pages is.are_theory)) there) in
            let new : term_of v < term = later in
            absurd (omega (arith, old, new))
      ]

  -- the machine is the history's
  starts : view (hardware v.image.pages) p.book.start ≡ machine_of v.image (history is.terms) position.term cut
  starts =
      begins.is_history (history is.terms) (honest v is named)
      ∙ ap (λ (o : OpeningParts). machine_of v.image (history is.terms) o.parent (count_at o.base)) begun_at.opened

  from_boot : is.terms position.term ≡ None → view (hardware v.image.pages) p.book.start ≡ boot_of v.image
  from_boot none =
      starts ∙ ap (λ (t : Option GuestTerm). machine_in (system_of (hardware v.image.pages)) (boot_of v.image) t cut) (ap (retold_in tell) none)

  tidy_at_boot : is.terms position.term ≡ None → (hart : ℕ) → AreTidy (counts_of p.book.start hart) (outputs_of (slice_get p.book.start.harts hart))
  tidy_at_boot none hart =
      subst (λ os. AreTidy (counts_of p.book.start hart) os)
      (sym (ap (λ (m : HartMachine). outputs_of (m.harts hart)) (from_boot none) ∙ none_out v.image.harts (range_with_len 0 v.image.harts) hart))
      (record { rising = tt; below = tt })

  -- ---- the term that it goes on from

  abbrev past : GuestTerm
  past = unsealed p.opening p.book

  of_book : IsTermOfBook p.book past
  of_book = unsealed_is_of_book p.book p.opening base

  new_term : IsTerm (system_of (hardware v.image.pages)) (boot_of v.image) (put (history is.terms) term (Some past)) term past
  new_term =
      (begins.longer (history is.terms) (honest v is named) (ap (retold_in tell) not_granted) p.book past refl begins.primary of_book refl).is_history.terms term past
      (put_same (history is.terms) term term (Some past) refl)

  module _ (q : Past (TermBook v.image.pages)) (there : is.terms position.term ≡ Some q) where
    its_cut : IsCut (history_of q.told.book).log (counts_of p.book.start)
    its_cut =
        elim new_term.place [
          | inl boot ↦
              absurd
              (no_some (retold (told_as v.image.pages is.are_theory) q) (retold_in (told_as v.image.pages is.are_theory) (is.terms 0)) kept.family.none
              (ap (λ n. retold_in (told_as v.image.pages is.are_theory) (is.terms n)) (sym boot ∙ parent)
              ∙ ap (retold_in (told_as v.image.pages is.are_theory)) there))
          | inr (was, at, closed) ↦
              let older : p.opening.parent < term = new_term.older in
              let same : Some was ≡ Some (retold tell q) =
              sym at ∙ put_other (history is.terms) term p.opening.parent (Some past) (λ e. absurd (omega (arith, older, e)))
              ∙ ap (history is.terms) parent ∙ ap (retold_in tell) there in
              subst (λ (t : GuestTerm). IsCut t.told.log (counts_of p.book.start)) (some_is was (retold tell q) same) closed
        ]

    revived : IsRevived v.image.pages q.told.book cut p.book
    revived =
        record {
          above = λ hart. subst (λ n. counts_of q.told.book.start hart ≤ n) (begun_at.replayed.counts hart) (its_cut.from_start hart);
          within = λ hart. subst (λ n. n ≤ counts_of q.told.book.machine hart) (begun_at.replayed.counts hart) (its_cut.to_end hart);
          start =
              starts
              ∙ ap (λ (t : Option GuestTerm). machine_in (system_of (hardware v.image.pages)) (boot_of v.image) t cut) (ap (retold_in tell) there)
              ∙ ap
              (λ (n : ℕ). at (system_of (hardware v.image.pages)) (view (hardware n) q.told.book.start)
              (journal_turns (heard_by q.told.book.mode) q.told.book.start q.told.book.journal) cut) q.told.is.many;
        }

  pub new_book : IsTermBook v.image.pages p.book
  new_book =
      elim (see (is.terms position.term)) [
        | inl none ↦ record { primary = begins.primary; many = as_large; log_start = log_start; tidy = tidy_at_boot none }
        | inr (q, there) ↦
            revived_are_term_books v.image.pages q.told.book p.book cut q.told.is (revived q there) begins.primary as_large log_start
      ]

  pub rising : p.book.machine ≡ p.book.start → AreRising p.book.machine
  rising same hart =
      subst (λ (m : MachineState). EachPair (λ a b. a.0 < b.0) (said_at m hart)) (sym same)
      (rising_said (slice_get p.book.start.harts hart) (new_book.tidy hart).rising)

-- the world with the primary and its gate
abbrev pub granted_world : WorldView → Primary → TermGateView → WorldView
granted_world v p g =
    record v { primary = p; runs = true; stopped = v.stopped ++ v.primary ∷ []; sent = v.sent ++ Opening p.opening ∷ []; gate = g }

module _ (v : WorldView) (is : IsTied v) (parts : AreParts v) (term : ℕ) (named : List ℕ) (p : Primary) (g : TermGateView)
    (goes : GoesLiveFrom v term named p g) where
  abbrev live : GoesLive v.image v.keepers v.need term (map (λ s. s.0) (stores_of v.stores named)) (map (λ s. s.1) (stores_of v.stores named)) p g
  live = goes.live

  abbrev begins : BeginsTerm v.image term (map (λ s. s.1) (stores_of v.stores named)) p
  begins = goes.begins

  abbrev own_book : IsTermBook v.image.pages p.book
  own_book = new_book v is term named p live.marks live.at goes.later live.unused.log_start begins

  -- ---- in the theory

  abbrev told : TermBook v.image.pages → Book (system_of (hardware v.image.pages)) is.are_theory.outs
  told = told_as v.image.pages is.are_theory

  abbrev now : Book (system_of (hardware v.image.pages)) is.are_theory.outs
  now = is.are_theory.book p.book own_book

  begun : theory.BeginsAt is.is_recorder.recorder (λ u. retold_in told (is.terms u)) live.at.position now
  begun =
      elim (see (is.terms live.at.position.term)) [
        | inl none ↦
            let fact : BookFact (system_of (hardware v.image.pages)) is.are_theory.outs (boot_of v.image) =
            AtBoot now (is.are_theory.from p.book own_book ∙ from_boot v is term named p live.marks live.at goes.later live.unused.log_start begins none) in
            theory.AtBoot (ap (retold_in told) none) (fact, is.is_recorder.tells fact)
        | inr (q, there) ↦
            let was = is.are_theory.book q.told.book q.told.is in
            let fact : BookFact (system_of (hardware v.image.pages)) is.are_theory.outs (boot_of v.image) =
            AtCut was (count_at live.at.position.counts) now
            (
            is.are_theory.from p.book own_book ∙ (revived v is term named p live.marks live.at goes.later live.unused.log_start begins q there).start
            ∙ ap (λ (m : HartMachine). at (system_of (hardware v.image.pages)) m
            (journal_turns (heard_by q.told.book.mode) q.told.book.start q.told.book.journal) (count_at live.at.position.counts)) (sym (is.are_theory.from q.told.book q.told.is))
            ∙ ap (λ (ts : List (Turn (List Input))). at (system_of (hardware v.image.pages)) was.from ts (count_at live.at.position.counts)) (sym (is.are_theory.turns q.told.book q.told.is))
            )
            (
            is.are_theory.turns p.book own_book
            ∙ ap (λ (b : BookView RecordingView). journal_turns (heard_by p.book.mode) p.book.start b.journal) live.begins
            ) in
            theory.AtCut (retold told q) (ap (retold_in told) there) (fact, is.is_recorder.tells fact)
      ]

  abbrev world : theory.World (Book (system_of (hardware v.image.pages)) is.are_theory.outs)
  world = theory_world v.image.pages is.are_theory (guest_of v.image) v is.terms is.notes is.marks is.out

  abbrev Comes : theory.World (Book (system_of (hardware v.image.pages)) is.are_theory.outs) → Type 0
  Comes w = theory.Comes is.is_recorder.recorder (guest_of v.image) (quorum_of v) w

  -- what is noted in the legs of the plan
  abbrev its_marks : ℕ → ℕ
  its_marks hart = noted_in live.at.replayed.legs hart

  -- the world with a new term of this opening
  abbrev with_opening : OpeningParts → theory.World (Book (system_of (hardware v.image.pages)) is.are_theory.outs)
  with_opening o =
      record (theory_world v.image.pages is.are_theory (guest_of v.image) v is.terms is.notes is.marks is.out) {
        now = o.term;
        terms = put (λ u. retold_in told (is.terms u)) o.term (Some (record { opening = o; told = now; pieces = λ hart. [] }));
        sent = v.sent ++ Opening o ∷ [];
        acked = λ keeper hart. 0;
        notes = put is.notes o.term (λ hart. []);
        marks = put is.marks o.term its_marks;
      }

  has : theory.HasGiven (guest_of v.image) world.terms world.stores (chosen_of v.stores named) v.keepers live.at.joined
  has =
      subst (λ n. theory.HasGiven (guest_of v.image) world.terms world.stores (chosen_of v.stores named) n live.at.joined) parts.stores
      (all_given v is named live.at.joined live.at.are_joined)

  in_theory : Comes (with_opening p.opening)
  in_theory =
      subst (λ o. Comes (with_opening o)) (sym live.at.opened)
      (stopping.grants is.is_recorder.recorder (guest_of v.image) (quorum_of v) is.comes term (chosen_of v.stores named) live.at.joined live.at.position now
      its_marks goes.later has
      (subst (λ n. v.keepers < v.need + how_many n (chosen_of v.stores named)) parts.stores (enough v is named live.enough))
      live.at.replayed.is_position (subst IsOpening live.at.opened begins.rules) begun
      (λ hart.
      are_marks is.is_recorder.recorder (λ u. retold_in told (is.terms u))
      (stopping.kept is.is_recorder.recorder (guest_of v.image) (quorum_of v) is.comes).family live.at.joined has.honest live.at.position
      live.at.replayed.legs live.at.replayed.planned hart))

  none_noted : ◌≡◌ {A = ℕ → ℕ → ℕ} (λ keeper hart. acked_at g keeper hart) (λ keeper hart. 0)
  none_noted =
      fun_ext
      (λ keeper. fun_ext
      (λ hart. ap (λ (rows : List (List ℕ)). count_at (slice_index_or rows keeper []) hart) live.gate.acked
      ∙ none_acked v.keepers keeper (replicate v.image.harts 0) (no_counts v.image.harts) hart))

  abbrev new_past : Past (TermBook v.image.pages)
  new_past = live_book (granted_world v p g) (λ hart. []) own_book

  abbrev terms : Family (TermBook v.image.pages)
  terms = put is.terms p.opening.term (Some new_past)

  now_later : term_of v < p.opening.term
  now_later = subst (λ n. term_of v < n) (sym (is_term v is term named p live.marks live.at goes.later live.unused.log_start begins)) goes.later

  -- the primaries that stopped, the last one among them, are of earlier terms, with the notes of their books
  earlier : (q : Primary) → Contains (v.stopped ++ v.primary ∷ []) q → q.opening.term < p.opening.term
  earlier q has =
      elim (stopped_or_now v.stopped v.primary q has) [
        | inl was ↦ let less = (is.before q was).earlier in let later = now_later in omega (arith, less, later)
        | inr same ↦ subst (λ (r : Primary). r.opening.term < p.opening.term) same now_later
      ]

  noted_so_far : (q : Primary) → Contains (v.stopped ++ v.primary ∷ []) q → (hart : ℕ) → is.notes q.opening.term hart ≡ notes_of q.book.mode.notes hart
  noted_so_far q has hart =
      elim (stopped_or_now v.stopped v.primary q has) [
        | inl was ↦ is.noted_before q was hart
        | inr same ↦ subst (λ (r : Primary). is.notes r.opening.term hart ≡ notes_of r.book.mode.notes hart) same (is.noted hart)
      ]

  -- a primary went live
  pub granted : v.runs ≡ false → IsTied (granted_world v p g)
  granted quiet =
      record {
        are_theory = is.are_theory;
        is_recorder = is.is_recorder;
        terms = terms;
        notes = put is.notes p.opening.term (λ hart. []);
        marks = put is.marks p.opening.term its_marks;
        out = is.out;
        comes =
            subst (λ a. Comes (record (with_opening p.opening) { terms = λ u. retold_in told (terms u); acked = a })) (sym none_noted)
            (subst (λ t. Comes (record (with_opening p.opening) { terms = t })) (sym (retold_put told is.terms p.opening.term (Some new_past)))
            in_theory);
        went_out = is.went_out;
        no_more = is.no_more;
        gone_out = λ hart o has. absurd (none_gone o (subst (λ (os : List Output). Contains os o) (live.gate.gone hart) has));
        noted = λ hart.
            ap (λ (f : ℕ → List (ℕ × ℕ)). f hart) (put_same is.notes p.opening.term p.opening.term (λ hart. []) refl) ∙ sym (live.unused.notes hart);
        noted_before = λ q has hart.
            ap (λ (f : ℕ → List (ℕ × ℕ)). f hart)
            (put_other is.notes p.opening.term q.opening.term (λ hart. []) (λ same. let less : q.opening.term < p.opening.term = earlier q has in absurd (omega (arith, less, same)))) ∙
            noted_so_far q has hart;
        marked = λ hart.
            ap (λ (f : ℕ → ℕ). f hart) (put_same is.marks p.opening.term p.opening.term its_marks refl) ∙ sym (live.at.replayed.noted hart) ∙
            sym (live.gate.marked hart);
        pieces = λ hart. [];
        is_book = own_book;
        there = put_same is.terms p.opening.term p.opening.term (Some new_past) refl;
        of_book = of_book v is term named p live.marks live.at goes.later live.unused.log_start begins;
        sealed = live.uncut.1;
        opened = λ u q at. elim (same_or_not p.opening.term u) [
          | inl same ↦
              let e : Some new_past ≡ Some q = sym (put_same is.terms p.opening.term u (Some new_past) same) ∙ at in
              let o : p.opening ≡ q.opening = ap (λ (r : Past (TermBook v.image.pages)). r.opening) (some_is new_past q e) in
              subst (λ o. Contains (v.sent ++ Opening p.opening ∷ []) (Opening o)) o (Contains-push v.sent (Opening p.opening))
          | inr other ↦
              Contains-append_left v.sent (Opening p.opening ∷ []) (Opening q.opening)
              (is.opened u q (sym (put_other is.terms p.opening.term u (Some new_past) other) ∙ at))
        ];
        longer =
            subst (λ (t : Family (TermBook v.image.pages)). MakesLonger v.image (history t) p.opening.term p.book.start p.opening)
            (sym (put_put is.terms p.opening.term (Some new_past) None ∙ put_own is.terms p.opening.term None (ap is.terms (is_term v is term named p live.marks live.at goes.later live.unused.log_start begins) ∙ not_granted v is term named p live.marks live.at goes.later live.unused.log_start begins)))
            (subst (λ n. MakesLonger v.image (history is.terms) n p.book.start p.opening) (sym (is_term v is term named p live.marks live.at goes.later live.unused.log_start begins))
            (begins.longer (history is.terms) (honest v is named)));
        before =
            before_now is.terms (term_of v) p.opening.term v.stopped v.primary (live_book v is.pieces is.is_book) new_past now_later refl is.there refl is.of_book
            is.before;
        no_other = no_other_with is.terms (term_of v) p.opening.term v.stopped v.primary new_past refl is.no_other;
      }
