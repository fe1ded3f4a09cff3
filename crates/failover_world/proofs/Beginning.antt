-- The first world is one of the theory.
use Rattle.std.proofs.Common.{◌≡◌, inl, inr, ℕ, ◌<◌, ◌≤◌, Bool, true, false, List, [], ◌∷◌, ◌++◌, ◌==◌, length, replicate, take, slice_get, slice_index_or, get_or, Contains, if◌then◌else◌, Option, Some, None, refl, sym, ap, subst, ◌∙◌, arith}
use Rattle.std.proofs.Math.Path.{fun_ext}
use Rattle.std.specs.List.{range_with_len}
use Rattle.std.proofs.lemmas.Bool.{cases_lt}
use Rattle.std.proofs.lemmas.List.{get_or_past, get_or-replicate, length-replicate}
use Rattle.ft_types.specs.Counts.{count_at}
use Rattle.ft_types.specs.declared.output.Output.{Output}
use Rattle.interleaving.specs.Lists.{put}
use Rattle.interleaving.specs.Stored.{system_of, view}
use Rattle.interleaving.proofs.Put.{same_or_not, put_same, put_other}
use Rattle.interleaving.proofs.Cuts.{here}
use Rattle.rv32_hart.specs.Hart.{Hart}
use Rattle.rv32_hart.specs.Hardware.{hardware}
use Rattle.guest_image.specs.Image.{guest_of}
use Rattle.guest_image.specs.Machine.{MachineState, boot_machine}
use Rattle.hart_lease.specs.Runs.{counts_of, steps_taken}
use Rattle.fragment_codec.specs.declared.frame.Frame.{Frame}
use Rattle.fragment_codec.specs.declared.frame.Frame.TheVariants.{Opening}
use Rattle.ft_types.specs.Guests.{IsGuest}
use Rattle.fragment_codec.specs.Rules.{OpeningParts}
use Rattle.log_join.specs.Families.{Past, Family, no_terms}
use Rattle.log_join.specs.Stores.{StoreView, nothing}
use Rattle.closed_cut.proofs.Chains.{zero_row}
use Rattle.output_gate.specs.Gates.{LineView, fresh_line, offered_in, line_of}
use Rattle.term_gate.specs.TermGates.{acked_at}
use Rattle.hart_replay.specs.Images.{GuestHistory, boot_of, IsHistoryOf}
use Rattle.hart_replay.specs.Primaries.{IsPrimary}
use Rattle.hart_replay.proofs.failovers.Books.{unsealed_from_boot}
use Rattle.hart_replay.proofs.honesty.Primaries.{primaries_are_histories}
use Rattle.hart_replay.proofs.walking.Outcomes.{booted_none, booted_length}
use Rattle.book_recorder.specs.TermBooks.{IsTermBook, AreTheory}
use Rattle.book_recorder.proofs.Books.{are_theory, booted_are_term_books}
use Rattle.fenced_theory.specs.Machines.{AtBoot, IsRecorder}
use Rattle.failover_world.specs.machinery.Stopping as theory
use Rattle.fenced_theory.proofs.Recording.{of_logs}
use Rattle.go_live.specs.Histories.{MakesLonger}
use Rattle.primary.specs.Outputs.{numbered, said_at}
use Rattle.primary.specs.declared.released.Released.{Released}
use Rattle.primary.specs.declared.granted.Primary.{Primary}
use Rattle.primary.specs.Primaries.{IsBooted}
use Rattle.failover_world.specs.Worlds.{WorldView, term_of}
use Rattle.failover_world.specs.machinery.Tied.{TermBook, Books, retold_in, history, told_as, theory_world, quorum_of, live_book, AreParts, IsTied, IsWorld}
use Rattle.failover_world.proofs.Stopping.{first_comes}
use Rattle.failover_world.proofs.Places.{retold_put}
use Rattle.primary.proofs.Put.{put_put}

-- ---- rows of one thing

every : {A : Type 0} (n k : ℕ) (x : A) → get_or (replicate n x) k x ≡ x
every n k x =
    elim (cases_lt k n) [
      | inl less ↦ get_or-replicate n k x x less
      | inr over ↦ get_or_past (replicate n x) k x (let long = length-replicate n x in omega (arith, long, over))
    ]

none_acked : (keepers harts keeper hart : ℕ) → count_at (get_or (replicate keepers (replicate {A = ℕ} harts 0)) keeper []) hart ≡ 0
none_acked keepers harts keeper hart =
    let row : List ℕ = replicate {A = ℕ} harts 0 in
    elim (cases_lt keeper keepers) [
      | inl less ↦ ap (λ row. count_at row hart) (get_or-replicate keepers keeper row [] less) ∙ zero_row harts hart
      | inr over ↦
          ap (λ row. count_at row hart)
          (get_or_past (replicate keepers row) keeper [] (let long = length-replicate keepers row in omega (arith, long, over)))
    ]

either_none : {A : Type 0} (b : Bool) (x : Option A) → x ≡ None → (if b then x else x) ≡ None
either_none true x is = is
either_none false x is = is

none_in : {A : Type 0} (x : A) → Contains [] x → ⊥
none_in x (k, below, is) = absurd (omega (arith, below))

no_count : (pages : ℕ) (h : Option Hart) → (system_of (hardware pages)).count h ≡ steps_taken h
no_count pages None = refl
no_count pages (Some h) = refl

-- what holds of a world that begins
pub record IsFirst (v : WorldView) : Type 0 where
  pub guest : IsGuest (guest_of v.image)
  pub quorum : (0 < v.need) × (v.need ≤ v.keepers) × (v.keepers ≤ 5)
  pub booted : IsBooted v.image v.primary
  pub primary : IsPrimary v.primary.book
  pub runs : v.runs ≡ true
  pub stopped : v.stopped ≡ []
  pub sent : v.sent ≡ Opening v.primary.opening ∷ []
  pub stores : v.stores ≡ replicate v.keepers (Some (nothing (guest_of v.image)))
  pub released : v.released ≡ []
  pub gate_term : v.gate.gate.term ≡ 1
  pub gate_keepers : v.gate.gate.keepers ≡ v.keepers
  pub gate_need : v.gate.gate.need ≡ v.need
  pub gate_harts : v.gate.harts ≡ v.image.harts
  pub acked : v.gate.acked ≡ replicate v.keepers (replicate v.image.harts 0)
  pub lines : (hart : ℕ) → line_of v.gate.gate hart ≡ fresh_line 0

module _ (v : WorldView) (is : IsFirst v) where
  term_is : term_of v ≡ 1
  term_is = ap (λ (o : OpeningParts). o.term) is.booted.opening

  machine_is : v.primary.book.machine ≡ boot_machine v.image
  machine_is = ap (λ b. b.machine) is.booted.begins ∙ is.booted.start

  harts_are : length v.primary.book.machine.harts ≡ v.image.harts
  harts_are = ap (λ (m : MachineState). length m.harts) machine_is ∙ booted_length v.image.harts 0 v.image.harts

  no_step : (hart : ℕ) → counts_of v.primary.book.machine hart ≡ 0
  no_step hart =
      ap (λ (m : MachineState). counts_of m hart) machine_is ∙ booted_none v.image.harts (range_with_len 0 v.image.harts) hart

  base_is : v.primary.opening.base ≡ replicate v.image.harts 0
  base_is = ap (λ (o : OpeningParts). o.base) is.booted.opening

  pub parts : AreParts v
  parts =
      record {
        guest = is.guest;
        quorum = is.quorum;
        stores = ap length is.stores ∙ length-replicate v.keepers (Some (nothing (guest_of v.image)));
        idle = ap (λ b. b.leases) is.booted.begins;
        within = λ hart. let none = no_step hart in omega (arith, none);
        harts = harts_are;
        reached = ap length (is.booted.uncut.0 ∙ base_is) ∙ length-replicate v.image.harts 0;
        gate_term = is.gate_term ∙ sym term_is;
        gate_keepers = is.gate_keepers;
        gate_need = is.gate_need;
        gate_harts = is.gate_harts;
        acked = ap length is.acked ∙ length-replicate v.keepers (replicate v.image.harts 0);
        offered =
            λ hart.
            let said = numbered hart (said_at v.primary.book.machine hart) in
            ap offered_in (is.lines hart) ∙ ap (λ (line : LineView). take (length (offered_in line)) said) (sym (is.lines hart));
      }

  -- ---- in the theory
  its_theory : AreTheory v.image.pages
  its_theory = are_theory v.image.pages

  its_recorder : IsRecorder (system_of (hardware v.image.pages)) its_theory.outs (boot_of v.image)
  its_recorder =
      of_logs (system_of (hardware v.image.pages)) its_theory.outs (boot_of v.image)
      (λ hart. no_count v.image.pages (slice_get (boot_machine v.image).harts hart) ∙ booted_none v.image.harts (range_with_len 0 v.image.harts) hart)

  is_book : IsTermBook v.image.pages v.primary.book
  is_book = booted_are_term_books v.image v.primary.book is.primary is.booted.start is.booted.unused.log_start

  abbrev told : Books v.image.pages its_theory
  told = its_theory.book v.primary.book is_book

  abbrev live : Past (TermBook v.image.pages)
  live = live_book v (λ hart. []) is_book

  abbrev terms : Family (TermBook v.image.pages)
  terms = put no_terms (term_of v) (Some live)

  terms_are : (λ u. retold_in (told_as v.image.pages its_theory) (terms u)) ≡ put (λ term. None) 1 (Some (theory.first_term (guest_of v.image) told))
  terms_are =
      retold_put (told_as v.image.pages its_theory) no_terms (term_of v) (Some live)
      ∙ ap
      (λ (o : OpeningParts). put {A = Option (Past (Books v.image.pages its_theory))} (λ term. None) o.term
      (Some (record { opening = o; pieces = λ hart. []; told = told }))) is.booted.opening

  abbrev held_by : ℕ → Option StoreView
  held_by keeper = slice_index_or v.stores keeper (Some (nothing (guest_of v.image)))

  abbrev counted : ℕ → ℕ → ℕ
  counted keeper hart = acked_at v.gate keeper hart

  stores_are : held_by ≡ (λ keeper. Some (nothing (guest_of v.image)))
  stores_are =
      fun_ext (λ keeper.
      ap (λ (stores : List (Option StoreView)). slice_index_or stores keeper (Some (nothing (guest_of v.image)))) is.stores
      ∙ every v.keepers keeper (Some (nothing (guest_of v.image))))

  acked_are : counted ≡ (λ keeper hart. 0)
  acked_are =
      fun_ext (λ keeper. fun_ext (λ hart.
      ap (λ (rows : List (List ℕ)). count_at (slice_index_or rows keeper []) hart) is.acked ∙ none_acked v.keepers v.image.harts keeper hart))

  world_is : theory_world v.image.pages its_theory (guest_of v.image) v terms (λ u hart. []) (λ u hart. 0) [] ≡
      record {
        now = 1;
        terms = put (λ term. None) 1 (Some (theory.first_term (guest_of v.image) told));
        sent = Opening ((theory.first_term (guest_of v.image) told).opening) ∷ [];
        stores = λ keeper. Some (nothing (guest_of v.image));
        acked = λ keeper hart. 0;
        notes = λ u hart. [];
        marks = λ u hart. 0;
        released = [];
      }
  world_is =
      λ i. record {
        now = term_is i;
        terms = terms_are i;
        sent = (is.sent ∙ ap (λ (o : OpeningParts). Opening o ∷ []) is.booted.opening) i;
        stores = stores_are i;
        acked = acked_are i;
        notes = λ u hart. [];
        marks = λ u hart. 0;
        released = [];
      }

  comes : theory.Comes its_recorder.recorder (guest_of v.image) (quorum_of v) (theory_world v.image.pages its_theory (guest_of v.image) v terms (λ u hart. []) (λ u hart. 0) [])
  comes =
      let fact = AtBoot told (its_theory.from v.primary.book is_book ∙ ap (view (hardware v.image.pages)) is.booted.start) in
      subst (theory.Comes its_recorder.recorder (guest_of v.image) (quorum_of v)) (sym world_is)
      (first_comes its_recorder.recorder (guest_of v.image) (quorum_of v) told (fact, its_recorder.tells fact))

  -- ---- as a history
  none_before : history (put terms (term_of v) None) ≡ no_terms
  none_before =
      ap history (put_put no_terms (term_of v) (Some live) None)
      ∙ fun_ext (λ u. ap (λ (x : Option (Past (TermBook v.image.pages))). history (λ n. x) u) (either_none (term_of v == u) None refl))

  longer : MakesLonger v.image (history (put terms (term_of v) None)) (term_of v) v.primary.book.start v.primary.opening
  longer new book past start primary of_book opening =
      subst (λ (h : GuestHistory). IsHistoryOf v.image (put h (term_of v) (Some past))) (sym none_before)
      (primaries_are_histories v.image (term_of v) book past primary (start ∙ is.booted.start) of_book
      (ap (λ (o : OpeningParts). o.parent) (opening ∙ is.booted.opening)) (omega (arith, term_is)))

  pub tied : IsTied v
  tied =
      record {
        are_theory = its_theory;
        is_recorder = its_recorder;
        terms = terms;
        notes = λ u hart. [];
        marks = λ u hart. 0;
        out = [];
        comes = comes;
        went_out = λ r has. absurd (none_in r (subst (λ (rs : List Released). Contains rs r) is.released has));
        no_more = λ r has. absurd (none_in r has);
        gone_out = λ hart o has.
            absurd (none_in o (subst (λ (os : List Output). Contains os o) (ap (λ (line : LineView). line.gone) (is.lines hart)) has));
        noted = λ hart. sym (is.booted.unused.notes hart);
        noted_before = λ p has hart. absurd (none_in p (subst (λ (ps : List Primary). Contains ps p) is.stopped has));
        marked = λ hart. sym (ap (λ (line : LineView). line.mark) (is.lines hart));
        pieces = λ hart. [];
        is_book = is_book;
        there = put_same no_terms (term_of v) (term_of v) (Some live) refl;
        of_book =
            unsealed_from_boot v.image v.primary.book v.primary.opening is.booted.start
            (λ hart. ap (λ row. count_at row hart) base_is ∙ zero_row v.image.harts hart);
        sealed = λ hart. is.booted.uncut.1 hart;
        opened = λ u p at. elim (same_or_not (term_of v) u) [
          | inl same ↦
              let e : Some live ≡ Some p = sym (put_same no_terms (term_of v) u (Some live) same) ∙ at in
              let o : v.primary.opening ≡ p.opening = cc in
              subst (λ (o : OpeningParts). Contains v.sent (Opening o)) o
              (subst (λ (fs : List Frame). Contains fs (Opening v.primary.opening)) (sym is.sent) (here (Opening v.primary.opening) []))
          | inr other ↦ let none : None ≡ Some p = sym (put_other no_terms (term_of v) u (Some live) other) ∙ at in absurd cc
        ];
        longer = longer;
        before = λ p has. absurd (none_in p (subst (λ (ps : List Primary). Contains ps p) is.stopped has));
        no_other = λ u p at. elim (same_or_not (term_of v) u) [
          | inl same ↦ inl (sym same)
          | inr other ↦ let none : None ≡ Some p = sym (put_other no_terms (term_of v) u (Some live) other) ∙ at in absurd cc
        ];
      }

  pub first_world : IsWorld v
  first_world = record { parts = parts; tied = tied }
