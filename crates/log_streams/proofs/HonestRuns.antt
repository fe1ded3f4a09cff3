-- The frames of a primary's run.
use Rattle.std.proofs.Common.{◌≡◌, ℕ, suc, ◌+◌, ◌<◌, ◌≤◌, List, [], ◌∷◌, ◌++◌, length, replicate, slice_get, Some, None, Contains, refl, sym, ap, subst, ◌∙◌, inl, inr, arith, lt-ltb, le_of_eq}
use Rattle.std.proofs.Math.Path.{fun_ext}
use Rattle.interleaving.specs.Machine.{Machine, System, Turn, after, counts, step_of, run, Runs, at}
use Rattle.interleaving.specs.Log.{IsClosed}
use Rattle.interleaving.specs.Stored.{system_of, view}
use Rattle.interleaving.proofs.NextStep.{counts_step}
use Rattle.interleaving.proofs.Runs.{counts_grow}
use Rattle.interleaving.proofs.Beginnings.{ends_are_cuts}
use Rattle.interleaving.proofs.Lists.{stored_runs}
use Rattle.edge_log.specs.EdgeLog.{edges_of}
use Rattle.rv32_hart.specs.Hardware.{hardware}
use Rattle.hart_lease.specs.declared.stretch.Stretch.{Stretch}
use Rattle.hart_lease.specs.Runs.{LeadsTo, counts_of}
use Rattle.scripts.specs.declared.script.Offered.{Offered}
use Rattle.log_join.specs.Coming.{Gathers}
use Rattle.log_join.proofs.Gathered.{come_gathers}
use Rattle.interleaving.specs.Lists.{put}
use Rattle.interleaving.proofs.Cuts.{here_or_later}
use Rattle.interleaving.proofs.Put.{put_same}
use Rattle.guest_image.specs.Image.{ImageContents, guest_of}
use Rattle.guest_image.specs.Machine.{MachineState, boot_machine}
use Rattle.page_book.specs.Books.{BookView}
use Rattle.book_modes.specs.Recordings.{RecordingView, heard_by, log_of}
use Rattle.fragment_codec.specs.Rules.{OpeningParts}
use Rattle.log_pieces.specs.Pieces.{Mark}
use Rattle.fragment_codec.specs.declared.frame.Frame.{Frame}
use Rattle.fragment_codec.specs.declared.frame.Frame.TheVariants.{Opening}
use Rattle.log_join.specs.Families.{no_terms, OfFamily}
use Rattle.log_join.proofs.Families.{opening_granted}
use Rattle.closed_cut.proofs.Chains.{zero_row}
use Rattle.hart_replay.specs.Histories.{machine_in}
use Rattle.hart_replay.specs.Images.{GuestTerm, boot_of, machine_of, AreHonestOf}
use Rattle.hart_replay.specs.Primaries.{IsPrimary, term_of, IsSealedTo, SealsMore, unsealed, with_pieces}
use Rattle.hart_replay.proofs.honesty.Primaries.{primaries_are_histories}
use Rattle.hart_replay.proofs.honesty.Sealing.{cuts_seal_more}
use Rattle.hart_replay.proofs.failovers.Books.{unsealed_from_boot}
use Rattle.hart_replay.proofs.honesty.Replays.{boot_pages}
use Rattle.log_streams.specs.Primary.{IsRunOf, AreFramesOf}
use Rattle.log_streams.specs.Ends.{IsEndOf}
use Rattle.log_streams.specs.Honest.{RunsTellTruly, RunsReplay}
use Rattle.log_streams.proofs.Truthful.{said_once}
use Rattle.log_streams.proofs.Ends.{reach_its_end}

module _ (image : ImageContents) (book : BookView RecordingView) (frames : List Frame) (start : book.start ≡ boot_machine image) (primary : IsPrimary book)
    (are : AreFramesOf (guest_of image) book frames) where
  abbrev opening : OpeningParts
  opening = record { guest = guest_of image; term = 1; parent = 0; base = replicate image.harts 0 }

  sealed : IsSealedTo (unsealed opening book) are.uncut
  sealed hart =
      are.from_boot hart ∙ ap (λ (n : ℕ). let m : Mark = record { place = 0; count = n } in m) (sym (zero_row image.harts hart))

  seals : SealsMore 1 book (unsealed opening book) are.pieces are.seals
  seals =
      cuts_seal_more (guest_of image) 1 book (unsealed opening book) are.uncut are.seals are.pieces
      (unsealed_from_boot image book opening start (zero_row image.harts)) sealed are.cut

  abbrev past : GuestTerm
  past = with_pieces (unsealed opening book) seals.more

  of_family : (frame : Frame) → Contains frames frame → OfFamily (put no_terms 1 (Some (with_pieces (unsealed opening book) seals.more))) frame
  of_family frame is_in =
      elim (here_or_later (Opening opening) are.pieces frame (subst (λ (fs : List Frame). Contains fs frame) are.opened is_in)) [
        | inl same ↦
            subst (λ (f : Frame). OfFamily (put no_terms 1 (Some past)) f) same
            (opening_granted (put no_terms 1 (Some past)) 1 past (put_same no_terms 1 1 (Some past) refl))
        | inr later ↦ seals.of_family no_terms frame later
      ]

  are_honest : AreHonestOf image (put no_terms 1 (Some (with_pieces (unsealed opening book) seals.more))) frames
  are_honest = record { is_history = primaries_are_histories image 1 book past primary start seals.is_of_book refl (omega arith); of_family = of_family }

pub runs_tell_truly : RunsTellTruly
runs_tell_truly image script limit book frames streams run primary are say =
    let start : book.start ≡ boot_machine image = run.goes_on.start ∙ run.ready.start in
    let more = seals image book frames start primary are in (
      with_pieces (unsealed (opening image book frames start primary are) book) more.more,
      more.is_of_book,
      record { frames = frames; say = say; honest = are_honest image book frames start primary are },
    )

-- ---- the machine at the end

-- a cut that no step is above takes the whole run
at_all : {Hart Page Input : Type 0} (system : System Hart Page Input) (cut : ℕ → ℕ) (m : Machine Hart Page) (turns : List (Turn Input)) → Runs system m turns →
    ((hart : ℕ) → counts system (run system m turns) hart ≤ cut hart) → at system m turns cut ≡ run system m turns
at_all system cut m [] runs within = refl
at_all system cut m (t ∷ turns) runs within =
    let n = after m (step_of system m t) in
    let one : counts system n t.hart ≡ counts system m t.hart + 1 =
    ap (λ f. f t.hart) (counts_step system m t runs.0) ∙ put_same (counts system m) t.hart t.hart (counts system m t.hart + 1) refl in
    let more : counts system n t.hart ≤ counts system (run system n turns) t.hart = counts_grow system n turns runs.1 t.hart in
    let most : counts system (run system n turns) t.hart ≤ cut t.hart = within t.hart in
    let inside_it : counts system m t.hart < cut t.hart = omega arith in
    rw (lt-ltb (counts system m t.hart) (cut t.hart) inside_it) (at_all system cut n turns runs.1 within)

same_list : {A : Type 0} (xs ys : List A) → ((i : ℕ) → slice_get xs i ≡ slice_get ys i) → xs ≡ ys
same_list [] [] same = refl
same_list [] (y ∷ ys) same = let no : None ≡ Some y = same 0 in cc
same_list (x ∷ xs) [] same = let no : Some x ≡ None = same 0 in cc
same_list (x ∷ xs) (y ∷ ys) same =
    let first : Some x ≡ Some y = same 0 in
    let e : x ≡ y = cc in
    ap (λ z. z ∷ xs) e ∙ ap (λ zs. y ∷ zs) (same_list xs ys (λ i. same (suc i)))

same_machine : (pages : ℕ) (m n : MachineState) → view (hardware pages) m ≡ view (hardware pages) n → m ≡ n
same_machine pages m n same =
    let harts : m.harts ≡ n.harts = same_list m.harts n.harts (λ i. ap (λ v. v.harts i) same) in
    let bytes : m.pages ≡ n.pages = same_list m.pages n.pages (λ i. ap (λ v. v.pages i) same) in
    ap (λ hs. let s : MachineState = record { harts = hs; pages = m.pages } in s) harts ∙
    ap (λ ps. let s : MachineState = record { harts = n.harts; pages = ps } in s) bytes

-- the journal of a run leads from boot to its machine
led_from_boot : (image : ImageContents) (script : List Offered) (limit : ℕ) (book : BookView RecordingView) → IsRunOf image script limit book →
    LeadsTo (heard_by book.mode) book.start book.journal book.machine
led_from_boot image script limit book run = of_more run.goes_on.journal
  where
    of_more : (more : List Stretch) × (book.journal ≡ run.before.journal ++ more) → LeadsTo (heard_by book.mode) book.start book.journal book.machine
    of_more (more, is) =
        let all : book.journal ≡ more = is ∙ ap (λ j. j ++ more) run.ready.journal in
        let start : run.before.machine ≡ book.start = run.ready.machine ∙ sym (run.goes_on.start ∙ run.ready.start) in
        subst (λ j. LeadsTo (heard_by book.mode) book.start j book.machine) (sym all)
        (subst (λ m. LeadsTo (heard_by book.mode) m more book.machine) start (run.runs more is))

-- the machine of the book's term at its settled counts is the book's
at_end : (pages : ℕ) (book : BookView RecordingView) → length book.start.pages ≡ pages → IsPrimary book →
    LeadsTo (heard_by book.mode) book.start book.journal book.machine →
    at (system_of (hardware pages)) (term_of book).start (term_of book).turns (counts_of book.machine) ≡ view (hardware pages) book.machine
at_end pages book many primary led =
    subst (λ n. at (system_of (hardware n)) (term_of book).start (term_of book).turns (counts_of book.machine) ≡ view (hardware n) book.machine) many
    (at_all (system_of (hardware (length book.start.pages))) (counts_of book.machine) (term_of book).start (term_of book).turns primary.honest.honest.runs
    (λ hart. le_of_eq (sym (primary.honest.honest.end hart))) ∙
    sym (stored_runs (hardware (length book.start.pages)) book.start (term_of book).turns book.machine led).1)

pub runs_replay : RunsReplay
runs_replay image script limit book frames streams past machine run primary are leaves say its h =
    same_machine image.pages machine book.machine
    (h.is ∙
    ap (λ cut. machine_of image (put no_terms 1 (Some past)) h.position.term cut) (fun_ext end.counts) ∙
    ap (λ n. machine_of image (put no_terms 1 (Some past)) n (counts_of book.machine)) end.term ∙
    ap (λ o. machine_in (system_of (hardware image.pages)) (boot_of image) o (counts_of book.machine)) (put_same no_terms 1 1 (Some past) refl) ∙
    ap (λ t. at (system_of (hardware image.pages)) t.start t.turns (counts_of book.machine)) its.told ∙
    at_end image.pages book many primary (led_from_boot image script limit book run))
  where
    start : book.start ≡ boot_machine image
    start = run.goes_on.start ∙ run.ready.start

    many : length book.start.pages ≡ image.pages
    many = ap (λ m. length m.pages) start ∙ boot_pages image

    gathers : Gathers (guest_of image) frames h.store
    gathers =
        subst (λ fs. Gathers (guest_of image) fs h.store) (said_once (guest_of image) streams h.joined.frames frames h.joined.say say)
        (come_gathers (guest_of image) h.joined.frames h.store h.joined.joined)

    closed : IsClosed (edges_of book.mode.edges) (counts_of book.machine)
    closed =
        (ends_are_cuts (system_of (hardware (length book.start.pages))) (log_of book.mode.edges (heard_by book.mode) book.start book.machine)
        (term_of book).start (term_of book).turns primary.honest.honest).1.closed

    end : IsEndOf book h.position
    end = reach_its_end (guest_of image) book frames are closed leaves h.store h.position gathers h.is_position
