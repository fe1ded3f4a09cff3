-- Recording books as runs with honest logs.
use Rattle.std.proofs.Common.{◌≡◌, ◌⊎◌, inl, inr, ℕ, zero, suc, ◌<◌, ◌≤◌, false, List, [], ◌∷◌, ◌++◌, Contains, map, length, nat_lt, slice_get, Option, Some, None}
use Rattle.std.proofs.Common.{refl, sym, ap, subst, ◌∙◌, arith}
use Rattle.std.specs.List.{range_with_len}
use Rattle.std.proofs.lemmas.Bool.{cases_lt, lt-ltb}
use Rattle.std.proofs.lemmas.List.{map-append}
use Rattle.std.proofs.Math.Path.{fun_ext}
use Rattle.interleaving.specs.Machine.{Machine, System, Turn, after, counts, step_of, run, Runs}
use Rattle.interleaving.specs.Log.{Edge, IsHonest, bump, counts_after, turns_of}
use Rattle.interleaving.specs.Stored.{system_of, view}
use Rattle.interleaving.proofs.NextStep.{counts_step}
use Rattle.ft_types.specs.Counts.{count_at}
use Rattle.edge_log.specs.declared.Edge.{Edge as LoggedEdge}
use Rattle.edge_log.specs.EdgeLog.{row_of, edges_of, start_of, IsOfHart}
use Rattle.edge_log.proofs.Logs.{to_edges, in_row, of_row}
use Rattle.input_log.specs.declared.Input.{Input}
use Rattle.input_log.specs.Inputs.{inputs_of}
use Rattle.rv32_hart.specs.Hart.{Hart, boot_hart}
use Rattle.rv32_hart.specs.Hardware.{hardware}
use Rattle.hart_lease.specs.declared.stretch.Stretch.{Stretch}
use Rattle.hart_lease.specs.Runs.{counts_of, harts_of, journal_turns}
use Rattle.hart_lease.proofs.journals.GoingOn.{harts_of-append, turns_of-append, turns_of-same}
use Rattle.book_modes.specs.Recordings.{RecordingView, heard_by, log_of}
use Rattle.page_book.specs.Books.{BookView}
use Rattle.page_book.specs.Tellings.{TellsOn}
use Rattle.hart_replay.proofs.honesty.Replays.{boot_pages}
use Rattle.hart_replay.proofs.honesty.Primaries.{passed, passing}
use Rattle.lease_rounds.proofs.Onward.{heard_before}
use Rattle.fenced_theory.specs.Recorders.{Output}
use Rattle.fenced_theory.specs.Machines.{Outs, AreTidy, Book, RunsOn}
use Rattle.fenced_theory.proofs.Recording.{at_cut}
use Rattle.book_recorder.specs.TermBooks.{outputs_of, IsTermBook, ComesOf, AreTheory, BootedAreTermBooks, LaterAreTermBooks, RevivedAreTermBooks}
use Rattle.page_book.proofs.Outputs.{effect_adds}

-- what turns in an order leave of the counts
counts_run : {Hart Page Input : Type 0} (system : System Hart Page Input) (m : Machine Hart Page) (inputs : ℕ → ℕ → Input) (now : ℕ → ℕ) (order : List ℕ) →
    ((hart : ℕ) → now hart ≡ counts system m hart) → Runs system m (turns_of inputs now order) →
    (hart : ℕ) → counts system (run system m (turns_of inputs now order)) hart ≡ counts_after now order hart
counts_run system m inputs now [] same runs hart = sym (same hart)
counts_run {Input = Input} system m inputs now (next ∷ order) same runs hart =
    let t : Turn Input = record { hart = next; input = inputs next (now next) } in
    counts_run system (after m (step_of system m t)) inputs (bump now next) order
    (λ h.
    ap (λ f. bump f next h) (fun_ext same) ∙ sym (ap (λ f. f h) (counts_step system m t runs.0)))
    runs.1 hart

-- ---- outputs

outs : (pages : ℕ) → Outs (system_of (hardware pages))
outs pages = record { outputs = outputs_of; adds = adds }
  where
    as_output : ℕ × ℕ → Output
    as_output o = record { step = o.0; word = o.1 }

    adds : (hart : Option Hart) (input : List Input) (contents : ℕ → Option (List ℕ)) → (system_of (hardware pages)).halted hart ≡ false →
        (outputs_of ((system_of (hardware pages)).effect hart input contents).hart ≡ outputs_of hart) ⊎
        ((o : Output) × (o.step ≡ (system_of (hardware pages)).count hart) ×
        (outputs_of ((system_of (hardware pages)).effect hart input contents).hart ≡ outputs_of hart ++ o ∷ []))
    adds None input contents runs = inl refl
    adds (Some h) input contents runs =
        elim (effect_adds pages h input contents) [
          | inl same ↦ inl (ap (map (λ o. record { step = o.0; word = o.1 })) same)
          | inr (word, is) ↦
              inr (
                record { step = h.count; word = word },
                refl,
                ap (map (λ o. record { step = o.0; word = o.1 })) is ∙ map-append (λ o. record { step = o.0; word = o.1 }) h.outputs ((h.count, word) ∷ []),
              )
        ]

-- ---- books

module _ (pages : ℕ) where
  honest : (b : BookView RecordingView) → IsTermBook pages b →
      IsHonest (system_of (hardware pages)) (log_of b.mode.edges (heard_by b.mode) b.start b.machine) (view (hardware pages) b.start)
      (journal_turns (heard_by b.mode) b.start b.journal)
  honest b is =
      subst
      (λ n.
      IsHonest (system_of (hardware n)) (log_of b.mode.edges (heard_by b.mode) b.start b.machine) (view (hardware n) b.start)
      (journal_turns (heard_by b.mode) b.start b.journal)) is.many is.primary.honest.honest

  begins : (b : BookView RecordingView) → IsTermBook pages b → (e : Edge) → Contains (edges_of b.mode.edges) e → counts_of b.start e.hart ≤ e.step
  begins b is e has =
      let (x, there, same) = in_row b.mode.edges.start b.mode.edges.rows is.primary.log e has in
      let own : IsOfHart b.mode.edges.start e.hart x = of_row b.mode.edges.start b.mode.edges.rows is.primary.log e.hart x there in
      let low : count_at b.mode.edges.start e.hart ≤ x.at = own.from_start in
      let step : x.at ≡ e.step = ap (λ (e : Edge). e.step) same in
      let start : start_of b.mode.edges e.hart ≡ counts_of b.start e.hart = is.log_start e.hart in
      omega arith

  book_of : (b : BookView RecordingView) → IsTermBook pages b → Book (system_of (hardware pages)) (outs pages)
  unfolding outs
  book_of b is =
      record {
        from = view (hardware pages) b.start;
        turns = journal_turns (heard_by b.mode) b.start b.journal;
        log = log_of b.mode.edges (heard_by b.mode) b.start b.machine;
        honest = honest b is;
        begins = begins b is;
        tidy = is.tidy;
      }

  -- the journal's steps are those that the machine counts
  counted : (b : BookView RecordingView) → IsTermBook pages b → (hart : ℕ) →
      counts_after (counts_of b.start) (harts_of b.journal) hart ≡ counts_of b.machine hart
  counted b is hart =
      let h = honest b is in
      sym
      (counts_run (system_of (hardware pages)) (view (hardware pages) b.start) (heard_by b.mode) (counts_of b.start) (harts_of b.journal) h.start h.runs hart) ∙
      sym (h.end hart)

  turns_on : (b c : BookView RecordingView) → IsTermBook pages b → ComesOf b c →
      (more : List (Turn (List Input))) × (journal_turns (heard_by c.mode) c.start c.journal ≡ journal_turns (heard_by b.mode) b.start b.journal ++ more)
  turns_on b c is on = of_more on.journal
    where
      of_more : (more : List Stretch) × (c.journal ≡ b.journal ++ more) →
          (more : List (Turn (List Input))) × (journal_turns (heard_by c.mode) c.start c.journal ≡ journal_turns (heard_by b.mode) b.start b.journal ++ more)
      of_more (more, journal) = (
        turns_of (heard_by c.mode) (counts_after (counts_of b.start) (harts_of b.journal)) (harts_of more),
        ap (λ m. turns_of (heard_by c.mode) (counts_of m) (harts_of c.journal)) on.start
            ∙ ap (turns_of (heard_by c.mode) (counts_of b.start)) (ap harts_of journal ∙ harts_of-append b.journal more)
            ∙ turns_of-append (heard_by c.mode) (counts_of b.start) (harts_of b.journal) (harts_of more)
            ∙ ap (λ ts. ts ++ turns_of (heard_by c.mode) (counts_after (counts_of b.start) (harts_of b.journal)) (harts_of more))
            (turns_of-same (heard_by b.mode) (heard_by c.mode) (counts_of b.start) (harts_of b.journal)
            (λ hart n lt.
            heard_before (inputs_of b.mode.inputs hart) (counts_of b.machine hart) (inputs_of c.mode.inputs hart) n (on.tells.inputs hart)
            (subst (λ k. n < k) (counted b is hart) lt))),
      )

  row_stays : (b c : BookView RecordingView) → TellsOn b c → (hart : ℕ) (x : LoggedEdge) → Contains (row_of b.mode.edges hart) x →
      x.at < counts_of b.machine hart → Contains (row_of c.mode.edges hart) x
  row_stays b c tells hart x has less =
      (passed (λ e. nat_lt e.at (counts_of b.machine hart)) (row_of c.mode.edges hart) x
      (subst (λ row. Contains row x) (sym (tells.edges.rows hart).below)
      (passing (λ e. nat_lt e.at (counts_of b.machine hart)) (row_of b.mode.edges hart) x has (lt-ltb x.at (counts_of b.machine hart) less)))).0

  row_was : (b c : BookView RecordingView) → TellsOn b c → (hart : ℕ) (x : LoggedEdge) → Contains (row_of c.mode.edges hart) x →
      x.at < counts_of b.machine hart → Contains (row_of b.mode.edges hart) x
  row_was b c tells hart x has less =
      (passed (λ e. nat_lt e.at (counts_of b.machine hart)) (row_of b.mode.edges hart) x
      (subst (λ row. Contains row x) (tells.edges.rows hart).below
      (passing (λ e. nat_lt e.at (counts_of b.machine hart)) (row_of c.mode.edges hart) x has (lt-ltb x.at (counts_of b.machine hart) less)))).0

  old_edges : (b c : BookView RecordingView) → IsTermBook pages b → TellsOn b c → (e : Edge) → Contains (edges_of b.mode.edges) e →
      e.step < counts_of b.machine e.hart →
      Contains (edges_of c.mode.edges) e
  old_edges b c is tells e has less =
      let (x, there, same) = in_row b.mode.edges.start b.mode.edges.rows is.primary.log e has in
      let below : x.at < counts_of b.machine e.hart = subst (λ n. n < counts_of b.machine e.hart) (sym (ap (λ (e : Edge). e.step) same)) less in
      subst (Contains (edges_of c.mode.edges)) same (to_edges c.mode.edges.rows e.hart x (row_stays b c tells e.hart x there below))

  new_edges : (b c : BookView RecordingView) → IsTermBook pages c → TellsOn b c → (e : Edge) → Contains (edges_of c.mode.edges) e →
      Contains (edges_of b.mode.edges) e ⊎ (counts_of b.machine e.hart ≤ e.step)
  new_edges b c is tells e has =
      elim (cases_lt e.step (counts_of b.machine e.hart)) [
        | inl less ↦
            let (x, there, same) = in_row c.mode.edges.start c.mode.edges.rows is.primary.log e has in
            let below : x.at < counts_of b.machine e.hart = subst (λ n. n < counts_of b.machine e.hart) (sym (ap (λ (e : Edge). e.step) same)) less in
            inl (subst (Contains (edges_of b.mode.edges)) same (to_edges b.mode.edges.rows e.hart x (row_was b c tells e.hart x there below)))
        | inr over ↦ inr over
      ]

  goes_on : (b c : BookView RecordingView) (is_b : IsTermBook pages b) (is_c : IsTermBook pages c) → ComesOf b c →
      RunsOn (system_of (hardware pages)) (outs pages) (book_of b is_b) (book_of c is_c)
  unfolding book_of
  goes_on b c is_b is_c on =
      record {
        from = ap (view (hardware pages)) on.start;
        turns = turns_on b c is_b on;
        old_edges = old_edges b c is_b on.tells;
        new_edges = new_edges b c is_c on.tells;
      }

pub are_theory : (pages : ℕ) → AreTheory pages
unfolding outs book_of
are_theory pages =
    record {
      outs = outs pages;
      outputs = λ hart. refl;
      book = book_of pages;
      from = λ b is. refl;
      turns = λ b is. refl;
      log = λ b is. refl;
      on = goes_on pages;
    }

-- ---- which books are such

-- no hart of boot has put out anything
none_out : (harts : ℕ) (numbers : List ℕ) (hart : ℕ) → outputs_of (slice_get (map (boot_hart harts) numbers) hart) ≡ []
unfolding boot_hart
none_out harts [] hart = refl
none_out harts (n ∷ numbers) zero = refl
none_out harts (n ∷ numbers) (suc hart) = none_out harts numbers hart

pub booted_are_term_books : BootedAreTermBooks
booted_are_term_books image b primary is start =
    record {
      primary = primary;
      many = ap (λ m. length m.pages) is ∙ boot_pages image;
      log_start = start;
      tidy =
          λ hart.
          subst (λ os. AreTidy (counts_of b.start hart) os)
          (sym (ap (λ m. outputs_of (slice_get m.harts hart)) is ∙ none_out image.harts (range_with_len 0 image.harts) hart))
          (record { rising = tt; below = tt });
    }

pub later_are_term_books : LaterAreTermBooks
later_are_term_books pages b c is on primary =
    record {
      primary = primary;
      many = ap (λ m. length m.pages) on.start ∙ is.many;
      log_start =
          λ hart.
          ap (λ row. count_at row hart) on.tells.edges.start ∙ (is.log_start hart ∙ ap (λ m. counts_of m hart) (sym on.start));
      tidy = λ hart. subst (λ m. AreTidy (counts_of m hart) (outputs_of (slice_get m.harts hart))) (sym on.start) (is.tidy hart);
    }

pub revived_are_term_books : RevivedAreTermBooks
unfolding outs book_of
revived_are_term_books pages b c cut is revived primary many start =
    record { primary = primary; many = many; log_start = start; tidy = tidy }
  where
    tidy : (hart : ℕ) → AreTidy (counts_of c.start hart) (outputs_of (slice_get c.start.harts hart))
    tidy hart =
        let was = at_cut (system_of (hardware pages)) (outs pages) (book_of pages b is) cut hart revived.above
        (λ h. subst (λ n. cut h ≤ n) ((honest pages b is).end h) (revived.within h)) in
        let state = ap (λ m. m.harts hart) revived.start ∙ was.is in
        subst (λ h. AreTidy ((system_of (hardware pages)).count h) (outputs_of h)) (sym state)
        (subst (λ n. AreTidy n (outputs_of (was.was.harts hart))) (sym was.count) was.tidy)
