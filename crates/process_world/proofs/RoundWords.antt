-- A round hands words on and gives them in their order; and what is known once a primary's process ends.
use Rattle.std.proofs.Common.{◌≡◌, inl, inr, ℕ, ◌+◌, ◌≤◌, List, [], ◌++◌, Option, Some, None, length, slice_get, sym, ap, subst, ◌∙◌, arith, append_assoc}
use Rattle.std.proofs.Common.{length-append}
use Rattle.std.specs.Prelude.{All}
use Rattle.std.proofs.lemmas.List.Elements.{All-append, All-weaker}
use Rattle.input_log.specs.declared.Input.{Input}
use Rattle.input_log.specs.Inputs.{HearsMore, inputs_of}
use Rattle.rv32_hart.specs.Hart.{Hart}
use Rattle.guest_image.specs.Machine.{MachineState}
use Rattle.hart_lease.specs.Runs.{LeadsTo, counts_of}
use Rattle.book_modes.specs.Recordings.{RecordingView, heard_by}
use Rattle.page_book.specs.Books.{BookView}
use Rattle.wire.specs.declared.requests.Request.{Request}
use Rattle.requests.specs.Queues.{QueueView, words_in}
use Rattle.requests.specs.declared.queue.TheConstants.{WORD_LIMIT}
use Rattle.word_sequences.specs.Sequences.{sequence_of, words_below, words_logged}
use Rattle.leading.specs.Clients.{AreFrom}
use Rattle.leading.specs.Leaders.{AreHandedOn, LeaderView, queue_at, words_of}
use Rattle.leading.specs.Rounds.{IsRound, next_of}
use Rattle.leading.specs.declared.inputs.Spacing.{Spacing}
use Rattle.leading.proofs.Counting.{gone_on_handed, gone_on_words, handed_words, hands_handed, next_front, words_next}
use Rattle.fenced_theory.proofs.Stores.{see}
use Rattle.process_world.specs.Words.{AskByNumber}
use Rattle.process_world.specs.machinery.Worded.{AreFromStart, BookWords, HartWords, LeaderWords}
use Rattle.process_world.proofs.Rows.{Row, IsFront, row_words, row_below, from_front, below_more, below_grows, none_below, fronts_more}
use Rattle.process_world.proofs.Sequences.{as_many, at_end, counts_up, no_step, there_too}
use Rattle.process_world.proofs.Wording.{Knows, all_given, all_pass, few_logged, logged_first, one_at_most}

-- ---- a round

module _ (asked : List Request) (old new : LeaderView) (spacing : Spacing) (steps : ℕ)
    (leads : LeadsTo (heard_by old.primary.book.mode) old.primary.book.start old.primary.book.journal old.primary.book.machine)
    (round : IsRound spacing steps old new) (is : Knows asked old) where
  -- its book before
  abbrev b : BookView RecordingView
  b = old.primary.book

  -- and after
  abbrev c : BookView RecordingView
  c = new.primary.book

  -- the start of the term stays
  start : c.start ≡ b.start
  start = round.on.on.start ∙ ap (λ (x : BookView RecordingView). x.start) round.book

  -- what the log has more comes no earlier than where its hart was
  hears : (hart : ℕ) → HearsMore (inputs_of b.mode.inputs hart) (counts_of b.machine hart) (inputs_of c.mode.inputs hart)
  hears hart =
      subst (λ (x : BookView RecordingView). HearsMore (inputs_of x.mode.inputs hart) (counts_of x.machine hart) (inputs_of c.mode.inputs hart)) round.book
      (round.on.on.tells.inputs hart)

  -- no count falls
  grows : (hart : ℕ) → counts_of b.machine hart ≤ counts_of c.machine hart
  grows hart =
      subst (λ (x : BookView RecordingView). counts_of x.machine hart ≤ counts_of c.machine hart) round.book (round.on.on.tells.counts hart)

  -- so no input is before the start
  still_from : AreFromStart c
  still_from hart =
      let (more, row, later) = hears hart in
      let up = counts_up b leads hart in
      subst (λ (m : MachineState). All (λ x. counts_of m hart ≤ x.0) (inputs_of c.mode.inputs hart)) (sym start)
      (subst (λ (r : Row). All (λ x. counts_of b.start hart ≤ x.0) r) (sym row)
      (All-append (λ (x : ℕ × Input). counts_of b.start hart ≤ x.0) (inputs_of b.mode.inputs hart) more (is.from hart)
      (All-weaker (λ (x : ℕ × Input). counts_of b.machine hart ≤ x.0) (λ (x : ℕ × Input). counts_of b.start hart ≤ x.0) (λ x le. omega (arith, le, up)) more
      later)))

  -- queues count what was handed on
  all_handed : AreHandedOn c new.queues
  all_handed =
      gone_on_handed round.given c new.queues round.on.on.start round.on.offered
      (hands_handed spacing b round.given old.queues new.queues (as_many b leads) round.book round.hands (λ hart h at. (is.harts hart h at).handed))

  module _ (hart : ℕ) (h : Hart) (at : slice_get b.start.harts hart ≡ Some h) where
    -- what waited for the hart
    abbrev q : QueueView
    q = queue_at old.queues hart

    -- and what does so then
    abbrev p : QueueView
    p = queue_at new.queues hart

    -- its inputs in the log before
    abbrev row : Row
    row = inputs_of b.mode.inputs hart

    -- what was known of its words
    was : HartWords asked b q hart h
    was = is.harts hart h at

    -- the hart, where the round begins
    now : (k : Hart) × (slice_get b.machine.harts hart ≡ Some k)
    now = there_too b.start.harts b.machine.harts hart h (as_many b leads) at

    -- what it is handed
    abbrev next : Option Input
    next = next_of now.0 q

    -- what it is handed stands behind all that it was
    offered : words_of c hart ≡ words_of b hart ++ words_next next
    offered =
        gone_on_words round.given c round.on.offered hart
        ∙ handed_words spacing b round.given next hart now.0.count q p round.book (round.hands hart now.0 now.1)

    -- where it is handed anything, it was given all that it was offered
    all_read : (i : Input) → next ≡ Some i → length (words_of b hart) ≤ length (row_below row (counts_of b.machine hart))
    all_read i some =
        let handed = was.handed.handed in
        let limit = was.handed.limit in
        let first = ap sequence_of at in
        let few = few_logged b hart (counts_of b.machine hart) in
        let given = at_end b leads is.from hart (omega (arith, handed, limit, first, few)) in
        let present = ap sequence_of now.1 in
        let read = all_given now.0 q i some in omega (arith, given, present, read, handed, first)

    -- so one at the most is still to be given
    few_now : length (words_of c hart) ≤ length (row_below row (counts_of b.machine hart)) + 1
    few_now =
        one_at_most next (length (words_of b hart)) (length (row_below row (counts_of b.machine hart))) (length (words_next next)) (length (words_of c hart))
        all_read was.few (ap length offered ∙ length-append (words_of b hart) (words_next next))

    -- below where it is now there are no fewer words
    no_fewer : length (row_below row (counts_of b.machine hart)) ≤ length (words_below c.mode.inputs hart (counts_of c.machine hart))
    no_fewer =
        let (more, is_row, later) = hears hart in
        let all = ap (λ (r : Row). length (row_below r (counts_of c.machine hart))) is_row in
        let parts = ap length (below_more row more (counts_of c.machine hart))
        ∙ length-append (row_below row (counts_of c.machine hart)) (row_below more (counts_of c.machine hart)) in
        let up = below_grows row (counts_of b.machine hart) (counts_of c.machine hart) (grows hart) in omega (arith, all, parts, up)

    -- and those below each count begin all
    still_fronts : (count : ℕ) → IsFront (words_below c.mode.inputs hart count) (words_logged c.mode.inputs hart)
    still_fronts count =
        let (more, is_row, later) = hears hart in
        let (behind, first) = logged_first c hart in
        let many = ap length first ∙ length-append (words_logged c.mode.inputs hart) behind in
        let same = ap (λ (r : Row). length (row_words r)) is_row in
        let less = few_now in
        let few : length (row_words (row ++ more)) ≤ length (row_below row (counts_of b.machine hart)) + 1 = omega (arith, less, many, same) in
        subst (λ (r : Row). IsFront (row_below r count) (row_words r)) (sym is_row)
        (fronts_more row more (counts_of b.machine hart) later was.fronts few count)

    -- what was offered and what waits is what it was
    same_words : words_of c hart ++ words_in p.waiting ≡ words_of b hart ++ words_in q.waiting
    same_words =
        ap (λ (ws : List ℕ). ws ++ words_in p.waiting) offered
        ∙ append_assoc (words_of b hart) (words_next next) (words_in p.waiting)
        ∙ ap (λ (ws : List ℕ). words_of b hart ++ ws)
        (all_pass spacing next hart now.0.count q p b.mode round.given.mode (λ i some. next_front now.0 q i some) (round.hands hart now.0 now.1))

    -- all of it is known still
    hart_goes_on : slice_get c.start.harts hart ≡ Some h → HartWords asked c p hart h
    hart_goes_on there =
        record {
          handed = all_handed hart h there;
          few = (let less = few_now in let up = no_fewer in omega (arith, less, up));
          fronts = still_fronts;
          clients = λ clients ask. subst (AreFrom clients h.received.input_sequence) (sym same_words) (was.clients clients ask);
        }

  -- a round goes by
  pub round_words : Knows asked new
  round_words =
      record {
        from = still_from;
        harts = λ hart h there. hart_goes_on hart h (ap (λ (m : MachineState). slice_get m.harts hart) (sym start) ∙ there) there;
      }

-- ---- what the book's words are

module _ (asked : List Request) (b : BookView RecordingView) (queues : List QueueView)
    (leads : LeadsTo (heard_by b.mode) b.start b.journal b.machine) (is : LeaderWords asked b queues) where
  -- a hart that is not there is given none
  no_words : (hart count : ℕ) → slice_get b.start.harts hart ≡ None → count ≤ counts_of b.machine hart → words_below b.mode.inputs hart count ≡ []
  no_words hart count none le =
      let zero = no_step b leads hart none in
      none_below (inputs_of b.mode.inputs hart) (counts_of b.start hart) count (is.from hart) (omega (arith, le, zero))

  -- no more are given than there are
  within : (hart count : ℕ) → count ≤ counts_of b.machine hart →
      sequence_of (slice_get b.start.harts hart) + length (words_below b.mode.inputs hart count) ≤ WORD_LIMIT
  within hart count le =
      elim (see (slice_get b.start.harts hart)) [
        | inl none ↦
            let first = ap sequence_of none in let nothing = ap length (no_words hart count none le) in omega (arith, first, nothing)
        | inr (h, at) ↦
            let was = is.harts hart h at in
            let first = ap sequence_of at in
            let few = few_logged b hart count in
            let handed = was.handed.handed in let limit = was.handed.limit in omega (arith, first, few, handed, limit)
      ]

  -- they are the clients'
  by_number : (hart : ℕ) (clients : ℕ → ℕ) → AskByNumber asked hart clients → (count : ℕ) → count ≤ counts_of b.machine hart →
      AreFrom clients (sequence_of (slice_get b.start.harts hart)) (words_below b.mode.inputs hart count)
  by_number hart clients ask count le =
      elim (see (slice_get b.start.harts hart)) [
        | inl none ↦ subst (AreFrom clients (sequence_of (slice_get b.start.harts hart))) (sym (no_words hart count none le)) tt
        | inr (h, at) ↦
            let was = is.harts hart h at in
            let (later, first) = logged_first b hart in
            let logged : IsFront (words_logged b.mode.inputs hart) (words_of b hart ++ words_in (queue_at queues hart).waiting) = (
              later ++ words_in (queue_at queues hart).waiting,
              ap (λ (ws : List ℕ). ws ++ words_in (queue_at queues hart).waiting) first
                  ∙ append_assoc (words_logged b.mode.inputs hart) later (words_in (queue_at queues hart).waiting),
            ) in
            let all = from_front clients h.received.input_sequence (words_logged b.mode.inputs hart)
            (words_of b hart ++ words_in (queue_at queues hart).waiting) logged (was.clients clients ask) in
            subst (λ n. AreFrom clients n (words_below b.mode.inputs hart count)) (sym (ap sequence_of at))
            (from_front clients h.received.input_sequence (words_below b.mode.inputs hart count) (words_logged b.mode.inputs hart) (was.fronts count) all)
      ]

  -- all of it is known of the book alone
  pub book_words : BookWords asked b
  book_words = record { leads = leads; from = is.from; limit = within; clients = by_number }
