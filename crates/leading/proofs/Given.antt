-- INSEQ counts the words that a log gave.
use Rattle.std.proofs.Common.{◌≡◌, ◌+◌, ◌<◌, ◌≤◌, ℕ, List, [], ◌∷◌, ◌++◌, ◌^◌, Bool, true, false, Some, length, map, filter, slice_get, refl, ap, ◌∙◌, length-append, arith}
use Rattle.std.specs.Prelude.{All, if◌then◌else◌, nat_lt}
use Rattle.std.proofs.lemmas.List.{map-append}
use Rattle.std.proofs.lemmas.List.Elements.{All-weaker}
use Rattle.input_log.specs.declared.Input.{Input}
use Rattle.input_log.specs.declared.WaitingInput.{WaitingInput}
use Rattle.input_log.specs.declared.offered.Offer.{Offer}
use Rattle.input_log.specs.Inputs.{inputs_of}
use Rattle.input_log.specs.Offers.{all_offers, come, waiting}
use Rattle.input_log.specs.Waiting.{others_of}
use Rattle.rv32_hart.specs.Hart.{Hart}
use Rattle.hart_lease.specs.Runs.{LeadsTo, counts_of}
use Rattle.book_modes.specs.Dues.{due_at}
use Rattle.book_modes.specs.Recordings.{RecordingView, heard_by}
use Rattle.page_book.specs.Books.{BookView}
use Rattle.requests.specs.Queues.{QueueView, words_in}
use Rattle.requests.specs.declared.queue.TheConstants.{WORD_LIMIT}
use Rattle.requests.proofs.Following.{words_in-append}
use Rattle.word_sequences.specs.Sequences.{sequence_of, words_logged}
use Rattle.word_sequences.proofs.Cuts.{cuts_are_counted}
use Rattle.word_sequences.proofs.Logs.{logs_are_counted}
use Rattle.leading.specs.Clients.{GaveWords}
use Rattle.leading.specs.Leaders.{IsHandedOn, words_of}
use Rattle.leading.proofs.Counting.{input_of, words_but_bells}

come_inputs : (given : List (ℕ × Input)) → map input_of (map (λ (x : ℕ × Input). come x.0 x.1) given) ≡ map (λ (x : ℕ × Input). x.1) given
come_inputs [] = refl
come_inputs (x ∷ given) = ap (λ (is : List Input). x.1 ∷ is) (come_inputs given)

-- what a book was offered begins with what its log gave
begins_given : (b : BookView RecordingView) (hart : ℕ) → (later : List ℕ) × (words_of b hart ≡ words_logged b.mode.inputs hart ++ later)
begins_given b hart =
    let given = inputs_of b.mode.inputs hart in
    let count = counts_of b.machine hart in
    let due = (due_at b.mode.due hart).inputs in
    let others = others_of b.mode.desk hart in
    let done = map (λ (x : ℕ × Input). come x.0 x.1) given in
    let rest = map (come count) due ++ map waiting others in (
      words_in (map input_of rest),
      words_but_bells (all_offers given count due others)
          ∙ ap words_in (map-append input_of done rest ∙ ap (λ (is : List Input). is ++ map input_of rest) (come_inputs given))
          ∙ words_in-append (map (λ (x : ℕ × Input). x.1) given) (map input_of rest),
    )

-- fewer inputs have fewer words
pub few_words : (p : ℕ × Input → Bool) (row : List (ℕ × Input)) → length (words_in (map (λ x. x.1) (filter p row))) ≤ length (words_in (map (λ x. x.1) row))
few_words p [] = omega arith
few_words p (x ∷ row) = by (p x) (few_words p row)
  where
    split : (is : List Input) → length (words_in (x.1 ∷ is)) ≡ length (words_in (x.1 ∷ [])) + length (words_in is)
    split is = ap length (words_in-append (x.1 ∷ []) is) ∙ length-append (words_in (x.1 ∷ [])) (words_in is)

    by : (b : Bool) → length (words_in (map (λ x. x.1) (filter p row))) ≤ length (words_in (map (λ x. x.1) row)) →
        length (words_in (map (λ x. x.1) (if b then x ∷ filter p row else filter p row))) ≤ length (words_in (x.1 ∷ map (λ x. x.1) row))
    by true le = omega (arith, le, split (map (λ x. x.1) (filter p row)), split (map (λ x. x.1) row))
    by false le = omega (arith, le, split (map (λ x. x.1) row))

pub gave_words : (b : BookView RecordingView) (hart : ℕ) (h : Hart) (q : QueueView) → LeadsTo (heard_by b.mode) b.start b.journal b.machine →
    All (λ x. (counts_of b.start hart ≤ x.0) × (x.0 < counts_of b.machine hart)) (inputs_of b.mode.inputs hart) → slice_get b.start.harts hart ≡ Some h →
    IsHandedOn b hart h q → GaveWords b hart
gave_words b hart h q leads within at is =
    let (later, first) = begins_given b hart in
    let limit : WORD_LIMIT ≡ 4294967295 = refl in
    let start : sequence_of (slice_get b.start.harts hart) ≡ h.received.input_sequence = ap sequence_of at in
    let many = ap length first ∙ length-append (words_logged b.mode.inputs hart) later in
    let low : sequence_of (slice_get b.start.harts hart) < 2 ^ 32 = omega (arith, start, is.handed, is.limit, limit) in
    let counted = logs_are_counted b.mode.inputs b.start b.machine b.journal hart leads within low in
    let from = All-weaker (λ (x : ℕ × Input). (counts_of b.start hart ≤ x.0) × (x.0 < counts_of b.machine hart))
    (λ (x : ℕ × Input). counts_of b.start hart ≤ x.0) (λ x both. both.0) (inputs_of b.mode.inputs hart) within in
    record {
      counted = omega (arith, counted, start, many, is.handed, is.limit, limit);
      below =
          λ cut le more.
          (let at_cut = cuts_are_counted b.mode.inputs b.start b.machine b.journal cut hart leads le more from low in
          let few = few_words (λ x. nat_lt x.0 (cut hart)) (inputs_of b.mode.inputs hart) in
          omega (arith, at_cut, few, start, many, is.handed, is.limit, limit));
      later = later;
      first = first;
    }
