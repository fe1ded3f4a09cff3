-- INSEQ where a book's journal leads, and on the way there.
use Rattle.std.proofs.Common.{◌≡◌, ℕ, zero, suc, ◌+◌, ◌<◌, ◌≤◌, ◌^◌, List, [], ◌∷◌, Some, None, length, slice_get, refl, sym, ap, subst, ◌∙◌, arith, append-nil}
use Rattle.interleaving.specs.Machine.{Runs, Turn, at, counts, run}
use Rattle.interleaving.specs.Stored.{view}
use Rattle.interleaving.proofs.AsItWas.{hart_as_it_was}
use Rattle.interleaving.proofs.Lists.{stored_runs}
use Rattle.interleaving.proofs.Runs.{counts_grow}
use Rattle.input_log.specs.declared.Input.{Input}
use Rattle.rv32_hart.specs.Hardware.{hardware}
use Rattle.hart_lease.specs.Recorded.{system}
use Rattle.hart_lease.specs.Runs.{LeadsTo, counts_of, journal_turns, steps_taken}
use Rattle.hart_lease.proofs.journals.Counts.{counts_is}
use Rattle.hart_lease.proofs.journals.Sizes.{as_large}
use Rattle.book_modes.specs.Hearings.{HartMachine}
use Rattle.book_modes.specs.Recordings.{RecordingView, heard_by}
use Rattle.page_book.specs.Books.{BookView}
use Rattle.requests.specs.declared.queue.TheConstants.{WORD_LIMIT}
use Rattle.word_sequences.specs.Sequences.{machine_at, sequence_of, words_below}
use Rattle.word_sequences.proofs.Cuts.{cuts_are_counted}
use Rattle.process_world.specs.machinery.Worded.{AreFromStart}

-- what is there in a list is so in one that is as long
pub there_too : {A : Type 0} (xs ys : List A) (n : ℕ) (x : A) → length ys ≡ length xs → slice_get xs n ≡ Some x → (y : A) × (slice_get ys n ≡ Some y)
there_too [] ys n x many is = absurd cc
there_too (x ∷ xs) [] n z many is = absurd (omega (arith, many))
there_too (x ∷ xs) (y ∷ ys) zero z many is = (y, refl)
there_too (x ∷ xs) (y ∷ ys) (suc n) z many is = there_too xs ys n z (omega (arith, many)) is

-- and what is not there is not
none_too : {A : Type 0} (xs ys : List A) (n : ℕ) → length ys ≡ length xs → slice_get xs n ≡ None → slice_get ys n ≡ None
none_too xs [] n many none = refl
none_too [] (y ∷ ys) n many none = absurd (omega (arith, many))
none_too (x ∷ xs) (y ∷ ys) zero many none = absurd cc
none_too (x ∷ xs) (y ∷ ys) (suc n) many none = none_too xs ys n (omega (arith, many)) none

module _ (b : BookView RecordingView) (leads : LeadsTo (heard_by b.mode) b.start b.journal b.machine) where
  -- the turns of its journal
  abbrev turns : List (Turn (List Input))
  turns = journal_turns (heard_by b.mode) b.start b.journal

  -- how many pages its machine has
  abbrev pages : ℕ
  pages = length b.start.pages

  -- the machine that it starts from
  abbrev start : HartMachine
  start = view (hardware (length b.start.pages)) b.start

  -- its machine has the harts of its start
  pub as_many : length b.machine.harts ≡ length b.start.harts
  as_many = (as_large b.start b.machine turns leads).harts

  -- a hart that is not there takes no step
  pub no_step : (hart : ℕ) → slice_get b.start.harts hart ≡ None → counts_of b.machine hart ≡ 0
  no_step hart none = ap steps_taken (none_too b.start.harts b.machine.harts hart as_many none)

  -- in the theory's words the journal runs
  goes : Runs (system pages) start turns
  goes = (stored_runs (hardware pages) b.start turns b.machine leads).0

  -- to its machine
  outcome : view (hardware pages) b.machine ≡ run (system pages) start turns
  outcome = (stored_runs (hardware pages) b.start turns b.machine leads).1

  -- with its counts
  last : (hart : ℕ) → counts_of b.machine hart ≡ counts (system pages) (run (system pages) start turns) hart
  last hart = sym (counts_is pages b.machine hart) ∙ ap (λ (m : HartMachine). counts (system pages) m hart) outcome

  -- no count falls
  pub counts_up : (hart : ℕ) → counts_of b.start hart ≤ counts_of b.machine hart
  counts_up hart =
      let up = counts_grow (system pages) start turns goes hart in
      let first = counts_is pages b.start hart in let end = last hart in omega (arith, up, first, end)

  -- at a cut it counts the words that the log has below
  pub at_cut : AreFromStart b → (hart : ℕ) (cut : ℕ → ℕ) → counts_of b.start hart ≤ cut hart → cut hart ≤ counts_of b.machine hart →
      sequence_of (slice_get b.start.harts hart) + length (words_below b.mode.inputs hart (cut hart)) ≤ WORD_LIMIT →
      sequence_of ((machine_at b.mode.inputs b.start b.journal cut).harts hart) ≡
      sequence_of (slice_get b.start.harts hart) + length (words_below b.mode.inputs hart (cut hart))
  at_cut from hart cut above below most =
      let limit : WORD_LIMIT ≡ 4294967295 = refl in
      let low : sequence_of (slice_get b.start.harts hart) < 2 ^ 32 = omega (arith, most, limit) in
      let counted = cuts_are_counted b.mode.inputs b.start b.machine b.journal cut hart leads above below (from hart) low in
      omega (arith, counted, most, limit)

  -- the machine is that at the cut of all its steps
  whole : (hart : ℕ) →
      sequence_of (slice_get b.machine.harts hart) ≡ sequence_of ((machine_at b.mode.inputs b.start b.journal (counts_of b.machine)).harts hart)
  whole hart =
      ap (λ (m : HartMachine). sequence_of (m.harts hart)) outcome
      ∙ ap sequence_of (sym (hart_as_it_was (system pages) start turns [] (counts_of b.machine) hart
      (subst (λ (ts : List (Turn (List Input))). Runs (system pages) start ts) (sym (append-nil turns)) goes) (sym (last hart))))
      ∙ ap (λ (ts : List (Turn (List Input))). sequence_of ((at (system pages) start ts (counts_of b.machine)).harts hart)) (append-nil turns)

  -- so there too it counts the words below
  pub at_end : AreFromStart b → (hart : ℕ) →
      sequence_of (slice_get b.start.harts hart) + length (words_below b.mode.inputs hart (counts_of b.machine hart)) ≤ WORD_LIMIT →
      sequence_of (slice_get b.machine.harts hart) ≡
      sequence_of (slice_get b.start.harts hart) + length (words_below b.mode.inputs hart (counts_of b.machine hart))
  at_end from hart most = whole hart ∙ at_cut from hart (counts_of b.machine) (counts_up hart) (omega arith) most
