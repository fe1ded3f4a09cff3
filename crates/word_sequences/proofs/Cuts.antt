-- INSEQ at a cut.
use Rattle.std.proofs.Common.{◌≡◌, ◌≢◌, ◌+◌, ◌<◌, ◌≤◌, ◌%◌, ◌^◌, ◌++◌, ℕ, zero, suc, Bool, true, false, List, [], ◌∷◌, Option, Some, length, map, filter, slice_get, refl, sym, ap, subst, ◌∙◌, arith, inl, inr}
use Rattle.std.specs.Prelude.{All, if◌then◌else◌, nat_lt}
use Rattle.std.proofs.lemmas.Bool.{ltb-false, ltb-true}
use Rattle.std.proofs.lemmas.List.Elements.{All-head, All-tail}
use Rattle.interleaving.specs.Log.{bump, turns_of}
use Rattle.interleaving.specs.Machine.{Machine, Runs, Turn, at, counts, run}
use Rattle.interleaving.specs.Stored.{view}
use Rattle.interleaving.proofs.AsItWas.{hart_as_it_was, hart_was_there}
use Rattle.interleaving.proofs.Lists.{stored_runs}
use Rattle.interleaving.proofs.Runs.{runs_front}
use Rattle.input_log.specs.declared.Input.{Input}
use Rattle.input_log.specs.Inputs.{inputs_of}
use Rattle.rv32_hart.specs.Hart.{Hart}
use Rattle.rv32_hart.specs.Hardware.{hardware}
use Rattle.guest_image.specs.Machine.{MachineState}
use Rattle.hart_lease.specs.Recorded.{system}
use Rattle.hart_lease.specs.Runs.{counts_of, harts_of, heard_in, journal_turns}
use Rattle.hart_lease.proofs.journals.Counts.{counts_is}
use Rattle.requests.specs.Queues.{words_in}
use Rattle.word_sequences.specs.Sequences.{CutsAreCounted, sequence_of, words_below}
use Rattle.word_sequences.proofs.Runs.{runs, where_other}
use Rattle.word_sequences.proofs.Logs.{all_from, along, first_at, first_from, nothing_from, one_more, one_word, words_at}

-- an input behind the counts is at none of them
none_above : (x : ℕ × Input) (row : List (ℕ × Input)) (from many : ℕ) → from + many ≤ x.0 →
    all_from (words_at (x ∷ row)) from many ≡ all_from (words_at row) from many
none_above x row from zero above = refl
none_above x row from (suc many) above =
    let ne : x.0 ≢ from = λ e. absurd (omega (arith, e, above)) in
    let rest = none_above x row (suc from) many (omega (arith, above)) in
    let here = first_at x row from in
    let other = where_other (one_word x.1) x.0 from ne in
    omega (arith, rest, here, other)

-- over some counts they are the row's words below the last of them
cut_row : (row : List (ℕ × Input)) (from many : ℕ) → All (λ x. from ≤ x.0) row →
    all_from (words_at row) from many ≡ length (words_in (map (λ x. x.1) (filter (λ x. nat_lt x.0 (from + many)) row)))
cut_row [] from many all = nothing_from from many
cut_row (x ∷ row) from many all =
    let first = All-head (λ (x : ℕ × Input). from ≤ x.0) x row all in
    let rest = cut_row row from many (All-tail (λ (x : ℕ × Input). from ≤ x.0) x row all) in
    by (nat_lt x.0 (from + many)) refl first rest
  where
    below : List (ℕ × Input)
    below = filter (λ x. nat_lt x.0 (from + many)) row

    by : (b : Bool) → nat_lt x.0 (from + many) ≡ b → from ≤ x.0 → all_from (words_at row) from many ≡ length (words_in (map (λ x. x.1) below)) →
        all_from (words_at (x ∷ row)) from many ≡ length (words_in (map (λ x. x.1) (if b then x ∷ below else below)))
    by true e first rest =
        first_from x row from many first (ltb-true x.0 (from + many) e) ∙ ap (λ (n : ℕ). one_word x.1 + n) rest ∙ sym (one_more x.1 (map (λ x. x.1) below))
    by false e first rest = none_above x row from many (ltb-false x.0 (from + many) e) ∙ rest

-- the front of a journal's turns is one of a journal
front_of : (heard : ℕ → ℕ → List Input) (now : ℕ → ℕ) (harts : List ℕ) (front rest : List (Turn (List Input))) → turns_of heard now harts ≡ front ++ rest →
    (some : List ℕ) × (front ≡ turns_of heard now some)
front_of heard now harts [] rest e = ([], refl)
front_of heard now [] (t ∷ front) rest e = absurd cc
front_of heard now (h ∷ harts) (t ∷ front) rest e =
    let head : t ≡ record { hart = h; input = heard h (now h) } = cc in
    let tail : turns_of heard (bump now h) harts ≡ front ++ rest = cc in
    let (some, is) = front_of heard (bump now h) harts front rest tail in
    (h ∷ some, ap (λ (x : Turn (List Input)). x ∷ front) head ∙ ap (λ (xs : List (Turn (List Input))). record { hart = h; input = heard h (now h) } ∷ xs) is)

pub cuts_are_counted : CutsAreCounted
cuts_are_counted log start machine journal cut hart leads above below within low =
    let pages = length start.pages in
    let m = view (hardware pages) start in
    let turns = journal_turns (heard_in log) start journal in
    let (goes, outcome) = stored_runs (hardware pages) start turns machine leads in
    let last : counts_of machine hart ≡ counts (system pages) (run (system pages) m turns) hart =
    sym (counts_is pages machine hart) ∙ ap (λ (x : Machine (Option Hart) (Option (List ℕ))). counts (system pages) x hart) outcome in
    let first = counts_is pages start hart in
    let (front, rest, parts, there) = hart_was_there (system pages) m turns cut hart goes (omega (arith, above, first)) (omega (arith, below, last)) in
    let (some, is) = front_of (heard_in log) (counts_of start) (harts_of journal) front rest parts in
    let all = subst (λ (ts : List (Turn (List Input))). Runs (system pages) m ts) parts goes in
    let gave = along pages log hart m (counts_of start) some (λ p k. counts_is pages start k p)
    (subst (λ (ts : List (Turn (List Input))). Runs (system pages) m ts) is (runs_front (system pages) m front rest all)) in
    let to : cut hart ≡ counts_of start hart + gave.many =
    sym there ∙ ap (λ (ts : List (Turn (List Input))). counts (system pages) (run (system pages) m ts) hart) is ∙ gave.to_is in
    let row : all_from (words_at (inputs_of log hart)) (counts_of start hart) gave.many ≡ length (words_below log hart (cut hart)) =
    cut_row (inputs_of log hart) (counts_of start hart) gave.many within ∙ ap (λ (n : ℕ). length (words_below log hart n)) (sym to) in
    ap (λ (ts : List (Turn (List Input))). sequence_of ((at (system pages) m ts cut).harts hart)) parts
    ∙ ap sequence_of (hart_as_it_was (system pages) m front rest cut hart all there)
    ∙ ap (λ (ts : List (Turn (List Input))). sequence_of ((run (system pages) m ts).harts hart)) is
    ∙ runs pages m (turns_of (heard_in log) (counts_of start) some) hart low
    ∙ ap (λ (n : ℕ). (sequence_of (slice_get start.harts hart) + n) % 2 ^ 32) (gave.given_is ∙ row)
