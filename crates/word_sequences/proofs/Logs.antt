-- The words that the steps of a journal give are those of its log.
use Rattle.std.proofs.Common.{◌≡◌, ◌≢◌, ◌+◌, ◌<◌, ◌≤◌, ◌%◌, ◌^◌, ◌==◌, ◌++◌, ℕ, zero, suc, Bool, true, false, List, [], ◌∷◌, Option, None, Some, length, map, filter, slice_get, refl, sym, ap, subst, ◌∙◌, arith, inl, inr, length-append}
use Rattle.std.specs.Prelude.{All, if◌then◌else◌}
use Rattle.std.proofs.lemmas.List.Elements.{All-head, All-tail}
use Rattle.interleaving.specs.Log.{bump, turns_of}
use Rattle.interleaving.specs.Machine.{Machine, Runs, Turn, after, counts, run, step_of, steps}
use Rattle.interleaving.specs.Stored.{halted_of, view}
use Rattle.interleaving.proofs.Lists.{stored_runs}
use Rattle.interleaving.proofs.NextStep.{counts_step}
use Rattle.interleaving.proofs.Put.{bump_other, bump_same, same_or_not}
use Rattle.input_log.specs.declared.Input.{Input}
use Rattle.input_log.specs.Inputs.{inputs_at, inputs_of}
use Rattle.rv32_hart.specs.Hart.{Hart}
use Rattle.rv32_hart.specs.Hardware.{hardware}
use Rattle.guest_image.specs.Machine.{MachineState}
use Rattle.hart_lease.specs.declared.stretch.Stretch.{Stretch}
use Rattle.hart_lease.specs.Recorded.{system}
use Rattle.hart_lease.specs.Runs.{LeadsTo, counts_of, harts_of, heard_in, journal_turns}
use Rattle.hart_lease.proofs.journals.Counts.{counts_is}
use Rattle.requests.specs.Queues.{words_in}
use Rattle.requests.proofs.Following.{words_in-append}
use Rattle.word_sequences.specs.Sequences.{LogsAreCounted, given_by, sequence_of, words_given, words_logged}
use Rattle.word_sequences.proofs.Runs.{runs, where_same, where_other}

-- ---- counts one behind the other

-- all that W has at so many counts, from this one on
abbrev pub all_from : (ℕ → ℕ) → ℕ → ℕ → ℕ
all_from W from zero = 0
all_from W from (suc many) = W from + all_from W (suc from) many

-- how many words the row has at a count
abbrev pub words_at : List (ℕ × Input) → ℕ → ℕ
words_at row n = length (words_in (inputs_at row n))

pub nothing_from : (from many : ℕ) → all_from (words_at []) from many ≡ 0
nothing_from from zero = refl
nothing_from from (suc many) = let rest = nothing_from (suc from) many in omega (arith, rest)

-- one input
pub one_word : Input → ℕ
one_word i = length (words_in (i ∷ []))

pub one_more : (i : Input) (is : List Input) → length (words_in (i ∷ is)) ≡ one_word i + length (words_in is)
unfolding one_word
one_more i is = ap length (words_in-append (i ∷ []) is) ∙ length-append (words_in (i ∷ [])) (words_in is)

-- a row with one input more has its word at its count
pub first_at : (x : ℕ × Input) (row : List (ℕ × Input)) (n : ℕ) →
    words_at (x ∷ row) n ≡ (if x.0 == n then one_word x.1 else 0) + words_at row n
first_at x row n = by (x.0 == n)
  where
    by : (b : Bool) → length (words_in (map (λ y. y.1) (if b then x ∷ filter (λ y. y.0 == n) row else filter (λ y. y.0 == n) row))) ≡
        (if b then one_word x.1 else 0) + words_at row n
    by true = one_more x.1 (inputs_at row n)
    by false = omega arith

-- which is not among counts behind it
none_behind : (x : ℕ × Input) (row : List (ℕ × Input)) (from many : ℕ) → x.0 < from →
    all_from (words_at (x ∷ row)) from many ≡ all_from (words_at row) from many
none_behind x row from zero below = refl
none_behind x row from (suc many) below =
    let ne : x.0 ≢ from = λ e. absurd (omega (arith, e, below)) in
    let rest = none_behind x row (suc from) many (omega (arith, below)) in
    let here = first_at x row from in
    let other = where_other (one_word x.1) x.0 from ne in
    omega (arith, rest, here, other)

pub first_from : (x : ℕ × Input) (row : List (ℕ × Input)) (from many : ℕ) → from ≤ x.0 → x.0 < from + many →
    all_from (words_at (x ∷ row)) from many ≡ one_word x.1 + all_from (words_at row) from many
first_from x row from zero above below = absurd (omega (arith, above, below))
first_from x row from (suc many) above below =
    let here = first_at x row from in
    elim (same_or_not x.0 from) [
      | inl e ↦
          let rest = none_behind x row (suc from) many (omega (arith, e)) in
          let same = where_same (one_word x.1) x.0 from e in omega (arith, rest, here, same)
      | inr ne ↦
          let later : suc from ≤ x.0 = first_later from x.0 above (λ e. ne (sym e)) in
          let rest = first_from x row (suc from) many later (omega (arith, below)) in
          let other = where_other (one_word x.1) x.0 from ne in omega (arith, rest, here, other)
    ]
  where
    first_later : (a b : ℕ) → a ≤ b → a ≢ b → suc a ≤ b
    first_later a b le ne = omega (arith, le, ne)

-- Over counts that have all of a row they are the row's words.
all_of_row : (row : List (ℕ × Input)) (from many : ℕ) → All (λ x. (from ≤ x.0) × (x.0 < from + many)) row →
    all_from (words_at row) from many ≡ length (words_in (map (λ x. x.1) row))
all_of_row [] from many all = nothing_from from many
all_of_row (x ∷ row) from many all =
    let P : ℕ × Input → Type 0 = λ x. (from ≤ x.0) × (x.0 < from + many) in
    let first = All-head P x row all in
    first_from x row from many first.0 first.1
    ∙ ap (λ (n : ℕ). one_word x.1 + n) (all_of_row row from many (All-tail P x row all))
    ∙ sym (one_more x.1 (map (λ x. x.1) row))

-- ---- along a journal

-- from this count to that one so many words were given
pub record Gave (W : ℕ → ℕ) (from to given : ℕ) : Type 0 where
  pub many : ℕ
  pub to_is : to ≡ from + many
  pub given_is : given ≡ all_from W from many

given_there : (pages : ℕ) (found : Option Hart) (inputs : List Input) → halted_of (hardware pages) found ≡ false →
    given_by found inputs ≡ length (words_in inputs)
given_there pages None inputs runs = absurd cc
given_there pages (Some h) inputs runs = refl

module _ (pages : ℕ) (log : List (List (ℕ × Input))) (hart : ℕ) where
  pub along : (m : Machine (Option Hart) (Option (List ℕ))) (now : ℕ → ℕ) (harts : List ℕ) → counts (system pages) m ≡ now →
      Runs (system pages) m (turns_of (heard_in log) now harts) →
      Gave (words_at (inputs_of log hart)) (now hart) (counts (system pages) (run (system pages) m (turns_of (heard_in log) now harts)) hart)
      (words_given (steps (system pages) m (turns_of (heard_in log) now harts)) hart)
  along m now [] same runs = record { many = 0; to_is = omega (arith, ap (λ (f : ℕ → ℕ). f hart) same); given_is = refl }
  along m now (h ∷ harts) same runs =
      let t : Turn (List Input) = record { hart = h; input = heard_in log h (now h) } in
      let next = after m (step_of (system pages) m t) in
      let counted : counts (system pages) next ≡ bump now h = counts_step (system pages) m t runs.0 ∙ ap (λ (f : ℕ → ℕ). bump f h) same in
      let gave = along next (bump now h) harts counted runs.1 in
      elim (same_or_not h hart) [
        | inl e ↦
            let there = given_there pages (m.harts h) t.input runs.0 in
            let own : length (words_in t.input) ≡ words_at (inputs_of log hart) (now hart) =
            ap (λ (k : ℕ). length (words_in (heard_in log k (now k)))) e in
            let here = where_same (given_by (m.harts h) t.input) h hart e in
            let on : bump now h hart ≡ suc (now hart) = ap (λ (k : ℕ). bump now h k) (sym e) ∙ bump_same now h ∙ omega (arith, ap now e) in
            record {
              many = suc gave.many;
              to_is = omega (arith, gave.to_is, on);
              given_is =
                  (let rest : words_given (steps (system pages) next (turns_of (heard_in log) (bump now h) harts)) hart ≡
                  all_from (words_at (inputs_of log hart)) (suc (now hart)) gave.many =
                  gave.given_is ∙ ap (λ (k : ℕ). all_from (words_at (inputs_of log hart)) k gave.many) on in
                  omega (arith, rest, here, there, own));
            }
        | inr ne ↦
            let here = where_other (given_by (m.harts h) t.input) h hart ne in
            let on : bump now h hart ≡ now hart = bump_other now h hart ne in
            record {
              many = gave.many;
              to_is = omega (arith, gave.to_is, on);
              given_is =
                  (let rest : words_given (steps (system pages) next (turns_of (heard_in log) (bump now h) harts)) hart ≡
                  all_from (words_at (inputs_of log hart)) (now hart) gave.many =
                  gave.given_is ∙ ap (λ (k : ℕ). all_from (words_at (inputs_of log hart)) k gave.many) on in
                  omega (arith, rest, here));
            }
      ]

pub logs_are_counted : LogsAreCounted
logs_are_counted log start machine journal hart leads within low =
    let pages = length start.pages in
    let turns = journal_turns (heard_in log) start journal in
    let (goes, outcome) = stored_runs (hardware pages) start turns machine leads in
    let gave = along pages log hart (view (hardware pages) start) (counts_of start) (harts_of journal)
    (λ p k. counts_is pages start k p) goes in
    let to : counts_of machine hart ≡ counts_of start hart + gave.many =
    sym (counts_is pages machine hart) ∙ ap (λ (m : Machine (Option Hart) (Option (List ℕ))). counts (system pages) m hart) outcome ∙ gave.to_is in
    let all = all_of_row (inputs_of log hart) (counts_of start hart) gave.many
    (subst (λ (n : ℕ). All (λ x. (counts_of start hart ≤ x.0) × (x.0 < n)) (inputs_of log hart)) to within) in
    ap (λ (m : Machine (Option Hart) (Option (List ℕ))). sequence_of (m.harts hart)) outcome
    ∙ runs pages (view (hardware pages) start) turns hart low
    ∙ ap (λ (n : ℕ). (sequence_of (slice_get start.harts hart) + n) % 2 ^ 32) (gave.given_is ∙ all)
