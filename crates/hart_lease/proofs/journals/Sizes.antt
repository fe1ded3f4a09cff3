-- What a run leaves of a machine: as many harts and pages, and the counts of its order.
use Rattle.std.proofs.Common.{◌≡◌, ℕ, List, [], ◌∷◌, length, length-set, slice_get, Bool, true, false, Option, None, Some, refl, sym, ap, ◌∙◌}
use Rattle.std.proofs.Common.{if◌then◌else◌}
use Rattle.std.proofs.Math.Path.{fun_ext}
use Rattle.interleaving.specs.Machine.{Turn, Write, Runs, run, counts}
use Rattle.interleaving.specs.Log.{counts_after, turns_of}
use Rattle.interleaving.specs.Stored.{run_from, goes, stored_after, written_in, system_of, view}
use Rattle.interleaving.proofs.Lists.{stored_runs}
use Rattle.interleaving.proofs.Runs.{counts_run, harts_of_turns}
use Rattle.input_log.specs.declared.Input.{Input}
use Rattle.rv32_hart.specs.Hart.{Hart}
use Rattle.rv32_hart.specs.Step.{effect}
use Rattle.rv32_hart.specs.Hardware.{hardware}
use Rattle.guest_image.specs.Machine.{MachineState}
use Rattle.hart_lease.specs.Runs.{run_of, counts_of}
use Rattle.hart_lease.proofs.journals.Counts.{counts_is}

-- as many harts and pages
pub record IsAsLarge (m n : MachineState) : Type 0 where
  pub harts : length n.harts ≡ length m.harts
  pub pages : length n.pages ≡ length m.pages

written_length : (pages : List (List ℕ)) (w : Option (Write (List ℕ))) → length (written_in pages w) ≡ length pages
written_length pages None = refl
written_length pages (Some w) = length-set pages w.page w.contents

goes_as_large : (size : ℕ) (m : MachineState) (t : Turn (List Input)) (o : Option Hart) (n : MachineState) → goes (hardware size) m t o ≡ Some n → IsAsLarge m n
goes_as_large size m t None n e = cc
goes_as_large size m t (Some h) n e = of h.halted e
  where
    of : (b : Bool) → (if b then None else Some (stored_after m t.hart (effect size h t.input (slice_get m.pages)))) ≡ Some n → IsAsLarge m n
    of true f = cc
    of false f =
        let is : stored_after m t.hart (effect size h t.input (slice_get m.pages)) ≡ n = cc in
        record {
          harts = sym (ap (λ (x : MachineState). length x.harts) is) ∙ length-set m.harts t.hart (effect size h t.input (slice_get m.pages)).hart;
          pages = sym (ap (λ (x : MachineState). length x.pages) is) ∙ written_length m.pages (effect size h t.input (slice_get m.pages)).write;
        }

ran_as_large : (size : ℕ) (turns : List (Turn (List Input))) (m n : MachineState) → run_from (hardware size) (Some m) turns ≡ Some n → IsAsLarge m n
ran_as_large size [] m n e =
    let is : m ≡ n = cc in
    record { harts = ap (λ (x : MachineState). length x.harts) (sym is); pages = ap (λ (x : MachineState). length x.pages) (sym is) }
ran_as_large size (t ∷ turns) m n e =
    of (goes (hardware size) m t (slice_get m.harts t.hart)) refl (λ next f. ran_as_large size turns next n f) e
  where
    of : (o : Option MachineState) → goes (hardware size) m t (slice_get m.harts t.hart) ≡ o →
        ((next : MachineState) → run_from (hardware size) (Some next) turns ≡ Some n → IsAsLarge next n) → run_from (hardware size) o turns ≡ Some n →
        IsAsLarge m n
    of None f on g = cc
    of (Some next) f on g =
        let first = goes_as_large size m t (slice_get m.harts t.hart) next f in
        let rest = on next g in
        record { harts = rest.harts ∙ first.harts; pages = rest.pages ∙ first.pages }

pub as_large : (m n : MachineState) (turns : List (Turn (List Input))) → run_of m turns ≡ Some n → IsAsLarge m n
as_large m n turns e = ran_as_large (length m.pages) turns m n e

-- in the theory's words
pub record IsRun (size : ℕ) (m n : MachineState) (turns : List (Turn (List Input))) : Type 0 where
  pub runs : Runs (system_of (hardware size)) (view (hardware size) m) turns
  pub is : view (hardware size) n ≡ run (system_of (hardware size)) (view (hardware size) m) turns

pub is_run : (size : ℕ) (m n : MachineState) (turns : List (Turn (List Input))) → length m.pages ≡ size → run_of m turns ≡ Some n → IsRun size m n turns
is_run size m n turns pages e =
    let told = stored_runs (hardware size) m turns n (ap (λ (k : ℕ). run_from (hardware k) (Some m) turns) (sym pages) ∙ e) in
    record { runs = told.0; is = told.1 }

-- the counts
pub counts_ran : (m n : MachineState) (inputs : ℕ → ℕ → List Input) (order : List ℕ) → run_of m (turns_of inputs (counts_of m) order) ≡ Some n →
    counts_of n ≡ counts_after (counts_of m) order
counts_ran m n inputs order e =
    let size = length m.pages in
    let turns = turns_of inputs (counts_of m) order in
    let r : IsRun (length m.pages) m n (turns_of inputs (counts_of m) order) = is_run (length m.pages) m n (turns_of inputs (counts_of m) order) refl e in
    sym (fun_ext (counts_is size n))
    ∙ ap (counts (system_of (hardware size))) r.is
    ∙ counts_run (system_of (hardware size)) (view (hardware size) m) turns r.runs
    ∙ ap (λ (hs : List ℕ). counts_after (counts (system_of (hardware size)) (view (hardware size) m)) hs) (harts_of_turns inputs (counts_of m) order)
    ∙ ap (λ (now : ℕ → ℕ). counts_after now order) (fun_ext (counts_is size m))
