-- A round of a primary's book.
use Rattle.std.proofs.Common.{◌≡◌, ◌+◌, ◌-◌, ◌<◌, ◌≤◌, ◌⊎◌, ℕ, zero, suc, List, [], ◌∷◌, length, replicate, inl, inr, refl, sym, ap, subst, arith, ◌^◌}
use Rattle.std.specs.Prelude.{slice_set, min}
use Rattle.std.proofs.lemmas.Option.{slice_get_within}
use Rattle.ft_types.specs.declared.names.TheConstants.{COUNT_LIMIT}
use Rattle.std.specs.List.{AllByRecursion}
use Rattle.ft_types.specs.Counts.{count_at, IsCount}
use Rattle.guest_image.specs.Machine.{MachineState}
use Rattle.input_log.specs.Notes.{NotesOfOne, notes_of}
use Rattle.hart_lease.specs.Runs.{LeadsTo, counts_of}
use Rattle.book_modes.specs.Recordings.{RecordingView, heard_by}
use Rattle.page_book.specs.Books.{BookView}
use Rattle.page_book.specs.Tellings.{TellsOn}
use Rattle.hart_replay.specs.Primaries.{IsPrimary}
use Rattle.lease_rounds.specs.Running.{IsIdle, AreThrough, Continues, GoWithin, GoesRoundFor, KeepsOffered}
use Rattle.primary.specs.Primaries.{no_limits}
use Rattle.leading.specs.Rounds.{HasGoneOn, lease_steps, limited}

-- a row that is changed at one place
pub set_is : (xs : List ℕ) (n v hart : ℕ) →
    (count_at (slice_set xs n v) hart ≡ count_at xs hart) ⊎ ((hart ≡ n) × (count_at (slice_set xs n v) hart ≡ v))
set_is [] n v hart = inl refl
set_is (x ∷ xs) zero v zero = inr (refl, refl)
set_is (x ∷ xs) zero v (suc hart) = inl refl
set_is (x ∷ xs) (suc n) v zero = inl refl
set_is (x ∷ xs) (suc n) v (suc hart) = elim (set_is xs n v hart) [ inl e ↦ inl e | inr p ↦ inr (ap suc p.0, p.1) ]

-- counts are not above the greatest
pub below_greatest : (row : List ℕ) (n : ℕ) → n ≡ length row → AllByRecursion IsCount row → (hart : ℕ) → count_at row hart ≤ count_at (no_limits n) hart
below_greatest row n many each hart = subst (λ k. count_at row hart ≤ count_at (no_limits k) hart) (sym many) (in_row row each hart)
  where
    in_row : (row : List ℕ) → AllByRecursion IsCount row → (hart : ℕ) → count_at row hart ≤ count_at (replicate (length row) (2 ^ 48 - 1)) hart
    in_row [] each hart = omega arith
    in_row (x ∷ row) (first, rest) zero = let low : x < 2 ^ 48 = first in omega (arith, low)
    in_row (x ∷ row) (first, rest) (suc hart) = in_row row rest hart

-- so no hart of a machine is past the greatest limit
pub settled : (m : MachineState) (row slice full : List ℕ) (n : ℕ) → ((hart : ℕ) → count_at row hart ≡ counts_of m hart) → slice ≡ row →
    AllByRecursion IsCount slice → n ≡ length row → full ≡ no_limits n → (hart : ℕ) → counts_of m hart ≤ count_at full hart
settled m row slice full n are same each many is hart =
    let low = below_greatest row n many (subst (AllByRecursion IsCount) same each) hart in
    let a = are hart in
    let e = ap (λ (x : List ℕ). count_at x hart) is in
    omega (arith, low, a, e)

-- a book that went on to other limits, and has none now
pub led : (steps : ℕ) (b c : BookView RecordingView) (end full : List ℕ) → Continues (limited b end) c → TellsOn (limited b end) c →
    KeepsOffered (limited b end) c → c.mode.notes ≡ b.mode.notes → GoesRoundFor (lease_steps (length b.machine.harts)) (limited b end) c → GoWithin (limited b end) c → IsIdle c → AreThrough c → c.mode.limits ≡ end →
    ((hart : ℕ) → count_at end hart ≤ counts_of b.machine hart + steps) →
    ((hart : ℕ) → hart < length b.machine.harts → min (counts_of b.machine hart + steps) (COUNT_LIMIT - 1) ≤ count_at end hart) →
    ((hart : ℕ) → counts_of c.machine hart ≤ count_at full hart) → LeadsTo (heard_by b.mode) b.start b.journal b.machine → IsPrimary (limited c full) →
    LeadsTo (heard_by c.mode) c.start c.journal c.machine → HasGoneOn steps b (limited c full)
led steps b c end full continues tells offered notes round go idle through limits most far within before primary after = record {
  on = record {
    start = continues.start;
    journal = continues.journal;
    tells = record { counts = tells.counts; inputs = tells.inputs; edges = tells.edges; notes = tells.notes };
    notes = λ hart. ap (λ (rows : List NotesOfOne). notes_of rows hart) notes;
    primary = primary;
    before = before;
    after = after;
  };
  harts = continues.harts;
  idle = idle;
  within = within;
  counts = λ hart. let most_of = most hart in let go_of = (go hart).1 in omega (arith, go_of, most_of);
  there = λ hart h there. elim (through hart h there) [
    | inl halted ↦ inl halted
    | inr come ↦
        let inside = slice_get_within c.machine.harts hart h there in
        let same = continues.harts in
        let to = far hart (omega (arith, inside, same)) in
        let is = ap (λ (row : List ℕ). count_at row hart) limits in
        inr (omega (arith, come, to, is))
  ];
  offered = offered;
  end = end;
  rounds = subst (GoesRoundFor (lease_steps (length b.machine.harts)) (limited b end)) (ap (λ (row : List ℕ). limited c row) limits) round;
}
