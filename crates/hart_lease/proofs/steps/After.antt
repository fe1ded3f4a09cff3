-- What a step leaves of a lease.
use Rattle.std.proofs.Common.{◌≡◌, ℕ, ◌+◌, ◌-◌, true, zero, suc, List, [], ◌∷◌, length, ◌<◌, inl, inr, slice_get, length-set, Option, None, Some, refl, ap}
use Rattle.std.proofs.Common.{sym, subst, ◌∙◌, arith}
use Rattle.interleaving.specs.Machine.{Write}
use Rattle.interleaving.specs.Stored.{written_in}
use Rattle.std.proofs.lemmas.Bool.{cases_lt}
use Rattle.input_log.specs.declared.Input.{Input}
use Rattle.input_log.specs.declared.Input.TheVariants.{Timer, Word, Bell}
use Rattle.rv32_hart.specs.Ram.{Ram}
use Rattle.rv32_hart.specs.Hart.{Hart, with_earlier}
use Rattle.rv32_hart.specs.Step.{IsTaken, IsMissing, IsOutput, OnDone, OnMiss, OnHalted, OnMemory, UnlessDone}
use Rattle.rv32_hart.specs.Csrs.{receive, received_all}
use Rattle.rv32_hart.specs.machinery.CountedSteps.{effect_counted}
use Rattle.rv32_hart.specs.Bells.{IsRungOnce}
use Rattle.rv32_hart.proofs.Earlier.{leaves_earlier}
use Rattle.rv32_hart.proofs.Ringing.{rings_one}
use Rattle.guest_image.specs.Machine.{MachineState}
use Rattle.hart_lease.specs.declared.taken.Taken.{Taken}
use Rattle.hart_lease.specs.declared.lease_pages.Slot.{Slot}
use Rattle.hart_lease.specs.Slots.{ram_of, present_bytes}
use Rattle.hart_lease.specs.Leases.{LeaseView, inputs_next, stepped, whole, IsFull, IsLent, Ticks as Does}
use Rattle.rv32_hart.specs.declared.outcome.Tick.{Tick}
use Rattle.rv32_hart.specs.declared.outcome.Tick.TheVariants as tick
use Rattle.hart_lease.proofs.steps.Rung.{quiet_so_far}
use Rattle.hart_lease.specs.Runs.{IsLease, IsBareLease}
use Rattle.hart_lease.specs.Turns.{given_at}
use Rattle.hart_lease.proofs.steps.OnMachines.{ticked, rights_stay, still_lent}
use Rattle.hart_lease.proofs.steps.Present.{ticked_played}
use Rattle.hart_lease.proofs.pages.Slots.{length-map, ram_tells}

-- inputs do not change which hart it is, nor its count
record SameHart (h k : Hart) : Type 0 where
  number : k.number ≡ h.number
  harts : k.harts ≡ h.harts
  count : k.count ≡ h.count

hears_one : (i : Input) (h : Hart) → SameHart h (receive i h)
hears_one Timer h = record { number = refl; harts = refl; count = refl }
hears_one (Word w) h = record { number = refl; harts = refl; count = refl }
hears_one (Bell g) h = record { number = refl; harts = refl; count = refl }

hears_all : (inputs : List Input) (h : Hart) → SameHart h (received_all inputs h)
hears_all [] h = record { number = refl; harts = refl; count = refl }
hears_all (i ∷ inputs) h =
    let one = hears_one i h in
    let rest = hears_all inputs (receive i h) in
    record { number = rest.number ∙ one.number; harts = rest.harts ∙ one.harts; count = rest.count ∙ one.count }

-- what a step leaves of its hart's number, of how many harts there are, and of its count
pub record Goes (h after : Hart) : Type 0 where
  pub number : after.number ≡ h.number
  pub harts : after.harts ≡ h.harts
  pub count : after.count ≡ h.count + 1

pub taken_counted : (inputs : List Input) (h after : Hart) (ram left : Ram) → IsTaken inputs h ram after left → Goes h after
taken_counted inputs h after ram left t =
    let same = hears_all inputs h in
    let made = effect_counted (length ram.contents) (received_all inputs h) (slice_get ram.contents) in
    rw t.hart (record { number = made.number ∙ same.number; harts = made.harts ∙ same.harts; count = made.count ∙ ap (λ n. n + 1) same.count })

length-written_in : (pages : List (List ℕ)) (write : Option (Write (List ℕ))) → length (written_in pages write) ≡ length pages
length-written_in pages None = refl
length-written_in pages (Some w) = length-set pages w.page w.contents

pub length_shown : (slots : List Slot) → length (ram_of slots).contents ≡ length slots
length_shown slots = length-map present_bytes slots

-- a lease after a step is a lease
pub tick_kept : (l : LeaseView) (after : Hart) (slots : List Slot) → IsLease l →
    IsTaken (inputs_next l) l.present (ram_of l.slots) after (ram_of slots) → l.present.count < l.stop → l.present.rung ≡ l.base.rung →
    IsLease (stepped l after slots)
tick_kept l after slots p t lt quiet =
    let c = taken_counted (inputs_next l) l.present after (ram_of l.slots) (ram_of slots) t in
    let pages = ap (λ (r : Ram). length r.contents) t.pages in
    record {
      stop = p.stop;
      few = p.few;
      as_many = p.as_many ∙ sym (length_shown l.slots) ∙ sym (pages ∙ length-written_in (ram_of l.slots).contents _) ∙ length_shown slots;
      counted = p.counted ∙ sym (length_shown l.slots) ∙ sym (pages ∙ length-written_in (ram_of l.slots).contents _) ∙ length_shown slots;
      rights = λ page. rights_stay l after slots t page ∙ p.rights page;
      number = c.number ∙ p.number;
      harts = c.harts ∙ p.harts;
      count = c.count ∙ omega (arith, p.count);
      rings =
          subst (λ n. IsRungOnce n l.base.rung after.rung) p.harts
          (subst (λ rung. IsRungOnce l.present.harts rung after.rung) quiet (rings_one (inputs_next l) l.present (ram_of l.slots) after (ram_of slots) t));
      runs = ticked l after slots t p.runs;
      within = inr (omega (arith, c.count, lt));
      played = ticked_played l p.played p.rights after slots t;
    }

-- a lease that is not full is below its stop
pub below_stop : (l : LeaseView) → (IsFull l → ⊥) → l.present.count < l.stop
below_stop l not_full =
    elim (cases_lt l.present.count l.stop) [
      | inl lt ↦ lt
      | inr le ↦ absurd (not_full (inr (inl le)))
    ]

-- so is a bare one
pub bare_tick_kept : (l : LeaseView) (after : Hart) (slots : List Slot) → IsBareLease l →
    IsTaken (inputs_next l) l.present (ram_of l.slots) after (ram_of slots) → l.present.count < l.stop → l.present.rung ≡ l.base.rung →
    IsBareLease (stepped l after slots)
bare_tick_kept l after slots p t lt quiet = record {
  bare = tick_kept l after slots p.bare t lt quiet;
  with_any = λ earlier.
      tick_kept (whole earlier l) (with_earlier earlier after) slots (p.with_any earlier)
      (leaves_earlier earlier (inputs_next l) l.present (ram_of l.slots) after (ram_of slots) t) lt quiet;
}

-- whoever lent it, whatever its hart had put out, still did
pub bare_still_lent : (l : LeaseView) (after : Hart) (slots : List Slot) → IsTaken (inputs_next l) l.present (ram_of l.slots) after (ram_of slots) →
    (m : MachineState) (taken : List (Option Taken)) (earlier : List (ℕ × ℕ)) → IsLent m taken (whole earlier l) →
    IsLent m taken (whole earlier (stepped l after slots))
bare_still_lent l after slots t m taken earlier lent =
    still_lent (whole earlier l) (with_earlier earlier after) slots
    (leaves_earlier earlier (inputs_next l) l.present (ram_of l.slots) after (ram_of slots) t) m taken lent

-- a lease whose hart and pages are these now
abbrev pub moved : LeaseView → Hart → List Slot → LeaseView
moved l after slots = record l { present = after; slots = slots; steps = after.count - l.base.count }

moved_on : (l : LeaseView) (after : Hart) (slots : List Slot) → IsLease l →
    IsTaken (inputs_next l) l.present (ram_of l.slots) after (ram_of slots) → moved l after slots ≡ stepped l after slots
moved_on l after slots p t =
    let c = taken_counted (inputs_next l) l.present after (ram_of l.slots) (ram_of slots) t in
    let one : after.count - l.base.count ≡ l.steps + 1 = omega (arith, c.count, p.count) in
    ap (λ (n : ℕ). let v : LeaseView = record l { present = after; slots = slots; steps = n } in v) one

unmoved : (l : LeaseView) (after : Hart) (slots : List Slot) → IsLease l → after ≡ l.present → ram_of slots ≡ ram_of l.slots → moved l after slots ≡ l
unmoved l after slots p same pages =
    let none : l.present.count - l.base.count ≡ l.steps = omega (arith, p.count) in
    ap (λ (h : Hart). moved l h slots) same ∙ ap (moved l l.present) (ram_tells slots l.slots pages)
    ∙ ap (λ (n : ℕ). let v : LeaseView = record l { steps = n } in v) none

-- what a step that was tried leaves of a lease that was not full
pub record Tried (answer : Tick) (l new : LeaseView) : Type 0 where
  pub kept : IsBareLease new
  pub does : Does answer l new
  pub lent : (m : MachineState) (counts : List (Option Taken)) (earlier : List (ℕ × ℕ)) → IsLent m counts (whole earlier l) →
      IsLent m counts (whole earlier new)

unchanged : (answer : Tick) (l new : LeaseView) → new ≡ l → IsBareLease l → Does answer l new → Tried answer l new
unchanged answer l new same p does =
    record {
      kept = subst (λ (v : LeaseView). IsBareLease v) (sym same) p;
      does = does;
      lent = λ m counts earlier lent. subst (λ (v : LeaseView). IsLent m counts (whole earlier v)) (sym same) lent;
    }

pub tried : (answer : Tick) (l : LeaseView) (after : Hart) (slots : List Slot) → IsBareLease l → (IsFull l → ⊥) →
    OnDone answer (IsTaken (inputs_next l) l.present (ram_of l.slots) after (ram_of slots)) →
    OnMiss answer (λ w. IsMissing (inputs_next l) l.present (ram_of l.slots) w) → OnHalted answer (l.present.halted ≡ true) →
    OnMemory answer (IsOutput (inputs_next l) l.present (ram_of l.slots)) → UnlessDone answer (after ≡ l.present) →
    UnlessDone answer (ram_of slots ≡ ram_of l.slots) → Tried answer l (moved l after slots)
tried tick.Done l after slots p not_full done miss halted memory same pages =
    let is : moved l after slots ≡ stepped l after slots = moved_on l after slots p.bare done in
    record {
      kept = subst (λ (v : LeaseView). IsBareLease v) (sym is) (bare_tick_kept l after slots p done (below_stop l not_full) (quiet_so_far l not_full));
      does = (is, done);
      lent = λ m counts earlier lent. subst (λ (v : LeaseView). IsLent m counts (whole earlier v)) (sym is) (bare_still_lent l after slots done m counts earlier
          lent);
    }
tried (tick.Miss page want) l after slots p not_full done miss halted memory same pages =
    let is : moved l after slots ≡ l = unmoved l after slots p.bare same pages in
    unchanged (tick.Miss page want) l (moved l after slots) is p (is, miss)
tried tick.Halted l after slots p not_full done miss halted memory same pages = absurd (not_full (inr (inr (inl halted))))
tried tick.Memory l after slots p not_full done miss halted memory same pages =
    let is : moved l after slots ≡ l = unmoved l after slots p.bare same pages in
    unchanged tick.Memory l (moved l after slots) is p (is, memory)

-- the same of an equal lease, and of the inputs that the step was given
pub tried_at : (answer : Tick) (l k : LeaseView) (after : Hart) (slots : List Slot) (steps : ℕ) (inputs : List Input) → l ≡ k → steps ≡ k.steps →
    inputs ≡ given_at l.inputs steps → IsBareLease l → (IsFull k → ⊥) → OnDone answer (IsTaken inputs l.present (ram_of l.slots) after (ram_of slots)) →
    OnMiss answer (λ w. IsMissing inputs l.present (ram_of l.slots) w) → OnHalted answer (l.present.halted ≡ true) →
    OnMemory answer (IsOutput inputs l.present (ram_of l.slots)) → UnlessDone answer (after ≡ l.present) →
    UnlessDone answer (ram_of slots ≡ ram_of l.slots) → Tried answer k (moved l after slots)
tried_at answer l k after slots steps inputs is counted given p not_full done miss halted memory same pages =
    let next : inputs ≡ inputs_next l = given ∙ ap (given_at l.inputs) (counted ∙ ap (λ (v : LeaseView). v.steps) (sym is)) in
    subst (λ (v : LeaseView). Tried answer v (moved l after slots)) is
    (tried answer l after slots p (λ full. not_full (subst (λ (v : LeaseView). IsFull v) is full)) (rw next at done) (rw next at miss) halted
    (rw next at memory) same pages)

-- a step after the first has no inputs
pub nothing_later : (inputs : List Input) (steps : ℕ) → (steps ≡ 0 → ⊥) → [] ≡ given_at inputs steps
nothing_later inputs zero later = absurd (later refl)
nothing_later inputs (suc steps) later = refl

-- an answer that never comes tells whatever one likes
pub never_comes : (P : Type 0) (answer : Tick) → OnHalted answer ⊥ → OnHalted answer P
never_comes P tick.Done never = tt
never_comes P (tick.Miss page want) never = tt
never_comes P tick.Halted never = absurd never
never_comes P tick.Memory never = tt
