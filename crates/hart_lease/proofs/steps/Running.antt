-- Many steps of a lease.
use Rattle.std.proofs.Common.{◌≡◌, ◌≢◌, ℕ, ◌+◌, ◌-◌, ◌≤◌, ◌<◌, false, true≢false, zero, suc, add-one, add-zero, add-suc, List, [], length, inl, inr, slice_get}
use Rattle.std.proofs.Common.{slice_set, Option, None, Some, refl, ap, sym, subst, ◌∙◌, arith}
use Rattle.interleaving.specs.Machine.{Write}
use Rattle.input_log.specs.declared.Input.{Input}
use Rattle.rv32_hart.specs.Ram.{Ram}
use Rattle.rv32_hart.specs.Hart.{Hart}
use Rattle.rv32_hart.specs.Csrs.{received_all}
use Rattle.rv32_hart.specs.Access.{next_step}
use Rattle.rv32_hart.specs.Step.{IsTaken, effect_on, ram_after}
use Rattle.rv32_hart.specs.QuietSteps.{QuietSteps}
use Rattle.rv32_hart.specs.declared.outcome.Tick.{Tick}
use Rattle.rv32_hart.specs.declared.outcome.Tick.TheVariants as tick
use Rattle.guest_image.specs.Machine.{MachineState}
use Rattle.hart_lease.specs.declared.taken.Taken.{Taken}
use Rattle.hart_lease.specs.declared.lease_pages.Slot.{Slot}
use Rattle.hart_lease.specs.declared.lease_pages.Slot.TheVariants.{Writable}
use Rattle.hart_lease.specs.Slots.{ram_of}
use Rattle.hart_lease.specs.Leases.{LeaseView, inputs_next, whole, IsFull, IsLent, StepsOn, Runs, Ticks}
use Rattle.hart_lease.specs.Runs.{IsLease, IsBareLease}
use Rattle.hart_lease.proofs.pages.Slots.{ram_written, ram_tells}
use Rattle.hart_lease.proofs.steps.Seen.{write_right, IsWritable, right_writable}
use Rattle.hart_lease.proofs.steps.Rung.{quiet_so_far}
use Rattle.hart_lease.proofs.steps.After.{Tried, tried, moved, taken_counted, nothing_later}

-- slots that show what a step left
by_write : (slots : List Slot) (write : Option (Write (List ℕ))) → ((w : Write (List ℕ)) → write ≡ Some w → IsWritable slots w.page) →
    (s : List Slot) × (ram_of s ≡ ram_after (ram_of slots) write)
by_write slots None right = (slots, refl)
by_write slots (Some w) right = (slice_set slots w.page (Writable w.contents), ram_written slots w.page (right w refl).old w.contents (right w refl).is)

after_step : (slots : List Slot) (inputs : List Input) (h after : Hart) (left : Ram) → IsTaken inputs h (ram_of slots) after left → (s : List Slot) ×
    (ram_of s ≡ left)
after_step slots inputs h after left t =
    let r = by_write slots (effect_on (ram_of slots) h inputs).write
    (λ w e. right_writable slots w.page (write_right (ram_of slots) (next_step (length (ram_of slots).contents) (received_all inputs h))
    (slice_get (ram_of slots).contents) w t.granted e)) in
    (r.0, r.1 ∙ sym t.pages)

-- slots that show what many steps left
after_steps : (n : ℕ) (slots : List Slot) (h after : Hart) (left : Ram) → QuietSteps n h (ram_of slots) after left → (s : List Slot) × (ram_of s ≡ left)
after_steps zero slots h after left q = (slots, sym q.1)
after_steps (suc n) slots h after left q =
    let before = after_steps n slots h q.0 q.1 q.2 in
    let t : IsTaken [] q.0 (ram_of before.0) after left = rw before.1 q.3.taken in
    after_step before.0 [] q.0 after left t

-- what n quiet steps leave of a lease
pub record Went (n : ℕ) (l new : LeaseView) : Type 0 where
  pub kept : IsBareLease new
  pub steps : StepsOn n l new
  pub rung : new.present.rung ≡ l.base.rung
  pub on : new.steps ≡ l.steps + n
  pub lent : (m : MachineState) (counts : List (Option Taken)) (earlier : List (ℕ × ℕ)) → IsLent m counts (whole earlier l) →
      IsLent m counts (whole earlier new)

-- a lease between its first step and the one that fills it is not full
not_yet : (l : LeaseView) → l.steps < l.most → l.present.count < l.stop → l.present.halted ≡ false → l.present.rung ≡ l.base.rung → IsFull l → ⊥
not_yet l steps stop runs quiet (inl full) = omega arith
not_yet l steps stop runs quiet (inr (inl full)) = omega arith
not_yet l steps stop runs quiet (inr (inr (inl halted))) = true≢false (sym halted ∙ runs)
not_yet l steps stop runs quiet (inr (inr (inr rang))) = rang quiet

unmoved_of : (l : LeaseView) (after : Hart) (slots : List Slot) → IsLease l → after ≡ l.present → slots ≡ l.slots → moved l after slots ≡ l
unmoved_of l after slots p same pages =
    let none : l.present.count - l.base.count ≡ l.steps = omega (arith, p.count) in
    ap (λ (h : Hart). moved l h slots) same ∙ ap (moved l l.present) pages ∙ ap (λ (n : ℕ). let v : LeaseView = record l { steps = n } in v) none

pub went : (n : ℕ) (l : LeaseView) (after : Hart) (slots : List Slot) → IsBareLease l → l.steps ≢ 0 → l.steps + n ≤ l.most → l.present.count + n ≤ l.stop →
    l.present.rung ≡ l.base.rung → QuietSteps n l.present (ram_of l.slots) after (ram_of slots) → Went n l (moved l after slots)
went zero l after slots p later steps stop quiet q =
    let is : moved l after slots ≡ l = unmoved_of l after slots p.bare q.0 (ram_tells slots l.slots q.1) in
    subst (λ (v : LeaseView). Went 0 l v) (sym is) (record { kept = p; steps = refl; rung = quiet; on = omega arith; lent = λ m counts earlier lent. lent })
went (suc n) l after slots p later steps stop quiet q =
    let before = after_steps n l.slots l.present q.0 q.1 q.2 in
    let k : LeaseView = moved l q.0 before.0 in
    let sofar : QuietSteps n l.present (ram_of l.slots) q.0 (ram_of before.0) = rw before.1 q.2 in
    let w : Went n l k = went n l q.0 before.0 p later (omega arith) (omega arith) quiet sofar in
    let t : IsTaken [] q.0 (ram_of before.0) after (ram_of slots) = rw before.1 q.3.taken in
    let some : k.steps ≢ 0 = λ (e : k.steps ≡ 0). later (omega (arith, w.on)) in
    let given : [] ≡ inputs_next k = nothing_later k.inputs k.steps some in
    let taken : IsTaken (inputs_next k) k.present (ram_of k.slots) after (ram_of slots) = subst (λ (is : List Input). IsTaken is k.present
    (ram_of k.slots) after (ram_of slots)) given t in
    let full : IsFull k → ⊥ = not_yet k (omega (arith, w.on)) (omega (arith, w.on, w.kept.bare.count, p.bare.count)) t.running w.rung in
    let one : Tried tick.Done k (moved k after slots) = tried tick.Done k after slots w.kept full taken tt tt tt tt tt in
    record {
      kept = one.kept;
      steps = (k, w.steps, full, one.does);
      rung = q.3.rung ∙ w.rung;
      on = omega (
        arith,
        w.on,
        one.kept.bare.count,
        w.kept.bare.count,
        (taken_counted (inputs_next k) k.present after (ram_of k.slots)
            (ram_of slots) taken).count,
      );
      lent = λ m counts earlier lent. one.lent m counts earlier (w.lent m counts earlier lent);
    }

-- steps one after the other
pub joined : (j k : ℕ) (l m new : LeaseView) → StepsOn j l m → StepsOn k m new → StepsOn (j + k) l new
joined j zero l m new a b = rw add-zero (rw b a)
joined j (suc k) l m new a b = rw add-suc (b.0, joined j k l m b.0 a b.1, b.2, b.3)

-- what the quick steps of a lease that is not full leave of it
pub went_on : (n last : ℕ) (l k : LeaseView) (after : Hart) (slots : List Slot) → l ≡ k → IsBareLease l → (IsFull k → ⊥) → k.steps ≢ 0 → last ≤ l.stop →
    last ≤ l.base.count + l.most →
    n ≤ last - l.present.count → QuietSteps n l.present (ram_of l.slots) after (ram_of slots) → Went n k (moved l after slots)
went_on n last l k after slots is p room later stops ends few q =
    let full : IsFull l → ⊥ = λ f. room (subst (λ (v : LeaseView). IsFull v) is f) in
    let some : l.steps ≢ 0 = λ (e : l.steps ≡ 0). later (ap (λ (v : LeaseView). v.steps) (sym is) ∙ e) in
    let steps : l.steps < l.most = omega (arith, λ (le : l.most ≤ l.steps). full (inl le)) in
    let below : l.present.count < l.stop = omega (arith, λ (le : l.stop ≤ l.present.count). full (inr (inl le))) in
    subst (λ (v : LeaseView). Went n v (moved l after slots)) is
    (went n l after slots p some (omega (arith, p.bare.count, ends, few, steps)) (omega (arith, stops, few, below)) (quiet_so_far l full) q)

pub one_more : (n : ℕ) (l m new : LeaseView) → StepsOn n l m → (IsFull m → ⊥) → Ticks tick.Done m new → StepsOn (n + 1) l new
one_more n l m new s room t = rw add-one (m, s, room, t)

-- a step that is not done ends the run
pub stopped : (t : Tick) (n : ℕ) (l k new : LeaseView) → (t ≡ tick.Done → ⊥) → StepsOn n l k → (IsFull k → ⊥) → Ticks t k new → Runs t l new
stopped tick.Done n l k new differs s room t = absurd (differs refl)
stopped (tick.Miss page want) n l k new differs s room t =
    subst (λ (v : LeaseView). Runs (tick.Miss page want) l v) (sym t.0) (n, s, room, (refl, t.1))
stopped tick.Halted n l k new differs s room t = absurd t
stopped tick.Memory n l k new differs s room t = subst (λ (v : LeaseView). Runs tick.Memory l v) (sym t.0) (n, s, room, (refl, t.1))

-- a step that is done counts one
pub steps_one : (k new : LeaseView) → Ticks tick.Done k new → new.steps ≡ k.steps + 1
steps_one k new t = ap (λ (v : LeaseView). v.steps) t.0

-- steps leave how many the lease may take
pub same_most : (n : ℕ) (l new : LeaseView) → StepsOn n l new → new.most ≡ l.most
same_most zero l new s = ap (λ (v : LeaseView). v.most) s
same_most (suc n) l new s = ap (λ (v : LeaseView). v.most) s.3.0 ∙ same_most n l s.0 s.1
