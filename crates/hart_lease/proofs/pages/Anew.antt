-- A lease that is begun in the place of another.
use Rattle.std.proofs.Common.{◌≡◌, ◌-◌, ℕ, length, refl, ap, sym, subst, arith}
use Rattle.std.proofs.lemmas.List.{length-replicate}
use Rattle.rv32_hart.specs.Hart.{Hart, without_outputs, with_outputs_of}
use Rattle.hart_lease.specs.declared.lease_pages.Slot.{Slot}
use Rattle.hart_lease.specs.declared.lease_pages.Slot.TheVariants.{Missing}
use Rattle.hart_lease.specs.OpenLeases.{idle}
use Rattle.hart_lease.specs.Leases.{LeaseView, fresh}
use Rattle.hart_lease.specs.Runs.{IsBareLease}
use Rattle.hart_lease.proofs.pages.Given.{bare_fresh_kept}

-- a lease whose hart has just become this one, as its steps are counted
pub fresh_now : (hart pages : ℕ) (state : Hart) →
    record (fresh hart (without_outputs state) pages idle) { steps = state.count - state.count } ≡ fresh hart (without_outputs state) pages idle
fresh_now hart pages state =
    let none : state.count - state.count ≡ 0 = omega arith in
    ap (λ (n : ℕ). record (fresh hart (without_outputs state) pages idle) { steps = n }) none

pub bare_now : (hart pages : ℕ) (state : Hart) →
    IsBareLease (record (fresh hart (without_outputs state) pages idle) { steps = state.count - state.count })
bare_now hart pages state =
    subst (λ (l : LeaseView). IsBareLease l) (sym (fresh_now hart pages state))
    (bare_fresh_kept hart (without_outputs state) pages idle (omega arith) (omega arith))

-- the one that was there, with another hart in its place
pub begun_anew : (l : LeaseView) (hart at pages : ℕ) (old state : Hart) → l ≡ fresh at (without_outputs old) pages idle →
    record l { hart = hart; base = with_outputs_of l.base state; present = with_outputs_of l.present state; steps = state.count - state.count } ≡
    record (fresh hart (without_outputs state) pages idle) { steps = state.count - state.count }
begun_anew l hart at pages old state e = rw e refl

-- one that was begun anew is told to be so by what it has
pub fresh_again : (l : LeaseView) (hart pages : ℕ) (state : Hart) → l ≡ fresh hart (without_outputs state) pages idle →
    l ≡ fresh l.hart (without_outputs l.base) (length l.slots) idle
fresh_again l hart pages state e =
    rw e (ap (λ (n : ℕ). fresh hart (without_outputs state) n idle) (sym (length-replicate {A = Slot} pages Missing)))
