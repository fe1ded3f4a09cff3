use Rattle.std.proofs.Common.{◌≡◌, ◌-◌, ℕ, arith, sym, subst}
use Rattle.rv32_hart.specs.Hart.{without_outputs}
use Rattle.hart_lease.specs.OpenLeases.{idle}
use Rattle.hart_lease.specs.Leases.{fresh}
use Rattle.hart_lease.specs.Runs.{IsBareLease}
use Rattle.hart_lease.proofs.pages.Bases.{based_none}
use Rattle.hart_lease.proofs.pages.Given.{bare_fresh_kept}
use Rattle.hart_lease.proofs.lease.Lease.fresh.Goals as goal

pub invariant_of-result : goal.invariant_of-result
invariant_of-result c = (omega arith, (omega arith, (λ h. absurd (omega arith), (rw c.in_ok-taken.ensures (based_none c.in_ok-bases.bases.items c.args.pages), tt))))

pub invariant_of-result-2 : goal.invariant_of-result-2
invariant_of-result-2 c =
    let h = without_outputs c.args.state.now in
    let none : h.count - h.count ≡ 0 = omega arith in
    rw (
      c.without_outputs-base.ensures,
      c.without_outputs-present.ensures,
      c.in_ok-bases.ensures,
      c.in_ok-taken.ensures,
      c.in_ok-pages.ensures,
      c.new.ensures.items,
      c.new-2.ensures.items,
    )
    (subst (λ (steps : ℕ). IsBareLease (record (fresh c.args.hart h c.args.pages idle) { steps = steps })) (sym none)
    (bare_fresh_kept c.args.hart h c.args.pages idle (omega arith) (omega arith)))
