use Rattle.std.proofs.Common.{◌∙◌, sym, subst, length}
use Rattle.hart_lease.proofs.pages.Given.{bare_fresh_kept}
use Rattle.hart_lease.specs.Leases.{LeaseView}
use Rattle.hart_lease.specs.Runs.{IsBareLease}
use Rattle.hart_lease.proofs.lease.Lease.go_out.Goals as goal

pub invariant_of-self : goal.invariant_of-self
invariant_of-self c =
    let l = c.args.self.now in
    let lent = c.args.lent in
    rw (c.into_parts-inputs.ensures.inputs, c.into_parts-inputs.ensures.edges, c.stop-stop.ensures)
    (subst (λ (v : LeaseView). IsBareLease (record v { stop = lent.stop; inputs = lent.inputs; edges = lent.edges })) (sym (c.self.view_is ∙ c.requires.idle))
    (bare_fresh_kept l.hart l.base (length l.slots) lent c.requires.stop c.into_parts-inputs.ensures.few))
