use Rattle.std.proofs.Common.{◌∙◌, sym, subst, length}
use Rattle.hart_lease.specs.Runs.{IsBareLease}
use Rattle.hart_lease.proofs.pages.Anew.{fresh_now, bare_now, begun_anew}
use Rattle.hart_lease.proofs.lease.Lease.begin_anew.Goals as goal

pub invariant_of-self : goal.invariant_of-self
invariant_of-self c =
    let old = c.args.self.now in
    rw (c.become_but_outputs.ensures, c.become_but_outputs-2.ensures)
    (subst IsBareLease (sym (begun_anew _ c.args.hart old.hart (length old.slots) old.base c.args.state.now (c.self.view_is ∙ c.requires.idle)))
    (bare_now c.args.hart (length old.slots) c.args.state.now))

pub returns : goal.returns
returns c =
    let old = c.args.self.now in
    rw (c.become_but_outputs.ensures, c.become_but_outputs-2.ensures)
    (begun_anew _ c.args.hart old.hart (length old.slots) old.base c.args.state.now (c.self.view_is ∙ c.requires.idle) ∙
    fresh_now c.args.hart (length old.slots) c.args.state.now)
