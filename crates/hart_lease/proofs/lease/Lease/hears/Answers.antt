use Rattle.std.proofs.lemmas.Slice.Eq.{slice_eq-Decides}
use Rattle.input_log.proofs.Told.{inputs_told}
use Rattle.hart_lease.proofs.lease.Lease.hears.Goals as goal

pub returns : goal.returns
returns c =
    rw (← c.self.view_is, ← c.as_slice.ensures) (slice_eq-Decides inputs_told c.as_slice.result.now c.args.inputs.now c.same_inputs.result
    c.same_inputs.ensures)
