use Rattle.std.proofs.Common.{rules}
use Rattle.hart_lease.specs.Leases.{whole}
use Rattle.book_modes.specs.Recordings.{IsSettled, LogsInputs}
use Rattle.book_modes.proofs.ledger.Settling.{heard_there, logs_of_whole, settled_of_whole, settled_recorded}
use Rattle.book_modes.proofs.recording.RecordingMode.settle.Goals as goal

pub returns-clause-heard : goal.returns-clause-heard
returns-clause-heard c earlier =
    let l = c.args.lease.now in
    let logs : LogsInputs l.steps c.args.self.now.inputs l c.keep_rights.new.self.inputs = search rules in
    record { hears = λ s. heard_there c.args.self.now (whole earlier l) s c.keep_rights.new.self (logs_of_whole earlier l.steps _ l _ logs) }

pub returns-clause-kept : goal.returns-clause-kept
returns-clause-kept c earlier =
    let l = c.args.lease.now in
    let is : IsSettled c.args.self.now l c.args.keep c.keep_rights.new.self = search rules in
    λ s. settled_recorded c.args.self.now (whole earlier l) s c.args.keep c.keep_rights.new.self (settled_of_whole earlier c.args.self.now l c.args.keep
    c.keep_rights.new.self is)
