use Rattle.std.proofs.Common.{map}
use Rattle.std.proofs.lemmas.Result.{err_from_is_err_and}
use Rattle.log_streams.specs.declared.faults.StreamsFault.TheVariants.{Write}
use Rattle.log_streams.proofs.Lifted.{streams_to}
use Rattle.log_streams.proofs.Outcomes.{read_cause}
use Rattle.log_streams.proofs.Writing.{joined_writes, fault_writes}
use Rattle.command_line.specs.declared.faults.CommandFault.TheVariants.{Streams}
use Rattle.command_line.specs.LookingBack.{IsMachineAt, IsMachineOf, IsTextOf}
use Rattle.command_line.proofs.Audited.{told_once}
use Rattle.command_line.proofs.Placed.{joined_place}
use Rattle.command_line.proofs.looking_back.replay_streams_at.Goals as goal

pub returns-in_err-store-clause-written : goal.returns-in_err-store-clause-written
returns-in_err-store-clause-written g c =
    let p = err_from_is_err_and c.from_residual.result c.from_residual.ensures.1 in
    rw (p.1, p.2) (fault_writes (Unit {0}) (λ x. Streams x) c.guest.result (map g.R.Source.left c.args.readers.now)
    (λ streams. IsTextOf (IsMachineOf c.args.image.now streams c.args.place)) c.in_err-store.field-0.0 _ _ (told_once c.in_err-store.field-0.0 Write)
    c.in_err-store.ensures.fault)

pub returns-in_err-store-clause-none : goal.returns-in_err-store-clause-none
returns-in_err-store-clause-none g c =
    let p = err_from_is_err_and c.from_residual.result c.from_residual.ensures.1 in
    rw (p.1, p.2) (streams_to _ _ (map g.R.Source.left c.args.readers.now) (λ streams cause. tt) (read_cause c.args.image.now c.guest.result
    (map g.R.Source.left c.args.readers.now) c.in_err-store.field-0.0 c.guest.ensures c.in_err-store.ensures.fault))

pub returns-clause-written : goal.returns-clause-written
returns-clause-written g c =
    joined_writes (Streams Write) c.args.image.now c.guest.result (map g.R.Source.left c.args.readers.now) c.in_ok-store.store
    (IsTextOf (IsMachineAt c.args.image.now c.in_ok-store.store c.args.place)) (λ streams. IsTextOf (IsMachineOf c.args.image.now streams c.args.place))
    c.write_machine.result _ _ _ _ c.guest.ensures c.in_ok-store.ensures.ok (λ streams text j s. (s.0, (c.in_ok-store.store, j, s.1), s.2))
    c.write_machine.ensures.written

pub returns-clause-none : goal.returns-clause-none
returns-clause-none g c =
    joined_place c.args.image.now c.guest.result (map g.R.Source.left c.args.readers.now) c.in_ok-store.store c.args.place c.write_machine.result
    c.guest.ensures c.in_ok-store.ensures.ok c.write_machine.ensures.none
