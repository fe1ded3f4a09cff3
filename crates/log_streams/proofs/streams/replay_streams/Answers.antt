use Rattle.std.proofs.Common.{map, ◌∙◌, subst}
use Rattle.std.proofs.lemmas.Result.{err_from_is_err_and, IfErr-weaker}
use Rattle.log_streams.specs.Outcome.{IsCauseIn}
use Rattle.log_streams.proofs.Outcomes.{joined_written, joined_cause, read_cause, joined_answer, read_answer, read_unwritten, no_reader}
use Rattle.ft_types.specs.Guests.{GuestParts}
use Rattle.log_streams.specs.Faults.{GaveRight}
use Rattle.log_streams.proofs.Lifted.{streams_to}
use Rattle.log_streams.proofs.Truthful.{writes_history, devices_only, unwritten_history}
use Rattle.log_streams.proofs.streams.replay_streams.Goals as goal

pub returns-in_err-store-clause-fault : goal.returns-in_err-store-clause-fault
returns-in_err-store-clause-fault g c =
    let p = err_from_is_err_and c.from_residual.result c.from_residual.ensures.1 in
    rw (p.1, p.2) (read_cause c.args.image.now c.guest.result (map g.R.Source.left c.args.readers.now) c.in_err-store.field-0.0 c.guest.ensures
    c.in_err-store.ensures.fault)

pub returns-in_err-store-clause-exact : goal.returns-in_err-store-clause-exact
returns-in_err-store-clause-exact g c =
    let p = err_from_is_err_and c.from_residual.result c.from_residual.ensures.1 in
    rw (p.1, p.2) (λ streams f is in_bytes first.
    read_answer c.args.image.now c.guest.result (map g.R.Source.left c.args.readers.now) c.in_err-store.field-0.0 streams f c.guest.ensures is
    c.in_err-store.ensures.fault in_bytes first)

pub returns-clause-written : goal.returns-clause-written
returns-clause-written g c =
    joined_written c.args.image.now c.guest.result (map g.R.Source.left c.args.readers.now) c.in_ok-store.store c.write_replayed.result _ _ _ _ c.guest.ensures
    c.in_ok-store.ensures.ok c.write_replayed.ensures.written

pub returns-clause-fault : goal.returns-clause-fault
returns-clause-fault g c =
    IfErr-weaker c.write_replayed.result (IsCauseIn c.args.image.now c.in_ok-store.store) _
    (λ f cause. joined_cause c.args.image.now c.guest.result (map g.R.Source.left c.args.readers.now) c.in_ok-store.store f c.guest.ensures
    c.in_ok-store.ensures.ok cause) c.write_replayed.ensures.fault

pub returns-clause-exact : goal.returns-clause-exact
returns-clause-exact g c = λ streams f is in_bytes first.
    joined_answer c.args.image.now c.guest.result (map g.R.Source.left c.args.readers.now) c.in_ok-store.store c.write_replayed.result streams f c.guest.ensures
    is c.in_ok-store.ensures.ok in_bytes first

pub write_replayed-requires-clause-guest : goal.write_replayed-requires-clause-guest
write_replayed-requires-clause-guest g c = c.in_ok-store.ensures.guest ∙ c.guest.ensures

pub returns-in_err-store-clause-written : goal.returns-in_err-store-clause-written
returns-in_err-store-clause-written g c =
    let p = err_from_is_err_and c.from_residual.result c.from_residual.ensures.1 in
    rw (p.1, p.2) (read_unwritten c.args.image.now c.guest.result (map g.R.Source.left c.args.readers.now) c.in_err-store.field-0.0 _ _
    c.in_err-store.ensures.fault)

pub returns-in_err-store-clause-history : goal.returns-in_err-store-clause-history
returns-in_err-store-clause-history g c =
    let p = err_from_is_err_and c.from_residual.result c.from_residual.ensures.1 in
    rw (p.1, p.2) (λ history. unwritten_history c.args.image.now history c.guest.result (map g.R.Source.left c.args.readers.now) c.in_err-store.field-0.0
    _ _ c.in_err-store.ensures.fault)

pub returns-in_err-store-clause-only_devices : goal.returns-in_err-store-clause-only_devices
returns-in_err-store-clause-only_devices g c =
    let p = err_from_is_err_and c.from_residual.result c.from_residual.ensures.1 in
    rw (p.1, p.2) (λ history. streams_to _ _ (map g.R.Source.left c.args.readers.now)
    (λ streams cause truly. devices_only c.args.image.now history streams c.in_err-store.field-0.0 cause truly)
    (read_cause c.args.image.now c.guest.result (map g.R.Source.left c.args.readers.now) c.in_err-store.field-0.0 c.guest.ensures c.in_err-store.ensures.fault))

pub returns-clause-history : goal.returns-clause-history
returns-clause-history g c = λ history. streams_to _ _ (map g.R.Source.left c.args.readers.now)
    (λ streams w truly. writes_history c.args.image.now history streams c.write_replayed.result _ _ _ _ w truly)
    (joined_written c.args.image.now c.guest.result (map g.R.Source.left c.args.readers.now) c.in_ok-store.store c.write_replayed.result _ _ _ _ c.guest.ensures
    c.in_ok-store.ensures.ok c.write_replayed.ensures.written)

pub returns-clause-only_devices : goal.returns-clause-only_devices
returns-clause-only_devices g c =
    IfErr-weaker c.write_replayed.result (IsCauseIn c.args.image.now c.in_ok-store.store) _
    (λ f cause history. streams_to _ _ (map g.R.Source.left c.args.readers.now)
    (λ streams k truly. devices_only c.args.image.now history streams f k truly)
    (joined_cause c.args.image.now c.guest.result (map g.R.Source.left c.args.readers.now) c.in_ok-store.store f c.guest.ensures
    c.in_ok-store.ensures.ok cause)) c.write_replayed.ensures.fault

pub returns-in_err-store-clause-right : goal.returns-in_err-store-clause-right
returns-in_err-store-clause-right g c =
    let p = err_from_is_err_and c.from_residual.result c.from_residual.ensures.1 in
    rw (p.1, p.2) (λ i reader later is before after.
    subst (λ (x : GuestParts). GaveRight x (g.R.Source.left reader) (g.R.Source.left later)) c.guest.ensures
    (c.in_err-store.ensures.right i reader later (cc) before after))

pub returns-clause-right : goal.returns-clause-right
returns-clause-right g c = λ i reader later is before after.
    absurd (no_reader c.args.image.now c.in_ok-store.store c.write_replayed.result i c.write_replayed.ensures.fault is)
