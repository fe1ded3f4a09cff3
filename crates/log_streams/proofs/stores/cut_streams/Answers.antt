use Rattle.std.proofs.Common.{◌≡◌, ◌⊎◌, map, subst}
use Rattle.std.proofs.lemmas.Result.{err_from_is_err_and, IfErr-weaker}
use Rattle.ft_types.specs.Guests.{GuestParts}
use Rattle.log_streams.specs.declared.faults.StreamsFault.TheVariants.{Write, Memory}
use Rattle.log_streams.specs.Faults.{IsFirstFault}
use Rattle.log_streams.specs.Stores.{IsCutText, IsCutOf}
use Rattle.log_streams.proofs.Lifted.{streams_to, some_streams}
use Rattle.log_streams.proofs.Writing.{joined_writes, fault_writes, first_cause, own_cause}
use Rattle.log_streams.proofs.stores.cut_streams.Goals as goal

pub returns-in_err-store-clause-written : goal.returns-in_err-store-clause-written
returns-in_err-store-clause-written g c =
    let p = err_from_is_err_and c.from_residual.result c.from_residual.ensures.1 in
    rw (p.1, p.2) (fault_writes (Unit {0}) (λ x. x) c.guest.result (map g.R.Source.left c.args.readers.now) (λ streams. IsCutOf c.args.image.now streams)
    c.in_err-store.field-0.0 _ _ (λ is. is) c.in_err-store.ensures.fault)

pub returns-in_err-store-clause-fault : goal.returns-in_err-store-clause-fault
returns-in_err-store-clause-fault g c =
    let p = err_from_is_err_and c.from_residual.result c.from_residual.ensures.1 in
    rw (p.1, p.2) (streams_to _ _ (map g.R.Source.left c.args.readers.now)
    (λ streams first. first_cause c.args.image.now streams c.in_err-store.field-0.0
    (subst (λ (x : GuestParts). IsFirstFault 0 x streams c.in_err-store.field-0.0) c.guest.ensures first)) c.in_err-store.ensures.fault)

pub returns-clause-written : goal.returns-clause-written
returns-clause-written g c =
    joined_writes Write c.args.image.now c.guest.result (map g.R.Source.left c.args.readers.now) c.in_ok-store.store (IsCutText c.in_ok-store.store)
    (λ streams. IsCutOf c.args.image.now streams) c.write_cut.result _ _ _ _ c.guest.ensures c.in_ok-store.ensures.ok
    (λ streams text j is. (c.in_ok-store.store, j, is)) c.write_cut.ensures.written

pub returns-clause-fault : goal.returns-clause-fault
returns-clause-fault g c =
    IfErr-weaker c.write_cut.result (λ fault. (fault ≡ Write) ⊎ (fault ≡ Memory)) _
    (λ fault is. some_streams _ (map g.R.Source.left c.args.readers.now) (λ streams. own_cause c.args.image.now streams fault is)) c.write_cut.ensures.fault
