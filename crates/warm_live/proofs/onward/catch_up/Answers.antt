use Rattle.std.proofs.Common.{◌≡◌, length, map, ap, subst, inl, inr, arith}
use Rattle.std.proofs.lemmas.Result.{err_from_is_err_and}
use Rattle.std.proofs.lemmas.List.{take_all}
use Rattle.log_join.specs.Stores.{StoreView, IsStore}
use Rattle.guest_image.specs.Image.{ImageContents, guest_of}
use Rattle.hart_replay.specs.KeepingUp.{IsFaultOfStore}
use Rattle.warm_backup.specs.Backups.{BackupView}
use Rattle.warm_live.proofs.Caught.{has_caught, joined_first, no_machine}
use Rattle.warm_live.proofs.onward.catch_up.Goals as goal

pub returns-in_err-advance-clause-fault : goal.returns-in_err-advance-clause-fault
returns-in_err-advance-clause-fault c =
    let old = c.args.backup.now in
    let mid = c.join_all.new.backup in
    let fault = c.in_err-advance.field-0.0 in
    let stores = map (λ s. s.1.now) c.args.stores.now in
    let image : mid.image ≡ old.image = ap (λ (b : BackupView). b.image) c.join_all.ensures.rest in
    let p = err_from_is_err_and c.from_residual-in_err-advance.result c.from_residual-in_err-advance.ensures.1 in
    rw (p.1, p.2)
    (λ ne. (
      mid.store,
      joined_first (guest_of old.image) old.store stores mid.store c.image-own.ensures.guest c.in_ok-join_all.ensures.joined,
      elim c.in_err-advance.ensures.fault [
        | inl memory ↦ absurd (ne memory)
        | inr has ↦ no_machine old.image mid.store fault (subst (λ (s : StoreView). IsStore s) c.store.ensures c.guest-rules.ensures.rules)
            (subst (λ (i : ImageContents). IsFaultOfStore i mid.store fault) image has) ne
      ],
    ))

pub returns-in_err-advance-clause-some : goal.returns-in_err-advance-clause-some
returns-in_err-advance-clause-some c =
    let stores = map (λ s. s.1.now) c.args.stores.now in
    let p = err_from_is_err_and c.from_residual-in_err-advance.result c.from_residual-in_err-advance.ensures.1 in
    rw p.1 (length stores, rw (c.advance.ensures.store, take_all (length stores) stores (omega arith)) c.in_ok-join_all.ensures.joined)

pub returns-clause-caught : goal.returns-clause-caught
returns-clause-caught c =
    has_caught c.args.backup.now c.join_all.new.backup c.advance.new.self (map (λ s. s.1.now) c.args.stores.now) c.image-own.ensures.guest
    c.join_all.ensures.rest c.in_ok-join_all.ensures.joined (subst (λ (s : StoreView). IsStore s) c.store.ensures c.guest-rules.ensures.rules)
    c.advance.ensures.image c.advance.ensures.store c.in_ok-advance.ensures.position c.in_ok-advance.ensures.harts c.in_ok-advance.ensures.planned
    c.machine-planned.ensures.plan c.in_ok-advance.ensures.outcome c.in_ok-advance.ensures.steps_on c.in_ok-advance.ensures.steps_anew
