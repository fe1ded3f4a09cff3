use Rattle.std.proofs.Common.{◌≡◌, ℕ, List, [], map, take, Vec, Global, sym, subst}
use Rattle.std.proofs.lemmas.Result.{err_from_is_err_and}
use Rattle.log_mending.specs.Mending.{IsFilled}
use Rattle.log_mending.proofs.Filled.{all_gathered, fills_none, is_none, mended, not_mended, unfit_own}
use Rattle.log_mending.proofs.mending.plan_for.Goals as goal

pub returns-in-Some-clause-fault : goal.returns-in-Some-clause-fault
returns-in-Some-clause-fault c =
    let read = c.in_ok-frames.field-0 in
    let all = c.in_ok-store.field-0 in (
      read.frames.items,
      (read.size, read.fault, c.in_ok-frames.ensures.front),
      unfit_own c.args.guest read.frames.items all.taken all.misfit c.in-Some.misfit all.store c.in-Some.is c.in_ok-store.ensures,
    )

pub returns-in_err-add_logs-clause-fault : goal.returns-in_err-add_logs-clause-fault
returns-in_err-add_logs-clause-fault c =
    let read = c.in_ok-frames.field-0 in
    let all = c.in_ok-store.field-0 in
    let log = c.args.log.now in
    let nothing : IsFilled c.args.guest (take read.size log) read.frames.items [] c.new.result.items all.store =
    subst (λ (bytes : List ℕ). IsFilled c.args.guest (take read.size log) read.frames.items [] bytes all.store) (sym c.new.ensures.items)
    (fills_none c.args.guest (take read.size log) read.frames.items all.store c.in_ok-frames.ensures.front.splits
    (all_gathered c.args.guest read.frames.items all.taken all.misfit all.store (is_none all.misfit c.in_default.not-Some) c.in_ok-store.ensures)) in
    let p = err_from_is_err_and c.from_residual-in_err-add_logs.result c.from_residual-in_err-add_logs.ensures.1 in
    rw (p.1, p.2) (not_mended c.args.guest log (map (λ (l : Vec ℕ Global). l.items) c.args.others.now) read.frames.items c.in_err-add_logs.field-0.0
    (read.size, read.fault, c.in_ok-frames.ensures.front) (c.in_err-add_logs.ensures.fault c.args.guest (take read.size log) read.frames.items nothing))

pub returns-clause-mended : goal.returns-clause-mended
returns-clause-mended c =
    let read = c.in_ok-frames.field-0 in
    let all = c.in_ok-store.field-0 in
    let log = c.args.log.now in
    let new = c.add_logs.new.self in
    let nothing : IsFilled c.args.guest (take read.size log) read.frames.items [] c.new.result.items all.store =
    subst (λ (bytes : List ℕ). IsFilled c.args.guest (take read.size log) read.frames.items [] bytes all.store) (sym c.new.ensures.items)
    (fills_none c.args.guest (take read.size log) read.frames.items all.store c.in_ok-frames.ensures.front.splits
    (all_gathered c.args.guest read.frames.items all.taken all.misfit all.store (is_none all.misfit c.in_default.not-Some) c.in_ok-store.ensures)) in
    let r = c.in_ok-add_logs.ensures.filled c.args.guest (take read.size log) read.frames.items nothing in
    mended c.args.guest log c.split_at.result.1.now (map (λ (l : Vec ℕ Global). l.items) c.args.others.now) read.frames.items read.size read.fault r.0
    new.fresh.items new.store c.in_ok-frames.ensures.front c.split_at.ensures.back (c.in_ok-has_frames.ensures.none c.if-branch.false) r.1 r.2
