use Rattle.std.proofs.Common.{◌≡◌, ℕ, List, [], map, Vec, Global, sym, subst, refl}
use Rattle.std.proofs.lemmas.Result.{err_from_is_err_and}
use Rattle.fragment_codec.specs.Streams.{Splits}
use Rattle.log_join.specs.Coming.{IsJoinOf}
use Rattle.log_mending.specs.Mending.{IsFilled}
use Rattle.log_mending.proofs.Filled.{fills_nothing, whole_log}
use Rattle.log_mending.proofs.mending.gather_all.Goals as goal

pub returns-in_err-add_logs-clause-fault : goal.returns-in_err-add_logs-clause-fault
returns-in_err-add_logs-clause-fault c =
    let p = err_from_is_err_and c.from_residual.result c.from_residual.ensures.1 in
    rw (p.1, p.2) (c.in_err-add_logs.ensures.fault c.args.guest [] [] (fills_nothing c.args.guest c.new-2.result.items c.new.result c.new-2.ensures.items c.new.ensures))

pub returns-clause-whole : goal.returns-clause-whole
returns-clause-whole c =
    let new = c.add_logs.new.self in
    let r = c.in_ok-add_logs.ensures.filled c.args.guest [] [] (fills_nothing c.args.guest c.new-2.result.items c.new.result c.new-2.ensures.items c.new.ensures) in
    whole_log c.args.guest (map (λ (l : Vec ℕ Global). l.items) c.args.others.now) r.0 new.fresh.items new.store r.1 r.2
