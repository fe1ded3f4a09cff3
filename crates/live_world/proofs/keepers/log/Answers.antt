use Rattle.std.proofs.Common.{sym, subst, ◌∙◌}
use Rattle.stations.specs.Acts.{Does}
use Rattle.stations.specs.Stations.{IsNotLogged, logging}
use Rattle.live_world.specs.Shelves.{ShelfView}
use Rattle.live_world.specs.machinery.Passing.{Tells}
use Rattle.live_world.proofs.Calling.{has_logged, logs_not, with_files}
use Rattle.live_world.proofs.keepers.log.Goals as goal

pub returns-in-Ok-clause-logged : goal.returns-in-Ok-clause-logged
returns-in-Ok-clause-logged c =
    let files = c.log_and_acknowledge.new.files in
    let st = c.in-Some.station in
    let acts = c.in-Ok.ensures.acts in
    has_logged c.args.site.now (with_files files c.take.new.self) c.leave.new.site st c.in-Ok.station c.in-Ok.said acts.0
    (sym c.take.ensures.value ∙ c.in-Some.is)
    (subst (λ (old : ShelfView). Does (Tells old) (Tells files) (logging st.fresh acts.0)) c.plan.ensures acts.1)
    acts.2 c.in-Ok.ensures.store c.in-Ok.ensures.says c.leave.ensures

pub returns-in-Err-clause-refused : goal.returns-in-Err-clause-refused
returns-in-Err-clause-refused c =
    let files = c.log_and_acknowledge.new.files in
    let st = c.in-Some.station in
    logs_not c.args.site.now (with_files files c.take.new.self) c.leave-in-Err.new.site st c.in-Err.fault
    (sym c.take.ensures.value ∙ c.in-Some.is)
    (subst (λ (old : ShelfView). IsNotLogged st.fresh (Tells old) (Tells files) c.in-Err.fault) c.plan.ensures c.in-Err.ensures.failed)
    c.leave-in-Err.ensures
