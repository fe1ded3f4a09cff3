use Rattle.std.proofs.Common.{sym, ◌∙◌}
use Rattle.live_keeper.proofs.Turning.{turned_logged, turned_unlogged}
use Rattle.live_keeper.proofs.turns.Keeping.go_on.Goals as goal

pub returns-then-not-logged-clause-turns : goal.returns-then-not-logged-clause-turns
returns-then-not-logged-clause-turns g c =
    turned_unlogged c.args.came.items (g.F.KeeperFiles.acts c.args.files.now) c.args.self c.take_all.new.self c.args.deeds.now.items
    c.take_all.new.deeds.items (sym c.in_ok-logged.ensures.logged ∙ c.if-not-logged.true) c.in_ok-logged.ensures.taken c.in_ok-logged.ensures.passed

pub returns-clause-turns : goal.returns-clause-turns
returns-clause-turns g c =
    turned_logged c.args.came.items (g.F.KeeperFiles.acts c.args.files.now) (g.F.KeeperFiles.acts c.log.new.files) c.args.self c.take_all.new.self
    c.in_ok-keeping.keeping c.in_ok-keeping.said c.args.deeds.now.items c.take_all.new.deeds.items c.say.new.deeds.items
    (sym c.in_ok-logged.ensures.logged ∙ c.if-not-logged.false) c.in_ok-logged.ensures.taken c.in_ok-logged.ensures.passed c.in_ok-keeping.ensures.logged
    c.in_ok-keeping.ensures.rest c.in_ok-say.ensures.said
