use Rattle.stations.proofs.Held.{takes_one}
use Rattle.stations.proofs.station.KeeperStation.take.Goals as goal

pub returns-in_ok-take_new-clause-log : goal.returns-in_ok-take_new-clause-log
returns-in_ok-take_new-clause-log c = λ log on.
    takes_one log c.args.frame c.args.self.now c.take_new.new.self c.in_ok-take_new.ensures.joined c.in_ok-take_new.ensures.fresh
    c.in_ok-take_new.ensures.one on
