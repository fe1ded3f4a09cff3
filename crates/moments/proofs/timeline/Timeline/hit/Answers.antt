use Rattle.std.proofs.Common.{◌+◌}
use Rattle.moments.specs.Points.{WatchesAt, HitsAt, IsOne, NoneFrom}
use Rattle.moments.proofs.Lines.{if_some, if_none}
use Rattle.moments.proofs.Stopping.{broken_hits, watched_hits, none_hits}
use Rattle.moments.proofs.timeline.Timeline.hit.Goals as goal

pub returns-in-Some-clause-some : goal.returns-in-Some-clause-some
returns-in-Some-clause-some c =
    broken_hits c.args.points.now c.args.self.now c.args.self.now.stands.moment c.in-Some.number c.in-Some.ensures.some

pub returns-in-None-clause-some : goal.returns-in-None-clause-some
returns-in-None-clause-some c =
    let v = c.args.self.now in
    if_some (IsOne WatchesAt c.args.points.now v v.stands.moment) (IsOne HitsAt c.args.points.now v v.stands.moment) c.watched.result
    (λ number one. watched_hits c.args.points.now v v.stands.moment number one) c.watched.ensures.some

pub returns-in-None-clause-none : goal.returns-in-None-clause-none
returns-in-None-clause-none c =
    let v = c.args.self.now in
    if_none (NoneFrom WatchesAt c.args.points.now v v.stands.moment (v.stands.moment + 1))
    (NoneFrom HitsAt c.args.points.now v v.stands.moment (v.stands.moment + 1)) c.watched.result
    (λ none. none_hits c.args.points.now v v.stands.moment (v.stands.moment + 1) c.in-None.ensures.none none) c.watched.ensures.none
