use Rattle.hart_replay.proofs.honesty.Replays.{replays_history}
use Rattle.hart_threads.proofs.replays.replay.Goals as goal

pub returns-clause-history : goal.returns-clause-history
returns-clause-history g c =
    rw c.legs.ensures.legs at (replays_history c.args.image.now c.legs.result.now c.replay_legs.result c.replay_legs.ensures.ok c.replay_legs.ensures.fault)
