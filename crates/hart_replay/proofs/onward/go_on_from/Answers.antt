use Rattle.std.proofs.Common.{◌≡◌}
use Rattle.hart_replay.proofs.Fronts.{front_of}
use Rattle.hart_replay.proofs.onward.go_on_from.Goals as goal

pub returns-else-begin_legs : goal.returns-else-begin_legs
returns-else-begin_legs c = (
  λ e. let f = c.if-begin_legs.false in cc,
  λ on. c.begin_legs.ensures.1 (front_of c.args.old.now c.args.new.now on),
)
