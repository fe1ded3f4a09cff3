use Rattle.std.proofs.Common.{rules}
use Rattle.live_primary.proofs.outset.set_out.Goals as goal

pub returns-clause-live : goal.returns-clause-live
returns-clause-live g c =
    let of_pair = c.in_ok-logs.ensures in
    let live = c.in_ok-leader.ensures.live in
    record {
      image = c.in_ok-image.image;
      logs = c.in_ok-logs.logs.items;
      pair = of_pair.0;
      quorum_is = of_pair.1;
      of_pair = search rules;
      given = live.0;
      are = search rules;
      live = search rules;
      first = search rules;
    }
