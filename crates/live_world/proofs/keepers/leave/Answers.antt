use Rattle.std.proofs.Common.{true, false, sym, ap, ◌∙◌}
use Rattle.live_world.specs.Passages.{Begins}
use Rattle.live_world.specs.Shelves.{ShelfView}
use Rattle.live_world.proofs.Calling.{at_rest, with_files}
use Rattle.live_world.proofs.Telling.{besides_pass}
use Rattle.live_world.proofs.keepers.leave.Goals as goal
use Rattle.live_world.proofs.keepers.leave.Goals.{then-crashed, else-crashed}

pub returns : goal.returns
returns c =
    let files = c.end_plan.new.self in
    let left = c.if-crashed.left in
    let ends = ap (λ (f : ShelfView). with_files f left) c.end_call-crashed.ensures.rest in
    record {
      files = files;
      passes = besides_pass Begins c.end_plan.ensures;
      rest = elim c.if-crashed.branch [
        | then-crashed w ↦ ends ∙ at_rest true files c.args.station left (sym c.end_call-crashed.ensures.crashed ∙ w.if-crashed.true) w.left-is
        | else-crashed w ↦ ends ∙ at_rest false files c.args.station left (sym c.end_call-crashed.ensures.crashed ∙ w.if-crashed.false) w.left-is
      ];
    }
