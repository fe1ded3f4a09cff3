use Rattle.std.proofs.Common.{arith, ◌<◌, length}
use Rattle.guest_image.proofs.MachineFacts.{first_on, rest_on}
use Rattle.guest_image.proofs.machine.+catch_up_harts.Goals as goal

pub add_later_outputs-requires : goal.add_later_outputs-requires
add_later_outputs-requires t c =
    (first_on c.args.harts.now c.args.others.now c.in-Some.hart.now c.in-Some-split_first.other.now c.in-Some.harts.now c.in-Some-split_first.others.now
    c.in-Some.ensures.cases.0 c.in-Some-split_first.ensures.cases.0 c.requires.steps).outputs

pub has_stayed-requires : goal.has_stayed-requires
has_stayed-requires t c =
    first_on c.args.harts.now c.args.others.now c.in-Some.hart.now c.in-Some-split_first.other.now c.in-Some.harts.now c.in-Some-split_first.others.now
    c.in-Some.ensures.cases.0 c.in-Some-split_first.ensures.cases.0 c.requires.steps

pub catch_up_harts-requires : goal.catch_up_harts-requires
catch_up_harts-requires t c =
    let fewer : length c.in-Some.harts.now < t = omega (arith, c.in-Some.ensures.cases.1, c.decreases) in (
      fewer,
      rest_on c.args.harts.now c.args.others.now c.in-Some.hart.now c.in-Some-split_first.other.now c.in-Some.harts.now c.in-Some-split_first.others.now
          c.in-Some.ensures.cases.0 c.in-Some-split_first.ensures.cases.0 c.requires.harts c.requires.steps,
    )

pub catch_up_harts-requires-2 : goal.catch_up_harts-requires-2
catch_up_harts-requires-2 t c =
    let fewer : length c.in-Some.harts.now < t = omega (arith, c.in-Some.ensures.cases.1, c.decreases) in (
      fewer,
      rest_on c.args.harts.now c.args.others.now c.in-Some.hart.now c.in-Some-split_first.other.now c.in-Some.harts.now c.in-Some-split_first.others.now
          c.in-Some.ensures.cases.0 c.in-Some-split_first.ensures.cases.0 c.requires.harts c.requires.steps,
    )
