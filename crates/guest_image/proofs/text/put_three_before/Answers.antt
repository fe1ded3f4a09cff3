use Rattle.std.proofs.Common.{◌-◌, arith}
use Rattle.guest_image.proofs.TextFacts.{three_put}
use Rattle.guest_image.proofs.text.put_three_before.Goals as goal

pub returns-clause-written : goal.returns-clause-written
returns-clause-written c =
    let end = c.args.end in
    three_put c.args.block.now (end - 3) (end - 2) (end - 1) end c.args.first c.args.second c.args.third (omega arith) (omega arith) (omega arith) c.requires.end
