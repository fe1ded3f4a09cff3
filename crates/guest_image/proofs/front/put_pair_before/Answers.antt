use Rattle.std.proofs.Common.{◌-◌, arith}
use Rattle.ft_types.proofs.Texts.{two_put}
use Rattle.guest_image.proofs.FrontFacts.{pairs_at}
use Rattle.guest_image.proofs.front.put_pair_before.Goals as goal

pub returns-clause-written : goal.returns-clause-written
returns-clause-written c =
    let end = c.args.end in
    let p = pairs_at c.args.number c.requires.number in
    rw (p.0, p.1) (two_put c.args.bytes.now (end - 2) (end - 1) end _ _ (omega arith) (omega arith) c.requires.end)
