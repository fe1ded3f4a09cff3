use Rattle.std.proofs.Common.{◌≡◌, arith}
use Rattle.scripts.proofs.Cuts.{other_number}
use Rattle.scripts.proofs.fields.read_small.Goals as goal

pub returns-else-number-lt-COUNT_LIMIT-clause-none : goal.returns-else-number-lt-COUNT_LIMIT-clause-none
returns-else-number-lt-COUNT_LIMIT-clause-none c n small e =
    let same : c.in_ok-number.number ≡ n = other_number c.args.text.now c.in_ok-number.number n c.in_ok-number.ensures.found small e in
    omega arith
