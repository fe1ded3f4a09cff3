use Rattle.std.proofs.Common.{arith}
use Rattle.std.specs.List.{AllByRecursion}
use Rattle.ft_types.specs.Counts.{IsCount}
use Rattle.go_live.proofs.Places.{opening_fits}
use Rattle.go_live.proofs.live.opening_of.Goals as goal

pub unwrap-requires : goal.unwrap-requires
unwrap-requires c =
    let counts : AllByRecursion IsCount c.args.position.now.counts = rw (c.as_slice-counts.ensures.value) at c.as_slice-counts.ensures.counts in
    c.new.ensures.exact.1
    (opening_fits c.args.guest c.args.term c.args.position.now c.harts-rules.ensures.rules (omega arith) c.requires.harts c.requires.later counts
    c.requires.boot)
