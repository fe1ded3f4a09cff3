use Rattle.std.proofs.lemmas.Nat.{or_lt}
use Rattle.std.proofs.Math.Pow.{pow-lt}
use Rattle.std.proofs.Common.{◌<◌, ◌^◌, arith}
use Rattle.ft_types.specs.machinery.Flags.{length-flags_of}
use Rattle.ft_types.proofs.FlagBits.{flag_added}
use Rattle.ft_types.proofs.sets.HartSet.with.Goals as goal

pub invariant_of-result : goal.invariant_of-result
invariant_of-result c =
    let small : c.bit_of.result < 2 ^ 32 = rw c.bit_of.ensures.is (pow-lt c.bit_of.ensures.within) in
    or_lt 32 c.self.inside.members c.bit_of.result c.self.invariant small

pub returns-clause-value : goal.returns-clause-value
returns-clause-value c = rw (← c.self.view_is) (flag_added c.self.inside.members c.args.hart c.bit_of.result c.bit_of.ensures)

pub returns-clause-row : goal.returns-clause-row
returns-clause-row c = rw (← c.self.view_is) (omega (arith, length-flags_of 32 c.self.inside.members, c.bit_of.ensures.within))
