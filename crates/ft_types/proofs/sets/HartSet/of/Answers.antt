use Rattle.std.proofs.Common.{◌↔◌, ◌≡◌, ◌<◌, ◌^◌, ℕ, subst, sym, w32}
use Rattle.std.proofs.Math.Pow.{pow-lt}
use Rattle.ft_types.specs.machinery.Flags.{flags_of}
use Rattle.ft_types.specs.Sets.{IsMember}
use Rattle.ft_types.proofs.FlagBits.{flag_of_one}
use Rattle.ft_types.proofs.sets.HartSet.of.Goals as goal

pub invariant_of-result : goal.invariant_of-result
invariant_of-result c = rw c.bit_of.ensures.is (pow-lt c.bit_of.ensures.within)

pub returns : goal.returns
returns c n =
    subst (λ (bit : ℕ). IsMember (flags_of 32 bit) n ↔ (n ≡ c.args.hart)) (sym c.bit_of.ensures.is)
    (flag_of_one w32 c.args.hart n c.bit_of.ensures.within)
