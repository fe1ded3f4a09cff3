use Rattle.std.proofs.Common.{inr, arith}
use Rattle.debugging.proofs.Showing.{byte_at, none_at}
use Rattle.debugging.proofs.memory.byte_behind.Goals as goal

pub returns-in_err-address-clause-none : goal.returns-in_err-address-clause-none
returns-in_err-address-clause-none c = rw c.from_residual.ensures (inr (omega (arith, c.in_err-address.ensures)))

pub returns-clause-byte : goal.returns-clause-byte
returns-clause-byte c = byte_at _ c.byte.result c.in_ok-address.address _ c.in_ok-address.ensures.1 c.byte.ensures.byte

pub returns-clause-none : goal.returns-clause-none
returns-clause-none c = none_at _ c.byte.result c.in_ok-address.address _ c.in_ok-address.ensures.1 c.byte.ensures.none
