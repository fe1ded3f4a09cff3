use Rattle.std.proofs.Common.{arith}
use Rattle.rv32_hart.proofs.ram_page.byte_page.Goals as goal

pub returns : goal.returns
returns c = λ lt. record { base = omega (arith, lt); page = omega (arith, lt); aligned = omega (arith, lt) }
