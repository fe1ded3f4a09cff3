use Rattle.std.proofs.Common.{◌≡◌, ◌/◌, ◌%◌, ◌^◌, ◌∙◌, ap, arith, eqb}
use Rattle.rv32_isa.specs.Decode.{amo_of}
use Rattle.rv32_isa.proofs.Rows.{with_kind-some, eqb-from_bool, from_bool-below}
use Rattle.rv32_isa.proofs.encoding.amo_word.Goals as goal

pub returns-clause-row : goal.returns-clause-row
returns-clause-row c =
    let kind : c.r_word.result / 2 ^ 27 ≡ c.code_of_amo.result = omega (arith, from_bool-below c.args.acquire, from_bool-below c.args.release) in
    let acquire : eqb (c.r_word.result / 2 ^ 26 % 2) 1 ≡ c.args.acquire = eqb-from_bool _ c.args.acquire (omega (
      arith,
      from_bool-below c.args.acquire,
      from_bool-below c.args.release,
    )) in
    let release : eqb (c.r_word.result / 2 ^ 25 % 2) 1 ≡ c.args.release = eqb-from_bool _ c.args.release (omega (
      arith,
      from_bool-below c.args.acquire,
      from_bool-below c.args.release,
    )) in
    rw c.r_word.ensures.funct3 (with_kind-some _ _ _ _ (ap amo_of kind ∙ c.code_of_amo.ensures.again) (cc))
