use Rattle.std.proofs.Common.{◌≡◌, ◌-◌, refl, arith}
use Rattle.ft_types.proofs.Texts.{word_pairs}
use Rattle.ft_types.proofs.text_before.put_word_before.Goals as goal

pub returns-clause-written : goal.returns-clause-written
returns-clause-written c =
    let end = c.args.end in
    let a : end - 8 ≡ end - 6 - 2 = omega arith in
    let b : end - 6 ≡ end - 4 - 2 = omega arith in
    let d : end - 4 ≡ end - 2 - 2 = omega arith in
    rw (
      a,
      c.put_byte_before-4.ensures,
      b,
      c.put_byte_before-3.ensures,
      d,
      c.put_byte_before-2.ensures,
      c.put_byte_before.ensures,
      word_pairs c.args.value (omega arith),
    ) refl
