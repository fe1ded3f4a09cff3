use Rattle.std.proofs.Common.{◌-◌, ◌∙◌, refl, arith}
use Rattle.ft_types.proofs.Texts.{two_put}
use Rattle.ft_types.proofs.text_before.put_byte_before.Goals as goal

pub returns : goal.returns
returns c =
    let end = c.args.end in
    let digits = c.byte_text-high.result in
    two_put c.args.bytes.now (end - 2) (end - 1) end digits.0 digits.1 (omega arith) (omega arith) c.requires.end
    ∙ rw (c.byte_text-high.ensures.0, c.byte_text-high.ensures.1) refl
