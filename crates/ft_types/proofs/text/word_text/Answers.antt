use Rattle.std.proofs.Common.{sym, arith}
use Rattle.ft_types.proofs.Texts.{word_pairs}
use Rattle.ft_types.proofs.text.word_text.Goals as goal

pub returns : goal.returns
returns c =
    rw (
      c.byte_text-first.ensures.0,
      c.byte_text-first.ensures.1,
      c.byte_text-second.ensures.0,
      c.byte_text-second.ensures.1,
      c.byte_text-third.ensures.0,
      c.byte_text-third.ensures.1,
      c.byte_text-last.ensures.0,
      c.byte_text-last.ensures.1,
    ) (sym (word_pairs c.args.value (omega arith)))
