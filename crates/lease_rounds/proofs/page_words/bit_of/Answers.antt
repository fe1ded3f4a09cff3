use Rattle.lease_rounds.proofs.Masks.{bit_of}
use Rattle.lease_rounds.proofs.page_words.bit_of.Goals as goal

pub returns : goal.returns
returns c = bit_of c.number.ensures.value c.from.ensures c.wrapping_shl.ensures
