use Rattle.ft_types.proofs.Texts.{pairs_at}
use Rattle.ft_types.proofs.text.byte_text.Goals as goal

pub returns : goal.returns
returns c = pairs_at c.args.byte c.requires
