use Rattle.std.proofs.Common.{sym}
use Rattle.moments.proofs.Parts.{readable}
use Rattle.moments.proofs.ram.SharedRamPages.can_read.Goals as goal

pub returns : goal.returns
returns c = sym (readable c.args.self.now.parts.items c.args._page c.requires)
