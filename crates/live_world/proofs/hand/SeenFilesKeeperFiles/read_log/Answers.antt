use Rattle.std.proofs.Common.{ℕ, Vec, Global, ap, ◌∙◌}
use Rattle.live_world.proofs.Seeing.{tells_seen}
use Rattle.live_world.proofs.hand.SeenFilesKeeperFiles.read_log.Goals as goal

pub returns-clause-ok : goal.returns-clause-ok
returns-clause-ok c =
    tells_seen _ _ _ _ (ap (λ (v : Vec ℕ Global). v.items) c.replace.ensures.value, ap (λ (v : Vec ℕ Global). v.items) c.replace.ensures.after ∙ c.new.ensures.items)
