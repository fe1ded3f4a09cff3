use Rattle.std.proofs.Common.{ap, ◌∙◌}
use Rattle.live_world.specs.Shelves.{ShelfView}
use Rattle.live_world.proofs.Telling.{tells}
use Rattle.live_world.proofs.Filing.{does_turn, failed, if_err, saw_log}
use Rattle.live_world.proofs.files.MemoryFilesKeeperFiles.read_log.Goals as goal

pub returns-in-Fails-clause-failed : goal.returns-in-Fails-clause-failed
returns-in-Fails-clause-failed c = tells c.come_to_turn.ensures.besides (failed _ _)

pub returns-clause-ok : goal.returns-clause-ok
returns-clause-ok c =
    let lives = c.come_to_turn.ensures.does (does_turn _ c.in_default.not-Fails) in
    tells c.come_to_turn.ensures.besides (saw_log _ _ lives (c.in_ok-read.ensures ∙ ap (λ (x : ShelfView). x.files.log) c.self.view_is))

pub returns-in_err-read-clause-failed : goal.returns-in_err-read-clause-failed
returns-in_err-read-clause-failed c = if_err _ _ (λ fault. tells c.come_to_turn.ensures.besides (failed _ fault))
