use Rattle.std.proofs.Common.{refl, sym}
use Rattle.std.proofs.lemmas.List.{take-append-drop}
use Rattle.live_world.proofs.Filing.{added_all, added_front, added_none, if_err, lives_as}
use Rattle.live_world.proofs.files.MemoryFilesKeeperFiles.add.Goals as goal

pub returns-in_ok-append-in-Does-clause-ok : goal.returns-in_ok-append-in-Does-clause-ok
returns-in_ok-append-in-Does-clause-ok c =
    added_all c.args.self.now c.come_to_turn.new.self c.append.new.self c.args.bytes.now c.come_to_turn.ensures.besides
    (c.come_to_turn.ensures.does c.in-Does.is) c.in_ok-append-in-Does.ensures.ok

pub returns-in_err-append-in-Does-clause-failed : goal.returns-in_err-append-in-Does-clause-failed
returns-in_err-append-in-Does-clause-failed c =
    if_err _ _ (added_none c.args.self.now c.come_to_turn.new.self c.append.new.self c.args.bytes.now c.come_to_turn.ensures.besides
    c.in_err-append-in-Does.ensures.err)

pub returns-then-self-clause-failed : goal.returns-then-self-clause-failed
returns-then-self-clause-failed c =
    added_none c.args.self.now c.come_to_turn.new.self c.come_to_turn.new.self c.args.bytes.now c.come_to_turn.ensures.besides refl _

pub returns-in_ok-append-in-Fails-clause-failed : goal.returns-in_ok-append-in-Fails-clause-failed
returns-in_ok-append-in-Fails-clause-failed c =
    added_front c.args.self.now c.come_to_turn.new.self c.append-in-Fails.new.self c.args.bytes.now _ _ c.come_to_turn.ensures.besides
    (sym (take-append-drop c.min.result c.args.bytes.now)) (lives_as _ _ (sym c.self-in-Fails.view_is) c.if-self.false)
    c.in_ok-append-in-Fails.ensures.ok _

pub returns-in_err-append-in-Fails-clause-failed : goal.returns-in_err-append-in-Fails-clause-failed
returns-in_err-append-in-Fails-clause-failed c =
    if_err _ _ (added_none c.args.self.now c.come_to_turn.new.self c.append-in-Fails.new.self c.args.bytes.now c.come_to_turn.ensures.besides
    c.in_err-append-in-Fails.ensures.err)
