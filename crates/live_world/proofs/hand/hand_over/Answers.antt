use Rattle.std.proofs.Common.{ℕ, List, refl, subst}
use Rattle.live_world.specs.Hands.{IsNotRead}
use Rattle.live_world.proofs.Seeing.{has_handed_as, not_read}
use Rattle.live_world.proofs.hand.hand_over.Goals as goal

pub returns-in-Ok-hand_over-clause-handed : goal.returns-in-Ok-hand_over-clause-handed
returns-in-Ok-hand_over-clause-handed c =
    let handed = c.in-Ok-hand_over.ensures.handed in
    let over = c.in-Ok-hand_over.field-0 in
    has_handed_as c.args.guest.now c.args.keeper c.in-Ok.fenced.files.last over.files.last c.in-Ok.fenced.term c.args.read.put.term
    c.in-Ok.fenced.files.log.items c.args.read.log.items over.files.log.items handed.0
    (record { keeper = c.args.keeper; term = c.args.read.put.term; bytes = over.bytes }) c.in-Ok.ensures.log c.in-Ok.ensures.term handed.1 handed.2 refl refl

pub returns-clause-refused : goal.returns-clause-refused
returns-clause-refused c =
    let refused = c.in-Err-hand_over.refused in
    subst (λ (log : List ℕ). IsNotRead c.args.guest.now (record { term = c.args.read.put.term; log = log }) refused.fault) c.in-Ok.ensures.log
    (not_read c.args.guest.now c.in-Ok.fenced.files.last refused.files.last c.args.read.put.term c.in-Ok.fenced.files.log.items refused.files.log.items
    refused.fault c.in-Err-hand_over.ensures.fault)
