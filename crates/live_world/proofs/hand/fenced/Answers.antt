use Rattle.std.proofs.Common.{ℕ, ◌<◌, ◌≤◌, ◌+◌, [], ◌∷◌, subst}
use Rattle.stations.specs.Acts.{SawFence, Fenced}
use Rattle.stations.specs.declared.reach.TheConstants.{TERM_REACH}
use Rattle.live_world.proofs.Seeing.{was_seen, not_fenced_off}
use Rattle.live_world.proofs.hand.fenced.Goals as goal

pub returns-in-Ok-clause-log : goal.returns-in-Ok-clause-log
returns-in-Ok-clause-log c =
    let fenced = c.in-Ok.ensures.fenced in
    (was_seen c.args.last c.in-Ok.fenced.files.last c.args.log.items c.in-Ok.fenced.files.log.items (SawFence fenced.0 ∷ Fenced c.args.term ∷ []) fenced.3).left.1

pub returns-in-Ok-clause-above : goal.returns-in-Ok-clause-above
returns-in-Ok-clause-above c =
    let fenced = c.in-Ok.ensures.fenced in
    let seen =
    was_seen c.args.last c.in-Ok.fenced.files.last c.args.log.items c.in-Ok.fenced.files.log.items (SawFence fenced.0 ∷ Fenced c.args.term ∷ []) fenced.3 in
    subst (λ (n : ℕ). n < c.args.term) seen.left.0 fenced.1

pub returns-in-Ok-clause-in_reach : goal.returns-in-Ok-clause-in_reach
returns-in-Ok-clause-in_reach c =
    let fenced = c.in-Ok.ensures.fenced in
    let seen =
    was_seen c.args.last c.in-Ok.fenced.files.last c.args.log.items c.in-Ok.fenced.files.log.items (SawFence fenced.0 ∷ Fenced c.args.term ∷ []) fenced.3 in
    subst (λ (n : ℕ). c.args.term ≤ n + TERM_REACH) seen.left.0 fenced.2

pub returns-in-Err-clause-refused : goal.returns-in-Err-clause-refused
returns-in-Err-clause-refused c =
    not_fenced_off c.args.last c.in-Err.refused.files.last c.args.term c.args.log.items c.in-Err.refused.files.log.items c.in-Err.refused.fault
    c.in-Err.ensures.refused
