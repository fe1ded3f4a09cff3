use Rattle.std.proofs.Common.{◌≡◌, ◌≤◌, ◌+◌, ℕ, length, sym, ap, subst, ◌∙◌, arith}
use Rattle.ft_types.specs.Counts.{count_at}
use Rattle.guest_image.specs.Machine.{MachineState}
use Rattle.hart_lease.specs.Runs.{LeadsTo}
use Rattle.lease_rounds.specs.Running.{Continues, GoWithin, GoesRoundFor, KeepsOffered}
use Rattle.page_book.specs.Books.{BookView}
use Rattle.page_book.specs.Tellings.{TellsOn}
use Rattle.book_modes.specs.Recordings.{RecordingView, heard_by}
use Rattle.hart_replay.specs.Primaries.{IsPrimary}
use Rattle.leading.specs.Rounds.{HasGoneOn, lease_steps, limited}
use Rattle.leading.proofs.Led.{settled, led}
use Rattle.leading.proofs.rounds.go_on.Goals as goal

pub limit_at-requires-2-clause-settled : goal.limit_at-requires-2-clause-settled
limit_at-requires-2-clause-settled c =
    settled c.in_ok-book.book.machine c.counts-now.result c.as_slice-counts.result.now c.no_limits.result c.harts-2.result c.counts-now.ensures.all
    c.as_slice-counts.ensures.value c.as_slice-counts.ensures.counts c.harts-2.ensures.value c.no_limits.ensures

pub returns-clause-on : goal.returns-clause-on
returns-clause-on c =
    let b : BookView RecordingView = c.args.primary.book in
    let d : BookView RecordingView = c.in_ok-book.book in
    let ran = c.in_ok-book.ensures in
    let end = c.round_end-end.result in
    let full = c.no_limits.result in
    let first = c.limit_at.ensures in
    let last = c.limit_at-2.ensures in
    let are = c.counts.ensures.all in
    let lease = c.lease_steps-lease.result in
    let lasts : lease ≡ lease_steps (length b.machine.harts) = c.lease_steps-lease.ensures.value ∙ ap lease_steps
    (c.harts.ensures.value ∙ ap (λ (m : MachineState). length m.harts) c.machine.ensures.value) in
    subst (λ (x : BookView RecordingView). HasGoneOn c.args.steps b x) (sym last)
    (led c.args.steps b d end full (subst (λ (x : BookView RecordingView). Continues x d) first ran.continues)
    (subst (λ (x : BookView RecordingView). TellsOn x d) first ran.tells) (subst (λ (x : BookView RecordingView). KeepsOffered x d) first ran.offered)
    (ran.notes ∙ ap (λ (x : BookView RecordingView). x.mode.notes) first)
    (subst (λ (n : ℕ). GoesRoundFor n (limited b end) d) lasts (subst (λ (x : BookView RecordingView). GoesRoundFor lease x d) first ran.rounds))
    (subst (λ (x : BookView RecordingView). GoWithin x d) first ran.counts) ran.idle ran.done
    (ran.limits ∙ ap (λ (x : BookView RecordingView). x.mode.limits) first)
    (λ hart. let most = c.round_end-end.ensures.end hart in let a = are hart in omega (arith, most, a))
    (λ hart inside. let many = c.counts.ensures.harts in let far = c.round_end-end.ensures.far hart (omega (arith, inside, many)) in
    let a = are hart in omega (arith, far, a))
    (settled d.machine c.counts-now.result c.as_slice-counts.result.now full c.harts-2.result c.counts-now.ensures.all c.as_slice-counts.ensures.value
    c.as_slice-counts.ensures.counts c.harts-2.ensures.value c.no_limits.ensures) c.tell_primary.ensures.leads
    (subst IsPrimary last c.tell_primary-2.ensures.primary)
    (subst (λ (x : BookView RecordingView). LeadsTo (heard_by x.mode) x.start x.journal x.machine) last c.tell_primary-2.ensures.leads))
