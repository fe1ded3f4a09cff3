use Rattle.std.proofs.Common.{◌≡◌, ◌≤◌, ◌⊎◌, ℕ, List, true, replicate, None, ap, subst, ◌∙◌, arith}
use Rattle.ft_types.specs.Counts.{count_at}
use Rattle.ft_types.specs.declared.names.TheConstants.{HART_ROW}
use Rattle.guest_image.specs.Machine.{MachineState}
use Rattle.hart_lease.specs.Runs.{counts_of}
use Rattle.book_modes.specs.Recordings.{RecordingView}
use Rattle.page_book.specs.Books.{BookView}
use Rattle.lease_rounds.specs.machinery.SoFar.{IsRestOf}
use Rattle.lease_rounds.proofs.Offered.{offered_on}
use Rattle.hart_threads.proofs.Picking.{ended_rest, limited_rest, machine_stays, offered_stays, rest_goes_on}
use Rattle.hart_threads.proofs.runs.finish.Goals as goal

pub returns : goal.returns
returns c =
    let a = c.args.book in
    let d = c.limit_at.new.self in
    let b = c.in_ok-run_plain.field-0 in
    let p = c.in_ok-run_plain.ensures in
    let rest : IsRestOf a d =
    limited_rest a c.reclaim.new.self d (replicate HART_ROW None) c.args.budget c.reclaim.ensures.book
    (ended_rest a.machine a.leases HART_ROW a.mode c.reclaim.new.self.mode c.reclaim.ensures.mode) c.limit_at.ensures in
    let limits = ap (λ (x : BookView RecordingView). x.mode.limits) c.limit_at.ensures in
    record {
      done = λ hart h there.
          subst (λ (l : List ℕ). (h.halted ≡ true) ⊎ (count_at l hart ≤ h.count)) (p.limits ∙ limits) (p.done hart h there);
      idle = p.idle;
      continues = rest_goes_on a d rest b p.continues;
      offered = offered_on a d b (offered_stays a d rest) p.offered;
      counts = λ hart.
          let same = ap (λ (m : MachineState). counts_of m hart) (machine_stays a d rest) in
          let limit = ap (λ (l : List ℕ). count_at l hart) limits in
          let rise = (p.counts hart).0 in
          let end = (p.counts hart).1 in
          (omega (arith, same, rise), omega (arith, same, limit, end, c.requires.below hart));
      limits = p.limits ∙ limits;
    }
