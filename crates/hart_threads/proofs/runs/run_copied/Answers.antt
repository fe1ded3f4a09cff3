use Rattle.std.proofs.Common.{◌≡◌, ℕ, List, ap, sym, subst, arith, refl}
use Rattle.guest_image.specs.Machine.{MachineState}
use Rattle.hart_lease.specs.Runs.{counts_of}
use Rattle.book_modes.specs.Recordings.{RecordingView, GoesOn}
use Rattle.page_book.specs.Books.{BookView}
use Rattle.page_book.specs.Reclaims.{GoesOnFrom}
use Rattle.lease_rounds.specs.Running.{AreAtBudget, Continues, GoToBudget, KeepsOffered}
use Rattle.lease_rounds.specs.machinery.SoFar.{HasRun, IsRestOf}
use Rattle.lease_rounds.proofs.Leasing.{free_alone}
use Rattle.lease_rounds.proofs.Onward.{runs_on}
use Rattle.lease_rounds.proofs.RoundByRound.{continues_on}
use Rattle.lease_rounds.proofs.Offered.{offered_on}
use Rattle.hart_threads.proofs.Picking.{goes_on, goes_further, limited_rest, limits_aside, machine_stays, offered_stays, rest_goes_on}
use Rattle.hart_threads.proofs.runs.run_copied.Given.{Over}
use Rattle.hart_threads.proofs.runs.run_copied.Goals as goal

-- the book as it was handed in, with its budgets, as it was picked, once it was finished, and with its limits
module _ (a l p b f : BookView RecordingView) (budget limits : List ℕ) (limited : l ≡ record a { mode = record a.mode { limits = budget } }) (first : HasRun l)
    (on : GoesOnFrom (λ r settled new now. GoesOn r settled new now) l p) (second : HasRun p) (finished : Continues p b) (counts : GoToBudget budget p b)
    (raised : f ≡ record b { mode = record b.mode { limits = limits } }) where
  rest : IsRestOf a l
  rest = limited_rest a a l a.leases budget refl refl limited

  continues : Continues a f
  continues =
      rest_goes_on a l rest f
      (continues_on l p f (goes_further l p on first second) (goes_on l p on first second) (limits_aside p b f limits raised finished))

  keeps_offered : KeepsOffered p b → KeepsOffered a f
  keeps_offered kept =
      subst (λ (x : BookView RecordingView). KeepsOffered a x) (sym raised)
      (offered_on a l b (offered_stays a l rest) (offered_on l p b (λ hart. (on.mode.inputs hart).offered) kept))

  to_budget : GoToBudget budget a f
  to_budget hart =
      let before = ap (λ (m : MachineState). counts_of m hart) (machine_stays a l rest) in
      let after = ap (λ (x : BookView RecordingView). counts_of x.machine hart) raised in
      let further = goes_further l p on first second hart in
      let rise = (counts hart).0 in
      let end = (counts hart).1 in
      (omega (arith, before, after, further, rise), omega (arith, after, end))

continues_is : (g : Over) (c : goal.After-has_run-4 g) → Continues c.args.book c.limit_to.new.self
continues_is g c =
    continues c.args.book c.limit_at.new.self c.pick-book.result.0 c.in_ok-book.book c.limit_to.new.self c.args.budget _ c.limit_at.ensures c.has_run-2.ensures
    (subst (λ (x : BookView RecordingView). GoesOnFrom (λ r settled new now. GoesOn r settled new now) x c.pick-book.result.0) c.in_ok-copy.ensures
    c.pick-book.ensures.goes_on) c.has_run-3.ensures c.in_ok-book.ensures.continues c.in_ok-book.ensures.counts c.limit_to.ensures

counts_are : (g : Over) (c : goal.After-has_run-4 g) → GoToBudget c.args.budget c.args.book c.limit_to.new.self
counts_are g c =
    to_budget c.args.book c.limit_at.new.self c.pick-book.result.0 c.in_ok-book.book c.limit_to.new.self c.args.budget _ c.limit_at.ensures c.has_run-2.ensures
    (subst (λ (x : BookView RecordingView). GoesOnFrom (λ r settled new now. GoesOn r settled new now) x c.pick-book.result.0) c.in_ok-copy.ensures
    c.pick-book.ensures.goes_on) c.has_run-3.ensures c.in_ok-book.ensures.continues c.in_ok-book.ensures.counts c.limit_to.ensures

pub returns-clause-done : goal.returns-clause-done
returns-clause-done g c =
    subst (λ (x : BookView RecordingView). AreAtBudget c.args.budget x) (sym c.limit_to.ensures) c.in_ok-book.ensures.done

pub returns-clause-offered : goal.returns-clause-offered
returns-clause-offered g c =
    keeps_offered c.args.book c.limit_at.new.self c.pick-book.result.0 c.in_ok-book.book c.limit_to.new.self c.args.budget _ c.limit_at.ensures c.has_run-2.ensures
    (subst (λ (x : BookView RecordingView). GoesOnFrom (λ r settled new now. GoesOn r settled new now) x c.pick-book.result.0) c.in_ok-copy.ensures
    c.pick-book.ensures.goes_on) c.has_run-3.ensures c.in_ok-book.ensures.continues c.in_ok-book.ensures.counts c.limit_to.ensures
    c.in_ok-book.ensures.offered

pub run_overseen-held-requires-clause-free : goal.run_overseen-held-requires-clause-free
run_overseen-held-requires-clause-free g c lifetimes order = free_alone

pub returns-clause-continues : goal.returns-clause-continues
returns-clause-continues g c = continues_is g c

pub returns-clause-counts : goal.returns-clause-counts
returns-clause-counts g c = counts_are g c

pub returns-clause-runs : goal.returns-clause-runs
returns-clause-runs g c = runs_on c.args.book c.limit_to.new.self (continues_is g c) c.has_run.ensures c.has_run-4.ensures
