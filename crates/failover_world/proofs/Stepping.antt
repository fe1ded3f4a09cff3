-- The world with a primary whose book goes on.
use Rattle.std.proofs.Common.{◌≡◌, ◌≤◌, true, length, sym, ap, subst, ◌∙◌}
use Rattle.ft_types.specs.Counts.{count_at}
use Rattle.guest_image.specs.Machine.{MachineState}
use Rattle.hart_lease.specs.Runs.{counts_of}
use Rattle.page_book.specs.Books.{BookView}
use Rattle.book_modes.specs.Recordings.{RecordingView}
use Rattle.lease_rounds.specs.Running.{IsIdle}
use Rattle.lease_rounds.specs.Steps.{AreWithin}
use Rattle.primary.specs.declared.granted.Primary.{Primary}
use Rattle.primary.specs.Primaries.{GoesOn}
use Rattle.failover_world.specs.Worlds.{WorldView}
use Rattle.failover_world.specs.machinery.Tied.{IsWorld}
use Rattle.failover_world.proofs.Recorded.{comes_of}
use Rattle.failover_world.proofs.Parts.{with_new_book}
use Rattle.failover_world.proofs.Ties.{goes_on}
use Rattle.failover_world.proofs.Onward.{offered_on, more_said}

module _ (v : WorldView) (is : IsWorld v) (runs : v.runs ≡ true) (p : Primary) (on : GoesOn v.primary.book p.book) where
  pub went_on : IsIdle p.book → AreWithin p.book → length p.book.machine.harts ≡ length v.primary.book.machine.harts →
      p ≡ record v.primary { book = p.book } → IsWorld (record v { primary = p })
  went_on idle within harts rest =
      subst (λ (q : Primary). IsWorld (record v { primary = q })) (sym rest)
      (record {
        parts =
            with_new_book v is.parts p.book idle within harts
            (offered_on v.gate.gate v.primary.book.machine p.book.machine is.parts.offered
            (more_said v is.tied p.book runs (comes_of v.primary.book p.book on) on.primary on.before on.after));
        tied = goes_on v is.tied p.book runs (comes_of v.primary.book p.book on) on.primary on.notes;
      })

  -- an input waits
  pub was_offered : p.book.mode.limits ≡ v.primary.book.mode.limits → p ≡ record v.primary { book = record v.primary.book { mode = p.book.mode } } →
      IsWorld (record v { primary = p })
  was_offered limits rest =
      let same : p.book ≡ record v.primary.book { mode = p.book.mode } = ap (λ (q : Primary). q.book) rest in
      let machine : p.book.machine ≡ v.primary.book.machine = ap (λ (b : BookView RecordingView). b.machine) same in
      went_on (ap (λ (b : BookView RecordingView). b.leases) same ∙ is.parts.idle)
      (λ hart.
      subst (λ m. counts_of m hart ≤ count_at p.book.mode.limits hart) (sym machine)
      (subst (λ row. counts_of v.primary.book.machine hart ≤ count_at row hart) (sym limits) (is.parts.within hart)))
      (ap (λ (m : MachineState). length m.harts) machine)
      (rest ∙ ap (λ b. let q : Primary = record v.primary { book = b } in q) (sym same))
