-- On the ledger's machine a lease that passes the comparison takes the steps that it took on what it was lent.
use Rattle.std.proofs.Common.{◌≡◌, inl, inr, ℕ, is_some, Bool, true, false, if◌then◌else◌, refl, sym, ap, subst, ◌∙◌}
use Rattle.interleaving.specs.Lists.{put, Each}
use Rattle.interleaving.specs.Machine.{System, Machine, counts, steps, Runs, run}
use Rattle.interleaving.proofs.Put.{same_or_not, put_same, put_other}
use Rattle.interleaving.proofs.Each.{each_more}
use Rattle.lease_ledger.specs.Ledger.{Lease, Ledger, lent, stepped, present, Uses, IsLease, IsOurs}
use Rattle.lease_ledger.proofs.Runs.{Taking, RunsAlike, run_other, run_untaken, run_alike}
use Rattle.lease_ledger.proofs.Invariant.{is_some_of}

module _ {Hart Page Input : Type 0} (system : System Hart Page Input) where
  -- steps that use what the lease took touch only that
  pub uses_taken : (h : ℕ) (l : Lease Hart Page Input) (m : Machine Hart Page) → Each (Uses system l.stub) (steps system m l.turns) →
      Each (Taking system h (λ page. is_some (l.stub.read_at page))) (steps system m l.turns)
  uses_taken h l m =
      each_more (Uses system l.stub) (Taking system h (λ page. is_some (l.stub.read_at page)))
      (λ t u page touched. let (k, is, le) = u.touches page touched in is_some_of (l.stub.read_at page) k is) (steps system m l.turns)

  module _ (b : Ledger Hart Page Input) (l : Lease Hart Page Input) (lease : IsLease system l) (ours : IsOurs b l) where
    abbrev taken : ℕ → Bool
    taken page = is_some (l.stub.read_at page)

    pub alike : RunsAlike system l.hart taken (lent l) b.machine l.turns
    alike =
        run_alike system l.hart taken (lent l) b.machine l.turns lease.mine (record { hart_is = ours.state; pages = ours.pages }) lease.runs
        (uses_taken l.hart l (lent l) lease.uses)

    pub its_runs : Runs system b.machine l.turns
    its_runs = subst (Each (λ s. system.halted s.found ≡ false)) alike.steps_are lease.runs

    pub its_uses : Each (Uses system l.stub) (steps system b.machine l.turns)
    its_uses = subst (Each (Uses system l.stub)) alike.steps_are lease.uses

    pub present_is : present system l ≡ counts system (run system b.machine l.turns) l.hart
    present_is = ap system.count alike.ends.hart_is

    -- the machine with the lease's hart and pages is what its steps make of the ledger's
    pub laid_is : record {
      harts = put b.machine.harts l.hart ((stepped system l).harts l.hart);
      pages = λ page. if taken page then (stepped system l).pages page else b.machine.pages page;
    } ≡ run system b.machine l.turns
    laid_is = λ i. record { harts = λ g. hart_is g i; pages = λ page. page_is page (taken page) refl i }
      where
        hart_is : (g : ℕ) → put b.machine.harts l.hart ((stepped system l).harts l.hart) g ≡ (run system b.machine l.turns).harts g
        hart_is g =
            elim (same_or_not l.hart g) [
              | inl same ↦
                  put_same b.machine.harts l.hart g ((stepped system l).harts l.hart) same ∙
                  (alike.ends.hart_is ∙ ap (run system b.machine l.turns).harts same)
              | inr ne ↦
                  put_other b.machine.harts l.hart g ((stepped system l).harts l.hart) ne ∙
                  sym (run_other system l.hart b.machine l.turns lease.mine g ne)
            ]

        page_is : (page : ℕ) (c : Bool) → taken page ≡ c →
            (if c then (stepped system l).pages page else b.machine.pages page) ≡ (run system b.machine l.turns).pages page
        page_is page true e = alike.ends.pages page e
        page_is page false e =
            sym (run_untaken system l.hart taken b.machine l.turns its_runs (uses_taken l.hart l b.machine its_uses) page e)
