-- A lease goes on, and passes each comparison.
use Rattle.std.proofs.Common.{◌≡◌, ◌≢◌, inl, inr, ℕ, is_some, ◌≤◌, Bool, true, false, if◌then◌else◌, List, [], ◌∷◌, Some, None, refl, sym, ap, subst, ◌∙◌}
use Rattle.std.proofs.Common.{arith, le_trans}
use Rattle.ft_types.specs.declared.names.Want.{Want}
use Rattle.interleaving.specs.Lists.{put, Each}
use Rattle.interleaving.specs.Log.{Edge}
use Rattle.interleaving.specs.Machine.{Writes, System, Machine, Turn, after, step_of, counts, steps}
use Rattle.interleaving.proofs.Put.{same_or_not, put_same, put_other}
use Rattle.interleaving.proofs.Each.{each_append, each_more}
use Rattle.interleaving.proofs.Runs.{steps_append, run_append, runs_append, counts_grow}
use Rattle.crew_pages.specs.Rights.{Right}
use Rattle.lease_ledger.specs.Ledger.{Lease, Ledger, fresh_stub, noted, taking, lent, stepped, present, Uses, IsLease, IsOurs}
use Rattle.lease_ledger.specs.Calls.{Answer, HeldBy, Given, Keep, opened, needed, settled}
use Rattle.lease_ledger.specs.Laws.{lease_opened, lease_needed, lease_ticked, MayTick, GoesOn, IsLentMore}
use Rattle.lease_ledger.proofs.Runs.{Taking, RunsAlike, run_unwritten, run_untaken, run_alike}
use Rattle.lease_ledger.proofs.Alike.{uses_taken}
use Rattle.lease_ledger.proofs.Noted.{noted_keeps, noted_cases, to_write_keeps, to_write_cases}
use Rattle.lease_ledger.proofs.Invariant.{is_some_of, some_of, Ok, owned_apart}

module _ {Hart Page Input : Type 0} (system : System Hart Page Input) where
  pub opens : (b : Ledger Hart Page Input) (h : ℕ) (edges : List Edge) →
      IsLease system (lease_opened system b h edges) × IsOurs (opened b h edges) (lease_opened system b h edges)
  opens b h edges = (
    record { mine = tt; runs = tt; uses = tt; reads = λ page k e. absurd (cc); writes = λ page k e. absurd (cc) },
    record { stub = put_same b.stubs h h (Some (fresh_stub edges)) refl; state = refl; pages = λ page e. refl },
  )

  pub ticks : (l : Lease Hart Page Input) (t : Turn Input) → IsLease system l → MayTick system l t → IsLease system (lease_ticked system l t)
  ticks l t lease may =
      record {
        mine = each_append (λ t. t.hart ≡ l.hart) l.turns (t ∷ []) lease.mine (may.own, tt);
        runs = runs_append system (lent l) l.turns (t ∷ []) lease.runs (may.goes, tt);
        uses =
            subst (Each (Uses system l.stub)) (sym (steps_append system (lent l) l.turns (t ∷ [])))
            (each_append (Uses system l.stub) (steps system (lent l) l.turns) (step_of system (stepped system l) t ∷ []) lease.uses (new, tt));
        reads = λ page k e. le_trans (lease.reads page k e) later;
        writes = λ page k e. le_trans (lease.writes page k e) later;
      }
    where
      found : present system l ≡ system.count ((stepped system l).harts t.hart)
      found = ap (counts system (stepped system l)) (sym may.own)

      new : Uses system l.stub (step_of system (stepped system l) t)
      new =
          record {
            touches =
                λ page touched.
                let (k, is) = some_of (l.stub.read_at page) (may.touches page touched) in
                (k, is, subst (λ n. k ≤ n) found (lease.reads page k is));
            writes =
                λ page w.
                let (k, is) = some_of (l.stub.write_at page) (may.writes page w) in
                (k, is, subst (λ n. k ≤ n) found (lease.writes page k is));
          }

      later : present system l ≤ present system (lease_ticked system l t)
      later =
          subst (λ m. present system l ≤ counts system m l.hart) (sym (run_append system (lent l) l.turns (t ∷ [])))
          (counts_grow system (stepped system l) (t ∷ []) (may.goes, tt) l.hart)

  -- the lease has been given a page
  module _ (b : Ledger Hart Page Input) (page : ℕ) (want : Want) (l : Lease Hart Page Input) (lease : IsLease system l) (ours : IsOurs b l)
      (edges : List Edge) where
    abbrev given_lease : Lease Hart Page Input
    given_lease = lease_needed system b l page want (Given edges)

    abbrev taken : ℕ → Bool
    taken q = is_some (l.stub.read_at q)

    pages_are : (q : ℕ) → taken q ≡ true → l.pages q ≡ put l.pages page (b.machine.pages page) q
    pages_are q takes =
        elim (same_or_not page q) [
          | inl same ↦ ours.pages q takes ∙ (ap b.machine.pages (sym same) ∙ sym (put_same l.pages page q (b.machine.pages page) same))
          | inr ne ↦ sym (put_other l.pages page q (b.machine.pages page) ne)
        ]

    same_run : RunsAlike system l.hart taken (lent l) (lent given_lease) l.turns
    same_run =
        run_alike system l.hart taken (lent l) (lent given_lease) l.turns lease.mine (record { hart_is = refl; pages = pages_are }) lease.runs
        (uses_taken system l.hart l (lent l) lease.uses)

    present_is : present system l ≡ present system given_lease
    present_is = ap system.count same_run.ends.hart_is

    still_lease : IsLease system given_lease
    still_lease =
        record {
          mine = lease.mine;
          runs = subst (Each (λ s. system.halted s.found ≡ false)) same_run.steps_are lease.runs;
          uses =
              subst (Each (Uses system given_lease.stub)) same_run.steps_are
              (each_more (Uses system l.stub) (Uses system given_lease.stub)
              (λ t u.
              record {
                touches = λ q touched. let (k, is, le) = u.touches q touched in (k, noted_keeps l.stub.read_at page (present system l) q k is, le);
                writes = λ q w. let (k, is, le) = u.writes q w in (k, to_write_keeps l.stub.write_at page (present system l) want q k is, le);
              })
              (steps system (lent l) l.turns) lease.uses);
          reads =
              λ q k e.
              subst (λ n. k ≤ n) present_is
              (elim (noted_cases l.stub.read_at page (present system l) q k e) [
                | inl old ↦ lease.reads q k old
                | inr (same, is, none) ↦ let n : present system l ≡ k = is in omega arith
              ]);
          writes =
              λ q k e.
              subst (λ n. k ≤ n) present_is
              (elim (to_write_cases l.stub.write_at page (present system l) want q k e) [
                | inl old ↦ lease.writes q k old
                | inr (is_write, same, is, none) ↦ let n : present system l ≡ k = is in omega arith
              ]);
        }

    still_ours : (right : Right) → IsOurs (needed system b l page want right (Given edges)) given_lease
    still_ours right =
        record {
          stub = put_same b.stubs l.hart l.hart (Some (taking l.stub page want (present system l) edges)) refl;
          state = ours.state;
          pages =
              λ q takes.
              elim (same_or_not page q) [
                | inl same ↦ put_same l.pages page q (b.machine.pages page) same ∙ ap b.machine.pages same
                | inr ne ↦
                    put_other l.pages page q (b.machine.pages page) ne ∙
                    (let (k, is) = some_of (noted l.stub.read_at page (present system l) q) takes in
                    elim (noted_cases l.stub.read_at page (present system l) q k is) [
                      | inl old ↦ ours.pages q (is_some_of (l.stub.read_at q) k old)
                      | inr (same, n, none) ↦ absurd (ne same)
                    ])
              ];
        }

    pub lent_more : IsLentMore system b l given_lease page
    lent_more =
        record {
          hart = sym same_run.ends.hart_is;
          pages = λ q takes. sym (same_run.ends.pages q takes);
          new =
              λ not.
              run_untaken system l.hart taken (lent given_lease) l.turns (subst (Each (λ s. system.halted s.found ≡ false)) same_run.steps_are lease.runs)
              (subst (Each (Taking system l.hart taken)) same_run.steps_are (uses_taken system l.hart l (lent l) lease.uses)) page not ∙
              put_same l.pages page page (b.machine.pages page) refl;
        }

  pub needs : (b : Ledger Hart Page Input) (l : Lease Hart Page Input) (page : ℕ) (want : Want) (right : Right) (answer : Answer) → IsLease system l →
      IsOurs b l → IsLease system (lease_needed system b l page want answer) ×
      IsOurs (needed system b l page want right answer) (lease_needed system b l page want answer)
  needs b l page want right (HeldBy harts) lease ours = (lease, record { stub = ours.stub; state = ours.state; pages = ours.pages })
  needs b l page want right (Given edges) lease ours =
      (still_lease b page want l lease ours edges, still_ours b page want l lease ours edges right)

  other_needs : (b : Ledger Hart Page Input) (l : Lease Hart Page Input) (page : ℕ) (want : Want) (right : Right) (answer : Answer)
      (mine : Lease Hart Page Input) → l.hart ≢ mine.hart → IsOurs b mine → IsOurs (needed system b l page want right answer) mine
  other_needs b l page want right (HeldBy harts) mine ne ours = record { stub = ours.stub; state = ours.state; pages = ours.pages }
  other_needs b l page want right (Given edges) mine ne ours =
      record {
        stub = put_other b.stubs l.hart mine.hart (Some (taking l.stub page want (present system l) edges)) ne ∙ ours.stub;
        state = ours.state;
        pages = ours.pages;
      }

  other_settles : (crew : ℕ) (start : Machine Hart Page) (b : Ledger Hart Page Input) → Ok system crew start b → (l : Lease Hart Page Input)
      (keep : ℕ → Keep) (mine : Lease Hart Page Input) → l.hart ≢ mine.hart → IsLease system l → IsOurs b l → IsOurs b mine →
      IsOurs (settled system b l keep) mine
  other_settles crew start b ok l keep mine ne lease ours theirs =
      record {
        stub = put_other b.stubs l.hart mine.hart None ne ∙ theirs.stub;
        state = theirs.state ∙ sym (put_other b.machine.harts l.hart mine.hart ((stepped system l).harts l.hart) ne);
        pages = λ page takes. theirs.pages page takes ∙ as_it_was page takes (is_some (l.stub.read_at page)) refl;
      }
    where
      -- the page that another lease has taken was not written
      as_it_was : (page : ℕ) → is_some (mine.stub.read_at page) ≡ true → (c : Bool) → is_some (l.stub.read_at page) ≡ c →
          b.machine.pages page ≡ (if c then (stepped system l).pages page else b.machine.pages page)
      as_it_was page takes false e = refl
      as_it_was page takes true e =
          sym (ours.pages page e) ∙
          sym
          (run_unwritten system (lent l) l.turns page
          (each_more (Uses system l.stub) (λ s. Writes s.effect page → ⊥)
          (λ s u writes.
          let (k, is, le) = u.writes page writes in
          owned_apart system crew start b ok l.hart mine.hart l.stub mine.stub ours.stub theirs.stub ne page k is takes)
          (steps system (lent l) l.turns) lease.uses))

  pub tick_goes_on : (l : Lease Hart Page Input) (t : Turn Input) →
      stepped system (lease_ticked system l t) ≡ after (stepped system l) (step_of system (stepped system l) t)
  tick_goes_on l t = run_append system (lent l) l.turns (t ∷ [])

  pub goes_on : (crew : ℕ) (start : Machine Hart Page) (b : Ledger Hart Page Input) → Ok system crew start b → GoesOn system b
  goes_on crew start b ok =
      record {
        opens = opens b;
        ticks = ticks;
        still_ours = λ l t ours. record { stub = ours.stub; state = ours.state; pages = ours.pages };
        needs = needs b;
        other_opens =
            λ hart edges mine ne ours.
            record { stub = put_other b.stubs hart mine.hart (Some (fresh_stub edges)) ne ∙ ours.stub; state = ours.state; pages = ours.pages };
        other_needs = other_needs b;
        other_settles = other_settles crew start b ok;
        other_drops =
            λ hart s mine ne ours.
            record { stub = put_other b.stubs hart mine.hart None ne ∙ ours.stub; state = ours.state; pages = ours.pages };
      }
