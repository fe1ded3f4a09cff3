-- A lease is opened, and a ledger begins.
use Rattle.std.proofs.Common.{◌≡◌, ℕ, ◌<◌, ◌≤◌, List, [], ◌++◌, Some, None, Contains, refl, sym, subst, arith, le_refl, le_of_eq}
use Rattle.interleaving.specs.Machine.{System, Machine, counts, steps}
use Rattle.interleaving.specs.Log.{Edge}
use Rattle.crew_pages.specs.Page.{IsAmong}
use Rattle.crew_pages.proofs.Laws.{begins}
use Rattle.lease_ledger.specs.Ledger.{Ledger, begin, fresh_stub}
use Rattle.lease_ledger.specs.Calls.{IsHeard, opened}
use Rattle.lease_ledger.specs.Laws.{InOrder}
use Rattle.lease_ledger.proofs.Runs.{pairs_all}
use Rattle.lease_ledger.proofs.Invariant.{AtFirst, pending, own, read_from, write_from, now, late, none_in, some_put, StubOk, Ok, stub_put}

module _ {Hart Page Input : Type 0} (system : System Hart Page Input) (crew : ℕ) (start : Machine Hart Page) where
  pub begun_ok : Ok system crew start (begin start)
  begun_ok =
      record {
        runs = tt;
        machine = refl;
        log = λ e i. absurd (none_in e i);
        in_order = tt;
        met = tt;
        ordered = tt;
        page =
            λ page.
            begins crew [] (counts system start) (own [] (λ h. None) page) (now (counts system start) (λ h. None) page)
            (late (counts system start) (λ h. None) page);
        stub = λ h s is. absurd (cc);
      }

  module _ (b : Ledger Hart Page Input) (ok : Ok system crew start b) (h : ℕ) (edges : List Edge) (is_hart : h < crew) (none : b.stubs h ≡ None)
      (heard : (e : Edge) → Contains edges e → IsHeard system crew b.machine h e) where
    fresh_ok : StubOk system crew b.machine b.rights h (fresh_stub edges)
    fresh_ok =
        record {
          is_hart = is_hart;
          edges =
              λ e i.
              let a = heard e i in
              record { own = a.own; other = a.other; another = a.another; unsettled = le_of_eq (sym a.at); met = a.settled };
          in_order =
              pairs_all InOrder edges
              (λ e f in_e in_f same.
              let a : e.step ≡ counts system b.machine h = (heard e in_e).at in
              let c : f.step ≡ counts system b.machine h = (heard f in_f).at in
              omega arith);
          stood = λ e i. AtFirst (heard e i).at;
          held = λ page k is. absurd (cc);
          owned = λ page k is. absurd (cc);
          both = λ page k is. absurd (cc);
        }

    pub opened_ok : Ok system crew start (opened b h edges)
    opened_ok =
        record {
          runs = ok.runs;
          machine = ok.machine;
          log = ok.log;
          in_order = ok.in_order;
          met = ok.met;
          ordered = ok.ordered;
          page =
              λ page.
              stub_put system crew b.machine (steps system start b.journal) b.edges b.stubs h (Some (fresh_stub edges)) page (b.rights page) (ok.page page)
              (λ held. subst (λ o. IsAmong (b.edges ++ pending o page) (b.edges ++ [])) (sym none) (λ e i. i))
              (λ held. subst (λ o. read_from (counts system b.machine h) o page ≤ counts system b.machine h) (sym none) (le_refl (counts system b.machine h)))
              (λ held. subst (λ o. write_from (counts system b.machine h) o page ≤ counts system b.machine h) (sym none) (le_refl (counts system b.machine h)));
          stub =
              some_put b.stubs h (Some (fresh_stub edges)) (StubOk system crew b.machine b.rights)
              (λ s same. let e : fresh_stub edges ≡ s = cc in subst (StubOk system crew b.machine b.rights h) e fresh_ok)
              (λ g s ne is. ok.stub g s is);
        }
