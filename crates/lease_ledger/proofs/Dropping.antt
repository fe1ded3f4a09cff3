-- A lease is dropped.
use Rattle.std.proofs.Common.{◌≡◌, ◌≢◌, inl, inr, ℕ, is_some, unwrap_or, ◌<◌, ◌≤◌, Bool, true, false, if◌then◌else◌, List, [], ◌++◌, Option, Some, None}
use Rattle.std.proofs.Common.{Contains, refl, sym, ap, subst, ◌∙◌, arith, le_refl, le_of_eq, true≢false}
use Rattle.std.proofs.lemmas.List.Elements.{Contains-append_cases}
use Rattle.interleaving.specs.Lists.{put}
use Rattle.interleaving.specs.Machine.{System, Machine, Step, counts, steps}
use Rattle.crew_pages.specs.Rights.{Right, holds, give_up}
use Rattle.crew_pages.specs.Page.{IsAmong, Knows, MayLeave}
use Rattle.crew_pages.proofs.Laws.{keeps_giving_up}
use Rattle.lease_ledger.specs.Ledger.{Stub, Ledger}
use Rattle.lease_ledger.specs.Calls.{dropped}
use Rattle.lease_ledger.proofs.Stays.{Stays, stays, stays_give_up, gone}
use Rattle.lease_ledger.proofs.Used.{numbered, within}
use Rattle.lease_ledger.proofs.Invariant.{pending, own, read_from, write_from, none_in, some_put, scene, RightAt, StubOk, Ok, stub_rights, stub_put}

module _ {Hart Page Input : Type 0} (system : System Hart Page Input) (crew : ℕ) (start : Machine Hart Page) (b : Ledger Hart Page Input)
    (ok : Ok system crew start b) (h : ℕ) (s : Stub) (is : b.stubs h ≡ Some s) where
  abbrev m : Machine Hart Page
  m = b.machine

  abbrev past : List (Step Hart Page Input)
  past = steps system start b.journal

  its_stub : StubOk system crew m b.rights h s
  its_stub = ok.stub h s is

  abbrev left_over : ℕ → Bool → Right
  left_over page c = if c then give_up (b.rights page) h (counts system m h) else b.rights page

  -- the edges that wait are of later steps
  base_knows : (page k o n : ℕ) → k < counts system m h → Knows (own b.edges b.stubs page h) h k o n → Knows b.edges h k o n
  base_knows page k o n less t =
      record {
        edge = t.edge;
        is_edge =
            elim (Contains-append_cases b.edges (pending (b.stubs h) page) t.edge t.is_edge) [
              | inl old ↦ old
              | inr f ↦ absurd (none (is_some (s.read_at page)) (subst (λ o. Contains (pending o page) t.edge) is f))
            ];
        hart = t.hart;
        step = t.step;
        other = t.other;
        count = t.count;
      }
    where
      none : (c : Bool) → Contains (if c then s.edges else []) t.edge → ⊥
      none false i = none_in t.edge i
      none true i =
          let at : counts system m h ≤ t.edge.step = (its_stub.edges t.edge i).unsettled in
          let le : t.edge.step ≤ k = t.step in
          omega arith

  may_leave : (page : ℕ) → MayLeave (scene system crew m past b.edges b.stubs page) h
  may_leave page =
      record {
        numbered = numbered system start m b.journal ok.runs ok.machine page;
        within = within system start b.journal ok.runs page;
        mine = base_knows page;
      }

  page_dropped : (page : ℕ) (o : Option ℕ) → s.read_at page ≡ o → RightAt system crew m past b.edges (put b.stubs h None) page (left_over page (is_some o))
  page_dropped page (Some k) e =
      stub_put system crew m past b.edges b.stubs h None page (give_up (b.rights page) h (counts system m h))
      (keeps_giving_up (scene system crew m past b.edges b.stubs page) (b.rights page) h (ok.page page) (may_leave page) held)
      (λ still. absurd (gone (b.rights page) h (counts system m h) held still)) (λ still. absurd (gone (b.rights page) h (counts system m h) held still))
      (λ still. absurd (gone (b.rights page) h (counts system m h) held still))
    where
      held : holds (b.rights page) h ≡ true
      held = (its_stub.held page k e).0
  page_dropped page None e =
      stub_put system crew m past b.edges b.stubs h None page (b.rights page) (ok.page page)
      (λ held. subst (λ o. IsAmong (b.edges ++ pending o page) (b.edges ++ [])) (sym is) (rw e (λ e i. i)))
      (λ held.
      subst (λ o. read_from (counts system m h) o page ≤ counts system m h) (sym is) (le_of_eq (ap (λ o. unwrap_or o (counts system m h)) e)))
      (λ held. subst (λ o. write_from (counts system m h) o page ≤ counts system m h) (sym is) (no_write (s.write_at page) refl))
    where
      no_write : (o : Option ℕ) → s.write_at page ≡ o → unwrap_or o (counts system m h) ≤ counts system m h
      no_write None f = le_refl (counts system m h)
      no_write (Some k) f = absurd (true≢false (sym (its_stub.both page k f) ∙ ap is_some e))

  dropped_stays : (g page : ℕ) (o : Option ℕ) → s.read_at page ≡ o → g ≢ h → Stays g (b.rights page) (left_over page (is_some o))
  dropped_stays g page (Some k) e ne = stays_give_up g h (counts system m h) (b.rights page) ne (its_stub.held page k e).0
  dropped_stays g page None e ne = stays g (b.rights page)

  pub dropped_ok : Ok system crew start (dropped system b h s)
  dropped_ok =
      record {
        runs = ok.runs;
        machine = ok.machine;
        log = ok.log;
        in_order = ok.in_order;
        met = ok.met;
        ordered = ok.ordered;
        page = λ page. page_dropped page (s.read_at page) refl;
        stub =
            some_put b.stubs h None (StubOk system crew m (λ page. left_over page (is_some (s.read_at page)))) (λ k same. absurd (cc))
            (λ g k ne stub.
            stub_rights system crew m b.rights (λ page. left_over page (is_some (s.read_at page))) g k (ok.stub g k stub)
            (λ page takes. dropped_stays g page (s.read_at page) refl (λ e. ne (sym e))));
      }
