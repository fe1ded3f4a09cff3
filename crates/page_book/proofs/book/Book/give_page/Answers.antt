use Rattle.std.proofs.Common.{◌≡◌, ◌<◌, ◌∙◌, ◌++◌, ℕ, List, arith, length, ap, sym, slice_get, refl}
use Rattle.std.proofs.Math.Path.{fun_ext}
use Rattle.edge_log.specs.declared.Edge.{Edge}
use Rattle.ft_types.specs.declared.names.Want.{Want}
use Rattle.hart_lease.specs.declared.asked.Asked.{Asked}
use Rattle.hart_lease.specs.Asks.{asked_by}
use Rattle.hart_lease.specs.Leases.{LeaseView, whole_in, outputs_of, with_page}
use Rattle.hart_lease.specs.OpenLeases.{open_at, edges_after}
use Rattle.hart_lease.specs.Runs.{IsLease}
use Rattle.hart_lease.proofs.journals.GoingOn.{stands_ours, row_within}
use Rattle.book_modes.specs.Modes.{IsAsking}
use Rattle.page_book.proofs.Ours.{need_ours}
use Rattle.page_book.proofs.book.Book.give_page.Goals as goal

-- the lease that was given a page, and then waits with other edges, has the page and those
given_page : (l given new : LeaseView) (page : ℕ) (want : Want) (here : List ℕ) (edges : List Edge) → given ≡ with_page l page want here →
    new ≡ record given { edges = edges } → new ≡ record (with_page l page want here) { edges = new.edges }
given_page l given new page want here edges gives waits = rw (waits, gives) refl

-- so it has what it asked for, and the edges that were found
made : (l new : LeaseView) (page : ℕ) (want : Want) (asked : Asked) (here : List ℕ) (found : List Edge) → asked ≡ asked_by l page want →
    new ≡ record (with_page l page want here) { edges = new.edges } → new.edges ≡ l.edges ++ found →
    new ≡ record (with_page l asked.page asked.want here) { edges = l.edges ++ found }
made l new page want asked here found asks given edges = rw (asks, ← edges) given

pub returns-clause-given : goal.returns-clause-given
returns-clause-given g c =
    given_page c.args.lease.now c.give.new.lease c.wait_with.new.self c.args.page c.args.want c.args.here _ c.in_ok-give.ensures.given c.wait_with.ensures

pub returns-clause-taken : goal.returns-clause-taken
returns-clause-taken g c =
    let settled = fun_ext c.counts-settled.ensures.all in
    record {
      found = c.in_ok-found.field-0.found.items;
      owed = rw (← settled, ← c.asks-asked.ensures.value) c.in_ok-found.ensures.found;
      edges = ap (λ (n : LeaseView). n.edges) c.wait_with.ensures ∙ ap (edges_after c.in_ok-found.field-0.waiting) c.give.ensures.edges ∙
          c.in_ok-found.ensures.waiting;
      noted = rw (c.hand_over.ensures.book, c.as_slice.ensures, c.asks-asked.ensures.value) refl;
    }

pub returns-clause-mode : goal.returns-clause-mode
returns-clause-mode g c =
    let settled = fun_ext c.counts-settled.ensures.all in
    rw (← settled, ← c.asks-asked.ensures.value) c.hand_over.ensures.given

pub returns-clause-book : goal.returns-clause-book
returns-clause-book g c = rw c.hand_over.ensures.book refl

pub returns-clause-ours : goal.returns-clause-ours
returns-clause-ours g c =
    let b = c.args.self.now in
    let l = c.args.lease.now in
    let asks = c.asks-asked.ensures.value in
    let found = c.as_slice.result.now in
    let now : c.wait_with.new.self.hart ≡ l.hart = ap (λ (n : LeaseView). n.hart) c.wait_with.ensures ∙ c.give.ensures.hart in
    let row : l.hart < length b.leases = row_within b.leases l.hart b.machine (whole_in b.machine l) c.requires.ours in
    let edges = ap (λ (n : LeaseView). n.edges) c.wait_with.ensures ∙ ap (edges_after c.in_ok-found.field-0.waiting) c.give.ensures.edges ∙
    c.in_ok-found.ensures.waiting ∙ ap (λ (f : List Edge). l.edges ++ f) (sym c.as_slice.ensures) in
    let given = given_page l c.give.new.lease c.wait_with.new.self c.args.page c.args.want c.args.here _ c.in_ok-give.ensures.given c.wait_with.ensures in
    rw c.hand_over.ensures.book
    (need_ours b c.hand_over.new.self.mode l c.wait_with.new.self c.asks-asked.result found c.args.here
    c.requires.ours (ap (λ (a : Asked). a.hart) asks ∙ sym now) now (ap (λ (a : Asked). a.count) asks)
    (made l c.wait_with.new.self c.args.page c.args.want c.asks-asked.result c.args.here found asks given edges)
    (rw asks c.requires.page) c.asks-asked.ensures.kept (rw now row) (rw asks c.requires.here))

pub hand_over-requires-clause-asks : goal.hand_over-requires-clause-asks
hand_over-requires-clause-asks g c =
    let b = c.args.self.now in
    let l = c.args.lease.now in
    let asks = c.asks-asked.ensures.value in
    let whole : IsLease (whole_in b.machine l) = c.asks-asked.ensures.kept.with_any (outputs_of (slice_get b.machine.harts l.hart)) in
    let there : c.asks-asked.result.page < length b.machine.pages = rw asks c.requires.page in
    record {
      start = b.start;
      journal = b.journal;
      asker = whole_in b.machine l;
      is_lease = whole;
      is_lent = c.requires.ours;
      hart = ap (λ (a : Asked). a.hart) asks;
      count = ap (λ (a : Asked). a.count) asks;
      page = there;
      row = omega (arith, there, whole.counted, (stands_ours (open_at b.leases l.hart) b.machine (whole_in b.machine l) c.requires.ours).as_many);
      limit = c.asks-asked.ensures.count;
      kept = rw (← c.self.view_is) c.self.invariant.keeps;
    }
