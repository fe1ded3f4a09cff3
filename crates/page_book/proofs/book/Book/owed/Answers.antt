use Rattle.std.proofs.Common.{rules, ◌<◌, arith, length, slice_get}
use Rattle.hart_lease.specs.Leases.{whole_in, outputs_of, IsLentBy}
use Rattle.hart_lease.specs.OpenLeases.{open_at}
use Rattle.hart_lease.specs.Runs.{IsLease}
use Rattle.hart_lease.proofs.journals.GoingOn.{stands_ours}
use Rattle.book_modes.specs.Modes.{IsAsking}
use Rattle.page_book.proofs.book.Book.owed.Goals as goal

pub edges_owed-found-requires : goal.edges_owed-found-requires
edges_owed-found-requires g c =
    let i = c.self.inside in
    let l = c.args.lease.now in
    let ours : IsLentBy (open_at i.leases.value l.hart) i.machine (whole_in i.machine l) = rw (← c.self.view_is) at c.requires.ours in
    let whole : IsLease (whole_in i.machine l) = c.requires.bare.with_any (outputs_of (slice_get i.machine.harts l.hart)) in
    let there : c.args.asked.now.page < length i.machine.pages = search rules in
    let asks : IsAsking (g.M.Mode.keeps i.mode) i.machine i.leases.value c.args.asked.now =
    record {
      start = i.start;
      journal = i.journal.items;
      asker = whole_in i.machine l;
      is_lease = whole;
      is_lent = ours;
      hart = search rules;
      count = search rules;
      page = there;
      row = omega (arith, there, whole.counted, (stands_ours (open_at i.leases.value l.hart) i.machine (whole_in i.machine l) ours).as_many);
      limit = search rules;
      kept = c.self.invariant.keeps;
    } in
    record {
      machine = i.machine;
      leases = i.leases.value;
      asks = asks;
      free = λ hart holds. c.requires.free hart (rw (← c.self.view_is) holds);
      harts = search rules;
      counts = search rules;
    }
