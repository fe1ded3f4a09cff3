use Rattle.std.proofs.Common.{inr, subst, sym}
use Rattle.hart_lease.specs.Leases.{LeaseView}
use Rattle.lease_rounds.specs.Leading.{Lends}
use Rattle.lease_rounds.proofs.Filling.{alone_for, where_err}
use Rattle.lease_rounds.proofs.Lending.{lent_out, lent_for, lease_alone, held}
use Rattle.lease_rounds.proofs.rounds.go_for.Goals as goal

pub go_on-requires : goal.go_on-requires
go_on-requires g c =
    let out =
    lent_out g.M.Mode c.args.hart c.args.book.now c.in-Ok.lease c.lease.new.self c.requires.hart c.in-Ok.ensures.unrefused c.in-Ok.ensures.met
    c.in-Ok.ensures.lent c.in-Ok.ensures.mode c.in-Ok.ensures.kept_open in
    record {
      free = c.requires.free;
      alone =
          alone_for c.lease.new.self c.in-Ok.lease c.allow.new.self c.args.most c.allow.ensures.value c.allow.ensures.lent
          (lease_alone g.M.Mode c.args.hart c.args.book.now c.in-Ok.lease c.lease.new.self c.requires.idle out c.in-Ok.ensures.ours);
    }

pub returns-in_ok-go_on-in-Ok : goal.returns-in_ok-go_on-in-Ok
returns-in_ok-go_on-in-Ok g c =
    let out =
    lent_out g.M.Mode c.args.hart c.args.book.now c.in-Ok.lease c.lease.new.self c.requires.hart c.in-Ok.ensures.unrefused c.in-Ok.ensures.met
    c.in-Ok.ensures.lent c.in-Ok.ensures.mode c.in-Ok.ensures.kept_open in
    record {
      goes = record {
        opened = c.lease.new.self;
        lease = c.allow.new.self;
        lends = subst (λ (x : LeaseView). Lends g.M.Mode c.args.most c.args.hart c.args.book.now x c.lease.new.self) (sym c.allow.ensures.value)
            (lent_for g.M.Mode c.args.most c.args.hart c.args.book.now c.in-Ok.lease c.lease.new.self out);
        leads = c.in_ok-go_on-in-Ok.ensures.leads;
        idle = c.in_ok-go_on-in-Ok.ensures.idle;
      };
      not_gone = tt;
      idle = c.in_ok-go_on-in-Ok.ensures.idle;
    }

pub returns-in_err-go_on-in-Ok-clause-not_gone : goal.returns-in_err-go_on-in-Ok-clause-not_gone
returns-in_err-go_on-in-Ok-clause-not_gone g c =
    let out =
    lent_out g.M.Mode c.args.hart c.args.book.now c.in-Ok.lease c.lease.new.self c.requires.hart c.in-Ok.ensures.unrefused c.in-Ok.ensures.met
    c.in-Ok.ensures.lent c.in-Ok.ensures.mode c.in-Ok.ensures.kept_open in
    where_err c.from_residual.result
    (inr (record {
      opened = c.lease.new.self;
      lease = c.allow.new.self;
      lends = subst (λ (x : LeaseView). Lends g.M.Mode c.args.most c.args.hart c.args.book.now x c.lease.new.self) (sym c.allow.ensures.value)
          (lent_for g.M.Mode c.args.most c.args.hart c.args.book.now c.in-Ok.lease c.lease.new.self out);
      leaves = c.in_err-go_on-in-Ok.ensures.leaves;
    }))

pub returns-in-Err-2-clause-goes : goal.returns-in-Err-2-clause-goes
returns-in-Err-2-clause-goes g c = (
  c.in-Err.ensures.err,
  held g.M.Mode c.args.book.now c.args.hart c.requires.idle c.in-Err.fault
      (record { refused = c.in-Err.ensures.refused; unmet = c.in-Err.ensures.edge_open })
      (λ e. let other = rw e at c.if-eq.ensures in cc),
)
