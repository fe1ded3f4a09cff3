use Rattle.lease_rounds.proofs.Lending.{lent_out, lease_alone}
use Rattle.hart_threads.proofs.together.lead_once.Goals as goal

pub go_on-requires : goal.go_on-requires
go_on-requires g c =
    let out =
    lent_out g.M.Mode c.args.hart c.args.book.now c.in-Ok.lease c.lease.new.self c.requires.hart c.in-Ok.ensures.unrefused c.in-Ok.ensures.met
    c.in-Ok.ensures.lent c.in-Ok.ensures.mode c.in-Ok.ensures.kept_open in
    record {
      free = c.requires.free;
      alone = lease_alone g.M.Mode c.args.hart c.args.book.now c.in-Ok.lease c.lease.new.self c.requires.idle out c.in-Ok.ensures.ours;
    }
