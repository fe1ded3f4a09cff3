use Rattle.std.proofs.Common.{ap, arith, length}
use Rattle.guest_image.specs.Machine.{MachineState}
use Rattle.lease_rounds.specs.Leading.{NoneYet}
use Rattle.lease_rounds.proofs.Filling.{fills_on}
use Rattle.lease_rounds.proofs.rounds.give_all.Goals as goal
use Rattle.lease_rounds.proofs.rounds.give_all.Goals.{in-Some+in_ok-give_lacking, in_default}

pub loop-number-init : goal.loop-number-init
loop-number-init g c =
    record {
      fills = NoneYet;
      alone = c.requires.alone;
      pages = omega (arith, c.pages-number-end.ensures.value, ap (λ (m : MachineState). length m.pages) c.machine.ensures.value);
      limit = omega (arith, c.pages-number-end.ensures.value, c.pages-number-end.ensures.whole.pages);
    }

pub returns-in_err-give_lacking-clause-fills : goal.returns-in_err-give_lacking-clause-fills
returns-in_err-give_lacking-clause-fills g c =
    fills_on g.M.Mode c.args.book.now c.args.lease.now c.loop-number.book c.loop-number.lease c.loop-number.invariant.fills c.give_lacking.new.book
    c.give_lacking.new.lease c.give_lacking.ensures.fills

pub loop-number-preserved : goal.loop-number-preserved
loop-number-preserved g c = elim c.match-want.branch [
  | in-Some+in_ok-give_lacking w ↦ rw (w.book-is, w.lease-is) (record {
    fills = fills_on g.M.Mode c.args.book.now c.args.lease.now c.loop-number.book c.loop-number.lease c.loop-number.invariant.fills
        w.give_lacking.new.book w.give_lacking.new.lease w.give_lacking.ensures.fills;
    alone = w.give_lacking.ensures.alone;
    pages = omega (arith, c.loop-number.invariant.pages, w.give_lacking.ensures.pages);
    limit = c.loop-number.invariant.limit;
  })
  | in_default w ↦ rw (w.book-is, w.lease-is) c.loop-number.invariant
]
