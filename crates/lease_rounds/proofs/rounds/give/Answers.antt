use Rattle.lease_rounds.proofs.Filling.{fewer, inputs_stay, most_stays, need_within, still_alone}
use Rattle.hart_lease.specs.Asks.{asked_by}
use Rattle.hart_lease.specs.OpenLeases.{open_at, given_more}
use Rattle.lease_rounds.proofs.rounds.give.Goals as goal

pub need_own-requires-clause-page : goal.need_own-requires-clause-page
need_own-requires-clause-page g c = need_within c.args.book.now c.args.lease.now c.requires.alone c.args.page c.requires.page

pub unreachable-requires : goal.unreachable-requires
unreachable-requires g c =
    (rw c.in-Ok-HeldBy.field-0-is at c.in-Ok-HeldBy.ensures.not_free)
    (c.requires.free c.args.book.now.mode c.args.book.now.leases (asked_by c.args.lease.now c.args.page c.args.want) c.requires.alone.alone)

pub returns-in-Ok-Given-clause-gives : goal.returns-in-Ok-Given-clause-gives
returns-in-Ok-Given-clause-gives g c =
    record {
      page = c.args.page;
      want = c.args.want;
      on_page = c.requires.page;
      lacks = c.requires.lacks;
      book = c.need_own.ensures.book;
      mode = rw c.in-Ok-Given.field-0-is at c.in-Ok-Given.ensures.mode;
      taken = rw c.in-Ok-Given.field-0-is at c.in-Ok-Given.ensures.taken;
      given = rw c.in-Ok-Given.field-0-is at c.in-Ok-Given.ensures.given;
      hart = c.need_own.ensures.hart;
      base = c.need_own.ensures.base;
      present = c.need_own.ensures.present;
      inputs =
          inputs_stay c.args.book.now c.args.lease.now c.requires.alone c.args.page c.requires.page c.need_own.new.lease c.args.want
          (rw c.in-Ok-Given.field-0-is at c.in-Ok-Given.ensures.given);
      steps = c.need_own.ensures.steps;
      most =
          most_stays c.args.book.now c.args.lease.now c.requires.alone c.args.page c.requires.page c.need_own.new.lease c.args.want
          (rw c.in-Ok-Given.field-0-is at c.in-Ok-Given.ensures.given);
      stop = c.need_own.ensures.stop;
    }

pub returns-in-Ok-Given-clause-alone : goal.returns-in-Ok-Given-clause-alone
returns-in-Ok-Given-clause-alone g c =
    let taken = rw c.in-Ok-Given.field-0-is at c.in-Ok-Given.ensures.taken in
    let b = c.args.book.now in
    let l = c.args.lease.now in
    still_alone b c.need_own.new.self l c.need_own.new.lease (given_more (open_at b.leases l.hart) c.args.page c.args.want l.present.count taken.found)
    c.requires.alone c.need_own.ensures.hart c.in-Ok-Given.ensures.ours taken.noted

pub returns-in-Ok-Given-clause-fewer : goal.returns-in-Ok-Given-clause-fewer
returns-in-Ok-Given-clause-fewer g c =
    fewer c.args.book.now c.args.lease.now c.requires.alone c.args.page c.requires.page c.need_own.new.lease c.args.want c.requires.lacks
    (rw c.in-Ok-Given.field-0-is at c.in-Ok-Given.ensures.given)
