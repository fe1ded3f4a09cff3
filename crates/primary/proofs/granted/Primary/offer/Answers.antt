use Rattle.std.proofs.Common.{ap}
use Rattle.input_log.specs.Notes.{notes_of}
use Rattle.primary.proofs.Books.{offered_so}
use Rattle.primary.proofs.granted.Primary.offer.Goals as goal

pub returns-clause-goes_on : goal.returns-clause-goes_on
returns-clause-goes_on c =
    let so = offered_so c.args.self.now.book c.offer-offered.new.self c.args.hart c.args.not_before c.args.input c.offer-offered.result
    c.offer-offered.ensures.book c.offer-offered.ensures.ok c.offer-offered.ensures.err in
    record {
      start = so.start;
      journal = so.journal;
      tells = so.tells;
      notes = λ hart. ap (λ notes. notes_of notes hart) so.notes;
      primary = c.tell_primary-2.ensures.primary;
      before = c.tell_primary.ensures.leads;
      after = c.tell_primary-2.ensures.leads;
    }

pub returns-clause-limits : goal.returns-clause-limits
returns-clause-limits c =
    (offered_so c.args.self.now.book c.offer-offered.new.self c.args.hart c.args.not_before c.args.input c.offer-offered.result
    c.offer-offered.ensures.book c.offer-offered.ensures.ok c.offer-offered.ensures.err).limits
