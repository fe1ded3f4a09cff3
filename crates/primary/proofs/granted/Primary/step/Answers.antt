use Rattle.std.proofs.Common.{ap}
use Rattle.input_log.specs.Notes.{notes_of}
use Rattle.primary.proofs.Books.{harts_kept, notes_stay}
use Rattle.primary.proofs.granted.Primary.step.Goals as goal

pub returns-clause-goes_on : goal.returns-clause-goes_on
returns-clause-goes_on c =
    record {
      start = c.take_step-stepped.ensures.start;
      journal = c.take_step-stepped.ensures.journal;
      tells = c.take_step-stepped.ensures.comes;
      notes = λ hart.
          ap (λ notes. notes_of notes hart)
          (notes_stay c.args.self.now.book c.take_step-stepped.new.book c.args.hart c.take_step-stepped.result c.take_step-stepped.ensures.stepped
          c.take_step-stepped.ensures.unmoved);
      primary = c.tell_primary-2.ensures.primary;
      before = c.tell_primary.ensures.leads;
      after = c.tell_primary-2.ensures.leads;
    }

pub returns-clause-harts : goal.returns-clause-harts
returns-clause-harts c =
    harts_kept c.args.self.now.book c.take_step-stepped.new.book c.args.hart c.take_step-stepped.result c.take_step-stepped.ensures.stepped
    c.take_step-stepped.ensures.unmoved
