use Rattle.std.proofs.Common.{◌≡◌, ℕ, List, refl, ap, subst}
use Rattle.book_modes.specs.declared.mode.Leg.{Leg}
use Rattle.page_book.specs.Books.{BookView}
use Rattle.warm_backup.specs.machinery.Working.{cut_leg}
use Rattle.warm_backup.proofs.Gone.{edges_same, inputs_same, whole_below}
use Rattle.warm_backup.proofs.work.Work.go_on.Goals as goal

pub returns-in-Err-clause-cut : goal.returns-in-Err-clause-cut
returns-in-Err-clause-cut c =
    let old = c.args.self.now.leg in
    let new = c.take_steps.new.self.leg in
    let grows = c.take_steps.ensures.grows in
    rw (grows.term, grows.base, edges_same old new grows, inputs_same old new grows, c.take_steps.ensures.others.2, c.copy_from.ensures) refl

pub returns-in-Err-clause-fault : goal.returns-in-Err-clause-fault
returns-in-Err-clause-fault c =
    let same = ap (λ (b : BookView Leg). b.machine) c.in_ok-begin_again.ensures.ok in
    rw same at c.in-Err.ensures.fault

pub returns-clause-settled : goal.returns-clause-settled
returns-clause-settled c =
    let w = c.take_steps.new.self in
    let gone = c.in_default.ensures.gone in
    record {
      idle = gone.idle;
      ends = gone.ends;
      whole =
          subst (λ (counts : List ℕ). cut_leg w counts ≡ w.leg) gone.ends
          (whole_below c.args.store.now c.requires.rules w.leg gone.facts.facts gone.facts.log gone.facts.rows);
    }
