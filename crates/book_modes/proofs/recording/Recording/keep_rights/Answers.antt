use Rattle.std.proofs.Common.{◌<◌, length, refl, sym, ap, ◌∙◌, rules, arith}
use Rattle.crew_pages.specs.Rights.{Right, right_of}
use Rattle.lease_ledger.specs.Calls.{kept}
use Rattle.book_modes.specs.Recordings.{keep_as}
use Rattle.book_modes.proofs.ledger.ChangedRights.{right_there, changed_none, changed_more}
use Rattle.book_modes.proofs.recording.Recording.keep_rights.Goals as goal

pub loop-page-init : goal.loop-page-init
loop-page-init c = record { limits = refl; edges = refl; inputs = refl; notes = refl; due = refl; desk = refl; rights = changed_none _ _ }

pub loop-page-preserved : goal.loop-page-preserved
loop-page-preserved c =
    let now = c.loop-page.invariant in
    let so_far = now.rights in
    let within : c.loop-page.page < length c.self.inside.rights.items = search rules in
    let there : c.loop-page.page < length c.loop-page.self-inside.rights.items = omega (arith, within, so_far.many) in
    record {
      limits = now.limits;
      edges = now.edges;
      inputs = now.inputs;
      notes = now.notes;
      due = now.due;
      desk = now.desk;
      rights =
          changed_more _ _ _ _ so_far c.keep_right.new.right within
          (c.keep_right.ensures ∙
          ap (λ (right : Right). kept (keep_as c.args.keep) right c.args.hart c.args.count)
          (ap right_of c.index_mut.ensures.value ∙ sym (right_there c.loop-page.self-inside.rights.items c.loop-page.page c.index_mut.result.now there)));
    }

pub returns-clause-rest : goal.returns-clause-rest
returns-clause-rest c =
    let now = c.loop-page.invariant in
    rw (← c.self.view_is)
    (λ i.
    record {
      limits = now.limits i;
      rights = c.loop-page.self-inside.rights.items;
      edges = (now.edges i).value;
      inputs = (now.inputs i).value;
      notes = now.notes i;
      due = (now.due i).value;
      desk = (now.desk i).value;
    })

pub returns-clause-many : goal.returns-clause-many
returns-clause-many c = rw (← c.self.view_is) c.loop-page.invariant.rights.many

pub returns-clause-rights : goal.returns-clause-rights
returns-clause-rights c = rw (← c.self.view_is) (λ page lt. let below : page < c.loop-page.page = search rules in c.loop-page.invariant.rights.first page below)
