use Rattle.std.proofs.Common.{◌≡◌, ◌<◌, length, is_some, true, false, refl, sym, ap, subst, ◌∙◌, rules, arith}
use Rattle.crew_pages.specs.Rights.{Right, right_of, holds, give_up}
use Rattle.hart_lease.specs.Taken.{taken_at}
use Rattle.hart_lease.specs.Runs.{heard_in}
use Rattle.book_modes.specs.Recordings.{RecordingView, IsEnded, heard_by, right_at}
use Rattle.book_modes.proofs.ledger.ChangedRights.{right_there, changed_none, changed_more, changed_same}
use Rattle.book_modes.proofs.ledger.Ending.{given_back_all, holds_it, ended_recorded}
use Rattle.book_modes.proofs.recording.RecordingMode.end.Goals as goal
use Rattle.book_modes.proofs.recording.RecordingMode.end.Goals.{then-is_some, else-is_some}

pub give_up-requires : goal.give_up-requires
give_up-requires c =
    let so_far = c.loop-page.invariant.rights in
    let within : c.loop-page.page < length c.self.inside.rights.items = search rules in
    let there : c.loop-page.page < length c.loop-page.self-inside.rights.items = omega (arith, within, so_far.many) in
    let took : is_some (taken_at c.args.taken.now c.loop-page.page) ≡ true = search rules in
    let held : holds (right_at c.self.inside.rights.items c.loop-page.page) c.args.hart ≡ true =
    subst (λ (v : RecordingView). c.loop-page.page < length v.rights → holds (right_at v.rights c.loop-page.page) c.args.hart ≡ true) (sym c.self.view_is)
    (λ lt. holds_it c.args.self.now c.args.hart c.args.count c.args.taken.now c.requires c.loop-page.page lt took) within in
    ap (λ (right : Right). holds right c.args.hart)
    (ap right_of c.index_mut.ensures.value ∙
    (sym (right_there c.loop-page.self-inside.rights.items c.loop-page.page c.index_mut.result.now there) ∙ so_far.others c.loop-page.page (omega arith))) ∙
    held

pub loop-page-init : goal.loop-page-init
loop-page-init c = record { limits = refl; edges = refl; inputs = refl; notes = refl; due = refl; desk = refl; rights = changed_none _ _ }

pub loop-page-preserved : goal.loop-page-preserved
loop-page-preserved c =
    let now = c.loop-page.invariant in
    let within : c.loop-page.page < length c.self.inside.rights.items = search rules in
    let there : c.loop-page.page < length c.loop-page.self-inside.rights.items = omega (arith, within, now.rights.many) in
    elim c.if-is_some.branch [
      | then-is_some w ↦
          let took : is_some (taken_at c.args.taken.now c.loop-page.page) ≡ true = sym w.if-is_some.ensures in
          rw w.self-inside-is
          (
          record {
            limits = now.limits;
            edges = now.edges;
            inputs = now.inputs;
            notes = now.notes;
            due = now.due;
            desk = now.desk;
            rights =
                changed_more _ _ _ _ now.rights w.give_up.new.self within
                (rw took
                (w.give_up.ensures ∙
                ap (λ (right : Right). give_up right c.args.hart c.args.count)
                (ap right_of w.index_mut.ensures.value ∙
                sym (right_there c.loop-page.self-inside.rights.items c.loop-page.page w.index_mut.result.now there))));
          }
          )
      | else-is_some w ↦
          let not : is_some (taken_at c.args.taken.now c.loop-page.page) ≡ false = sym w.if-is_some.ensures in
          rw w.self-inside-is (record {
            limits = now.limits;
            edges = now.edges;
            inputs = now.inputs;
            notes = now.notes;
            due = now.due;
            desk = now.desk;
            rights = changed_same _ _ _ _ now.rights (rw not refl);
          })
    ]

-- what the book's mode has become
abbrev after : goal.After-loop-page → RecordingView
after c = record {
  limits = c.loop-page.self-inside.limits;
  rights = c.loop-page.self-inside.rights.items;
  edges = c.loop-page.self-inside.edges.value;
  inputs = c.loop-page.self-inside.inputs.value;
  notes = c.loop-page.self-inside.notes;
  due = c.loop-page.self-inside.due.value;
  desk = c.loop-page.self-inside.desk.value;
}

is_ended : (c : goal.After-loop-page) → IsEnded c.args.self.now c.args.hart c.args.count c.args.taken.now (after c)
is_ended c =
    let now = c.loop-page.invariant in
    subst (λ (v : RecordingView). IsEnded v c.args.hart c.args.count c.args.taken.now (after c)) c.self.view_is
    (
    record {
      rest =
          λ i.
          record {
            limits = now.limits i;
            rights = c.loop-page.self-inside.rights.items;
            edges = (now.edges i).value;
            inputs = (now.inputs i).value;
            notes = now.notes i;
            due = (now.due i).value;
            desk = (now.desk i).value;
          };
      many = now.rights.many;
      rights =
          given_back_all c.args.taken.now c.args.hart c.args.count c.self.inside.rights.items c.loop-page.self-inside.rights.items c.loop-page.page
          (search rules) now.rights;
    }
    )

pub returns-clause-ended : goal.returns-clause-ended
returns-clause-ended c = is_ended c

pub returns-clause-stops : goal.returns-clause-stops
returns-clause-stops c = c.loop-page.invariant.limits ∙ ap (λ (v : RecordingView). v.limits) c.self.view_is

pub returns-clause-kept : goal.returns-clause-kept
returns-clause-kept c = λ e. ended_recorded c.args.self.now c.args.hart c.args.count c.args.taken.now e (after c) (is_ended c)

pub returns-clause-heard : goal.returns-clause-heard
returns-clause-heard c = (λ i. heard_in (c.loop-page.invariant.inputs i).value) ∙ ap (λ (v : RecordingView). heard_by v) c.self.view_is
