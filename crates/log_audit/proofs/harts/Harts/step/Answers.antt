use Rattle.std.proofs.Common.{refl, sym, ◌∙◌, true≢false}
use Rattle.log_audit.proofs.Asking.{asking_begins}
use Rattle.log_audit.proofs.StepLoop.{step_runs, put_back, stays_taken, stays_kept, step_done, page_marked, fewer_rights, step_clash, asked_next}
use Rattle.log_audit.proofs.harts.Harts.step.Goals as goal

pub loop-page-init : goal.loop-page-init
loop-page-init c =
    record {
      start = refl;
      harts = refl;
      befores = refl;
      asking = λ h found. rw (c.begin_step.ensures) (asking_begins c.args.hart h c.args.inputs.now c.args.before.now c.self.inside.pages.contents c.self.inside.marks);
    }

pub tick_with-requires-clause-count : goal.tick_with-requires-clause-count
tick_with-requires-clause-count c =
    (step_runs c.args.hart c.args.inputs.now c.args.before.now _ c.args.self.now c.self.view_is c.requires.hart c.loop-page.self-inside.harts.items
    c.loop-page.invariant.harts c.index-in-loop-page.result c.index-in-loop-page.ensures.value c.index_mut-state.result.now c.index_mut-state.ensures.value
    c.requires.runs).1

pub invariant_of-self : goal.invariant_of-self
invariant_of-self c =
    stays_taken c.args.hart c.args.inputs.now c.args.before.now _ c.args.self.now c.self.view_is c.requires.hart c.loop-page.self-inside.harts.items
    c.loop-page.invariant.harts c.index-in-loop-page.result c.index-in-loop-page.ensures.value c.index_mut-state.result.now c.index_mut-state.ensures.value
    c.requires.marks c.begin_step.new.self c.begin_step.ensures c.loop-page.self-inside.pages c.loop-page.self-inside.marks c.loop-page.invariant.asking
    _ c.tick_with.new.state c.tick_with.new.pages c.self.invariant c.in-Done.ensures.done c.loop-page.invariant.start refl refl refl

pub returns-in-Done-clause-taken : goal.returns-in-Done-clause-taken
returns-in-Done-clause-taken c =
    step_done c.args.hart c.args.inputs.now c.args.before.now _ c.args.self.now c.self.view_is c.requires.hart c.loop-page.self-inside.harts.items
    c.loop-page.invariant.harts c.index-in-loop-page.result c.index-in-loop-page.ensures.value c.index_mut-state.result.now c.index_mut-state.ensures.value
    c.requires.marks c.begin_step.new.self c.begin_step.ensures c.loop-page.self-inside.pages c.loop-page.self-inside.marks c.loop-page.invariant.asking
    c.tick_with.new.state c.tick_with.new.pages _ c.in-Done.ensures.done c.loop-page.invariant.start c.loop-page.invariant.befores refl refl refl

pub against-requires : goal.against-requires
against-requires c =
    page_marked c.args.hart c.args.inputs.now c.args.before.now _ c.args.self.now c.self.view_is c.requires.hart c.loop-page.self-inside.harts.items
    c.loop-page.invariant.harts c.index-in-loop-page.result c.index-in-loop-page.ensures.value c.index_mut-state.result.now c.index_mut-state.ensures.value
    c.requires.marks c.begin_step.new.self c.begin_step.ensures c.loop-page.self-inside.pages c.loop-page.self-inside.marks c.loop-page.invariant.asking
    c.in-Miss.page c.in-Miss.want c.in-Miss.ensures.miss
    c.self.invariant

pub invariant_of-self-in-Some : goal.invariant_of-self-in-Some
invariant_of-self-in-Some c =
    stays_kept c.args.hart c.args.inputs.now c.args.before.now _ c.args.self.now c.self.view_is c.requires.hart c.loop-page.self-inside.harts.items
    c.loop-page.invariant.harts c.index-in-loop-page.result c.index-in-loop-page.ensures.value c.index_mut-state.result.now c.index_mut-state.ensures.value
    c.requires.marks c.begin_step.new.self c.begin_step.ensures c.loop-page.self-inside.pages c.loop-page.self-inside.marks c.loop-page.invariant.asking
    _ c.tick_with.new.state c.tick_with.new.pages c.self.invariant c.in-Miss.ensures.hart_kept c.in-Miss.ensures.pages_kept c.loop-page.invariant.start
    refl refl refl

pub returns-in-Some-clause-clash : goal.returns-in-Some-clause-clash
returns-in-Some-clause-clash c =
    step_clash c.args.hart c.args.inputs.now c.args.before.now _ c.args.self.now c.self.view_is c.requires.hart c.loop-page.self-inside.harts.items
    c.loop-page.invariant.harts c.index-in-loop-page.result c.index-in-loop-page.ensures.value c.index_mut-state.result.now c.index_mut-state.ensures.value
    c.requires.marks c.begin_step.new.self c.begin_step.ensures c.loop-page.self-inside.pages c.loop-page.self-inside.marks c.loop-page.invariant.asking
    c.in-Miss.page c.in-Miss.want c.in-Miss.ensures.miss
    c.index.result c.index.ensures.value c.index-2.result.now c.index-2.ensures c.count-count.result c.count-count.ensures.value
    _ c.in-Some.other refl c.in-Some.ensures.some

pub note-requires : goal.note-requires
note-requires c =
    page_marked c.args.hart c.args.inputs.now c.args.before.now _ c.args.self.now c.self.view_is c.requires.hart c.loop-page.self-inside.harts.items
    c.loop-page.invariant.harts c.index-in-loop-page.result c.index-in-loop-page.ensures.value c.index_mut-state.result.now c.index_mut-state.ensures.value
    c.requires.marks c.begin_step.new.self c.begin_step.ensures c.loop-page.self-inside.pages c.loop-page.self-inside.marks c.loop-page.invariant.asking
    c.in-Miss.page c.in-Miss.want c.in-Miss.ensures.miss
    c.self.invariant

pub invariant_of-self-in_err-note-in-Miss : goal.invariant_of-self-in_err-note-in-Miss
invariant_of-self-in_err-note-in-Miss c =
    stays_kept c.args.hart c.args.inputs.now c.args.before.now _ c.args.self.now c.self.view_is c.requires.hart c.loop-page.self-inside.harts.items
    c.loop-page.invariant.harts c.index-in-loop-page.result c.index-in-loop-page.ensures.value c.index_mut-state.result.now c.index_mut-state.ensures.value
    c.requires.marks c.begin_step.new.self c.begin_step.ensures c.loop-page.self-inside.pages c.loop-page.self-inside.marks c.loop-page.invariant.asking
    _ c.tick_with.new.state c.tick_with.new.pages c.self.invariant c.in-Miss.ensures.hart_kept c.in-Miss.ensures.pages_kept c.loop-page.invariant.start
    refl refl c.in_err-note-in-Miss.ensures.kept

pub loop-page-smaller : goal.loop-page-smaller
loop-page-smaller c =
    fewer_rights c.args.hart c.args.inputs.now c.args.before.now _ c.args.self.now c.self.view_is c.requires.hart c.loop-page.self-inside.harts.items
    c.loop-page.invariant.harts c.index-in-loop-page.result c.index-in-loop-page.ensures.value c.index_mut-state.result.now c.index_mut-state.ensures.value
    c.requires.marks c.begin_step.new.self c.begin_step.ensures c.loop-page.self-inside.pages c.loop-page.self-inside.marks c.loop-page.invariant.asking
    c.in-Miss.page c.in-Miss.want c.in-Miss.ensures.miss
    c.tick_with.new.pages c.grant.new.self c.grant.ensures.below c.in-Miss.ensures.pages_kept c.grant.ensures.granted

pub loop-page-preserved : goal.loop-page-preserved
loop-page-preserved c =
    record {
      start = c.loop-page.invariant.start;
      harts =
          put_back c.args.hart c.args.inputs.now c.args.before.now _ c.args.self.now c.self.view_is c.requires.hart c.loop-page.self-inside.harts.items
          c.loop-page.invariant.harts c.index-in-loop-page.result c.index-in-loop-page.ensures.value c.index_mut-state.result.now c.index_mut-state.ensures.value
          c.tick_with.new.state c.in-Miss.ensures.hart_kept;
      befores = c.loop-page.invariant.befores;
      asking =
          asked_next c.args.hart c.args.inputs.now c.args.before.now _ c.args.self.now c.self.view_is c.requires.hart c.loop-page.self-inside.harts.items
          c.loop-page.invariant.harts c.index-in-loop-page.result c.index-in-loop-page.ensures.value c.index_mut-state.result.now c.index_mut-state.ensures.value
          c.requires.marks c.begin_step.new.self c.begin_step.ensures c.loop-page.self-inside.pages c.loop-page.self-inside.marks c.loop-page.invariant.asking
          c.in-Miss.page c.in-Miss.want c.in-Miss.ensures.miss
          c.index.result c.index.ensures.value c.index-2.result.now c.index-2.ensures c.count-count.result c.count-count.ensures.value
          c.tick_with.new.pages c.grant.new.self c.note.new.self c.self.invariant c.index.ensures.below c.in-Miss.ensures.pages_kept c.grant.ensures.granted
          c.in_ok-note-in-Miss.ensures.noted c.note.ensures.rows c.in_default.ensures.none;
    }

pub unreachable-requires : goal.unreachable-requires
unreachable-requires c =
    true≢false (sym c.in-Halted.ensures.halted ∙ (step_runs c.args.hart c.args.inputs.now c.args.before.now _ c.args.self.now c.self.view_is c.requires.hart c.loop-page.self-inside.harts.items
    c.loop-page.invariant.harts c.index-in-loop-page.result c.index-in-loop-page.ensures.value c.index_mut-state.result.now c.index_mut-state.ensures.value
    c.requires.runs).0)

pub invariant_of-self-in-Memory : goal.invariant_of-self-in-Memory
invariant_of-self-in-Memory c =
    stays_kept c.args.hart c.args.inputs.now c.args.before.now _ c.args.self.now c.self.view_is c.requires.hart c.loop-page.self-inside.harts.items
    c.loop-page.invariant.harts c.index-in-loop-page.result c.index-in-loop-page.ensures.value c.index_mut-state.result.now c.index_mut-state.ensures.value
    c.requires.marks c.begin_step.new.self c.begin_step.ensures c.loop-page.self-inside.pages c.loop-page.self-inside.marks c.loop-page.invariant.asking
    _ c.tick_with.new.state c.tick_with.new.pages c.self.invariant c.in-Memory.ensures.hart_kept c.in-Memory.ensures.pages_kept c.loop-page.invariant.start
    refl refl refl
