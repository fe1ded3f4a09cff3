use Rattle.std.proofs.Common.{sym, ap, ◌∙◌, true≢false}
use Rattle.moments.proofs.Stepping.{lacked_in, fewer_lacking, step_runs, taken, put_back}
use Rattle.moments.proofs.machines.SteppedMachine.step.Goals as goal

pub tick_with-requires-clause-count : goal.tick_with-requires-clause-count
tick_with-requires-clause-count c =
    (step_runs c.args.hart c.args.inputs.now c.args.self.now.harts.items c.loop-page.self.harts.items c.loop-page.invariant.harts
    c.args.self.now.ram.parts.items c.loop-page.self.ram.parts.items c.loop-page.invariant.contents c.index.result c.index.ensures.value
    c.index_mut-state.result.now c.index_mut-state.ensures.value c.requires.hart c.requires.runs).1

pub returns-in-Done-clause-taken : goal.returns-in-Done-clause-taken
returns-in-Done-clause-taken c =
    taken c.args.hart c.args.inputs.now c.args.self.now.harts.items c.loop-page.self.harts.items c.loop-page.invariant.harts
    c.args.self.now.ram.parts.items c.loop-page.self.ram.parts.items c.loop-page.invariant.contents c.index.result c.index.ensures.value
    c.index_mut-state.result.now c.index_mut-state.ensures.value c.tick_with.new.state c.tick_with.new.pages.parts.items c.in-Done.ensures.done

pub own-requires : goal.own-requires
own-requires c =
    lacked_in c.args.inputs.now c.index_mut-state.result.now c.loop-page.self.ram.parts.items c.in-Miss.page c.in-Miss.field-1 c.in-Miss.ensures.miss
    c.tick_with.new.pages.parts.items c.in-Miss.ensures.pages_kept

pub loop-page-smaller : goal.loop-page-smaller
loop-page-smaller c =
    fewer_lacking c.args.inputs.now c.index_mut-state.result.now c.loop-page.self.ram.parts.items c.in-Miss.page c.in-Miss.field-1 c.in-Miss.ensures.miss
    c.tick_with.new.pages.parts.items c.own.new.self.parts.items c.in-Miss.ensures.pages_kept c.in_ok-own-in-Miss.ensures.owned

pub loop-page-preserved : goal.loop-page-preserved
loop-page-preserved c =
    record {
      harts =
          put_back c.args.hart c.args.inputs.now c.args.self.now.harts.items c.loop-page.self.harts.items c.loop-page.invariant.harts
          c.args.self.now.ram.parts.items c.loop-page.self.ram.parts.items c.loop-page.invariant.contents c.index.result c.index.ensures.value
          c.index_mut-state.result.now c.index_mut-state.ensures.value c.tick_with.new.state c.in-Miss.ensures.hart_kept c.requires.hart;
      contents = c.own.ensures.contents ∙ ap (λ r. r.contents) c.in-Miss.ensures.pages_kept ∙ c.loop-page.invariant.contents;
    }

pub unreachable-requires : goal.unreachable-requires
unreachable-requires c =
    true≢false (sym c.in-Halted.ensures.halted ∙ (step_runs c.args.hart c.args.inputs.now c.args.self.now.harts.items c.loop-page.self.harts.items
    c.loop-page.invariant.harts c.args.self.now.ram.parts.items c.loop-page.self.ram.parts.items c.loop-page.invariant.contents c.index.result
    c.index.ensures.value c.index_mut-state.result.now c.index_mut-state.ensures.value c.requires.hart c.requires.runs).0)
