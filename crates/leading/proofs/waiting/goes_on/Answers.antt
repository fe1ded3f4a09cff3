use Rattle.std.proofs.Common.{◌≡◌, [], length, ◌∙◌, sym, subst, arith}
use Rattle.std.proofs.lemmas.List.{nil_from_length}
use Rattle.std.proofs.lemmas.Bool.Decides.{nat_tests}
use Rattle.rv32_hart.specs.Ram.{Ram}
use Rattle.rv32_hart.specs.Step.{IsTaken}
use Rattle.hart_lease.specs.Slots.{ram_of}
use Rattle.leading.proofs.GoingRound.{no_step, not_silent, nothing_written}
use Rattle.leading.proofs.waiting.goes_on.Goals as goal

pub returns-in_default-clause-stuck : goal.returns-in_default-clause-stuck
returns-in_default-clause-stuck c = λ e k step.
    no_step c.tick.result c.args.state.now k (ram_of c.args.pages.now) c.in_default.not-Done c.tick.ensures.miss c.tick.ensures.halted
    c.tick.ensures.memory step

pub returns-in-Done-clause-pages : goal.returns-in-Done-clause-pages
returns-in-Done-clause-pages c =
    nothing_written c.args.state.now c.tick.new.state (ram_of c.args.pages.now) (ram_of c.tick.new.pages) c.requires c.in-Done.ensures.done

pub returns-in-Done-clause-goes : goal.returns-in-Done-clause-goes
returns-in-Done-clause-goes c = λ e. record {
  below = let less = c.if-count.false in let is = c.count.ensures.value in omega (arith, less, is);
  taken = subst (λ (left : Ram). IsTaken [] c.args.state.now (ram_of c.args.pages.now) c.tick.new.state left)
      (nothing_written c.args.state.now c.tick.new.state (ram_of c.args.pages.now) (ram_of c.tick.new.pages) c.requires c.in-Done.ensures.done)
      c.in-Done.ensures.done;
  silent = sym c.outputs.ensures ∙ nil_from_length c.outputs.result.now (let is = c.is_empty.ensures in grind (arith, nat_tests));
}
