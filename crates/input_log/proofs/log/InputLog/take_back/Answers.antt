use Rattle.std.proofs.Common.{ℕ, List, sym, subst}
use Rattle.input_log.specs.declared.Input.{Input}
use Rattle.input_log.specs.Inputs.{AreAddedTo}
use Rattle.input_log.proofs.Backs.{log_back}
use Rattle.input_log.proofs.log.InputLog.take_back.Goals as goal

pub returns-clause-back : goal.returns-clause-back
returns-clause-back c before added size was =
    log_back c.self.inside.rows before c.args.hart c.index.result c.args.many added c.take_back.new.self c.index-self-index.result c.index.ensures.value
    c.self.invariant c.index.ensures.below size
    (subst (λ (v : List (List (ℕ × Input))). AreAddedTo before c.args.hart added v) (sym c.self.view_is) was) c.take_back.ensures
