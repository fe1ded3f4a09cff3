use Rattle.debugging.proofs.Asking.{first_action}
use Rattle.debugging.proofs.commands.first_action.Goals as goal

pub returns : goal.returns
returns c = λ action is. first_action c.args.actions.now c.cut.result.0.now c.cut.result.1.now action c.cut.ensures.one c.cut.ensures.all is
