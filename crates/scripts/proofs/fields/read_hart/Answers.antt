use Rattle.std.proofs.Common.{ap, subst, sym, ◌∙◌}
use Rattle.std.specs.Prelude.{decimal}
use Rattle.std.proofs.lemmas.Option.{IfSome_then}
use Rattle.scripts.specs.Script.{IsHart}
use Rattle.scripts.proofs.Cuts.{hart_small, other_hart}
use Rattle.scripts.proofs.Found.{if_none, if_none_map}
use Rattle.scripts.proofs.fields.read_hart.Goals as goal

pub returns-in_err-number-clause-none : goal.returns-in_err-number-clause-none
returns-in_err-number-clause-none c = if_none c.from_residual.result _ (λ h is e. c.in_err-number.ensures.none h (hart_small c.args.harts h is) e)

pub returns-clause-found : goal.returns-clause-found
returns-clause-found c = IfSome_then c.hart_of.result c.hart_of.ensures.found
    (λ h is. (subst (IsHart c.args.harts) (sym is.1) is.0, c.in_ok-number.ensures.found.1 ∙ ap decimal (sym is.1)))

pub returns-clause-none : goal.returns-clause-none
returns-clause-none c = if_none_map c.hart_of.result
    (other_hart c.args.harts c.in_ok-number.number c.args.text.now c.in_ok-number.ensures.found.0 c.in_ok-number.ensures.found.1) c.hart_of.ensures.none
