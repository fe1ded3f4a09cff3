use Rattle.std.proofs.Common.{◌≡◌, ◌-◌, ◌≤◌, ◌∙◌, length, take, drop, sym, ap, subst}
use Rattle.std.proofs.lemmas.List.{take_rest}
use Rattle.ft_types.specs.declared.names.TheConstants.{INPUT_LIMIT}
use Rattle.input_log.specs.Inputs.{inputs_at}
use Rattle.input_log.proofs.Rows.{inputs_are}
use Rattle.input_log.proofs.row.Row.at.Goals as goal

pub returns-clause-value : goal.returns-clause-value
returns-clause-value c =
    let ks = c.columns.result.0.now in
    let vs = c.columns.result.1.now in
    let i = c.first_from-first.result in
    let rest : take (length ks - i) (drop i ks) ≡ drop i ks = take_rest ks i in
    rw (take_rest vs i)
    (inputs_are ks vs c.columns.ensures.paired c.args.count i c.first_after.result c.first_from-first.ensures.within (rw rest at c.first_after.ensures.within)
    c.first_from-first.ensures.before c.first_from-first.ensures.from (rw rest at c.first_after.ensures.upto) (rw rest at c.first_after.ensures.after) ∙
    ap (λ r. inputs_at r c.args.count) c.columns.ensures.value)

pub returns-clause-few : goal.returns-clause-few
returns-clause-few c = subst (λ l. length l ≤ INPUT_LIMIT) (sym (returns-clause-value c)) (c.columns.ensures.few c.args.count)
