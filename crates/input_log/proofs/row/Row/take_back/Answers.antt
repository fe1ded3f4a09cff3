use Rattle.std.proofs.Common.{◌≡◌, ◌-◌, ℕ, List, length, take, zip, ap, subst, ◌∙◌, arith}
use Rattle.input_log.specs.declared.Input.{Input}
use Rattle.input_log.proofs.Rows.{length_zip, row_take, zip_take}
use Rattle.input_log.proofs.row.Row.take_back.Goals as goal

pub invariant_of-self : goal.invariant_of-self
invariant_of-self c =
    rw (c.truncate.ensures.items, c.truncate-2.ensures.items)
    (row_take c.saturating_sub-left.result c.self.inside.counts.items c.self.inside.inputs.items c.self.invariant)

pub returns : goal.returns
returns c =
    let ks = c.self.inside.counts.items in
    let vs = c.self.inside.inputs.items in
    let left = c.saturating_sub-left.result in
    let size : left ≡ length (zip ks vs) - c.args.many = omega (arith, length_zip ks vs c.self.invariant.paired) in
    rw (c.truncate.ensures.items, c.truncate-2.ensures.items)
    (zip_take left ks vs c.self.invariant.paired ∙
    subst (λ (r : List (ℕ × Input)). take left (zip ks vs) ≡ take (length r - c.args.many) r) c.self.view_is (ap (λ n. take n (zip ks vs)) size))
