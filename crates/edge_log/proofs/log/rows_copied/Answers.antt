use Rattle.std.proofs.Common.{rules, arith, length, length-set, ◌≡◌, ◌<◌, ◌∙◌, sym}
use Rattle.ft_types.proofs.Zips.{all_equal}
use Rattle.edge_log.proofs.Copies.{one_copied}
use Rattle.edge_log.proofs.log.rows_copied.Goals as goal

pub loop-row-preserved : goal.loop-row-preserved
loop-row-preserved c =
    let old = c.args.rows.now in
    let new = c.loop-row.copied in
    let i = c.loop-row.invariant in
    let many : length new ≡ length old = i.wide ∙ sym (search rules) in
    let there : c.loop-row.row < length old = omega (arith, i.wide, many, c.loop-row-test.true) in
    record {
      wide = length-set new c.loop-row.row c.in_ok-copied.field-0 ∙ i.wide;
      same =
          one_copied old new c.loop-row.row c.index-rows-row.result c.in_ok-copied.field-0 there many c.in_ok-copied.ensures i.same;
    }

pub returns : goal.returns
returns c =
    all_equal c.loop-row.copied c.args.rows.now (c.loop-row.invariant.wide ∙ sym (search rules))
    (λ i d lt. c.loop-row.invariant.same i d (omega (arith, lt, c.loop-row.invariant.wide, c.loop-row-test.false)))
