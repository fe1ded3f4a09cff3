use Rattle.std.proofs.Common.{rules, arith, length, length-set, ◌≡◌, ◌<◌, ◌∙◌, sym}
use Rattle.ft_types.proofs.Zips.{all_equal}
use Rattle.book_modes.proofs.Copies.{one_copied}
use Rattle.book_modes.proofs.due.dues_copied.Goals as goal

pub loop-hart-preserved : goal.loop-hart-preserved
loop-hart-preserved c =
    let old = c.args.due.now in
    let new = c.loop-hart.copied in
    let i = c.loop-hart.invariant in
    let many : length new ≡ length old = i.wide ∙ sym (search rules) in
    let there : c.loop-hart.hart < length old = omega (arith, i.wide, many, c.loop-hart-test.true) in
    record {
      wide = length-set new c.loop-hart.hart c.copy.result ∙ i.wide;
      same =
          one_copied old new c.loop-hart.hart c.index-due-hart.result c.copy.result there many c.copy.ensures i.same;
    }

pub returns : goal.returns
returns c =
    all_equal c.loop-hart.copied c.args.due.now (c.loop-hart.invariant.wide ∙ sym (search rules))
    (λ i d lt. c.loop-hart.invariant.same i d (omega (arith, lt, c.loop-hart.invariant.wide, c.loop-hart-test.false)))
