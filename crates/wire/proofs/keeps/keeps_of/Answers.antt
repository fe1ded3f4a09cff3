use Rattle.std.proofs.Common.{◌≡◌, arith}
use Rattle.std.proofs.lemmas.Bool.{false≢true}
use Rattle.std.proofs.lemmas.Fmt.{decimal_injective}
use Rattle.wire.proofs.PairFields.{keeps_parts}
use Rattle.wire.proofs.keeps.keeps_of.Goals as goal
use Rattle.wire.proofs.keeps.keeps_of.Goals.{else-is_done-via-then-is_done+else-number-keepers, else-is_done-via-else-is_done}

pub returns-else-is_done-clause-none : goal.returns-else-is_done-clause-none
returns-else-is_done-clause-none c = λ k has.
    let n = c.in_ok-keeper.keeper in
    let p = c.in_ok-pair.pair in
    let parts = keeps_parts c.args.fields c.take_keeper.new.self c.take_pair.new.fields c.take_inode.new.fields c.take_inode-2.new.fields n p
    c.in_ok-log.log c.in_ok-fences.fences k c.in_ok-keeper.ensures.found.1 c.in_ok-pair.ensures.found.1 c.in_ok-log.ensures.found.1
    c.in_ok-fences.ensures.found.1 has.1 in
    elim c.else-is_done.branch [
      | else-is_done-via-then-is_done+else-number-keepers w ↦
          let keeper : n ≡ k.keeper = decimal_injective n k.keeper (omega (arith, c.in_ok-keeper.ensures.found.0))
          (omega (arith, has.0.keeper, k.pair.quorum.sized)) parts.0 in
          let keepers : p.quorum.keepers ≡ k.pair.quorum.keepers = decimal_injective p.quorum.keepers k.pair.quorum.keepers
          (omega (arith, p.quorum.sized)) (omega (arith, k.pair.quorum.sized)) parts.1 in
          omega (arith, has.0.keeper, keeper, keepers, w.if-number-keepers.false, w.number.ensures, w.keepers.ensures)
      | else-is_done-via-else-is_done w ↦ false≢true (w.if-is_done.ensures.1 parts.2)
    ]
