use Rattle.std.proofs.Common.{◌≡◌, arith}
use Rattle.std.proofs.lemmas.Fmt.{decimal_injective}
use Rattle.wire.proofs.Reading.{heads, tails}
use Rattle.wire.proofs.PairFields.{none_unless}
use Rattle.wire.proofs.pairs.take_quorum.Goals as goal

pub returns-clause-none : goal.returns-clause-none
returns-clause-none c = none_unless c.new.result _ (λ no q rest e.
    let k = c.in_ok-keepers.keepers in
    let n = c.in_ok-need.need in
    let keepers : k ≡ q.keepers = decimal_injective k q.keepers (omega (arith, c.in_ok-keepers.ensures.found.0)) (omega (arith, q.sized))
    (heads _ _ _ _ _ c.in_ok-keepers.ensures.found.1 e) in
    let need : n ≡ q.need = decimal_injective n q.need (omega (arith, c.in_ok-need.ensures.found.0)) (omega (arith, q.sized))
    (heads _ _ _ _ _ c.in_ok-need.ensures.found.1 (tails _ _ _ _ _ c.in_ok-keepers.ensures.found.1 e)) in
    no (c.new.ensures.exact.1 (omega (arith, need, q.sized), omega (arith, need, keepers, q.sized), omega (arith, keepers, q.sized))))
