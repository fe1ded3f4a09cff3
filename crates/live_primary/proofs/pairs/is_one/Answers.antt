use Rattle.std.proofs.Common.{◌≡◌, ◌↔◌, Option, sym, subst}
use Rattle.std.specs.Prelude.{IfSome, IsTrue}
use Rattle.wire.specs.declared.pairs.Pair.{Pair}
use Rattle.live_primary.proofs.OnePair.{pairs_told}
use Rattle.live_primary.proofs.pairs.is_one.Goals as goal

pub returns-in-Some : goal.returns-in-Some
returns-in-Some c =
    let same : IsTrue c.eq.result ↔ (c.args.pair.now ≡ c.in-Some.before) = pairs_told c.args.pair.now c.in-Some.before c.eq.result c.eq.ensures in
    subst (λ (o : Option Pair). IsTrue c.eq.result ↔ IfSome o (λ earlier. c.args.pair.now ≡ earlier)) (sym c.in-Some.is) same
