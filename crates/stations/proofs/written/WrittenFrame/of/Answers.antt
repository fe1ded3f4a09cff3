use Rattle.std.proofs.Common.{◌≡◌, ◌∷◌, [], List, ℕ, rules, subst}
use Rattle.fragment_codec.specs.Streams.{spelling, Splits}
use Rattle.stations.proofs.Spellings.{has_version, as_written}
use Rattle.stations.proofs.written.WrittenFrame.of.Goals as goal

pub bounds-came-2 : goal.bounds-came-2
bounds-came-2 c = has_version c.args.came.now c.args.frame c.requires

pub invariant_of-result : goal.invariant_of-result
invariant_of-result c =
    let same : c.args.came.now ≡ spelling c.args.frame = as_written c.args.came.now c.args.frame c.requires cc in (
      rw (← same) (search rules),
      subst (λ (bytes : List ℕ). Splits bytes (c.args.frame ∷ []) []) same c.requires,
    )
