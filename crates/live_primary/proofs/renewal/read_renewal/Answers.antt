use Rattle.std.proofs.Common.{◌≡◌, ◌≤◌, ◌++◌, ◌∷◌, [], ℕ, List, Option, Some, rules, length, map, ap, sym, subst, ◌∙◌, arith}
use Rattle.std.specs.Prelude.{IfSome}
use Rattle.std.proofs.lemmas.List.{map-append}
use Rattle.wire.specs.declared.pairs.Pair.{Pair}
use Rattle.go_live.proofs.Distinct.{HasThese, member_more, counted_below}
use Rattle.live_primary.specs.Renewals.{AreHandedBy}
use Rattle.live_primary.proofs.Renewing.{SoFarGiven, one_given}
use Rattle.live_primary.proofs.renewal.read_renewal.Goals as goal

pub loop-number-preserved : goal.loop-number-preserved
loop-number-preserved g c =
    let so_far = c.loop-number.invariant in
    let other = c.in_ok-other.other in
    let logs = c.loop-number.logs.items in
    let below = c.with-givers.ensures.below in
    let has : HasThese (so_far.givers ++ other.giver ∷ []) c.with-givers.result =
    rw c.with-givers.ensures.value (member_more so_far.givers other.giver c.loop-number.givers (omega (arith, below)) so_far.has) in
    let more =
    one_given c.args.guest c.args.keeper c.args.term c.loop-number.pair c.loop-number.givers c.with-givers.result (map (λ log. log.items) logs) other.pair
    other.giver other.frames.items so_far c.in_ok-other.ensures.same c.in_ok-other.ensures.handed has in
    subst (λ (all : List (List ℕ)). SoFarGiven c.args.guest c.args.keeper c.args.term (Some other.pair) c.with-givers.result all)
    (sym (ap (map (λ log. log.items)) c.in_ok-push.ensures.items ∙ map-append (λ log. log.items) logs (other.frames ∷ []))) more

pub returns : goal.returns
returns g c =
    let so_far = c.loop-number.invariant in
    let pair = c.in-Some.pair in
    let all = map (λ log. log.items) c.loop-number.logs.items in
    let sized = so_far.has.sized in
    let few : pair.quorum.keepers ≤ 5 = search rules in
    let counted = counted_below c.loop-number.givers so_far.givers so_far.has.members pair.quorum.keepers (omega (arith, sized, few)) in
    let enough = c.in_ok-look_enough.ensures.enough in
    record {
      own = c.in_ok-look_enough.ensures.own;
      givers = so_far.givers;
      handed = subst (λ (before : Option Pair). IfSome before (λ p. AreHandedBy c.args.guest p c.args.keeper c.args.term so_far.givers all)) c.in-Some.is so_far.some;
      enough = omega (arith, counted, enough);
    }
