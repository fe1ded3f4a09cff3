use Rattle.std.proofs.Common.{◌≡◌, Some, drop}
use Rattle.interleaving.specs.Stored.{run_from}
use Rattle.interleaving.specs.Counters.{counters, store_of, turns_as}
use Rattle.interleaving.proofs.counters.Counters.run.Given as goal

-- the turns that are left lead from here to where all lead from the start
abbrev pub invariant-loop-turn : goal.invariant-loop-turn
invariant-loop-turn l =
    run_from counters (Some (store_of l.self)) (turns_as (drop l.turn-index l.turns)) ≡
    run_from counters (Some (store_of l.initial.self)) (turns_as l.turns)
