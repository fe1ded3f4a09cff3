-- A log stays honest where implied edges are dropped.
use Rattle.std.proofs.Common.{◌≡◌, ℕ, ◌≤◌, List, [], ◌∷◌, Contains, sym, subst}
use Rattle.interleaving.specs.Lists.{Each, EachPair}
use Rattle.interleaving.specs.Machine.{System, Step, steps}
use Rattle.interleaving.specs.Log.{Edge, Before, EachMet, Conflict, place, bump}
use Rattle.interleaving.specs.Cuts.{StaysHonest}
use Rattle.interleaving.proofs.Cuts.{same_order}
use Rattle.interleaving.proofs.Each.{each_more}
use Rattle.interleaving.proofs.Runs.{in_turn, from_now}

module _ {Hart Page Input : Type 0} (system : System Hart Page Input) where
  met_fewer : (few all : List Edge) → ((e : Edge) → Contains few e → Contains all e) → (now : ℕ → ℕ)
      (ss : List (Step Hart Page Input)) → EachMet all now ss → EachMet few now ss
  met_fewer few all among now [] met = tt
  met_fewer few all among now (s ∷ ss) met =
      ((λ e is_edge. met.0 e (among e is_edge)), met_fewer few all among (bump now s.hart) ss met.1)

  -- each pair, where something holds of each
  pairs_with : (P : Step Hart Page Input → Type 0) (R Q : Step Hart Page Input → Step Hart Page Input → Type 0) →
      ((s t : Step Hart Page Input) → P s → R s t → Q s t) → (xs : List (Step Hart Page Input)) →
      Each P xs → EachPair R xs → EachPair Q xs
  pairs_with P R Q f [] p r = tt
  pairs_with P R Q f (x ∷ xs) p r = (each_more (R x) (Q x) (λ y. f x y p.0) xs r.0, pairs_with P R Q f xs p.1 r.1)

  pub stays_honest : StaysHonest system
  stays_honest log few m turns honest enough =
      record {
        runs = honest.runs;
        inputs = honest.inputs;
        start = honest.start;
        end = honest.end;
        closed = enough.start_closed;
        met = met_fewer few log.edges enough.among log.start (steps system m turns) honest.met;
        ordered =
            pairs_with (λ s. log.start s.hart ≤ system.count s.found)
            (λ s t. Conflict system s t → Before log.edges (place system s) (place system t))
            (λ s t. Conflict system s t → Before few (place system s) (place system t))
            (λ s t from before conflict.
            ((same_order few log.edges log.start enough).before (place system s) (place system t) from).1
            (before conflict))
            (steps system m turns)
            (subst (λ n. Each (λ s. n s.hart ≤ system.count s.found) (steps system m turns)) (sym start)
            (from_now system (λ hart. system.count (m.harts hart)) (steps system m turns)
            (in_turn system m turns honest.runs)))
            honest.ordered;
      }
    where
      start : log.start ≡ (λ hart. system.count (m.harts hart))
      start = λ i hart. honest.start hart i
