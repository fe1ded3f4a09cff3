-- More of schedules: each beginning stands at a cut of its own and goes on to a schedule, and there always is one.
use Rattle.std.specs.Prelude.{ℕ, ◌≡◌, List, ◌++◌, map, filter}
use Rattle.interleaving.specs.Machine.{Machine, System, Turn, steps, inside, run, at}
use Rattle.interleaving.specs.Log.{Edge, Log, IsHonest, IsCut, Begins, IsSchedule, counts_after, turns_of}

-- a front of a beginning is a beginning
abbrev pub FrontBegins : Type 0
FrontBegins =
    (edges : List Edge) (cut now : ℕ → ℕ) (order rest : List ℕ) →
    Begins edges cut now (order ++ rest) → Begins edges cut now order

module _ {Hart Page Input : Type 0} (system : System Hart Page Input) where
  -- the counts that a beginning reaches are a cut, and its machine is the interleaving's there
  abbrev pub Reached : Type 0
  Reached =
      (log : Log Input) (m : Machine Hart Page) (turns : List (Turn Input)) (cut : ℕ → ℕ) (order : List ℕ) →
      IsHonest system log m turns → IsCut log cut → Begins log.edges cut log.start order →
      IsCut log (counts_after log.start order) ×
      (run system m (turns_of log.inputs log.start order) ≡ at system m turns (counts_after log.start order))

  -- the start of an honest log is a cut, and so is its end
  abbrev pub EndsAreCuts : Type 0
  EndsAreCuts =
      (log : Log Input) (m : Machine Hart Page) (turns : List (Turn Input)) → IsHonest system log m turns →
      IsCut log log.start × IsCut log log.end

  -- each beginning of an honest log's is that of a schedule
  abbrev pub Extends : Type 0
  Extends =
      (log : Log Input) (m : Machine Hart Page) (turns : List (Turn Input)) (cut : ℕ → ℕ) (order : List ℕ) →
      IsHonest system log m turns → IsCut log cut → Begins log.edges cut log.start order →
      (rest : List ℕ) × IsSchedule log cut (order ++ rest)

  -- the harts of the interleaving's steps inside the cut, in its order
  abbrev pub order_at : Machine Hart Page → List (Turn Input) → (ℕ → ℕ) → List ℕ
  order_at m turns cut = map (λ s. s.hart) (filter (inside system cut) (steps system m turns))

  -- the interleaving's own order is a schedule
  abbrev pub OwnOrder : Type 0
  OwnOrder =
      (log : Log Input) (m : Machine Hart Page) (turns : List (Turn Input)) (cut : ℕ → ℕ) →
      IsHonest system log m turns → IsCut log cut → IsSchedule log cut (order_at m turns cut)
