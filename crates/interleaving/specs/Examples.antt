-- Three small logs of the counters: an honest one, and two that lack one part of honesty each, and go wrong.
use Rattle.std.specs.Prelude.{ℕ, ◌≡◌, ◌≢◌, ◌↔◌, ◌==◌, List, [], ◌∷◌, Option, Some, map, if◌then◌else◌}
use Rattle.interleaving.specs.Machine.{Machine, System, Turn, counts, steps, Runs, run, at}
use Rattle.interleaving.specs.Log.{Edge, Log, HasInputs, EachMet, IsOrdered, IsClosed, IsHonest, IsCut, IsSchedule, turns_of}
use Rattle.interleaving.specs.Recorder.{log_of}
use Rattle.interleaving.specs.Stored.{Store, system_of, view, run_from}
use Rattle.interleaving.specs.Counters.{counters}
use Rattle.interleaving.specs.declared.counters.Counter.{Counter}
use Rattle.interleaving.specs.declared.counters.Act.{Act}
use Rattle.interleaving.specs.declared.counters.Act.TheVariants as act

module _ {Hart Page Input : Type 0} (system : System Hart Page Input) where
  -- what an honest log has beside a start that is closed and an order that has the conflicts
  pub record Tells (log : Log Input) (m : Machine Hart Page) (turns : List (Turn Input)) : Type 0 where
    pub runs : Runs system m turns
    pub inputs : HasInputs system log (steps system m turns)
    pub start : (hart : ℕ) → log.start hart ≡ counts system m hart
    pub end : (hart : ℕ) → log.end hart ≡ counts system (run system m turns) hart
    pub met : EachMet log.edges log.start (steps system m turns)

  -- these are the parts of honesty
  abbrev pub PartsOfHonesty : Type 0
  PartsOfHonesty =
      (log : Log Input) (m : Machine Hart Page) (turns : List (Turn Input)) →
      IsHonest system log m turns ↔
      (Tells log m turns × IsClosed log.edges log.start × IsOrdered system log.edges (steps system m turns))

  -- a schedule of the log to its end does not leave the machine of its interleaving
  pub record GoesWrong (log : Log Input) (m : Machine Hart Page) (turns : List (Turn Input))
      (order : List ℕ) : Type 0 where
    pub is_cut : IsCut log log.end
    pub schedule : IsSchedule log log.end order
    pub differs : run system m (turns_of log.inputs log.start order) ≢ at system m turns log.end

-- the counters as a system
abbrev pub counting : System (Option Counter) (Option ℕ) Act
counting = system_of counters

-- a hart with this count, which loaded this
abbrev pub hart_at : ℕ → ℕ → Counter
hart_at count value = record { count = count; value = value }

-- the hart loads page 0
abbrev pub loads : ℕ → Turn Act
loads hart = record { hart = hart; input = act.Load 0 }

-- the hart stores its new count on the page
abbrev pub stores : ℕ → ℕ → Turn Act
stores hart page = record { hart = hart; input = act.Store page }

-- An honest log, the recorder's, of three harts and two pages.

-- three harts and two pages, all at 0
abbrev pub three : Store Counter ℕ
three = record { harts = hart_at 0 0 ∷ hart_at 0 0 ∷ hart_at 0 0 ∷ []; pages = 0 ∷ 0 ∷ [] }

-- hart 1 loads what hart 0 stored first, and stores where hart 2 stored
abbrev pub crossing : List (Turn Act)
crossing = stores 0 0 ∷ loads 1 ∷ stores 0 0 ∷ stores 2 1 ∷ stores 1 1 ∷ []

-- its log
abbrev pub crossing_log : Log Act
crossing_log = log_of counting (act.Load 0) (view counters three) crossing

-- what it leaves
abbrev pub crossed : Store Counter ℕ
crossed = record { harts = hart_at 2 0 ∷ hart_at 2 1 ∷ hart_at 1 0 ∷ []; pages = 2 ∷ 2 ∷ [] }

-- the order of the interleaving
abbrev pub own_order : List ℕ
own_order = 0 ∷ 1 ∷ 0 ∷ 2 ∷ 1 ∷ []

-- another
abbrev pub other_order : List ℕ
other_order = 2 ∷ 0 ∷ 1 ∷ 1 ∷ 0 ∷ []

-- both are schedules to the end, and leave the same
pub record EndsAlike : Type 0 where
  pub honest : IsHonest counting crossing_log (view counters three) crossing
  pub is_cut : IsCut crossing_log crossing_log.end
  pub one : IsSchedule crossing_log crossing_log.end own_order
  pub other : IsSchedule crossing_log crossing_log.end other_order
  pub one_ends : run_from counters (Some three)
      (turns_of crossing_log.inputs crossing_log.start own_order) ≡ Some crossed
  pub other_ends :
      run_from counters (Some three) (turns_of crossing_log.inputs crossing_log.start other_order) ≡ Some crossed

-- A log with an edge of a step before the start: the order has it, but no schedule looks at it.

-- hart 0 starts at count 7, and hart 1 at 5
abbrev pub late : Store Counter ℕ
late = record { harts = hart_at 7 0 ∷ hart_at 5 0 ∷ []; pages = 0 ∷ [] }

-- hart 1 loads what hart 0 stored
abbrev pub passing : List (Turn Act)
passing = stores 0 0 ∷ loads 1 ∷ []

-- hart 1's steps from step 0 on come after hart 0's first 8
abbrev pub early_edge : Edge
early_edge = record { hart = 1; step = 0; other = 0; count = 8 }

-- the log with this edge alone
abbrev pub early_log : Log Act
early_log =
    record {
      edges = early_edge ∷ [];
      inputs = λ hart count. if hart == 0 then act.Store 0 else act.Load 0;
      start = counts counting (view counters late);
      end = counts counting (run counting (view counters late) passing);
    }

-- all of honesty but a closed start does not do: hart 1 may load first
pub record StartMatters : Type 0 where
  pub tells : Tells counting early_log (view counters late) passing
  pub ordered : IsOrdered counting early_log.edges (steps counting (view counters late) passing)
  pub not_closed : IsClosed early_log.edges early_log.start → ⊥
  pub wrong : GoesWrong counting early_log (view counters late) passing (1 ∷ 0 ∷ [])

-- A log with the edges of hand-overs alone: the taker of a page hands it on before it has taken a step.

-- a page goes from one hart to another, each at its count
pub record HandOver : Type 0 where
  pub giver : ℕ
  pub given : ℕ
  pub taker : ℕ
  pub taken : ℕ

-- what the taker does from now on comes after what the giver did
abbrev pub edge_of : HandOver → Edge
edge_of h = record { hart = h.taker; step = h.taken; other = h.giver; count = h.given }

-- hart 0 stores, and hart 2 loads what it stored
abbrev pub handing_on : List (Turn Act)
handing_on = stores 0 0 ∷ loads 2 ∷ []

-- between them page 0 goes from hart 0 to hart 1, and from that to hart 2
abbrev pub hand_overs : List HandOver
hand_overs =
    record { giver = 0; given = 1; taker = 1; taken = 0 } ∷ record { giver = 1; given = 0; taker = 2; taken = 0 } ∷ []

-- the log with the edges of these alone
abbrev pub handed_log : Log Act
handed_log =
    record {
      edges = map edge_of hand_overs;
      inputs = λ hart count. if hart == 0 then act.Store 0 else act.Load 0;
      start = counts counting (view counters three);
      end = counts counting (run counting (view counters three) handing_on);
    }

-- all of honesty but the order of the conflict does not do: hart 2 may load first
pub record HandOversLoseOrder : Type 0 where
  pub tells : Tells counting handed_log (view counters three) handing_on
  pub closed : IsClosed handed_log.edges handed_log.start
  pub lost : IsOrdered counting handed_log.edges (steps counting (view counters three) handing_on) → ⊥
  pub wrong : GoesWrong counting handed_log (view counters three) handing_on (2 ∷ 0 ∷ [])
