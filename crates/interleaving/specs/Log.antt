-- A log of edges, when it is honest for an interleaving, its cuts and its schedules.
use Rattle.std.specs.Prelude.{ℕ, ◌≡◌, ◌≢◌, ◌+◌, ◌<◌, ◌≤◌, ◌⊎◌, true, false, List, [], ◌∷◌, Contains}
use Rattle.interleaving.specs.Lists.{put, Each, EachPair, IsWithin}
use Rattle.interleaving.specs.Machine.{Machine, System, Turn, Step, Writes, counts, steps, Runs, run, at}

-- step `step` of hart `hart` comes after the first `count` steps of hart `other`
pub record Edge : Type 0 where
  pub hart : ℕ
  pub step : ℕ
  pub other : ℕ
  pub count : ℕ

-- what is kept of an interleaving
pub record Log (Input : Type 0) : Type 0 where
  pub edges : List Edge
  pub inputs : ℕ → ℕ → Input  -- of a hart at a count
  pub start : ℕ → ℕ  -- each hart's count at the start
  pub end : ℕ → ℕ  -- and at the end

-- a hart's step, by its number
pub record Place : Type 0 where
  pub hart : ℕ
  pub step : ℕ

-- the order that the edges demand: the least in which a hart's steps follow one another, and each edge holds of its
-- step and of the later ones
pub data Before (edges : List Edge) : Place → Place → Type 0 where
  Own : {a b : Place} → a.hart ≡ b.hart → a.step < b.step → Before edges a b
  Across : {a b : Place} (e : Edge) → Contains edges e → a.hart ≡ e.other → a.step < e.count → b.hart ≡ e.hart →
      e.step ≤ b.step → Before edges a b
  Through : {a b c : Place} → Before edges a b → Before edges b c → Before edges a c

-- each edge of a step below the counts is met by the counts
abbrev pub IsClosed : List Edge → (ℕ → ℕ) → Type 0
IsClosed edges cut = (e : Edge) → Contains edges e → e.step < cut e.hart → e.count ≤ cut e.other

-- a closed cut between the start and the end
pub record IsCut {Input : Type 0} (log : Log Input) (cut : ℕ → ℕ) : Type 0 where
  pub from_start : IsWithin log.start cut
  pub to_end : IsWithin cut log.end
  pub closed : IsClosed log.edges cut

-- the edges of the hart's next step are met
abbrev pub IsMet : List Edge → (ℕ → ℕ) → ℕ → Type 0
IsMet edges now hart = (e : Edge) → Contains edges e → e.hart ≡ hart → e.step ≡ now hart → e.count ≤ now e.other

-- an edge of the hart's next step is not met
abbrev pub HasUnmet : List Edge → (ℕ → ℕ) → ℕ → Type 0
HasUnmet edges now hart =
    (e : Edge) × Contains edges e × (e.hart ≡ hart) × (e.step ≡ now hart) × (now e.other < e.count)

-- the counts, once the hart has taken a step
abbrev pub bump : (ℕ → ℕ) → ℕ → ℕ → ℕ
bump now hart = put now hart (now hart + 1)

-- each step's edges are met where it stands
abbrev pub EachMet : {Hart Page Input : Type 0} → List Edge → (ℕ → ℕ) → List (Step Hart Page Input) → Type 0
EachMet edges now [] = Unit {0}
EachMet edges now (s ∷ rest) = IsMet edges now s.hart × EachMet edges (bump now s.hart) rest

module _ {Hart Page Input : Type 0} (system : System Hart Page Input) where
  -- the step's hart and number
  abbrev pub place : Step Hart Page Input → Place
  place s = record { hart = s.hart; step = system.count s.found }

  -- steps of different harts touch one page, and one of them writes it
  abbrev pub Conflict : Step Hart Page Input → Step Hart Page Input → Type 0
  Conflict s t =
      (s.hart ≢ t.hart) ×
      ((page : ℕ) × Contains s.effect.touched page × Contains t.effect.touched page ×
      (Writes s.effect page ⊎ Writes t.effect page))

  -- the steps have the log's inputs
  abbrev pub HasInputs : Log Input → List (Step Hart Page Input) → Type 0
  HasInputs log = Each (λ s. s.input ≡ log.inputs s.hart (system.count s.found))

  -- conflicting steps stand in the order that the edges demand
  abbrev pub IsOrdered : List Edge → List (Step Hart Page Input) → Type 0
  IsOrdered edges = EachPair (λ s t. Conflict s t → Before edges (place s) (place t))

  -- the log tells of this interleaving: it has its inputs and its counts at the start and at the end, its edges hold of
  -- it, and the order that they demand has each of its conflicts. That the start is closed keeps edges of steps before
  -- it, at which no schedule looks, from ordering the steps after it
  pub record IsHonest (log : Log Input) (m : Machine Hart Page) (turns : List (Turn Input)) : Type 0 where
    pub runs : Runs system m turns
    pub inputs : HasInputs log (steps system m turns)
    pub start : (hart : ℕ) → log.start hart ≡ counts system m hart
    pub end : (hart : ℕ) → log.end hart ≡ counts system (run system m turns) hart
    pub closed : IsClosed log.edges log.start
    pub met : EachMet log.edges log.start (steps system m turns)
    pub ordered : IsOrdered log.edges (steps system m turns)

-- the hart may go next towards the cut
abbrev pub MayGo : List Edge → (ℕ → ℕ) → (ℕ → ℕ) → ℕ → Type 0
MayGo edges cut now hart = (now hart < cut hart) × IsMet edges now hart

-- the harts may go in this order: the beginning of a schedule
abbrev pub Begins : List Edge → (ℕ → ℕ) → (ℕ → ℕ) → List ℕ → Type 0
Begins edges cut now [] = Unit {0}
Begins edges cut now (hart ∷ rest) = MayGo edges cut now hart × Begins edges cut (bump now hart) rest

-- the counts, once the harts have gone in this order
abbrev pub counts_after : (ℕ → ℕ) → List ℕ → ℕ → ℕ
counts_after now [] = now
counts_after now (hart ∷ rest) = counts_after (bump now hart) rest

-- the harts in this order, with the log's inputs
abbrev pub turns_of : {Input : Type 0} → (ℕ → ℕ → Input) → (ℕ → ℕ) → List ℕ → List (Turn Input)
turns_of inputs now [] = []
turns_of inputs now (hart ∷ rest) =
    record { hart = hart; input = inputs hart (now hart) } ∷ turns_of inputs (bump now hart) rest

-- the order takes each hart to the cut
abbrev pub IsComplete : (ℕ → ℕ) → (ℕ → ℕ) → List ℕ → Type 0
IsComplete cut now order = (hart : ℕ) → counts_after now order hart ≡ cut hart

-- a schedule of the log to the cut: a beginning that is complete
pub record IsSchedule {Input : Type 0} (log : Log Input) (cut : ℕ → ℕ) (order : List ℕ) : Type 0 where
  pub begins : Begins log.edges cut log.start order
  pub complete : IsComplete cut log.start order

module _ {Hart Page Input : Type 0} (system : System Hart Page Input) where
  -- some hart may go on from these counts and this machine
  abbrev pub GoesOn : List Edge → (ℕ → ℕ) → (ℕ → ℕ) → Machine Hart Page → Type 0
  GoesOn edges cut now m = (next : ℕ) × MayGo edges cut now next × (system.halted (m.harts next) ≡ false)

  -- stuck: some hart is below the cut, and each such hart is halted or has an unmet edge
  pub record IsStuck (edges : List Edge) (cut now : ℕ → ℕ) (m : Machine Hart Page) : Type 0 where
    pub below : (hart : ℕ) × (now hart < cut hart)
    pub held : (hart : ℕ) → now hart < cut hart → (system.halted (m.harts hart) ≡ true) ⊎ HasUnmet edges now hart

  -- what a replay of the log towards the cut gives, once its harts have gone in this order
  pub record IsReplayed (log : Log Input) (m : Machine Hart Page) (turns : List (Turn Input)) (cut : ℕ → ℕ)
      (order : List ℕ) : Type 0 where
    -- it runs
    pub runs : Runs system m (turns_of log.inputs log.start order)
    -- where it is complete, it is at the cut as the interleaving was
    pub outcome : IsComplete cut log.start order →
        run system m (turns_of log.inputs log.start order) ≡ at system m turns cut
    -- while a hart is below the cut, some hart goes on
    pub goes_on : (hart : ℕ) → counts_after log.start order hart < cut hart →
        GoesOn log.edges cut (counts_after log.start order) (run system m (turns_of log.inputs log.start order))
    -- so it is not stuck
    pub not_stuck :
        IsStuck log.edges cut (counts_after log.start order) (run system m (turns_of log.inputs log.start order)) → ⊥

  -- in whichever order its harts go, a replay of an honest log to a closed cut runs, is never stuck, and ends at the
  -- machine at the cut
  abbrev pub Confluence : Type 0
  Confluence =
      (log : Log Input) (m : Machine Hart Page) (turns : List (Turn Input)) (cut : ℕ → ℕ) (order : List ℕ) →
      IsHonest system log m turns → IsCut log cut → Begins log.edges cut log.start order →
      IsReplayed log m turns cut order

  -- a machine is not both stuck and able to go on
  abbrev pub StuckCannotGoOn : Type 0
  StuckCannotGoOn =
      (edges : List Edge) (cut now : ℕ → ℕ) (m : Machine Hart Page) →
      IsStuck edges cut now m → GoesOn edges cut now m → ⊥

  -- where only the first harts are below the cut, it is at the cut, goes on or is stuck
  abbrev pub OneOfThree : Type 0
  OneOfThree =
      (edges : List Edge) (cut now : ℕ → ℕ) (m : Machine Hart Page) (crew : ℕ) →
      ((hart : ℕ) → crew ≤ hart → cut hart ≤ now hart) →
      IsWithin cut now ⊎ GoesOn edges cut now m ⊎ IsStuck edges cut now m
