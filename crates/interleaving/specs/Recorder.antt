-- A recorder: the edges that it writes for a run, which make an honest log.
use Rattle.std.specs.Prelude.{ℕ, ◌≡◌, ◌+◌, ◌==◌, ◌&&◌, Bool, true, false, List, [], ◌∷◌, ◌++◌, Option, Some, None, if◌then◌else◌}
use Rattle.interleaving.specs.Machine.{Write, System, Machine, Turn, Step, counts, steps, Runs, run}
use Rattle.interleaving.specs.Log.{Edge, Log, HasInputs, IsHonest}

-- the write is there, and of the page
abbrev pub is_write : {Page : Type 0} → Option (Write Page) → ℕ → Bool
is_write None page = false
is_write (Some w) page = w.page == page

-- the page is one of these
abbrev pub has : List ℕ → ℕ → Bool
has [] page = false
has (x ∷ xs) page = if x == page then true else has xs page

module _ {Hart Page Input : Type 0} (system : System Hart Page Input) where
  -- t comes after s
  abbrev pub edge_after : Step Hart Page Input → Step Hart Page Input → Edge
  edge_after t s =
      record { hart = t.hart; step = system.count t.found; other = s.hart; count = system.count s.found + 1 }

  -- t's edges for a page that it touches, by the steps before it, latest first: t comes after the last that wrote the
  -- page and, if t writes it, after each that touched it since
  abbrev pub edges_at : List (Step Hart Page Input) → Step Hart Page Input → ℕ → List Edge
  edges_at [] t page = []
  edges_at (s ∷ past) t page =
      if is_write s.effect.write page
      then edge_after t s ∷ []
      else (
      if is_write t.effect.write page && has s.effect.touched page
      then edge_after t s ∷ edges_at past t page
      else edges_at past t page
      )

  -- t's edges for each of these pages
  abbrev pub edges_for : List (Step Hart Page Input) → Step Hart Page Input → List ℕ → List Edge
  edges_for past t [] = []
  edges_for past t (page ∷ pages) = edges_at past t page ++ edges_for past t pages

  -- the edges of these steps, which come after the past ones
  abbrev pub recorded : List (Step Hart Page Input) → List (Step Hart Page Input) → List Edge
  recorded past [] = []
  recorded past (t ∷ rest) = edges_for past t t.effect.touched ++ recorded (t ∷ past) rest

  -- the log has these edges, and the interleaving's inputs and counts
  pub record IsRecording (log : Log Input) (m : Machine Hart Page) (turns : List (Turn Input)) : Type 0 where
    pub edges : log.edges ≡ recorded [] (steps system m turns)
    pub inputs : HasInputs system log (steps system m turns)
    pub start : (hart : ℕ) → log.start hart ≡ counts system m hart
    pub end : (hart : ℕ) → log.end hart ≡ counts system (run system m turns) hart

  -- a recording of a run is honest
  abbrev pub RecordsHonestly : Type 0
  RecordsHonestly =
      (log : Log Input) (m : Machine Hart Page) (turns : List (Turn Input)) → Runs system m turns →
      IsRecording log m turns → IsHonest system log m turns

  -- the input of the step of the hart with this number; `idle` where there is none
  abbrev pub input_at : Input → List (Step Hart Page Input) → ℕ → ℕ → Input
  input_at idle [] hart count = idle
  input_at idle (s ∷ rest) hart count =
      if s.hart == hart && system.count s.found == count then s.input else input_at idle rest hart count

  -- the recorder's log of a run
  abbrev pub log_of : Input → Machine Hart Page → List (Turn Input) → Log Input
  log_of idle m turns =
      record {
        edges = recorded [] (steps system m turns);
        inputs = input_at idle (steps system m turns);
        start = counts system m;
        end = counts system (run system m turns);
      }

  -- each run has an honest log, the recorder's
  abbrev pub RecordsEachRun : Type 0
  RecordsEachRun =
      (idle : Input) (m : Machine Hart Page) (turns : List (Turn Input)) → Runs system m turns →
      IsHonest system (log_of idle m turns) m turns
