-- A run of a leg whose conflicts are covered: private words.
use Rattle.std.specs.Prelude.{ℕ, ◌≡◌, ◌≢◌, ◌<◌, ◌≤◌, ◌+◌, ◌-◌, ◌⊎◌, true, false, List, [], ◌∷◌, length, Some, slice_get, slice_set, slice_index, replicate, Contains, AllPairs}
use Rattle.ft_types.specs.declared.names.TheConstants.{HART_LIMIT, HART_ROW}
use Rattle.ft_types.specs.Counts.{count_at}
use Rattle.interleaving.specs.Lists.{Each}
use Rattle.interleaving.specs.Machine.{Writes, Effect}
use Rattle.interleaving.specs.Log.{Edge, Before, Begins, IsOrdered, HasUnmet, counts_after}
use Rattle.interleaving.specs.Stored.{system_of, written_in}
use Rattle.input_log.specs.declared.Input.{Input}
use Rattle.rv32_hart.specs.Hart.{Hart}
use Rattle.rv32_hart.specs.Hardware.{hardware}
use Rattle.rv32_hart.specs.Step.{effect}
use Rattle.guest_image.specs.Machine.{MachineState}
use Rattle.hart_lease.specs.Runs.{run_of, counts_of}
use Rattle.hart_replay.specs.declared.plans.PlannedLeg.{PlannedLeg}
use Rattle.hart_replay.specs.Plans.{log_of}
use Rattle.hart_replay.specs.Replays.{leg_turns}
use Rattle.log_audit.specs.declared.befores.Before.{Before as BeforeEntry}
use Rattle.log_audit.specs.machinery.Marks.{MarkedView, read_mark, written_mark, unmarked}
use Rattle.log_audit.specs.machinery.Befores.{row_of, AreRising}
use Rattle.log_audit.specs.Coverage.{TakenStep, steps_in, place_in}

-- the machine from which the harts went; the harts, the pages with the steps that used them last, and what the edges put before steps
pub record HartsView : Type 0 where
  pub start : MachineState
  pub harts : List Hart
  pub pages : MarkedView
  pub befores : List (List BeforeEntry)

abbrev pub machine_of : HartsView → MachineState
machine_of v = record { harts = v.harts; pages = v.pages.contents }

-- as many harts and pages as at the start, each hart in its place
pub record AreHarts (v : HartsView) : Type 0 where
  pub few : length v.start.harts ≤ HART_LIMIT
  pub harts : length v.harts ≡ length v.start.harts
  pub pages : length v.pages.contents ≡ length v.start.pages
  pub marks : length v.pages.uses ≡ length v.pages.contents
  pub places : (hart : ℕ) (h : Hart) → slice_get v.harts hart ≡ Some h → (h.number ≡ hart) × (h.harts ≡ length v.start.harts)

-- nothing was done yet
abbrev pub begun : MachineState → HartsView
begun m = record { start = m; harts = m.harts; pages = unmarked m.pages; befores = replicate HART_ROW [] }

-- ---- what the edges put before steps

-- Of the edges of steps below `reach`, by hart, where so many steps were taken: the rows tell all that they put before a step, and
-- nothing else.
pub record IsKnown (edges : List Edge) (reach now : ℕ → ℕ) (rows : List (List BeforeEntry)) : Type 0 where
  pub many : length rows ≡ HART_ROW
  pub rising : AreRising rows
  pub growing : (hart : ℕ) → AllPairs (λ a b. (g : ℕ) → slice_index a.steps g ≤ slice_index b.steps g) (row_of rows hart)
  pub since : (hart : ℕ) (b : BeforeEntry) → Contains (row_of rows hart) b → b.since < reach hart
  pub bound : (hart : ℕ) (b : BeforeEntry) → Contains (row_of rows hart) b → (g : ℕ) → slice_index b.steps g ≤ now g
  -- what an entry has comes before
  pub sound : (hart : ℕ) (b : BeforeEntry) → Contains (row_of rows hart) b → (g x : ℕ) → x < slice_index b.steps g →
      Before edges (record { hart = g; step = x }) (record { hart = hart; step = b.since })
  -- an entry has what comes before what it has
  pub closed : (hart : ℕ) (b : BeforeEntry) → Contains (row_of rows hart) b → (other x : ℕ) → x < slice_index b.steps other →
      (a : BeforeEntry) → Contains (row_of rows other) a → a.since ≤ x → (g : ℕ) → slice_index a.steps g ≤ slice_index b.steps g
  -- and what the edges name
  pub each : (e : Edge) → Contains edges e → e.step < reach e.hart →
      (b : BeforeEntry) × Contains (row_of rows e.hart) b × (b.since ≤ e.step) × (e.count ≤ slice_index b.steps e.other)

-- so many first steps of each hart are what comes before the hart's steps from now on
pub record InForce (rows : List (List BeforeEntry)) (hart : ℕ) (before : List ℕ) : Type 0 where
  pub all : (b : BeforeEntry) → Contains (row_of rows hart) b → (g : ℕ) → slice_index b.steps g ≤ slice_index before g
  pub some : (g : ℕ) → (slice_index before g ≡ 0) ⊎ ((b : BeforeEntry) × Contains (row_of rows hart) b × (slice_index before g ≤ slice_index b.steps g))

-- ---- runs

-- the step's uses of pages are marked, or later ones of its hart
abbrev pub IsNoted : MachineState → MarkedView → TakenStep → Type 0
IsNoted m p s =
    (page : ℕ) →
    (Contains s.effect.touched page → ((place_in m s).step < read_mark p page s.hart) ⊎ ((place_in m s).step < written_mark p page s.hart)) ×
    (Writes s.effect page → (place_in m s).step < written_mark p page s.hart)

-- one of the steps, of this hart, has this mark, and what is wanted of it
abbrev pub IsMarkOf : MachineState → List TakenStep → (TakenStep → Type 0) → ℕ → ℕ → Type 0
IsMarkOf m taken wanted hart mark = (s : TakenStep) × Contains taken s × (s.hart ≡ hart) × ((place_in m s).step + 1 ≡ mark) × wanted s

-- The harts went in this order, which begins a schedule of the leg, from where they started to what they are. Each conflict of these
-- steps is ordered by the edges, the last uses of each page are marked, and what the edges put before steps below `reach` is known.
pub record IsCovered (leg : PlannedLeg) (order : List ℕ) (reach : ℕ → ℕ) (v : HartsView) : Type 0 where
  pub begins : Begins (log_of leg).edges (count_at leg.ends) (log_of leg).start order
  pub run : run_of v.start (leg_turns leg order) ≡ Some (machine_of v)
  pub pages : length v.pages.contents ≡ length v.start.pages
  pub harts : length v.harts ≡ length v.start.harts
  pub counts : (hart : ℕ) → counts_after (log_of leg).start order hart ≡ counts_of (machine_of v) hart
  pub ordered : IsOrdered (system_of (hardware (length v.start.pages))) (log_of leg).edges (steps_in leg v.start order)
  pub noted : Each (IsNoted v.start v.pages) (steps_in leg v.start order)
  pub read_marks : (page hart : ℕ) → (read_mark v.pages page hart ≡ 0) ⊎
      IsMarkOf v.start (steps_in leg v.start order) (λ s. Contains s.effect.touched page) hart (read_mark v.pages page hart)
  pub written_marks : (page hart : ℕ) → (written_mark v.pages page hart ≡ 0) ⊎
      IsMarkOf v.start (steps_in leg v.start order) (λ s. Writes s.effect page) hart (written_mark v.pages page hart)
  pub wide : (hart : ℕ) (b : BeforeEntry) → Contains (row_of v.befores hart) b → length b.steps ≡ HART_ROW
  pub known : IsKnown (log_of leg).edges reach (counts_of (machine_of v)) v.befores

-- in some order
abbrev pub IsOn : PlannedLeg → HartsView → Type 0
IsOn leg v = (order : List ℕ) × IsCovered leg order (counts_of (machine_of v)) v

-- ---- one step

-- what the hart does on these inputs
abbrev pub effect_in : HartsView → Hart → List Input → Effect Hart (List ℕ)
effect_in v h inputs = effect (length v.pages.contents) h inputs (slice_get v.pages.contents)

-- the hart, which was found so, took its step: it is marked on the pages that it used, and the steps of others that conflict with
-- it are among those that come before
pub record TakesStep (hart : ℕ) (h : Hart) (inputs : List Input) (before : List ℕ) (b c : HartsView) : Type 0 where
  pub found : slice_get b.harts hart ≡ Some h
  pub running : h.halted ≡ false
  pub harts : c.harts ≡ slice_set b.harts hart (effect_in b h inputs).hart
  pub contents : c.pages.contents ≡ written_in b.pages.contents (effect_in b h inputs).write
  pub start : c.start ≡ b.start
  pub befores : c.befores ≡ b.befores
  pub others : (page other : ℕ) → other ≢ hart →
      (read_mark c.pages page other ≡ read_mark b.pages page other) × (written_mark c.pages page other ≡ written_mark b.pages page other)
  pub read : (page : ℕ) → (read_mark c.pages page hart ≡ read_mark b.pages page hart) ⊎
      ((read_mark c.pages page hart ≡ h.count + 1) × Contains (effect_in b h inputs).touched page)
  pub written : (page : ℕ) → (written_mark c.pages page hart ≡ written_mark b.pages page hart) ⊎
      ((written_mark c.pages page hart ≡ h.count + 1) × Writes (effect_in b h inputs) page)
  pub touches : (page : ℕ) → Contains (effect_in b h inputs).touched page →
      (read_mark c.pages page hart ≡ h.count + 1) ⊎ (written_mark c.pages page hart ≡ h.count + 1)
  pub writes : (page : ℕ) → Writes (effect_in b h inputs) page → written_mark c.pages page hart ≡ h.count + 1
  pub clear : (page other : ℕ) → Contains (effect_in b h inputs).touched page → other < HART_LIMIT → other ≢ hart →
      written_mark b.pages page other ≤ slice_index before other
  pub clear_to_write : (page other : ℕ) → Writes (effect_in b h inputs) page → other < HART_LIMIT → other ≢ hart →
      read_mark b.pages page other ≤ slice_index before other

-- the hart's next step and this one of another conflict on the page, and the other's is none of those that come before
pub record Clashes (hart : ℕ) (h : Hart) (inputs : List Input) (before : List ℕ) (b : HartsView) (page : ℕ) (other : ℕ × ℕ) : Type 0 where
  pub found : slice_get b.harts hart ≡ Some h
  pub running : h.halted ≡ false
  pub touches : Contains (effect_in b h inputs).touched page
  pub on_other : other.0 ≢ hart
  pub there : other.0 < HART_LIMIT
  pub unordered : slice_index before other.0 ≤ other.1
  pub last : (written_mark b.pages page other.0 ≡ other.1 + 1) ⊎
      ((read_mark b.pages page other.0 ≡ other.1 + 1) × Writes (effect_in b h inputs) page)

-- ---- a hart's turn

-- the hart has neither edges nor inputs from its count up to this one, which is not above its end
pub record IsQuietTo (leg : PlannedLeg) (hart count stop : ℕ) : Type 0 where
  pub within : stop ≤ count_at leg.ends hart
  pub edges : (e : Edge) → Contains (log_of leg).edges e → e.hart ≡ hart → count ≤ e.step → stop ≤ e.step
  pub inputs : (n : ℕ) → count ≤ n → n < stop → (log_of leg).inputs hart n ≡ []

-- the hart cannot go on: it is at its end, halted, or waits for another
abbrev pub IsHeld : PlannedLeg → HartsView → ℕ → Type 0
IsHeld leg v hart =
    (h : Hart) → slice_get v.harts hart ≡ Some h →
    (count_at leg.ends hart ≤ h.count) ⊎ (h.halted ≡ true) ⊎ HasUnmet (log_of leg).edges (counts_of (machine_of v)) hart

-- how many steps the harts have to go to these ends
abbrev pub steps_left : List ℕ → List Hart → ℕ
steps_left [] harts = 0
steps_left (end ∷ ends) [] = 0
steps_left (end ∷ ends) (hart ∷ harts) = (end - hart.count) + steps_left ends harts

-- the harts went on from the first to the second, and have fewer steps to their ends
pub record GoesOn (leg : PlannedLeg) (b c : HartsView) : Type 0 where
  pub start : c.start ≡ b.start
  pub on : IsOn leg c
  pub fewer : steps_left leg.ends c.harts < steps_left leg.ends b.harts
