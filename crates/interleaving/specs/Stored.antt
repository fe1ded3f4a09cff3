-- Machines whose harts and pages stand in lists.
use Rattle.std.specs.Prelude.{ℕ, ◌≡◌, ◌+◌, Bool, true, false, List, [], ◌∷◌, Option, Some, None, Contains, option_map, if◌then◌else◌, slice_get, slice_set}
use Rattle.std.specs.Prelude.{MatchOption, refl}
use Rattle.std.proofs.Common.{ap, true≢false}
use Rattle.interleaving.specs.Machine.{Write, Effect, Writes, System, Machine, Turn, Runs, run, at}
use Rattle.interleaving.specs.Log.{Log, IsHonest, IsCut, IsSchedule, turns_of}

-- the harts and the pages, each in its list
pub record Store (Hart Page : Type 0) : Type 0 where
  pub harts : List Hart
  pub pages : List Page

-- what a hart does in a step, by its state, its inputs and what stands at each number of the list of pages
pub record Hardware (Hart Page Input : Type 0) : Type 0 where
  pub count : Hart → ℕ
  pub halted : Hart → Bool
  pub effect : Hart → Input → (ℕ → Option Page) → Effect Hart Page
  -- a step counts itself
  pub counted : (hart : Hart) (input : Input) (pages : ℕ → Option Page) → halted hart ≡ false →
      count (effect hart input pages).hart ≡ count hart + 1
  -- a page that is written is touched
  pub within : (hart : Hart) (input : Input) (pages : ℕ → Option Page) (page : ℕ) → halted hart ≡ false →
      Writes (effect hart input pages) page → Contains (effect hart input pages).touched page
  -- and is in the list
  pub there : (hart : Hart) (input : Input) (pages : ℕ → Option Page) (page : ℕ) → halted hart ≡ false →
      Writes (effect hart input pages) page → (contents : Page) × (pages page ≡ Some contents)
  -- pages that are not touched do not matter
  pub local : (hart : Hart) (input : Input) (pages others : ℕ → Option Page) → halted hart ≡ false →
      ((page : ℕ) → Contains (effect hart input pages).touched page → pages page ≡ others page) →
      effect hart input pages ≡ effect hart input others

-- the list of pages after the write, where there is one
abbrev pub written_in : {Page : Type 0} → List Page → Option (Write Page) → List Page
written_in pages None = pages
written_in pages (Some w) = slice_set pages w.page w.contents

-- the store after the effect of a step of the hart
abbrev pub stored_after : {Hart Page : Type 0} → Store Hart Page → ℕ → Effect Hart Page → Store Hart Page
stored_after s hart effect =
    record { harts = slice_set s.harts hart effect.hart; pages = written_in s.pages effect.write }

module _ {Hart Page Input : Type 0} (hardware : Hardware Hart Page Input) where
  -- the store after a turn of this hart; none where it is halted or not there
  abbrev pub goes : Store Hart Page → Turn Input → Option Hart → Option (Store Hart Page)
  goes s t None = None
  goes s t (Some hart) =
      if hardware.halted hart
      then None
      else Some (stored_after s t.hart (hardware.effect hart t.input (slice_get s.pages)))

  -- the store after these turns; none where one is of a hart that is halted or not there
  abbrev pub run_from : Option (Store Hart Page) → List (Turn Input) → Option (Store Hart Page)
  run_from None turns = None
  run_from (Some s) [] = Some s
  run_from (Some s) (t ∷ turns) = run_from (goes s t (slice_get s.harts t.hart)) turns

  -- a hart that is not there has taken no step
  abbrev pub count_of : Option Hart → ℕ
  count_of None = 0
  count_of (Some hart) = hardware.count hart

  -- a hart that is not there is halted
  abbrev pub halted_of : Option Hart → Bool
  halted_of None = true
  halted_of (Some hart) = hardware.halted hart

  -- the effect on harts and pages that may not be there
  abbrev pub lift : Effect Hart Page → Effect (Option Hart) (Option Page)
  lift e =
      record {
        hart = Some e.hart;
        touched = e.touched;
        write = option_map (λ w. record { page = w.page; contents = Some w.contents }) e.write;
      }

  -- what the hart does, if it is there
  abbrev pub effect_of : Option Hart → Input → (ℕ → Option Page) → Effect (Option Hart) (Option Page)
  effect_of None input pages = record { hart = None; touched = []; write = None }
  effect_of (Some hart) input pages = lift (hardware.effect hart input pages)

  -- the laws of a system
  pub counted_of : (hart : Option Hart) (input : Input) (pages : ℕ → Option Page) → halted_of hart ≡ false →
      count_of (effect_of hart input pages).hart ≡ count_of hart + 1
  counted_of None input pages runs = absurd (true≢false runs)
  counted_of (Some hart) input pages runs = hardware.counted hart input pages runs

  -- lifting an effect adds no write
  lifted_writes : (e : Effect Hart Page) (page : ℕ) → Writes (lift e) page → Writes e page
  lifted_writes e page = of e.write
    where
      of : (w : Option (Write Page)) →
          MatchOption
          (option_map
          (λ (w : Write Page). let v : Write (Option Page) = record { page = w.page; contents = Some w.contents } in v)
          w) ⊥ (λ w. w.page ≡ page) →
          MatchOption w ⊥ (λ w. w.page ≡ page)
      of None h = h
      of (Some w) h = h

  pub within_of : (hart : Option Hart) (input : Input) (pages : ℕ → Option Page) (page : ℕ) → halted_of hart ≡ false →
      Writes (effect_of hart input pages) page → Contains (effect_of hart input pages).touched page
  within_of None input pages page runs writes = absurd writes
  within_of (Some hart) input pages page runs writes =
      hardware.within hart input pages page runs (lifted_writes (hardware.effect hart input pages) page writes)

  pub local_of : (hart : Option Hart) (input : Input) (pages others : ℕ → Option Page) → halted_of hart ≡ false →
      ((page : ℕ) → Contains (effect_of hart input pages).touched page → pages page ≡ others page) →
      effect_of hart input pages ≡ effect_of hart input others
  local_of None input pages others runs same = refl
  local_of (Some hart) input pages others runs same = ap lift (hardware.local hart input pages others runs same)

  -- as a system, in which a hart that is not in the list is halted
  abbrev pub system_of : System (Option Hart) (Option Page) Input
  system_of =
      record {
        count = count_of;
        halted = halted_of;
        effect = effect_of;
        counted = counted_of;
        within = within_of;
        local = local_of;
      }

  -- what stands at each number
  abbrev pub view : Store Hart Page → Machine (Option Hart) (Option Page)
  view s = record { harts = slice_get s.harts; pages = slice_get s.pages }

  -- where the turns have a run, the store has it too
  abbrev pub RunsStored : Type 0
  RunsStored =
      (s : Store Hart Page) (turns : List (Turn Input)) → Runs system_of (view s) turns →
      (result : Store Hart Page) × (run_from (Some s) turns ≡ Some result) ×
      (view result ≡ run system_of (view s) turns)

  -- and nowhere else
  abbrev pub StoredRuns : Type 0
  StoredRuns =
      (s : Store Hart Page) (turns : List (Turn Input)) (result : Store Hart Page) →
      run_from (Some s) turns ≡ Some result →
      Runs system_of (view s) turns × (view result ≡ run system_of (view s) turns)

  -- two schedules leave one store
  abbrev pub OneOutcome : Type 0
  OneOutcome =
      (log : Log Input) (s : Store Hart Page) (turns : List (Turn Input)) (cut : ℕ → ℕ) (one other : List ℕ) →
      IsHonest system_of log (view s) turns → IsCut log cut →
      IsSchedule log cut one → IsSchedule log cut other →
      (result : Store Hart Page) ×
      (run_from (Some s) (turns_of log.inputs log.start one) ≡ Some result) ×
      (run_from (Some s) (turns_of log.inputs log.start other) ≡ Some result) ×
      (view result ≡ at system_of (view s) turns cut)
