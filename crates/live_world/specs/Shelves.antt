-- A keeper's files in memory, and what happens to them beside the keeper's acts.
use Rattle.std.specs.Prelude.{◌≡◌, ◌≤◌, ◌<◌, ◌+◌, ℕ, Bool, true, false, List, [], take, Option, None, Some}
use Rattle.stations.specs.Handshake.{Files, Did, Crash, IsBeginning, after}
use Rattle.stations.specs.Acts.{Fenced}
use Rattle.stations.specs.declared.reach.TheConstants.{TERM_REACH}
use Rattle.keeper_disks.specs.Disks.{Hand, Nobody, Saw, HasFenced}
use Rattle.live_world.specs.declared.event.HandAct.{HandAct}
use Rattle.live_world.specs.declared.event.HandAct.TheVariants as hands
use Rattle.live_world.specs.declared.fault.EventFault.{EventFault}
use Rattle.live_world.specs.declared.fault.EventFault.TheVariants as fault
use Rattle.live_world.specs.declared.log_read.LogRead.{LogRead}
use Rattle.live_world.specs.declared.hand.Stage.{Stage}
use Rattle.live_world.specs.declared.hand.Stage.TheVariants as stage

-- what whoever hands the log over has read of it, and is to hand over to the term
pub record ReadView : Type 0 where
  pub term : ℕ
  pub log : List ℕ

-- what there is of it
pub record ShelfView : Type 0 where
  pub files : Files
  pub hand : Hand
  pub read : Option ReadView
  pub crashed : Bool  -- the keeper's machine crashed since its call began

abbrev pub files_of : List ℕ → ℕ → ℕ → Files
files_of log safe fence = record { log = log; safe = take safe log; fence = fence }

abbrev pub empty_shelf : ShelfView
empty_shelf = record { files = files_of [] 0 0; hand = Nobody; read = None; crashed = false }

-- where whoever hands the log over stands: behind its last act it is gone
abbrev pub hand_of : Stage → Hand
hand_of stage.Nobody = Nobody
hand_of (stage.Saw last) = Saw last
hand_of (stage.HasFenced put) = HasFenced put.term
hand_of (stage.HasRead read) = Nobody

abbrev pub read_view : LogRead → ReadView
read_view read = record { term = read.put.term; log = read.log.items }

abbrev pub read_of : Stage → Option ReadView
read_of (stage.HasRead read) = Some (read_view read)
read_of stage = None

-- the machine crashed: what was on disk is there still, and behind it what the log had; whoever reads it has what it read
pub record HasCrashed (old new : ShelfView) : Type 0 where
  pub left : List ℕ
  pub beginning : IsBeginning left old.files.log
  pub safe : IsBeginning old.files.safe left
  pub rest : new ≡ record old { files = after old.files (Crash left); crashed = true }

-- whoever hands the log over did this
abbrev pub HandDoes : HandAct → ShelfView → ShelfView → Type 0
HandDoes hands.Looks old new = (old.hand ≡ Nobody) × (new ≡ record old { hand = Saw old.files.fence })
HandDoes (hands.Fences term) old new =
    (last : ℕ) × (old.hand ≡ Saw last) × (last < term) × (term ≤ last + TERM_REACH) ×
    (new ≡ record old { files = after old.files (Did (Fenced term)); hand = HasFenced term })
HandDoes hands.Reads old new =
    (term : ℕ) × (old.hand ≡ HasFenced term) × (new ≡ record old { hand = Nobody; read = Some (record { term = term; log = old.files.log }) })
HandDoes hands.Ends old new = new ≡ record old { hand = Nobody; read = None }

-- the act is not its next one; or the fence that it saw is not below the term, or the term is out of its reach; or memory was refused
abbrev pub IsNoTurn : ShelfView → HandAct → EventFault → Type 0
IsNoTurn old hands.Looks fault.NoTurn = (old.hand ≡ Nobody → old.read ≡ None → ⊥)
IsNoTurn old (hands.Fences term) fault.NoTurn = (last : ℕ) → old.hand ≡ Saw last → ⊥
IsNoTurn old (hands.Fences term) (fault.Fenced last) = (old.hand ≡ Saw last) × (term ≤ last)
IsNoTurn old (hands.Fences term) (fault.Far last) = (old.hand ≡ Saw last) × (last + TERM_REACH < term)
IsNoTurn old hands.Reads fault.NoTurn = (term : ℕ) → old.hand ≡ HasFenced term → ⊥
IsNoTurn old hands.Reads fault.Memory = Unit {0}
IsNoTurn _ _ _ = ⊥

-- what happens beside the keeper's acts
pub data Beside (s : ShelfView) : ShelfView → Type 0 where
  HandDid : (act : HandAct) (t : ShelfView) → HandDoes act s t → Beside s t
  Crashed : (t : ShelfView) → HasCrashed s t → Beside s t

-- one behind the other
pub data Besides (s : ShelfView) : ShelfView → Type 0 where
  Still : Besides s s
  Then : {t u : ShelfView} → Besides s t → Beside t u → Besides s u
