-- A leg that is under way, and the book that obeys it.
use Rattle.std.specs.Prelude.{◌≡◌, ◌<◌, ◌≤◌, ◌⊎◌, ◌++◌, ◌∷◌, ◌-◌, ℕ, Bool, List, [], All, Result, MatchResult, length, sum, true, false, if◌then◌else◌}
use Rattle.ft_types.specs.Counts.{count_at}
use Rattle.ft_types.specs.declared.names.TheConstants.{HART_ROW}
use Rattle.edge_log.specs.EdgeLog.{IsLog}
use Rattle.ft_types.specs.declared.position.Position.{Position}
use Rattle.log_join.specs.Stores.{StoreView}
use Rattle.log_join.specs.declared.answers.Put.{Put}
use Rattle.log_join.specs.declared.answers.Put.TheVariants as put
use Rattle.closed_cut.specs.Chain.{LeadsTo}
use Rattle.guest_image.specs.Image.{ImageContents, guest_of}
use Rattle.guest_image.specs.Machine.{MachineState}
use Rattle.lease_rounds.specs.Leading.{IsIdle}
use Rattle.hart_replay.specs.declared.plans.PlannedLeg.{PlannedLeg}
use Rattle.hart_replay.specs.Plans.{BeginsAtBase, EndAt, log_of, terms_of}
use Rattle.hart_replay.specs.Facts.{EndsInside, HasEdges, HasInputs, HasMarks}
use Rattle.hart_replay.specs.declared.fault.ReplayFault.{ReplayFault}
use Rattle.hart_replay.specs.declared.fault.ReplayFault.TheVariants.{Memory}
use Rattle.hart_replay.specs.GoingOn.{BeginsLeg, GoOnFrom}
use Rattle.hart_replay.specs.machinery.Going.{FailsOn, LeadsOn}
use Rattle.hart_lease.specs.Runs.{counts_of}
use Rattle.interleaving.specs.Log.{IsCut}
use Rattle.hart_replay.specs.KeepingUp.{KeepsUp}
use Rattle.hart_replay.specs.Laws.{ArePlanned}
use Rattle.hart_replay.specs.Leading.{IsLegsFault, leg_of}
use Rattle.hart_replay.specs.Replays.{IsOutcome}
use Rattle.warm_backup.specs.declared.stand.Stand.{Stand}
use Rattle.warm_backup.specs.declared.stand.Stand.TheVariants.{Boot, Led}
use Rattle.warm_backup.specs.declared.work.Work.{Work}
use Rattle.warm_backup.specs.machinery.Cutting.{edges_below, inputs_below}
use Rattle.warm_backup.specs.machinery.Growing.{cursor_at, AsksForNothing, HasFacts, IsBehind, Walks}

-- what of it is below these counts, as a leg that ends there
abbrev pub cut_leg : Work → List ℕ → PlannedLeg
cut_leg w ends =
    record w.leg { ends = ends; edges = edges_below ends w.leg.edges; inputs = inputs_below ends w.leg.inputs }

-- the legs that were replayed, to these counts
abbrev pub legs_of : List PlannedLeg → Stand → List ℕ → List PlannedLeg
legs_of front (Boot m) counts = front
legs_of front (Led w) counts = front ++ cut_leg w counts ∷ []

-- at boot there are none
abbrev pub HasNoFront : Stand → List PlannedLeg → Type 0
HasNoFront (Boot m) front = front ≡ []
HasNoFront (Led w) front = Unit {0}

-- the machine of a leg that is under way
abbrev pub machine_in : Work → MachineState
machine_in w = if w.astray then w.book.start else w.book.machine

-- the machine there
abbrev pub machine_of : Stand → MachineState
machine_of (Boot m) = m
machine_of (Led w) = machine_in w

-- the legs before it are planned of the store
pub record LeadUp (store : StoreView) (front : List PlannedLeg) (w : Work) : Type 0 where
  pub terms : LeadsTo store 0 (terms_of (front ++ w.leg ∷ [])) w.leg.term
  pub bases : All (BeginsAtBase store) (front ++ w.leg ∷ [])
  pub ends : EndAt w.leg.ends (front ++ w.leg ∷ [])
  pub cuts : All (EndsInside store) front
  pub edges : All (HasEdges store) front
  pub inputs : All (HasInputs store) front
  pub marks : All (HasMarks store) front

-- the leg has what the store tells up to its ends, the walks are over the store's pieces, and what was done of it is behind
pub record IsUpToDate (store : StoreView) (w : Work) : Type 0 where
  pub facts : HasFacts store w.leg
  pub walks : (hart : ℕ) → hart < length w.leg.base → Walks store w.leg hart (cursor_at w.cursors hart)
  pub log : IsLog w.leg.edges.start w.leg.edges.rows
  pub rows : length w.leg.inputs ≡ HART_ROW
  pub done : IsBehind w.leg w.rest.value
  pub obeyed : IsBehind w.leg w.book.mode

-- the leg came to these counts, which are its ends, and has no more than what is below them
pub record IsSettled (w : Work) (counts : List ℕ) : Type 0 where
  pub idle : IsIdle w.book
  pub ends : w.leg.ends ≡ counts
  pub whole : cut_leg w counts ≡ w.leg

-- the machine's harts are at the leg's ends, which are a cut
pub record IsAtEnds (w : Work) : Type 0 where
  pub harts : length w.book.machine.harts ≡ length w.leg.ends
  pub counts : (hart : ℕ) → counts_of w.book.machine hart ≡ count_at w.leg.ends hart
  pub cut : IsCut (log_of w.leg) (count_at w.leg.ends)

-- and nothing was done since
pub record IsReady (w : Work) : Type 0 where
  pub undone : w.book.journal ≡ []
  pub idle : IsIdle w.book
  pub again : w.book.start ≡ w.book.machine
  pub at : IsAtEnds w

-- the leg was led, and no more
pub record HasBegun (w : Work) : Type 0 where
  pub idle : IsIdle w.book
  pub obeyed : w.book.mode ≡ leg_of w.leg
  pub log : IsLog w.leg.edges.start w.leg.edges.rows
  pub rows : length w.leg.inputs ≡ HART_ROW
  pub start : w.rest.value.edges.start ≡ w.leg.ends
  pub nothing : AsksForNothing w.rest.value
  pub walks : (hart : ℕ) → hart < length w.leg.base → cursor_at w.cursors hart ≡ record { place = 0; end = count_at w.leg.base hart }
  pub straight : w.astray ≡ false
  pub lasts : w.lasts ≡ true

-- the leg grew to these counts, to which its book went on
pub record HasGone (store : StoreView) (counts : List ℕ) (old new : Work) : Type 0 where
  pub facts : IsUpToDate store new
  pub idle : IsIdle new.book
  pub ends : new.leg.ends ≡ counts
  pub begins : BeginsLeg old.leg new.leg
  pub led : LeadsOn new.leg old.book.machine new.book.machine

-- why it did not: memory, or the leg that has what the store tells up to there
abbrev pub IsRefused : StoreView → List ℕ → Work → ReplayFault → Type 0
IsRefused store ends old fault =
    (fault ≡ Memory) ⊎
    ((leg : PlannedLeg) × HasFacts store leg × IsLog leg.edges.start leg.edges.rows × BeginsLeg old.leg leg × (leg.ends ≡ ends) ×
    FailsOn leg old.book.machine fault)

-- where the leg lasts, it is settled, and planned of the store
pub record IsUnderWay (store : StoreView) (front : List PlannedLeg) (w : Work) (counts : List ℕ) : Type 0 where
  pub settled : w.astray ≡ false → IsSettled w counts
  pub straight : w.lasts ≡ true → w.astray ≡ false
  pub led_up : w.lasts ≡ true → LeadUp store front w
  pub up_to_date : w.lasts ≡ true → IsUpToDate store w

abbrev pub StandsAt : StoreView → List PlannedLeg → Stand → List ℕ → Type 0
StandsAt store front (Boot m) counts = front ≡ []
StandsAt store front (Led w) counts = IsUnderWay store front w counts

-- what every backup keeps
pub record IsBackup (image : ImageContents) (store : StoreView) (front : List PlannedLeg) (stand : Stand) (p : Position) : Type 0 where
  pub guest : store.guest ≡ guest_of image
  pub keeps : KeepsUp image (legs_of front stand p.counts) (machine_of stand)
  pub stands : StandsAt store front stand p.counts

-- what came since need not be what the store tells
abbrev pub unsure : Stand → Stand
unsure (Boot m) = Boot m
unsure (Led w) = Led (record w { lasts = false })

-- the last leg is of the position's term, has what the store tells, and ends no later
abbrev pub MayGrowTo : Stand → Position → Type 0
MayGrowTo (Boot m) p = ⊥
MayGrowTo (Led w) p = (w.lasts ≡ true) × (w.leg.term ≡ p.term) × ((hart : ℕ) → count_at w.leg.ends hart ≤ count_at p.counts hart)

-- the legs led here: the last one is under way
abbrev pub IsLedTo : ImageContents → List PlannedLeg → Stand → Type 0
IsLedTo image legs (Boot m) = (legs ≡ []) × IsOutcome image legs m
IsLedTo image legs (Led w) =
    (front : List PlannedLeg) × (legs ≡ front ++ w.leg ∷ []) × IsOutcome image legs w.book.machine × HasBegun w

-- a store to which a frame came with this answer tells all that it told
abbrev pub TellsOn : Bool → Put → Type 0
TellsOn piece put.New = piece ≡ true
TellsOn piece put.Same = Unit {0}
TellsOn piece put.OtherGuest = Unit {0}
TellsOn piece put.Clash = ⊥

-- it went to the position, of whose plan its legs are, so many steps on or from boot; or it stands where it stood
pub record HasAdvanced (image : ImageContents) (store : StoreView) (was is : Position) (before : List PlannedLeg) (stood : Stand) (steps : ℕ)
    (front : List PlannedLeg) (stand : Stand) : Type 0 where
  pub kept : IsBackup image store front stand is
  pub planned : ArePlanned store is (legs_of front stand is.counts)
  pub on : GoOnFrom (legs_of before stood was.counts) (legs_of front stand is.counts) → steps ≡ sum is.counts - sum was.counts
  pub anew : (GoOnFrom (legs_of before stood was.counts) (legs_of front stand is.counts) → ⊥) → steps ≡ sum is.counts

pub record HasStood (image : ImageContents) (store : StoreView) (was is : Position) (before : List PlannedLeg) (stood : Stand) (fault : ReplayFault)
    (front : List PlannedLeg) (stand : Stand) : Type 0 where
  pub kept : IsBackup image store front stand was
  pub same_legs : legs_of front stand was.counts ≡ legs_of before stood was.counts
  pub same_machine : machine_of stand ≡ machine_of stood
  pub cause : (fault ≡ Memory) ⊎ ((legs : List PlannedLeg) × ArePlanned store is legs × IsLegsFault image legs fault)

abbrev pub Advances : ImageContents → StoreView → Position → Position → List PlannedLeg → Stand → Result ℕ ReplayFault → List PlannedLeg → Stand → Type 0
Advances image store was is before stood result front stand =
    MatchResult result (λ steps. HasAdvanced image store was is before stood steps front stand)
    (λ fault. HasStood image store was is before stood fault front stand)
