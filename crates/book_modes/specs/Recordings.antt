-- Books that record.
use Rattle.std.specs.Prelude.{◌≡◌, ◌≢◌, ◌<◌, ◌≤◌, ◌↔◌, ◌+◌, ◌&&◌, not, ℕ, zero, suc, Bool, true, false, List, [], ◌++◌, ◌∷◌, map, drop, replicate, length}
use Rattle.std.specs.Prelude.{slice_set, All, AllPairs, Contains, is_some, slice_get, Option, Some, None, option_map, if◌then◌else◌}
use Rattle.interleaving.specs.Machine.{Turn, steps}
use Rattle.interleaving.specs.Log as theory
use Rattle.interleaving.specs.Log.{Log}
use Rattle.interleaving.specs.Cuts.{IsEnough}
use Rattle.interleaving.specs.Stored.{view}
use Rattle.ft_types.specs.Counts.{count_at}
use Rattle.ft_types.specs.declared.names.TheConstants.{HART_LIMIT, HART_ROW, INPUT_LIMIT}
use Rattle.input_log.specs.declared.Input.{Input}
use Rattle.input_log.specs.declared.WaitingBell.{WaitingBell}
use Rattle.input_log.specs.Inputs.{IsInputOf, inputs_of, AreAddedTo, HearsMore}
use Rattle.input_log.specs.Notes.{NotesOfOne, notes_of, HasRoom, noted, NotesMore}
use Rattle.input_log.specs.declared.offered.Offer.{Offer}
use Rattle.input_log.specs.Offers.{all_offers, but_bells, AreKept}
use Rattle.input_log.specs.Waiting.{Queues, bells_of, others_of, others_staying, room_beside, next_going, IsBellAddedTo}
use Rattle.edge_log.specs.declared.Edge.{Edge}
use Rattle.edge_log.specs.EdgeLog.{Edges, IsLog, edge_as, edges_of, start_of, AreAdded, AddsLater}
use Rattle.crew_pages.specs.declared.right.PageRight.{PageRight}
use Rattle.crew_pages.specs.Rights.{Right, Shared, Exclusive, right_of, unused, stands, given, give_up, IsOwed}
use Rattle.lease_ledger.specs.Ledger.{Ledger, Stub}
use Rattle.lease_ledger.specs.Calls as calls
use Rattle.lease_ledger.specs.Calls.{Reached, kept}
use Rattle.rv32_hart.specs.Hart.{Hart}
use Rattle.rv32_hart.specs.Hardware.{hardware}
use Rattle.guest_image.specs.Machine.{MachineState}
use Rattle.book_modes.specs.declared.keep.Keep.{Keep}
use Rattle.book_modes.specs.declared.keep.Keep.TheVariants as told
use Rattle.hart_lease.specs.declared.asked.Asked.{Asked}
use Rattle.hart_lease.specs.declared.stretch.Stretch.{Stretch}
use Rattle.hart_lease.specs.declared.taken.Taken.{Taken}
use Rattle.hart_lease.specs.Taken.{taken_at}
use Rattle.hart_lease.specs.OpenLeases.{OpenView, LentView, open_at, has_taken}
use Rattle.hart_lease.specs.Leases.{LeaseView, bells_rung}
use Rattle.hart_lease.specs.Recorded.{system, stub_of}
use Rattle.hart_lease.specs.Runs.{Heard, heard_in, counts_of, journal_turns}
use Rattle.book_modes.specs.Silences.{unheard_bells}
use Rattle.book_modes.specs.Hearings.{IsTrueLog, KeepsBells}
use Rattle.book_modes.specs.Dues.{DueView, nothing_due, due_at, due_from, is_silent, stop_before}

pub record RecordingView : Type 0 where
  pub limits : List ℕ  -- the count that each hart does not go past
  pub rights : List PageRight  -- by page
  pub edges : Edges  -- of the settled steps
  pub inputs : List (List (ℕ × Input))  -- of the settled steps, by hart
  pub notes : List NotesOfOne  -- of outputs that were released, by hart
  pub due : List DueView  -- what each hart's next step is given
  pub desk : List Queues  -- what waits for each hart

abbrev pub right_stored : Option PageRight → Right
right_stored None = unused
right_stored (Some right) = right_of right

-- the right to a page
abbrev pub right_at : List PageRight → ℕ → Right
right_at rights page = right_stored (slice_get rights page)

-- The hart's right stands in the asker's way, and its open lease has taken the page.
abbrev pub IsTaker : RecordingView → List (Option OpenView) → Asked → ℕ → Type 0
IsTaker r leases asked other =
    (stands (right_at r.rights asked.page) asked.hart asked.want other ≡ true) × (has_taken (open_at leases other) asked.page ≡ true)

-- a right that each hart in the asker's way has given up at its settled count
abbrev pub right_yielded : Asked → (ℕ → ℕ) → Right → Right
right_yielded asked settled (Shared since readers left) =
    let in_way : ℕ → Bool = stands (Shared since readers left) asked.hart asked.want in
    Shared since (λ other. readers other && not (in_way other)) (λ other. if in_way other then Some (settled other) else left other)
right_yielded asked settled (Exclusive owner at since left) =
    let right : Right = Exclusive owner at since left in
    if stands right asked.hart asked.want owner then give_up right owner (settled owner) else right

-- what the asker meets: the page's right, which whoever was in its way has yielded
unfoldable pub right_met : RecordingView → (ℕ → ℕ) → Asked → Right
right_met r settled asked = right_yielded asked settled (right_at r.rights asked.page)

-- the asker owes these edges, by rising other hart
pub record AreOwed (r : RecordingView) (settled : ℕ → ℕ) (asked : Asked) (found : List Edge) : Type 0 where
  pub exact : (e : Edge) → Contains found e ↔ IsOwed (right_met r settled asked) asked.hart asked.want asked.count (edge_as e)
  pub rising : AllPairs (λ a b. a.other < b.other) found

-- the asker has its right, and no other page's right has changed
pub record IsGiven (r : RecordingView) (settled : ℕ → ℕ) (asked : Asked) (new : RecordingView) : Type 0 where
  pub rest : new ≡ record r { rights = new.rights }
  pub many : length new.rights ≡ length r.rights
  pub page : right_at new.rights asked.page ≡ given (right_met r settled asked) asked.hart asked.want asked.count
  pub others : (page : ℕ) → asked.page ≢ page → right_at new.rights page ≡ right_at r.rights page

-- which rights a hart keeps, in the theory's words
abbrev pub keep_as : Keep → calls.Keep
keep_as told.All = calls.All
keep_as told.Readable = calls.Readable
keep_as told.Nothing = calls.Nothing

-- the edges have been added to the log, which still says all that were found
pub record AreLogged (old : Edges) (found : List Edge) (new : Edges) : Type 0 where
  pub added : AreAdded old found new
  pub was : IsLog old.start old.rows
  pub log : IsLog new.start new.rows
  pub start : new.start ≡ old.start
  pub enough : (all : List theory.Edge) → IsEnough (edges_of old) all (start_of old) → IsEnough (edges_of new) (all ++ map edge_as found) (start_of new)

-- the inputs of a lease that has a step are in the log, at the count at which it was lent
abbrev pub LogsInputs : ℕ → List (List (ℕ × Input)) → LeaseView → List (List (ℕ × Input)) → Type 0
LogsInputs zero before l after = after ≡ before
LogsInputs (suc steps) before l after = AreAddedTo before l.hart (map (λ i. (l.base.count, i)) l.inputs) after

-- and are due no more, where those of one without a step stay due
abbrev pub due_after : ℕ → List DueView → ℕ → List DueView
due_after zero due hart = due
due_after (suc steps) due hart = slice_set due hart nothing_due

-- this bell waits behind the others of its target, where there is one
abbrev pub PutsBell : Option ℕ → List Queues → WaitingBell → List Queues → Type 0
PutsBell None before bell after = after ≡ before
PutsBell (Some target) before bell after = IsBellAddedTo before target bell after

-- the bell that a lease rang waits behind the others of its target
pub record HasRung (before : List Queues) (l : LeaseView) (after : List Queues) : Type 0 where
  pub bells : (target : ℕ) → bells_of after target ≡ bells_of before target ++ bells_rung l target
  pub others : (target : ℕ) → others_of after target ≡ others_of before target

-- an edge of this hart, of no step before this count
pub record IsFrom (hart count : ℕ) (e : Edge) : Type 0 where
  pub own : e.hart ≡ hart
  pub from : count ≤ e.at

-- a lease has come back: its edges and inputs are in the log, the bell that it rang waits, and its hart keeps what it is told
-- of each page that it holds
pub record IsSettled (r : RecordingView) (l : LeaseView) (keep : Keep) (new : RecordingView) : Type 0 where
  pub limits : new.limits ≡ r.limits
  pub edges : AreLogged r.edges l.edges new.edges
  pub unsettled : All (IsFrom l.hart l.base.count) l.edges
  pub counts : l.present.count ≡ l.base.count + l.steps
  pub inputs : LogsInputs l.steps r.inputs l new.inputs
  pub notes : new.notes ≡ r.notes
  pub due : new.due ≡ due_after l.steps r.due l.hart
  pub desk : HasRung r.desk l new.desk
  pub many : length new.rights ≡ length r.rights
  pub rights : (page : ℕ) → page < length r.rights →
      right_at new.rights page ≡ kept (keep_as keep) (right_at r.rights page) l.hart l.present.count

-- a lease has ended without its steps: its hart has given up what it took
pub record IsEnded (r : RecordingView) (hart count : ℕ) (taken : List (Option Taken)) (new : RecordingView) : Type 0 where
  pub rest : new ≡ record r { rights = new.rights }
  pub many : length new.rights ≡ length r.rights
  pub rights : (page : ℕ) → page < length r.rights →
      right_at new.rights page ≡
      (if is_some (taken_at taken page) then give_up (right_at r.rights page) hart count else right_at r.rights page)

-- the stub of an open lease, in the theory's words
abbrev pub stub_as : OpenView → Stub
stub_as lent = stub_of lent.taken (map edge_as lent.edges)

-- what the harts were given at the settled steps
abbrev pub heard_by : RecordingView → Heard
heard_by r = heard_in r.inputs

-- the hart has taken what the desk has for its count
pub record TakesFromDesk (r : RecordingView) (hart count : ℕ) (new : RecordingView) : Type 0 where
  pub row : hart < length r.due
  pub rest : new ≡ record r { due = new.due; desk = new.desk }
  pub due : new.due ≡ slice_set r.due hart (due_from hart count (bells_of r.desk hart) (others_of r.desk hart))
  pub bells : bells_of new.desk hart ≡ drop INPUT_LIMIT (bells_of r.desk hart)
  pub others : others_of new.desk hart ≡ others_staying count (room_beside (bells_of r.desk hart)) (others_of r.desk hart)
  pub bells_of_others : (other : ℕ) → other ≢ hart → bells_of new.desk other ≡ bells_of r.desk other
  pub others_of_others : (other : ℕ) → other ≢ hart → others_of new.desk other ≡ others_of r.desk other

-- the hart has something due by now: what a lease that ended without its first step left, or what the desk has
abbrev pub IsFilled : Bool → RecordingView → ℕ → ℕ → RecordingView → Type 0
IsFilled false r hart count new = new ≡ r
IsFilled true r hart count new = TakesFromDesk r hart count new

-- an input waits behind the others of the hart
pub record IsOffered (r : RecordingView) (hart not_before : ℕ) (input : Input) (new : RecordingView) : Type 0 where
  pub rest : new ≡ record r { desk = new.desk }
  pub others : others_of new.desk hart ≡ others_of r.desk hart ++ record { not_before = not_before; input = input } ∷ []
  pub bells : bells_of new.desk hart ≡ bells_of r.desk hart
  pub bells_of_others : (other : ℕ) → other ≢ hart → bells_of new.desk other ≡ bells_of r.desk other
  pub others_of_others : (other : ℕ) → other ≢ hart → others_of new.desk other ≡ others_of r.desk other

-- what a hart at this count goes out with
pub record GoesOut (r : RecordingView) (hart count : ℕ) (lent : LentView) (new : RecordingView) : Type 0 where
  pub filled : IsFilled (is_silent (due_at r.due hart).inputs) r hart count new
  pub inputs : lent.inputs ≡ (due_at new.due hart).inputs
  pub edges : lent.edges ≡ (due_at new.due hart).edges
  -- what is given later waits for a later lease
  pub stop : lent.stop ≡ stop_before (count_at r.limits hart) count (next_going (bells_of new.desk hart) (others_of new.desk hart))

-- the inputs but for bells that were offered to a hart at this count: those that it was given, those that are due to it and those that wait
abbrev pub offers_at : RecordingView → ℕ → ℕ → List Offer
offers_at r hart count =
    but_bells (all_offers (inputs_of r.inputs hart) count (due_at r.due hart).inputs (others_of r.desk hart))

-- it has a row for each hart of these
pub record HasRows (r : RecordingView) : Type 0 where
  pub inputs : length r.inputs ≡ HART_ROW
  pub due : length r.due ≡ HART_ROW
  pub desk : length r.desk ≡ HART_ROW

-- The hart, which had settled this count and has now settled another, was given more from there on alone; of what was offered to
-- it none is lost, made or put before another, none came before its count, and what still waits does so for the same count.
pub record KeepsInputs (r : RecordingView) (hart count : ℕ) (new : RecordingView) (now : ℕ) : Type 0 where
  pub given : HearsMore (inputs_of r.inputs hart) count (inputs_of new.inputs hart)
  pub offered : AreKept (offers_at r hart count) (offers_at new hart now)

-- The log says of the steps before these counts what it said, what was offered is kept, and no note is forgotten.
pub record GoesOn (r : RecordingView) (settled : ℕ → ℕ) (new : RecordingView) (now : ℕ → ℕ) : Type 0 where
  pub edges : AddsLater r.edges settled new.edges
  pub inputs : (hart : ℕ) → KeepsInputs r hart (settled hart) new (now hart)
  pub notes : (hart : ℕ) → NotesMore (notes_of r.notes hart) (settled hart) (notes_of new.notes hart)

-- the hart, which is at this count, has one note more, or one in place of another at the same count; those of the others are as they were
pub record IsNoting (r : RecordingView) (hart count number : ℕ) (new : RecordingView) : Type 0 where
  pub rest : new ≡ record r { notes = new.notes }
  pub noted : notes_of new.notes hart ≡ noted (notes_of r.notes hart) count number
  pub others : (other : ℕ) → other ≢ hart → notes_of new.notes other ≡ notes_of r.notes other
  pub others_room : (other : ℕ) → other ≢ hart → HasRoom r.notes other → HasRoom new.notes other

-- the notes are as they were, whatever room there is
pub record HasRoomed (r new : RecordingView) : Type 0 where
  pub rest : new ≡ record r { notes = new.notes }
  pub same : (hart : ℕ) → notes_of new.notes hart ≡ notes_of r.notes hart

-- an edge that the hart's next step owes for a bell
pub record IsDueEdge (machine : MachineState) (hart : ℕ) (e : Edge) : Type 0 where
  pub own : e.hart ≡ hart
  pub at : e.at ≡ counts_of machine hart
  pub other : e.other < length machine.harts
  pub another : e.other ≢ hart
  pub settled : e.after ≤ counts_of machine e.other

-- a bell that a hart has rung
pub record IsRung (machine : MachineState) (bell : WaitingBell) : Type 0 where
  pub source : bell.source < length machine.harts
  pub settled : bell.after ≤ counts_of machine bell.source

-- what is logged, due and waiting are inputs of a machine with so many harts
pub record AreInputs (harts : ℕ) (log : List (List (ℕ × Input))) (dues : List DueView) (desk : List Queues) : Type 0 where
  pub logged : (hart : ℕ) → All (λ x. IsInputOf harts x.1) (inputs_of log hart)
  pub due : (hart : ℕ) → All (IsInputOf harts) (due_at dues hart).inputs
  pub waiting : (hart : ℕ) → All (λ w. IsInputOf harts w.input) (others_of desk hart)

-- the machine has as many harts and pages as the start, and not more harts than a book has rows
pub record IsAsBig (start machine : MachineState) : Type 0 where
  pub few : length start.harts ≤ HART_LIMIT
  pub harts : length machine.harts ≡ length start.harts
  pub pages : length machine.pages ≡ length start.pages

-- calls have led from the start to the ledger, which has this machine, these turns and these open leases
pub record IsLedTo (start machine : MachineState) (turns : List (Turn (List Input))) (leases : List (Option OpenView))
    (ledger : Ledger (Option Hart) (Option (List ℕ)) (List Input)) : Type 0 where
  pub reached : Reached (system (length start.pages)) (length start.harts) (view (hardware (length start.pages)) start) ledger
  pub at_machine : ledger.machine ≡ view (hardware (length start.pages)) machine
  pub in_journal : ledger.journal ≡ turns
  pub stubs : (hart : ℕ) → ledger.stubs hart ≡ option_map stub_as (open_at leases hart)

-- the log, which begins at the start's counts, has the edges that say all these
pub record SaysAll (edges : Edges) (start : MachineState) (all : List theory.Edge) : Type 0 where
  pub log : IsLog edges.start edges.rows
  pub harts : length edges.start ≡ length start.harts
  pub from_start : (hart : ℕ) → start_of edges hart ≡ counts_of start hart
  pub enough : IsEnough (edges_of edges) all (start_of edges)

-- each page has its right
pub record AreRights (held : ℕ → Right) (pages : ℕ) (rights : List PageRight) : Type 0 where
  pub many : length rights ≡ pages
  pub each : (page : ℕ) → page < pages → held page ≡ right_at rights page

-- each hart's edges that are due are of its settled count, and its open lease has what is due to it
pub record AreDue (machine : MachineState) (leases : List (Option OpenView)) (due : List DueView) : Type 0 where
  pub many : length due ≡ HART_ROW
  pub edges : (hart : ℕ) → All (IsDueEdge machine hart) (due_at due hart).edges
  pub given : (hart : ℕ) (lent : OpenView) → open_at leases hart ≡ Some lent → lent.inputs ≡ (due_at due hart).inputs
  pub given_edges : (hart : ℕ) (lent : OpenView) → open_at leases hart ≡ Some lent → (e : Edge) → Contains (due_at due hart).edges e → Contains lent.edges e

-- What a recording book keeps: it is a ledger of the theory, to which calls have led from the start.
pub record IsRecorded (r : RecordingView) (start machine : MachineState) (journal : List Stretch) (leases : List (Option OpenView)) : Type 0 where
  pub ledger : Ledger (Option Hart) (Option (List ℕ)) (List Input)
  pub led : IsLedTo start machine (journal_turns (heard_by r) start journal) leases ledger
  pub size : IsAsBig start machine
  pub log : SaysAll r.edges start ledger.edges
  pub rights : AreRights ledger.rights (length start.pages) r.rights
  pub limits : length r.limits ≡ length start.harts
  -- it has logged no input that a hart has yet to be given, and none from before the start
  pub logged : (hart : ℕ) → All (λ x. x.0 < counts_of machine hart) (inputs_of r.inputs hart)
  pub begun : (hart : ℕ) → All (λ x. counts_of start hart ≤ x.0) (inputs_of r.inputs hart)
  -- nor has it noted anything at a count that a hart has yet to reach
  pub noted : (hart : ℕ) → All (λ x. x.0 ≤ counts_of machine hart) (notes_of r.notes hart)
  pub due : AreDue machine leases r.due
  pub bells : (hart : ℕ) → All (IsRung machine) (bells_of r.desk hart)
  pub inputs : AreInputs (length start.harts) r.inputs r.due r.desk
  -- bells are heard in their turn
  pub heard :
      KeepsBells start ledger.machine (steps (system (length start.pages)) (view (hardware (length start.pages)) start) ledger.journal) ledger.edges r.due
      r.desk

-- the log of a book: its edges and inputs, from the start's counts to the machine's
abbrev pub log_of : Edges → Heard → MachineState → MachineState → Log (List Input)
log_of edges heard start machine =
    record { edges = edges_of edges; inputs = heard; start = counts_of start; end = counts_of machine }

-- the log tells truly of the journal's steps
abbrev pub HasHonestLog : Edges → Heard → MachineState → List Stretch → MachineState → Type 0
HasHonestLog edges heard start journal machine =
    IsTrueLog (length start.pages) (log_of edges heard start machine) (view (hardware (length start.pages)) start) (journal_turns heard start journal)

-- an edge of a hart is between it and another of the machine's, and names a step that it has reached, and steps that the other has settled
pub record IsBetween (machine : MachineState) (hart : ℕ) (e : Edge) : Type 0 where
  pub own : e.hart ≡ hart
  pub other : e.other < length machine.harts
  pub another : e.other ≢ hart
  pub at : e.at ≤ counts_of machine hart
  pub some : 1 ≤ e.after
  pub settled : e.after ≤ counts_of machine e.other

-- a right that nobody used for each page; and nothing waits but the bells that the start rang and nobody heard
pub record IsUnused (r : RecordingView) (start : MachineState) (limits : List ℕ) : Type 0 where
  pub limits_are : r.limits ≡ limits
  pub inputs : (hart : ℕ) → inputs_of r.inputs hart ≡ []
  pub notes : (hart : ℕ) → notes_of r.notes hart ≡ []
  pub due : r.due ≡ replicate HART_ROW nothing_due
  pub bells : (hart : ℕ) → bells_of r.desk hart ≡ unheard_bells start hart
  pub others : (hart : ℕ) → others_of r.desk hart ≡ []
  pub few : length start.harts ≤ HART_LIMIT
  pub edges : edges_of r.edges ≡ []
  pub log : IsLog r.edges.start r.edges.rows
  pub log_harts : length r.edges.start ≡ length start.harts
  pub log_start : (hart : ℕ) → start_of r.edges hart ≡ counts_of start hart
  pub many : length r.rights ≡ length start.pages
  pub rights : (page : ℕ) → page < length start.pages → right_at r.rights page ≡ unused
