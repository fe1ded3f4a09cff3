-- What holds of every ledger that calls lead to.
use Rattle.std.specs.Prelude.{ℕ, ◌≡◌, ◌≢◌, ◌≤◌, ◌<◌, ◌↔◌, is_some, true, false, List, [], ◌∷◌, ◌++◌, Option, Some, None, Contains, length}
use Rattle.ft_types.specs.declared.names.Want.{Want}
use Rattle.ft_types.specs.Counts.{count_at}
use Rattle.ft_types.specs.declared.names.TheConstants.{HART_LIMIT}
use Rattle.interleaving.specs.Lists.{put, EachPair}
use Rattle.interleaving.specs.Machine.{Writes, System, Machine, Turn, after, step_of, counts, steps, Runs, run}
use Rattle.interleaving.specs.Log.{Edge, Log, HasInputs, IsHonest}
use Rattle.interleaving.specs.Cuts.{IsEnough}
use Rattle.interleaving.specs.Recorder.{input_at}
use Rattle.interleaving.specs.Stored.{Store, Hardware, run_from, system_of, view}
use Rattle.edge_log.specs.EdgeLog.{Edges, IsLog, edges_of, edge_as, MayAdd}
use Rattle.edge_log.specs.declared.Edge as declared
use Rattle.crew_pages.specs.Rights.{Right, holds, owns, stands, give_up}
use Rattle.lease_ledger.specs.Ledger.{Stub, Lease, Ledger, begin, fresh_stub, taking, lent, stepped, present, IsLease, IsOurs}
use Rattle.lease_ledger.specs.Calls.{IsHeard, has_taken, Answer, HeldBy, Given, IsAnswered, Keep, IsYielded, opened, needed, settled, dropped, Reached}

-- the edges of one hart come in the order of its steps
abbrev pub InOrder : Edge → Edge → Type 0
InOrder e f = e.hart ≡ f.hart → e.step ≤ f.step

-- a hart that gives a right up is in nobody's way, and puts no other there
abbrev pub LeavesTheWay : Type 0
LeavesTheWay =
    (right : Right) (hart : ℕ) (want : Want) (leaver count other : ℕ) → holds right leaver ≡ true →
    stands (give_up right leaver count) hart want other ≡ true → (leaver ≢ other) × (stands right hart want other ≡ true)

module _ {Hart Page Input : Type 0} (system : System Hart Page Input) where
  -- Honesty.

  -- the log has the ledger's inputs and counts
  pub record IsOf (log : Log Input) (start : Machine Hart Page) (b : Ledger Hart Page Input) : Type 0 where
    pub inputs : HasInputs system log (steps system start b.journal)
    pub from_start : (hart : ℕ) → log.start hart ≡ counts system start hart
    pub to_end : (hart : ℕ) → log.end hart ≡ counts system b.machine hart

  -- the machine is what the journal's steps make of the start, and the log with the ledger's edges tells of them truly, also
  -- where those are dropped that the start or another edge implies
  pub record IsKept (start : Machine Hart Page) (b : Ledger Hart Page Input) : Type 0 where
    pub runs : Runs system start b.journal
    pub machine : b.machine ≡ run system start b.journal
    pub honest : (log : Log Input) → IsOf log start b → log.edges ≡ b.edges → IsHonest system log start b.journal
    pub short : (log : Log Input) → IsOf log start b → IsEnough log.edges b.edges log.start → IsHonest system log start b.journal

  abbrev pub KeepsLedger : Type 0
  KeepsLedger =
      (crew : ℕ) (start : Machine Hart Page) (b : Ledger Hart Page Input) → crew ≤ HART_LIMIT → Reached system crew start b → IsKept start b

  -- the ledger's log, with the inputs of the journal's steps
  abbrev pub log_of : Input → Machine Hart Page → Ledger Hart Page Input → Log Input
  log_of idle start b =
      record {
        edges = b.edges;
        inputs = input_at system idle (steps system start b.journal);
        start = counts system start;
        end = counts system b.machine;
      }

  -- so there is an honest log
  abbrev pub HasHonestLog : Type 0
  HasHonestLog =
      (idle : Input) (crew : ℕ) (start : Machine Hart Page) (b : Ledger Hart Page Input) → crew ≤ HART_LIMIT → Reached system crew start b →
      IsHonest system (log_of idle start b) start b.journal

  -- the steps that a settle adds are those that the lease took on what it was lent
  abbrev pub AddsItsSteps : Type 0
  AddsItsSteps =
      (crew : ℕ) (start : Machine Hart Page) (b : Ledger Hart Page Input) (l : Lease Hart Page Input) → crew ≤ HART_LIMIT →
      Reached system crew start b → IsLease system l → IsOurs b l →
      steps system start (b.journal ++ l.turns) ≡ steps system start b.journal ++ steps system (lent l) l.turns

  -- they run on the ledger's machine too, and lead to the settled one
  pub record IsLaid (b : Ledger Hart Page Input) (l : Lease Hart Page Input) (keep : ℕ → Keep) : Type 0 where
    pub runs : Runs system b.machine l.turns
    pub machine : (settled system b l keep).machine ≡ run system b.machine l.turns
    pub count : present system l ≡ counts system (run system b.machine l.turns) l.hart

  abbrev pub LaysItsRun : Type 0
  LaysItsRun = (b : Ledger Hart Page Input) (l : Lease Hart Page Input) (keep : ℕ → Keep) → IsLease system l → IsOurs b l → IsLaid b l keep

  -- The order of edges.

  -- an edge of the log is between two harts that there are, of a step that its hart had reached, and met
  pub record IsInLog (crew : ℕ) (start m : Machine Hart Page) (e : Edge) : Type 0 where
    pub hart : e.hart < crew
    pub other : e.other < crew
    pub another : e.other ≢ e.hart
    pub from_start : counts system start e.hart ≤ e.step
    pub so_far : e.step ≤ counts system m e.hart
    pub met : e.count ≤ counts system m e.other

  -- an edge that waits in a lease of the hart is of a step that is not settled
  pub record IsWaiting (crew : ℕ) (m : Machine Hart Page) (hart : ℕ) (e : Edge) : Type 0 where
    pub own : e.hart ≡ hart
    pub other : e.other < crew
    pub another : e.other ≢ e.hart
    pub unsettled : counts system m hart ≤ e.step
    pub met : e.count ≤ counts system m e.other

  pub record HasItsOrder (crew : ℕ) (start : Machine Hart Page) (b : Ledger Hart Page Input) : Type 0 where
    pub log : (e : Edge) → Contains b.edges e → IsInLog crew start b.machine e
    pub in_order : EachPair InOrder b.edges
    pub waiting : (hart : ℕ) (s : Stub) (e : Edge) → b.stubs hart ≡ Some s → Contains s.edges e → IsWaiting crew b.machine hart e
    pub waiting_in_order : (hart : ℕ) (s : Stub) → b.stubs hart ≡ Some s → EachPair InOrder s.edges

  abbrev pub KeepsOrder : Type 0
  KeepsOrder =
      (crew : ℕ) (start : Machine Hart Page) (b : Ledger Hart Page Input) → crew ≤ HART_LIMIT → Reached system crew start b → HasItsOrder crew start b

  -- While a settle adds a lease's edges one after another: the log stands for the ledger's and those already added.
  pub record IsAdding (crew : ℕ) (start : Machine Hart Page) (b : Ledger Hart Page Input) (before : List Edge) (log : Edges) : Type 0 where
    pub is_log : IsLog log.start log.rows
    pub harts : length log.start ≡ crew
    pub from_start : (hart : ℕ) → hart < crew → count_at log.start hart ≡ counts system start hart
    pub among : (e : Edge) → Contains (edges_of log) e → Contains (b.edges ++ before) e

  -- the next edge may be added
  abbrev pub MayAddNext : Type 0
  MayAddNext =
      (crew : ℕ) (start : Machine Hart Page) (b : Ledger Hart Page Input) (l : Lease Hart Page Input) (before after : List Edge)
      (next : declared.Edge) (log : Edges) → crew ≤ HART_LIMIT → Reached system crew start b → IsLease system l → IsOurs b l →
      l.stub.edges ≡ before ++ edge_as next ∷ after → IsAdding crew start b before log → MayAdd log next

  -- Who holds what.

  -- only harts that there are hold rights and have open leases, and each has the rights to what its open lease took
  pub record HasItsRights (crew : ℕ) (b : Ledger Hart Page Input) : Type 0 where
    pub harts : (page hart : ℕ) → holds (b.rights page) hart ≡ true → hart < crew
    pub leased : (hart : ℕ) (s : Stub) → b.stubs hart ≡ Some s → hart < crew
    pub held : (hart : ℕ) (s : Stub) (page k : ℕ) → b.stubs hart ≡ Some s → s.read_at page ≡ Some k →
        (holds (b.rights page) hart ≡ true) × (counts system b.machine hart ≤ k)
    pub owned : (hart : ℕ) (s : Stub) (page k : ℕ) → b.stubs hart ≡ Some s → s.write_at page ≡ Some k →
        (owns (b.rights page) hart ≡ true) × (is_some (s.read_at page) ≡ true)

  abbrev pub KeepsRights : Type 0
  KeepsRights =
      (crew : ℕ) (start : Machine Hart Page) (b : Ledger Hart Page Input) → crew ≤ HART_LIMIT → Reached system crew start b → HasItsRights crew b

  -- those in the way of an asker are the harts that stood against it and whose open leases have taken the page
  abbrev pub HeldByTakers : Type 0
  HeldByTakers =
      (b : Ledger Hart Page Input) (hart page : ℕ) (want : Want) (right : Right) (other : ℕ) → IsYielded system b hart page want right →
      (stands right hart want other ≡ true) ↔ ((stands (b.rights page) hart want other ≡ true) × (has_taken (b.stubs other) page ≡ true))

  -- Leases that only the calls change.

  abbrev pub lease_opened : Ledger Hart Page Input → ℕ → List Edge → Lease Hart Page Input
  lease_opened b hart edges =
      record { hart = hart; state = b.machine.harts hart; pages = b.machine.pages; stub = fresh_stub edges; turns = [] }

  abbrev pub lease_needed : Ledger Hart Page Input → Lease Hart Page Input → ℕ → Want → Answer → Lease Hart Page Input
  lease_needed b l page want (HeldBy harts) = l
  lease_needed b l page want (Given edges) =
      record l { pages = put l.pages page (b.machine.pages page); stub = taking l.stub page want (present system l) edges }

  abbrev pub lease_ticked : Lease Hart Page Input → Turn Input → Lease Hart Page Input
  lease_ticked l t = record l { turns = l.turns ++ t ∷ [] }

  -- the lease has taken what its hart's step uses
  pub record MayTick (l : Lease Hart Page Input) (t : Turn Input) : Type 0 where
    pub own : t.hart ≡ l.hart
    pub goes : system.halted ((stepped system l).harts t.hart) ≡ false
    pub touches : (page : ℕ) → Contains (step_of system (stepped system l) t).effect.touched page → is_some (l.stub.read_at page) ≡ true
    pub writes : (page : ℕ) → Writes (step_of system (stepped system l) t).effect page → is_some (l.stub.write_at page) ≡ true

  -- such a lease keeps its type, and passes each comparison, whatever the other leases do
  pub record GoesOn (b : Ledger Hart Page Input) : Type 0 where
    pub opens : (hart : ℕ) (edges : List Edge) → IsLease system (lease_opened b hart edges) × IsOurs (opened b hart edges) (lease_opened b hart edges)
    pub ticks : (l : Lease Hart Page Input) (t : Turn Input) → IsLease system l → MayTick l t → IsLease system (lease_ticked l t)
    pub still_ours : (l : Lease Hart Page Input) (t : Turn Input) → IsOurs b l → IsOurs b (lease_ticked l t)
    pub needs : (l : Lease Hart Page Input) (page : ℕ) (want : Want) (right : Right) (answer : Answer) → IsLease system l → IsOurs b l →
        IsLease system (lease_needed b l page want answer) × IsOurs (needed system b l page want right answer) (lease_needed b l page want answer)
    pub other_opens : (hart : ℕ) (edges : List Edge) (mine : Lease Hart Page Input) → hart ≢ mine.hart → IsOurs b mine → IsOurs (opened b hart edges) mine
    pub other_needs : (l : Lease Hart Page Input) (page : ℕ) (want : Want) (right : Right) (answer : Answer) (mine : Lease Hart Page Input) →
        l.hart ≢ mine.hart → IsOurs b mine → IsOurs (needed system b l page want right answer) mine
    pub other_settles : (l : Lease Hart Page Input) (keep : ℕ → Keep) (mine : Lease Hart Page Input) → l.hart ≢ mine.hart → IsLease system l →
        IsOurs b l → IsOurs b mine → IsOurs (settled system b l keep) mine
    pub other_drops : (hart : ℕ) (s : Stub) (mine : Lease Hart Page Input) → hart ≢ mine.hart → IsOurs b mine → IsOurs (dropped system b hart s) mine

  abbrev pub LeasesGoOn : Type 0
  LeasesGoOn =
      (crew : ℕ) (start : Machine Hart Page) (b : Ledger Hart Page Input) → crew ≤ HART_LIMIT → Reached system crew start b → GoesOn b

  -- The ledgers of callers who change their leases by the calls alone, with the leases that are out, by hart.
  pub data Played (crew : ℕ) (start : Machine Hart Page) : Ledger Hart Page Input → (ℕ → Option (Lease Hart Page Input)) → Type 0 where
    Begins : Played crew start (begin start) (λ hart. None)
    Opens : {b : Ledger Hart Page Input} {out : ℕ → Option (Lease Hart Page Input)} (hart : ℕ) (edges : List Edge) → Played crew start b out →
        hart < crew → out hart ≡ None → ((e : Edge) → Contains edges e → IsHeard system crew b.machine hart e) →
        Played crew start (opened b hart edges) (put out hart (Some (lease_opened b hart edges)))
    Ticks : {b : Ledger Hart Page Input} {out : ℕ → Option (Lease Hart Page Input)} (l : Lease Hart Page Input) (t : Turn Input) →
        Played crew start b out → out l.hart ≡ Some l → MayTick l t → Played crew start b (put out l.hart (Some (lease_ticked l t)))
    Asks : {b : Ledger Hart Page Input} {out : ℕ → Option (Lease Hart Page Input)} (l : Lease Hart Page Input) (page : ℕ) (want : Want)
        (right : Right) (answer : Answer) → Played crew start b out → out l.hart ≡ Some l → IsYielded system b l.hart page want right →
        IsAnswered right l.hart want (present system l) answer →
        Played crew start (needed system b l page want right answer) (put out l.hart (Some (lease_needed b l page want answer)))
    Settles : {b : Ledger Hart Page Input} {out : ℕ → Option (Lease Hart Page Input)} (l : Lease Hart Page Input) (keep : ℕ → Keep) →
        Played crew start b out → out l.hart ≡ Some l → Played crew start (settled system b l keep) (put out l.hart None)
    Drops : {b : Ledger Hart Page Input} {out : ℕ → Option (Lease Hart Page Input)} (l : Lease Hart Page Input) → Played crew start b out →
        out l.hart ≡ Some l → Played crew start (dropped system b l.hart l.stub) (put out l.hart None)

  -- the lease is its ledger's open lease of the hart
  pub record IsOut (b : Ledger Hart Page Input) (hart : ℕ) (l : Lease Hart Page Input) : Type 0 where
    pub hart_is : l.hart ≡ hart
    pub lease : IsLease system l
    pub ours : IsOurs b l

  -- then no call refuses a lease as foreign
  abbrev pub NoneIsForeign : Type 0
  NoneIsForeign =
      (crew : ℕ) (start : Machine Hart Page) (b : Ledger Hart Page Input) (out : ℕ → Option (Lease Hart Page Input)) → crew ≤ HART_LIMIT →
      Played crew start b out → Reached system crew start b × ((hart : ℕ) (l : Lease Hart Page Input) → out hart ≡ Some l → IsOut b hart l)

  -- What the lease has at present: a tick goes on from there, and a page that is new to it comes from the ledger's machine.

  abbrev pub TicksGoOn : Type 0
  TicksGoOn =
      (l : Lease Hart Page Input) (t : Turn Input) →
      stepped system (lease_ticked l t) ≡ after (stepped system l) (step_of system (stepped system l) t)

  pub record IsLentMore (b : Ledger Hart Page Input) (l next : Lease Hart Page Input) (page : ℕ) : Type 0 where
    pub hart : (stepped system next).harts l.hart ≡ (stepped system l).harts l.hart
    pub pages : (q : ℕ) → is_some (l.stub.read_at q) ≡ true → (stepped system next).pages q ≡ (stepped system l).pages q
    pub new : is_some (l.stub.read_at page) ≡ false → (stepped system next).pages page ≡ b.machine.pages page

  abbrev pub LendsMore : Type 0
  LendsMore =
      (b : Ledger Hart Page Input) (l : Lease Hart Page Input) (page : ℕ) (want : Want) (edges : List Edge) → IsLease system l → IsOurs b l →
      IsLentMore b l (lease_needed b l page want (Given edges)) page

-- The same for a machine whose harts and pages stand in lists.

module _ {Hart Page Input : Type 0} (hardware : Hardware Hart Page Input) where
  -- the journal's steps lead from the store at the start to the ledger's
  abbrev pub RunsInLists : Type 0
  RunsInLists =
      (crew : ℕ) (start now : Store Hart Page) (b : Ledger (Option Hart) (Option Page) Input) → crew ≤ HART_LIMIT →
      Reached (system_of hardware) crew (view hardware start) b → b.machine ≡ view hardware now →
      run_from hardware (Some start) b.journal ≡ Some now
