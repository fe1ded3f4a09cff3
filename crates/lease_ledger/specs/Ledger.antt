-- A recording ledger: a machine, the journal of the steps that led to it, the edges of its log, and the right to each page. A
-- hart goes out on a lease, which is a value outside the ledger: the ledger keeps a stub of it, and compares.
use Rattle.std.specs.Prelude.{ℕ, ◌≡◌, ◌≤◌, is_some, unwrap_or, true, List, [], ◌++◌, Option, Some, None, Contains}
use Rattle.ft_types.specs.declared.names.Want.{Want}
use Rattle.ft_types.specs.declared.names.Want.TheVariants.{Read, Write}
use Rattle.interleaving.specs.Lists.{put, Each}
use Rattle.interleaving.specs.Machine.{Writes, System, Machine, Turn, Step, counts, steps, Runs, run}
use Rattle.interleaving.specs.Log.{Edge}
use Rattle.crew_pages.specs.Rights.{Right, unused}

-- what the ledger keeps of an open lease
pub record Stub : Type 0 where
  pub read_at : ℕ → Option ℕ  -- for each page that the lease took, the count at which it first did
  pub write_at : ℕ → Option ℕ  -- and for each that it took to write
  pub edges : List Edge  -- the edges found, which wait in the lease

-- a lease
pub record Lease (Hart Page Input : Type 0) : Type 0 where
  pub hart : ℕ
  pub state : Hart  -- the hart as it was lent
  pub pages : ℕ → Page  -- and the pages that it took
  pub stub : Stub
  pub turns : List (Turn Input)  -- its steps

pub record Ledger (Hart Page Input : Type 0) : Type 0 where
  pub machine : Machine Hart Page  -- as of the settled steps
  pub journal : List (Turn Input)  -- the settled steps
  pub edges : List Edge  -- all that were added to the log
  pub rights : ℕ → Right  -- by page
  pub stubs : ℕ → Option Stub  -- of the open leases, by hart

-- a ledger of this machine, without steps
abbrev pub begin : {Hart Page Input : Type 0} → Machine Hart Page → Ledger Hart Page Input
begin m = record { machine = m; journal = []; edges = []; rights = λ page. unused; stubs = λ hart. None }

-- a lease that has taken no page
abbrev pub fresh_stub : List Edge → Stub
fresh_stub edges = record { read_at = λ page. None; write_at = λ page. None; edges = edges }

-- the counts, with this one for the page unless it has one
abbrev pub noted : (ℕ → Option ℕ) → ℕ → ℕ → ℕ → Option ℕ
noted counts page n = put counts page (Some (unwrap_or (counts page) n))

abbrev pub noted_to_write : Want → (ℕ → Option ℕ) → ℕ → ℕ → ℕ → Option ℕ
noted_to_write Read counts page n = counts
noted_to_write Write counts page n = noted counts page n

-- the stub, once the lease has taken the page at count n, and found these edges
abbrev pub taking : Stub → ℕ → Want → ℕ → List Edge → Stub
taking s page want n edges =
    record { read_at = noted s.read_at page n; write_at = noted_to_write want s.write_at page n; edges = s.edges ++ edges }

-- the page has a count, which is at most n
abbrev pub IsTakenBy : (ℕ → Option ℕ) → ℕ → ℕ → Type 0
IsTakenBy counts page n = (k : ℕ) × (counts page ≡ Some k) × (k ≤ n)

-- the lease's hart and pages, as they were lent
abbrev pub lent : {Hart Page Input : Type 0} → Lease Hart Page Input → Machine Hart Page
lent l = record { harts = λ hart. l.state; pages = l.pages }

module _ {Hart Page Input : Type 0} (system : System Hart Page Input) where
  -- what its steps make of them
  abbrev pub stepped : Lease Hart Page Input → Machine Hart Page
  stepped l = run system (lent l) l.turns

  -- its hart's present count
  abbrev pub present : Lease Hart Page Input → ℕ
  present l = counts system (stepped l) l.hart

  -- the step touches only pages that the lease had taken by then, and writes only such as it had taken to write
  pub record Uses (stub : Stub) (s : Step Hart Page Input) : Type 0 where
    pub touches : (page : ℕ) → Contains s.effect.touched page → IsTakenBy stub.read_at page (system.count s.found)
    pub writes : (page : ℕ) → Writes s.effect page → IsTakenBy stub.write_at page (system.count s.found)

  -- what the type of a lease keeps
  pub record IsLease (l : Lease Hart Page Input) : Type 0 where
    -- its steps are its hart's, and run on what it was lent
    pub mine : Each (λ t. t.hart ≡ l.hart) l.turns
    pub runs : Runs system (lent l) l.turns
    pub uses : Each (Uses l.stub) (steps system (lent l) l.turns)
    -- it took no page at a count that its hart has yet to reach
    pub reads : (page k : ℕ) → l.stub.read_at page ≡ Some k → k ≤ present l
    pub writes : (page k : ℕ) → l.stub.write_at page ≡ Some k → k ≤ present l

-- What `need` and `settle` compare: the stub is that of the ledger's open lease of this hart, and the hart and the pages that
-- the lease took are as they were lent.
pub record IsOurs {Hart Page Input : Type 0} (b : Ledger Hart Page Input) (l : Lease Hart Page Input) : Type 0 where
  pub stub : b.stubs l.hart ≡ Some l.stub
  pub state : l.state ≡ b.machine.harts l.hart
  pub pages : (page : ℕ) → is_some (l.stub.read_at page) ≡ true → l.pages page ≡ b.machine.pages page
