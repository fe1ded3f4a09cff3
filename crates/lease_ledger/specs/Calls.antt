-- The calls of a ledger, and the ledgers that they lead to.
use Rattle.std.specs.Prelude.{ℕ, ◌≡◌, ◌≢◌, ◌≤◌, ◌<◌, is_some, Bool, true, false, List, ◌++◌, Option, Some, None, Contains, if◌then◌else◌}
use Rattle.ft_types.specs.declared.names.Want.{Want}
use Rattle.interleaving.specs.Lists.{put}
use Rattle.interleaving.specs.Machine.{System, Machine, counts}
use Rattle.interleaving.specs.Log.{Edge}
use Rattle.crew_pages.specs.Rights.{Right, holds, owns, stands, IsFree, IsOwed, given, give_up, lower}
use Rattle.lease_ledger.specs.Ledger.{Stub, Lease, Ledger, begin, fresh_stub, taking, stepped, present, IsLease, IsOurs}

-- Opening a lease.

-- the ledger with an open lease of the hart, in which these edges wait
abbrev pub opened : {Hart Page Input : Type 0} → Ledger Hart Page Input → ℕ → List Edge → Ledger Hart Page Input
opened b hart edges = record b { stubs = put b.stubs hart (Some (fresh_stub edges)) }

-- Asking for a page.

-- the open lease, where there is one, has taken the page
abbrev pub has_taken : Option Stub → ℕ → Bool
has_taken None page = false
has_taken (Some s) page = is_some (s.read_at page)

-- an asker owes exactly these edges
pub record AreOwed (right : Right) (hart : ℕ) (want : Want) (n : ℕ) (edges : List Edge) : Type 0 where
  pub all : (e : Edge) → IsOwed right hart want n e → Contains edges e
  pub only : (e : Edge) → Contains edges e → IsOwed right hart want n e

-- these harts' rights stand against what is asked, or it is given, and these edges wait in the lease
pub data Answer : Type 0 where
  HeldBy : (ℕ → Bool) → Answer
  Given : List Edge → Answer

-- what a hart at count n is answered
abbrev pub IsAnswered : Right → ℕ → Want → ℕ → Answer → Type 0
IsAnswered right hart want n (HeldBy harts) =
    ((other : ℕ) × (stands right hart want other ≡ true)) × ((other : ℕ) → harts other ≡ stands right hart want other)
IsAnswered right hart want n (Given edges) = IsFree right hart want × AreOwed right hart want n edges

-- Settling.

-- which right a hart keeps: what it holds, that to read, or none
pub data Keep : Type 0 where
  All : Keep
  Readable : Keep
  Nothing : Keep

-- the right, once the hart at count n has kept so much of it
abbrev pub kept : Keep → Right → ℕ → ℕ → Right
kept All right hart n = right
kept Readable right hart n = if owns right hart then lower right hart n else right
kept Nothing right hart n = if holds right hart then give_up right hart n else right

module _ {Hart Page Input : Type 0} (system : System Hart Page Input) where
  -- The page's right, once some of those who stand against the asker have given it up at their settled counts. They held it
  -- from earlier leases, and have not taken it since.
  pub data GivenUp (b : Ledger Hart Page Input) (hart page : ℕ) (want : Want) : Right → Type 0 where
    NotYet : GivenUp b hart page want (b.rights page)
    Then : {right : Right} (other : ℕ) → GivenUp b hart page want right → stands right hart want other ≡ true →
        has_taken (b.stubs other) page ≡ false → GivenUp b hart page want (give_up right other (counts system b.machine other))

  -- all such have given it up: whoever still stands against the asker has taken the page
  pub record IsYielded (b : Ledger Hart Page Input) (hart page : ℕ) (want : Want) (right : Right) : Type 0 where
    pub given_up : GivenUp b hart page want right
    pub taken : (other : ℕ) → stands right hart want other ≡ true → has_taken (b.stubs other) page ≡ true

  -- the ledger after the answer, where the page's right was `right` by then
  abbrev pub needed : Ledger Hart Page Input → Lease Hart Page Input → ℕ → Want → Right → Answer → Ledger Hart Page Input
  needed b l page want right (HeldBy harts) = record b { rights = put b.rights page right }
  needed b l page want right (Given edges) =
      record b {
        rights = put b.rights page (given right l.hart want (present system l));
        stubs = put b.stubs l.hart (Some (taking l.stub page want (present system l) edges));
      }

  -- the lease's steps and edges enter, then its hart keeps what it is told of each page that it holds
  abbrev pub settled : Ledger Hart Page Input → Lease Hart Page Input → (ℕ → Keep) → Ledger Hart Page Input
  settled b l keep =
      record {
        machine =
            record {
              harts = put b.machine.harts l.hart ((stepped system l).harts l.hart);
              pages = λ page. if is_some (l.stub.read_at page) then (stepped system l).pages page else b.machine.pages page;
            };
        journal = b.journal ++ l.turns;
        edges = b.edges ++ l.stub.edges;
        rights = λ page. kept (keep page) (b.rights page) l.hart (present system l);
        stubs = put b.stubs l.hart None;
      }

  -- the lease ends without its steps and edges, and its hart gives up what it took
  abbrev pub dropped : Ledger Hart Page Input → ℕ → Stub → Ledger Hart Page Input
  dropped b hart s =
      record b {
        rights = λ page. if is_some (s.read_at page) then give_up (b.rights page) hart (counts system b.machine hart) else b.rights page;
        stubs = put b.stubs hart None;
      }

  -- an edge of the hart's next step, to steps that have settled: that of a bell which it hears
  pub record IsHeard (crew : ℕ) (m : Machine Hart Page) (hart : ℕ) (e : Edge) : Type 0 where
    pub own : e.hart ≡ hart
    pub at : e.step ≡ counts system m hart
    pub other : e.other < crew
    pub another : e.other ≢ e.hart
    pub settled : e.count ≤ counts system m e.other

  -- The ledgers of a machine with `crew` harts. Whatever value of the lease's type passes the comparison may be handed in.
  pub data Reached (crew : ℕ) (start : Machine Hart Page) : Ledger Hart Page Input → Type 0 where
    Begun : Reached crew start (begin start)
    Opened : {b : Ledger Hart Page Input} (hart : ℕ) (edges : List Edge) → Reached crew start b → hart < crew → b.stubs hart ≡ None →
        ((e : Edge) → Contains edges e → IsHeard crew b.machine hart e) → Reached crew start (opened b hart edges)
    Needed : {b : Ledger Hart Page Input} (l : Lease Hart Page Input) (page : ℕ) (want : Want) (right : Right) (answer : Answer) →
        Reached crew start b → IsLease system l → IsOurs b l → IsYielded b l.hart page want right →
        IsAnswered right l.hart want (present system l) answer → Reached crew start (needed b l page want right answer)
    Settled : {b : Ledger Hart Page Input} (l : Lease Hart Page Input) (keep : ℕ → Keep) → Reached crew start b → IsLease system l →
        IsOurs b l → Reached crew start (settled b l keep)
    Dropped : {b : Ledger Hart Page Input} (hart : ℕ) (s : Stub) → Reached crew start b → b.stubs hart ≡ Some s →
        Reached crew start (dropped b hart s)
