-- What a book asks of its mode.
use Rattle.std.specs.Prelude.{◌≡◌, ◌<◌, ℕ, List, slice_set, length, Option, Some, None}
use Rattle.edge_log.specs.declared.Edge.{Edge}
use Rattle.guest_image.specs.Machine.{MachineState}
use Rattle.hart_lease.specs.declared.asked.Asked.{Asked}
use Rattle.hart_lease.specs.declared.stretch.Stretch.{Stretch}
use Rattle.hart_lease.specs.declared.taken.Taken.{Taken}
use Rattle.hart_lease.specs.OpenLeases.{OpenView, LentView, open_at, given_more, nothing_taken}
use Rattle.hart_lease.specs.Leases.{LeaseView, laid, IsLentBy}
use Rattle.ft_types.specs.Counts.{count_at}
use Rattle.ft_types.specs.declared.names.TheConstants.{COUNT_LIMIT}
use Rattle.interleaving.specs.Log.{counts_after}
use Rattle.hart_lease.specs.Runs.{Heard, IsLease, counts_of, harts_of, added, HearsOn}

-- a fact of a start, a machine, a journal and the open leases, by hart
abbrev pub Fact : Type 1
Fact = MachineState → MachineState → List Stretch → List (Option OpenView) → Type 0

-- a lease asks for a page, in a book whose mode keeps such a fact
pub record IsAsking (keeps : Fact) (machine : MachineState) (leases : List (Option OpenView)) (asked : Asked) : Type 0 where
  pub start : MachineState
  pub journal : List Stretch
  pub asker : LeaseView
  pub is_lease : IsLease asker
  pub is_lent : IsLentBy (open_at leases asker.hart) machine asker
  pub hart : asked.hart ≡ asker.hart
  pub count : asked.count ≡ asker.present.count
  pub page : asked.page < length machine.pages
  pub row : asked.page < length asker.taken
  pub limit : asked.count < COUNT_LIMIT
  pub kept : keeps start machine journal leases

-- it asks for one that no open lease holds, where the harts have settled these counts
pub record IsGiven (keeps : Fact) (is_holder : List (Option OpenView) → Asked → ℕ → Type 0) (settled : List ℕ) (asked : Asked) : Type 0 where
  pub machine : MachineState
  pub leases : List (Option OpenView)
  pub asks : IsAsking keeps machine leases asked
  pub free : (hart : ℕ) → is_holder leases asked hart → ⊥
  pub harts : length settled ≡ length machine.harts
  pub counts : (hart : ℕ) → count_at settled hart ≡ counts_of machine hart

-- this lease comes back
pub record IsSettling (keeps : Fact) (settler : LeaseView) : Type 0 where
  pub start : MachineState
  pub machine : MachineState
  pub journal : List Stretch
  pub leases : List (Option OpenView)
  pub is_lease : IsLease settler
  pub is_lent : IsLentBy (open_at leases settler.hart) machine settler
  pub counted : (hart : ℕ) → counts_after (counts_of start) (harts_of journal) hart ≡ counts_of machine hart
  pub kept : keeps start machine journal leases

-- the open lease of this hart, which settled this count and took these pages, ends without its steps
pub record IsEnding (keeps : Fact) (hart count : ℕ) (taken : List (Option Taken)) : Type 0 where
  pub start : MachineState
  pub machine : MachineState
  pub at_count : count ≡ counts_of machine hart
  pub journal : List Stretch
  pub leases : List (Option OpenView)
  pub lent : OpenView
  pub is_open : open_at leases hart ≡ Some lent
  pub took : taken ≡ lent.taken
  pub kept : keeps start machine journal leases

-- a hart that has no open lease, and has taken so many steps, is lent
abbrev pub KeepsLending : Fact → Fact → ℕ → ℕ → LentView → Type 0
KeepsLending keeps new hart count lent =
    (start machine : MachineState) (journal : List Stretch) (leases : List (Option OpenView)) → hart < length machine.harts → hart < length leases →
    open_at leases hart ≡ None → count ≡ counts_of machine hart → keeps start machine journal leases →
    new start machine journal (slice_set leases hart (Some (nothing_taken (length machine.pages) lent)))

-- the asker has the page, and these edges wait in it
abbrev pub KeepsGiving : Fact → (List (Option OpenView) → Asked → ℕ → Type 0) → Fact → List ℕ → Asked → List Edge → Type 0
KeepsGiving keeps is_holder new settled asked found =
    (g : IsGiven keeps is_holder settled asked) →
    new g.asks.start g.machine g.asks.journal
    (slice_set g.leases asked.hart (given_more (open_at g.leases asked.hart) asked.page asked.want asked.count found))

-- the settler's steps are in the journal, and its hart and pages in the machine
abbrev pub KeepsSettling : Fact → Fact → LeaseView → Type 0
KeepsSettling keeps new settler =
    (s : IsSettling keeps settler) →
    new s.start (laid s.machine settler) (added s.journal settler.hart settler.steps) (slice_set s.leases settler.hart None)

-- so it is where this lease comes back
pub record SettlesHeard (keeps : Fact) (old new : Heard) (settler : LeaseView) : Type 0 where
  pub hears : (s : IsSettling keeps settler) → HearsOn old new (counts_of s.machine) settler

-- the hart has no open lease
abbrev pub KeepsEnding : Fact → Fact → ℕ → ℕ → List (Option Taken) → Type 0
KeepsEnding keeps new hart count taken =
    (e : IsEnding keeps hart count taken) → new e.start e.machine e.journal (slice_set e.leases hart None)
