-- A book that is led lease by lease.
use Rattle.std.specs.Prelude.{◌≡◌, ◌≢◌, ◌<◌, ◌≤◌, ◌+◌, ◌⊎◌, ℕ, List, [], ◌∷◌, length, replicate, slice_get, slice_set, Bool, true, false, Option, None, Some}
use Rattle.ft_types.specs.Counts.{count_at}
use Rattle.ft_types.specs.declared.names.Want.{Want}
use Rattle.ft_types.specs.declared.names.Want.TheVariants.{Read, Write}
use Rattle.ft_types.specs.declared.names.TheConstants.{HART_ROW, LEASE_STEPS}
use Rattle.interleaving.specs.Log.{IsMet, HasUnmet}
use Rattle.rv32_hart.specs.Hart.{Hart, without_outputs}
use Rattle.rv32_hart.specs.declared.outcome.Tick.TheVariants.{Done}
use Rattle.book_modes.specs.declared.keep.Keep.{Keep}
use Rattle.hart_lease.specs.declared.asked.Asked.{Asked}
use Rattle.book_modes.specs.declared.mode.Mode.{Ghosts}
use Rattle.hart_lease.specs.Asks.{asked_by}
use Rattle.page_book.specs.Books.{BookView, HasTaken, IsOurs, refusal}
use Rattle.hart_lease.specs.Runs.{added, counts_of}
use Rattle.hart_lease.specs.Laws.{Covers}
use Rattle.hart_lease.specs.Leases.{LeaseView, IsFull, Ticks, fresh, laid, whole_in, with_page}
use Rattle.hart_lease.specs.OpenLeases.{OpenView, LentView, lent_with, nothing_taken, open_at}
use Rattle.hart_lease.specs.Slots.{slot_at, want_of}

-- no lease is open
abbrev pub IsIdle : {M : Type 0} → BookView M → Type 0
IsIdle b = b.leases ≡ replicate HART_ROW None

-- the lease is the book's, and no other is open
pub record IsAlone {M : Type 0} (b : BookView M) (l : LeaseView) : Type 0 where
  pub ours : IsOurs b l
  pub alone : (hart : ℕ) → hart ≢ l.hart → open_at b.leases hart ≡ None
  pub rows : length b.leases ≡ HART_ROW

-- how many rights on pages the lease lacks
abbrev pub rights_short : Option Want → ℕ
rights_short None = 2
rights_short (Some Read) = 1
rights_short (Some Write) = 0

abbrev pub lacking : List (Option Want) → ℕ
lacking [] = 0
lacking (right ∷ rest) = rights_short right + lacking rest

-- what the lease went out with
abbrev pub lent_as : LeaseView → LentView
lent_as l = lent_with l.stop l.inputs l.edges

-- ---- in a mode

module _ {M : Type 0} (g : Ghosts M) where
  -- where no other lease is open, no hart is in the asker's way
  abbrev pub IsFreeAlone : Type 0
  IsFreeAlone =
      (r : M) (leases : List (Option OpenView)) (asked : Asked) → ((hart : ℕ) → hart ≢ asked.hart → open_at leases hart ≡ None) → (other : ℕ) →
      g.is_holder r leases asked other → ⊥

  -- The lease, in the first book, was given a page on which it lacked the right: it comes as it stands in the machine, and the
  -- edges owed wait in the lease.
  pub record Gives (b : BookView M) (l : LeaseView) (c : BookView M) (k : LeaseView) : Type 0 where
    pub page : ℕ
    pub want : Want
    pub on_page : page < length l.slots
    pub lacks : Covers (want_of (slot_at l.slots page)) want → ⊥
    pub book : c ≡ record b { leases = c.leases; mode = c.mode }
    pub mode : g.gives b.mode (counts_of b.machine) (asked_by l page want) c.mode
    pub taken : HasTaken (g.owes b.mode (counts_of b.machine) (asked_by l page want)) b.leases (asked_by l page want) l.edges k.edges c.leases
    pub given : (here : List ℕ) → slice_get b.machine.pages page ≡ Some here → k ≡ record (with_page l page want here) { edges = k.edges }
    pub hart : k.hart ≡ l.hart
    pub base : k.base ≡ l.base
    pub present : k.present ≡ l.present
    pub inputs : k.inputs ≡ l.inputs
    pub steps : k.steps ≡ l.steps
    pub most : k.most ≡ l.most
    pub stop : k.stop ≡ l.stop

  -- while it was not full, the lease took a step or was given a page, again and again
  pub data Fills (b : BookView M) (l : LeaseView) : BookView M → LeaseView → Type 0 where
    NoneYet : Fills b l b l
    Steps : {c : BookView M} {k : LeaseView} (n : LeaseView) → Fills b l c k → (IsFull k → ⊥) → Ticks Done k n → Fills b l c n
    Takes : {c : BookView M} {k : LeaseView} (d : BookView M) (n : LeaseView) → Fills b l c k → (IsFull k → ⊥) → Gives c k d n → Fills b l d n

  -- the lease came back to the first book with its steps, and its hart keeps what it is told of its rights
  pub record ComesBack (keep : Keep) (b : BookView M) (l : LeaseView) (c : BookView M) : Type 0 where
    pub start : c.start ≡ b.start
    pub machine : c.machine ≡ laid b.machine (whole_in b.machine l)
    pub journal : c.journal ≡ added b.journal l.hart l.steps
    pub leases : c.leases ≡ slice_set b.leases l.hart None
    pub mode : g.settles b.mode l keep c.mode

  -- the lease, in the first book, was filled and came back
  pub record Leads (keep : Keep) (b : BookView M) (l : LeaseView) (d : BookView M) : Type 0 where
    pub filled : BookView M
    pub lease : LeaseView
    pub fills : Fills b l filled lease
    pub full : IsFull lease
    pub back : ComesBack keep filled lease d

  -- the lease ended without its steps, and its hart gave up what it took
  pub record EndsWithout (b : BookView M) (l : LeaseView) (d : BookView M) : Type 0 where
    pub mode : g.ends b.mode l.hart (counts_of b.machine l.hart) l.taken d.mode
    pub book : d ≡ record b { leases = slice_set b.leases l.hart None; mode = d.mode }

  -- the lease, in the first book, took steps and pages, and then ended without its steps
  pub record LeavesOff (b : BookView M) (l : LeaseView) (d : BookView M) : Type 0 where
    pub filled : BookView M
    pub lease : LeaseView
    pub fills : Fills b l filled lease
    pub ends : EndsWithout filled lease d

  -- the first book lent the hart for so many steps, which runs, is below its stop and has each edge of its next step met
  pub record Lends (most hart : ℕ) (b : BookView M) (l : LeaseView) (c : BookView M) : Type 0 where
    pub state : Hart
    pub there : slice_get b.machine.harts hart ≡ Some state
    pub unrefused : refusal (open_at b.leases hart) state (count_at (g.stops b.mode) hart) ≡ None
    pub met : IsMet (g.obeyed b.mode) (counts_of b.machine) hart
    pub lent : l ≡ record (fresh hart (without_outputs state) (length b.machine.pages) (lent_as l)) { most = most }
    pub mode : g.lends b.mode hart (counts_of b.machine hart) (lent_as l) c.mode
    pub book : c ≡ record b { leases = slice_set b.leases hart (Some (nothing_taken (length b.machine.pages) (lent_as l))); mode = c.mode }

  -- the hart went on for one lease, of so many steps at the most, and no lease is open
  pub record GoesFor (most : ℕ) (keep : Keep) (hart : ℕ) (b d : BookView M) : Type 0 where
    pub opened : BookView M
    pub lease : LeaseView
    pub lends : Lends most hart b lease opened
    pub leads : Leads keep opened lease d
    pub idle : IsIdle d

  -- one of LEASE_STEPS
  abbrev pub GoesOn : Keep → ℕ → BookView M → BookView M → Type 0
  GoesOn keep hart b d = GoesFor LEASE_STEPS keep hart b d

  -- the hart went out for a lease, of so many steps at the most, that was given up
  pub record GivesUpFor (most hart : ℕ) (b d : BookView M) : Type 0 where
    pub opened : BookView M
    pub lease : LeaseView
    pub lends : Lends most hart b lease opened
    pub leaves : LeavesOff opened lease d

  -- one of LEASE_STEPS
  abbrev pub GivesUp : ℕ → BookView M → BookView M → Type 0
  GivesUp hart b d = GivesUpFor LEASE_STEPS hart b d

  -- nothing has changed, or a lease of so many steps was given up
  abbrev pub HasNotGoneFor : ℕ → ℕ → BookView M → BookView M → Type 0
  HasNotGoneFor most hart b d = (d ≡ b) ⊎ GivesUpFor most hart b d

  abbrev pub HasNotGone : ℕ → BookView M → BookView M → Type 0
  HasNotGone hart b d = HasNotGoneFor LEASE_STEPS hart b d

  -- the hart is halted, at its stop, or waits for another
  abbrev pub IsHeld : BookView M → ℕ → Type 0
  IsHeld b hart =
      (h : Hart) → slice_get b.machine.harts hart ≡ Some h →
      (h.halted ≡ true) ⊎ (count_at (g.stops b.mode) hart ≤ h.count) ⊎ HasUnmet (g.obeyed b.mode) (counts_of b.machine) hart

  -- the hart went on, for so many steps at the most, or it cannot, and nothing has changed
  abbrev pub MayGoFor : ℕ → Keep → Bool → ℕ → BookView M → BookView M → Type 0
  MayGoFor most keep true hart b c = GoesFor most keep hart b c
  MayGoFor most keep false hart b c = (c ≡ b) × IsHeld b hart

  abbrev pub Goes : Keep → Bool → ℕ → BookView M → BookView M → Type 0
  Goes keep went hart b c = MayGoFor LEASE_STEPS keep went hart b c

  -- the first harts went on in rising order, each for one lease, of so many steps at the most, but for those that could not; whether one did
  pub data RoundsFor (most : ℕ) (keep : Keep) (b : BookView M) : Bool → ℕ → BookView M → Type 0 where
    NoHart : RoundsFor most keep b false 0 b
    Went : {went : Bool} {n : ℕ} {c : BookView M} (d : BookView M) → RoundsFor most keep b went n c → GoesFor most keep n c d →
        RoundsFor most keep b true (n + 1) d
    Stood : {went : Bool} {n : ℕ} {c : BookView M} → RoundsFor most keep b went n c → IsHeld c n → RoundsFor most keep b went (n + 1) c

  -- for one of LEASE_STEPS each
  abbrev pub Rounds : Keep → BookView M → Bool → ℕ → BookView M → Type 0
  Rounds keep b went n c = RoundsFor LEASE_STEPS keep b went n c
