-- The calls at work: two leases side by side, and a lease that must not be settled.
use Rattle.std.specs.Prelude.{ℕ, ◌≡◌, ◌≤◌, ◌==◌, is_some, true, [], ◌∷◌, Option, Some, Contains}
use Rattle.ft_types.specs.declared.names.Want.TheVariants.{Read, Write}
use Rattle.interleaving.specs.Lists.{Each}
use Rattle.interleaving.specs.Machine.{Machine, Writes, Turn, steps, Runs}
use Rattle.interleaving.specs.Log.{Edge, Log, IsHonest}
use Rattle.interleaving.specs.Stored.{Store, view}
use Rattle.interleaving.specs.Counters.{counters}
use Rattle.interleaving.specs.Examples.{counting, hart_at, loads, stores}
use Rattle.interleaving.specs.declared.counters.Counter.{Counter}
use Rattle.interleaving.specs.declared.counters.Act.{Act}
use Rattle.interleaving.specs.declared.counters.Act.TheVariants as act
use Rattle.lease_ledger.specs.Ledger as ledger
use Rattle.lease_ledger.specs.Ledger.{begin, lent, present, IsOurs}
use Rattle.crew_pages.specs.Rights.{give_up}
use Rattle.lease_ledger.specs.Calls.{HeldBy, Given, All, Nothing, opened, needed, settled, Reached}
use Rattle.lease_ledger.specs.Laws.{IsOf, lease_opened, lease_needed, lease_ticked}

abbrev pub Ledger : Type 0
Ledger = ledger.Ledger (Option Counter) (Option ℕ) Act

abbrev pub Lease : Type 0
Lease = ledger.Lease (Option Counter) (Option ℕ) Act

-- two harts and two pages, all at 0
abbrev pub two : Store Counter ℕ
two = record { harts = hart_at 0 0 ∷ hart_at 0 0 ∷ []; pages = 0 ∷ 0 ∷ [] }

abbrev pub start : Machine (Option Counter) (Option ℕ)
start = view counters two

-- hart 0 takes page 0 to write, and stores there
abbrev pub writing : Ledger
writing = opened (begin start) 0 []

abbrev pub writer : Lease
writer = lease_opened counting (begin start) 0 []

abbrev pub lent_to_write : Ledger
lent_to_write = needed counting writing writer 0 Write (writing.rights 0) (Given [])

abbrev pub wrote : Lease
wrote = lease_ticked counting (lease_needed counting writing writer 0 Write (Given [])) (stores 0 0)

-- Two leases side by side: hart 1 asks for page 0 while hart 0's lease has it, and again once that is settled.

abbrev pub beside : Ledger
beside = opened lent_to_write 1 []

abbrev pub asker : Lease
asker = lease_opened counting lent_to_write 1 []

-- hart 0 is in its way
abbrev pub refused : Ledger
refused = needed counting beside asker 0 Read (beside.rights 0) (HeldBy (λ other. 0 == other))

-- hart 0 settles, and keeps its right
abbrev pub kept_on : Ledger
kept_on = settled counting refused wrote (λ page. All)

abbrev pub first_edge : Edge
first_edge = record { hart = 1; step = 0; other = 0; count = 1 }

-- it gives the right up at its count, and hart 1 loads what it stored
abbrev pub lent_on : Ledger
lent_on = needed counting kept_on asker 0 Read (give_up (kept_on.rights 0) 0 1) (Given (first_edge ∷ []))

abbrev pub loaded : Lease
loaded = lease_ticked counting (lease_needed counting kept_on asker 0 Read (Given (first_edge ∷ []))) (loads 1)

abbrev pub both : Ledger
both = settled counting lent_on loaded (λ page. Nothing)

pub record SideBySide : Type 0 where
  pub reached : Reached counting 2 start both
  pub journal : both.journal ≡ stores 0 0 ∷ loads 1 ∷ []
  pub edges : both.edges ≡ first_edge ∷ []
  pub loads_it : both.machine.harts 1 ≡ Some (hart_at 1 1)

-- Why the type of a lease keeps the count at which it took each page: a lease that keeps all else of its type and passes the
-- comparison, but used a page before it had taken it, would settle a log that is not honest.

-- hart 0 settles, and keeps nothing
abbrev pub stored : Ledger
stored = settled counting lent_to_write wrote (λ page. Nothing)

-- hart 1 takes page 1, loads from there, and then takes page 0, at count 1
abbrev pub reading : Ledger
reading = opened stored 1 []

abbrev pub reader : Lease
reader = lease_opened counting stored 1 []

abbrev pub lent_to_read : Ledger
lent_to_read = needed counting reading reader 1 Read (reading.rights 1) (Given [])

abbrev pub loads_from_1 : Turn Act
loads_from_1 = record { hart = 1; input = act.Load 1 }

abbrev pub went_on : Lease
went_on = lease_ticked counting (lease_needed counting reading reader 1 Read (Given [])) loads_from_1

abbrev pub edge : Edge
edge = record { hart = 1; step = 1; other = 0; count = 1 }

abbrev pub lent_both : Ledger
lent_both = needed counting lent_to_read went_on 0 Read (lent_to_read.rights 0) (Given (edge ∷ []))

abbrev pub honest_reader : Lease
honest_reader = lease_needed counting lent_to_read went_on 0 Read (Given (edge ∷ []))

-- a value that passes for this lease, but whose one step loads from page 0, at count 0
abbrev pub forged : Lease
forged = record honest_reader { turns = loads 1 ∷ [] }

-- all that the type of a lease keeps but for the counts of the pages that its steps use
pub record KeepsTheRest (l : Lease) : Type 0 where
  pub mine : Each (λ t. t.hart ≡ l.hart) l.turns
  pub runs : Runs counting (lent l) l.turns
  pub touches : Each (λ s. (page : ℕ) → Contains s.effect.touched page → is_some (l.stub.read_at page) ≡ true) (steps counting (lent l) l.turns)
  pub writes : Each (λ s. (page : ℕ) → Writes s.effect page → is_some (l.stub.write_at page) ≡ true) (steps counting (lent l) l.turns)
  pub read_by : (page k : ℕ) → l.stub.read_at page ≡ Some k → k ≤ present counting l
  pub write_by : (page k : ℕ) → l.stub.write_at page ≡ Some k → k ≤ present counting l

abbrev pub last : Ledger
last = settled counting lent_both forged (λ page. Nothing)

pub record ForgetsCounts : Type 0 where
  pub reached : Reached counting 2 start lent_both
  pub keeps_the_rest : KeepsTheRest forged
  pub ours : IsOurs lent_both forged
  pub not_honest : (log : Log Act) → IsOf counting log start last → log.edges ≡ last.edges → IsHonest counting log start last.journal → ⊥
