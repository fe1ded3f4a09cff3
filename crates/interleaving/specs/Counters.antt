-- A system small enough to follow by hand: its harts count their steps, store their counts on pages, and load what
-- is there.
use Rattle.std.specs.Prelude.{ℕ, ◌≡◌, ◌+◌, ◌-◌, ◌^◌, ◌==◌, Bool, true, false, List, [], ◌∷◌, Option, Some, None, Contains, MatchOption, map, option_map}
use Rattle.std.specs.Prelude.{unwrap_or, slice_get, refl}
use Rattle.std.proofs.Common.{ap, subst, arith}
use Rattle.interleaving.specs.Machine.{Write, Effect, Writes, Turn}
use Rattle.interleaving.specs.Stored.{Hardware, Store, goes}
use Rattle.interleaving.specs.declared.counters.Counter.{Counter}
use Rattle.interleaving.specs.declared.counters.Act.{Act}
use Rattle.interleaving.specs.declared.counters.Act.TheVariants as act
use Rattle.interleaving.specs.declared.counters.Counters.{Counters}
use Rattle.interleaving.specs.declared.counters.Turn as declared

-- what a step does to its hart: it counts itself, and the hart holds this
abbrev pub stepped : Counter → ℕ → Counter
stepped c value = record { count = c.count + 1; value = value }

-- what a store writes, where the page is there
abbrev pub stored_on : ℕ → ℕ → Option ℕ → Option (Write ℕ)
stored_on page contents old = option_map (λ old. record { page = page; contents = contents }) old

-- a load reads the page, where it is there, and a store writes the hart's new count on it
abbrev pub effect_of : Counter → Act → (ℕ → Option ℕ) → Effect Counter ℕ
effect_of c (act.Load page) pages =
    record { hart = stepped c (unwrap_or (pages page) c.value); touched = page ∷ []; write = None }
effect_of c (act.Store page) pages =
    record { hart = stepped c c.value; touched = page ∷ []; write = stored_on page (c.count + 1) (pages page) }

-- a hart whose count is full is halted
abbrev pub halted : Counter → Bool
halted c = c.count == 2 ^ 64 - 1

-- the laws of the system
pub counted : (c : Counter) (a : Act) (pages : ℕ → Option ℕ) → (effect_of c a pages).hart.count ≡ c.count + 1
counted c (act.Load page) pages = refl
counted c (act.Store page) pages = refl

written_on : (page contents : ℕ) (old : Option ℕ) (other : ℕ) →
    MatchOption (stored_on page contents old) ⊥ (λ w. w.page ≡ other) → (page ≡ other) × ((was : ℕ) × (old ≡ Some was))
written_on page contents None other h = absurd h
written_on page contents (Some was) other h = (h, (was, refl))

pub within : (c : Counter) (a : Act) (pages : ℕ → Option ℕ) (page : ℕ) → Writes (effect_of c a pages) page →
    Contains (effect_of c a pages).touched page
within c (act.Load at) pages page h = absurd h
within c (act.Store at) pages page h = (0, (omega arith), (written_on at (c.count + 1) (pages at) page h).0)

pub there : (c : Counter) (a : Act) (pages : ℕ → Option ℕ) (page : ℕ) → Writes (effect_of c a pages) page →
    (contents : ℕ) × (pages page ≡ Some contents)
there c (act.Load at) pages page h = absurd h
there c (act.Store at) pages page h =
    let (same, is_there) = written_on at (c.count + 1) (pages at) page h in
    subst (λ page. (contents : ℕ) × (pages page ≡ Some contents)) same is_there

pub local : (c : Counter) (a : Act) (pages others : ℕ → Option ℕ) →
    ((page : ℕ) → Contains (effect_of c a pages).touched page → pages page ≡ others page) →
    effect_of c a pages ≡ effect_of c a others
local c (act.Load page) pages others same =
    ap {A = Option ℕ}
    (λ o. record { hart = stepped c (unwrap_or o c.value); touched = page ∷ []; write = None })
    (same page (0, (omega arith), refl))
local c (act.Store page) pages others same =
    ap {A = Option ℕ}
    (λ o. record { hart = stepped c c.value; touched = page ∷ []; write = stored_on page (c.count + 1) o })
    (same page (0, (omega arith), refl))

-- the system, with its harts and pages in lists
abbrev pub counters : Hardware Counter ℕ Act
counters =
    record {
      count = λ c. c.count;
      halted = halted;
      effect = effect_of;
      counted = λ c a pages runs. counted c a pages;
      within = λ c a pages page runs. within c a pages page;
      there = λ c a pages page runs. there c a pages page;
      local = λ c a pages others runs. local c a pages others;
    }

-- the lists of harts and pages that it holds
abbrev pub store_of : Counters → Store Counter ℕ
store_of c = record { harts = c.harts.items; pages = c.pages.items }

-- the turn, as an entry of an interleaving
abbrev pub turn_of : declared.Turn → Turn Act
turn_of t = record { hart = t.hart; input = t.act }

-- the turns, as an interleaving
abbrev pub turns_as : List declared.Turn → List (Turn Act)
turns_as = map turn_of

-- the turn was taken, or its hart is halted or not there and nothing changed
abbrev pub Went : Store Counter ℕ → Turn Act → Bool → Store Counter ℕ → Type 0
Went old t true new = goes counters old t (slice_get old.harts t.hart) ≡ Some new
Went old t false new = (goes counters old t (slice_get old.harts t.hart) ≡ None) × (new ≡ old)
