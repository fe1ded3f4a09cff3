-- Candidates that stand for terms by themselves, over worlds where keepers fence terms off. Nobody knows which terms were begun.
use Rattle.std.specs.Prelude.{ℕ, ◌≡◌, ◌+◌, ◌<◌, ◌≤◌, Bool, true, List, [], ◌∷◌, Option, Some, None}
use Rattle.interleaving.specs.Lists.{put}
use Rattle.ft_types.specs.Guests.{GuestParts}
use Rattle.ft_types.specs.declared.position.Position.{Position}
use Rattle.fragment_codec.specs.Rules.{IsOpening}
use Rattle.log_join.specs.Stores.{StoreView}
use Rattle.closed_cut.specs.Position.{IsPosition}
use Rattle.fenced_theory.specs.Lists.{how_many}
use Rattle.fenced_theory.specs.Notes.{IsMark}
use Rattle.fenced_theory.specs.Recorders.{Recorder, IsBoot}
use Rattle.fenced_theory.specs.Worlds.{Quorum, World, HasGiven, empty_world, first_world, fenced, granted, new_opening, IsNewTo, BeginsAt}
use Rattle.fenced_theory.specs.Worlds as fences

-- a primary that began
pub record Begun : Type 0 where
  pub term : ℕ
  pub candidate : ℕ

pub record Election (Book : Type 0) : Type 0 where
  pub world : World Book  -- what a keeper gave there for a term may come at any time, any number of times, or never
  pub to : ℕ → ℕ → Option ℕ  -- by term and keeper: the candidate to which it gave its store for the term
  pub stood : ℕ → ℕ  -- by candidate: the greatest term that it wrote down as one in which it stood
  pub standing : ℕ → ℕ  -- by candidate: the term in which it stands, 0 where in none
  pub begun : List Begun  -- the last one first

-- nobody runs yet, and nobody stands
abbrev pub empty_election : {Book : Type 0} → GuestParts → Election Book
empty_election guest =
    record { world = empty_world guest; to = λ term keeper. None; stood = λ candidate. 0; standing = λ candidate. 0; begun = [] }

-- term 1 runs from boot, which candidate 0 began, and nobody stands; whoever does stands in a later one
abbrev pub first_election : {Book : Type 0} → GuestParts → Book → Election Book
first_election guest b =
    record {
      world = first_world guest b;
      to = λ term keeper. None;
      stood = λ candidate. 1;
      standing = λ candidate. 0;
      begun = record { term = 1; candidate = 0 } ∷ [];
    }

abbrev pub stands : {Book : Type 0} → Election Book → ℕ → ℕ → Election Book
stands e candidate u = record e { stood = put e.stood candidate u; standing = put e.standing candidate u }

abbrev pub rests : {Book : Type 0} → Election Book → ℕ → Election Book
rests e candidate = record e { standing = put e.standing candidate 0 }

abbrev pub gave : {Book : Type 0} → Election Book → ℕ → ℕ → ℕ → StoreView → Election Book
gave e keeper candidate u s = record e { world = fenced e.world keeper u s; to = put e.to u (put (e.to u) keeper (Some candidate)) }

-- the candidate's primary of the term runs, whatever was there, and it stands no more
abbrev pub begins : {Book : Type 0} → GuestParts → Election Book → ℕ → ℕ → Position → Book → (ℕ → ℕ) → Election Book
begins guest e candidate u p b marks =
    record e {
      world = granted guest e.world u p b marks;
      standing = put e.standing candidate 0;
      begun = record { term = u; candidate = candidate } ∷ e.begun;
    }

module _ {Book Fact : Type 0} (recorder : Recorder Book Fact) (guest : GuestParts) (quorum : Quorum) (may : ℕ → ℕ → Bool) where
  -- what may happen next; `may c u`: candidate c may stand in term u
  pub data Happens (e : Election Book) : Election Book → Type 0 where
    -- anything but that a term begins: primaries of all begun terms go on, frames come, keepers save, crash, come back, are lost or replaced, raise their
    -- fences, for whoever asks, give their stores once more, and acknowledge; outputs go out and are noted
    Other : (v : World Book) → fences.Happens recorder guest quorum e.world v → ((u : ℕ) → e.world.terms u ≡ None → v.terms u ≡ None) →
        Happens e (record e { world = v })
    -- a candidate writes down a term above all in which it stood, and then stands in it
    Stand : (candidate u : ℕ) → may candidate u ≡ true → e.stood candidate < u → Happens e (stands e candidate u)
    -- a candidate gives up, or comes back from a crash with what it wrote down: it stands in nothing
    Rest : (candidate : ℕ) → Happens e (rests e candidate)
    -- A keeper whose number gave the term to nobody, and whose fence is not above it, raises its fence to it and gives it to a candidate, which may have
    -- asked for it or not. A keeper that gives each round once does this too, less often.
    Give : (keeper candidate u : ℕ) (s : StoreView) → e.to u keeper ≡ None → e.world.stores keeper ≡ Some s → e.world.fence keeper ≤ u →
        Happens e (gave e keeper candidate u s)
    -- A candidate begins the term in which it stands, from a store with all that more than keepers - need keepers gave to it, which the term is new to, with
    -- the marks of what is noted there. It doesn't know whether the term was begun.
    Begin : (candidate u : ℕ) (chosen : ℕ → Bool) (all : StoreView) (p : Position) (b : Book) (marks : ℕ → ℕ) → e.standing candidate ≡ u →
        ((keeper : ℕ) → keeper < quorum.keepers → chosen keeper ≡ true → e.to u keeper ≡ Some candidate) →
        HasGiven guest e.world.terms (e.world.given u) chosen quorum.keepers all → quorum.keepers < quorum.need + how_many quorum.keepers chosen →
        IsNewTo all u → IsPosition all p → IsOpening (new_opening guest u p) → BeginsAt recorder e.world.terms p b →
        ((hart : ℕ) → IsMark e.world.terms all p hart (marks hart)) → Happens e (begins guest e candidate u p b marks)

  -- what can have come of a first one
  pub data Comes : Election Book → Type 0 where
    Nobody : Comes (empty_election guest)
    Begins : (b : Book) → IsBoot recorder b → Comes (first_election guest b)
    Then : {e f : Election Book} → Comes e → Happens e f → Comes f
