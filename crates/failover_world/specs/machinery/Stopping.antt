-- The world's part of the theory, where each primary stops before the next term is granted. Machinery: nothing here needs to be believed.
use Rattle.std.specs.Prelude.{ℕ, ◌≡◌, ◌≤◌, List, Contains, Option, Some}
use Rattle.interleaving.specs.Lists.{put}
use Rattle.ft_types.specs.Guests.{GuestParts}
use Rattle.fragment_codec.specs.declared.frame.Frame.{Frame}
use Rattle.log_join.specs.Families.{Past, Family}
use Rattle.log_join.specs.Stores.{StoreView}
use Rattle.fenced_theory.specs.Recorders.{Recorder}
pub use Rattle.fenced_theory.specs.Worlds.{Released, Quorum, HasGiven, first_term, BeginsAt, AtBoot, AtCut}
use Rattle.fenced_theory.specs.Worlds as fences

pub record World (Book : Type 0) : Type 0 where
  pub now : ℕ  -- the term granted last
  pub terms : Family Book
  pub sent : List Frame
  pub stores : ℕ → Option StoreView  -- a keeper's, until it is lost
  pub acked : ℕ → ℕ → ℕ  -- by keeper and hart, in this term
  pub notes : ℕ → ℕ → List (ℕ × ℕ)  -- by term and hart
  pub marks : ℕ → ℕ → ℕ  -- by term and hart
  pub released : List Released

-- an output of the hart with this number
abbrev pub WentOut : List Released → ℕ → ℕ → Type 0
WentOut released hart number = (r : Released) × Contains released r × (r.hart ≡ hart) × (r.number ≡ number)

-- the primary's book is this one
abbrev pub stepped : {Book : Type 0} → World Book → Past Book → Book → World Book
stepped w p b = record w { terms = put w.terms w.now (Some (record p { told = b })) }

-- what keepers with fences have more
pub record Keepers : Type 0 where
  pub saved : ℕ → Option StoreView
  pub fence : ℕ → ℕ
  pub given : ℕ → ℕ → Option StoreView
  pub acked : ℕ → ℕ → ℕ → ℕ

-- the world with fences that has the same terms, frames, stores, notes and outputs
abbrev pub beside : {Book : Type 0} → World Book → Keepers → fences.World Book
beside w k =
    record {
      terms = w.terms;
      sent = w.sent;
      stores = w.stores;
      saved = k.saved;
      fence = k.fence;
      given = k.given;
      acked = k.acked;
      notes = w.notes;
      marks = w.marks;
      released = w.released;
    }

-- A world with fences is beside it, whose keepers raised theirs to no later term than the last one.
pub record Comes {Book Fact : Type 0} (recorder : Recorder Book Fact) (guest : GuestParts) (quorum : Quorum) (w : World Book) : Type 0 where
  pub keepers : Keepers
  pub comes : fences.Comes recorder guest quorum (beside w keepers)
  pub low : (keeper : ℕ) → keepers.fence keeper ≤ w.now
  pub high : (keeper hart : ℕ) → w.acked keeper hart ≤ keepers.acked w.now keeper hart
  pub last : (term : ℕ) (p : Past Book) → w.terms term ≡ Some p → term ≤ w.now
