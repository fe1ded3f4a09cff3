-- The world: primaries one after the other, what was sent, what keepers hold, and what went out.
use Rattle.std.specs.Prelude.{ℕ, List, Bool, Option, None, slice_index_or}
use Rattle.guest_image.specs.Image.{ImageContents}
use Rattle.fragment_codec.specs.declared.frame.Frame.{Frame}
use Rattle.log_join.specs.Stores.{StoreView}
use Rattle.term_gate.specs.TermGates.{TermGateView}
use Rattle.primary.specs.declared.granted.Primary.{Primary}
use Rattle.primary.specs.declared.released.Released.{Released}

pub record WorldView : Type 0 where
  pub image : ImageContents
  pub keepers : ℕ  -- how many there were at first
  pub need : ℕ  -- how many hold whatever goes out
  pub primary : Primary  -- of the term that was granted last
  pub runs : Bool  -- whether it does
  pub stopped : List Primary  -- those of the terms before, the first term's first
  pub sent : List Frame
  pub stores : List (Option StoreView)  -- by keeper, until it is lost
  pub gate : TermGateView  -- of the term that was granted last
  pub released : List Released  -- in the order in which they went out

-- the term that was granted last
abbrev pub term_of : WorldView → ℕ
term_of w = w.primary.opening.term

-- a keeper's store, where there is one
abbrev pub store_at : List (Option StoreView) → ℕ → Option StoreView
store_at stores keeper = slice_index_or stores keeper None
