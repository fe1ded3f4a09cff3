-- How a primary sets out from the logs that were handed over to its term.
use Rattle.std.specs.Prelude.{◌≡◌, ℕ, List, ◌++◌, map}
use Rattle.ft_types.specs.Guests.{GuestParts}
use Rattle.ft_types.specs.declared.quorum.Quorum.{Quorum}
use Rattle.guest_image.specs.Image.{ImageContents, guest_of}
use Rattle.fragment_codec.specs.Streams.{spelling}
use Rattle.fragment_codec.specs.declared.frame.Frame.{Frame}
use Rattle.fragment_codec.specs.declared.frame.Frame.TheVariants.{Opening}
use Rattle.log_join.specs.Stores.{StoreView, clashes_of}
use Rattle.log_streams.specs.Stores.{IsStoreText}
use Rattle.go_live.specs.Joined.{AreJoined}
use Rattle.term_gate.specs.TermGates.{TermGateView}
use Rattle.primary.specs.declared.granted.Primary.{Primary}
use Rattle.fenced_live.specs.declared.given.Given.{Given}
use Rattle.leading.specs.Beginning.{GoesLiveGiven}
use Rattle.leading.specs.declared.handed.HandedLog.{HandedLog}
use Rattle.live_primary.specs.Pairs.{AreOfPair}
use Rattle.wire.specs.declared.pairs.Pair.{Pair}

-- the stores of these logs, each of its keeper and given to its term
pub record AreGivenOf (logs : List HandedLog) (given : List Given) : Type 0 where
  pub keepers : map (λ g. g.keeper) given ≡ map (λ l. l.keeper) logs
  pub terms : map (λ g. g.term) given ≡ map (λ l. l.term) logs
  pub stores : map (λ g. g.store.now) given ≡ map (λ l. l.store) logs

-- what keepers are sent first: the frames of all these logs, each once, of which no two have one key, and then the opening
pub record AreSentFirst (guest : GuestParts) (logs : List HandedLog) (opening : Frame) (bytes : List ℕ) : Type 0 where
  pub store : StoreView
  pub text : List ℕ
  pub joined : AreJoined guest (map (λ l. l.store) logs) store
  pub clean : clashes_of store ≡ 0
  pub written : IsStoreText store text
  pub sent : bytes ≡ text ++ spelling opening

-- the primary and its gate are live from the very logs whose frames are sent first, and then its opening; these are of one pair, whose quorum this is
pub record SetsOut (quorum : Quorum) (term : ℕ) (p : Primary) (g : TermGateView) (bytes : List ℕ) : Type 0 where
  pub image : ImageContents
  pub logs : List HandedLog
  pub pair : Pair
  pub quorum_is : pair.quorum ≡ quorum
  pub of_pair : AreOfPair (guest_of image) pair logs
  pub given : List Given
  pub are : AreGivenOf logs given
  pub live : GoesLiveGiven image quorum term given p g
  pub first : AreSentFirst (guest_of image) logs (Opening p.opening) bytes
