-- What a keeper published is what its store had.
use Rattle.std.proofs.Common.{◌≡◌, ◌<◌, ⊎_elim, ℕ, zero, suc, List, [], ◌∷◌, ◌++◌, get_or, slice_index, refl, sym, subst, arith}
use Rattle.std.specs.List.{Contains}
use Rattle.std.proofs.lemmas.List.Elements.{Contains-append_cases, Contains-append_left}
use Rattle.fragment_codec.specs.declared.frame.Frame.{Frame}
use Rattle.ft_types.specs.Guests.{GuestParts}
use Rattle.log_join.specs.Stores.{StoreView, nothing}
use Rattle.ack_core.specs.declared.board.Board.{Board}
use Rattle.ack_core.specs.declared.board.AckFault.{AckFault}
use Rattle.ack_core.specs.declared.seats.KeeperSeat.{KeeperSeat}
use Rattle.ack_core.specs.declared.seats.GateSeat.{GateSeat}
use Rattle.ack_core.specs.Lists.{StartsWith}
use Rattle.ack_core.specs.Seats.{harts_of, keeper_of, published, heard, Publishes, Refuses, term_of}
use Rattle.pair.specs.Keeping.{AreTaken, Tells}
use Rattle.pair.specs.Serving.{Had, HadAll, IsServed}
use Rattle.pair.proofs.Taken.{all_taken_guest}

taken_then : (old between new : StoreView) (first second : List Frame) → AreTaken old first between → AreTaken between second new →
    AreTaken old (first ++ second) new
taken_then old between new [] second t u = subst (λ (s : StoreView). AreTaken s second new) t u
taken_then old between new (f ∷ fs) second t u = (t.0, t.1, taken_then t.0 between new fs second t.2 u)

-- the store came of frames alone
abbrev pub HasCome : StoreView → Type 0
HasCome store = (frames : List Frame) × AreTaken (nothing store.guest) frames store

-- and comes of more
pub come_on : (old new : StoreView) (frames : List Frame) → HasCome old → AreTaken old frames new → HasCome new
come_on old new frames come taken = (
  come.0 ++ frames,
  subst (λ (g : GuestParts). AreTaken (nothing g) (come.0 ++ frames) new) (sym (all_taken_guest old new frames taken))
      (taken_then (nothing old.guest) old new come.0 frames come.1 taken),
)

-- what the store had, it had on the way to what it is later
had_still : (old new : StoreView) (frames : List Frame) (term hart count : ℕ) → AreTaken old frames new → Had old term hart count → Had new term hart count
had_still old new frames term hart count taken had = record {
  frames = had.frames;
  before = had.before;
  begun = subst (λ (g : GuestParts). AreTaken (nothing g) had.frames had.before) (sym (all_taken_guest old new frames taken)) had.begun;
  more = had.more ++ frames;
  taken = taken_then had.before old new had.more frames had.taken taken;
  position = had.position;
  is_position = had.is_position;
  of_term = had.of_term;
  of_hart = had.of_hart;
}

only_one : (x c k : ℕ) → k < 1 → get_or (x ∷ []) k c ≡ c → x ≡ c
only_one x c zero lt e = e
only_one x c (suc k) lt e = absurd (omega arith)

-- a keeper that took frames, and then published its store's position
pub told_on : (board : Board) (seat after : KeeperSeat) (old new : StoreView) (frames : List Frame) → HasCome old → HadAll board seat old →
    AreTaken old frames new → Tells board seat new after → HadAll board after new
told_on board seat after old new frames come had taken tells hart count within there =
    let came = come_on old new frames come taken in
    let still : Contains (published seat hart) count → Had new (term_of board) hart count
    = λ was. had_still old new frames (term_of board) hart count taken (had hart count within was) in
    ⊎_elim (λ (p : Publishes board seat tells.0 after).
    let next = slice_index tells.0.counts hart in
    let more : published after hart ≡ published seat hart ++ next ∷ [] = (p.1 hart within).1 in
    ⊎_elim (λ (was : Contains (published seat hart) count). still was)
    (λ (now : Contains (next ∷ []) count). record {
      frames = came.0;
      before = new;
      begun = came.1;
      more = [];
      taken = refl;
      position = tells.0;
      is_position = tells.1;
      of_term = p.0;
      of_hart = only_one next count now.0 now.1 now.2;
    })
    (Contains-append_cases (published seat hart) (next ∷ []) count (subst (λ (xs : List ℕ). Contains xs count) more there)))
    (λ (r : (e : AckFault) × Refuses board seat tells.0 e × (after ≡ seat)).
    still (subst (λ (s : KeeperSeat). Contains (published s hart) count) r.2 there))
    tells.2

-- one that has published nothing
pub none_told : (board : Board) (seat : KeeperSeat) (store : StoreView) → ((hart : ℕ) → published seat hart ≡ []) → HadAll board seat store
none_told board seat store none hart count within there =
    let empty : Contains [] count = subst (λ (xs : List ℕ). Contains xs count) (none hart) there in
    let below : empty.0 < 0 = empty.1 in absurd (omega (arith, below))

-- a count of a list is one of each list that it begins
pub in_longer : (whole part : List ℕ) (count : ℕ) → StartsWith whole part → Contains part count → Contains whole count
in_longer whole part count begins there = subst (λ (xs : List ℕ). Contains xs count) (sym begins.1) (Contains-append_left part begins.0 count there)

-- what the gate has heard of a keeper, its store had
pub heard_had : (board : Board) (gate : GateSeat) (k : ℕ) (s : KeeperSeat × StoreView) → IsServed board k s →
    ((hart : ℕ) → hart < harts_of board → StartsWith (published s.0 hart) (heard gate (keeper_of s.0) hart)) → (hart count : ℕ) →
    hart < harts_of board → Contains (heard gate k hart) count → Had s.1 (term_of board) hart count
heard_had board gate k s is begins hart count within there =
    is.had hart count within (in_longer (published s.0 hart) (heard gate (keeper_of s.0) hart) count (begins hart within)
    (subst (λ (n : ℕ). Contains (heard gate n hart) count) (sym is.keeper) there))
