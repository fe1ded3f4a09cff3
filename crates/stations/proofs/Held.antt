-- Stores of a log's frames.
use Rattle.std.proofs.Common.{◌≡◌, List, [], ◌∷◌, ◌++◌, ℕ, take, Option, None, refl, sym, ap, subst, ◌∙◌, append_assoc, append-nil}
use Rattle.ft_types.specs.Guests.{GuestParts}
use Rattle.fragment_codec.specs.declared.fault.FrameFault.{FrameFault}
use Rattle.fragment_codec.specs.declared.frame.Frame.{Frame}
use Rattle.fragment_codec.specs.Streams.{spelling, Splits}
use Rattle.fragment_codec.proofs.streams.Splits.{splits_more, splits_on}
use Rattle.log_join.specs.Coming.{Come, IsJoinOf}
use Rattle.log_join.specs.Stores.{StoreView, IsJoin, alone, nothing}
use Rattle.stations.specs.Acts.{Act, SawLog, CutTo, Does}
use Rattle.stations.specs.Logs.{IsFrontOf}
use Rattle.stations.specs.Stations.{StationView, IsBegun, IsOnLog, IsPutFault, IsBeginFault}
use Rattle.stations.specs.declared.faults.LogFault.{LogFault}
use Rattle.stations.specs.declared.faults.LogFault.TheVariants.{Files, Frame as FrameAt, OtherGuest, Clash}
use Rattle.stations.proofs.Does.{does_two}

-- a frame more
pub come_one : (first old new : StoreView) (frames : List Frame) (frame : Frame) → Come first frames old → IsJoin old (alone frame) new →
    Come first (frames ++ frame ∷ []) new
come_one first old new [] frame e joined = (new, subst (λ (s : StoreView). IsJoin s (alone frame) new) e joined, refl)
come_one first old new (f ∷ frames) frame k joined = (k.0, k.1, come_one k.0 old new frames frame k.2 joined)

-- the guest of a store stays
pub same_guest : (first store : StoreView) (frames : List Frame) → Come first frames store → store.guest ≡ first.guest
same_guest first store [] e = ap (λ (s : StoreView). s.guest) e
same_guest first store (f ∷ frames) k = same_guest k.0 store frames k.2 ∙ k.1.guest

-- why one of them was not put
pub begin_fault : (guest : GuestParts) (frames before behind : List Frame) (frame : Frame) (store : StoreView) (f : LogFault) →
    frames ≡ before ++ frame ∷ behind → IsJoinOf guest before store → IsPutFault store frame f → IsBeginFault guest frames f
begin_fault guest frames before behind frame store OtherGuest parts join fault =
    record { before = before; frame = frame; behind = behind; parts = parts; store = store; join = join; answer = fault }
begin_fault guest frames before behind frame store Clash parts join fault =
    record { before = before; frame = frame; behind = behind; parts = parts; store = store; join = join; answer = fault }
begin_fault guest frames before behind frame store (Files x) parts join fault = fault
begin_fault guest frames before behind frame store (FrameAt x) parts join fault = fault

-- a keeper whose log has these frames
pub on_log : (guest : GuestParts) (log : List ℕ) (frames : List Frame) (store : StoreView) → Splits log frames [] → IsJoinOf guest frames store →
    (keeper seen : ℕ) → IsOnLog log (record { keeper = keeper; store = store; fresh = []; seen = seen })
on_log guest log frames store s join keeper seen = record {
  frames = frames;
  splits = subst (λ (x : List ℕ). Splits x frames []) (sym (append-nil log)) s;
  join = subst (λ (g : GuestParts). IsJoinOf g frames store) (sym (same_guest (nothing guest) store frames join)) join;
}

-- and takes one more, whose bytes are to be added
pub takes_one : (log : List ℕ) (frame : Frame) (old new : StationView) → IsJoin old.store (alone frame) new.store →
    new.fresh ≡ old.fresh ++ spelling frame → Splits (spelling frame) (frame ∷ []) [] → IsOnLog log old → IsOnLog log new
takes_one log frame old new joined fresh one on = record {
  frames = on.frames ++ frame ∷ [];
  splits =
      let bytes : log ++ new.fresh ≡ (log ++ old.fresh) ++ spelling frame =
      ap (λ (x : List ℕ). log ++ x) fresh ∙ sym (append_assoc log old.fresh (spelling frame)) in
      subst (λ (x : List ℕ). Splits x (on.frames ++ frame ∷ []) []) (sym bytes)
      (splits_on _ (spelling frame) [] on.frames (frame ∷ []) (splits_more (log ++ old.fresh) [] (spelling frame) on.frames on.splits) one);
  join =
      subst (λ (g : GuestParts). IsJoinOf g (on.frames ++ frame ∷ []) new.store) (sym joined.guest)
      (come_one (nothing old.store.guest) old.store new.store on.frames frame on.join joined);
}

-- what is fresh was added to the log
pub logs_all : (log : List ℕ) (old new : StationView) → new ≡ record { keeper = old.keeper; store = old.store; fresh = []; seen = new.seen } → IsOnLog log old →
    IsOnLog (log ++ old.fresh) new
logs_all log old new e on = rw e (record {
  frames = on.frames;
  splits = subst (λ (x : List ℕ). Splits x on.frames []) (sym (append-nil (log ++ old.fresh))) on.splits;
  join = on.join;
})

-- the log was read, and cut behind its frames
pub begun : (guest : GuestParts) (keeper : ℕ) (old read new : List Act → Type 0) (log : List ℕ) (frames : List Frame) (size : ℕ) (fault : Option FrameFault)
    (station : StationView) → IsFrontOf log frames size fault → fault ≡ None → station.keeper ≡ keeper → IsJoinOf guest frames station.store →
    station.fresh ≡ [] → station.seen ≡ 0 → Does old read (SawLog log ∷ []) → Does read new (CutTo size ∷ []) → IsBegun guest keeper old new station
begun guest keeper old read new log frames size fault station front none own join fresh unseen saw cut =
    let whole : IsFrontOf log frames size None = subst (λ (f : Option FrameFault). IsFrontOf log frames size f) none front in
    let same : record { keeper = station.keeper; store = station.store; fresh = []; seen = station.seen } ≡ station =
    ap (λ (x : List ℕ). record { keeper = station.keeper; store = station.store; fresh = x; seen = station.seen }) (sym fresh) in
    record {
      log = log;
      frames = frames;
      size = size;
      front = whole;
      acts = does_two old read new (SawLog log) (CutTo size) saw cut;
      own = own;
      same_guest = same_guest (nothing guest) station.store frames join;
      on_log = subst (IsOnLog (take size log)) same (on_log guest (take size log) frames station.store whole.splits join station.keeper station.seen);
      nothing_fresh = fresh;
      nothing_seen = unseen;
    }
