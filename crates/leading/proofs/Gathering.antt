-- The store of a log that was handed over, and why there is none.
use Rattle.std.proofs.Common.{◌≡◌, ◌≢◌, ◌-◌, ◌≤◌, ◌<◌, ℕ, List, [], ◌∷◌, ◌++◌, length, take, drop, None, Some, Result, Ok, Err, IfOk, IfErr, refl, sym, ap, subst, ◌∙◌, arith, length-drop}
use Rattle.std.proofs.lemmas.List.{take_all, take-append-drop}
use Rattle.fragment_codec.specs.declared.fault.FrameFault.{FrameFault}
use Rattle.fragment_codec.specs.Streams.{Splits}
use Rattle.stations.specs.Logs.{IsFrontOf}
use Rattle.ft_types.specs.Guests.{GuestParts}
use Rattle.fragment_codec.specs.declared.frame.Frame.{Frame}
use Rattle.log_join.specs.Coming.{IsJoinOf}
use Rattle.log_join.specs.Stores.{StoreView}
use Rattle.leading.specs.Handed.{IsPutFault, IsGatherFault, IsStoreFault}
use Rattle.leading.specs.declared.handed.HandedFault.{HandedFault}
use Rattle.leading.specs.declared.handed.HandedFault.TheVariants.{Line, Length, Torn, Frame as FrameAt, OtherGuest, Clash, Memory}

pub gather_fault : (guest : GuestParts) (frames before behind : List Frame) (frame : Frame) (store : StoreView) (f : HandedFault) →
    frames ≡ before ++ frame ∷ behind → IsJoinOf guest before store → IsPutFault store frame f → IsGatherFault guest frames f
gather_fault guest frames before behind frame store OtherGuest parts join fault =
    record { before = before; frame = frame; behind = behind; parts = parts; store = store; join = join; answer = fault }
gather_fault guest frames before behind frame store Clash parts join fault =
    record { before = before; frame = frame; behind = behind; parts = parts; store = store; join = join; answer = fault }
gather_fault guest frames before behind frame store Line parts join fault = fault
gather_fault guest frames before behind frame store Length parts join fault = fault
gather_fault guest frames before behind frame store Torn parts join fault = fault
gather_fault guest frames before behind frame store (FrameAt x) parts join fault = fault
gather_fault guest frames before behind frame store Memory parts join fault = fault

-- ---- the bytes

-- a fault stands behind the frames
pub front_fault : (guest : GuestParts) (bytes : List ℕ) (frames : List Frame) (size : ℕ) (fault : FrameFault) → IsFrontOf bytes frames size (Some fault) →
    IsStoreFault guest bytes (FrameAt fault)
front_fault guest bytes frames size fault front =
    (take size bytes, drop size bytes, frames, sym (take-append-drop size bytes), front.splits, front.behind)

-- less than a whole frame does
pub front_torn : (guest : GuestParts) (bytes : List ℕ) (frames : List Frame) (size : ℕ) → IsFrontOf bytes frames size None → size < length bytes →
    IsStoreFault guest bytes Torn
front_torn guest bytes frames size front lt = (
  take size bytes,
  drop size bytes,
  frames,
  sym (take-append-drop size bytes),
  front.splits,
  (λ e. omega (arith, ap length e, length-drop size bytes, lt)),
  front.behind,
)

-- nothing does
pub front_all : (bytes : List ℕ) (frames : List Frame) (size : ℕ) → IsFrontOf bytes frames size None → length bytes ≤ size → Splits bytes frames []
front_all bytes frames size front le = subst (λ (b : List ℕ). Splits b frames []) (take_all size bytes le) front.splits

pub store_whole : (guest : GuestParts) (bytes : List ℕ) (frames : List Frame) (r : Result StoreView HandedFault) → Splits bytes frames [] →
    IfOk r (λ store. IsJoinOf guest frames store) → IfOk r (λ store. (fs : List Frame) × Splits bytes fs [] × IsJoinOf guest fs store)
store_whole guest bytes frames (Ok store) s join = (frames, s, join)
store_whole guest bytes frames (Err f) s join = tt

gathered : (guest : GuestParts) (bytes : List ℕ) (frames : List Frame) (f : HandedFault) → Splits bytes frames [] → IsGatherFault guest frames f →
    IsStoreFault guest bytes f
gathered guest bytes frames OtherGuest s met = (frames, s, met)
gathered guest bytes frames Clash s met = (frames, s, met)
gathered guest bytes frames Line s fault = fault
gathered guest bytes frames Length s fault = fault
gathered guest bytes frames Torn s fault = absurd cc
gathered guest bytes frames (FrameAt x) s fault = absurd cc
gathered guest bytes frames Memory s fault = fault

pub store_fault : (guest : GuestParts) (bytes : List ℕ) (frames : List Frame) (r : Result StoreView HandedFault) → Splits bytes frames [] →
    IfErr r (λ f. IsGatherFault guest frames f) → IfErr r (λ f. IsStoreFault guest bytes f)
store_fault guest bytes frames (Ok store) s fault = tt
store_fault guest bytes frames (Err f) s fault = gathered guest bytes frames f s fault
