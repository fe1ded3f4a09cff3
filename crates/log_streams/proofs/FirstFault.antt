-- Streams have at most one first fault, and none where they are right.
use Rattle.std.proofs.Common.{◌≡◌, ℕ, ◌+◌, List, [], ◌∷◌, ◌++◌, Some, None, Result, Err, refl, sym, ap, subst, ◌∙◌, inl, inr}
use Rattle.std.specs.List.{AllByRecursion}
use Rattle.ft_types.specs.Guests.{GuestParts}
use Rattle.fragment_codec.specs.declared.frame.Frame.{Frame as LogFrame}
use Rattle.fragment_codec.specs.declared.fault.FrameFault.{FrameFault}
use Rattle.fragment_codec.specs.Streams.{IsStuck, Splits, Follows}
use Rattle.fragment_codec.proofs.streams.Readings.{not_stuck, one_feed}
use Rattle.fragment_codec.proofs.streams.Splits.{splits_nothing, splits_first, one_first as one_head}
use Rattle.log_join.specs.Stores.{StoreView}
use Rattle.guest_image.specs.Image.{ImageContents, guest_of}
use Rattle.hart_replay.specs.declared.fault.ReplayFault.{ReplayFault}
use Rattle.log_streams.specs.declared.faults.StreamsFault.{StreamsFault}
use Rattle.log_streams.specs.declared.faults.StreamsFault.TheVariants.{Read, Frame, Guest, Replay, Write, Memory}
use Rattle.log_streams.specs.Streams.{IsOf, Says, SayAll, Breaks, GoesOnWith, HasForeign, AreJoined}
use Rattle.log_streams.specs.Faults.{IsFaultOfStream, IsFirstFault, StandsInBytes, AnswersOnly}

-- behind frames of the guest that no frame follows, no other frame stands
no_other : (guest : GuestParts) (stream : List ℕ) (fs before : List LogFrame) (frame : LogFrame) (r q : List ℕ) → Splits stream fs r →
    Splits stream (before ++ frame ∷ []) q → AllByRecursion (IsOf guest) fs → (IsOf guest frame → ⊥) → IsStuck r → ⊥
no_other guest stream [] [] frame r q a b own bad stuck =
    let first = splits_first stream q frame [] b in
    not_stuck first.spelled first.behind first.rules (subst IsStuck (sym (splits_nothing stream r a) ∙ first.whole) stuck)
no_other guest stream [] (y ∷ before) frame r q a b own bad stuck =
    let first = splits_first stream q y (before ++ frame ∷ []) b in
    not_stuck first.spelled first.behind first.rules (subst IsStuck (sym (splits_nothing stream r a) ∙ first.whole) stuck)
no_other guest stream (x ∷ fs) [] frame r q a b own bad stuck =
    let same = one_head stream x frame fs [] r q (splits_first stream r x fs a) (splits_first stream q frame [] b) in
    bad (subst (IsOf guest) same.0 own.0)
no_other guest stream (x ∷ fs) (y ∷ before) frame r q a b own bad stuck =
    let first = splits_first stream r x fs a in
    let other = splits_first stream q y (before ++ frame ∷ []) b in
    let same = one_head stream x y fs (before ++ frame ∷ []) r q first other in
    no_other guest other.behind fs before frame r q (subst (λ (t : List ℕ). Splits t fs r) same.1 first.others) other.others own.1 bad stuck

-- behind frames of the guest one other frame stands first
one_other : (guest : GuestParts) (stream : List ℕ) (before others : List LogFrame) (frame other : LogFrame) (r q : List ℕ) →
    Splits stream (before ++ frame ∷ []) r → Splits stream (others ++ other ∷ []) q →
    AllByRecursion (IsOf guest) before → AllByRecursion (IsOf guest) others → (IsOf guest frame → ⊥) → (IsOf guest other → ⊥) → frame ≡ other
one_other guest stream [] [] frame other r q a b p o bad worse =
    (one_head stream frame other [] [] r q (splits_first stream r frame [] a) (splits_first stream q other [] b)).0
one_other guest stream [] (y ∷ others) frame other r q a b p o bad worse =
    let same = one_head stream frame y [] (others ++ other ∷ []) r q (splits_first stream r frame [] a) (splits_first stream q y (others ++ other ∷ []) b) in
    absurd (bad (subst (IsOf guest) (sym same.0) o.0))
one_other guest stream (x ∷ before) [] frame other r q a b p o bad worse =
    let same = one_head stream x other (before ++ frame ∷ []) [] r q (splits_first stream r x (before ++ frame ∷ []) a) (splits_first stream q other [] b) in
    absurd (worse (subst (IsOf guest) same.0 p.0))
one_other guest stream (x ∷ before) (y ∷ others) frame other r q a b p o bad worse =
    let first = splits_first stream r x (before ++ frame ∷ []) a in
    let second = splits_first stream q y (others ++ other ∷ []) b in
    let same = one_head stream x y (before ++ frame ∷ []) (others ++ other ∷ []) r q first second in
    one_other guest second.behind before others frame other r q (subst (λ (t : List ℕ). Splits t (before ++ frame ∷ []) r) same.1 first.others) second.others
    p.1 o.1 bad worse

module _ (guest : GuestParts) (stream : List ℕ) where
  says_feed : (frames : List LogFrame) (s : Says guest stream frames) → Follows stream frames (record { rest = s.rest; fault = None })
  says_feed frames s = record { rest = s.rest; splits = s.splits; keeps = (refl, s.partial) }

  breaks_feed : (f : FrameFault) (b : Breaks guest stream f) → Follows stream b.frames (record { rest = []; fault = Some f })
  breaks_feed f b = record { rest = b.rest; splits = b.splits; keeps = b.fault }

  right_unbroken : (frames : List LogFrame) (f : FrameFault) → Says guest stream frames → Breaks guest stream f → ⊥
  right_unbroken frames f s b =
      let e : None ≡ Some f = (one_feed stream frames b.frames _ _ (says_feed frames s) (breaks_feed f b)).1 in cc

  one_break : (f g : FrameFault) → Breaks guest stream f → Breaks guest stream g → f ≡ g
  one_break f g a b = let e : Some f ≡ Some g = (one_feed stream a.frames b.frames _ _ (breaks_feed f a) (breaks_feed g b)).1 in cc

  right_goes : (frames : List LogFrame) (frame : LogFrame) → Says guest stream frames → GoesOnWith guest stream frame → (IsOf guest frame → ⊥) → ⊥
  right_goes frames frame s g bad =
      no_other guest stream frames g.frames frame s.rest g.rest s.splits g.splits s.own bad (inl s.partial)

  broken_goes : (f : FrameFault) (frame : LogFrame) → Breaks guest stream f → GoesOnWith guest stream frame → (IsOf guest frame → ⊥) → ⊥
  broken_goes f frame b g bad =
      no_other guest stream b.frames g.frames frame b.rest g.rest b.splits g.splits b.own bad (inr (f, b.fault))

  foreign : (h : HasForeign guest stream) → IsOf guest h.0 → ⊥
  foreign h own = h.2 own

  -- a right stream has no fault
  right_stream : (number : ℕ) (frames : List LogFrame) (f : StreamsFault) → Says guest stream frames → StandsInBytes f → IsFaultOfStream number guest stream f →
      ⊥
  right_stream number frames (Frame i x) s in_bytes h = right_unbroken frames x s h.1
  right_stream number frames (Guest i) s in_bytes h = right_goes frames h.1.0 s h.1.1 (foreign h.1)
  right_stream number frames (Read i) s in_bytes h = in_bytes
  right_stream number frames (Replay x) s in_bytes h = in_bytes
  right_stream number frames Write s in_bytes h = in_bytes
  right_stream number frames Memory s in_bytes h = in_bytes

  same_frame : (i j : ℕ) (x y : FrameFault) → i ≡ j → x ≡ y → Frame i x ≡ Frame j y
  same_frame i j x y e f = ap (λ (k : ℕ). Frame k x) e ∙ ap (λ (z : FrameFault). Frame j z) f

  -- and a stream has one
  one_fault : (number : ℕ) (f g : StreamsFault) → StandsInBytes f → StandsInBytes g → IsFaultOfStream number guest stream f →
      IsFaultOfStream number guest stream g → f ≡ g
  one_fault number (Frame i x) (Frame j y) a b h k = same_frame i j x y (h.0 ∙ sym k.0) (one_break x y h.1 k.1)
  one_fault number (Frame i x) (Guest j) a b h k = absurd (broken_goes x k.1.0 h.1 k.1.1 (foreign k.1))
  one_fault number (Guest i) (Frame j y) a b h k = absurd (broken_goes y h.1.0 k.1 h.1.1 (foreign h.1))
  one_fault number (Guest i) (Guest j) a b h k = ap (λ (n : ℕ). Guest n) (h.0 ∙ sym k.0)
  one_fault number (Frame i x) (Read j) a b h k = absurd b
  one_fault number (Frame i x) (Replay y) a b h k = absurd b
  one_fault number (Frame i x) Write a b h k = absurd b
  one_fault number (Frame i x) Memory a b h k = absurd b
  one_fault number (Guest i) (Read j) a b h k = absurd b
  one_fault number (Guest i) (Replay y) a b h k = absurd b
  one_fault number (Guest i) Write a b h k = absurd b
  one_fault number (Guest i) Memory a b h k = absurd b
  one_fault number (Read i) g a b h k = absurd a
  one_fault number (Replay x) g a b h k = absurd a
  one_fault number Write g a b h k = absurd a
  one_fault number Memory g a b h k = absurd a

-- ---- several streams

-- right streams have no fault
pub right_streams : (number : ℕ) (guest : GuestParts) (streams : List (List ℕ)) (frames : List LogFrame) (f : StreamsFault) → SayAll guest streams frames →
    StandsInBytes f →
    IsFirstFault number guest streams f → ⊥
right_streams number guest [] frames f s in_bytes h = h
right_streams number guest (stream ∷ streams) frames f s in_bytes h = elim h [
  | inl here ↦ right_stream guest stream number s.0 f s.2 in_bytes here
  | inr there ↦ right_streams (number + 1) guest streams s.1 f s.3 in_bytes there.2
]

-- and streams have one first fault
one_first : (number : ℕ) (guest : GuestParts) (streams : List (List ℕ)) (f g : StreamsFault) → StandsInBytes f → StandsInBytes g →
    IsFirstFault number guest streams f →
    IsFirstFault number guest streams g → f ≡ g
one_first number guest [] f g a b h k = absurd h
one_first number guest (stream ∷ streams) f g a b h k = elim h [
  | inl here ↦ elim k [
    | inl other ↦ one_fault guest stream number f g a b here other
    | inr there ↦ absurd (right_stream guest stream number there.0 f there.1 a here)
  ]
  | inr there ↦ elim k [
    | inl other ↦ absurd (right_stream guest stream number there.0 g there.1 b other)
    | inr more ↦ one_first (number + 1) guest streams f g a b there.2 more.2
  ]
]

-- a fault of a replay or of the writer is none of a stream's
pub no_replay : (number : ℕ) (guest : GuestParts) (streams : List (List ℕ)) (x : ReplayFault) → IsFirstFault number guest streams (Replay x) → ⊥
no_replay number guest [] x h = h
no_replay number guest (stream ∷ streams) x h = elim h [
  | inl here ↦ here
  | inr there ↦ no_replay (number + 1) guest streams x there.2
]

pub no_write : (number : ℕ) (guest : GuestParts) (streams : List (List ℕ)) → IsFirstFault number guest streams Write → ⊥
no_write number guest [] h = h
no_write number guest (stream ∷ streams) h = elim h [
  | inl here ↦ here
  | inr there ↦ no_write (number + 1) guest streams there.2
]

-- ---- what is answered

module _ (image : ImageContents) (streams : List (List ℕ)) (f : StreamsFault) (in_bytes : StandsInBytes f) (first : IsFirstFault 0 (guest_of image) streams f)
  where
    no_store : (store : StoreView) → AreJoined (guest_of image) streams store → ⊥
    no_store store j = right_streams 0 (guest_of image) streams j.frames f j.say in_bytes first

    pub fault_only : (e : StreamsFault) → IsFirstFault 0 (guest_of image) streams e → AnswersOnly (let r : Result (Unit {0}) StreamsFault = Err e in r) f
    fault_only (Frame i x) k = one_first 0 (guest_of image) streams (Frame i x) f tt in_bytes k first
    fault_only (Guest i) k = one_first 0 (guest_of image) streams (Guest i) f tt in_bytes k first
    fault_only (Read i) k = tt
    fault_only Memory k = tt
    fault_only (Replay x) k = absurd (no_replay 0 (guest_of image) streams x k)
    fault_only Write k = absurd (no_write 0 (guest_of image) streams k)

    -- where the streams are joined, none of them is at fault
    pub joined_only : {A : Type 0} (r : Result A StreamsFault) (store : StoreView) → AreJoined (guest_of image) streams store → AnswersOnly r f
    joined_only r store j = absurd (no_store store j)
