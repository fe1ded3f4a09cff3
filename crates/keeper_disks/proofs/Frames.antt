-- Frames of bytes, and of beginnings of bytes.
use Rattle.std.proofs.Common.{◌≡◌, ◌≤◌, ℕ, List, [], ◌∷◌, ◌++◌, length, take, drop, None, refl, sym, ap, subst, ◌∙◌, append-nil, inl}
use Rattle.std.proofs.lemmas.List.{take_all, take-append-drop}
use Rattle.fragment_codec.specs.declared.frame.Frame.{Frame}
use Rattle.fragment_codec.specs.Streams.{IsStuck, Splits}
use Rattle.fragment_codec.proofs.bytes.Heads.{partial_nothing}
use Rattle.fragment_codec.proofs.streams.Readings.{not_stuck, one_stream}
use Rattle.fragment_codec.proofs.streams.Splits.{splits_more, splits_first, splits_nothing, one_first}
use Rattle.stations.specs.Logs.{IsFrontOf}
use Rattle.stations.specs.Handshake.{IsBeginning}
use Rattle.stations.proofs.Fronts.{most}
use Rattle.stations.proofs.Handshakes.{begins_len, begins_take, begins_cut}

pub stuck_nothing : IsStuck []
stuck_nothing = inl partial_nothing

-- whole frames are read in one way
pub whole_one : (bytes : List ℕ) (fs gs : List Frame) → Splits bytes fs [] → Splits bytes gs [] → fs ≡ gs
whole_one bytes fs gs a b = (one_stream bytes fs gs [] [] a b stuck_nothing stuck_nothing).0

-- a front is a reading
pub reading_of : (log : List ℕ) (fs : List Frame) (size : ℕ) → IsFrontOf log fs size None → Splits log fs (drop size log) × IsStuck (drop size log)
reading_of log fs size f = (
  subst (λ (x : List ℕ). Splits x fs (drop size log)) (take-append-drop size log) (splits_more (take size log) [] (drop size log) fs f.splits),
  inl f.behind,
)

-- ---- beginnings of frames

-- whatever is read at the front of a stream are the first of all its frames
pub begins_frames : (stream last rest : List ℕ) (fs gs : List Frame) → Splits stream fs last → IsStuck last → Splits stream gs rest →
    (hs : List Frame) × (fs ≡ gs ++ hs)
begins_frames stream last rest fs [] s k t = (fs, refl)
begins_frames stream last rest [] (g ∷ gs) s k t =
    let b = splits_first stream rest g gs t in
    absurd (not_stuck b.spelled b.behind b.rules (subst IsStuck (sym (splits_nothing stream last s) ∙ b.whole) k))
begins_frames stream last rest (f ∷ fs) (g ∷ gs) s k t =
    let a = splits_first stream last f fs s in
    let b = splits_first stream rest g gs t in
    let same = one_first stream f g fs gs last rest a b in
    let more = begins_frames a.behind last rest fs gs a.others k (subst (λ (x : List ℕ). Splits x gs rest) (sym same.1) b.others) in
    (more.0, ap (λ (x : Frame). x ∷ fs) same.0 ∙ ap (λ (xs : List Frame). g ∷ xs) more.1)

-- ---- beginnings of bytes

pub begins_itself : (xs : List ℕ) → IsBeginning xs xs
begins_itself xs = ([], sym (append-nil xs))

-- a cut behind all frames of a log leaves the whole frames at its front
pub cut_leaves : (safe log : List ℕ) (fs gs : List Frame) (size : ℕ) → IsBeginning safe log → Splits safe fs [] → IsFrontOf log gs size None →
    (take size safe ≡ safe) × IsBeginning safe (take size log)
cut_leaves safe log fs gs size b s f =
    let le : length safe ≤ size =
    most log gs fs size (length safe) None f (begins_len safe log b) (subst (λ (x : List ℕ). Splits x fs []) (sym (begins_take safe log b)) s) in
    (take_all size safe le, begins_cut safe log size le b)
