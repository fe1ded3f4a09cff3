-- Whether a frame stands in bytes.
use Rattle.std.proofs.Common.{◌≡◌, ◌≢◌, ◌<◌, ◌≤◌, ℕ, List, [], ◌∷◌, ◌++◌, length, take, drop, Option, None, Some, Bool, true, false, not, ◌==◌, refl, sym, ap, subst, ◌∙◌, arith, inl, inr, ne_eqb}
use Rattle.std.proofs.lemmas.Bool.{cases_lt}
use Rattle.std.proofs.lemmas.List.{take-append-drop, length-drop}
use Rattle.fragment_codec.specs.declared.fault.FrameFault.{FrameFault}
use Rattle.fragment_codec.specs.declared.frame.Frame.{Frame}
use Rattle.fragment_codec.specs.Streams.{Splits, IsStuck}
use Rattle.fragment_codec.proofs.streams.Readings.{not_stuck}
use Rattle.fragment_codec.proofs.streams.Splits.{splits_begin, splits_first, splits_more, splits_nothing}
use Rattle.stations.specs.Logs.{StandsBehind, IsFrontOf}
use Rattle.stations.proofs.Fronts.{size_step}
use Rattle.log_mending.specs.Mending.{HasFrame, HasNoFrames}

stuck : (rest : List ℕ) (fault : Option FrameFault) → StandsBehind rest fault → IsStuck rest
stuck rest None h = inl h
stuck rest (Some f) h = inr (f, h)

-- where no frame was found at the front none stands there
pub no_frame : (bytes : List ℕ) (frames : List Frame) (size : ℕ) (fault : Option FrameFault) → IsFrontOf bytes frames size fault → frames ≡ [] → HasFrame bytes → ⊥
no_frame bytes frames size fault front none has =
    let nothing : take size bytes ≡ [] = splits_nothing (take size bytes) [] (subst (λ (fs : List Frame). Splits (take size bytes) fs []) none front.splits) in
    let rest : drop size bytes ≡ bytes = ap (λ (x : List ℕ). x ++ drop size bytes) (sym nothing) ∙ take-append-drop size bytes in
    let first = splits_first bytes has.1 has.0 [] has.2 in
    not_stuck first.spelled first.behind first.rules
    (subst IsStuck first.whole (subst IsStuck rest (stuck (drop size bytes) fault front.behind)))

-- one that was found stands there
pub some_frame : (bytes : List ℕ) (frames : List Frame) (size : ℕ) (fault : Option FrameFault) → IsFrontOf bytes frames size fault → frames ≢ [] → HasFrame bytes
some_frame bytes [] size fault front some = absurd (some refl)
some_frame bytes (f ∷ fs) size fault front some =
    let whole : Splits bytes (f ∷ fs) (drop size bytes) =
    subst (λ (x : List ℕ). Splits x (f ∷ fs) (drop size bytes)) (take-append-drop size bytes)
    (splits_more (take size bytes) [] (drop size bytes) (f ∷ fs) front.splits) in
    let b = splits_begin bytes (drop size bytes) (f ∷ []) fs whole in
    (f, b.0, b.1)

-- a frame has eight bytes at least
pub is_too_short : (bytes : List ℕ) → length bytes < 8 → HasFrame bytes → ⊥
is_too_short bytes lt has = (let le = (size_step bytes has.1 has.0 [] has.2).len in omega (arith, le, lt))

-- where none stands at any place before the end none stands anywhere
pub none_anywhere : (bytes : List ℕ) (end : ℕ) → length bytes ≤ end → ((at : ℕ) → at < end → HasFrame (drop at bytes) → ⊥) → HasNoFrames bytes
none_anywhere bytes end le before = λ at has.
    elim (cases_lt at end) [
      | inl lt ↦ before at lt has
      | inr ge ↦ is_too_short (drop at bytes) (omega (arith, ge, le, length-drop at bytes)) has
    ]

-- whether frames were found
pub some_of : (frames : List Frame) (r : Bool) → r ≡ (length frames == 0) → not r ≡ true → frames ≢ []
some_of frames r is e = λ n.
    (let empty : r ≡ true = is ∙ ap (λ (l : List Frame). length l == 0) n in let k : false ≡ true = sym (ap not empty) ∙ e in cc)

pub none_of : (frames : List Frame) (r : Bool) → r ≡ (length frames == 0) → not r ≡ false → frames ≡ []
none_of [] r is e = refl
none_of (f ∷ fs) r is e =
    let some : length (f ∷ fs) ≢ 0 = λ n. omega (arith, n) in
    let no : r ≡ false = is ∙ ne_eqb (length (f ∷ fs)) 0 some in
    absurd (let k : true ≡ false = sym (ap not no) ∙ e in cc)
