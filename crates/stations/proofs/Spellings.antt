-- The bytes of frames, as they came and as they are written.
use Rattle.std.proofs.Common.{◌≡◌, ◌+◌, ◌≤◌, ◌<◌, ℕ, suc, Bool, cond, List, [], ◌∷◌, ◌++◌, length, take, drop, slice_index, refl, sym, ap, subst, ◌∙◌, append-nil, arith, inl, inr, Ok, Some}
use Rattle.std.proofs.lemmas.List.{take_at}
use Rattle.fragment_codec.specs.declared.frame.Frame.{Frame}
use Rattle.fragment_codec.specs.declared.frame.Frame.TheVariants.{Log, Opening}
use Rattle.fragment_codec.specs.Spelling.{sealed, headed}
use Rattle.fragment_codec.specs.Streams.{Spelled, text_of, spelled, version_of, HasSpelling, IsSpelled, spelling, Splits, Follows, Unread, body_len, head_of}
use Rattle.fragment_codec.proofs.bytes.Heads.{head_is}
use Rattle.fragment_codec.proofs.streams.Pieces.{spelling_head}
use Rattle.fragment_codec.proofs.streams.Splits.{splits_first, splits_nothing, splits_none}
use Rattle.stations.proofs.Fronts.{size_step}

-- ---- one frame

-- more than two
at_least : (n : ℕ) → 2 < suc (suc (suc n))
at_least n = omega arith

-- the third byte of a frame's bytes is their version
third : (version : ℕ) (frame : Frame) → slice_index (spelled version frame) 2 ≡ version
unfolding sealed headed
third version (Log f) = refl
third version (Opening o) = refl

three : (version : ℕ) (frame : Frame) → 2 < length (spelled version frame)
unfolding sealed headed
three version (Log f) = at_least _
three version (Opening o) = at_least _

-- the second version is the one in which a frame is written that has a spelling there
second : (version : ℕ) (frame : Frame) → HasSpelling version frame → version ≡ 2 → version_of frame ≡ version
second version frame (inl first) e = absurd (let same = sym e ∙ first.0 in cc)
second version frame (inr now) e = ap (λ (b : Bool). cond b 2 1) now.1 ∙ sym now.0

-- bytes that are a frame alone
pub record IsOne (bytes : List ℕ) (frame : Frame) : Type 0 where
  pub spelled : Spelled
  pub is : spelled.frame ≡ frame
  pub rules : IsSpelled spelled
  pub text : bytes ≡ text_of spelled

pub one : (bytes : List ℕ) (frame : Frame) → Splits bytes (frame ∷ []) [] → IsOne bytes frame
one bytes frame s =
    let first = splits_first bytes [] frame [] s in
    let nothing : first.behind ≡ [] = splits_nothing first.behind [] first.others in
    record {
      spelled = first.spelled;
      is = first.is;
      rules = first.rules;
      text = first.whole ∙ ap (λ (x : List ℕ). text_of first.spelled ++ x) nothing ∙ append-nil (text_of first.spelled);
    }

-- they are long enough to tell their version
pub has_version : (bytes : List ℕ) (frame : Frame) → Splits bytes (frame ∷ []) [] → 2 < length bytes
has_version bytes frame s =
    let o = one bytes frame s in
    subst (λ (x : List ℕ). 2 < length x) (sym o.text) (three o.spelled.version o.spelled.frame)

-- and where that is the second, they are its bytes as it is written
pub as_written : (bytes : List ℕ) (frame : Frame) → Splits bytes (frame ∷ []) [] → slice_index bytes 2 ≡ 2 → bytes ≡ spelling frame
as_written bytes frame s e =
    let o = one bytes frame s in
    let version : o.spelled.version ≡ 2 = sym (ap (λ (x : List ℕ). slice_index x 2) o.text ∙ third o.spelled.version o.spelled.frame) ∙ e in
    o.text ∙ ap (λ (v : ℕ). spelled v o.spelled.frame) (sym (second o.spelled.version o.spelled.frame o.rules.told version)) ∙ ap spelling o.is

-- ---- frames one behind the other

-- the first frame's bytes are that frame alone
pub own_bytes : (bytes last : List ℕ) (frame : Frame) (frames : List Frame) → Splits bytes (frame ∷ frames) last →
    Splits (take (body_len bytes + 40) bytes) (frame ∷ []) []
own_bytes bytes last frame frames s =
    let first = splits_first bytes last frame frames s in
    let text : List ℕ = text_of first.spelled in
    let head : head_of bytes ≡ Ok (Some (length text)) = ap head_of first.whole ∙ spelling_head first.spelled first.behind first.rules in
    let is = head_is bytes (length text) head in
    record {
      spelled = first.spelled ∷ [];
      these = ap (λ (f : Frame). f ∷ []) first.is;
      whole =
          ap (λ (n : ℕ). take n bytes) is.n-is ∙ ap (take (length text)) first.whole ∙ take_at text first.behind (length text) refl
          ∙ sym (append-nil text) ∙ sym (append-nil (text ++ []));
      each = (first.rules, tt);
    }

-- the first frame's bytes, apart from what stands behind them
pub record Apart (bytes last : List ℕ) (frame : Frame) (frames : List Frame) : Type 0 where
  pub len : 8 ≤ length bytes
  pub within : body_len bytes + 40 ≤ length bytes
  pub own : Splits (take (body_len bytes + 40) bytes) (frame ∷ []) []
  pub others : Splits (drop (body_len bytes + 40) bytes) frames last

-- a walk over frames that has come to a frame
pub apart : (bytes rest last : List ℕ) (all left frames : List Frame) (frame : Frame) → ((end : List ℕ) → Splits bytes all end → Splits rest left end) →
    left ≡ frame ∷ frames → Splits bytes all last → Apart rest last frame frames
apart bytes rest last all left frames frame walk steps s =
    let now : Splits rest (frame ∷ frames) last = subst (λ (fs : List Frame). Splits rest fs last) steps (walk last s) in
    let step = size_step rest last frame frames now in
    record { len = step.len; within = step.within; own = own_bytes rest last frame frames now; others = step.others }

-- ---- feeds

-- behind the frames that a feed gave of what was held and a piece stands what it holds now
pub record Given (bytes : List ℕ) (frames : List Frame) (feed : Unread) : Type 0 where
  pub rest : List ℕ
  pub splits : Splits bytes frames rest
  pub follows : Follows rest [] feed

pub given : (bytes : List ℕ) (frames : List Frame) (feed : Unread) → Follows bytes frames feed → Given bytes frames feed
given bytes frames feed f = record {
  rest = f.rest;
  splits = f.splits;
  follows = record { rest = f.rest; splits = splits_none f.rest; keeps = f.keeps };
}

-- a feed that gave frames has the rest of what was held and the piece
pub holds_rest : (bytes held : List ℕ) (frames : List Frame) (feed : Unread) → Follows bytes frames feed →
    ((rest : List ℕ) → Splits bytes frames rest → held ≡ rest) → Follows held [] feed
holds_rest bytes held frames feed f same =
    let g = given bytes frames feed f in
    subst (λ (x : List ℕ). Follows x [] feed) (sym (same g.rest g.splits)) g.follows
