-- Frames at the front of a log.
use Rattle.std.proofs.Common.{◌≡◌, ◌+◌, ◌-◌, ◌≤◌, ◌<◌, ℕ, List, [], ◌∷◌, ◌++◌, length, take, drop, Option, None, Some, Ok, refl, sym, ap, subst, ◌∙◌, append_assoc, append-nil}
use Rattle.std.proofs.Common.{arith, inl, inr, length-drop, get_or}
use Rattle.std.specs.List.{flat_map, AllByRecursion}
use Rattle.std.proofs.lemmas.List.{take_at, drop_at, take-append-drop, length-append, length-take, drop-drop, drop_more}
use Rattle.std.proofs.Math.ListN.{drop_of_length-le}
use Rattle.fragment_codec.specs.declared.fault.FrameFault.{FrameFault}
use Rattle.fragment_codec.specs.declared.frame.Frame.{Frame}
use Rattle.fragment_codec.specs.Streams.{Spelled, text_of, IsSpelled, IsStuck, Splits, Follows, Keeps, Unread, body_len, head_of}
use Rattle.fragment_codec.proofs.bytes.Heads.{head_is}
use Rattle.fragment_codec.proofs.streams.Pieces.{spelling_head, one_reading}
use Rattle.fragment_codec.proofs.streams.Readings.{not_stuck}
use Rattle.fragment_codec.proofs.streams.Splits.{splits_first, splits_nothing}
use Rattle.stations.specs.Logs.{StandsBehind, IsFrontOf}

-- ---- what stands behind the frames that a feed gave

stands : (rest kept : List ℕ) (fault : Option FrameFault) → Keeps rest kept fault → StandsBehind rest fault
stands rest kept None k = k.1
stands rest kept (Some f) k = k

pub behind : (stream : List ℕ) (given : List Frame) (feed : Unread) (fault : Option FrameFault) → feed.fault ≡ fault → Follows stream given feed →
    (rest : List ℕ) × Splits stream given rest × StandsBehind rest fault
behind stream given feed fault e f =
    (f.rest, f.splits, stands f.rest feed.rest fault (subst (λ (o : Option FrameFault). Keeps f.rest feed.rest o) e f.keeps))

-- ---- sizes

-- the first frame's bytes, and what stands behind them
pub record Step (bytes last : List ℕ) (frames : List Frame) : Type 0 where
  pub len : 8 ≤ length bytes
  pub within : body_len bytes + 40 ≤ length bytes
  pub others : Splits (drop (body_len bytes + 40) bytes) frames last

pub size_step : (bytes last : List ℕ) (frame : Frame) (frames : List Frame) → Splits bytes (frame ∷ frames) last → Step bytes last frames
size_step bytes last frame frames s =
    let first = splits_first bytes last frame frames s in
    let size : ℕ = length (text_of first.spelled) in
    let head : head_of bytes ≡ Ok (Some size) = ap head_of first.whole ∙ spelling_head first.spelled first.behind first.rules in
    let is = head_is bytes size head in
    let all : length bytes ≡ size + length first.behind = ap length first.whole ∙ length-append (text_of first.spelled) first.behind in
    let rest : drop (body_len bytes + 40) bytes ≡ first.behind =
    ap (λ (n : ℕ). drop n bytes) is.n-is ∙ ap (drop size) first.whole ∙ drop_at (text_of first.spelled) first.behind size refl in
    record {
      len = is.len;
      within = omega (arith, is.n-is, all);
      others = subst (λ (b : List ℕ). Splits b frames last) (sym rest) first.others;
    }

-- a walk over frames that has come over so many bytes and frames
pub step_at : (bytes last : List ℕ) (frames : List Frame) (size i : ℕ) (frame : Frame) → i < length frames → frame ≡ get_or frames i frame →
    Splits (drop size bytes) (drop i frames) last → Step (drop size bytes) last (drop (i + 1) frames)
step_at bytes last frames size i frame lt e s =
    size_step (drop size bytes) last (get_or frames i frame) (drop (i + 1) frames)
    (subst (λ (fs : List Frame). Splits (drop size bytes) fs last) (drop_more frames i frame lt) s)

pub step_over : (bytes rest last : List ℕ) (frames : List Frame) (size n : ℕ) → size ≤ length bytes → rest ≡ drop size bytes → n ≡ body_len rest + 40 →
    Step (drop size bytes) last frames → (size + n ≤ length bytes) × Splits (drop (size + n) bytes) frames last
step_over bytes rest last frames size n le e is s =
    let same : n ≡ body_len (drop size bytes) + 40 = is ∙ ap (λ (b : List ℕ). body_len b + 40) e in
    let left : length (drop size bytes) ≡ length bytes - size = length-drop size bytes in
    let within = s.within in (
      omega (arith, same, left, within, le),
      subst (λ (b : List ℕ). Splits b frames last) (drop-drop n size bytes)
          (subst (λ (k : ℕ). Splits (drop k (drop size bytes)) frames last) (sym same) s.others),
    )

pub at_end : (bytes last : List ℕ) (frames : List Frame) (size i : ℕ) → length frames ≤ i → Splits (drop size bytes) (drop i frames) last →
    drop size bytes ≡ last
at_end bytes last frames size i le s =
    splits_nothing (drop size bytes) last (subst (λ (fs : List Frame). Splits (drop size bytes) fs last) (drop_of_length-le frames le) s)

-- ---- the whole front

-- frames up to a rest are those of the bytes before it
front_alone : (bytes rest : List ℕ) (frames : List Frame) (size : ℕ) → Splits bytes frames rest → size ≤ length bytes → drop size bytes ≡ rest →
    Splits (take size bytes) frames []
front_alone bytes rest frames size s le e =
    let texts : List ℕ = flat_map text_of s.spelled in
    let all : length bytes ≡ length texts + length rest = ap length s.whole ∙ length-append texts rest in
    let left : length rest + size ≡ length bytes = sym (ap (λ (x : List ℕ). length x + size) e) ∙ omega (arith, le, length-drop size bytes) in
    let same : size ≡ length texts = omega (arith, all, left) in
    record {
      spelled = s.spelled;
      these = s.these;
      whole = ap (take size) s.whole ∙ take_at texts rest size (sym same) ∙ sym (append-nil texts);
      each = s.each;
    }

pub front : (bytes rest : List ℕ) (frames : List Frame) (size : ℕ) (fault : Option FrameFault) → Splits bytes frames rest → StandsBehind rest fault →
    (size ≤ length bytes) × (drop size bytes ≡ rest) → IsFrontOf bytes frames size fault
front bytes rest frames size fault s h at = record {
  within = at.0;
  splits = front_alone bytes rest frames size s at.0 at.1;
  behind = subst (λ (x : List ℕ). StandsBehind x fault) (sym at.1) h;
}

-- where nothing more stands, no frames are longer
longest : (fs gs : List Spelled) (r q : List ℕ) → AllByRecursion IsSpelled fs → AllByRecursion IsSpelled gs → IsStuck r →
    flat_map text_of fs ++ r ≡ flat_map text_of gs ++ q → length (flat_map text_of gs) ≤ length (flat_map text_of fs)
longest fs [] r q hf hg sr e = omega arith
longest [] (g ∷ gs) r q hf hg sr e =
    absurd (not_stuck g (flat_map text_of gs ++ q) hg.0 (subst IsStuck (e ∙ append_assoc (text_of g) (flat_map text_of gs) q) sr))
longest (f ∷ fs) (g ∷ gs) r q hf hg sr e =
    let a = one_reading f g (flat_map text_of fs ++ r) (flat_map text_of gs ++ q) hf.0 hg.0 (sym (append_assoc (text_of f) (flat_map text_of fs) r) ∙ e ∙
    append_assoc (text_of g) (flat_map text_of gs) q) in
    let b = longest fs gs r q hf.1 hg.1 sr a.1 in
    let same : length (text_of f) ≡ length (text_of g) = ap (λ (s : Spelled). length (text_of s)) a.0 in
    omega (arith, b, same, length-append (text_of f) (flat_map text_of fs), length-append (text_of g) (flat_map text_of gs))

stuck : (rest : List ℕ) (fault : Option FrameFault) → StandsBehind rest fault → IsStuck rest
stuck rest None h = inl h
stuck rest (Some f) h = inr (f, h)

pub most : (bytes : List ℕ) (frames others : List Frame) (size other : ℕ) (fault : Option FrameFault) → IsFrontOf bytes frames size fault →
    other ≤ length bytes → Splits (take other bytes) others [] → other ≤ size
most bytes frames others size other fault f le s =
    let mine : take size bytes ≡ flat_map text_of f.splits.spelled = f.splits.whole ∙ append-nil (flat_map text_of f.splits.spelled) in
    let theirs : take other bytes ≡ flat_map text_of s.spelled = s.whole ∙ append-nil (flat_map text_of s.spelled) in
    let e : flat_map text_of f.splits.spelled ++ drop size bytes ≡ flat_map text_of s.spelled ++ drop other bytes =
    ap (λ (x : List ℕ). x ++ drop size bytes) (sym mine) ∙ take-append-drop size bytes ∙ sym (take-append-drop other bytes)
    ∙ ap (λ (x : List ℕ). x ++ drop other bytes) theirs in
    let l = longest f.splits.spelled s.spelled (drop size bytes) (drop other bytes) f.splits.each s.each (stuck (drop size bytes) fault f.behind) e in
    omega (arith, l, ap length mine, ap length theirs, length-take size bytes, length-take other bytes, le, f.within)
