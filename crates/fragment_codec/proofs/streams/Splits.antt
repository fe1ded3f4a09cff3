-- Streams of frames, put together.
use Rattle.std.proofs.Common.{◌≡◌, ℕ, Bool, false, cond, List, [], ◌∷◌, ◌++◌, map, drop, refl, sym, ap, subst, ◌∙◌, append_assoc, inl, inr}
use Rattle.std.specs.List.{flat_map, AllByRecursion}
use Rattle.std.proofs.lemmas.Bool.{cases_Bool, cases_lt, lt-ltb}
use Rattle.std.proofs.lemmas.List.{append-nil, map-append, take-append-drop}
use Rattle.std.proofs.lemmas.List.Concat.{flat_map-append}
use Rattle.fragment_codec.specs.declared.frame.Frame.{Frame}
use Rattle.fragment_codec.specs.declared.frame.Frame.TheVariants.{Log, Opening}
use Rattle.fragment_codec.specs.declared.front.Front.TheVariants.{Whole}
use Rattle.fragment_codec.specs.Rules.{has_note}
use Rattle.fragment_codec.specs.Streams.{Spelled, text_of, is_short, HasSpelling, IsSpelled, version_of, spelling, IsFrame, Splits}
use Rattle.fragment_codec.specs.machinery.Fronts.{IsFront, spelled_in}
use Rattle.fragment_codec.specs.declared.types.TheConstants.{FIRST_HARTS}
use Rattle.fragment_codec.proofs.streams.Pieces.{one_reading}

abbrev frame_in : Spelled → Frame
frame_in s = s.frame

all_append : (fs gs : List Spelled) → AllByRecursion IsSpelled fs → AllByRecursion IsSpelled gs → AllByRecursion IsSpelled (fs ++ gs)
all_append [] gs h k = k
all_append (f ∷ fs) gs h k = (h.0, all_append fs gs h.1 k)

pub splits_none : (stream : List ℕ) → Splits stream [] stream
splits_none stream = record { spelled = []; these = refl; whole = refl; each = tt }

-- frames, and more of the stream
pub splits_more : (stream rest more : List ℕ) (fs : List Frame) → Splits stream fs rest → Splits (stream ++ more) fs (rest ++ more)
splits_more stream rest more fs s = record {
  spelled = s.spelled;
  these = s.these;
  whole = ap (λ (x : List ℕ). x ++ more) s.whole ∙ append_assoc (flat_map text_of s.spelled) rest more;
  each = s.each;
}

-- frames, and more frames behind them
pub splits_on : (stream rest last : List ℕ) (fs gs : List Frame) → Splits stream fs rest → Splits rest gs last → Splits stream (fs ++ gs) last
splits_on stream rest last fs gs a b = record {
  spelled = a.spelled ++ b.spelled;
  these = map-append frame_in a.spelled b.spelled ∙ ap (λ (l : List Frame). l ++ map frame_in b.spelled) a.these ∙ ap (λ (l : List Frame). fs ++ l) b.these;
  whole =
      a.whole ∙ ap (λ (x : List ℕ). flat_map text_of a.spelled ++ x) b.whole
      ∙ sym (append_assoc (flat_map text_of a.spelled) (flat_map text_of b.spelled) last)
      ∙ ap (λ (x : List ℕ). x ++ last) (sym (flat_map-append text_of a.spelled b.spelled));
  each = all_append a.spelled b.spelled a.each b.each;
}

-- one frame, at the front
pub splits_front : (bytes : List ℕ) (f : Frame) (n : ℕ) → IsFront bytes (Whole f n) → Splits bytes (f ∷ []) (drop n bytes)
splits_front bytes f n front =
    let s : Spelled = spelled_in bytes f in
    record {
      spelled = s ∷ [];
      these = refl;
      whole =
          sym (take-append-drop n bytes) ∙ ap (λ (x : List ℕ). x ++ drop n bytes) front.3
          ∙ ap (λ (x : List ℕ). x ++ drop n bytes) (sym (append-nil (text_of s)));
      each = (front.2, tt);
    }

-- ---- taken apart

-- the frames keep the rules
pub splits_frames : (stream rest : List ℕ) (fs : List Frame) → Splits stream fs rest → AllByRecursion IsFrame fs
splits_frames stream rest fs s = subst (AllByRecursion IsFrame) s.these (rules s.spelled s.each)
  where
    rules : (ss : List Spelled) → AllByRecursion IsSpelled ss → AllByRecursion IsFrame (map frame_in ss)
    rules [] all = tt
    rules (x ∷ xs) all = (all.0.rules, rules xs all.1)

-- where there is no frame the stream is the rest
pub splits_nothing : (stream rest : List ℕ) → Splits stream [] rest → stream ≡ rest
splits_nothing stream rest s = of s.spelled s.these s.whole
  where
    of : (ss : List Spelled) → map frame_in ss ≡ [] → stream ≡ flat_map text_of ss ++ rest → stream ≡ rest
    of [] these whole = whole
    of (x ∷ xs) these whole = absurd cc

-- the first frame of a stream, with what stands behind it
pub record First (stream : List ℕ) (f : Frame) (fs : List Frame) (rest : List ℕ) : Type 0 where
  pub spelled : Spelled
  pub is : spelled.frame ≡ f
  pub rules : IsSpelled spelled
  pub behind : List ℕ
  pub whole : stream ≡ text_of spelled ++ behind
  pub others : Splits behind fs rest

pub splits_first : (stream rest : List ℕ) (f : Frame) (fs : List Frame) → Splits stream (f ∷ fs) rest → First stream f fs rest
splits_first stream rest f fs s = of s.spelled s.these s.whole s.each
  where
    of : (ss : List Spelled) → map frame_in ss ≡ f ∷ fs → stream ≡ flat_map text_of ss ++ rest → AllByRecursion IsSpelled ss → First stream f fs rest
    of [] these whole all = absurd cc
    of (x ∷ xs) these whole all =
        let same : x.frame ≡ f = cc in
        let others : map frame_in xs ≡ fs = cc in
        record {
          spelled = x;
          is = same;
          rules = all.0;
          behind = flat_map text_of xs ++ rest;
          whole = whole ∙ append_assoc (text_of x) (flat_map text_of xs) rest;
          others = record { spelled = xs; these = others; whole = refl; each = all.1 };
        }

-- two readings of one stream begin with one frame
pub one_first : (stream : List ℕ) (f g : Frame) (fs gs : List Frame) (r q : List ℕ) (a : First stream f fs r) (b : First stream g gs q) →
    (f ≡ g) × (a.behind ≡ b.behind)
one_first stream f g fs gs r q a b =
    let same = one_reading a.spelled b.spelled a.behind b.behind a.rules b.rules (sym a.whole ∙ b.whole) in
    (sym a.is ∙ ap frame_in same.0 ∙ b.is, same.1)

-- of the frames of a stream the first are those of a stream with another rest
pub splits_begin : (stream rest : List ℕ) (fs gs : List Frame) → Splits stream (fs ++ gs) rest → (middle : List ℕ) × Splits stream fs middle
splits_begin stream rest [] gs s = (stream, splits_none stream)
splits_begin stream rest (f ∷ fs) gs s =
    let first = splits_first stream rest f (fs ++ gs) s in
    let others = splits_begin first.behind rest fs gs first.others in (
      others.0,
      record {
        spelled = first.spelled ∷ others.1.spelled;
        these = ap (λ (g : Frame). g ∷ map frame_in others.1.spelled) first.is ∙ ap (λ (l : List Frame). f ∷ l) others.1.these;
        whole =
            first.whole ∙ ap (λ (x : List ℕ). text_of first.spelled ++ x) others.1.whole
            ∙ sym (append_assoc (text_of first.spelled) (flat_map text_of others.1.spelled) others.0);
        each = (first.rules, others.1.each);
      },
    )

-- ---- the version in which a frame is written

written : (f : Frame) → IsFrame f → is_short f ≡ false → HasSpelling 1 f
written (Opening o) h e = absurd cc
written (Log g) h e =
    inl (
      refl,
      elim (cases_lt FIRST_HARTS g.guest.harts) [
        | inl more ↦ absurd (let yes = lt-ltb _ _ (h.short more) in let same = sym e ∙ yes in cc)
        | inr few ↦ few
      ],
      elim (cases_Bool (has_note g.records)) [
        | inl noted ↦ absurd (let yes = lt-ltb _ _ (h.noted noted) in let same = sym e ∙ yes in cc)
        | inr plain ↦ plain
      ],
    )

-- every frame has a spelling in it
pub some_spelling : (f : Frame) → IsFrame f → IsSpelled (record { version = version_of f; frame = f })
some_spelling f h =
    record {
      rules = h;
      told =
          elim (cases_Bool (is_short f)) [
            | inl e ↦ subst (λ (b : Bool). HasSpelling (cond b 2 1) f) (sym e) (inr (refl, e))
            | inr e ↦ subst (λ (b : Bool). HasSpelling (cond b 2 1) f) (sym e) (written f h e)
          ];
    }

-- one frame alone, as it is written
pub alone : (f : Frame) → IsFrame f → Splits (spelling f) (f ∷ []) []
alone f h = record {
  spelled = record { version = version_of f; frame = f } ∷ [];
  these = refl;
  whole = sym (append-nil (spelling f)) ∙ sym (append-nil (spelling f ++ []));
  each = (some_spelling f h, tt);
}
