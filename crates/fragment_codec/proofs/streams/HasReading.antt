-- Every stream has a reading: what stands at its front is decided, and behind a frame stands a shorter stream.
use Rattle.std.proofs.Common.{◌≡◌, ◌≤◌, ◌-◌, ℕ, zero, suc, List, [], ◌∷◌, length, take, drop, slice_index, Option, Some, None, Result, Ok, Err}
use Rattle.std.proofs.Common.{refl, sym, ap, subst, ◌∙◌, arith, inl, inr, ◌⊎◌}
use Rattle.std.proofs.lemmas.Bool.{cases_lt}
use Rattle.std.proofs.lemmas.List.{length-drop}
use Rattle.fragment_codec.specs.declared.fault.FrameFault.{FrameFault}
use Rattle.fragment_codec.specs.declared.fault.FrameFault.TheVariants.{Digest, Body}
use Rattle.fragment_codec.specs.declared.frame.Frame.{Frame}
use Rattle.fragment_codec.specs.declared.front.Front.TheVariants.{Whole}
use Rattle.fragment_codec.specs.machinery.Fronts.{IsFront, spelled_in}
use Rattle.fragment_codec.specs.machinery.Reading.{frame_of}
use Rattle.fragment_codec.specs.Spelling.{sealed}
use Rattle.fragment_codec.specs.Streams.{Spelled, text_of, IsSpelled, head_of, IsWhole, HasDigest, IsStuck, HasReading}
use Rattle.fragment_codec.proofs.bytes.Heads.{head_bounds, head_fault, not_memory}
use Rattle.fragment_codec.proofs.bytes.Fields.{some_is}
use Rattle.fragment_codec.proofs.bytes.Frames.{IsAgain, frame_back, frame_same}
use Rattle.fragment_codec.proofs.streams.Decided.{Decided, both, same_list, spelled}
use Rattle.fragment_codec.proofs.streams.Splits.{splits_none, splits_front, splits_on}

-- no frame stands at the front, or this one
abbrev AtFront : List ℕ → Type 0
AtFront bytes = IsStuck bytes ⊎ ((f : Frame) × (n : ℕ) × IsFront bytes (Whole f n))

-- the body of a frame of n bytes
abbrev body_in : List ℕ → ℕ → List ℕ
body_in bytes n = drop 8 (take (n - 32) (take n bytes))

digest : (bytes : List ℕ) → Decided (HasDigest bytes)
digest bytes = same_list bytes (sealed (take (length bytes - 32) bytes))

module _ (bytes : List ℕ) where
  -- a frame that the first n bytes spell is read there
  again : (n : ℕ) → IsWhole bytes n → (s : Spelled) → IsSpelled s → take n bytes ≡ text_of s → IsAgain s.version s.frame bytes (body_in bytes n)
  again n w = frame_back bytes n _ _ _ (record { head = w.head; there = w.there; whole-is = refl; text-is = refl }) refl

  same_frame : (n : ℕ) → IsWhole bytes n → (s : Spelled) → IsSpelled s → take n bytes ≡ text_of s →
      frame_of (slice_index bytes 2) (slice_index bytes 3) (body_in bytes n) ≡ Some s.frame
  same_frame n w = frame_same bytes n _ _ _ (record { head = w.head; there = w.there; whole-is = refl; text-is = refl }) refl

  by_body : (n : ℕ) → IsWhole bytes n → HasDigest (take n bytes) → (read : Option Frame) →
      frame_of (slice_index bytes 2) (slice_index bytes 3) (body_in bytes n) ≡ read → AtFront bytes
  by_body n w d None e = inl (inr (Body, (n, w, d, λ s h t. let same = sym e ∙ same_frame n w s h t in cc)))
  by_body n w d (Some f) e =
      elim (both (spelled (spelled_in bytes f)) (same_list (take n bytes) (text_of (spelled_in bytes f)))) [
        | inl is ↦ inr (f, n, (w, omega (arith, head_bounds bytes n w.head), is.0, is.1))
        | inr fails ↦ inl (inr (
          Body,
          (
            n,
            w,
            d,
            λ s h t.
                let frame : f ≡ s.frame = some_is f s.frame (sym e ∙ same_frame n w s h t) in
                let version : slice_index bytes 2 ≡ s.version = (again n w s h t).byte in
                let same : s ≡ spelled_in bytes f =
                ap (λ (v : ℕ). record { version = v; frame = s.frame }) (sym version)
                ∙ ap (λ (g : Frame). record { version = slice_index bytes 2; frame = g }) (sym frame) in
                fails (subst IsSpelled same h, t ∙ ap text_of same),
          ),
        ))
      ]

  by_digest : (n : ℕ) → IsWhole bytes n → AtFront bytes
  by_digest n w = elim (digest (take n bytes)) [ inl d ↦ by_body n w d _ refl | inr fails ↦ inl (inr (Digest, (n, w, fails))) ]

  by_head : (read : Result (Option ℕ) FrameFault) → head_of bytes ≡ read → AtFront bytes
  by_head (Ok None) e = inl (inl (inl e))
  by_head (Ok (Some n)) e =
      elim (cases_lt (length bytes) n) [ inl lt ↦ inl (inl (inr (n, e, lt))) | inr le ↦ by_digest n (record { head = e; there = le }) ]
  by_head (Err f) e =
      elim (head_fault bytes f e) [ inl memory ↦ absurd (not_memory bytes (e ∙ ap Err memory)) | inr h ↦ inl (inr (f, h)) ]

  -- a stream has a reading where the bytes behind each frame have one
  step : ((n : ℕ) → 40 ≤ n → n ≤ length bytes → HasReading (drop n bytes)) → HasReading bytes
  step behind =
      elim (by_head (head_of bytes) refl) [
        | inl stuck ↦ ([], bytes, splits_none bytes, stuck)
        | inr (f, n, (w, least, h, text)) ↦
            let r = behind n least w.there in
            (f ∷ r.0, r.1, splits_on bytes (drop n bytes) r.1 (f ∷ []) r.0 (splits_front bytes f n (w, least, h, text)) r.2, r.3)
      ]

by_length : (limit : ℕ) (bytes : List ℕ) → length bytes ≤ limit → HasReading bytes
by_length zero bytes le = step bytes (λ n least there. absurd (omega (arith, le, least, there)))
by_length (suc limit) bytes le = step bytes (λ n least there. by_length limit (drop n bytes) (omega (arith, le, least, there, length-drop n bytes)))

pub has_reading : (stream : List ℕ) → HasReading stream
has_reading stream = by_length (length stream) stream (omega arith)
