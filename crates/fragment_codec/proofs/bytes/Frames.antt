-- A whole frame at the front of a stream.
use Rattle.std.proofs.Common.{◌≡◌, ◌≢◌, ℕ, ◌+◌, ◌-◌, ◌<◌, ◌≤◌, ◌^◌, eqb, true, false, true≢false, List, [], ◌∷◌, ◌++◌, length, slice_index, take, drop, Some, Ok, refl, sym, ap, subst, ◌∙◌}
use Rattle.std.proofs.Common.{append_assoc, arith, inl, inr, ◌⊎◌}
use Rattle.std.specs.Int.{w32, from_le_bytes, to_le_bytes}
use Rattle.std.proofs.lemmas.Bool.{eqb-true, eqb-false, ltb-true}
use Rattle.std.proofs.lemmas.List.{take_at, take-append-drop, length-append, length-take}
use Rattle.std.proofs.lemmas.Nat.{le_bytes_4}
use Rattle.sha2.specs.Sha256.{sha256}
use Rattle.sha2.proofs.Facts256.{length-sha256}
use Rattle.ft_types.specs.declared.names.TheConstants.{HART_LIMIT}
use Rattle.fragment_codec.specs.declared.frame.Frame.{Frame}
use Rattle.fragment_codec.specs.declared.frame.Frame.TheVariants.{Log, Opening}
use Rattle.fragment_codec.specs.Spelling.{number, headed, sealed, log_body, opening_body}
use Rattle.fragment_codec.specs.Rules.{FragmentParts, OpeningParts, has_note}
use Rattle.fragment_codec.specs.machinery.Reading.{harts_limit, is_span, log_of, opening_of, frame_of}
use Rattle.fragment_codec.specs.Streams.{Spelled, text_of, spelled, harts_of, HasSpelling, IsSpelled, IsFrame, head_of, HasDigest}
use Rattle.fragment_codec.proofs.bytes.Heads.{IsHead, head_is, head_bounds}
use Rattle.fragment_codec.proofs.bytes.Fields.{IsBytes, bind_some, chosen, some_is, IsBytes-drop, IsBytes-take}
use Rattle.fragment_codec.proofs.bytes.Bodies.{log_all, log_again, opening_all, opening_again}

made : (a b c d : ℕ) (r four wide : List ℕ) → a ≡ 0x56 → b ≡ 0x46 → wide ≡ four → a ∷ b ∷ c ∷ d ∷ (four ++ r) ≡ 0x56 ∷ 0x46 ∷ c ∷ d ∷ (wide ++ r)
made a b c d r four wide p q w = rw (p, q, w) refl

-- the text of a head and a body
text_is : (t more : List ℕ) (n : ℕ) → 8 ≤ length t → IsHead (t ++ more) n → IsBytes (t ++ more) → length t + 32 ≡ n →
    t ≡ headed (slice_index (t ++ more) 2) (slice_index (t ++ more) 3) (drop 8 t)
unfolding headed number
text_is [] more n lt h fits len = absurd (omega arith)
text_is (a ∷ []) more n lt h fits len = absurd (omega arith)
text_is (a ∷ b ∷ []) more n lt h fits len = absurd (omega arith)
text_is (a ∷ b ∷ c ∷ []) more n lt h fits len = absurd (omega arith)
text_is (a ∷ b ∷ c ∷ d ∷ []) more n lt h fits len = absurd (omega arith)
text_is (a ∷ b ∷ c ∷ d ∷ e ∷ []) more n lt h fits len = absurd (omega arith)
text_is (a ∷ b ∷ c ∷ d ∷ e ∷ f ∷ []) more n lt h fits len = absurd (omega arith)
text_is (a ∷ b ∷ c ∷ d ∷ e ∷ f ∷ g ∷ []) more n lt h fits len = absurd (omega arith)
text_is (a ∷ b ∷ c ∷ d ∷ e ∷ f ∷ g ∷ k ∷ r) more n lt h fits len =
    let four : List ℕ = e ∷ f ∷ g ∷ k ∷ [] in
    let body : length r ≡ from_le_bytes w32 four = omega (arith, h.n-is, len) in
    let back : to_le_bytes w32 (length r) ≡ four = le_bytes_4 four (length r) refl (IsBytes-take 4 (e ∷ f ∷ g ∷ k ∷ (r ++ more))
    (IsBytes-drop 4 (a ∷ b ∷ c ∷ d ∷ e ∷ f ∷ g ∷ k ∷ (r ++ more)) fits)) body in
    made a b c d r four (to_le_bytes w32 (length r)) h.magic h.magic2 back

second : (version kind : ℕ) (body digest more : List ℕ) → slice_index ((headed version kind body ++ digest) ++ more) 2 ≡ version
unfolding headed
second version kind body digest more = refl

third : (version kind : ℕ) (body digest more : List ℕ) → slice_index ((headed version kind body ++ digest) ++ more) 3 ≡ kind
unfolding headed
third version kind body digest more = refl

behind : (version kind : ℕ) (body : List ℕ) → drop 8 (headed version kind body) ≡ body
unfolding headed number
behind version kind body = refl

-- what a sealed text has in its places
pub unseal : (version kind : ℕ) (body whole more text : List ℕ) → whole ≡ sealed (headed version kind body) → text ≡ take (length whole - 32) whole →
    (slice_index (whole ++ more) 2 ≡ version) × (slice_index (whole ++ more) 3 ≡ kind) × (drop 8 text ≡ body)
unfolding sealed
unseal version kind body whole more text w t =
    let x : List ℕ = headed version kind body in
    let len : length whole - 32 ≡ length x = omega (arith, ap length w, length-append x (sha256 x), length-sha256 x) in
    let text-is : text ≡ x = t ∙ ap (λ (n : ℕ). take n whole) len ∙ ap (take (length x)) w ∙ take_at x (sha256 x) (length x) refl in (
      ap (λ (y : List ℕ). slice_index (y ++ more) 2) w ∙ second version kind body (sha256 x) more,
      ap (λ (y : List ℕ). slice_index (y ++ more) 3) w ∙ third version kind body (sha256 x) more,
      ap (drop 8) text-is ∙ behind version kind body,
    )

-- ---- versions that have a spelling

-- what was read in a version has a spelling in it
log_told : (version : ℕ) (f : FragmentParts) → (version ≡ 1) ⊎ (version ≡ 2) → f.guest.harts ≤ harts_limit version → is_span version f.from f.to ≡ true →
    (version ≡ 1 → has_note f.records ≡ false) → HasSpelling version (Log f)
log_told version f (inl one) few span plain = inl (one, subst (λ (v : ℕ). f.guest.harts ≤ harts_limit v) one few, plain one)
log_told version f (inr two) few span plain = inr (two, subst (λ (v : ℕ). is_span v f.from f.to ≡ true) two span)

opening_told : (version : ℕ) (o : OpeningParts) → (version ≡ 1) ⊎ (version ≡ 2) → o.guest.harts ≤ harts_limit version → HasSpelling version (Opening o)
opening_told version o (inl one) few = inl (one, subst (λ (v : ℕ). o.guest.harts ≤ harts_limit v) one few, refl)
opening_told version o (inr two) few = inr (two, refl)

-- and what has a spelling in a version keeps to its limits
few_harts : (version : ℕ) (f : Frame) → harts_of f ≤ HART_LIMIT → HasSpelling version f → harts_of f ≤ harts_limit version
few_harts version f le (inl h) = subst (λ (v : ℕ). harts_of f ≤ harts_limit v) (sym h.0) h.1
few_harts version f le (inr h) = subst (λ (v : ℕ). harts_of f ≤ harts_limit v) (sym h.0) le

right_span : (version : ℕ) (f : FragmentParts) → HasSpelling version (Log f) → is_span version f.from f.to ≡ true
right_span version f (inl h) = subst (λ (v : ℕ). is_span v f.from f.to ≡ true) (sym h.0) refl
right_span version f (inr h) = subst (λ (v : ℕ). is_span v f.from f.to ≡ true) (sym h.0) h.1

pub short_span : (version : ℕ) (f : FragmentParts) → HasSpelling version (Log f) → version ≢ 1 → f.to - f.from < 2 ^ 32
short_span version f (inl h) ne = absurd (ne h.0)
short_span version f (inr h) ne = ltb-true (f.to - f.from) (2 ^ 32) h.1

told_later : (version : ℕ) (f : FragmentParts) → HasSpelling version (Log f) → has_note f.records ≡ true → version ≢ 1
told_later version f (inl h) noted one = true≢false (sym noted ∙ h.2)
told_later version f (inr h) noted one = absurd (omega (arith, h.0))

-- ---- frames

-- what is read of a body is its frame's, which has a spelling in the version
record IsRead (version kind : ℕ) (body : List ℕ) (f : Frame) : Type 0 where
  pub text : sealed (headed version kind body) ≡ spelled version f
  pub told : HasSpelling version f

frame_all : (version kind : ℕ) (body : List ℕ) (f : Frame) → (version ≡ 1) ⊎ (version ≡ 2) → (kind ≡ 1) ⊎ (kind ≡ 2) → IsBytes body →
    frame_of version kind body ≡ Some f → IsRead version kind body f
unfolding frame_of
frame_all version kind body f v k fits e =
    elim (chosen (eqb kind 1) _ _ _ e) [
      | inl h ↦
          let a = bind_some (log_of version body) _ f h.1 in
          let g = log_all version body a.0 fits a.1 in
          let text : sealed (headed version 1 body) ≡ spelled version (Log a.0) = ap (λ (x : List ℕ). sealed (headed version 1 x)) g.text in
          subst (IsRead version kind body) (some_is (Log a.0) f a.2) (record {
            text = ap (λ (i : ℕ). sealed (headed version i body)) (eqb-true kind 1 h.0) ∙ text;
            told = log_told version a.0 v g.few g.span g.plain;
          })
      | inr h ↦
          let a = bind_some (opening_of version body) _ f h.1 in
          let g = opening_all version body a.0 fits a.1 in
          let two : kind ≡ 2 = elim k [ inl p ↦ absurd (eqb-false kind 1 h.0 p) | inr p ↦ p ] in
          let text : sealed (headed version 2 body) ≡ spelled version (Opening a.0) = ap (λ (x : List ℕ). sealed (headed version 2 x)) g.text in
          subst (IsRead version kind body) (some_is (Opening a.0) f a.2) (record {
            text = ap (λ (i : ℕ). sealed (headed version i body)) two ∙ text;
            told = opening_told version a.0 v g.few;
          })
    ]

-- what is found again: the version, and the frame
pub record IsAgain (version : ℕ) (f : Frame) (bytes body : List ℕ) : Type 0 where
  pub byte : slice_index bytes 2 ≡ version
  pub frame : frame_of version (slice_index bytes 3) body ≡ Some f

pub frame_again : (version : ℕ) (f : Frame) (whole more text : List ℕ) → IsFrame f → HasSpelling version f → whole ≡ spelled version f →
    text ≡ take (length whole - 32) whole → IsAgain version f (whole ++ more) (drop 8 text)
unfolding frame_of
frame_again version (Log g) whole more text h told w t =
    let u = unseal version 1 (log_body version g) whole more text w t in
    let again = log_again version g h (few_harts version (Log g) h.guest.limit told) (right_span version g told) (short_span version g told)
    (told_later version g told) in
    record { byte = u.0; frame = rw (u.1, u.2, again) refl }
frame_again version (Opening o) whole more text h told w t =
    let u = unseal version 2 (opening_body o) whole more text w t in
    let again = opening_again version o h (few_harts version (Opening o) h.guest.limit told) in
    record { byte = u.0; frame = rw (u.1, u.2, again) refl }

pub record IsCut (bytes : List ℕ) (n : ℕ) (whole text : List ℕ) : Type 0 where
  pub head : head_of bytes ≡ Ok (Some n)
  pub there : n ≤ length bytes
  pub whole-is : whole ≡ take n bytes
  pub text-is : text ≡ take (n - 32) whole

pub frame_found : (bytes : List ℕ) (n : ℕ) (whole text body : List ℕ) (f : Frame) → IsBytes bytes → IsCut bytes n whole text → HasDigest whole →
    body ≡ drop 8 text → frame_of (slice_index bytes 2) (slice_index bytes 3) body ≡ Some f →
    (take n bytes ≡ spelled (slice_index bytes 2) f) × HasSpelling (slice_index bytes 2) f
frame_found bytes n whole text body f fits c digest b e =
    let h = head_is bytes n c.head in
    let lo = head_bounds bytes n c.head in
    let there = c.there in
    let len : length whole ≡ n = omega (arith, ap length c.whole-is, length-take n bytes) in
    let text-len : length text + 32 ≡ n = omega (arith, ap length c.text-is, length-take (n - 32) whole) in
    let more : List ℕ = drop (n - 32) whole ++ drop n bytes in
    let split : text ++ more ≡ bytes =
    sym (append_assoc text (drop (n - 32) whole) (drop n bytes))
    ∙ ap (λ (x : List ℕ). (x ++ drop (n - 32) whole) ++ drop n bytes) c.text-is
    ∙ ap (λ (x : List ℕ). x ++ drop n bytes) (take-append-drop (n - 32) whole)
    ∙ ap (λ (x : List ℕ). x ++ drop n bytes) c.whole-is ∙ take-append-drop n bytes in
    let t = text_is text more n (omega (arith, text-len)) (subst (λ (x : List ℕ). IsHead x n) (sym split) h) (subst IsBytes (sym split) fits) text-len in
    let t2 : text ≡ headed (slice_index bytes 2) (slice_index bytes 3) body =
    t ∙ ap (λ (x : List ℕ). headed (slice_index x 2) (slice_index x 3) (drop 8 text)) split ∙ ap (headed (slice_index bytes 2) (slice_index bytes 3)) (sym b) in
    let body-fits : IsBytes body = subst IsBytes (sym b) (IsBytes-drop 8 text (subst IsBytes (sym c.text-is) (IsBytes-take (n - 32) whole
    (subst IsBytes (sym c.whole-is) (IsBytes-take n bytes fits))))) in
    let g = frame_all (slice_index bytes 2) (slice_index bytes 3) body f h.version h.kind body-fits e in
    (sym c.whole-is ∙ digest ∙ ap (λ (k : ℕ). sealed (take (k - 32) whole)) len ∙ ap sealed (sym c.text-is ∙ t2) ∙ g.text, g.told)

-- a frame that the first n bytes spell is read there
pub frame_back : (bytes : List ℕ) (n : ℕ) (whole text body : List ℕ) → IsCut bytes n whole text → body ≡ drop 8 text → (s : Spelled) → IsSpelled s →
    take n bytes ≡ text_of s → IsAgain s.version s.frame bytes body
frame_back bytes n whole text body c b s h w =
    let there = c.there in
    let len : length whole ≡ n = omega (arith, ap length c.whole-is, length-take n bytes) in
    let split : whole ++ drop n bytes ≡ bytes = ap (λ (x : List ℕ). x ++ drop n bytes) c.whole-is ∙ take-append-drop n bytes in
    let again = frame_again s.version s.frame whole (drop n bytes) text h.rules h.told (c.whole-is ∙ w)
    (c.text-is ∙ ap (λ (k : ℕ). take (k - 32) whole) (sym len)) in
    subst (IsAgain s.version s.frame bytes) (sym b) (subst (λ (x : List ℕ). IsAgain s.version s.frame x (drop 8 text)) split again)

-- it is the only one
pub frame_same : (bytes : List ℕ) (n : ℕ) (whole text body : List ℕ) → IsCut bytes n whole text → body ≡ drop 8 text → (s : Spelled) → IsSpelled s →
    take n bytes ≡ text_of s → frame_of (slice_index bytes 2) (slice_index bytes 3) body ≡ Some s.frame
frame_same bytes n whole text body c b s h w =
    let again = frame_back bytes n whole text body c b s h w in
    ap (λ (v : ℕ). frame_of v (slice_index bytes 3) body) again.byte ∙ again.frame

pub frame_none : (bytes : List ℕ) (n : ℕ) (whole text body : List ℕ) → IsCut bytes n whole text → body ≡ drop 8 text →
    ((f : Frame) → frame_of (slice_index bytes 2) (slice_index bytes 3) body ≡ Some f → IsFrame f → ⊥) → (s : Spelled) → IsSpelled s → take n bytes ≢ text_of s
frame_none bytes n whole text body c b none s h w = none s.frame (frame_same bytes n whole text body c b s h w) h.rules
