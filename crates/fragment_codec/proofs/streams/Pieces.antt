-- One reading of each stream.
use Rattle.std.proofs.Common.{◌≡◌, ◌≢◌, ℕ, subst, slice_index, ◌+◌, ◌-◌, ◌*◌, ◌^◌, ◌<◌, ◌≤◌, true, List, [], ◌∷◌, ◌++◌, length, take, drop, Some, Ok, refl, sym, ap, ◌∙◌, arith, inl}
use Rattle.std.proofs.Common.{inr, ◌⊎◌}
use Rattle.std.specs.List.{flat_map}
use Rattle.std.specs.Int.{w16, w32, w64, to_le_bytes}
use Rattle.std.proofs.lemmas.List.{take_at, drop_at, length-append}
use Rattle.std.proofs.lemmas.Nat.{from_le_bytes-to_le_bytes_4}
use Rattle.sha2.specs.Sha256.{sha256}
use Rattle.sha2.proofs.Facts256.{length-sha256}
use Rattle.fragment_codec.specs.declared.frame.Frame.{Frame}
use Rattle.fragment_codec.specs.declared.frame.Frame.TheVariants.{Log, Opening}
use Rattle.fragment_codec.specs.declared.types.Record.{Record}
use Rattle.fragment_codec.specs.Rules.{FragmentParts, OpeningParts, IsFragment, IsOpening}
use Rattle.fragment_codec.specs.Spelling.{number, record_bytes, headed, sealed, log_body, opening_body}
use Rattle.fragment_codec.specs.machinery.Reading.{frame_of}
use Rattle.fragment_codec.specs.Streams.{Spelled, text_of, spelled, HasSpelling, IsSpelled, IsFrame, longest_body, is_body_len, head_of}
use Rattle.fragment_codec.proofs.bytes.Fields.{some_is}
use Rattle.fragment_codec.proofs.bytes.Heads.{IsHead, head_from, one_size, right_len, most_body}
use Rattle.fragment_codec.proofs.bytes.Texts.{length_number, length_record}
use Rattle.fragment_codec.proofs.bytes.Frames.{frame_again}

-- ---- how long a body is

records_len : (version from : ℕ) (rs : List Record) → length (flat_map (record_bytes version from) rs) ≤ 18 * length rs
records_len version from [] = omega arith
records_len version from (r ∷ rs) =
    let l = length_record version from r in
    omega (arith, length-append (record_bytes version from r) (flat_map (record_bytes version from) rs), l.0, records_len version from rs)

short_records_len : (version from : ℕ) → version ≢ 1 → (rs : List Record) → length (flat_map (record_bytes version from) rs) ≤ 14 * length rs
short_records_len version from ne [] = omega arith
short_records_len version from ne (r ∷ rs) =
    let l = length_record version from r in
    omega (arith, length-append (record_bytes version from r) (flat_map (record_bytes version from) rs), l.1 ne, short_records_len version from ne rs)

counts_len : (ns : List ℕ) → length (flat_map (number w64) ns) ≡ 8 * length ns
counts_len [] = refl
counts_len (n ∷ ns) = omega (arith, length-append (number w64 n) (flat_map (number w64) ns), length_number n, counts_len ns)

-- what stands before the records has 60 bytes
log_len : (version : ℕ) (f : FragmentParts) → IsFragment f → length (log_body version f) ≡ 60 + length (flat_map (record_bytes version f.from) f.records)
unfolding log_body
log_len version f h =
    let tail : List ℕ = flat_map (record_bytes version f.from) f.records in
    let l0 = length-append (number w16 (length f.records)) tail in
    let l1 = length-append (number w64 f.to) (number w16 (length f.records) ++ tail) in
    let l2 = length-append (number w64 f.from) (number w64 f.to ++ (number w16 (length f.records) ++ tail)) in
    let l3 = length-append (number w32 f.key.place) (number w64 f.from ++ (number w64 f.to ++ (number w16 (length f.records) ++ tail))) in
    let l4 = length-append (number w32 f.key.term) (number w32 f.key.place ++
    (number w64 f.from ++ (number w64 f.to ++ (number w16 (length f.records) ++ tail)))) in
    let l5 = length-append f.guest.digest (f.guest.harts ∷ f.key.hart ∷ (number w32 f.key.term ++
    (number w32 f.key.place ++ (number w64 f.from ++ (number w64 f.to ++ (number w16 (length f.records) ++ tail)))))) in
    let d = h.guest.digest.len in
    omega (arith, length_number (length f.records), length_number f.to, length_number f.from, length_number f.key.place, length_number f.key.term)

log_most : (version : ℕ) (f : FragmentParts) → IsFragment f → HasSpelling version (Log f) → length (log_body version f) ≤ longest_body version 1
log_most version f h (inl t) =
    let n = h.records.limit in
    subst (λ (v : ℕ). length (log_body version f) ≤ longest_body v 1) (sym t.0) (omega (arith, log_len version f h, records_len version f.from f.records))
log_most version f h (inr t) =
    let n = h.records.limit in
    subst (λ (v : ℕ). length (log_body version f) ≤ longest_body v 1) (sym t.0)
    (omega (arith, log_len version f h, short_records_len version f.from (λ e. let same = sym t.0 ∙ e in cc) f.records))

opening_len : (o : OpeningParts) → IsOpening o → length (opening_body o) ≡ 41 + 8 * o.guest.harts
unfolding opening_body
opening_len o h =
    let tail : List ℕ = flat_map (number w64) o.base in
    let t = counts_len o.base in
    let n = h.base in
    let l0 = length-append (number w32 o.parent) tail in
    let l1 = length-append (number w32 o.term) (number w32 o.parent ++ tail) in
    let l2 = length-append o.guest.digest (o.guest.harts ∷ (number w32 o.term ++ (number w32 o.parent ++ tail))) in
    let d = h.guest.digest.len in
    omega (arith, length_number o.parent, length_number o.term)

opening_most : (version : ℕ) (o : OpeningParts) → IsOpening o → HasSpelling version (Opening o) → length (opening_body o) ≤ longest_body version 2
opening_most version o h (inl t) =
    subst (λ (v : ℕ). length (opening_body o) ≤ longest_body v 2) (sym t.0) (let few = t.1 in omega (arith, opening_len o h, few))
opening_most version o h (inr t) =
    subst (λ (v : ℕ). length (opening_body o) ≤ longest_body v 2) (sym t.0) (let few = h.guest.limit in omega (arith, opening_len o h, few))

-- ---- the head of a spelling

sealed_head : (version kind : ℕ) (body more : List ℕ) → (version ≡ 1) ⊎ (version ≡ 2) → (kind ≡ 1) ⊎ (kind ≡ 2) → length body < 2 ^ 32 →
    is_body_len version kind (length body) ≡ true → IsHead (sealed (headed version kind body) ++ more) (length (sealed (headed version kind body)))
unfolding sealed headed number
sealed_head version kind body more v k fits right =
    let same = from_le_bytes-to_le_bytes_4 (length body) fits in
    record {
      len = omega arith;
      magic = refl;
      magic2 = refl;
      version = v;
      kind = k;
      n-is = ap (λ (x : ℕ). x + 40) same ∙ omega (
        arith,
        length-append body (sha256 (0x56 ∷ 0x46 ∷ version ∷ kind ∷ (to_le_bytes w32 (length body) ++ body))),
        length-sha256 (0x56 ∷ 0x46 ∷ version ∷ kind ∷ (to_le_bytes w32 (length body) ++ body)),
      );
      right = ap (is_body_len version kind) same ∙ right;
    }

one_or_two : (version : ℕ) (f : Frame) → HasSpelling version f → (version ≡ 1) ⊎ (version ≡ 2)
one_or_two version f (inl t) = inl t.0
one_or_two version f (inr t) = inr t.0

spelled_head : (version : ℕ) (f : Frame) (more : List ℕ) → IsFrame f → HasSpelling version f →
    head_of (spelled version f ++ more) ≡ Ok (Some (length (spelled version f)))
spelled_head version (Log g) more h told =
    let len = log_len version g h in
    let most = log_most version g h told in
    let limit = most_body version 1 in
    head_from _ _ (sealed_head version 1 (log_body version g) more (one_or_two version (Log g) told) (inl refl) (omega (arith, most, limit))
    (right_len version 1 (length (log_body version g)) (omega (arith, len)) most))
spelled_head version (Opening o) more h told =
    let len = opening_len o h in
    let some = h.guest.some in
    let most = opening_most version o h told in
    let limit = most_body version 2 in
    head_from _ _ (sealed_head version 2 (opening_body o) more (one_or_two version (Opening o) told) (inr refl) (omega (arith, most, limit))
    (right_len version 2 (length (opening_body o)) (omega (arith, len, some)) most))

pub spelling_head : (s : Spelled) (more : List ℕ) → IsSpelled s → head_of (text_of s ++ more) ≡ Ok (Some (length (text_of s)))
spelling_head s more h = spelled_head s.version s.frame more h.rules h.told

-- two frames with one spelling are one, of one version, and none begins another
pub one_reading : (s t : Spelled) (x y : List ℕ) → IsSpelled s → IsSpelled t → text_of s ++ x ≡ text_of t ++ y → (s ≡ t) × (x ≡ y)
one_reading s t x y hs ht e =
    let size : ℕ = length (text_of s) in
    let len : size ≡ length (text_of t) = one_size (text_of s ++ x) _ _ (spelling_head s x hs) (ap head_of e ∙ spelling_head t y ht) in
    let same : text_of s ≡ text_of t = sym (take_at (text_of s) x size refl) ∙ ap (take size) e ∙ take_at (text_of t) y size (sym len) in
    let rest : x ≡ y = sym (drop_at (text_of s) x size refl) ∙ ap (drop size) e ∙ drop_at (text_of t) y size (sym len) in
    let text : List ℕ = take (size - 32) (text_of s) in
    let a = frame_again s.version s.frame (text_of s) [] text hs.rules hs.told refl refl in
    let b = frame_again t.version t.frame (text_of s) [] text ht.rules ht.told same refl in
    let version : s.version ≡ t.version = sym a.byte ∙ b.byte in
    let here = a.frame in
    let there : frame_of s.version (slice_index (text_of s ++ []) 3) (drop 8 text) ≡ Some t.frame =
    ap (λ (v : ℕ). frame_of v (slice_index (text_of s ++ []) 3) (drop 8 text)) version ∙ b.frame in
    let frame : s.frame ≡ t.frame = some_is s.frame t.frame (sym here ∙ there) in
    (ap (λ (v : ℕ). record { version = v; frame = s.frame }) version ∙ ap (λ (f : Frame). record { version = t.version; frame = f }) frame, rest)
