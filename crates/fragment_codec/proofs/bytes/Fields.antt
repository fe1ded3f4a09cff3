-- A field that is read is the field that was written, and what was written is read again.
use Rattle.std.proofs.Common.{◌≡◌, ℕ, zero, suc, ◌+◌, ◌^◌, ◌<◌, ◌≤◌, Bool, true, false, cond, ltb, eqb, List, [], ◌∷◌, ◌++◌, length, slice_index, take, drop}
use Rattle.std.proofs.Common.{Option, Some, None, refl, sym, ap, subst, ◌∙◌, append_assoc, arith, inl, inr, ◌⊎◌}
use Rattle.std.specs.Int.{Width, w16, w32, w64, byte_len, from_le_bytes, to_le_bytes}
use Rattle.std.specs.List.{flat_map, AllByRecursion}
use Rattle.std.proofs.lemmas.Bool.{cases_lt, cases_Bool, ltb-false, le-ltb}
use Rattle.std.proofs.lemmas.List.{take_at, drop_at, take-append-drop, length-append, length-take, get_or-drop, get_or-take, get_or_past}
use Rattle.std.proofs.lemmas.Nat.{le_bytes_2, le_bytes_4, le_bytes_8, from_le_bytes-to_le_bytes_2, from_le_bytes-to_le_bytes_4, from_le_bytes-to_le_bytes_8}
use Rattle.ft_types.specs.Guests.{GuestParts, IsDigest, IsGuest}
use Rattle.ft_types.specs.declared.names.TheConstants.{HART_LIMIT}
use Rattle.fragment_codec.specs.Spelling.{number}
use Rattle.fragment_codec.specs.machinery.Reading.{◌>>=◌, number_at, byte_at, digest_at, harts_limit, guest_at, many}

abbrev pub IsBytes : List ℕ → Type 0
IsBytes bytes = (i : ℕ) → slice_index bytes i < 256

pub IsBytes-drop : (n : ℕ) (bytes : List ℕ) → IsBytes bytes → IsBytes (drop n bytes)
IsBytes-drop n bytes h i = rw get_or-drop (h (n + i))

pub IsBytes-take : (n : ℕ) (bytes : List ℕ) → IsBytes bytes → IsBytes (take n bytes)
IsBytes-take n bytes h i =
    elim (cases_lt i n) [
      | inl lt ↦ rw (get_or-take n bytes i 0 lt) (h i)
      | inr le ↦ rw (get_or_past (take n bytes) i 0 (omega (arith, length-take n bytes))) (omega arith)
    ]

pub bind_some : {A B : Type 0} (r : Option A) (f : A → Option B) (y : B) → (r >>= f) ≡ Some y → (x : A) × (r ≡ Some x) × (f x ≡ Some y)
bind_some (Some x) f y e = (x, refl, e)
bind_some None f y e = absurd cc

pub guard_some : {A : Type 0} (b : Bool) (x y : A) → cond b None (Some x) ≡ Some y → (b ≡ false) × (x ≡ y)
guard_some true x y e = absurd cc
guard_some false x y e = (refl, cc)

pub chosen_some : {A : Type 0} (b : Bool) (o : Option A) (y : A) → cond b o None ≡ Some y → (b ≡ true) × (o ≡ Some y)
chosen_some true o y e = (refl, e)
chosen_some false o y e = absurd cc

pub guard_then : {A : Type 0} (b : Bool) (o : Option A) (y : A) → cond b None o ≡ Some y → (b ≡ false) × (o ≡ Some y)
guard_then true o y e = absurd cc
guard_then false o y e = (refl, e)

pub chosen : {A : Type 0} (b : Bool) (x y z : A) → cond b x y ≡ z → ((b ≡ true) × (x ≡ z)) ⊎ ((b ≡ false) × (y ≡ z))
chosen true x y z e = inl (refl, e)
chosen false x y z e = inr (refl, e)

abbrev done : {A : Type 0} → A → Option A
done x = Some x

pub some_is : {A : Type 0} (x y : A) → done x ≡ done y → x ≡ y
some_is x y e = cc

-- item reads what text spells
pub record Reads {X : Type 0} (item : List ℕ → Option (X × List ℕ)) (text : X → List ℕ) (Fits : X → Type 0) : Type 0 where
  pub parts : (bytes : List ℕ) (x : X) (rest : List ℕ) → IsBytes bytes → item bytes ≡ Some (x, rest) → bytes ≡ text x ++ rest
  pub rest : (bytes : List ℕ) (x : X) (rest : List ℕ) → IsBytes bytes → item bytes ≡ Some (x, rest) → IsBytes rest
  pub fits : (bytes : List ℕ) (x : X) (rest : List ℕ) → IsBytes bytes → item bytes ≡ Some (x, rest) → Fits x
  pub again : (x : X) (rest : List ℕ) → Fits x → item (text x ++ rest) ≡ Some (x, rest)

-- ---- numbers

pub record IsWide (w : Width) (limit : ℕ) : Type 0 where
  pub len : (n : ℕ) → length (to_le_bytes w n) ≡ byte_len w
  pub back : (bytes : List ℕ) → length bytes ≡ byte_len w → IsBytes bytes → to_le_bytes w (from_le_bytes w bytes) ≡ bytes
  pub same : (n : ℕ) → n < limit → from_le_bytes w (to_le_bytes w n) ≡ n
  pub below : (bytes : List ℕ) → IsBytes bytes → from_le_bytes w bytes < limit

pub wide16 : IsWide w16 (2 ^ 16)
wide16 = record {
  len = λ n. refl;
  back = λ bytes len fits. le_bytes_2 bytes _ len fits refl;
  same = λ n lt. from_le_bytes-to_le_bytes_2 n lt;
  below = λ bytes fits. omega (arith, fits 0, fits 1);
}

pub wide32 : IsWide w32 (2 ^ 32)
wide32 = record {
  len = λ n. refl;
  back = λ bytes len fits. le_bytes_4 bytes _ len fits refl;
  same = λ n lt. from_le_bytes-to_le_bytes_4 n lt;
  below = λ bytes fits. omega (arith, fits 0, fits 1, fits 2, fits 3);
}

pub wide64 : IsWide w64 (2 ^ 64)
wide64 = record {
  len = λ n. refl;
  back = λ bytes len fits. le_bytes_8 bytes _ len fits refl;
  same = λ n lt. from_le_bytes-to_le_bytes_8 n lt;
  below = λ bytes fits. omega (arith, fits 0, fits 1, fits 2, fits 3, fits 4, fits 5, fits 6, fits 7);
}

record Found (w : Width) (bytes : List ℕ) (n : ℕ) (rest : List ℕ) : Type 0 where
  len : byte_len w ≤ length bytes
  n-is : from_le_bytes w (take (byte_len w) bytes) ≡ n
  rest-is : drop (byte_len w) bytes ≡ rest

found : (w : Width) (bytes : List ℕ) (n : ℕ) (rest : List ℕ) → number_at w bytes ≡ Some (n, rest) → Found w bytes n rest
unfolding number_at
found w bytes n rest e =
    let g = guard_some (ltb (length bytes) (byte_len w)) (from_le_bytes w (take (byte_len w) bytes), drop (byte_len w) bytes) (n, rest) e in
    record { len = ltb-false _ _ g.0; n-is = ap (λ (p : ℕ × List ℕ). p.0) g.1; rest-is = ap (λ (p : ℕ × List ℕ). p.1) g.1 }

number_parts : (w : Width) (limit : ℕ) (wide : IsWide w limit) (bytes : List ℕ) (n : ℕ) (rest : List ℕ) → IsBytes bytes → number_at w bytes ≡ Some (n, rest) →
    bytes ≡ number w n ++ rest
unfolding number
number_parts w limit wide bytes n rest fits e =
    let g = found w bytes n rest e in
    let len = g.len in
    let front : to_le_bytes w n ≡ take (byte_len w) bytes = rw (← g.n-is) (wide.back (take (byte_len w) bytes) (omega (arith, length-take (byte_len w) bytes))
    (IsBytes-take (byte_len w) bytes fits)) in
    rw (front, ← g.rest-is) (sym (take-append-drop (byte_len w) bytes))

number_again : (w : Width) (limit : ℕ) (wide : IsWide w limit) (n : ℕ) (rest : List ℕ) → n < limit → number_at w (number w n ++ rest) ≡ Some (n, rest)
unfolding number number_at
number_again w limit wide n rest lt =
    let len = wide.len n in
    let long : ltb (length (to_le_bytes w n ++ rest)) (byte_len w) ≡ false = le-ltb _ _ (omega (arith, length-append (to_le_bytes w n) rest)) in
    rw (long, take_at (to_le_bytes w n) rest (byte_len w) len, drop_at (to_le_bytes w n) rest (byte_len w) len, wide.same n lt) refl

pub reads_number : (w : Width) (limit : ℕ) → IsWide w limit → Reads (number_at w) (number w) (λ n. n < limit)
reads_number w limit wide = record {
  parts = λ bytes n rest fits e. number_parts w limit wide bytes n rest fits e;
  rest = λ bytes n rest fits e. rw (← (found w bytes n rest e).rest-is) (IsBytes-drop (byte_len w) bytes fits);
  fits = λ bytes n rest fits e. rw (← (found w bytes n rest e).n-is) (wide.below (take (byte_len w) bytes) (IsBytes-take (byte_len w) bytes fits));
  again = λ n rest lt. number_again w limit wide n rest lt;
}

pub reads16 : Reads (number_at w16) (number w16) (λ n. n < 2 ^ 16)
reads16 = reads_number w16 (2 ^ 16) wide16

pub reads32 : Reads (number_at w32) (number w32) (λ n. n < 2 ^ 32)
reads32 = reads_number w32 (2 ^ 32) wide32

pub reads64 : Reads (number_at w64) (number w64) (λ n. n < 2 ^ 64)
reads64 = reads_number w64 (2 ^ 64) wide64

-- ---- bytes

abbrev pub one : ℕ → List ℕ
one b = b ∷ []

byte_all : (bytes : List ℕ) (b : ℕ) (rest : List ℕ) → byte_at bytes ≡ Some (b, rest) → bytes ≡ b ∷ rest
unfolding byte_at
byte_all [] b rest e = absurd cc
byte_all (x ∷ bytes) b rest e = ap (λ (p : ℕ × List ℕ). p.0 ∷ p.1) (some_is (x, bytes) (b, rest) e)

IsBytes-rest : (b : ℕ) (bytes : List ℕ) → IsBytes (b ∷ bytes) → IsBytes bytes
IsBytes-rest b bytes h i = h (suc i)

byte_again : (b : ℕ) (rest : List ℕ) → byte_at (one b ++ rest) ≡ Some (b, rest)
unfolding byte_at
byte_again b rest = refl

pub reads_byte : Reads byte_at one (λ b. b < 256)
reads_byte = record {
  parts = λ bytes b rest fits e. byte_all bytes b rest e;
  rest = λ bytes b rest fits e. IsBytes-rest b rest (subst IsBytes (byte_all bytes b rest e) fits);
  fits = λ bytes b rest fits e. subst IsBytes (byte_all bytes b rest e) fits 0;
  again = λ b rest lt. byte_again b rest;
}

-- ---- digests

digest_found : (bytes d rest : List ℕ) → digest_at bytes ≡ Some (d, rest) → (32 ≤ length bytes) × (take 32 bytes ≡ d) × (drop 32 bytes ≡ rest)
unfolding digest_at
digest_found bytes d rest e =
    let g = guard_some (ltb (length bytes) 32) (take 32 bytes, drop 32 bytes) (d, rest) e in
    (ltb-false _ _ g.0, ap (λ (p : List ℕ × List ℕ). p.0) g.1, ap (λ (p : List ℕ × List ℕ). p.1) g.1)

digest_again : (d rest : List ℕ) → length d ≡ 32 → digest_at (d ++ rest) ≡ Some (d, rest)
unfolding digest_at
digest_again d rest len =
    let long : ltb (length (d ++ rest)) 32 ≡ false = le-ltb _ _ (omega (arith, length-append d rest)) in
    rw (long, take_at d rest 32 len, drop_at d rest 32 len) refl

pub reads_digest : Reads digest_at (λ d. d) IsDigest
reads_digest = record {
  parts = λ bytes d rest fits e. let g = digest_found bytes d rest e in rw (← g.1, ← g.2) (sym (take-append-drop 32 bytes));
  rest = λ bytes d rest fits e. rw (← (digest_found bytes d rest e).2) (IsBytes-drop 32 bytes fits);
  fits = λ bytes d rest fits e. let g = digest_found bytes d rest e in let l = g.0 in rw (← g.1) (record {
    len = omega (arith, length-take 32 bytes);
    bytes = IsBytes-take 32 bytes fits;
  });
  again = λ d rest h. digest_again d rest h.len;
}

-- ---- guests

abbrev pub guest_text : GuestParts → List ℕ
guest_text guest = guest.digest ++ (guest.harts ∷ [])

-- no version tells of more harts than a guest may have
pub harts_limit_le : (version : ℕ) → harts_limit version ≤ HART_LIMIT
harts_limit_le version = elim (cases_Bool (eqb version 1)) [ inl e ↦ rw e (omega arith) | inr e ↦ rw e (omega arith) ]

-- a guest of which the version tells
abbrev pub FitsGuest : ℕ → GuestParts → Type 0
FitsGuest version guest = IsGuest guest × (guest.harts ≤ harts_limit version)

-- what is found where a guest is read
record GotGuest (version : ℕ) (bytes : List ℕ) (guest : GuestParts) (rest : List ℕ) : Type 0 where
  pub parts : bytes ≡ guest_text guest ++ rest
  pub rest_fits : IsBytes rest
  pub fits : FitsGuest version guest

guest_found : (version : ℕ) (bytes : List ℕ) (guest : GuestParts) (rest : List ℕ) → IsBytes bytes → guest_at version bytes ≡ Some (guest, rest) →
    GotGuest version bytes guest rest
unfolding guest_at
guest_found version bytes guest rest fits e =
    let d = bind_some (digest_at bytes) _ (guest, rest) e in
    let h = bind_some (byte_at d.0.1) _ (guest, rest) d.2 in
    let some = guard_then (ltb h.0.0 1) _ (guest, rest) h.2 in
    let limit = guard_then (ltb (harts_limit version) h.0.0) _ (guest, rest) some.1 in
    let few : h.0.0 ≤ harts_limit version = ltb-false (harts_limit version) h.0.0 limit.0 in
    let made : GuestParts = record { digest = d.0.0; harts = h.0.0 } in
    let fd = reads_digest.rest bytes d.0.0 d.0.1 fits d.1 in
    let text : bytes ≡ d.0.0 ++ (h.0.0 ∷ h.0.1) = reads_digest.parts bytes d.0.0 d.0.1 fits d.1 ∙ ap (λ (x : List ℕ). d.0.0 ++ x)
    (reads_byte.parts d.0.1 h.0.0 h.0.1 fd h.1) in
    subst (λ (y : GuestParts × List ℕ). GotGuest version bytes y.0 y.1) (some_is (made, h.0.1) (guest, rest) limit.1) (record {
      parts = text ∙ sym (append_assoc d.0.0 (h.0.0 ∷ []) h.0.1);
      rest_fits = reads_byte.rest d.0.1 h.0.0 h.0.1 fd h.1;
      fits = (
        record {
          digest = reads_digest.fits bytes d.0.0 d.0.1 fits d.1;
          some = ltb-false h.0.0 1 some.0;
          limit = omega (arith, few, harts_limit_le version);
        },
        few,
      );
    })

guest_again : (version : ℕ) (guest : GuestParts) (rest : List ℕ) → FitsGuest version guest → guest_at version (guest_text guest ++ rest) ≡ Some (guest, rest)
unfolding guest_at byte_at
guest_again version guest rest h =
    rw (
      append_assoc guest.digest (guest.harts ∷ []) rest,
      reads_digest.again guest.digest (guest.harts ∷ rest) h.0.digest,
      le-ltb guest.harts 1 h.0.some,
      le-ltb (harts_limit version) guest.harts h.1,
    ) refl

pub reads_guest : (version : ℕ) → Reads (guest_at version) guest_text (FitsGuest version)
reads_guest version = record {
  parts = λ bytes guest rest fits e. (guest_found version bytes guest rest fits e).parts;
  rest = λ bytes guest rest fits e. (guest_found version bytes guest rest fits e).rest_fits;
  fits = λ bytes guest rest fits e. (guest_found version bytes guest rest fits e).fits;
  again = λ guest rest h. guest_again version guest rest h;
}

-- ---- so many of one kind

module _ {X : Type 0} where
  pub many_all : (item : List ℕ → Option (X × List ℕ)) (text : X → List ℕ) (Fits : X → Type 0) (r : Reads item text Fits) (n : ℕ) (bytes : List ℕ) (xs : List X)
      (rest : List ℕ) → IsBytes bytes → many item n bytes ≡ Some (xs, rest)
      → (bytes ≡ flat_map text xs ++ rest) × IsBytes rest × (length xs ≡ n) × AllByRecursion Fits xs
  unfolding many
  many_all item text Fits r zero bytes xs rest fits e =
      subst (λ (y : List X × List ℕ). (bytes ≡ flat_map text y.0 ++ y.1) × IsBytes y.1 × (length y.0 ≡ 0) × AllByRecursion Fits y.0)
      (some_is ([], bytes) (xs, rest) e) (refl, fits, refl, tt)
  many_all item text Fits r (suc n) bytes xs rest fits e =
      let a = bind_some (item bytes) (λ first. many item n first.1 >>= λ others. Some (first.0 ∷ others.0, others.1)) (xs, rest) e in
      let b = bind_some (many item n a.0.1) (λ others. Some (a.0.0 ∷ others.0, others.1)) (xs, rest) a.2 in
      let p = r.parts bytes a.0.0 a.0.1 fits a.1 in
      let ih = many_all item text Fits r n a.0.1 b.0.0 b.0.1 (r.rest bytes a.0.0 a.0.1 fits a.1) b.1 in
      let whole : bytes ≡ flat_map text (a.0.0 ∷ b.0.0) ++ b.0.1 = p ∙ ap (λ (x : List ℕ). text a.0.0 ++ x) ih.0 ∙
      sym (append_assoc (text a.0.0) (flat_map text b.0.0) b.0.1) in
      subst (λ (y : List X × List ℕ). (bytes ≡ flat_map text y.0 ++ y.1) × IsBytes y.1 × (length y.0 ≡ suc n) × AllByRecursion Fits y.0)
      (some_is (a.0.0 ∷ b.0.0, b.0.1) (xs, rest) b.2) (whole, ih.1, ap suc ih.2, (r.fits bytes a.0.0 a.0.1 fits a.1, ih.3))

  pub many_again : (item : List ℕ → Option (X × List ℕ)) (text : X → List ℕ) (Fits : X → Type 0) (r : Reads item text Fits) (xs : List X) (rest : List ℕ) →
      AllByRecursion Fits xs → many item (length xs) (flat_map text xs ++ rest) ≡ Some (xs, rest)
  unfolding many
  many_again item text Fits r [] rest h = refl
  many_again item text Fits r (x ∷ xs) rest h =
      let regrouped : flat_map text (x ∷ xs) ++ rest ≡ text x ++ (flat_map text xs ++ rest) = append_assoc (text x) (flat_map text xs) rest in
      ap (many item (suc (length xs))) regrouped ∙ rw (r.again x (flat_map text xs ++ rest) h.0, many_again item text Fits r xs rest h.1) refl
