-- Faults as a reader finds them, and by their bytes.
use Rattle.std.proofs.Common.{◌≡◌, ℕ, ◌<◌, ◌≤◌, Bool, true, false, cond, ltb, ◌&&◌, ◌||◌, List, length, slice_index}
use Rattle.std.proofs.Common.{Option, Some, None, Result, Ok, Err, refl, sym, subst, ◌∙◌, arith, inl, inr, ◌⊎◌}
use Rattle.std.proofs.lemmas.Bool.{le-ltb}
use Rattle.std.proofs.lemmas.Bool.Decides.{nat_tests}
use Rattle.fragment_codec.specs.declared.fault.FrameFault.{FrameFault}
use Rattle.fragment_codec.specs.declared.fault.FrameFault.TheVariants.{Magic, Version, Kind, Length, Digest, Body, Memory}
use Rattle.fragment_codec.specs.Streams.{is_other, body_len, longest_body, is_body_len, head_of, IsWhole}
use Rattle.fragment_codec.specs.AtFault.{Has, HasOther, IsBodyLen, HasVersion, IsAllThere, IsAtFault, FaultsByBytes}
use Rattle.fragment_codec.proofs.bytes.Heads.{head_is, head_from, least_most, right_len}

-- which test of a head has failed
abbrev outcome : Bool → Bool → Bool → Bool → Bool → ℕ → Result (Option ℕ) FrameFault
outcome b1 b2 b3 b4 b5 m = cond b1 (Err Magic) (cond b2 (Err Version) (cond b3 (Err Kind) (cond b4 (Ok None) (cond b5 (Ok (Some m)) (Err Length)))))

magic_by : (b1 b2 b3 b4 b5 : Bool) (m : ℕ) → outcome b1 b2 b3 b4 b5 m ≡ Err Magic → b1 ≡ true
magic_by true b2 b3 b4 b5 m e = refl
magic_by false true b3 b4 b5 m e = absurd cc
magic_by false false true b4 b5 m e = absurd cc
magic_by false false false true b5 m e = absurd cc
magic_by false false false false true m e = absurd cc
magic_by false false false false false m e = absurd cc

version_by : (b1 b2 b3 b4 b5 : Bool) (m : ℕ) → outcome b1 b2 b3 b4 b5 m ≡ Err Version → (b1 ≡ false) × (b2 ≡ true)
version_by true b2 b3 b4 b5 m e = absurd cc
version_by false true b3 b4 b5 m e = (refl, refl)
version_by false false true b4 b5 m e = absurd cc
version_by false false false true b5 m e = absurd cc
version_by false false false false true m e = absurd cc
version_by false false false false false m e = absurd cc

kind_by : (b1 b2 b3 b4 b5 : Bool) (m : ℕ) → outcome b1 b2 b3 b4 b5 m ≡ Err Kind → (b1 ≡ false) × (b2 ≡ false) × (b3 ≡ true)
kind_by true b2 b3 b4 b5 m e = absurd cc
kind_by false true b3 b4 b5 m e = absurd cc
kind_by false false true b4 b5 m e = (refl, refl, refl)
kind_by false false false true b5 m e = absurd cc
kind_by false false false false true m e = absurd cc
kind_by false false false false false m e = absurd cc

length_by : (b1 b2 b3 b4 b5 : Bool) (m : ℕ) → outcome b1 b2 b3 b4 b5 m ≡ Err Length →
    (b1 ≡ false) × (b2 ≡ false) × (b3 ≡ false) × (b4 ≡ false) × (b5 ≡ false)
length_by true b2 b3 b4 b5 m e = absurd cc
length_by false true b3 b4 b5 m e = absurd cc
length_by false false true b4 b5 m e = absurd cc
length_by false false false true b5 m e = absurd cc
length_by false false false false true m e = absurd cc
length_by false false false false false m e = (refl, refl, refl, refl, refl)

-- ---- one test

either : (a b : Bool) → (a || b) ≡ true → (a ≡ true) ⊎ (b ≡ true)
either true b e = inl refl
either false b e = inr e

both : (a b : Bool) → (a && b) ≡ true → (a ≡ true) × (b ≡ true)
both true b e = (refl, e)
both false b e = absurd cc

neither : (a b : Bool) → (a || b) ≡ false → (a ≡ false) × (b ≡ false)
neither false false e = (refl, refl)
neither false true e = absurd cc
neither true b e = absurd cc

is_another : (bytes : List ℕ) (i byte : ℕ) → is_other bytes i byte ≡ true → HasOther bytes i byte
is_another bytes i byte e = (grind (arith, nat_tests), λ same. grind (arith, nat_tests))

another_is : (bytes : List ℕ) (i byte : ℕ) → HasOther bytes i byte → is_other bytes i byte ≡ true
another_is bytes i byte (there, ne) = grind (arith, nat_tests)

is_it : (bytes : List ℕ) (i byte : ℕ) → i < length bytes → is_other bytes i byte ≡ false → Has bytes i byte
is_it bytes i byte there e = (there, grind (arith, nat_tests))

it_is : (bytes : List ℕ) (i byte : ℕ) → Has bytes i byte → is_other bytes i byte ≡ false
it_is bytes i byte (there, e) = grind (arith, nat_tests)

-- versions, and kinds
one_of : (bytes : List ℕ) (i : ℕ) → Has bytes i 1 ⊎ Has bytes i 2 → (is_other bytes i 1 && is_other bytes i 2) ≡ false
one_of bytes i (inl (there, e)) = grind (arith, nat_tests)
one_of bytes i (inr (there, e)) = grind (arith, nat_tests)

is_one : (bytes : List ℕ) (i : ℕ) → i < length bytes → (is_other bytes i 1 && is_other bytes i 2) ≡ false → Has bytes i 1 ⊎ Has bytes i 2
is_one bytes i there e = grind (arith, nat_tests)

and_true : (a b : Bool) → a ≡ true → b ≡ true → (a && b) ≡ true
and_true true b e h = h
and_true false b e h = absurd cc

-- ---- lengths of bodies

len_is : (version kind n : ℕ) → (kind ≡ 1) ⊎ (kind ≡ 2) → is_body_len version kind n ≡ true → IsBodyLen version kind n
len_is version kind n (inl e) is =
    let l = least_most 60 (longest_body version 1) n (subst (λ (k : ℕ). is_body_len version k n ≡ true) e is) in
    inl (e, l.0, l.1)
len_is version kind n (inr e) is =
    let l = least_most 49 (longest_body version 2) n (subst (λ (k : ℕ). is_body_len version k n ≡ true) e is) in
    inr (e, l.0, l.1)

is_len : (version kind n : ℕ) → IsBodyLen version kind n → is_body_len version kind n ≡ true
is_len version kind n (inl (e, least, most)) = subst (λ (k : ℕ). is_body_len version k n ≡ true) (sym e) (right_len version 1 n least most)
is_len version kind n (inr (e, least, most)) = subst (λ (k : ℕ). is_body_len version k n ≡ true) (sym e) (right_len version 2 n least most)

not_len : (b : Bool) → (b ≡ true → ⊥) → b ≡ false
not_len true ne = absurd (ne refl)
not_len false ne = refl

which : (bytes : List ℕ) (i : ℕ) → Has bytes i 1 ⊎ Has bytes i 2 → (slice_index bytes i ≡ 1) ⊎ (slice_index bytes i ≡ 2)
which bytes i (inl h) = inl h.1
which bytes i (inr h) = inr h.1

-- ---- faults of the head

magic : (bytes : List ℕ) → head_of bytes ≡ Err Magic → IsAtFault bytes Magic
unfolding head_of
magic bytes e =
    elim (either (is_other bytes 0 0x56) (is_other bytes 1 0x46) (magic_by _ _ _ _ _ _ e)) [
      | inl other ↦ inl (is_another bytes 0 0x56 other)
      | inr other ↦ inr (is_another bytes 1 0x46 other)
    ]

magic_back : (bytes : List ℕ) → IsAtFault bytes Magic → head_of bytes ≡ Err Magic
unfolding head_of
magic_back bytes (inl other) = rw (another_is bytes 0 0x56 other) refl
magic_back bytes (inr other) =
    let e : (is_other bytes 0 0x56 || is_other bytes 1 0x46) ≡ true = or_true (is_other bytes 0 0x56) (is_other bytes 1 0x46) (another_is bytes 1 0x46 other) in
    rw e refl
  where
    or_true : (a b : Bool) → b ≡ true → (a || b) ≡ true
    or_true true b e = refl
    or_true false b e = e

version : (bytes : List ℕ) → head_of bytes ≡ Err Version → IsAtFault bytes Version
unfolding head_of
version bytes e =
    let t = version_by _ _ _ _ _ _ e in
    let m = neither (is_other bytes 0 0x56) (is_other bytes 1 0x46) t.0 in
    let b = both (is_other bytes 2 1) (is_other bytes 2 2) t.1 in
    let other = is_another bytes 2 1 b.0 in
    (is_it bytes 0 0x56 (omega (arith, other)) m.0, is_it bytes 1 0x46 (omega (arith, other)) m.1, other, is_another bytes 2 2 b.1)

version_back : (bytes : List ℕ) → IsAtFault bytes Version → head_of bytes ≡ Err Version
unfolding head_of
version_back bytes (first, second, other, another) =
    rw (it_is bytes 0 0x56 first, it_is bytes 1 0x46 second, another_is bytes 2 1 other, another_is bytes 2 2 another) refl

module _ (bytes : List ℕ) where
  -- the bytes of a version are there, where the fourth byte is
  has_version : 3 < length bytes → (is_other bytes 0 0x56 || is_other bytes 1 0x46) ≡ false → (is_other bytes 2 1 && is_other bytes 2 2) ≡ false →
      HasVersion bytes
  has_version there none same =
      let m = neither (is_other bytes 0 0x56) (is_other bytes 1 0x46) none in
      record {
        first = is_it bytes 0 0x56 (omega (arith, there)) m.0;
        second = is_it bytes 1 0x46 (omega (arith, there)) m.1;
        version = is_one bytes 2 (omega (arith, there)) same;
      }

kind : (bytes : List ℕ) → head_of bytes ≡ Err Kind → IsAtFault bytes Kind
unfolding head_of
kind bytes e =
    let t = kind_by _ _ _ _ _ _ e in
    let b = both (is_other bytes 3 1) (is_other bytes 3 2) t.2 in
    let other = is_another bytes 3 1 b.0 in
    (has_version bytes other.0 t.0 t.1, other, is_another bytes 3 2 b.1)

kind_back : (bytes : List ℕ) → IsAtFault bytes Kind → head_of bytes ≡ Err Kind
unfolding head_of
kind_back bytes (v, one, two) =
    rw (it_is bytes 0 0x56 v.first, it_is bytes 1 0x46 v.second, one_of bytes 2 v.version, another_is bytes 3 1 one, another_is bytes 3 2 two) refl

length_fault : (bytes : List ℕ) → head_of bytes ≡ Err Length → IsAtFault bytes Length
unfolding head_of
length_fault bytes e =
    let t = length_by _ _ _ _ _ _ e in
    let there : 8 ≤ length bytes = (let g = t.3 in grind (arith, nat_tests)) in (
      record {
        version = has_version bytes (omega (arith, there)) t.0 t.1;
        kind = is_one bytes 3 (omega (arith, there)) t.2;
        there = there;
      },
      λ is. let right = is_len (slice_index bytes 2) (slice_index bytes 3) (body_len bytes) is in let wrong = t.4 in let same = sym wrong ∙ right in cc,
    )

length_back : (bytes : List ℕ) → IsAtFault bytes Length → head_of bytes ≡ Err Length
unfolding head_of
length_back bytes (tells, ne) =
    let v = tells.version in
    let short : ltb (length bytes) 8 ≡ false = le-ltb (length bytes) 8 tells.there in
    let wrong : is_body_len (slice_index bytes 2) (slice_index bytes 3) (body_len bytes) ≡ false =
    not_len (is_body_len (slice_index bytes 2) (slice_index bytes 3) (body_len bytes))
    (λ right. ne (len_is (slice_index bytes 2) (slice_index bytes 3) (body_len bytes) (which bytes 3 tells.kind) right)) in
    rw (it_is bytes 0 0x56 v.first, it_is bytes 1 0x46 v.second, one_of bytes 2 v.version, one_of bytes 3 tells.kind, short, wrong) refl

-- ---- whole frames

all_there : (bytes : List ℕ) (n : ℕ) → IsWhole bytes n → IsAllThere bytes n
all_there bytes n whole =
    let h = head_is bytes n whole.head in
    let len = h.len in
    record {
      tells =
          record {
            version =
                record {
                  first = (omega (arith, len), h.magic);
                  second = (omega (arith, len), h.magic2);
                  version = elim h.version [ inl e ↦ inl (omega (arith, len), e) | inr e ↦ inr (omega (arith, len), e) ];
                };
            kind = elim h.kind [ inl e ↦ inl (omega (arith, len), e) | inr e ↦ inr (omega (arith, len), e) ];
            there = len;
          };
      body = len_is (slice_index bytes 2) (slice_index bytes 3) (body_len bytes) h.kind h.right;
      size = h.n-is;
      there = whole.there;
    }

whole : (bytes : List ℕ) (n : ℕ) → IsAllThere bytes n → IsWhole bytes n
whole bytes n all =
    let v = all.tells.version in
    record {
      head = head_from bytes n (record {
        len = all.tells.there;
        magic = v.first.1;
        magic2 = v.second.1;
        version = which bytes 2 v.version;
        kind = which bytes 3 all.tells.kind;
        n-is = all.size;
        right = is_len (slice_index bytes 2) (slice_index bytes 3) (body_len bytes) all.body;
      });
      there = all.there;
    }

pub faults_by_bytes : FaultsByBytes
faults_by_bytes bytes Magic = (magic bytes, magic_back bytes)
faults_by_bytes bytes Version = (version bytes, version_back bytes)
faults_by_bytes bytes Kind = (kind bytes, kind_back bytes)
faults_by_bytes bytes Length = (length_fault bytes, length_back bytes)
faults_by_bytes bytes Digest = ((λ (n, w, d). (n, all_there bytes n w, d)), (λ (n, w, d). (n, whole bytes n w, d)))
faults_by_bytes bytes Body = ((λ (n, w, d, none). (n, all_there bytes n w, d, none)), (λ (n, w, d, none). (n, whole bytes n w, d, none)))
faults_by_bytes bytes Memory = ((λ no_one. no_one), (λ no_one. no_one))
