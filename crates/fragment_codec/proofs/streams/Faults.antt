-- A fault stays, however the stream goes on.
use Rattle.std.proofs.Common.{◌≡◌, ℕ, ◌+◌, ◌<◌, ◌≤◌, Bool, true, false, cond, ltb, eqb, not, ◌&&◌, ◌||◌, List, [], ◌∷◌, ◌++◌, length, slice_index, Option}
use Rattle.std.proofs.Common.{Some, None, Result, Ok, Err, refl, sym, ap, subst, ◌∙◌, arith, inl, inr, ◌⊎◌}
use Rattle.std.proofs.lemmas.Bool.{le-ltb, ltb-true, ltb-false, and_parts}
use Rattle.std.proofs.lemmas.Bool.Decides.{nat_tests}
use Rattle.std.proofs.lemmas.List.{take-append-le, length-append, get_or_append_left}
use Rattle.fragment_codec.specs.declared.fault.FrameFault.{FrameFault}
use Rattle.fragment_codec.specs.declared.fault.FrameFault.TheVariants.{Magic, Version, Kind, Length, Digest, Body, Memory}
use Rattle.fragment_codec.specs.Streams.{is_other, body_len, is_body_len, head_of, IsWhole, HasDigest, HasFault}
use Rattle.fragment_codec.proofs.bytes.Fields.{chosen}
use Rattle.fragment_codec.proofs.bytes.Heads.{head_more}

abbrev chain : Bool → Bool → Bool → Bool → Bool → ℕ → Result (Option ℕ) FrameFault
chain b1 b2 b3 b4 b5 m = cond b1 (Err Magic) (cond b2 (Err Version) (cond b3 (Err Kind) (cond b4 (Ok None) (cond b5 (Ok (Some m)) (Err Length)))))

is_other-append : (b more : List ℕ) (i x : ℕ) → i < length b → is_other (b ++ more) i x ≡ is_other b i x
is_other-append b more i x lt =
    let e = get_or_append_left b more 0 i lt in
    let l = length-append b more in
    grind (arith, nat_tests)

there : (b : List ℕ) (i x : ℕ) → is_other b i x ≡ true → i < length b
there b i x e = ltb-true i (length b) (and_parts (ltb i (length b)) (not (eqb (slice_index b i) x)) e).0

either : (x y : Bool) → (x || y) ≡ true → (x ≡ true) ⊎ (y ≡ true)
either true y e = inl refl
either false y e = inr e

or_left : (x y : Bool) → x ≡ true → (x || y) ≡ true
or_left true y e = refl
or_left false y e = absurd cc

or_right : (x y : Bool) → y ≡ true → (x || y) ≡ true
or_right true y e = refl
or_right false y e = e

body_len-append : (b more : List ℕ) → 8 ≤ length b → body_len (b ++ more) ≡ body_len b
body_len-append [] more h = absurd (omega arith)
body_len-append (x0 ∷ []) more h = absurd (omega arith)
body_len-append (x0 ∷ x1 ∷ []) more h = absurd (omega arith)
body_len-append (x0 ∷ x1 ∷ x2 ∷ []) more h = absurd (omega arith)
body_len-append (x0 ∷ x1 ∷ x2 ∷ x3 ∷ []) more h = absurd (omega arith)
body_len-append (x0 ∷ x1 ∷ x2 ∷ x3 ∷ x4 ∷ []) more h = absurd (omega arith)
body_len-append (x0 ∷ x1 ∷ x2 ∷ x3 ∷ x4 ∷ x5 ∷ []) more h = absurd (omega arith)
body_len-append (x0 ∷ x1 ∷ x2 ∷ x3 ∷ x4 ∷ x5 ∷ x6 ∷ []) more h = absurd (omega arith)
body_len-append (x0 ∷ x1 ∷ x2 ∷ x3 ∷ x4 ∷ x5 ∷ x6 ∷ x7 ∷ r) more h = refl

chain_same : (b1 b2 b3 b4 b5 c1 c2 c3 c4 c5 : Bool) (m k : ℕ) → b1 ≡ c1 → b2 ≡ c2 → b3 ≡ c3 → b4 ≡ c4 → b5 ≡ c5 → m ≡ k →
    chain b1 b2 b3 b4 b5 m ≡ chain c1 c2 c3 c4 c5 k
chain_same b1 b2 b3 b4 b5 c1 c2 c3 c4 c5 m k e1 e2 e3 e4 e5 e = rw (e1, e2, e3, e4, e5, e) refl

long_head : (b more : List ℕ) → 8 ≤ length b → head_of (b ++ more) ≡ head_of b
unfolding head_of
long_head b more t =
    let e0 = is_other-append b more 0 0x56 (omega (arith, t)) in
    let e1 = is_other-append b more 1 0x46 (omega (arith, t)) in
    let v1 = is_other-append b more 2 1 (omega (arith, t)) in
    let v2 = is_other-append b more 2 2 (omega (arith, t)) in
    let e3 = is_other-append b more 3 1 (omega (arith, t)) in
    let e4 = is_other-append b more 3 2 (omega (arith, t)) in
    chain_same _ _ _ _ _ _ _ _ _ _ _ _
    (ap (λ (x : Bool). x || is_other (b ++ more) 1 0x46) e0 ∙ ap (λ (x : Bool). is_other b 0 0x56 || x) e1)
    (ap (λ (x : Bool). x && is_other (b ++ more) 2 2) v1 ∙ ap (λ (x : Bool). is_other b 2 1 && x) v2)
    (ap (λ (x : Bool). x && is_other (b ++ more) 3 2) e3 ∙ ap (λ (x : Bool). is_other b 3 1 && x) e4)
    (le-ltb (length (b ++ more)) 8 (omega (arith, t, length-append b more)) ∙ sym (le-ltb (length b) 8 t))
    (ap (λ (x : ℕ). is_body_len x (slice_index (b ++ more) 3) (body_len (b ++ more))) (get_or_append_left b more 0 2 (omega (arith, t))) ∙
    ap (λ (x : ℕ). is_body_len (slice_index b 2) x (body_len (b ++ more))) (get_or_append_left b more 0 3 (omega (arith, t))) ∙
    ap (λ (x : ℕ). is_body_len (slice_index b 2) (slice_index b 3) x) (body_len-append b more t))
    (ap (λ (x : ℕ). x + 40) (body_len-append b more t))

pub head_fault_more : (b more : List ℕ) (f : FrameFault) → head_of b ≡ Err f → head_of (b ++ more) ≡ Err f
unfolding head_of
head_fault_more b more f e =
    elim (chosen (is_other b 0 0x56 || is_other b 1 0x46) _ _ _ e) [
      | inl h ↦
          let m : (is_other (b ++ more) 0 0x56 || is_other (b ++ more) 1 0x46) ≡ true =
          elim (either (is_other b 0 0x56) (is_other b 1 0x46) h.0) [
            | inl p ↦ or_left _ _ (is_other-append b more 0 0x56 (there b 0 0x56 p) ∙ p)
            | inr p ↦ or_right _ _ (is_other-append b more 1 0x46 (there b 1 0x46 p) ∙ p)
          ] in
          rw m h.1
      | inr h ↦
          elim (chosen (is_other b 2 1 && is_other b 2 2) _ _ _ h.1) [
            | inl v ↦
                let t = there b 2 1 (and_parts (is_other b 2 1) (is_other b 2 2) v.0).0 in
                rw (
                  is_other-append b more 0 0x56 (omega (arith, t)),
                  is_other-append b more 1 0x46 (omega (arith, t)),
                  is_other-append b more 2 1 t,
                  is_other-append b more 2 2 t,
                  h.0,
                  v.0,
                ) v.1
            | inr v ↦
                elim (chosen (is_other b 3 1 && is_other b 3 2) _ _ _ v.1) [
                  | inl k ↦
                      let t = there b 3 1 (and_parts (is_other b 3 1) (is_other b 3 2) k.0).0 in
                      rw (
                        is_other-append b more 0 0x56 (omega (arith, t)),
                        is_other-append b more 1 0x46 (omega (arith, t)),
                        is_other-append b more 2 1 (omega (arith, t)),
                        is_other-append b more 2 2 (omega (arith, t)),
                        is_other-append b more 3 1 t,
                        is_other-append b more 3 2 t,
                        h.0,
                        v.0,
                        k.0,
                      ) k.1
                  | inr k ↦
                      elim (chosen (ltb (length b) 8) _ _ _ k.1) [
                        | inl s ↦ absurd (let q = s.1 in cc)
                        | inr s ↦
                            let t : 8 ≤ length b = ltb-false (length b) 8 s.0 in
                            long_head b more t ∙ e
                      ]
                ]
          ]
    ]

whole_more : (b more : List ℕ) (n : ℕ) → IsWhole b n → IsWhole (b ++ more) n
whole_more b more n w = record { head = head_more b more n w.head; there = (let t = w.there in omega (arith, t, length-append b more)) }

pub fault_more : (b more : List ℕ) (f : FrameFault) → HasFault b f → HasFault (b ++ more) f
fault_more b more Magic e = head_fault_more b more Magic e
fault_more b more Version e = head_fault_more b more Version e
fault_more b more Kind e = head_fault_more b more Kind e
fault_more b more Length e = head_fault_more b more Length e
fault_more b more Digest e =
    (e.0, whole_more b more e.0 e.1, λ d. e.2 (subst HasDigest (take-append-le e.0 b more e.1.there) d))
fault_more b more Body e = (
  e.0,
  whole_more b more e.0 e.1,
  subst HasDigest (sym (take-append-le e.0 b more e.1.there)) e.2,
  λ f h w. e.3 f h (sym (take-append-le e.0 b more e.1.there) ∙ w),
)
fault_more b more Memory e = e
