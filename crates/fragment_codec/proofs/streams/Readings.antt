-- A stream has one reading: its whole right frames, and then a rest that is no whole frame or has its one fault.
use Rattle.std.proofs.Common.{◌≡◌, ◌≢◌, ℕ, ◌-◌, ◌<◌, ◌≤◌, List, [], ◌∷◌, ◌++◌, length, map, take, Option, Some, None, Ok, Err, refl, sym, ap, subst, ◌∙◌}
use Rattle.std.proofs.Common.{append_assoc, arith, inl, inr, ◌⊎◌}
use Rattle.std.specs.List.{flat_map, AllByRecursion}
use Rattle.std.proofs.lemmas.List.{take_at, length-append}
use Rattle.sha2.specs.Sha256.{sha256}
use Rattle.sha2.proofs.Facts256.{length-sha256}
use Rattle.fragment_codec.specs.declared.fault.FrameFault.{FrameFault}
use Rattle.fragment_codec.specs.declared.fault.FrameFault.TheVariants.{Magic, Version, Kind, Length, Digest, Body, Memory}
use Rattle.fragment_codec.specs.declared.frame.Frame.{Frame}
use Rattle.fragment_codec.specs.declared.frame.Frame.TheVariants.{Log, Opening}
use Rattle.fragment_codec.specs.Spelling.{headed, sealed, log_body, opening_body}
use Rattle.fragment_codec.specs.Streams.{Spelled, text_of, spelled, IsSpelled, head_of, HasDigest, IsPartial, HasFault, IsStuck, Splits, Unread, Keeps, Follows}
use Rattle.fragment_codec.proofs.bytes.Heads.{one_size, no_size}
use Rattle.fragment_codec.proofs.streams.Pieces.{spelling_head, one_reading}

sealed_digest : (x : List ℕ) → HasDigest (sealed x)
unfolding sealed
sealed_digest x =
    let len : length (x ++ sha256 x) - 32 ≡ length x = omega (arith, length-append x (sha256 x), length-sha256 x) in
    let front : take (length (x ++ sha256 x) - 32) (x ++ sha256 x) ≡ x = ap (λ (n : ℕ). take n (x ++ sha256 x)) len ∙ take_at x (sha256 x) (length x) refl in
    ap (λ (y : List ℕ). y ++ sha256 y) (sym front)

spelled_digest : (version : ℕ) (f : Frame) → HasDigest (spelled version f)
spelled_digest version (Log g) = sealed_digest (headed version 1 (log_body version g))
spelled_digest version (Opening o) = sealed_digest (headed version 2 (opening_body o))

-- a fault of the head, or one behind it
abbrev Seen : List ℕ → FrameFault → Type 0
Seen b f = (head_of b ≡ Err f) ⊎ ((n : ℕ) × ((head_of b ≡ Ok (Some n)) × (((f ≡ Digest) × (HasDigest (take n b) → ⊥)) ⊎
    ((f ≡ Body) × (HasDigest (take n b) × ((s : Spelled) → IsSpelled s → take n b ≢ text_of s))))))

seen : (b : List ℕ) (f : FrameFault) → HasFault b f → Seen b f
seen b Magic e = inl e
seen b Version e = inl e
seen b Kind e = inl e
seen b Length e = inl e
seen b Digest e = inr (e.0, (e.1.head, inl (refl, e.2)))
seen b Body e = inr (e.0, (e.1.head, inr (refl, (e.2, e.3))))
seen b Memory e = absurd e

same_digest : (b : List ℕ) (m n : ℕ) → head_of b ≡ Ok (Some m) → head_of b ≡ Ok (Some n) → HasDigest (take m b) → HasDigest (take n b)
same_digest b m n p q h = subst (λ (k : ℕ). HasDigest (take k b)) (one_size b m n p q) h

pub one_fault : (b : List ℕ) (f g : FrameFault) → HasFault b f → HasFault b g → f ≡ g
one_fault b f g p q =
    elim (seen b f p) [
      | inl e ↦ elim (seen b g q) [
        | inl h ↦ (let k = sym e ∙ h in cc)
        | inr h ↦ absurd (let k = sym e ∙ h.1.0 in cc)
      ]
      | inr e ↦ elim (seen b g q) [
        | inl h ↦ absurd (let k = sym h ∙ e.1.0 in cc)
        | inr h ↦ elim e.1.1 [
          | inl d ↦ elim h.1.1 [ inl k ↦ d.0 ∙ sym k.0 | inr k ↦ absurd (d.1 (same_digest b h.0 e.0 h.1.0 e.1.0 k.1.0)) ]
          | inr d ↦ elim h.1.1 [ inl k ↦ absurd (k.1 (same_digest b e.0 h.0 e.1.0 h.1.0 d.1.0)) | inr k ↦ d.0 ∙ sym k.0 ]
        ]
      ]
    ]

-- where a frame stands, the stream isn't stuck
pub not_stuck : (f : Spelled) (x : List ℕ) → IsSpelled f → IsStuck (text_of f ++ x) → ⊥
not_stuck f x h s =
    let head = spelling_head f x h in
    let front : take (length (text_of f)) (text_of f ++ x) ≡ text_of f = take_at (text_of f) x (length (text_of f)) refl in
    elim s [
      | inl p ↦ elim p [
        | inl e ↦ no_size (text_of f ++ x) _ e head
        | inr e ↦ (let same = one_size (text_of f ++ x) e.0 (length (text_of f)) e.1 head in let lt = e.2 in
            absurd (omega (arith, same, lt, length-append (text_of f) x)))
      ]
      | inr q ↦ elim (seen (text_of f ++ x) q.0 q.1) [
        | inl e ↦ absurd (let k = sym e ∙ head in cc)
        | inr e ↦
            let same = one_size (text_of f ++ x) e.0 (length (text_of f)) e.1.0 head in
            let at : take e.0 (text_of f ++ x) ≡ text_of f = ap (λ (n : ℕ). take n (text_of f ++ x)) same ∙ front in
            elim e.1.1 [
              | inl d ↦ d.1 (subst HasDigest (sym at) (spelled_digest f.version f.frame))
              | inr d ↦ d.1.1 f h at
            ]
      ]
    ]

pub one_split : (fs gs : List Spelled) (r q : List ℕ) → AllByRecursion IsSpelled fs → AllByRecursion IsSpelled gs → IsStuck r → IsStuck q →
    flat_map text_of fs ++ r ≡ flat_map text_of gs ++ q → (fs ≡ gs) × (r ≡ q)
one_split [] [] r q hf hg sr sq e = (refl, e)
one_split [] (g ∷ gs) r q hf hg sr sq e =
    absurd (not_stuck g (flat_map text_of gs ++ q) hg.0 (subst IsStuck (e ∙ append_assoc (text_of g) (flat_map text_of gs) q) sr))
one_split (f ∷ fs) [] r q hf hg sr sq e =
    absurd (not_stuck f (flat_map text_of fs ++ r) hf.0 (subst IsStuck (sym e ∙ append_assoc (text_of f) (flat_map text_of fs) r) sq))
one_split (f ∷ fs) (g ∷ gs) r q hf hg sr sq e =
    let a = one_reading f g (flat_map text_of fs ++ r) (flat_map text_of gs ++ q) hf.0 hg.0 (sym (append_assoc (text_of f) (flat_map text_of fs) r) ∙ e ∙
    append_assoc (text_of g) (flat_map text_of gs) q) in
    let b = one_split fs gs r q hf.1 hg.1 sr sq a.1 in
    (ap (λ (x : Spelled). x ∷ fs) a.0 ∙ ap (λ (xs : List Spelled). g ∷ xs) b.0, b.1)

pub one_stream : (stream : List ℕ) (fs gs : List Frame) (r q : List ℕ) → Splits stream fs r → Splits stream gs q → IsStuck r → IsStuck q → (fs ≡ gs) × (r ≡ q)
one_stream stream fs gs r q a b sr sq =
    let same = one_split a.spelled b.spelled r q a.each b.each sr sq (sym a.whole ∙ b.whole) in
    (sym a.these ∙ ap (map (λ (s : Spelled). s.frame)) same.0 ∙ b.these, same.1)

-- where a fault lies behind the head, the frame is there
there : (b : List ℕ) (f : FrameFault) (n : ℕ) → HasFault b f → head_of b ≡ Ok (Some n) → n ≤ length b
there b Magic n h e = absurd (let k = sym e ∙ h in cc)
there b Version n h e = absurd (let k = sym e ∙ h in cc)
there b Kind n h e = absurd (let k = sym e ∙ h in cc)
there b Length n h e = absurd (let k = sym e ∙ h in cc)
there b Digest n h e = (let same = one_size b n h.0 e h.1.head in let t = h.1.there in omega (arith, same, t))
there b Body n h e = (let same = one_size b n h.0 e h.1.head in let t = h.1.there in omega (arith, same, t))
there b Memory n h e = absurd h

apart : (b : List ℕ) (f : FrameFault) → HasFault b f → (m n : ℕ) → head_of b ≡ Ok (Some m) → head_of b ≡ Ok (Some n) → length b < n → ⊥
apart b f h m n p q lt = let t = there b f n h q in omega (arith, t, lt)

-- a rest that is no whole frame has no fault
partial_right : (b : List ℕ) (f : FrameFault) → IsPartial b → HasFault b f → ⊥
partial_right b f p h =
    elim (seen b f h) [
      | inl e ↦ elim p [ inl q ↦ (let k = sym e ∙ q in cc) | inr q ↦ (let k = sym e ∙ q.1 in cc) ]
      | inr e ↦ elim p [ inl q ↦ no_size b e.0 q e.1.0 | inr q ↦ apart b f h e.0 q.0 e.1.0 q.1 q.2 ]
    ]

keeps_stuck : (rest kept : List ℕ) (fault : Option FrameFault) → Keeps rest kept fault → IsStuck rest
keeps_stuck rest kept None k = inl k.1
keeps_stuck rest kept (Some f) k = inr (f, k)

keeps_one : (rest a b : List ℕ) (f g : Option FrameFault) → Keeps rest a f → Keeps rest b g → f ≡ g
keeps_one rest a b None None h k = refl
keeps_one rest a b None (Some g) h k = absurd (partial_right rest g h.1 k)
keeps_one rest a b (Some f) None h k = absurd (partial_right rest f k.1 h)
keeps_one rest a b (Some f) (Some g) h k = ap (λ (x : FrameFault). Some x) (one_fault rest f g h k)

pub one_feed : (stream : List ℕ) (fs gs : List Frame) (a b : Unread) → Follows stream fs a → Follows stream gs b → (fs ≡ gs) × (a.fault ≡ b.fault)
one_feed stream fs gs a b h k =
    let e = one_stream stream fs gs h.rest k.rest h.splits k.splits (keeps_stuck h.rest a.rest a.fault h.keeps) (keeps_stuck k.rest b.rest b.fault k.keeps) in
    (e.0, keeps_one k.rest a.rest b.rest a.fault b.fault (subst (λ (x : List ℕ). Keeps x a.rest a.fault) e.1 h.keeps) k.keeps)
