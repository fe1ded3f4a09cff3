-- What the head of a frame says.
use Rattle.std.proofs.Common.{◌≡◌, ℕ, ◌+◌, ◌-◌, ◌<◌, ◌≤◌, Bool, true, false, cond, ltb, eqb, not, ◌&&◌, ◌||◌, List, [], ◌∷◌, ◌++◌, length, slice_index, take, drop, min}
use Rattle.std.proofs.Common.{Option, Some, None, Result, Ok, Err, refl, sym, ap, ◌∙◌, append_assoc, arith, inl, inr, ◌⊎◌}
use Rattle.std.proofs.lemmas.Bool.{le-ltb, cases_Bool}
use Rattle.std.proofs.Math.Seq.{take-add}
use Rattle.std.proofs.lemmas.Bool.Decides.{nat_tests}
use Rattle.fragment_codec.specs.declared.fault.FrameFault.{FrameFault}
use Rattle.fragment_codec.specs.declared.fault.FrameFault.TheVariants.{Magic, Version, Kind, Length, Digest, Body, Memory}
use Rattle.fragment_codec.specs.Streams.{is_other, body_len, longest_body, is_body_len, head_of, IsPartial, HasFault}

past : {A : Type 0} (b : Bool) (f : FrameFault) (y : Result A FrameFault) (z : A) → cond b (Err f) y ≡ Ok z → (b ≡ false) × (y ≡ Ok z)
past true f y z e = absurd cc
past false f y z e = (refl, e)

long : (b : Bool) (y : Result (Option ℕ) FrameFault) (n : ℕ) → cond b (Ok None) y ≡ Ok (Some n) → (b ≡ false) × (y ≡ Ok (Some n))
long true y n e = absurd cc
long false y n e = (refl, e)

sized : (b : Bool) (m n : ℕ) → cond b (Ok (Some m)) (Err Length) ≡ Ok (Some n) → (b ≡ true) × (m ≡ n)
sized true m n e = (refl, cc)
sized false m n e = absurd cc

pub record IsHead (bytes : List ℕ) (n : ℕ) : Type 0 where
  pub len : 8 ≤ length bytes
  pub magic : slice_index bytes 0 ≡ 0x56
  pub magic2 : slice_index bytes 1 ≡ 0x46
  pub version : (slice_index bytes 2 ≡ 1) ⊎ (slice_index bytes 2 ≡ 2)
  pub kind : (slice_index bytes 3 ≡ 1) ⊎ (slice_index bytes 3 ≡ 2)
  pub n-is : body_len bytes + 40 ≡ n
  pub right : is_body_len (slice_index bytes 2) (slice_index bytes 3) (body_len bytes) ≡ true

is_same : (bytes : List ℕ) (i byte : ℕ) → i < length bytes → is_other bytes i byte ≡ false → slice_index bytes i ≡ byte
is_same bytes i byte lt e = grind (arith, nat_tests)

neither : (a b : Bool) → (a || b) ≡ false → (a ≡ false) × (b ≡ false)
neither false false e = (refl, refl)
neither false true e = absurd cc
neither true b e = absurd cc

one_of : (bytes : List ℕ) (i : ℕ) → i < length bytes → (is_other bytes i 1 && is_other bytes i 2) ≡ false → (slice_index bytes i ≡ 1) ⊎ (slice_index bytes i ≡ 2)
one_of bytes i lt e = grind (arith, nat_tests)

pub head_is : (bytes : List ℕ) (n : ℕ) → head_of bytes ≡ Ok (Some n) → IsHead bytes n
unfolding head_of
head_is bytes n e =
    let a = past (is_other bytes 0 0x56 || is_other bytes 1 0x46) Magic _ (Some n) e in
    let b = past (is_other bytes 2 1 && is_other bytes 2 2) Version _ (Some n) a.1 in
    let c = past (is_other bytes 3 1 && is_other bytes 3 2) Kind _ (Some n) b.1 in
    let d = long (ltb (length bytes) 8) _ n c.1 in
    let f = sized (is_body_len (slice_index bytes 2) (slice_index bytes 3) (body_len bytes)) (body_len bytes + 40) n d.1 in
    let len : 8 ≤ length bytes = (let g = d.0 in grind (arith, nat_tests)) in
    let m = neither (is_other bytes 0 0x56) (is_other bytes 1 0x46) a.0 in
    record {
      len = len;
      magic = is_same bytes 0 0x56 (omega (arith, len)) m.0;
      magic2 = is_same bytes 1 0x46 (omega (arith, len)) m.1;
      version = one_of bytes 2 (omega (arith, len)) b.0;
      kind = one_of bytes 3 (omega (arith, len)) c.0;
      n-is = f.1;
      right = f.0;
    }

-- the two tests of a length
pub least_most : (least most n : ℕ) → (not (ltb n least) && not (ltb most n)) ≡ true → (least ≤ n) × (n ≤ most)
least_most least most n e = (grind (arith, nat_tests), grind (arith, nat_tests))

pub right_len : (version kind n : ℕ) → cond (eqb kind 1) 60 49 ≤ n → n ≤ longest_body version kind → is_body_len version kind n ≡ true
right_len version kind n a b = rw (le-ltb n (cond (eqb kind 1) 60 49) a, le-ltb (longest_body version kind) n b) refl

least_body : (kind : ℕ) → 49 ≤ cond (eqb kind 1) 60 49
least_body kind = elim (cases_Bool (eqb kind 1)) [ inl e ↦ rw e (omega arith) | inr e ↦ rw e (omega arith) ]

pub most_body : (version kind : ℕ) → longest_body version kind ≤ 4668
most_body version kind =
    elim (cases_Bool (eqb version 1)) [
      | inl v ↦ elim (cases_Bool (eqb kind 1)) [ inl k ↦ rw (v, k) (omega arith) | inr k ↦ rw (v, k) (omega arith) ]
      | inr v ↦ elim (cases_Bool (eqb kind 1)) [ inl k ↦ rw (v, k) (omega arith) | inr k ↦ rw (v, k) (omega arith) ]
    ]

bounds : (version kind n : ℕ) → is_body_len version kind n ≡ true → (49 ≤ n) × (n ≤ 4668)
bounds version kind n e =
    let l = least_most (cond (eqb kind 1) 60 49) (longest_body version kind) n e in
    (omega (arith, l.0, least_body kind), omega (arith, l.1, most_body version kind))

pub head_bounds : (bytes : List ℕ) (n : ℕ) → head_of bytes ≡ Ok (Some n) → (49 + 40 ≤ n) × (n ≤ 4708)
head_bounds bytes n e =
    let h = head_is bytes n e in
    let l = bounds (slice_index bytes 2) (slice_index bytes 3) (body_len bytes) h.right in
    (omega (arith, l, h.n-is), omega (arith, l, h.n-is))

short : (b1 b2 b3 b4 b5 : Bool) (m : ℕ) → cond b1 (Err Magic) (cond b2 (Err Version)
    (cond b3 (Err Kind) (cond b4 (Ok None) (cond b5 (Ok (Some m)) (Err Length))))) ≡ Ok None → b4 ≡ true
short true b2 b3 b4 b5 m e = absurd cc
short false true b3 b4 b5 m e = absurd cc
short false false true b4 b5 m e = absurd cc
short false false false true b5 m e = refl
short false false false false true m e = absurd cc
short false false false false false m e = absurd cc

pub head_short : (bytes : List ℕ) → head_of bytes ≡ Ok None → length bytes < 8
unfolding head_of
head_short bytes e = let g = short _ _ _ (ltb (length bytes) 8) _ _ e in grind (arith, nat_tests)

pub partial_nothing : IsPartial []
unfolding head_of
partial_nothing = inl refl

pub partial_len : (bytes : List ℕ) → IsPartial bytes → length bytes < 4708
partial_len bytes p = elim p [ inl e ↦ omega (arith, head_short bytes e) | inr h ↦ omega (arith, head_bounds bytes h.0 h.1, h.2) ]

-- the head has no other fault
no_other : (f : FrameFault) (b1 b2 b3 b4 b5 : Bool) (m : ℕ) → (f ≡ Magic → ⊥) → (f ≡ Version → ⊥) → (f ≡ Kind → ⊥) → (f ≡ Length → ⊥)
    → cond b1 (Err Magic) (cond b2 (Err Version) (cond b3 (Err Kind) (cond b4 (Ok None) (cond b5 (Ok (Some m)) (Err Length))))) ≡ Err f → ⊥
no_other f true b2 b3 b4 b5 m n1 n2 n3 n4 e = n1 cc
no_other f false true b3 b4 b5 m n1 n2 n3 n4 e = n2 cc
no_other f false false true b4 b5 m n1 n2 n3 n4 e = n3 cc
no_other f false false false true b5 m n1 n2 n3 n4 e = absurd cc
no_other f false false false false true m n1 n2 n3 n4 e = absurd cc
no_other f false false false false false m n1 n2 n3 n4 e = n4 cc

not_digest : (bytes : List ℕ) → head_of bytes ≡ Err Digest → ⊥
unfolding head_of
not_digest bytes e = no_other Digest _ _ _ _ _ _ (λ h. cc) (λ h. cc) (λ h. cc) (λ h. cc) e

not_body : (bytes : List ℕ) → head_of bytes ≡ Err Body → ⊥
unfolding head_of
not_body bytes e = no_other Body _ _ _ _ _ _ (λ h. cc) (λ h. cc) (λ h. cc) (λ h. cc) e

pub not_memory : (bytes : List ℕ) → head_of bytes ≡ Err Memory → ⊥
unfolding head_of
not_memory bytes e = no_other Memory _ _ _ _ _ _ (λ h. cc) (λ h. cc) (λ h. cc) (λ h. cc) e

pub head_fault : (bytes : List ℕ) (f : FrameFault) → head_of bytes ≡ Err f → (f ≡ Memory) ⊎ HasFault bytes f
head_fault bytes Magic e = inr e
head_fault bytes Version e = inr e
head_fault bytes Kind e = inr e
head_fault bytes Length e = inr e
head_fault bytes Digest e = absurd (not_digest bytes e)
head_fault bytes Body e = absurd (not_body bytes e)
head_fault bytes Memory e = inl refl

is_not_other : (bytes : List ℕ) (i byte : ℕ) → slice_index bytes i ≡ byte → is_other bytes i byte ≡ false
is_not_other bytes i byte e = grind (arith, nat_tests)

is_one_of : (bytes : List ℕ) (i : ℕ) → (slice_index bytes i ≡ 1) ⊎ (slice_index bytes i ≡ 2) → (is_other bytes i 1 && is_other bytes i 2) ≡ false
is_one_of bytes i k = grind (arith, nat_tests)

pub head_from : (bytes : List ℕ) (n : ℕ) → IsHead bytes n → head_of bytes ≡ Ok (Some n)
unfolding head_of
head_from bytes n h =
    let len = h.len in
    let e0 = is_not_other bytes 0 0x56 h.magic in
    let e1 = is_not_other bytes 1 0x46 h.magic2 in
    let e2 = is_one_of bytes 2 h.version in
    let e3 = is_one_of bytes 3 h.kind in
    let e4 : ltb (length bytes) 8 ≡ false = le-ltb (length bytes) 8 len in
    rw (e0, e1, e2, e3, e4, h.right) (ap (λ (m : ℕ). Ok (Some m)) h.n-is)

is_head_more : (bytes more : List ℕ) (n : ℕ) → IsHead bytes n → IsHead (bytes ++ more) n
is_head_more [] more n q = absurd (let l = q.len in omega arith)
is_head_more (a ∷ []) more n q = absurd (let l = q.len in omega arith)
is_head_more (a ∷ b ∷ []) more n q = absurd (let l = q.len in omega arith)
is_head_more (a ∷ b ∷ c ∷ []) more n q = absurd (let l = q.len in omega arith)
is_head_more (a ∷ b ∷ c ∷ d ∷ []) more n q = absurd (let l = q.len in omega arith)
is_head_more (a ∷ b ∷ c ∷ d ∷ e ∷ []) more n q = absurd (let l = q.len in omega arith)
is_head_more (a ∷ b ∷ c ∷ d ∷ e ∷ f ∷ []) more n q = absurd (let l = q.len in omega arith)
is_head_more (a ∷ b ∷ c ∷ d ∷ e ∷ f ∷ g ∷ []) more n q = absurd (let l = q.len in omega arith)
is_head_more (a ∷ b ∷ c ∷ d ∷ e ∷ f ∷ g ∷ k ∷ r) more n q =
    record { len = omega arith; magic = q.magic; magic2 = q.magic2; version = q.version; kind = q.kind; n-is = q.n-is; right = q.right }

pub head_more : (bytes more : List ℕ) (n : ℕ) → head_of bytes ≡ Ok (Some n) → head_of (bytes ++ more) ≡ Ok (Some n)
head_more bytes more n e = head_from (bytes ++ more) n (is_head_more bytes more n (head_is bytes n e))

pub one_size : (bytes : List ℕ) (m n : ℕ) → head_of bytes ≡ Ok (Some m) → head_of bytes ≡ Ok (Some n) → m ≡ n
one_size bytes m n e h = let k = sym e ∙ h in cc

pub no_size : (bytes : List ℕ) (n : ℕ) → head_of bytes ≡ Ok None → head_of bytes ≡ Ok (Some n) → ⊥
no_size bytes n e h = let k = sym e ∙ h in cc

pub fault_partial : (bytes : List ℕ) (f : FrameFault) → head_of bytes ≡ Err f → IsPartial bytes → ⊥
fault_partial bytes f e p = elim p [ inl h ↦ (let k = sym e ∙ h in cc) | inr h ↦ (let k = sym e ∙ h.1 in cc) ]

pub fault_size : (bytes : List ℕ) (f : FrameFault) (n : ℕ) → head_of bytes ≡ Err f → head_of bytes ≡ Ok (Some n) → ⊥
fault_size bytes f n e h = let k = sym e ∙ h in cc

-- ---- what is filled

pub first_len : (held piece new : List ℕ) (first n : ℕ) → IsPartial held → first ≡ min (8 - length held) (length piece) → new ≡ held ++ take first piece →
    length new ≡ length held + first → head_of new ≡ Ok (Some n) → length new ≤ n
first_len held piece new first n p f w l e =
    let lo = head_bounds new n e in
    elim p [
      | inl h ↦ omega (arith, head_short held h)
      | inr h ↦
          let same = one_size new h.0 n (ap head_of w ∙ head_more held (take first piece) h.0 h.1) e in
          let eight = (head_is held h.0 h.1).len in
          let lt = h.2 in
          omega (arith, same, eight, lt)
    ]

pub all_taken : (held1 piece rest held2 : List ℕ) (first second n : ℕ) → length rest + first ≡ length piece → length held1 ≤ n → second ≡ min (n - length held1)
    (length rest) → held2 ≡ held1 ++ take second rest → length held2 ≡ length held1 + second
    → head_of held1 ≡ Ok (Some n) → IsPartial held2 → first + second ≡ length piece
all_taken held1 piece rest held2 first second n r le s w l e p =
    let e2 = ap head_of w ∙ head_more held1 (take second rest) n e in
    elim p [
      | inl h ↦ absurd (no_size held2 n h e2)
      | inr h ↦ (let same = one_size held2 h.0 n h.1 e2 in let lt = h.2 in omega (arith, same, lt))
    ]

pub second_len : (held1 rest held2 : List ℕ) (second n k : ℕ) → length held1 ≤ n → second ≡ min (n - length held1) (length rest) → held2 ≡ held1 ++
    take second rest → length held2 ≡ length held1 + second
    → head_of held1 ≡ Ok (Some n) → head_of held2 ≡ Ok (Some k) → length held2 ≤ k
second_len held1 rest held2 second n k le s w l e h =
    let e2 = ap head_of w ∙ head_more held1 (take second rest) n e in
    omega (arith, one_size held2 k n h e2)

pub both_taken : (held piece held1 rest held2 : List ℕ) (first second : ℕ) → held1 ≡ held ++ take first piece → rest ≡ drop first piece → held2 ≡ held1 ++
    take second rest → held2 ≡ held ++ take (first + second) piece
both_taken held piece held1 rest held2 first second a r b =
    b ∙ ap (λ (x : List ℕ). x ++ take second rest) a ∙ append_assoc held (take first piece) (take second rest)
    ∙ ap (λ (x : List ℕ). held ++ (take first piece ++ take second x)) r ∙ ap (λ (x : List ℕ). held ++ x) (sym (take-add first second piece))
