-- Steps of the digits.
use Rattle.std.proofs.Common.{◌≡◌, ℕ, zero, suc, ◌+◌, ◌-◌, ◌*◌, ◌/◌, ◌%◌, ◌^◌, ◌<◌, ◌≤◌, List, [], ◌∷◌, ◌++◌, length, get_or, set, take, drop, refl, ap, subst}
use Rattle.std.proofs.Common.{Bool, true, ◌&&◌, T, eqb, eqb→eq, sym, ◌∙◌, arith, add-one, inl, inr, length-append, length-set, append_assoc}
use Rattle.std.specs.Prelude.{decimal}
use Rattle.std.proofs.lemmas.Bool.{cases_lt}
use Rattle.std.proofs.lemmas.Bool.Decides.{nat_tests}
use Rattle.std.proofs.lemmas.Grind.{common_steps}
use Rattle.std.proofs.Math.Nat.{pow-le-pow_right}
use Rattle.std.proofs.lemmas.Fmt.{decimal_step, decimal_digit, decimal_by_steps, first_decimal, length-decimal-le, decimal_nonempty}
use Rattle.std.proofs.lemmas.List.{set_comm, drop-set}
use lib.Ieee.Fits.{and_l, and_r}
use Rattle.ft_types.specs.declared.text.TheConstants.{PAIRS}
use Rattle.ft_types.specs.Text.{hex, hex_digit, word, IsWord, IsNumber}

pub hex_step : (k v d : ℕ) → d < 16 → hex (suc k) (v * 16 + d) ≡ hex k v ++ hex_digit d ∷ []
unfolding hex
hex_step k v d h =
    let e : (v * 16 + d) / 16 ≡ v = omega arith in
    let f : (v * 16 + d) % 16 ≡ d = omega arith in
    rw (e, f) refl

pub hex_length : (k n : ℕ) → length (hex k n) ≡ k
unfolding hex
hex_length zero n = refl
hex_length (suc k) n = omega (arith, length-append (hex k (n / 16)) (hex_digit (n % 16) ∷ []), hex_length k (n / 16))

pub hex_at : (k n i : ℕ) → i < k → (d : ℕ) × (d < 16) × (get_or (hex k n) i 0 ≡ hex_digit d)
unfolding hex
hex_at zero n i h = absurd (omega arith)
hex_at (suc k) n i h =
    elim (cases_lt i k) [
      | inl lt ↦
          let p = hex_at k (n / 16) i lt in
          (p.0, p.1, grind (arith, common_steps, hex_length k (n / 16)) ∙ p.2)
      | inr le ↦ (n % 16, omega arith, grind (arith, common_steps, hex_length k (n / 16)))
    ]

pub word_length : (w : ℕ) → length (word w) ≡ 8
unfolding word
word_length w = hex_length 8 w

last_same : (xs ys : List ℕ) (x y : ℕ) → length xs ≡ length ys → xs ++ x ∷ [] ≡ ys ++ y ∷ [] → (xs ≡ ys) × (x ≡ y)
last_same [] [] x y l e = (refl, cc)
last_same [] (b ∷ bs) x y l e = absurd (omega arith)
last_same (a ∷ us) [] x y l e = absurd (omega arith)
last_same (a ∷ us) (b ∷ bs) x y l e =
    let heads : a ≡ b = cc in
    let tails : us ++ x ∷ [] ≡ bs ++ y ∷ [] = cc in
    let r = last_same us bs x y (omega arith) tails in
    (rw (heads, r.0) refl, r.1)

digit_same : (d e : ℕ) → d < 16 → e < 16 → hex_digit d ≡ hex_digit e → d ≡ e
digit_same d e p q h = grind (arith, nat_tests)

hex_same : (k m n : ℕ) → m < 16 ^ k → n < 16 ^ k → hex k m ≡ hex k n → m ≡ n
unfolding hex
hex_same zero m n p q e = omega arith
hex_same (suc k) m n p q e =
    let r = last_same (hex k (m / 16)) (hex k (n / 16)) (hex_digit (m % 16)) (hex_digit (n % 16))
    (omega (arith, hex_length k (m / 16), hex_length k (n / 16))) e in
    let low : m % 16 ≡ n % 16 = digit_same (m % 16) (n % 16) (omega arith) (omega arith) r.1 in
    let high : m / 16 ≡ n / 16 = hex_same k (m / 16) (n / 16) (omega arith) (omega arith) r.0 in
    omega arith

-- two words of one spelling are one
pub word_same : (w v : ℕ) → w < 2 ^ 32 → v < 2 ^ 32 → word w ≡ word v → w ≡ v
unfolding word
word_same w v p q e = hex_same 8 w v (omega arith) (omega arith) e

pub word_at : (w i : ℕ) → i < 8 → (d : ℕ) × (d < 16) × (get_or (word w) i 0 ≡ hex_digit d)
unfolding word
word_at w i h = hex_at 8 w i h

pub pow16_le : (i : ℕ) → i < 8 → 16 ^ i ≤ 16 ^ 7
pow16_le i h = pow-le-pow_right {n = 16} (omega arith) {i = i} {j = 7} (omega arith)

pub pow10_le : (i : ℕ) → i < 15 → 10 ^ i ≤ 10 ^ 14
pow10_le i h = pow-le-pow_right {n = 10} (omega arith) {i = i} {j = 14} (omega arith)

-- a digit goes on
pub decimal_more : (v d : ℕ) → 0 < v → d < 10 → v < 10 ^ 14 → decimal (v * 10 + d) ≡ decimal v ++ (48 + d) ∷ []
decimal_more v d p h small =
    let e : (v * 10 + d) / 10 ≡ v = omega arith in
    let f : (v * 10 + d) % 10 ≡ d = omega arith in
    decimal_step (v * 10 + d) (omega arith) (omega arith) ∙ rw (e, f) refl

AreDigits : List ℕ → Type 0
AreDigits ds = (j : ℕ) → j < length ds → (48 ≤ get_or ds j 0) × (get_or ds j 0 ≤ 57)

one_digit : (n : ℕ) → n < 10 → AreDigits ((48 + n) ∷ [])
unfolding AreDigits
one_digit n h zero l = (omega arith, omega arith)
one_digit n h (suc j) l = absurd (omega arith)

more_digits : (n : ℕ) (ds : List ℕ) → 10 ≤ n → AreDigits ds → AreDigits (ds ++ (48 + n % 10) ∷ [])
unfolding AreDigits
more_digits n ds h all j l =
    elim (cases_lt j (length ds)) [
      | inl lt ↦
          let e : get_or (ds ++ (48 + n % 10) ∷ []) j 0 ≡ get_or ds j 0 = grind (arith, common_steps) in
          rw e (all j lt)
      | inr le ↦
          let e : get_or (ds ++ (48 + n % 10) ∷ []) j 0 ≡ 48 + n % 10 = grind (arith, common_steps, length-append ds ((48 + n % 10) ∷ [])) in
          rw e (omega arith, omega arith)
    ]

pub decimal_in_range : (n i : ℕ) → n < 10 ^ 15 → i < length (decimal n) → (48 ≤ get_or (decimal n) i 0) × (get_or (decimal n) i 0 ≤ 57)
unfolding AreDigits
decimal_in_range n i small h = decimal_by_steps (λ m ds. AreDigits ds) one_digit more_digits n (omega arith) i h

pub decimal_size : (n : ℕ) → n < 10 ^ 15 → (0 < length (decimal n)) × (length (decimal n) ≤ 15)
decimal_size n h = (decimal_nonempty n (omega arith), length-decimal-le 15 n (omega arith) h (omega arith))

-- a number of several digits doesn't begin with 0
pub decimal_first : (n : ℕ) → n < 10 ^ 15 → 1 < length (decimal n) → get_or (decimal n) 0 0 ≡ 48 → ⊥
decimal_first zero h l e = omega (arith, ap length (decimal_digit 0 (omega arith)))
decimal_first (suc n) h l e = omega (arith, first_decimal (suc n) (omega arith) (omega arith))

-- ---- reading a word

abbrev pub WordSoFar : List ℕ → ℕ → ℕ → Type 0
WordSoFar text i v = (v < 16 ^ i) × (take i text ≡ hex i v)

pub word_begins : (text : List ℕ) → WordSoFar text 0 0
unfolding hex
word_begins text = (omega arith, refl)

pub word_goes_on : (text : List ℕ) (i v d : ℕ) → i < length text → d < 16 → get_or text i 0 ≡ hex_digit d → WordSoFar text i v → WordSoFar text (i + 1)
    (v * 16 + d)
word_goes_on text i v d h small is p =
    let more : take (i + 1) text ≡ take i text ++ get_or text i 0 ∷ [] = grind (arith, common_steps) in
    (rw (add-one) (omega (arith, p.0)), rw more (rw (p.1, is, add-one) (sym (hex_step i v d small))))

pub word_is_read : (text : List ℕ) (v i : ℕ) → length text ≡ 8 → i ≡ 8 → WordSoFar text i v → IsWord text v
unfolding word
word_is_read text v i e at q =
    let P : ℕ → Type 0 = λ j. WordSoFar text j v in
    let p : WordSoFar text 8 v = subst P at q in
    let all : take 8 text ≡ text = grind (arith, common_steps) in (p.0, sym all ∙ p.1)

pub not_word_length : (text : List ℕ) → (length text ≡ 8 → ⊥) → (w : ℕ) → IsWord text w → ⊥
not_word_length text h w p = h (ap length p.1 ∙ word_length w)

pub not_word_digit : (text : List ℕ) (i : ℕ) → i < 8 → ((d : ℕ) → d < 16 → get_or text i 0 ≡ hex_digit d → ⊥) → (w : ℕ) → IsWord text w → ⊥
not_word_digit text i small h w p = let q = word_at w i small in h q.0 q.1 (ap (λ (t : List ℕ). get_or t i 0) p.1 ∙ q.2)

pub word_fits : (i v d : ℕ) → i < 8 → v < 16 ^ i → d < 16 → v * 16 + d < 2 ^ 32
word_fits i v d h p small = omega (arith, pow16_le i h)

-- ---- reading a number

abbrev pub NumberSoFar : List ℕ → ℕ → ℕ → Type 0
NumberSoFar text i v = (v < 10 ^ i) × (0 < i → take i text ≡ decimal v) × (0 < i → 1 < length text → 0 < v)

pub number_fits : (i v d : ℕ) → i < 15 → v < 10 ^ i → d < 10 → v * 10 + d < 10 ^ 15
number_fits i v d h p small = omega (arith, pow10_le i h)

number_first : (text : List ℕ) (v d : ℕ) → 0 < length text → d < 10 → get_or text 0 0 ≡ 48 + d → (1 < length text → get_or text 0 0 ≡ 48 → ⊥) →
    NumberSoFar text 0 v → NumberSoFar text 1 (v * 10 + d)
number_first text v d h small is apart p =
    let z : v ≡ 0 = omega (arith, p.0) in
    let e : v * 10 + d ≡ d = omega arith in
    let one : take 1 text ≡ get_or text 0 0 ∷ [] = grind (arith, common_steps) in
    rw e (
      omega arith,
      λ _. rw (one, is) (sym (decimal_digit d small)),
      λ _ several. elim (cases_lt 0 d) [
        | inl lt ↦ lt
        | inr le ↦ absurd
            (apart several (omega arith))
      ],
    )

number_next : (text : List ℕ) (i v d : ℕ) → suc i < length text → length text ≤ 15 → d < 10 → get_or text (suc i) 0 ≡ 48 + d → NumberSoFar text (suc i) v →
    NumberSoFar text (suc i + 1) (v * 10 + d)
number_next text i v d h size small is p =
    let more : take (suc i + 1) text ≡ take (suc i) text ++ get_or text (suc i) 0 ∷ [] = grind (arith, common_steps) in
    let before : take (suc i) text ≡ decimal v = p.1 (omega arith) in
    let positive : 0 < v = p.2 (omega arith) (omega arith) in
    let bound : v < 10 ^ 14 = omega (arith, p.0, pow10_le (suc i) (omega arith)) in
    (rw (add-one) (omega (arith, p.0)), λ _. rw more (rw (before, is) (sym (decimal_more v d positive small bound))), λ _ _. omega arith)

pub number_goes_on : (text : List ℕ) (i v d : ℕ) → i < length text → length text ≤ 15 → d < 10 → get_or text i 0 ≡ 48 + d →
    (1 < length text → get_or text 0 0 ≡ 48 → ⊥) → NumberSoFar text i v → NumberSoFar text (i + 1) (v * 10 + d)
number_goes_on text zero v d h size small is apart p = number_first text v d h small is apart p
number_goes_on text (suc i) v d h size small is apart p = number_next text i v d h size small is p

pub number_is_read : (text : List ℕ) (v i : ℕ) → 0 < length text → length text ≤ 15 → i ≡ length text → NumberSoFar text i v → IsNumber text v
number_is_read text v i some size e p =
    let all : take i text ≡ text = grind (arith, common_steps) in
    (omega (arith, p.0, pow-le-pow_right {n = 10} (omega arith) {i = i} {j = 15} (omega arith)), sym all ∙ p.1 (omega arith))

pub not_number_empty : (text : List ℕ) → length text ≡ 0 → (n : ℕ) → IsNumber text n → ⊥
not_number_empty text e n p = omega (arith, ap length p.1, (decimal_size n p.0).0)

pub not_number_long : (text : List ℕ) → 15 < length text → (n : ℕ) → IsNumber text n → ⊥
not_number_long text h n p = omega (arith, ap length p.1, (decimal_size n p.0).1)

pub not_number_zero : (text : List ℕ) → 1 < length text → get_or text 0 0 ≡ 48 → (n : ℕ) → IsNumber text n → ⊥
not_number_zero text h e n p = decimal_first n p.0 (omega (arith, ap length p.1)) (sym (ap (λ (t : List ℕ). get_or t 0 0) p.1) ∙ e)

pub not_number_digit : (text : List ℕ) (i : ℕ) → i < length text → ((d : ℕ) → d < 10 → get_or text i 0 ≡ 48 + d → ⊥) → (n : ℕ) → IsNumber text n → ⊥
not_number_digit text i h none n p =
    let q = decimal_in_range n i p.0 (omega (arith, ap length p.1)) in
    let same : get_or text i 0 ≡ get_or (decimal n) i 0 = ap (λ (t : List ℕ). get_or t i 0) p.1 in
    let low : 48 ≤ get_or (decimal n) i 0 = q.0 in
    let high : get_or (decimal n) i 0 ≤ 57 = q.1 in
    none (get_or (decimal n) i 0 - 48) (omega arith) (omega arith)

-- ---- writing a word

-- whether a table has both digits of each number below another one, by a base
unfoldable pub are_pairs : List ℕ → ℕ → (ℕ → ℕ) → ℕ → Bool
are_pairs table base digit zero = true
are_pairs table base digit (suc p) = (eqb (get_or table (p * 2) 0) (digit (p / base)) && eqb (get_or table (p * 2 + 1) 0) (digit (p % base))) && are_pairs table base digit p

pub pairs_below : (table : List ℕ) (base : ℕ) (digit : ℕ → ℕ) (n p : ℕ) → T (are_pairs table base digit n) → p < n →
    (get_or table (p * 2) 0 ≡ digit (p / base)) × (get_or table (p * 2 + 1) 0 ≡ digit (p % base))
unfolding are_pairs
pairs_below table base digit zero p t h = absurd (omega arith)
pairs_below table base digit (suc n) p t h =
    elim (cases_lt p n) [
      | inl lt ↦ pairs_below table base digit n p (and_r _ (are_pairs table base digit n) t) lt
      | inr le ↦
          let e : p ≡ n = omega arith in
          let a = and_l _ (are_pairs table base digit n) t in
          rw e (eqb→eq _ _ (and_l _ _ a), eqb→eq _ _ (and_r _ _ a))
    ]

-- the table's two digits of a byte
pub pairs_at : (p : ℕ) → p < 256 → (get_or PAIRS (p * 2) 0 ≡ hex_digit (p / 16)) × (get_or PAIRS (p * 2 + 1) 0 ≡ hex_digit (p % 16))
unfolding are_pairs
pairs_at p h = pairs_below PAIRS 16 hex_digit 256 p tt h

-- the two digits of a byte
abbrev pub pair : ℕ → List ℕ
pair b = hex_digit (b / 16) ∷ hex_digit (b % 16) ∷ []

hex_pair : (k n : ℕ) → hex (suc (suc k)) n ≡ hex k (n / 256) ++ pair (n % 256)
unfolding hex
hex_pair k n =
    let a : n / 16 / 16 ≡ n / 256 = omega arith in
    let b : n / 16 % 16 ≡ n % 256 / 16 = omega arith in
    let c : n % 16 ≡ n % 256 % 16 = omega arith in
    rw (append_assoc, a, b, ← c) refl

-- a word is the pairs of its bytes
pub word_pairs : (w : ℕ) → w < 2 ^ 32 →
    word w ≡ pair (w / 0x1000000) ++ (pair (w / 0x10000 % 256) ++ (pair (w / 256 % 256) ++ pair (w % 256)))
unfolding word hex
word_pairs w h =
    let a : w / 256 / 256 ≡ w / 0x10000 = omega arith in
    let b : w / 256 / 256 / 256 ≡ w / 0x1000000 = omega arith in
    let c : w / 256 / 256 / 256 % 256 ≡ w / 0x1000000 = omega arith in
    hex_pair 6 w
    ∙ ap (λ (t : List ℕ). t ++ pair (w % 256)) (
    hex_pair 4 (w / 256)
    ∙ ap (λ (t : List ℕ). t ++ pair (w / 256 % 256)) (
    hex_pair 2 (w / 256 / 256)
    ∙ ap (λ (t : List ℕ). t ++ pair (w / 256 / 256 % 256)) (hex_pair 0 (w / 256 / 256 / 256))
    )
    )
    ∙ rw (c, a) refl

-- two bytes that are put at a place
pub two_put : (bytes : List ℕ) (at next end a b : ℕ) → next ≡ at + 1 → end ≡ at + 2 → end ≤ length bytes →
    drop at (set (set bytes at a) next b) ≡ a ∷ b ∷ drop end bytes
two_put bytes at next end a b n e h =
    let f : at + 1 + 1 ≡ at + 2 = omega arith in
    rw (
      n,
      e,
      set_comm bytes at (at + 1) a b (λ x. omega arith),
      drop-set (set bytes (at + 1) b) at a (omega (arith, length-set bytes (at + 1) b)),
      drop-set bytes (at + 1) b (omega arith),
      f,
    ) refl
