-- Flags in the bits of one number.
use Rattle.std.proofs.Common.{◌≡◌, ◌≢◌, ◌⊎◌, ◌↔◌, ℕ, zero, suc, ◌*◌, ◌/◌, ◌%◌, ◌^◌, ◌<◌, max, not, nat_eq, Bool, true, false, IsTrue, refl, sym, ap, subst, ◌∙◌, inl, inr, arith}
use Rattle.std.proofs.Common.{bit_and, bit_or, true≢false, pow_pos, pos_of_ne-zero, zero-mul, one-mul, w32, List, length, count_by}
use Rattle.std.proofs.Common.{slice_index_or, slice_set, length-set, get_or-set_same, get_or-set_other}
use mir.Val.{bits}
use Rattle.std.specs.Int.{Width, bit_at, bit_not, trailing_zeros}
use Rattle.std.proofs.lemmas.Bool.{cases_eq, cases_Bool, eqb-true, eq-eqb, eqb-false, ne_eqb, not-true, not_from_false}
use Rattle.std.proofs.lemmas.List.{get_or_default}
use Rattle.std.proofs.lemmas.Nat.{one_shl}
use Rattle.std.proofs.Math.Pow.{pow-lt}
use Rattle.std.proofs.lemmas.Nat.Bits.{bit_at_lowest, bit_at-suc, bit_at-zero, bit_at_and, bit_at_or, bit_at-lt, bit_at-pow_same, bit_at-pow_other, and_pow, bit_at_not, bit_at-trailing_zeros}
use Rattle.ft_types.specs.Sets.{IsMember}
use Rattle.ft_types.specs.machinery.Flags.{flags_of, length-flags_of, IsBitAt}
use Rattle.ft_types.proofs.Zips.{all_equal}
use Rattle.ft_types.proofs.Flags.{none_counted, counted_none}

-- a flag is set where its bit is
pub flag_bit : (k n i : ℕ) → IsMember (flags_of k n) i → (i < k) × (bit_at n i ≡ 1)
unfolding flags_of
flag_bit zero n i is = absurd (true≢false (sym is))
flag_bit (suc k) n zero is = (omega arith, bit_at_lowest n ∙ eqb-true (n % 2) 1 is)
flag_bit (suc k) n (suc i) is = let h = flag_bit k (n / 2) i is in (omega (arith, h.0), bit_at-suc n i ∙ h.1)

pub bit_flag : (k n i : ℕ) → i < k → bit_at n i ≡ 1 → IsMember (flags_of k n) i
unfolding flags_of
bit_flag zero n i within set = absurd (omega arith)
bit_flag (suc k) n zero within set = eq-eqb (n % 2) 1 (sym (bit_at_lowest n) ∙ set)
bit_flag (suc k) n (suc i) within set = bit_flag k (n / 2) i (omega arith) (sym (bit_at-suc n i) ∙ set)

-- the greater of two digits is 1, so one of them is
one_of_two : (x y : ℕ) → max x y ≡ 1 → (x ≡ 1) ⊎ (y ≡ 1)
one_of_two zero y one = inr (omega arith)
one_of_two (suc zero) y one = inl refl
one_of_two (suc (suc x)) y one = absurd (omega arith)

module _ (w : Width) where
  abbrev pub Flag : ℕ → ℕ → Type 0
  Flag n i = IsMember (flags_of (bits w) n) i

  -- no flag is set in 0
  pub no_flag : (i : ℕ) → Flag 0 i → ⊥
  no_flag i is = let h = flag_bit (bits w) 0 i is in omega (arith, h.1, bit_at-zero i)

  -- in a number with one bit, that flag alone
  pub flag_of_one : (page i : ℕ) → page < bits w → Flag (2 ^ page) i ↔ (i ≡ page)
  flag_of_one page i within = (only, there)
    where
      only : Flag (2 ^ page) i → i ≡ page
      only is = elim (cases_eq i page) [
        | inl same ↦ same
        | inr apart ↦ let h = flag_bit (bits w) (2 ^ page) i is in omega (arith, h.1, bit_at-pow_other page i apart)
      ]

      there : i ≡ page → Flag (2 ^ page) i
      there same = rw same (bit_flag (bits w) (2 ^ page) page within (bit_at-pow_same page))

  pub flag_or : (a b i : ℕ) → Flag (bit_or a b) i ↔ (Flag a i ⊎ Flag b i)
  flag_or a b i = (parts, whole)
    where
      parts : Flag (bit_or a b) i → Flag a i ⊎ Flag b i
      parts is =
          let h = flag_bit (bits w) (bit_or a b) i is in
          elim (one_of_two (bit_at a i) (bit_at b i) (sym (bit_at_or a b i) ∙ h.1)) [
            | inl set ↦ inl (bit_flag (bits w) a i h.0 set)
            | inr set ↦ inr (bit_flag (bits w) b i h.0 set)
          ]

      whole : Flag a i ⊎ Flag b i → Flag (bit_or a b) i
      whole (inl is) =
          let h = flag_bit (bits w) a i is in bit_flag (bits w) (bit_or a b) i h.0 (omega (arith, h.1, bit_at_or a b i, bit_at-lt b i))
      whole (inr is) =
          let h = flag_bit (bits w) b i is in bit_flag (bits w) (bit_or a b) i h.0 (omega (arith, h.1, bit_at_or a b i, bit_at-lt a i))

  pub flag_and : (a b i : ℕ) → Flag (bit_and a b) i ↔ (Flag a i × Flag b i)
  flag_and a b i = (parts, whole)
    where
      parts : Flag (bit_and a b) i → Flag a i × Flag b i
      parts is =
          let h = flag_bit (bits w) (bit_and a b) i is in (
            bit_flag (bits w) a i h.0 (omega (arith, h.1, bit_at_and a b i, bit_at-lt a i)),
            bit_flag (bits w) b i h.0 (omega (arith, h.1, bit_at_and a b i, bit_at-lt b i)),
          )

      whole : Flag a i × Flag b i → Flag (bit_and a b) i
      whole is =
          let h = flag_bit (bits w) a i is.0 in
          let g = flag_bit (bits w) b i is.1 in
          bit_flag (bits w) (bit_and a b) i h.0 (omega (arith, h.1, g.1, bit_at_and a b i))

  -- the flags that are not set
  pub flag_not : (n i : ℕ) → n < 2 ^ bits w → i < bits w → Flag (bit_not w n) i ↔ ¬ (Flag n i)
  flag_not n i fits within = (apart, rest)
    where
      apart : Flag (bit_not w n) i → Flag n i → ⊥
      apart is set =
          let h = flag_bit (bits w) (bit_not w n) i is in
          let g = flag_bit (bits w) n i set in
          omega (arith, h.1, g.1, bit_at_not w n i fits within)

      rest : (Flag n i → ⊥) → Flag (bit_not w n) i
      rest unset = elim (cases_eq (bit_at n i) 1) [
        | inl set ↦ absurd (unset (bit_flag (bits w) n i within set))
        | inr clear ↦ bit_flag (bits w) (bit_not w n) i within (omega (arith, bit_at_not w n i fits within, bit_at-lt n i))
      ]

  -- a number is not 0 exactly where a flag is set
  pub some_flag : (n : ℕ) → n < 2 ^ bits w → IsTrue (not (nat_eq n 0)) ↔ ((i : ℕ) × Flag n i)
  some_flag n fits = (found, nonzero)
    where
      found : IsTrue (not (nat_eq n 0)) → (i : ℕ) × Flag n i
      found is =
          let apart = eqb-false n 0 (not-true (nat_eq n 0) is) in
          let h = bit_at-trailing_zeros w n (pos_of_ne-zero apart) fits in
          (trailing_zeros w n, bit_flag (bits w) n (trailing_zeros w n) h.0 h.1)

      nonzero : ((i : ℕ) × Flag n i) → IsTrue (not (nat_eq n 0))
      nonzero is = not_from_false (nat_eq n 0) (ne_eqb n 0 (λ e. no_flag is.0 (subst (λ m. Flag m is.0) e is.1)))

  -- what a test of one bit says of its flag
  module _ (n page bit : ℕ) (within : page < bits w) (is : bit ≡ 2 ^ page) where
    masked : bit_and n bit ≡ bit_at n page * 2 ^ page
    masked = ap (bit_and n) is ∙ and_pow n page

    pub set_flag : bit_and n bit ≢ 0 → Flag n page
    set_flag some = elim (cases_eq (bit_at n page) 1) [
      | inl set ↦ bit_flag (bits w) n page within set
      | inr clear ↦
          let unset : bit_at n page ≡ 0 = omega (arith, bit_at-lt n page) in
          absurd (some (masked ∙ ap (λ digit. digit * 2 ^ page) unset ∙ zero-mul (2 ^ page)))
    ]

    pub unset_flag : bit_and n bit ≡ 0 → Flag n page → ⊥
    unset_flag none has =
        let set = (flag_bit (bits w) n page has).1 in
        let empty : 2 ^ page ≡ 0 = sym (one-mul (2 ^ page)) ∙ ap (λ digit. digit * 2 ^ page) (sym set) ∙ sym masked ∙ none in
        omega (arith, pow_pos page)

-- ---- sets of harts

-- the bit of a hart, as `1u32.wrapping_shl` gives it
pub bit_of_hart : {number shift hart bit : ℕ} → number ≡ hart → shift ≡ number → hart < 32 → bit ≡ 1 * 2 ^ (shift % 32) % 2 ^ 32 → IsBitAt 32 hart bit
bit_of_hart {number} {shift} {hart} same shifted within is =
    let low : shift % 32 ≡ hart = omega (arith, same, shifted, within) in
    record { within = within; is = is ∙ ap (λ (n : ℕ). 1 * 2 ^ n % 2 ^ 32) low ∙ one_shl hart 32 within }

-- flags that are set in the same places
same_flag : (a b : Bool) → (a ≡ true → b ≡ true) → (b ≡ true → a ≡ true) → a ≡ b
same_flag true b there back = sym (there refl)
same_flag false true there back = back refl
same_flag false false there back = refl

-- its bit in addition sets a hart's flag alone
pub flag_added : (n hart bit : ℕ) → IsBitAt 32 hart bit → flags_of 32 (bit_or n bit) ≡ slice_set (flags_of 32 n) hart true
flag_added n hart bit one =
    all_equal new set (many ∙ sym (length-set old hart true ∙ length-flags_of 32 n)) at
  where
    old : List Bool
    old = flags_of 32 n

    new : List Bool
    new = flags_of 32 (bit_or n bit)

    set : List Bool
    set = slice_set old hart true

    many : length new ≡ 32
    many = length-flags_of 32 (bit_or n bit)

    long : hart < length old
    long = omega (arith, length-flags_of 32 n, one.within)

    own : IsMember (flags_of 32 bit) hart
    own = subst (λ (m : ℕ). IsMember (flags_of 32 m) hart) (sym one.is) ((flag_of_one w32 hart hart one.within).1 refl)

    other : (i : ℕ) → i ≢ hart → IsMember new i → IsMember old i
    other i apart is = elim ((flag_or w32 n bit i).0 is) [
      | inl had ↦ had
      | inr its ↦ absurd (apart ((flag_of_one w32 hart i one.within).0 (subst (λ (m : ℕ). IsMember (flags_of 32 m) i) one.is its)))
    ]

    unset : (i : ℕ) → slice_index_or new i false ≡ slice_index_or set i false
    unset i = elim (cases_eq i hart) [
      | inl same ↦
          subst (λ (k : ℕ). slice_index_or new k false ≡ slice_index_or set k false) (sym same)
          ((flag_or w32 n bit hart).1 (inr own) ∙ sym (get_or-set_same old hart true false long))
      | inr apart ↦
          same_flag (slice_index_or new i false) (slice_index_or old i false) (other i apart) (λ had. (flag_or w32 n bit i).1 (inl had))
          ∙ sym (get_or-set_other old hart i true false apart)
    ]

    at : (i : ℕ) (d : Bool) → i < length new → slice_index_or new i d ≡ slice_index_or set i d
    at i d lt =
        get_or_default new i d false lt ∙ unset i
        ∙ sym (get_or_default set i d false (omega (arith, lt, many, length-set old hart true, length-flags_of 32 n)))

-- without its bit the others are left
pub flag_removed : (n hart bit : ℕ) → n < 2 ^ 32 → IsBitAt 32 hart bit → (i : ℕ) →
    IsMember (flags_of 32 (bit_and n (bit_not w32 bit))) i ↔ ((i ≢ hart) × IsMember (flags_of 32 n) i)
flag_removed n hart bit fits one i = (parts, whole)
  where
    small : bit < 2 ^ 32
    small = rw one.is (pow-lt one.within)

    parts : IsMember (flags_of 32 (bit_and n (bit_not w32 bit))) i → (i ≢ hart) × IsMember (flags_of 32 n) i
    parts is =
        let both = (flag_and w32 n (bit_not w32 bit) i).0 is in
        let within = (flag_bit 32 n i both.0).0 in (
          λ same. (flag_not w32 bit i small within).0 both.1
              (subst (λ (m : ℕ). IsMember (flags_of 32 m) i) (sym one.is) ((flag_of_one w32 hart i one.within).1 same)),
          both.0,
        )

    whole : (i ≢ hart) × IsMember (flags_of 32 n) i → IsMember (flags_of 32 (bit_and n (bit_not w32 bit))) i
    whole (apart, has) =
        let within = (flag_bit 32 n i has).0 in
        (flag_and w32 n (bit_not w32 bit) i).1 (
          has,
          (flag_not w32 bit i small within).1
              (λ its. apart ((flag_of_one w32 hart i one.within).0 (subst (λ (m : ℕ). IsMember (flags_of 32 m) i) one.is its))),
        )

-- what a test of its bit says of a hart
pub hart_tested : (n hart bit : ℕ) → IsBitAt 32 hart bit → IsTrue (not (nat_eq (bit_and n bit) 0)) ↔ IsMember (flags_of 32 n) hart
hart_tested n hart bit one = (
  λ is. set_flag w32 n hart bit one.within one.is (eqb-false (bit_and n bit) 0 (not-true (nat_eq (bit_and n bit) 0) is)),
  λ has. not_from_false (nat_eq (bit_and n bit) 0) (ne_eqb (bit_and n bit) 0 (λ none. unset_flag w32 n hart bit one.within one.is none has)),
)

-- a word is 0 exactly where no flag is set
pub none_set : (n : ℕ) → n < 2 ^ 32 → IsTrue (nat_eq n 0) ↔ ((i : ℕ) → IsMember (flags_of 32 n) i → ⊥)
none_set n fits = (
  λ zero_is i has. no_flag w32 i (subst (λ (m : ℕ). IsMember (flags_of 32 m) i) (eqb-true n 0 zero_is) has),
  λ none. elim (cases_eq n 0) [
    | inl zero_is ↦ eq-eqb n 0 zero_is
    | inr some ↦ let found = (some_flag w32 n fits).0 (not_from_false (nat_eq n 0) (ne_eqb n 0 some)) in absurd (none found.0 found.1)
  ],
)

-- and exactly where none is counted
pub none_in_set : (n : ℕ) → n < 2 ^ 32 → IsTrue (nat_eq n 0) ↔ (count_by (λ member. member) (flags_of 32 n) ≡ 0)
none_in_set n fits = (
  λ zero_is. none_counted (flags_of 32 n) ((none_set n fits).0 zero_is),
  λ none. (none_set n fits).1 (counted_none (flags_of 32 n) none),
)
