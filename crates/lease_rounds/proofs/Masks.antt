-- Words whose bits are flags of pages: those to be read, and those to be written.
use Rattle.std.proofs.Common.{◌≡◌, ◌≢◌, ◌⊎◌, ◌↔◌, ℕ, zero, suc, ◌+◌, ◌-◌, ◌*◌, ◌/◌, ◌%◌, ◌^◌, ◌<◌, ◌≤◌, max, not, nat_eq, IsTrue, refl, sym, ap, subst, ◌∙◌, inl, inr, arith}
use Rattle.std.proofs.Common.{bit_and, bit_or, true≢false, false, pow_pos, pos_of_ne-zero, zero-mul, one-mul, w64, List, [], ◌∷◌, ◌++◌, length, replicate}
use Rattle.std.proofs.Common.{slice_index, slice_index_or, slice_set, length-set, get_or-set_same, get_or-set_other}
use mir.Val.{bits}
use Rattle.std.specs.Int.{Width, bit_at, bit_not, trailing_zeros}
use Rattle.std.specs.List.{AllByRecursion}
use Rattle.std.proofs.Math.ListN.{get_or-append}
use Rattle.std.proofs.Math.Seq.{get_or-append_right}
use Rattle.std.proofs.lemmas.Bool.{cases_lt, cases_eq, cases_Bool, eqb-true, eq-eqb, eqb-false, ne_eqb, not-true, not_from_false}
use Rattle.std.proofs.lemmas.List.{get_or-replicate, get_or_past}
use Rattle.std.proofs.lemmas.Nat.{one_shl, or_lt, and_le_l}
use Rattle.std.proofs.Math.Pow.{pow-lt}
use Rattle.std.proofs.lemmas.Nat.Bits.{bit_at_lowest, bit_at-suc, bit_at-zero, bit_at_and, bit_at_or, bit_at-lt, bit_at-pow_same, bit_at-pow_other, and_pow, bit_at_not, bit_at-trailing_zeros}
use Rattle.ft_types.specs.Sets.{IsMember}
use Rattle.ft_types.specs.Counts.{zipped}
use Rattle.ft_types.proofs.Zips.{length-zipped}
use Rattle.ft_types.specs.declared.names.Want.{Want}
use Rattle.ft_types.specs.declared.names.Want.TheVariants.{Read, Write}
use Rattle.lease_rounds.specs.machinery.Flags.{flags_of, length-flags_of, flags_in, AreWords, left_of, IsBitOf}
use Rattle.lease_rounds.specs.Pages.{Pages, HasFor, Has, IsAgainst}

-- ---- flags of one number

-- a flag is set where its bit is
flag_bit : (k n i : ℕ) → IsMember (flags_of k n) i → (i < k) × (bit_at n i ≡ 1)
unfolding flags_of
flag_bit zero n i is = absurd (true≢false (sym is))
flag_bit (suc k) n zero is = (omega arith, bit_at_lowest n ∙ eqb-true (n % 2) 1 is)
flag_bit (suc k) n (suc i) is = let h = flag_bit k (n / 2) i is in (omega (arith, h.0), bit_at-suc n i ∙ h.1)

bit_flag : (k n i : ℕ) → i < k → bit_at n i ≡ 1 → IsMember (flags_of k n) i
unfolding flags_of
bit_flag zero n i within set = absurd (omega arith)
bit_flag (suc k) n zero within set = eq-eqb (n % 2) 1 (sym (bit_at_lowest n) ∙ set)
bit_flag (suc k) n (suc i) within set = bit_flag k (n / 2) i (omega arith) (sym (bit_at-suc n i) ∙ set)

-- the greater of two digits is 1, so one of them is
one_of_two : (x y : ℕ) → max x y ≡ 1 → (x ≡ 1) ⊎ (y ≡ 1)
one_of_two zero y one = inr (omega arith)
one_of_two (suc zero) y one = inl refl
one_of_two (suc (suc x)) y one = absurd (omega arith)

-- of its place in its word, as `1u64.wrapping_shl` gives it
pub bit_of : {number shift page bit : ℕ} → number ≡ page → shift ≡ number → bit ≡ 1 * 2 ^ (shift % 64) % 2 ^ 64 → IsBitOf (page % 64) bit
bit_of {number} {shift} {page} same shifted is =
    let low : shift % 64 ≡ page % 64 = ap (λ (n : ℕ). n % 64) (shifted ∙ same) in
    record { within = omega arith; is = is ∙ ap (λ (n : ℕ). 1 * 2 ^ n % 2 ^ 64) low ∙ one_shl (page % 64) 64 (omega arith) }

module _ (w : Width) where
  abbrev Flag : ℕ → ℕ → Type 0
  Flag n i = IsMember (flags_of (bits w) n) i

  -- no flag is set in 0
  no_flag : (i : ℕ) → Flag 0 i → ⊥
  no_flag i is = let h = flag_bit (bits w) 0 i is in omega (arith, h.1, bit_at-zero i)

  -- in a number with one bit, that flag alone
  flag_of_one : (page i : ℕ) → page < bits w → Flag (2 ^ page) i ↔ (i ≡ page)
  flag_of_one page i within = (only, there)
    where
      only : Flag (2 ^ page) i → i ≡ page
      only is = elim (cases_eq i page) [
        | inl same ↦ same
        | inr apart ↦ let h = flag_bit (bits w) (2 ^ page) i is in omega (arith, h.1, bit_at-pow_other page i apart)
      ]

      there : i ≡ page → Flag (2 ^ page) i
      there same = rw same (bit_flag (bits w) (2 ^ page) page within (bit_at-pow_same page))

  flag_or : (a b i : ℕ) → Flag (bit_or a b) i ↔ (Flag a i ⊎ Flag b i)
  flag_or a b i = (parts, whole)
    where
      parts : Flag (bit_or a b) i → Flag a i ⊎ Flag b i
      parts is =
          let h = flag_bit (bits w) (bit_or a b) i is in
          elim (one_of_two (bit_at a i) (bit_at b i) (sym (bit_at_or a b i) ∙ h.1)) [
            | inl set ↦ inl (bit_flag (bits w) a i h.0 set)
            | inr set ↦ inr (bit_flag (bits w) b i h.0 set)
          ]

      whole : Flag a i ⊎ Flag b i → Flag (bit_or a b) i
      whole (inl is) =
          let h = flag_bit (bits w) a i is in bit_flag (bits w) (bit_or a b) i h.0 (omega (arith, h.1, bit_at_or a b i, bit_at-lt b i))
      whole (inr is) =
          let h = flag_bit (bits w) b i is in bit_flag (bits w) (bit_or a b) i h.0 (omega (arith, h.1, bit_at_or a b i, bit_at-lt a i))

  flag_and : (a b i : ℕ) → Flag (bit_and a b) i ↔ (Flag a i × Flag b i)
  flag_and a b i = (parts, whole)
    where
      parts : Flag (bit_and a b) i → Flag a i × Flag b i
      parts is =
          let h = flag_bit (bits w) (bit_and a b) i is in (
            bit_flag (bits w) a i h.0 (omega (arith, h.1, bit_at_and a b i, bit_at-lt a i)),
            bit_flag (bits w) b i h.0 (omega (arith, h.1, bit_at_and a b i, bit_at-lt b i)),
          )

      whole : Flag a i × Flag b i → Flag (bit_and a b) i
      whole is =
          let h = flag_bit (bits w) a i is.0 in
          let g = flag_bit (bits w) b i is.1 in
          bit_flag (bits w) (bit_and a b) i h.0 (omega (arith, h.1, g.1, bit_at_and a b i))

  -- the flags that are not set
  flag_not : (n i : ℕ) → n < 2 ^ bits w → i < bits w → Flag (bit_not w n) i ↔ ¬ (Flag n i)
  flag_not n i fits within = (apart, rest)
    where
      apart : Flag (bit_not w n) i → Flag n i → ⊥
      apart is set =
          let h = flag_bit (bits w) (bit_not w n) i is in
          let g = flag_bit (bits w) n i set in
          omega (arith, h.1, g.1, bit_at_not w n i fits within)

      rest : (Flag n i → ⊥) → Flag (bit_not w n) i
      rest unset = elim (cases_eq (bit_at n i) 1) [
        | inl set ↦ absurd (unset (bit_flag (bits w) n i within set))
        | inr clear ↦ bit_flag (bits w) (bit_not w n) i within (omega (arith, bit_at_not w n i fits within, bit_at-lt n i))
      ]

  -- a number is not 0 exactly where a flag is set
  some_flag : (n : ℕ) → n < 2 ^ bits w → IsTrue (not (nat_eq n 0)) ↔ ((i : ℕ) × Flag n i)
  some_flag n fits = (found, nonzero)
    where
      found : IsTrue (not (nat_eq n 0)) → (i : ℕ) × Flag n i
      found is =
          let apart = eqb-false n 0 (not-true (nat_eq n 0) is) in
          let h = bit_at-trailing_zeros w n (pos_of_ne-zero apart) fits in
          (trailing_zeros w n, bit_flag (bits w) n (trailing_zeros w n) h.0 h.1)

      nonzero : ((i : ℕ) × Flag n i) → IsTrue (not (nat_eq n 0))
      nonzero is = not_from_false (nat_eq n 0) (ne_eqb n 0 (λ e. no_flag is.0 (subst (λ m. Flag m is.0) e is.1)))

  -- what a test of one bit says of its flag
  module _ (n page bit : ℕ) (within : page < bits w) (is : bit ≡ 2 ^ page) where
    masked : bit_and n bit ≡ bit_at n page * 2 ^ page
    masked = ap (bit_and n) is ∙ and_pow n page

    pub set_flag : bit_and n bit ≢ 0 → Flag n page
    set_flag some = elim (cases_eq (bit_at n page) 1) [
      | inl set ↦ bit_flag (bits w) n page within set
      | inr clear ↦
          let unset : bit_at n page ≡ 0 = omega (arith, bit_at-lt n page) in
          absurd (some (masked ∙ ap (λ digit. digit * 2 ^ page) unset ∙ zero-mul (2 ^ page)))
    ]

    pub unset_flag : bit_and n bit ≡ 0 → Flag n page → ⊥
    unset_flag none has =
        let set = (flag_bit (bits w) n page has).1 in
        let empty : 2 ^ page ≡ 0 = sym (one-mul (2 ^ page)) ∙ ap (λ digit. digit * 2 ^ page) (sym set) ∙ sym masked ∙ none in
        omega (arith, pow_pos page)

-- ---- flags of words

abbrev pub Member : List ℕ → ℕ → Type 0
Member words i = IsMember (flags_in words) i

abbrev WordFlag : ℕ → ℕ → Type 0
WordFlag n i = IsMember (flags_of 64 n) i

clear : (i : ℕ) → slice_index_or (flags_of 64 0) i false ≡ false
clear i = elim (cases_Bool (slice_index_or (flags_of 64 0) i false)) [ inl set ↦ absurd (no_flag w64 i set) | inr unset ↦ unset ]

-- a flag stands in the word of its place
at_word : (words : List ℕ) (i : ℕ) → slice_index_or (flags_in words) i false ≡ slice_index_or (flags_of 64 (slice_index words (i / 64))) (i % 64) false
unfolding flags_in
at_word [] i = sym (clear (i % 64))
at_word (word ∷ words) i =
    let many : length (flags_of 64 word) ≡ 64 = length-flags_of 64 word in
    elim (cases_lt i 64) [
      | inl low ↦
          let here : i / 64 ≡ 0 = omega arith in
          let place : i % 64 ≡ i = omega arith in
          get_or-append (flags_of 64 word) (flags_in words) false i (omega (arith, many))
          ∙ sym (ap (λ (k : ℕ). slice_index_or (flags_of 64 (slice_index (word ∷ words) k)) (i % 64) false) here
          ∙ ap (λ (k : ℕ). slice_index_or (flags_of 64 word) k false) place)
      | inr high ↦
          let later : i / 64 ≡ suc ((i - 64) / 64) = omega arith in
          let place : i % 64 ≡ (i - 64) % 64 = omega arith in
          get_or-append_right (flags_of 64 word) (flags_in words) i false (omega (arith, many))
          ∙ ap (λ (k : ℕ). slice_index_or (flags_in words) (i - k) false) many
          ∙ at_word words (i - 64)
          ∙ sym (ap (λ (k : ℕ). slice_index_or (flags_of 64 (slice_index (word ∷ words) k)) (i % 64) false) later
          ∙ ap (λ (k : ℕ). slice_index_or (flags_of 64 (slice_index words ((i - 64) / 64))) k false) place)
    ]

to_word : (words : List ℕ) (i : ℕ) → Member words i → WordFlag (slice_index words (i / 64)) (i % 64)
to_word words i is = sym (at_word words i) ∙ is

from_word : (words : List ℕ) (i : ℕ) → WordFlag (slice_index words (i / 64)) (i % 64) → Member words i
from_word words i is = at_word words i ∙ is

-- of a place in a word
from_place : (words : List ℕ) (at i : ℕ) → i < 64 → WordFlag (slice_index words at) i → Member words (at * 64 + i)
from_place words at i low is =
    let here : (at * 64 + i) / 64 ≡ at = omega arith in
    let place : (at * 64 + i) % 64 ≡ i = omega arith in
    from_word words (at * 64 + i)
    (subst (λ (k : ℕ). WordFlag (slice_index words k) ((at * 64 + i) % 64)) (sym here) (subst (λ (k : ℕ). WordFlag (slice_index words at) k) (sym place) is))

fits_at : (words : List ℕ) → AllByRecursion (λ word. word < 2 ^ 64) words → (k : ℕ) → slice_index words k < 2 ^ 64
fits_at [] fits k = omega arith
fits_at (word ∷ words) fits zero = fits.0
fits_at (word ∷ words) fits (suc k) = fits_at words fits.1 k

fits_set : (words : List ℕ) (k word : ℕ) → AllByRecursion (λ word. word < 2 ^ 64) words → word < 2 ^ 64 →
    AllByRecursion (λ word. word < 2 ^ 64) (slice_set words k word)
fits_set [] k word fits fit = tt
fits_set (first ∷ words) zero word fits fit = (fit, fits.1)
fits_set (first ∷ words) (suc k) word fits fit = (fits.0, fits_set words k word fits.1 fit)

fits_zipped : (f : ℕ → ℕ → ℕ) → ((x y : ℕ) → x < 2 ^ 64 → y < 2 ^ 64 → f x y < 2 ^ 64) → (xs ys : List ℕ) →
    AllByRecursion (λ word. word < 2 ^ 64) xs → AllByRecursion (λ word. word < 2 ^ 64) ys → AllByRecursion (λ word. word < 2 ^ 64) (zipped f xs ys)
fits_zipped f keeps [] ys p q = tt
fits_zipped f keeps (x ∷ xs) [] p q = tt
fits_zipped f keeps (x ∷ xs) (y ∷ ys) p q = (keeps x y p.0 q.0, fits_zipped f keeps xs ys p.1 q.1)

zipped_at : (f : ℕ → ℕ → ℕ) (xs ys : List ℕ) (k : ℕ) → f 0 0 ≡ 0 → length xs ≡ length ys →
    slice_index (zipped f xs ys) k ≡ f (slice_index xs k) (slice_index ys k)
zipped_at f [] [] k none e = sym none
zipped_at f [] (y ∷ ys) k none e = absurd (omega (arith, e))
zipped_at f (x ∷ xs) [] k none e = absurd (omega (arith, e))
zipped_at f (x ∷ xs) (y ∷ ys) zero none e = refl
zipped_at f (x ∷ xs) (y ∷ ys) (suc k) none e = zipped_at f xs ys k none (omega (arith, e))

-- ---- no page, and one

no_words : (k : ℕ) → slice_index (replicate 4 0) k ≡ 0
no_words k = elim (cases_lt k 4) [ inl low ↦ get_or-replicate 4 k 0 0 low | inr high ↦ get_or_past (replicate 4 0) k 0 high ]

pub none_has : (i : ℕ) → Member (replicate 4 0) i → ⊥
none_has i is = no_flag w64 (i % 64) (subst (λ (n : ℕ). WordFlag n (i % 64)) (no_words (i / 64)) (to_word (replicate 4 0) i is))

module _ (page bit : ℕ) (below : page < 256) (one : IsBitOf (page % 64) bit) where
  abbrev pub its_words : List ℕ
  its_words = slice_set (replicate 4 0) (page / 64) bit

  own_word : slice_index its_words (page / 64) ≡ bit
  own_word = get_or-set_same (replicate 4 0) (page / 64) bit 0 (omega arith)

  own_flag : WordFlag bit (page % 64)
  own_flag = subst (λ (n : ℕ). WordFlag n (page % 64)) (sym one.is) ((flag_of_one w64 (page % 64) (page % 64) one.within).1 refl)

  pub one_words : AreWords its_words
  one_words = (
    length-set (replicate 4 0) (page / 64) bit,
    fits_set (replicate 4 0) (page / 64) bit (omega arith, (omega arith, (omega arith, (omega arith, tt)))) (subst (λ (n : ℕ). n < 2 ^ 64) (sym one.is) (pow-lt {j = 64} one.within)),
  )

  pub one_has : (i : ℕ) → Member its_words i ↔ (i ≡ page)
  one_has i = (only, there)
    where
      only : Member its_words i → i ≡ page
      only is = elim (cases_eq (i / 64) (page / 64)) [
        | inl same ↦
            let word : slice_index its_words (i / 64) ≡ 2 ^ (page % 64) = ap (slice_index its_words) same ∙ own_word ∙ one.is in
            let place : i % 64 ≡ page % 64 =
            (flag_of_one w64 (page % 64) (i % 64) one.within).0 (subst (λ (n : ℕ). WordFlag n (i % 64)) word (to_word its_words i is)) in
            omega (arith, same, place)
        | inr apart ↦
            let word : slice_index its_words (i / 64) ≡ 0 =
            get_or-set_other (replicate 4 0) (page / 64) (i / 64) bit 0 apart ∙ no_words (i / 64) in
            absurd (no_flag w64 (i % 64) (subst (λ (n : ℕ). WordFlag n (i % 64)) word (to_word its_words i is)))
      ]

      there : i ≡ page → Member its_words i
      there same =
          subst (λ (k : ℕ). Member its_words k) (sym same)
          (from_word its_words page (subst (λ (n : ℕ). WordFlag n (page % 64)) (sym own_word) own_flag))

-- ---- words of two

module _ (a b all : List ℕ) (first : AreWords a) (second : AreWords b) where
  as_many : length a ≡ length b
  as_many = first.0 ∙ sym second.0

  module _ (is : all ≡ zipped bit_or a b) where
    pub either_words : AreWords all
    either_words =
        subst AreWords (sym is)
        (length-zipped bit_or a b as_many ∙ first.0, fits_zipped bit_or (λ x y p q. or_lt 64 x y p q) a b first.1 second.1)

    pub either_has : (i : ℕ) → Member all i ↔ (Member a i ⊎ Member b i)
    either_has i = (parts, whole)
      where
        here : slice_index all (i / 64) ≡ bit_or (slice_index a (i / 64)) (slice_index b (i / 64))
        here = ap (λ (l : List ℕ). slice_index l (i / 64)) is ∙ zipped_at bit_or a b (i / 64) refl as_many

        law : WordFlag (bit_or (slice_index a (i / 64)) (slice_index b (i / 64))) (i % 64) ↔
            (WordFlag (slice_index a (i / 64)) (i % 64) ⊎ WordFlag (slice_index b (i / 64)) (i % 64))
        law = flag_or w64 (slice_index a (i / 64)) (slice_index b (i / 64)) (i % 64)

        parts : Member all i → Member a i ⊎ Member b i
        parts has = elim (law.0 (subst (λ (n : ℕ). WordFlag n (i % 64)) here (to_word all i has))) [
          | inl one ↦ inl (from_word a i one)
          | inr other ↦ inr (from_word b i other)
        ]

        whole : Member a i ⊎ Member b i → Member all i
        whole (inl one) = from_word all i (subst (λ (n : ℕ). WordFlag n (i % 64)) (sym here) (law.1 (inl (to_word a i one))))
        whole (inr other) = from_word all i (subst (λ (n : ℕ). WordFlag n (i % 64)) (sym here) (law.1 (inr (to_word b i other))))

  module _ (is : all ≡ zipped left_of a b) where
    pub left_words : AreWords all
    left_words =
        subst AreWords (sym is) (
          length-zipped left_of a b as_many ∙ first.0,
          fits_zipped left_of (λ x y p q. omega (arith, and_le_l x (bit_not w64 y), p)) a b first.1 second.1,
        )

    pub left_has : (i : ℕ) → Member all i ↔ (Member a i × ¬ (Member b i))
    left_has i = (kept, rest)
      where
        here : slice_index all (i / 64) ≡ left_of (slice_index a (i / 64)) (slice_index b (i / 64))
        here = ap (λ (l : List ℕ). slice_index l (i / 64)) is ∙ zipped_at left_of a b (i / 64) refl as_many

        low : i % 64 < 64
        low = omega arith

        law : WordFlag (left_of (slice_index a (i / 64)) (slice_index b (i / 64))) (i % 64) ↔
            (WordFlag (slice_index a (i / 64)) (i % 64) × WordFlag (bit_not w64 (slice_index b (i / 64))) (i % 64))
        law = flag_and w64 (slice_index a (i / 64)) (bit_not w64 (slice_index b (i / 64))) (i % 64)

        lacking : WordFlag (bit_not w64 (slice_index b (i / 64))) (i % 64) ↔ ¬ (WordFlag (slice_index b (i / 64)) (i % 64))
        lacking = flag_not w64 (slice_index b (i / 64)) (i % 64) (fits_at b second.1 (i / 64)) low

        kept : Member all i → Member a i × ¬ (Member b i)
        kept has =
            let both = law.0 (subst (λ (n : ℕ). WordFlag n (i % 64)) here (to_word all i has)) in
            (from_word a i both.0, λ other. lacking.0 both.1 (to_word b i other))

        rest : Member a i × ¬ (Member b i) → Member all i
        rest has =
            from_word all i
            (subst (λ (n : ℕ). WordFlag n (i % 64)) (sym here) (law.1 (to_word a i has.0, lacking.1 (λ other. has.1 (from_word b i other)))))

-- ---- tests

-- a word that is not 0 has a page
pub word_has : (words : List ℕ) (at : ℕ) → AreWords words → slice_index words at ≢ 0 → (i : ℕ) × Member words i
word_has words at are some =
    let found = (some_flag w64 (slice_index words at) (fits_at words are.1 at)).0 (not_from_false _ (ne_eqb (slice_index words at) 0 some)) in
    let low = (flag_bit 64 (slice_index words at) found.0 found.1).0 in
    (at * 64 + found.0, from_place words at found.0 low found.1)

-- where all are 0 there is no page
pub zeros_lack : (words : List ℕ) (n : ℕ) → length words ≤ n → ((k : ℕ) → k < n → slice_index words k ≡ 0) → (i : ℕ) → Member words i → ⊥
zeros_lack words n long zeros i is =
    let zero_at : slice_index words (i / 64) ≡ 0 =
    elim (cases_lt (i / 64) n) [ inl low ↦ zeros (i / 64) low | inr high ↦ get_or_past words (i / 64) 0 (omega (arith, long, high)) ] in
    no_flag w64 (i % 64) (subst (λ (n : ℕ). WordFlag n (i % 64)) zero_at (to_word words i is))

-- two words with a bit in common have a page in common
pub words_meet : (a b : List ℕ) (at : ℕ) → AreWords a → bit_and (slice_index a at) (slice_index b at) ≢ 0 → (i : ℕ) × (Member a i × Member b i)
words_meet a b at are some =
    let both : ℕ = bit_and (slice_index a at) (slice_index b at) in
    let fits : both < 2 ^ 64 = omega (arith, and_le_l (slice_index a at) (slice_index b at), fits_at a are.1 at) in
    let found = (some_flag w64 both fits).0 (not_from_false _ (ne_eqb both 0 some)) in
    let parts = (flag_and w64 (slice_index a at) (slice_index b at) found.0).0 found.1 in
    let low = (flag_bit 64 (slice_index a at) found.0 parts.0).0 in
    (at * 64 + found.0, (from_place a at found.0 low parts.0, from_place b at found.0 low parts.1))

-- where no two have a bit in common there is no page in common
pub words_apart : (a b : List ℕ) (n : ℕ) → length a ≤ n → ((k : ℕ) → k < n → bit_and (slice_index a k) (slice_index b k) ≡ 0) → (i : ℕ) →
    Member a i → Member b i → ⊥
words_apart a b n long apart i one other = elim (cases_lt (i / 64) n) [
  | inl low ↦
      no_flag w64 (i % 64) (subst (λ (n : ℕ). WordFlag n (i % 64)) (apart (i / 64) low)
      ((flag_and w64 (slice_index a (i / 64)) (slice_index b (i / 64)) (i % 64)).1 (to_word a i one, to_word b i other)))
  | inr high ↦
      no_flag w64 (i % 64) (subst (λ (n : ℕ). WordFlag n (i % 64)) (get_or_past a (i / 64) 0 (omega (arith, long, high))) (to_word a i one))
]

-- what a test of one bit says of its page
pub page_tested : (words : List ℕ) (page bit : ℕ) → IsBitOf (page % 64) bit →
    IsTrue (not (nat_eq (bit_and (slice_index words (page / 64)) bit) 0)) ↔ Member words page
page_tested words page bit one = (
  λ is. from_word words page (set_flag w64 (slice_index words (page / 64)) (page % 64) bit one.within one.is (eqb-false _ 0 (not-true _ is))),
  λ has.
      not_from_false _
      (ne_eqb (bit_and (slice_index words (page / 64)) bit) 0
      (λ none. unset_flag w64 (slice_index words (page / 64)) (page % 64) bit one.within one.is none (to_word words page has))),
)

-- ---- words of those to be read and of those to be written

abbrev pub pages_in : List ℕ → List ℕ → Pages
pages_in reads writes = record { reads = flags_in reads; writes = flags_in writes }

module _ (reads writes : List ℕ) where
  pub to_read : (page : ℕ) → ((i : ℕ) → Member reads i ↔ (i ≡ page)) → ((i : ℕ) → Member writes i → ⊥) → (n : ℕ) (right : Want) →
      HasFor (pages_in reads writes) right n ↔ ((n ≡ page) × (right ≡ Read))
  to_read page one none n Read = (λ is. ((one n).0 is, refl), λ h. (one n).1 h.0)
  to_read page one none n Write = (λ is. absurd (none n is), λ h. let e = h.1 in cc)

  pub to_write : (page : ℕ) → ((i : ℕ) → Member reads i → ⊥) → ((i : ℕ) → Member writes i ↔ (i ≡ page)) → (n : ℕ) (right : Want) →
      HasFor (pages_in reads writes) right n ↔ ((n ≡ page) × (right ≡ Write))
  to_write page none one n Read = (λ is. absurd (none n is), λ h. let e = h.1 in cc)
  to_write page none one n Write = (λ is. ((one n).0 is, refl), λ h. (one n).1 h.0)

  pub written_has : (none : List ℕ) → ((i : ℕ) → Member none i → ⊥) → (page : ℕ) (right : Want) →
      HasFor (pages_in none writes) right page ↔ ((right ≡ Write) × HasFor (pages_in reads writes) Write page)
  written_has none lack page Read = (λ is. absurd (lack page is), λ h. let e = h.0 in cc)
  written_has none lack page Write = (λ is. (refl, is), λ h. h.1)

  module _ (reads' writes' : List ℕ) where
    pub with_has : (r w : List ℕ) → ((i : ℕ) → Member r i ↔ (Member reads i ⊎ Member reads' i)) →
        ((i : ℕ) → Member w i ↔ (Member writes i ⊎ Member writes' i)) → (page : ℕ) (right : Want) →
        HasFor (pages_in r w) right page ↔ (HasFor (pages_in reads writes) right page ⊎ HasFor (pages_in reads' writes') right page)
    with_has r w both_read both_written page Read = both_read page
    with_has r w both_read both_written page Write = both_written page

    -- all of the second, whatever for
    module _ (all : List ℕ) (any : (i : ℕ) → Member all i ↔ (Member reads' i ⊎ Member writes' i)) where
      left_for : (own left : List ℕ) → ((i : ℕ) → Member left i ↔ (Member own i × ¬ (Member all i))) → (page : ℕ) →
          Member left page ↔ (Member own page × ¬ (Has (pages_in reads' writes') page))
      left_for own left is page = (
        λ has. let h = (is page).0 has in (h.0, λ there. h.1 ((any page).1 there)),
        λ h. (is page).1 (h.0, λ there. h.1 ((any page).0 there)),
      )

      pub without_has : (r w : List ℕ) → ((i : ℕ) → Member r i ↔ (Member reads i × ¬ (Member all i))) →
          ((i : ℕ) → Member w i ↔ (Member writes i × ¬ (Member all i))) → (page : ℕ) (right : Want) →
          HasFor (pages_in r w) right page ↔ (HasFor (pages_in reads writes) right page × ¬ (Has (pages_in reads' writes') page))
      without_has r w read written page Read = left_for reads r read page
      without_has r w read written page Write = left_for writes w written page

      -- these write a page that those have
      pub first_against : (i : ℕ) × (Member writes i × Member all i) → IsAgainst (pages_in reads writes) (pages_in reads' writes')
      first_against p = (p.0, inl (p.1.0, (any p.0).0 p.1.1))

      -- these read a page that those write
      pub second_against : (i : ℕ) × (Member reads i × Member writes' i) → IsAgainst (pages_in reads writes) (pages_in reads' writes')
      second_against p = (p.0, inr (inl p.1.0, p.1.1))

      -- where these write no page that those have, they are against those only so
      pub against_second : ((i : ℕ) × (Member writes i × Member all i) → ⊥) → IsAgainst (pages_in reads writes) (pages_in reads' writes') →
          (i : ℕ) × (Member reads i × Member writes' i)
      against_second none against = (against.0, read against.0 against.1)
        where
          read : (i : ℕ) → (HasFor (pages_in reads writes) Write i × Has (pages_in reads' writes') i) ⊎
              (Has (pages_in reads writes) i × HasFor (pages_in reads' writes') Write i) → Member reads i × Member writes' i
          read i (inl h) = absurd (none (i, (h.0, (any i).1 h.1)))
          read i (inr (inl is, written)) = (is, written)
          read i (inr (inr is, written)) = absurd (none (i, (is, (any i).1 (inr written))))
