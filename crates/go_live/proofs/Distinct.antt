-- How many numbers below a limit are in a list; sets that have the numbers of a list; lists that share one.
use Rattle.std.proofs.Common.{◌≡◌, ℕ, zero, suc, ◌+◌, ◌<◌, ◌≤◌, ◌||◌, Bool, true, false, if◌then◌else◌, List, [], ◌∷◌, ◌++◌, length, Contains, get_or, take, count_by, ◌↔◌, ◌-◌}
use Rattle.std.proofs.Common.{slice_set, slice_index_or, refl, sym, ap, subst, ◌∙◌, arith, inl, inr}
use Rattle.std.specs.Prelude.{◌==◌}
use Rattle.std.specs.List.{list_any, Any}
use Rattle.std.proofs.lemmas.Bool.{cases_lt}
use Rattle.std.proofs.lemmas.Bool.Decides.{eqb_tells}
use Rattle.std.proofs.lemmas.List.{get_or-set_same, get_or-set_other, length-set}
use Rattle.std.proofs.lemmas.List.Folds.{list_any-append, Any-from_list_any}
use Rattle.std.proofs.lemmas.List.Sums.{count_by_more_yes, count_by_more_no}
use Rattle.go_live.specs.Quorums.{distinct_below, AreEnough, ShareOne, AreMembers}

abbrev is_in : List ℕ → ℕ → Bool
is_in ns n = list_any (λ m. m == n) ns

-- ---- one number more in the list

-- the greatest number below the limit is the first of the list, or not
first_is : (k n : ℕ) (ns : List ℕ) (is : Bool) → (n == k) ≡ is →
    distinct_below (suc k) (n ∷ ns) ≡ (if is || is_in ns k then distinct_below k (n ∷ ns) + 1 else distinct_below k (n ∷ ns))
first_is k n ns is e = ap (λ (b : Bool). if b || is_in ns k then distinct_below k (n ∷ ns) + 1 else distinct_below k (n ∷ ns)) e

-- one that is not below the limit counts for nothing
beyond : (limit n : ℕ) (ns : List ℕ) → limit ≤ n → distinct_below limit (n ∷ ns) ≡ distinct_below limit ns
beyond zero n ns le = refl
beyond (suc k) n ns le =
    let rest = beyond k n ns (omega (arith, le)) in
    elim (eqb_tells n k) [
      | inl (this, same) ↦ absurd (omega (arith, same, le))
      | inr (this, other) ↦ first_is k n ns false this ∙ ap (λ (many : ℕ). if is_in ns k then many + 1 else many) rest
    ]

twice : (b : Bool) (many : ℕ) → many + 1 ≡ (if b then (if b then many + 1 else many) else (if b then many + 1 else many) + 1)
twice true many = refl
twice false many = refl

apart : (here there : Bool) (many : ℕ) → (if here then (if there then many else many + 1) + 1 else (if there then many else many + 1)) ≡
    (if there then (if here then many + 1 else many) else (if here then many + 1 else many) + 1)
apart true true many = refl
apart true false many = refl
apart false true many = refl
apart false false many = refl

-- one that is below it counts where it is new
pub one_below : (limit n : ℕ) (ns : List ℕ) → n < limit →
    distinct_below limit (n ∷ ns) ≡ (if is_in ns n then distinct_below limit ns else distinct_below limit ns + 1)
one_below zero n ns less = absurd (omega (arith, less))
one_below (suc k) n ns less =
    elim (eqb_tells n k) [
      | inl (this, same) ↦
          first_is k n ns true this
          ∙ ap (λ (many : ℕ). many + 1) (beyond k n ns (omega (arith, same)))
          ∙ subst (λ (m : ℕ). distinct_below k ns + 1 ≡ (if is_in ns m then distinct_below (suc k) ns else distinct_below (suc k) ns + 1)) (sym same)
          (twice (is_in ns k) (distinct_below k ns))
      | inr (this, other) ↦
          let under : n < k = elim (cases_lt n k) [ inl lt ↦ lt | inr ge ↦ absurd (other (let e : n ≡ k = omega (arith, ge, less) in e)) ] in
          first_is k n ns false this
          ∙ ap (λ (many : ℕ). if is_in ns k then many + 1 else many) (one_below k n ns under)
          ∙ apart (is_in ns k) (is_in ns n) (distinct_below k ns)
    ]

pub none_below : (limit : ℕ) → distinct_below limit [] ≡ 0
none_below zero = refl
none_below (suc k) = none_below k

-- they are no more than the list is long
pub within_length : (limit : ℕ) (ns : List ℕ) → distinct_below limit ns ≤ length ns
within_length limit [] = let none = none_below limit in omega (arith, none)
within_length limit (n ∷ ns) =
    elim (cases_lt n limit) [
      | inl less ↦ of (is_in ns n) (one_below limit n ns less) (within_length limit ns)
      | inr le ↦ let same = beyond limit n ns le in let rest = within_length limit ns in omega (arith, same, rest)
    ]
  where
    of : (b : Bool) → distinct_below limit (n ∷ ns) ≡ (if b then distinct_below limit ns else distinct_below limit ns + 1) →
        distinct_below limit ns ≤ length ns → distinct_below limit (n ∷ ns) ≤ suc (length ns)
    of true one rest = omega (arith, one, rest)
    of false one rest = omega (arith, one, rest)

-- ---- sets

-- the set has the numbers of the list, and a place for each keeper
pub record HasThese (ns : List ℕ) (set : List Bool) : Type 0 where
  pub sized : length set ≡ 5
  pub members : AreMembers set ns

-- one number more at the list's end
more_in : (ns : List ℕ) (n k : ℕ) → is_in (ns ++ n ∷ []) k ≡ (is_in ns k || (n == k || false))
more_in ns n k = list_any-append (λ m. m == k) ns (n ∷ [])

all_true : (b : Bool) → (b || (true || false)) ≡ true
all_true true = refl
all_true false = refl

all_as : (b : Bool) → (b || (false || false)) ≡ b
all_as true = refl
all_as false = refl

pub member_more : (ns : List ℕ) (n : ℕ) (set : List Bool) → n < 5 → HasThese ns set → HasThese (ns ++ n ∷ []) (slice_set set n true)
member_more ns n set below is =
    record {
      sized = length-set set n true ∙ is.sized;
      members = λ k. elim (eqb_tells n k) [
        | inl (this, same) ↦
            ap (λ (m : ℕ). get_or (slice_set set n true) m false) (sym same)
            ∙ get_or-set_same set n true false (rw is.sized below)
            ∙ sym (more_in ns n k ∙ ap (λ (b : Bool). is_in ns k || (b || false)) this ∙ all_true (is_in ns k))
        | inr (this, other) ↦
            get_or-set_other set n k true false (λ e. other (sym e))
            ∙ is.members k
            ∙ sym (more_in ns n k ∙ ap (λ (b : Bool). is_in ns k || (b || false)) this ∙ all_as (is_in ns k))
      ];
    }

-- and at its head
pub member_first : (ns : List ℕ) (n : ℕ) (set : List Bool) → n < length set → AreMembers set ns → AreMembers (slice_set set n true) (n ∷ ns)
member_first ns n set below are k =
    elim (eqb_tells n k) [
      | inl (this, same) ↦
          ap (λ (m : ℕ). get_or (slice_set set n true) m false) (sym same)
          ∙ get_or-set_same set n true false below
          ∙ sym (ap (λ (b : Bool). b || is_in ns k) this)
      | inr (this, other) ↦
          get_or-set_other set n k true false (λ e. other (sym e)) ∙ are k ∙ sym (ap (λ (b : Bool). b || is_in ns k) this)
    ]

none_of : (b : Bool) → (b ≡ true → ⊥) → b ≡ false
none_of true h = absurd (h refl)
none_of false h = refl

pub members_none : (set : List Bool) → length set ≡ 5 → ((n : ℕ) → get_or set n false ≡ true → ⊥) → HasThese [] set
members_none set sized none = record { sized = sized; members = λ n. none_of (get_or set n false) (none n) }

-- the members below a limit are so many
pub counted_below : (set : List Bool) (ns : List ℕ) → AreMembers set ns → (n : ℕ) → n ≤ length set →
    count_by (λ member. member) (take n set) ≡ distinct_below n ns
counted_below set ns are zero le = refl
counted_below set ns are (suc n) le =
    ap (λ (k : ℕ). count_by (λ member. member) (take k set)) (let e : suc n ≡ n + 1 = omega arith in e)
    ∙ of (get_or set n false) refl (omega (arith, le)) (counted_below set ns are n (omega (arith, le)))
  where
    of : (b : Bool) → get_or set n false ≡ b → n < length set → count_by (λ member. member) (take n set) ≡ distinct_below n ns →
        count_by (λ member. member) (take (n + 1) set) ≡ distinct_below (suc n) ns
    of true is less rest =
        count_by_more_yes (λ member. member) set n false less is
        ∙ ap (λ (many : ℕ). many + 1) rest
        ∙ ap (λ (b : Bool). if b then distinct_below n ns + 1 else distinct_below n ns) (sym is ∙ are n)
    of false is less rest =
        count_by_more_no (λ member. member) set n false less is
        ∙ rest
        ∙ ap (λ (b : Bool). if b then distinct_below n ns + 1 else distinct_below n ns) (sym is ∙ are n)

-- so those who are enough by the set are enough by the list
pub enough_by : (set : List Bool) (ns : List ℕ) (keepers need : ℕ) → AreMembers set ns → length set ≡ 5 → keepers ≤ 5 → {P : Type 0} →
    (P ↔ (keepers - need + 1 ≤ count_by (λ member. member) (take keepers set))) → P ↔ AreEnough keepers need ns
enough_by set ns keepers need are sized limit {P} is =
    subst (λ (many : ℕ). P ↔ (keepers - need + 1 ≤ many)) (counted_below set ns are keepers (omega (arith, sized, limit))) is

-- ---- lists that share one

contained : (ns : List ℕ) (n : ℕ) → is_in ns n ≡ true → Contains ns n
contained ns n e =
    of (Any-from_list_any (λ m. m == n) ns e)
  where
    of : Any (λ m. (m == n) ≡ true) ns → Contains ns n
    of (k, x, within, is, told) = elim (eqb_tells x n) [
      | inl (this, same) ↦ (k, within, subst (λ y. slice_index_or ns k y ≡ y) same is)
      | inr (this, other) ↦ let no : true ≡ false = sym told ∙ this in cc
    ]

-- two lists that together have more of the numbers below n than there are share one
pub shared : (n : ℕ) (ones others : List ℕ) → n < distinct_below n ones + distinct_below n others → ShareOne n ones others
shared zero ones others more = absurd (omega (arith, more))
shared (suc n) ones others more =
    of (λ rest. wider (shared n ones others rest)) (is_in ones n) refl (is_in others n) refl more
  where
    wider : ShareOne n ones others → ShareOne (suc n) ones others
    wider (k, less, here, there) = (k, omega (arith, less), here, there)

    of : (n < distinct_below n ones + distinct_below n others → ShareOne (suc n) ones others) →
        (a : Bool) → is_in ones n ≡ a → (b : Bool) → is_in others n ≡ b →
        suc n < (if a then distinct_below n ones + 1 else distinct_below n ones) + (if b then distinct_below n others + 1 else distinct_below n others) →
        ShareOne (suc n) ones others
    of next true here true there m = (n, omega arith, contained ones n here, contained others n there)
    of next true here false there m = next (omega (arith, m))
    of next false here true there m = next (omega (arith, m))
    of next false here false there m = next (omega (arith, m))
