-- A row of counts, field by field.
use Rattle.std.proofs.Common.{◌≡◌, ℕ, zero, suc, ◌+◌, ◌<◌, ◌≤◌, List, [], ◌∷◌, ◌++◌, length, take, drop, map, set, slice_set, get_or, replicate, refl, sym, ap, ◌∙◌, subst, arith}
use Rattle.std.proofs.Common.{append_assoc, length-append, length-set}
use Rattle.std.specs.Prelude.{decimal}
use Rattle.std.specs.List.{AllByRecursion}
use Rattle.std.proofs.lemmas.List.{take_more, take_more_set, drop_more, map-append, take_all, nil_from_length, length-map}
use Rattle.ft_types.specs.Counts.{IsCount}
use Rattle.wire.specs.Fields.{spelling}
use Rattle.wire.proofs.Reading.{spelling_more}

all_zero : (n : ℕ) → AllByRecursion IsCount (replicate n 0)
all_zero zero = tt
all_zero (suc n) = (omega arith, all_zero n)

all_set : (ns : List ℕ) (i n : ℕ) → IsCount n → AllByRecursion IsCount ns → AllByRecursion IsCount (set ns i n)
all_set [] i n h p = tt
all_set (m ∷ ns) zero n h p = (h, p.1)
all_set (m ∷ ns) (suc i) n h p = (p.0, all_set ns i n h p.1)

all_at : (ns : List ℕ) (i : ℕ) → i < length ns → AllByRecursion IsCount ns → IsCount (get_or ns i 0)
all_at [] i h p = absurd (omega arith)
all_at (m ∷ ns) zero h p = p.0
all_at (m ∷ ns) (suc i) h p = all_at ns i (omega arith) p.1

-- The first fields were read into the row, and what is left is what stands behind them in any row that the fields are.
pub record CountsSoFar (harts : ℕ) (all rest : List (List ℕ)) (counts : List ℕ) (at : ℕ) : Type 0 where
  pub long : length counts ≡ harts
  pub are : AllByRecursion IsCount counts
  pub fields : all ≡ map decimal (take at counts) ++ rest
  pub only : (ns : List ℕ) (behind : List (List ℕ)) → length ns ≡ harts → AllByRecursion IsCount ns → all ≡ map decimal ns ++ behind →
      rest ≡ map decimal (drop at ns) ++ behind

pub counts_begin : (harts : ℕ) (all : List (List ℕ)) (counts : List ℕ) → counts ≡ replicate harts 0 → length counts ≡ harts → CountsSoFar harts all all counts 0
counts_begin harts all counts is long = record {
  long = long;
  are = subst (AllByRecursion IsCount) (sym is) (all_zero harts);
  fields = refl;
  only = λ ns behind many counts_are e. e;
}

next_is : (harts at : ℕ) (rest : List (List ℕ)) (ns : List ℕ) (behind : List (List ℕ)) → length ns ≡ harts → at < harts →
    rest ≡ map decimal (drop at ns) ++ behind → rest ≡ decimal (get_or ns at 0) ∷ (map decimal (drop (at + 1) ns) ++ behind)
next_is harts at rest ns behind many h e =
    let here : at < length ns = omega arith in
    e ∙ ap (λ (ms : List ℕ). map decimal ms ++ behind) (drop_more ns at 0 here)

pub counts_more : (harts at n : ℕ) (all rest more : List (List ℕ)) (counts row : List ℕ) → at < harts → IsCount n → rest ≡ decimal n ∷ more →
    row ≡ slice_set counts at n → CountsSoFar harts all rest counts at → CountsSoFar harts all more row (at + 1)
counts_more harts at n all rest more counts row h small is row_is so_far =
    let here : at < length counts = omega (arith, so_far.long) in
    rw row_is (record {
      long = length-set counts at n ∙ so_far.long;
      are = all_set counts at n small so_far.are;
      fields = so_far.fields ∙ ap (λ (fs : List (List ℕ)). map decimal (take at counts) ++ fs) is
          ∙ sym (ap (λ (ms : List ℕ). map decimal ms ++ more) (take_more_set counts at n here)
          ∙ ap (λ (fs : List (List ℕ)). fs ++ more) (map-append decimal (take at counts) (n ∷ []))
          ∙ append_assoc (map decimal (take at counts)) (decimal n ∷ []) more);
      only = λ ns behind many counts_are e.
          let same : decimal n ∷ more ≡ decimal (get_or ns at 0) ∷ (map decimal (drop (at + 1) ns) ++ behind) =
          sym is ∙ next_is harts at rest ns behind many h (so_far.only ns behind many counts_are e) in
          cc;
    })

-- the next field is no count
pub counts_stop : (harts at : ℕ) (all rest : List (List ℕ)) (counts : List ℕ) → at < harts → CountsSoFar harts all rest counts at →
    ((n : ℕ) (behind : List (List ℕ)) → IsCount n → rest ≡ decimal n ∷ behind → ⊥) →
    (ns : List ℕ) (behind : List (List ℕ)) → length ns ≡ harts → AllByRecursion IsCount ns → all ≡ map decimal ns ++ behind → ⊥
counts_stop harts at all rest counts h so_far none ns behind many counts_are e =
    let here : at < length ns = omega arith in
    none (get_or ns at 0) (map decimal (drop (at + 1) ns) ++ behind) (all_at ns at here counts_are)
    (next_is harts at rest ns behind many h (so_far.only ns behind many counts_are e))

pub counts_all : (harts at : ℕ) (all rest : List (List ℕ)) (counts : List ℕ) → harts ≤ at → CountsSoFar harts all rest counts at →
    all ≡ map decimal counts ++ rest
counts_all harts at all rest counts h so_far =
    so_far.fields ∙ ap (λ (ms : List ℕ). map decimal ms ++ rest) (take_all at counts (omega (arith, so_far.long)))

-- as many fields as counts leave none
pub nothing_behind : (ms ns : List ℕ) (all rest : List (List ℕ)) → length ms ≡ length ns → all ≡ map decimal ms ++ rest → all ≡ map decimal ns → rest ≡ []
nothing_behind ms ns all rest long d e = nil_from_length rest
    (omega (arith, long, ap length (sym d ∙ e), length-append (map decimal ms) rest, length-map ms decimal, length-map ns decimal))

-- ---- written

pub counts_spelled : (a b d : List ℕ) (ns : List ℕ) (i : ℕ) → i < length ns →
    spelling (a ∷ b ∷ d ∷ map decimal (take (i + 1) ns)) ≡ spelling (a ∷ b ∷ d ∷ map decimal (take i ns)) ++ 32 ∷ decimal (get_or ns i 0)
counts_spelled a b d ns i h = ap (λ (ms : List ℕ). spelling (a ∷ b ∷ d ∷ map decimal ms)) (take_more ns i 0 h)
    ∙ ap (λ (fs : List (List ℕ)). spelling (a ∷ b ∷ d ∷ fs)) (map-append decimal (take i ns) (get_or ns i 0 ∷ []))
    ∙ spelling_more a (b ∷ d ∷ map decimal (take i ns)) (decimal (get_or ns i 0))
