-- The words of a log's row, and those of them below a count.
use Rattle.std.proofs.Common.{◌≡◌, ◌⊎◌, inl, inr, ℕ, suc, ◌+◌, ◌≤◌, Bool, true, false, List, [], ◌∷◌, ◌++◌, length, map, filter, refl, sym, ap, subst, ◌∙◌}
use Rattle.std.proofs.Common.{arith, append_assoc, append-nil, length-append}
use Rattle.std.specs.Prelude.{All, if◌then◌else◌, nat_lt}
use Rattle.std.proofs.lemmas.Bool.{cases_lt, ltb-true, ltb-false}
use Rattle.std.proofs.lemmas.List.{map-append}
use Rattle.std.proofs.lemmas.List.Elements.{All-head, All-tail, filter-append}
use Rattle.input_log.specs.declared.Input.{Input}
use Rattle.requests.specs.Queues.{words_in}
use Rattle.requests.proofs.Following.{words_in-append}
use Rattle.leading.specs.Clients.{AreFrom}
use Rattle.leading.proofs.Given.{few_words}

-- a hart's inputs, each beside its count
abbrev pub Row : Type 0
Row = List (ℕ × Input)

-- all its words
abbrev pub row_words : Row → List ℕ
row_words row = words_in (map (λ x. x.1) row)

-- those below the count
abbrev pub row_below : Row → ℕ → List ℕ
row_below row count = words_in (map (λ x. x.1) (filter (λ x. nat_lt x.0 count) row))

-- the one list begins the other
abbrev pub IsFront : List ℕ → List ℕ → Type 0
IsFront xs ys = (rest : List ℕ) × (ys ≡ xs ++ rest)

-- ---- lists

-- what has no length is empty
no_length : (xs : List ℕ) → length xs ≤ 0 → xs ≡ []
no_length [] few = refl
no_length (x ∷ xs) few = absurd (omega (arith, few))

-- what begins the clients' words does so too
pub from_front : (clients : ℕ → ℕ) (number : ℕ) (xs ys : List ℕ) → IsFront xs ys → AreFrom clients number ys → AreFrom clients number xs
from_front clients number xs ys (rest, is) from = all number xs (subst (AreFrom clients number) is from)
  where
    all : (number : ℕ) (xs : List ℕ) → AreFrom clients number (xs ++ rest) → AreFrom clients number xs
    all number [] from = tt
    all number (x ∷ xs) from = (from.0, all (suc number) xs from.1)

-- those that come behind them go on from there
pub from_more : (clients : ℕ → ℕ) (number : ℕ) (xs ys : List ℕ) → AreFrom clients number xs → AreFrom clients (number + length xs) ys →
    AreFrom clients number (xs ++ ys)
from_more clients number [] ys first more = subst (λ n. AreFrom clients n ys) (omega arith) more
from_more clients number (x ∷ xs) ys first more =
    (first.0, from_more clients (suc number) xs ys first.1 (subst (λ n. AreFrom clients n ys) (omega arith) more))

-- ---- words below a count

-- the words of a row that grew
words_more : (row more : Row) → row_words (row ++ more) ≡ row_words row ++ row_words more
words_more row more = ap words_in (map-append (λ x. x.1) row more) ∙ words_in-append (map (λ x. x.1) row) (map (λ x. x.1) more)

-- and those of them below a count
pub below_more : (row more : Row) (count : ℕ) → row_below (row ++ more) count ≡ row_below row count ++ row_below more count
below_more row more count =
    ap row_words (filter-append (λ (x : ℕ × Input). nat_lt x.0 count) row more)
    ∙ words_more (filter (λ x. nat_lt x.0 count) row) (filter (λ x. nat_lt x.0 count) more)

-- they are no more than all
pub few_below : (row : Row) (count : ℕ) → length (row_below row count) ≤ length (row_words row)
few_below row count = few_words (λ x. nat_lt x.0 count) row

-- how many words an input is
abbrev one : Input → ℕ
one i = length (words_in (i ∷ []))

-- the words of one input more
split : (i : Input) (is : List Input) → words_in (i ∷ is) ≡ words_in (i ∷ []) ++ words_in is
split i is = words_in-append (i ∷ []) is

-- and how many they are
counted : (i : Input) (is : List Input) → length (words_in (i ∷ is)) ≡ one i + length (words_in is)
counted i is = ap length (split i is) ∙ length-append (words_in (i ∷ [])) (words_in is)

-- where all are at this count or a later one, none is below
pub none_below : (row : Row) (from count : ℕ) → All (λ x. from ≤ x.0) row → count ≤ from → row_below row count ≡ []
none_below [] from count all le = refl
none_below (x ∷ row) from count all le =
    by (nat_lt x.0 count) refl (All-head (λ (x : ℕ × Input). from ≤ x.0) x row all)
    (none_below row from count (All-tail (λ (x : ℕ × Input). from ≤ x.0) x row all) le)
  where
    by : (b : Bool) → nat_lt x.0 count ≡ b → from ≤ x.0 → row_below row count ≡ [] →
        row_words (if b then x ∷ filter (λ x. nat_lt x.0 count) row else filter (λ x. nat_lt x.0 count) row) ≡ []
    by true e first rest = absurd (let less = ltb-true x.0 count e in omega (arith, less, first, le))
    by false e first rest = rest

-- below a greater count there are no fewer
pub below_grows : (row : Row) (count more : ℕ) → count ≤ more → length (row_below row count) ≤ length (row_below row more)
below_grows [] count more le = omega arith
below_grows (x ∷ row) count more le = by (nat_lt x.0 count) (nat_lt x.0 more) refl refl (below_grows row count more le)
  where
    first : Row
    first = filter (λ x. nat_lt x.0 count) row

    last : Row
    last = filter (λ x. nat_lt x.0 more) row

    by : (b c : Bool) → nat_lt x.0 count ≡ b → nat_lt x.0 more ≡ c → length (row_words first) ≤ length (row_words last) →
        length (row_words (if b then x ∷ first else first)) ≤ length (row_words (if c then x ∷ last else last))
    by true true e f rest =
        let a = counted x.1 (map (λ x. x.1) first) in let b = counted x.1 (map (λ x. x.1) last) in omega (arith, rest, a, b)
    by true false e f rest = absurd (let less = ltb-true x.0 count e in let over = ltb-false x.0 more f in omega (arith, less, over, le))
    by false true e f rest = let b = counted x.1 (map (λ x. x.1) last) in omega (arith, rest, b)
    by false false e f rest = rest

-- where there are as many, they are all
all_below : (row : Row) (count : ℕ) → length (row_words row) ≤ length (row_below row count) → row_below row count ≡ row_words row
all_below [] count many = refl
all_below (x ∷ row) count many = by (nat_lt x.0 count) (few_below row count) (all_below row count) many
  where
    below : Row
    below = filter (λ x. nat_lt x.0 count) row

    by : (b : Bool) → length (row_words below) ≤ length (row_words row) →
        (length (row_words row) ≤ length (row_words below) → row_words below ≡ row_words row) →
        length (row_words (x ∷ row)) ≤ length (row_words (if b then x ∷ below else below)) →
        row_words (if b then x ∷ below else below) ≡ row_words (x ∷ row)
    by true few rest many =
        let a = counted x.1 (map (λ x. x.1) row) in
        let b = counted x.1 (map (λ x. x.1) below) in
        split x.1 (map (λ x. x.1) below)
        ∙ ap (λ (ws : List ℕ). words_in (x.1 ∷ []) ++ ws) (rest (omega (arith, many, a, b)))
        ∙ sym (split x.1 (map (λ x. x.1) row))
    by false few rest many =
        let a = counted x.1 (map (λ x. x.1) row) in
        let none = no_length (words_in (x.1 ∷ [])) (omega (arith, many, a, few)) in
        rest (omega (arith, many, a)) ∙ ap (λ (ws : List ℕ). ws ++ row_words row) (sym none) ∙ sym (split x.1 (map (λ x. x.1) row))

-- ---- a row that grows, by one word at the most

-- of one word at the most there is all or nothing below a count
none_or_one : (more : Row) (count : ℕ) → length (row_words more) ≤ 1 → (row_below more count ≡ []) ⊎ (row_below more count ≡ row_words more)
none_or_one more count few =
    elim (cases_lt (length (row_below more count)) 1) [
      | inl less ↦ inl (no_length (row_below more count) (omega (arith, less)))
      | inr over ↦ inr (all_below more count (omega (arith, few, over)))
    ]

-- where none of the new ones is below a count, those below it are the old ones
same_below : (row more : Row) (count : ℕ) → row_below more count ≡ [] → row_below (row ++ more) count ≡ row_below row count
same_below row more count none =
    below_more row more count ∙ ap (λ (ws : List ℕ). row_below row count ++ ws) none ∙ append-nil (row_below row count)

-- Where the row has each word but one below this count, and what is more comes no earlier, the words below each count begin all still.
pub fronts_more : (row more : Row) (settled : ℕ) → All (λ x. settled ≤ x.0) more →
    ((count : ℕ) → IsFront (row_below row count) (row_words row)) →
    length (row_words (row ++ more)) ≤ length (row_below row settled) + 1 → (count : ℕ) →
    IsFront (row_below (row ++ more) count) (row_words (row ++ more))
fronts_more row more settled later fronts few count =
    let (old, before) = fronts count in
    elim (cases_lt (length (row_words more)) 1) [
      | inl none ↦
          let no_words = no_length (row_words more) (omega (arith, none)) in
          let fewer = few_below more count in
          let none_there = no_length (row_below more count) (omega (arith, none, fewer)) in (
            old,
            words_more row more
                ∙ ap (λ (ws : List ℕ). row_words row ++ ws) no_words
                ∙ append-nil (row_words row)
                ∙ before
                ∙ ap (λ (ws : List ℕ). ws ++ old) (sym (same_below row more count none_there)),
          )
      | inr some ↦
          let many = ap length (words_more row more) ∙ length-append (row_words row) (row_words more) in
          let fewer = few_below row settled in
          elim (cases_lt settled count) [
            | inr early ↦ (
              old ++ row_words more,
              words_more row more
                  ∙ ap (λ (ws : List ℕ). ws ++ row_words more) before
                  ∙ append_assoc (row_below row count) old (row_words more)
                  ∙ ap (λ (ws : List ℕ). ws ++ (old ++ row_words more)) (sym (same_below row more count (none_below more settled count later early))),
            )
            | inl late ↦
                let grown = below_grows row settled count (omega (arith, late)) in
                let all = all_below row count (omega (arith, few, many, some, grown)) in
                let there : row_below (row ++ more) count ≡ row_words row ++ row_below more count =
                below_more row more count ∙ ap (λ (ws : List ℕ). ws ++ row_below more count) all in
                elim (none_or_one more count (omega (arith, few, many, fewer))) [
                  | inl nothing ↦ (
                    row_words more,
                    words_more row more
                        ∙ ap (λ (ws : List ℕ). ws ++ row_words more)
                        (sym (there ∙ ap (λ (ws : List ℕ). row_words row ++ ws) nothing ∙ append-nil (row_words row))),
                  )
                  | inr whole ↦ (
                    [],
                    words_more row more
                        ∙ ap (λ (ws : List ℕ). row_words row ++ ws) (sym whole)
                        ∙ sym there
                        ∙ sym (append-nil (row_below (row ++ more) count)),
                  )
                ]
          ]
    ]
