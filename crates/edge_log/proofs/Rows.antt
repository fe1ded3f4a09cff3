-- Rows of edges in order.
use Rattle.std.proofs.Common.{◌≡◌, ◌≢◌, ◌⊎◌, ℕ, zero, suc, ◌+◌, ◌-◌, ◌<◌, ◌≤◌, Bool, true, false, List, [], ◌∷◌, ◌++◌, length, get_or, set, take, drop, arith}
use Rattle.std.proofs.Common.{refl, sym, ap, subst, ◌∙◌, inl, inr, le_trans, All, AllPairs, Any, Contains, nat_lt, length-append, length-drop, length-take}
use Rattle.std.proofs.Common.{replicate, take-append-drop, add-one, ◌==◌, eq-eqb, ne_eqb, le_refl, append-nil, length-set, get_or-set_same, get_or-set_other}
use Rattle.std.specs.List.{AllWithin, insert, filter}
use Rattle.std.specs.List.Sorted.{IsNonDecreasingBy}
use Rattle.std.proofs.lemmas.Bool.{cases_lt, cases_eq, lt-ltb, le-ltb}
use Rattle.std.proofs.lemmas.List.{get_or_read, get_or-take, get_or-drop, get_or_append_left, get_or-append_right, get_or-append-add, drop_more, set_split}
use Rattle.std.proofs.lemmas.List.{get_or_default}
use Rattle.std.proofs.lemmas.List.Elements.{All-head, All-tail, filter-append, Contains-append_cases, Contains-append_left, Contains-append_right, All-contains}
use Rattle.ft_types.specs.declared.names.TheConstants.{HART_LIMIT}
use Rattle.edge_log.specs.declared.Edge.{Edge}
use Rattle.edge_log.specs.Rows.{ComesBefore, CannotComeBefore, IsTwin, TwinStands, IsPut, AsksAsMuch, SayOn, SaysAsMuch, AsksFor, IsRow, Takes, Said, Put, TakesAll}

pub before_trans : (a b c : Edge) → ComesBefore a b → ComesBefore b c → ComesBefore a c
before_trans a b c p q =
    let x : a.at ≤ b.at = p.no_later in
    let y : b.at ≤ c.at = q.no_later in
    record {
      no_later = omega arith;
      lower =
          λ e.
          let f : a.at ≡ b.at = omega arith in
          let g : b.at ≡ c.at = omega arith in
          let l : a.other < b.other = p.lower f in
          let m : b.other < c.other = q.lower g in
          omega arith;
    }

-- where the edge before the place comes before the edge, all before the place do
pub front_before : (xs : List Edge) (e x : Edge) (i : ℕ) → AllPairs ComesBefore xs → 0 < i → i ≤ length xs → x ≡ get_or xs (i - 1) x →
    ComesBefore x e → AllWithin (λ y. ComesBefore y e) xs 0 i
front_before xs e x i rising some within is before k d from below =
    let last : get_or xs (i - 1) d ≡ x = sym (get_or_read xs (i - 1) x (omega arith) is d) in
    elim (cases_lt k (i - 1)) [
      | inl less ↦ before_trans (get_or xs k d) x e (subst (λ y. ComesBefore (get_or xs k d) y) last (rising k (i - 1) d less (omega arith))) before
      | inr more ↦
          let same : k ≡ i - 1 = omega arith in
          rw (same, last) before
    ]

-- ---- an edge in its place

all_front : (P : Edge → Type 0) (xs : List Edge) (i : ℕ) → i ≤ length xs → AllWithin P xs 0 i → All P (take i xs)
all_front P xs i within all k d below =
    let less : k < i = omega (arith, length-take i xs) in
    rw (get_or-take i xs k d less) (all k d (omega arith) less)

all_back : (P : Edge → Type 0) (xs : List Edge) (i : ℕ) → i ≤ length xs → ((k : ℕ) (d : Edge) → i ≤ k → k < length xs → P (get_or xs k d)) → All P (drop i xs)
all_back P xs i within all k d below =
    rw (get_or-drop i xs k d) (all (i + k) d (omega arith) (omega (arith, length-drop i xs)))

twin_before : (a e b : Edge) → IsTwin a e → ComesBefore a b → ComesBefore e b
twin_before a e b twin before =
    let at : a.at ≡ e.at = twin.at in
    let other : a.other ≡ e.other = twin.other in
    let le : a.at ≤ b.at = before.no_later in
    record {
      no_later = omega arith;
      lower = λ same. let l : a.other < b.other = before.lower (omega arith) in omega arith;
    }

all_one : (P : Edge → Type 0) (x : Edge) → P x → All P (x ∷ [])
all_one P x p zero d below = p
all_one P x p (suc k) d below = absurd (omega arith)

pub put_over : (xs : List Edge) (e : Edge) (i : ℕ) → AllPairs ComesBefore xs → AllWithin (λ y. ComesBefore y e) xs 0 i → TwinStands xs i e →
    IsPut xs e (set xs i e)
put_over xs e i rising front stands =
    record {
      front = take i xs;
      twin = get_or xs i e ∷ [];
      back = drop (suc i) xs;
      was = sym (take-append-drop i xs) ∙ ap (λ b. take i xs ++ b) (drop_more xs i e stands.0 ∙ ap (λ n. get_or xs i e ∷ drop n xs) (add-one i));
      is = set_split xs i e stands.0;
      before = all_front (λ y. ComesBefore y e) xs i (omega arith) front;
      made_way = all_one (λ y. IsTwin y e) (get_or xs i e) (stands.1 e);
      behind =
          all_back (λ y. ComesBefore e y) xs (suc i) (omega arith)
          (λ k d from below. twin_before (get_or xs i d) e (get_or xs k d) (stands.1 d) (rising i k d (omega arith) below));
    }

pub put_between : (xs : List Edge) (e : Edge) (i : ℕ) → AllPairs ComesBefore xs → All (λ y. y.at ≤ e.at) xs → i ≤ length xs →
    AllWithin (λ y. ComesBefore y e) xs 0 i → AllWithin (λ y. CannotComeBefore y e) xs i (length xs) → (TwinStands xs i e → ⊥) →
    IsPut xs e (insert xs i e)
put_between xs e i rising last within front back none =
    record {
      front = take i xs;
      twin = [];
      back = drop i xs;
      was = sym (take-append-drop i xs);
      is = refl;
      before = all_front (λ y. ComesBefore y e) xs i within front;
      made_way = λ k d below. absurd (omega arith);
      behind = all_back (λ y. ComesBefore e y) xs i within behind;
    }
  where
    no_lower : (k : ℕ) (d : Edge) → i ≤ k → k < length xs → e.other ≤ (get_or xs k d).other
    no_lower k d from below =
        let c = back k d from below in
        let a : e.at ≤ (get_or xs k d).at = c.no_earlier in
        let b : (get_or xs k d).at ≤ e.at = last k d below in
        c.no_lower (omega arith)

    -- of any default
    twin_there : (d : Edge) → i < length xs → (get_or xs i d).other ≡ e.other → TwinStands xs i e
    twin_there d below same = (
      below,
      λ f.
          let is : get_or xs i f ≡ get_or xs i d = get_or_default xs i f d below in
          rw is
          (let c = back i d (omega arith) below in
          let a : e.at ≤ (get_or xs i d).at = c.no_earlier in
          let b : (get_or xs i d).at ≤ e.at = last i d below in
          record { at = omega arith; other = same }),
    )

    higher : (k : ℕ) (d : Edge) → i ≤ k → k < length xs → e.other < (get_or xs k d).other
    higher k d from below =
        elim (cases_lt i k) [
          | inl less ↦
              let first : e.other ≤ (get_or xs i d).other = no_lower i d (omega arith) (omega arith) in
              let pair = rising i k d less below in
              let c = back i d (omega arith) (omega arith) in
              let a : e.at ≤ (get_or xs i d).at = c.no_earlier in
              let b : (get_or xs i d).at ≤ (get_or xs k d).at = pair.no_later in
              let f : (get_or xs k d).at ≤ e.at = last k d below in
              let l : (get_or xs i d).other < (get_or xs k d).other = pair.lower (omega arith) in
              omega arith
          | inr more ↦
              let same : k ≡ i = omega arith in
              rw same
              (elim (cases_lt e.other (get_or xs i d).other) [
                | inl less ↦ less
                | inr le ↦
                    let first : e.other ≤ (get_or xs i d).other = no_lower i d (omega arith) (omega arith) in
                    absurd (none (twin_there d (omega arith) (omega arith)))
              ])
        ]

    behind : (k : ℕ) (d : Edge) → i ≤ k → k < length xs → ComesBefore e (get_or xs k d)
    behind k d from below =
        let c = back k d from below in
        let a : e.at ≤ (get_or xs k d).at = c.no_earlier in
        record { no_later = a; lower = λ same. higher k d from below }

-- ---- what an edge in its place leaves

pub here : {A : Type 0} (x : A) (xs : List A) → Contains (x ∷ xs) x
here x xs = Contains-append_left (x ∷ []) xs x (0, (omega arith), refl)

pub here_or_later : {A : Type 0} (x : A) (xs : List A) (y : A) → Contains (x ∷ xs) y → (x ≡ y) ⊎ Contains xs y
here_or_later x xs y h = elim (Contains-append_cases (x ∷ []) xs y h) [ inl one ↦ inl (only one) | inr later ↦ inr later ]
  where
    only : Contains (x ∷ []) y → x ≡ y
    only (zero, below, is) = is
    only (suc k, below, is) = absurd (omega arith)

pub put_has : (old : List Edge) (e : Edge) (new : List Edge) → IsPut old e new → Contains new e
put_has old e new put = rw put.is (Contains-append_right put.front (e ∷ put.back) e (here e put.back))

pub put_kept : (old : List Edge) (e : Edge) (new : List Edge) → IsPut old e new → (x : Edge) → Contains old x → Contains new x ⊎ IsTwin x e
put_kept old e new put x h =
    elim (Contains-append_cases put.front (put.twin ++ put.back) x (subst (λ l. Contains l x) put.was h)) [
      | inl front ↦ inl (rw put.is (Contains-append_left put.front (e ∷ put.back) x front))
      | inr rest ↦
          elim (Contains-append_cases put.twin put.back x rest) [
            | inl twin ↦ inr (All-contains (λ y. IsTwin y e) put.twin x put.made_way twin)
            | inr back ↦ inl (rw put.is (Contains-append_right put.front (e ∷ put.back) x (Contains-append_right (e ∷ []) put.back x back)))
          ]
    ]

pub put_among : (old : List Edge) (e : Edge) (new : List Edge) → IsPut old e new → (x : Edge) → Contains new x → (e ≡ x) ⊎ Contains old x
put_among old e new put x h =
    elim (Contains-append_cases put.front (e ∷ put.back) x (subst (λ l. Contains l x) put.is h)) [
      | inl front ↦ inr (rw put.was (Contains-append_left put.front (put.twin ++ put.back) x front))
      | inr rest ↦
          elim (here_or_later e put.back x rest) [
            | inl same ↦ inl same
            | inr back ↦ inr (rw put.was (Contains-append_right put.front (put.twin ++ put.back) x (Contains-append_right put.twin put.back x back)))
          ]
    ]

pub all_put : (P : Edge → Type 0) (old : List Edge) (e : Edge) (new : List Edge) → IsPut old e new → P e → All P old → All P new
all_put P old e new put one all k d below =
    elim (put_among old e new put (get_or new k d) (k, below, get_or_default new k (get_or new k d) d below)) [
      | inl same ↦ subst P same one
      | inr was ↦ All-contains P old (get_or new k d) all was
    ]

pairs_left : (R : Edge → Edge → Type 0) (xs ys : List Edge) → AllPairs R (xs ++ ys) → AllPairs R xs
pairs_left R xs ys all i j d less below =
    let p = all i j d less (omega (arith, length-append xs ys)) in
    rw (get_or_append_left xs ys d i (omega arith), get_or_append_left xs ys d j below) at p

pairs_right : (R : Edge → Edge → Type 0) (xs ys : List Edge) → AllPairs R (xs ++ ys) → AllPairs R ys
pairs_right R xs ys all i j d less below =
    let p = all (length xs + i) (length xs + j) d (omega arith) (omega (arith, length-append xs ys)) in
    rw (get_or-append-add xs ys i d, get_or-append-add xs ys j d) at p

pairs_append : (R : Edge → Edge → Type 0) (xs ys : List Edge) → AllPairs R xs → AllPairs R ys →
    ((i j : ℕ) (d : Edge) → i < length xs → j < length ys → R (get_or xs i d) (get_or ys j d)) → AllPairs R (xs ++ ys)
pairs_append R xs ys p q across i j d less below =
    elim (cases_lt j (length xs)) [
      | inl left ↦ rw (get_or_append_left xs ys d i (omega arith), get_or_append_left xs ys d j left) (p i j d less left)
      | inr right ↦
          elim (cases_lt i (length xs)) [
            | inl left ↦
                rw (get_or_append_left xs ys d i left, get_or-append_right xs ys (length xs) j d refl right)
                (across i (j - length xs) d left (omega (arith, length-append xs ys)))
            | inr both ↦
                rw (get_or-append_right xs ys (length xs) i d refl both, get_or-append_right xs ys (length xs) j d refl right)
                (q (i - length xs) (j - length xs) d (omega arith) (omega (arith, length-append xs ys)))
          ]
    ]

pairs_cons : (R : Edge → Edge → Type 0) (x : Edge) (xs : List Edge) → AllPairs R xs → All (R x) xs → AllPairs R (x ∷ xs)
pairs_cons R x xs p all i zero d less below = absurd (omega arith)
pairs_cons R x xs p all zero (suc j) d less below = all j d (omega arith)
pairs_cons R x xs p all (suc i) (suc j) d less below = p i j d (omega arith) (omega arith)

pub put_rising : (old : List Edge) (e : Edge) (new : List Edge) → IsPut old e new → AllPairs ComesBefore old → AllPairs ComesBefore new
put_rising old e new put rising =
    let all = subst (AllPairs ComesBefore) put.was rising in
    let front = pairs_left ComesBefore put.front (put.twin ++ put.back) all in
    let back = pairs_right ComesBefore put.twin put.back (pairs_right ComesBefore put.front (put.twin ++ put.back) all) in
    rw put.is
    (pairs_append ComesBefore put.front (e ∷ put.back) front (pairs_cons ComesBefore e put.back back put.behind) across)
  where
    across : (i j : ℕ) (d : Edge) → i < length put.front → j < length (e ∷ put.back) → ComesBefore (get_or put.front i d) (get_or (e ∷ put.back) j d)
    across i zero d a b = put.before i d a
    across i (suc j) d a b = before_trans (get_or put.front i d) e (get_or put.back j d) (put.before i d a) (put.behind j d (omega arith))

-- ---- the edges of a count

pub rising_counts : (xs : List Edge) → AllPairs ComesBefore xs → IsNonDecreasingBy (λ e. e.at) xs
rising_counts xs rising i j d le below =
    elim (cases_lt i j) [
      | inl less ↦ (rising i j d less below).no_later
      | inr more ↦ let same : i ≡ j = omega arith in subst (λ k. (get_or xs i d).at ≤ (get_or xs k d).at) same (le_refl (get_or xs i d).at)
    ]

filter_none : (p : Edge → Bool) (xs : List Edge) → All (λ e. p e ≡ false) xs → filter p xs ≡ []
filter_none p [] none = refl
filter_none p (x ∷ xs) none =
    rw (All-head (λ e. p e ≡ false) x xs none) (filter_none p xs (All-tail (λ e. p e ≡ false) x xs none))

filter_all : (p : Edge → Bool) (xs : List Edge) → All (λ e. p e ≡ true) xs → filter p xs ≡ xs
filter_all p [] all = refl
filter_all p (x ∷ xs) all =
    rw (All-head (λ e. p e ≡ true) x xs all) (ap (λ l. x ∷ l) (filter_all p xs (All-tail (λ e. p e ≡ true) x xs all)))

pub edges_at : (xs : List Edge) (n i j : ℕ) → i ≤ length xs → j ≤ length (drop i xs) →
    AllWithin (λ e. e.at < n) xs 0 i → AllWithin (λ e. n ≤ e.at) xs i (length xs) →
    AllWithin (λ e. e.at ≤ n) (drop i xs) 0 j → AllWithin (λ e. n < e.at) (drop i xs) j (length (drop i xs)) →
    take j (drop i xs) ≡ filter (λ e. e.at == n) xs
edges_at xs n i j within_i within_j before from upto after =
    let none : filter (λ e. e.at == n) (take i xs) ≡ [] =
    filter_none (λ e. e.at == n) (take i xs)
    (all_front (λ e. (e.at == n) ≡ false) xs i within_i (λ k d a b. ne_eqb (get_or xs k d).at n (let l : (get_or xs k d).at < n = before k d a b in
    omega arith))) in
    let all : filter (λ e. e.at == n) (take j (drop i xs)) ≡ take j (drop i xs) =
    filter_all (λ e. e.at == n) (take j (drop i xs))
    (all_front (λ e. (e.at == n) ≡ true) (drop i xs) j within_j
    (λ k d a b. eq-eqb (get_or (drop i xs) k d).at n
    (let l : (get_or (drop i xs) k d).at ≤ n = upto k d a b in let m : n ≤ (get_or (drop i xs) k d).at = later k d (omega arith) in omega arith))) in
    let over : filter (λ e. e.at == n) (drop j (drop i xs)) ≡ [] =
    filter_none (λ e. e.at == n) (drop j (drop i xs))
    (all_back (λ e. (e.at == n) ≡ false) (drop i xs) j within_j
    (λ k d a b. ne_eqb (get_or (drop i xs) k d).at n (let l : n < (get_or (drop i xs) k d).at = after k d a b in omega arith))) in
    sym
    (ap (filter (λ e. e.at == n)) (sym (take-append-drop i xs)) ∙
    (filter-append (λ e. e.at == n) (take i xs) (drop i xs) ∙
    (ap (λ l. l ++ filter (λ e. e.at == n) (drop i xs)) none ∙
    (ap (filter (λ e. e.at == n)) (sym (take-append-drop j (drop i xs))) ∙
    (filter-append (λ e. e.at == n) (take j (drop i xs)) (drop j (drop i xs)) ∙
    (ap (λ l. filter (λ e. e.at == n) (take j (drop i xs)) ++ l) over ∙ (append-nil (filter (λ e. e.at == n) (take j (drop i xs))) ∙ all)))))))
  where
    later : (k : ℕ) (d : Edge) → k < length (drop i xs) → n ≤ (get_or (drop i xs) k d).at
    later k d below = rw (get_or-drop i xs k d) (from (i + k) d (omega arith) (omega (arith, length-drop i xs)))

-- those of the steps before one count
pub edges_below : (xs : List Edge) (n i : ℕ) → i ≤ length xs → AllWithin (λ e. e.at < n) xs 0 i → AllWithin (λ e. n ≤ e.at) xs i (length xs) →
    filter (λ e. nat_lt e.at n) xs ≡ take i xs
edges_below xs n i within before from =
    let all = filter_all (λ e. nat_lt e.at n) (take i xs)
    (all_front (λ e. nat_lt e.at n ≡ true) xs i within (λ k d a b. lt-ltb (get_or xs k d).at n (before k d a b))) in
    let none = filter_none (λ e. nat_lt e.at n) (drop i xs)
    (all_back (λ e. nat_lt e.at n ≡ false) xs i within (λ k d a b. le-ltb (get_or xs k d).at n (from k d a b))) in
    ap (filter (λ e. nat_lt e.at n)) (sym (take-append-drop i xs))
    ∙ filter-append (λ e. nat_lt e.at n) (take i xs) (drop i xs)
    ∙ ap (λ l. l ++ filter (λ e. nat_lt e.at n) (drop i xs)) all
    ∙ ap (λ l. take i xs ++ l) none
    ∙ append-nil (take i xs)

-- Rows whose edges of the steps before one count end at i and at j.
module _ (old new : List Edge) (n i j : ℕ) (is_in : i ≤ length new) (was_in : j ≤ length old) (before : AllWithin (λ e. e.at < n) new 0 i)
    (from : AllWithin (λ e. n ≤ e.at) new i (length new)) (was_before : AllWithin (λ e. e.at < n) old 0 j)
    (was_from : AllWithin (λ e. n ≤ e.at) old j (length old)) where
  pub parts_say : take i new ≡ take j old → All (λ e. Any (λ by. AsksAsMuch by e) new) (drop j old) → SayOn old n new
  parts_say same rest =
      record {
        below = edges_below new n i is_in before from ∙ same ∙ sym (edges_below old n j was_in was_before was_from);
        said = λ k d small. elim (cases_lt k j) [
          | inl less ↦
              let as_long : i ≡ j = omega (arith, ap length same, length-take i new, length-take j old) in
              let less_new : k < i = omega arith in
              let is : get_or old k d ≡ get_or new k d =
              sym (get_or-take j old k d less) ∙ ap (λ (l : List Edge). get_or l k d) (sym same) ∙ get_or-take i new k d less_new in (
                k,
                get_or new k d,
                omega arith,
                get_or_default new k (get_or new k d) d (omega arith),
                rw is (record { other = refl; at = le_refl (get_or new k d).at; after = le_refl (get_or new k d).after }),
              )
          | inr more ↦
              let at : get_or (drop j old) (k - j) d ≡ get_or old k d =
              get_or-drop j old (k - j) d ∙ ap (λ m. get_or old m d) (let e : j + (k - j) ≡ k = omega arith in e) in
              subst (λ (e : Edge). Any (λ by. AsksAsMuch by e) new) at (rest (k - j) d (omega (arith, length-drop j old)))
        ];
      }

  pub say_parts : SayOn old n new → (take i new ≡ take j old) × All (λ e. Any (λ by. AsksAsMuch by e) new) (drop j old)
  say_parts says = (
    sym (edges_below new n i is_in before from) ∙ says.below ∙ edges_below old n j was_in was_before was_from,
    λ k d small.
        subst (λ (e : Edge). Any (λ by. AsksAsMuch by e) new) (sym (get_or-drop j old k d)) (says.said (j + k) d (omega (arith, length-drop j old))),
  )

-- at one count the other harts rise
pub others_rise : (xs : List Edge) (n i j : ℕ) → AllPairs ComesBefore xs → i ≤ length xs → j ≤ length (drop i xs) →
    AllWithin (λ e. n ≤ e.at) xs i (length xs) → AllWithin (λ e. e.at ≤ n) (drop i xs) 0 j → AllPairs (λ a b. a.other < b.other) (take j (drop i xs))
others_rise xs n i j rising within_i within_j from upto k l d less below =
    let short : l < j = omega (arith, length-take j (drop i xs)) in
    let size : length (drop i xs) ≡ length xs - i = length-drop i xs in
    let a : n ≤ (get_or xs (i + k) d).at = from (i + k) d (omega arith) (omega arith) in
    let b : (get_or xs (i + k) d).at ≤ n = rw (get_or-drop i xs k d) at (upto k d (omega arith) (omega arith)) in
    let e : n ≤ (get_or xs (i + l) d).at = from (i + l) d (omega arith) (omega arith) in
    let f : (get_or xs (i + l) d).at ≤ n = rw (get_or-drop i xs l d) at (upto l d (omega arith) short) in
    rw (get_or-take j (drop i xs) k d (omega arith), get_or-take j (drop i xs) l d short, get_or-drop i xs k d, get_or-drop i xs l d)
    ((rising (i + k) (i + l) d (omega arith) (omega arith)).lower (omega arith))

-- no edge is of a later count than the last
pub all_by_last : (xs : List Edge) (n : ℕ) (f : Edge) → AllPairs ComesBefore xs → 0 < length xs → (get_or xs (length xs - 1) f).at ≤ n → All (λ e. e.at ≤ n) xs
all_by_last xs n f rising some last k d below =
    let same : get_or xs (length xs - 1) f ≡ get_or xs (length xs - 1) d = get_or_default xs (length xs - 1) f d (omega arith) in
    le_trans (rising_counts xs rising k (length xs - 1) d (omega arith) (omega arith)) (subst (λ e. e.at ≤ n) same last)

-- the edge at a place is the first from a count on
pub first_at : (xs : List Edge) (n i : ℕ) → AllPairs ComesBefore xs → i < length xs → AllWithin (λ e. e.at < n) xs 0 i → (f : Edge) →
    All (λ e. n ≤ e.at → (get_or xs i f).at ≤ e.at) xs
first_at xs n i rising within before f k d below from =
    elim (cases_lt k i) [
      | inl less ↦ let l : (get_or xs k d).at < n = before k d (omega arith) less in absurd (omega arith)
      | inr more ↦
          let same : get_or xs i f ≡ get_or xs i d = get_or_default xs i f d within in
          rw same (rising_counts xs rising i k d more below)
    ]

-- ---- a row and the counts that it asks for

pub asks_as_much : (xs : List Edge) (reached : List ℕ) (e : Edge) → IsRow xs reached → All (λ y. y.at ≤ e.at) xs → 0 < e.after → e.other < HART_LIMIT →
    e.after ≤ get_or reached e.other 0 → SaysAsMuch xs e
asks_as_much xs reached e row last some hart le =
    let (by, is_edge, asks) = row.asked e.other hart (omega arith) in (
      by,
      is_edge,
      record {
        other = asks.other;
        at = All-contains (λ y. y.at ≤ e.at) xs by last is_edge;
        after = let same : by.after ≡ get_or reached e.other 0 = asks.after in omega arith;
      },
    )

pub asked_before : (xs : List Edge) (reached : List ℕ) (e : Edge) → IsRow xs reached → SaysAsMuch xs e → e.after ≤ get_or reached e.other 0
asked_before xs reached e row (by, is_edge, asks) =
    let most : by.after ≤ get_or reached by.other 0 = All-contains (λ y. y.after ≤ get_or reached y.other 0) xs by row.most is_edge in
    let more : e.after ≤ by.after = asks.after in
    le_trans more (subst (λ o. by.after ≤ get_or reached o 0) asks.other most)

-- what reads alike at each hart is as much the row of these edges
pub row_alike : (xs : List Edge) (reached longer : List ℕ) → IsRow xs reached → ((hart : ℕ) → get_or longer hart 0 ≡ get_or reached hart 0) → IsRow xs longer
row_alike xs reached longer row same =
    record {
      rising = row.rising;
      others = row.others;
      most = λ k d below. rw (same (get_or xs k d).other) (row.most k d below);
      asked = λ g small some. subst (λ n. (x : Edge) × Contains xs x × AsksFor g n x) (sym (same g)) (row.asked g small (rw (same g) at some));
    }

-- a row of counts that is made longer by counts of 0 reads as before
pub longer_reads : (reached : List ℕ) (more : ℕ) (hart : ℕ) → get_or (reached ++ replicate more 0) hart 0 ≡ get_or reached hart 0
longer_reads [] zero hart = refl
longer_reads [] (suc more) zero = refl
longer_reads [] (suc more) (suc hart) = longer_reads [] more hart
longer_reads (x ∷ xs) more zero = refl
longer_reads (x ∷ xs) more (suc hart) = longer_reads xs more hart

pub row_after : (old new : List Edge) (reached : List ℕ) (e : Edge) → IsRow old reached → IsPut old e new → e.other < HART_LIMIT →
    e.other < length reached → get_or reached e.other 0 < e.after → IsRow new (set reached e.other e.after)
row_after old new reached e row put hart there more =
    record {
      rising = put_rising old e new put row.rising;
      others = all_put (λ y. y.other < HART_LIMIT) old e new put hart row.others;
      most =
          all_put (λ y. y.after ≤ get_or (set reached e.other e.after) y.other 0) old e new put
          (rw (get_or-set_same reached e.other e.after 0 there) (le_refl e.after))
          (λ k d below. most (get_or old k d) (row.most k d below));
      asked = λ g small some. asked g small some (cases_eq g e.other);
    }
  where
    most : (y : Edge) → y.after ≤ get_or reached y.other 0 → y.after ≤ get_or (set reached e.other e.after) y.other 0
    most y le =
        elim (cases_eq y.other e.other) [
          | inl same ↦
              rw (same, get_or-set_same reached e.other e.after 0 there)
              (let l : y.after ≤ get_or reached e.other 0 = subst (λ o. y.after ≤ get_or reached o 0) same le in omega arith)
          | inr ne ↦ rw (get_or-set_other reached e.other y.other e.after 0 ne) le
        ]

    asked : (g : ℕ) → g < HART_LIMIT → 0 < get_or (set reached e.other e.after) g 0 → (g ≡ e.other) ⊎ (g ≢ e.other) →
        (x : Edge) × Contains new x × AsksFor g (get_or (set reached e.other e.after) g 0) x
    asked g small some (inl same) =
        (e, put_has old e new put, record { other = sym same; after = rw (same, get_or-set_same reached e.other e.after 0 there) refl })
    asked g small some (inr ne) =
        let kept : get_or (set reached e.other e.after) g 0 ≡ get_or reached g 0 = get_or-set_other reached e.other g e.after 0 ne in
        let (x, is_edge, asks) = row.asked g small (subst (λ n. 0 < n) kept some) in
        elim (put_kept old e new put x is_edge) [
          | inl is ↦ (x, is, record { other = asks.other; after = asks.after ∙ sym kept })
          | inr twin ↦ absurd (ne (sym asks.other ∙ twin.other))
        ]

-- ---- one edge after another

-- what holds of all edges and of the one that is added
pub all_taken : (P : Edge → Type 0) (start : List ℕ) (old : List Edge) (e : Edge) (new : List Edge) → Takes start old e new → P e → All P old → All P new
all_taken P start old e new (Said says same) one all = subst (All P) (sym same) all
all_taken P start old e new (Put not put) one all = all_put P old e new put one all

-- the rest is no earlier than the edges with the one that is added
pub rest_later : (start : List ℕ) (xs : List Edge) (i : ℕ) (e : Edge) (old new : List Edge) → AllPairs (λ a b. a.at ≤ b.at) xs → i < length xs →
    e ≡ get_or xs i e → Takes start old e new → AllWithin (λ x. All (λ y. y.at ≤ x.at) old) xs i (length xs) →
    AllWithin (λ x. All (λ y. y.at ≤ x.at) new) xs (i + 1) (length xs)
rest_later start xs i e old new rising small is takes last k d from below =
    let same : get_or xs i d ≡ e = sym (get_or_read xs i e small is d) in
    let pair : (get_or xs i d).at ≤ (get_or xs k d).at = rising i k d (omega arith) below in
    all_taken (λ y. y.at ≤ (get_or xs k d).at) start old e new takes (subst (λ y. y.at ≤ (get_or xs k d).at) same pair) (last k d (omega arith) below)

-- one more edge is added
pub takes_more : (start : List ℕ) (xs : List Edge) (i : ℕ) (e : Edge) (old now new : List Edge) → i < length xs → e ≡ get_or xs i e → Takes start old e now →
    TakesAll start now (drop (i + 1) xs) new → TakesAll start old (drop i xs) new
takes_more start xs i e old now new small is takes rest =
    let split : drop i xs ≡ e ∷ drop (i + 1) xs = drop_more xs i e small ∙ ap (λ y. y ∷ drop (i + 1) xs) (sym is) in
    subst (λ l. TakesAll start old l new) (sym split) (now, takes, rest)
