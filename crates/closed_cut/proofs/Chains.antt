-- Sound terms, and the line that leads to one.
use Rattle.std.proofs.Common.{◌≡◌, ◌↔◌, ◌⊎◌, inl, inr, ℕ, zero, suc, ◌+◌, ◌-◌, ◌<◌, ◌≤◌, List, [], ◌∷◌, ◌++◌, All, Contains, length, get_or, refl, sym, ap}
use Rattle.std.proofs.Common.{subst, ◌∙◌, arith, le_refl, Bool, true, false, cond, ◌==◌, le-ltb, Result, Ok, Err, IfOk, slice_get, unwrap_or, drop, replicate}
use Rattle.std.specs.List.Sorted.{IsStrictlySortedBy, IsNonDecreasing, IsBinarySearchResult}
use Rattle.std.specs.Ordering.{nat_cmp}
use Rattle.std.specs.declared.cmp.Ordering.TheVariants.{Less, Equal, Greater}
use Rattle.std.specs.Result.{is_ok}
use Rattle.std.proofs.lemmas.Bool.{cases_lt, cases_eq}
use Rattle.std.proofs.lemmas.List.Elements.{All-push, All-contains, All-from_recursion, Contains-append_left, Contains-append_right}
use Rattle.std.proofs.lemmas.Option.{unwrap_or-slice_get}
use Rattle.std.proofs.lemmas.List.{get_or_default, get_or_past, get_or-replicate, length-replicate, drop_more}
use Rattle.std.proofs.lemmas.List.Sorted.{IsNonDecreasingBy-push, searched}
use Rattle.interleaving.proofs.Cuts.{here}
use Rattle.ft_types.specs.Counts.{count_at, IsWithin}
use Rattle.fragment_codec.specs.Rules.{OpeningParts}
use Rattle.log_join.specs.Cells.{One}
use Rattle.log_join.specs.Stores.{StoreView, opening_at, IsStore, AreTerms}
use Rattle.closed_cut.specs.Chain.{Sound, Root, Child, IsTop, IsParent, LeadsTo, IsChain, NoTerm, To}
use Rattle.closed_cut.specs.Position.{InChain, Self, Up}
use Rattle.closed_cut.specs.machinery.Walks.{AreSound, ComesAfter}
use Rattle.closed_cut.proofs.Walking.{one_same}

-- an opening stands at its own term, above its parent
pub term_above : (store : StoreView) (term : ℕ) (o : OpeningParts) → IsStore store → opening_at store term ≡ One o → (o.parent < term) × (0 < term)
term_above store term o rules one =
    let fits = rules.openings term o one in
    let same : o.term ≡ term = fits.same_term in
    let parent : o.parent < o.term = fits.rules.parent in
    let some : 1 ≤ o.term = fits.rules.granted in
    ((omega arith), (omega arith))

pub sound_opens : (store : StoreView) (term : ℕ) → Sound store term → (o : OpeningParts) × (opening_at store term ≡ One o)
sound_opens store term (Root o one first) = (o, one)
sound_opens store term (Child o p one sound two le) = (o, one)

-- the parent of a sound opening
pub record HasParent (store : StoreView) (o : OpeningParts) : Type 0 where
  pub sound : Sound store o.parent
  pub opening : OpeningParts
  pub opens : opening_at store o.parent ≡ One opening
  pub within : IsWithin opening.base o.base

pub sound_parent : (store : StoreView) (term : ℕ) (o : OpeningParts) → opening_at store term ≡ One o → 0 < o.parent → Sound store term → HasParent store o
sound_parent store term o one some (Root q two first) =
    let same : q.parent ≡ o.parent = ap (λ o. o.parent) (one_same two one) in absurd (omega arith)
sound_parent store term o one some (Child q p two sound three le) =
    subst (HasParent store) (one_same two one) (record { sound = sound; opening = p; opens = three; within = le })

not_less : (b : Bool) → cond b Equal Greater ≡ Less → ⊥
not_less true e = cc
not_less false e = cc

nat_less : (x y : ℕ) → nat_cmp x y ≡ Less → x < y
nat_less x y e = elim (cases_lt x y) [ inl less ↦ less | inr ge ↦ absurd (not_less (x == y) (rw (le-ltb x y ge) at e)) ]

-- the numbers of a rising list
pub rising_at : (xs : List ℕ) → IsStrictlySortedBy nat_cmp xs → (i j : ℕ) → i < j → j < length xs → get_or xs i 0 < get_or xs j 0
unfolding IsStrictlySortedBy
rising_at [] rising i j less below = absurd (omega arith)
rising_at (x ∷ xs) rising zero zero less below = absurd (omega arith)
rising_at (x ∷ xs) rising zero (suc j) less below =
    nat_less x (get_or xs j 0) (All-from_recursion (λ y. nat_cmp x y ≡ Less) xs rising.0 j 0 (omega arith))
rising_at (x ∷ xs) rising (suc i) zero less below = absurd (omega arith)
rising_at (x ∷ xs) rising (suc i) (suc j) less below = rising_at xs rising.1 i j (omega arith) (omega arith)

-- what a search in a rising list tells
pub search_tells : (xs : List ℕ) (x : ℕ) (r : Result ℕ ℕ) → IsBinarySearchResult (λ y. nat_cmp y x) xs r → IsNonDecreasing xs →
    (is_ok r ≡ true → Contains xs x) × (is_ok r ≡ false → Contains xs x → ⊥)
search_tells xs x (Ok i) found rising =
    let s = searched xs x (Ok i) found (λ i j. rising i j 0) in
    ((λ e. (i, s.0, get_or_default xs i x 0 s.0 ∙ s.1)), (λ e. cc))
search_tells xs x (Err i) found rising =
    let s = searched xs x (Err i) found (λ i j. rising i j 0) in (
      (λ e. cc),
      (λ e (k, below, is).
          let at : get_or xs k 0 ≡ x = get_or_default xs k 0 x below ∙ is in
          elim (cases_lt k i) [
            | inl before ↦ let l : get_or xs k 0 < x = s.1 k before in omega arith
            | inr behind ↦ let l : x < get_or xs k 0 = s.2 k behind below in omega arith
          ]),
    )

-- whether an opening with a parent is sound
pub sound_by_parent : (store : StoreView) (sound : List ℕ) (o p : OpeningParts) → IsStore store → opening_at store o.term ≡ One o → 0 < o.parent →
    opening_at store o.parent ≡ One p → ComesAfter store sound o.term → Sound store o.term ↔ (Contains sound o.parent × IsWithin p.base o.base)
sound_by_parent store sound o p rules one some two after = (
  (λ is.
      let h = sound_parent store o.term o one some is in
      let above = term_above store o.term o rules one in
      ((after o.parent).1 (above.0, h.sound), subst (λ (p : OpeningParts). IsWithin p.base o.base) (one_same h.opens two) h.within)),
  (λ both. Child o p one ((after o.parent).0 both.0).1 two both.1),
)

-- the sound terms among the first of the list
pub record AreFirst (store : StoreView) (terms sound : List ℕ) (index : ℕ) : Type 0 where
  pub rising : IsNonDecreasing sound
  pub among : All (Sound store) sound
  pub below : (k : ℕ) → index ≤ k → k < length terms → All (λ t. t < get_or terms k 0) sound
  pub has : (k : ℕ) → k < index → Sound store (get_or terms k 0) → Contains sound (get_or terms k 0)

module _ (store : StoreView) (terms : List ℕ) (are : AreTerms store terms) where
  -- a sound term's place
  pub place_of : (t : ℕ) → Sound store t → (k : ℕ) × (k < length terms) × (get_or terms k 0 ≡ t)
  place_of t sound =
      let (k, below, is) = (are.exact t).1 (sound_opens store t sound) in
      (k, below, get_or_default terms k 0 t below ∙ is)

  pub none_first : AreFirst store terms [] 0
  none_first =
      record {
        rising = λ i j d le below. absurd (omega arith);
        among = λ k d below. absurd (omega arith);
        below = λ k le under i d below. absurd (omega arith);
        has = λ k less sound. absurd (omega arith);
      }

  module _ (sound : List ℕ) (index : ℕ) (less : index < length terms) (first : AreFirst store terms sound index) where
    pub comes_after : ComesAfter store sound (get_or terms index 0)
    comes_after t = (
      (λ has. (
        All-contains (λ t. t < get_or terms index 0) sound t (first.below index (le_refl index) less) has,
        All-contains (Sound store) sound t first.among
            has,
      )),
      (λ both.
          let (k, below, is) = place_of t both.1 in
          elim (cases_lt k index) [
            | inl before ↦ subst (Contains sound) is (first.has k before (subst (Sound store) (sym is) both.1))
            | inr behind ↦
                let t_less : t < get_or terms index 0 = both.0 in
                elim (cases_eq k index) [
                  | inl same ↦ let e : get_or terms k 0 ≡ get_or terms index 0 = ap (λ n. get_or terms n 0) same in absurd (omega arith)
                  | inr ne ↦ let r : get_or terms index 0 < get_or terms k 0 = rising_at terms are.rising index k (omega arith) below in absurd (omega arith)
                ]
          ]),
    )

    pub skip_term : (Sound store (get_or terms index 0) → ⊥) → AreFirst store terms sound (index + 1)
    skip_term not =
        record {
          rising = first.rising;
          among = first.among;
          below = λ k le under. first.below k (omega arith) under;
          has =
              λ k under is.
              elim (cases_lt k index) [
                | inl before ↦ first.has k before is
                | inr at ↦ let same : k ≡ index = omega arith in absurd (not (subst (λ n. Sound store (get_or terms n 0)) same is))
              ];
        }

    pub add_term : (term : ℕ) → term ≡ get_or terms index 0 → Sound store term → AreFirst store terms (sound ++ term ∷ []) (index + 1)
    add_term term here_is is =
        record {
          rising =
              IsNonDecreasingBy-push (λ x. x) sound term first.rising
              (λ d some. let l : get_or sound (length sound - 1) d < get_or terms index 0 = first.below index (le_refl index) less (length sound - 1) d
              (omega arith) in omega arith);
          among = All-push (Sound store) sound term first.among is;
          below =
              λ k le under.
              All-push (λ t. t < get_or terms k 0) sound term (first.below k (omega arith) under)
              (let r : get_or terms index 0 < get_or terms k 0 = rising_at terms are.rising index k (omega arith) under in omega arith);
          has =
              λ k under at.
              elim (cases_lt k index) [
                | inl before ↦ Contains-append_left sound (term ∷ []) (get_or terms k 0) (first.has k before at)
                | inr behind ↦
                    let same : index ≡ k = omega arith in
                    subst (Contains (sound ++ term ∷ [])) (here_is ∙ ap (λ n. get_or terms n 0) same) (Contains-append_right sound (term ∷ []) term
                    (here term []))
              ];
        }

  pub all_sound : (sound : List ℕ) (index : ℕ) → length terms ≤ index → AreFirst store terms sound index → AreSound store sound
  all_sound sound index done first =
      record {
        rising = first.rising;
        exact = λ t. (
          (λ has. All-contains (Sound store) sound t first.among has),
          (λ is. let (k, below, at) = place_of t is in subst (Contains sound) at (first.has k (omega arith) (subst (Sound store) (sym at) is))),
        );
      }

-- the sound terms of a chain: whoever leads to a sound term is sound
pub leads_sound : (store : StoreView) (term : ℕ) (rest : List ℕ) (top : ℕ) → 0 < term → IsStore store → LeadsTo store term rest top → Sound store top →
    Sound store term
leads_sound store term [] top some rules same sound = subst (Sound store) (sym same) sound
leads_sound store term (next ∷ rest) top some rules (parent, on) sound =
    let above = term_above store next parent.opening rules parent.opens in
    let is : parent.opening.parent ≡ term = parent.is in
    let next_sound : Sound store next = leads_sound store next rest top above.1 rules on sound in
    subst (Sound store) is (sound_parent store next parent.opening parent.opens (omega arith) next_sound).sound

-- what follows from what a clause says of the value in an `Ok`
pub ok_then : {X E : Type 0} (r : Result X E) {P Q : X → Type 0} → IfOk r P → ((x : X) → P x → Q x) → IfOk r Q
ok_then (Ok x) holds follows = follows x holds
ok_then (Err e) holds follows = tt

-- the last of the sound terms is the top, where there is one
pub top_of : (store : StoreView) (sound : List ℕ) (top : ℕ) → AreSound store sound → top ≡ unwrap_or (slice_get sound (length sound - 1)) 0 →
    ((top ≡ 0) × ((term : ℕ) → Sound store term → ⊥)) ⊎ IsTop store top
top_of store [] top are is = inl (is, (λ term s. let (k, below, at) = (are.exact term).1 s in absurd (omega arith)))
top_of store (x ∷ xs) top are is =
    inr
    (record {
      sound = (are.exact top).0 (length (x ∷ xs) - 1, last, get_or_default (x ∷ xs) (length (x ∷ xs) - 1) top 0 last ∙ sym here_is);
      greatest =
          λ other s.
          let (k, below, at) = (are.exact other).1 s in
          let le : get_or (x ∷ xs) k other ≤ get_or (x ∷ xs) (length (x ∷ xs) - 1) other = are.rising k (length (x ∷ xs) - 1) other (omega arith) last in
          let e : get_or (x ∷ xs) (length (x ∷ xs) - 1) other ≡ top = get_or_default (x ∷ xs) (length (x ∷ xs) - 1) other 0 last ∙ sym here_is in
          omega arith;
    })
  where
    last : length (x ∷ xs) - 1 < length (x ∷ xs)
    last = omega arith

    here_is : top ≡ get_or (x ∷ xs) (length (x ∷ xs) - 1) 0
    here_is = is ∙ unwrap_or-slice_get (x ∷ xs) (length (x ∷ xs) - 1) 0

-- from 0 along these terms to the last of the sound terms
pub chain_is : (store : StoreView) (terms : List ℕ) (top : ℕ) → ((top ≡ 0) × ((term : ℕ) → Sound store term → ⊥)) ⊎ IsTop store top →
    LeadsTo store 0 terms top → IsChain store terms
chain_is store terms top (inr is_top) leads = To top is_top leads
chain_is store [] top (inl none) leads = NoTerm none.1 refl
chain_is store (x ∷ rest) top (inl none) (parent, on) = absurd (none.1 x (Root parent.opening parent.opens parent.is))

-- ---- walks along a chain

pub chain_up : (store : StoreView) (term : ℕ) (o : OpeningParts) → opening_at store term ≡ One o → {top : ℕ} → InChain store term top →
    InChain store o.parent top
chain_up store term o one (Self e) = Up o (ap (opening_at store) e ∙ one) (Self refl)
chain_up store term o one (Up p two chain) = Up p two (chain_up store term o one chain)

pub leads_in_chain : (store : StoreView) (term : ℕ) (rest : List ℕ) (top : ℕ) → LeadsTo store term rest top → InChain store term top
leads_in_chain store term [] top same = Self (sym same)
leads_in_chain store term (next ∷ rest) top (parent, on) =
    subst (λ t. InChain store t top) parent.is (chain_up store next parent.opening parent.opens (leads_in_chain store next rest top on))

pub leads_last : (store : StoreView) (term : ℕ) (rest : List ℕ) (top : ℕ) → LeadsTo store term rest top → get_or (term ∷ rest) (length rest) 0 ≡ top
leads_last store term [] top same = same
leads_last store term (next ∷ rest) top (parent, on) = leads_last store next rest top on

-- a term's base is not below that of the term before it
pub next_within : (store : StoreView) (now next : ℕ) (o n : OpeningParts) (rest : List ℕ) (top : ℕ) → IsStore store → opening_at store now ≡ One o →
    opening_at store next ≡ One n → n.parent ≡ now → LeadsTo store next rest top → Sound store top → IsWithin o.base n.base
next_within store now next o n rest top rules one two is leads sound =
    let here = term_above store now o rules one in
    let above = term_above store next n rules two in
    let h = sound_parent store next n two (let l : 0 < now = here.1 in omega arith) (leads_sound store next rest top above.1 rules leads sound) in
    subst (λ (p : OpeningParts). IsWithin p.base n.base) (one_same (subst (λ t. opening_at store t ≡ One h.opening) is h.opens) one) h.within

-- rows of one length with equal counts are equal
pub row_same : (a b : List ℕ) → length a ≡ length b → ((h : ℕ) → count_at a h ≡ count_at b h) → a ≡ b
row_same [] [] e same = refl
row_same [] (y ∷ ys) e same = absurd (omega arith)
row_same (x ∷ xs) [] e same = absurd (omega arith)
row_same (x ∷ xs) (y ∷ ys) e same = cc (same 0, row_same xs ys (omega arith) (λ h. same (suc h)))

-- the next opening of a chain
pub record IsNext (store : StoreView) (now next : OpeningParts) (rest : List ℕ) (top : ℕ) : Type 0 where
  pub opens : opening_at store next.term ≡ One next
  pub parent : next.parent ≡ now.term
  pub leads : LeadsTo store next.term rest top

pub next_of : (store : StoreView) (now next : OpeningParts) (rest : List ℕ) (index top : ℕ) → IsStore store → index < length rest →
    LeadsTo store now.term (drop index rest) top → opening_at store (get_or rest index 0) ≡ One next → IsNext store now next (drop (index + 1) rest) top
next_of store now next rest index top rules less leads one =
    let (parent, on) = subst (λ l. LeadsTo store now.term l top) (drop_more rest index 0 less) leads in
    let same : next.term ≡ get_or rest index 0 = (rules.openings (get_or rest index 0) next one).same_term in
    record {
      opens = subst (λ t. opening_at store t ≡ One next) (sym same) one;
      parent = ap (λ o. o.parent) (one_same one parent.opens) ∙ parent.is;
      leads = subst (λ t. LeadsTo store t (drop (index + 1) rest) top) (sym same) on;
    }

-- ---- a chain as it is walked

-- a chain that begins with this term
pub record IsLine (store : StoreView) (first : ℕ) (rest : List ℕ) (top : ℕ) : Type 0 where
  pub is_top : IsTop store top
  pub parent : IsParent store 0 first
  pub leads : LeadsTo store first rest top

pub line_of_chain : (store : StoreView) (terms : List ℕ) (first : ℕ) (rest : List ℕ) (top : ℕ) → IsChain store terms → terms ≡ first ∷ rest →
    top ≡ unwrap_or (slice_get terms (length terms - 1)) 0 → IsLine store first rest top
line_of_chain store terms first rest top (NoTerm none empty) is last = let not : first ∷ rest ≡ [] = sym is ∙ empty in cc
line_of_chain store terms first rest top (To t is_top leads) is last =
    let (parent, on) = subst (λ l. LeadsTo store 0 l t) is leads in
    let short : length (first ∷ rest) - 1 ≡ length rest = omega arith in
    let same : t ≡ top =
    sym (leads_last store first rest t on) ∙
    (ap (λ n. get_or (first ∷ rest) n 0) (sym short) ∙
    (sym (unwrap_or-slice_get (first ∷ rest) (length (first ∷ rest) - 1) 0) ∙
    (ap (λ l. unwrap_or (slice_get l (length l - 1)) 0) (sym is) ∙ sym last))) in
    subst (IsLine store first rest) same (record { is_top = is_top; parent = parent; leads = on })

pub no_chain : (store : StoreView) (terms : List ℕ) → IsStore store → IsChain store terms → length terms ≡ 0 → (term : ℕ) → Sound store term → ⊥
no_chain store terms rules (NoTerm none empty) short term sound = none term sound
no_chain store [] rules (To t is_top leads) short term sound =
    let (o, one) = sound_opens store t is_top.sound in let some = term_above store t o rules one in absurd (omega (arith, some.1, leads))
no_chain store (x ∷ xs) rules (To t is_top leads) short term sound = absurd (omega arith)

-- what follows from two clauses
pub both_then : {X E : Type 0} (r : Result X E) {P Q R : X → Type 0} → IfOk r P → IfOk r Q → ((x : X) → P x → Q x → R x) → IfOk r R
both_then (Ok x) one other follows = follows x one other
both_then (Err e) one other follows = tt

pub zero_row : (n h : ℕ) → count_at (replicate n 0) h ≡ 0
zero_row n h =
    elim (cases_lt h n) [
      | inl less ↦ get_or-replicate n h 0 0 less
      | inr over ↦ get_or_past (replicate n 0) h 0 (let zero : ℕ = 0 in let l : length (replicate n zero) ≡ n = length-replicate n zero in omega arith)
    ]
