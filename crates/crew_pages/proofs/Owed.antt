-- The edges that an asker owes, hart by hart.
use Rattle.std.proofs.Common.{◌≡◌, ◌≢◌, ◌↔◌, inl, inr, ℕ, ◌+◌, ◌<◌, ◌≤◌, Bool, true, false, List, [], ◌∷◌, ◌++◌, length, get_or, Option, Some, None, All}
use Rattle.std.proofs.Common.{AllPairs, Contains, not, ◌==◌, eq-eqb, ne_eqb, refl, sym, ap, subst, ◌∙◌, arith, true≢false}
use Rattle.std.proofs.lemmas.Bool.{cases_lt, cases_eq}
use Rattle.std.proofs.lemmas.List.Elements.{All-push, Contains-append_cases, Contains-append_left, Contains-append_right}
use Rattle.std.proofs.lemmas.List.{length_push}
use Rattle.smallvec.specs.SmallVec.{SmallVec}
use Rattle.std.proofs.lemmas.List.Quantifiers.{all_pairs_push}
use Rattle.ft_types.specs.declared.names.Want.{Want}
use Rattle.ft_types.specs.declared.names.TheConstants.{HART_LIMIT, HART_ROW}
use Rattle.interleaving.proofs.Cuts.{here, here_or_later}
use Rattle.edge_log.specs.declared.Edge.{Edge}
use Rattle.edge_log.specs.EdgeLog.{edge_as}
use Rattle.crew_pages.specs.declared.right.LastWriter.{LastWriter}
use Rattle.crew_pages.specs.declared.right.PageRight.{PageRight}
use Rattle.crew_pages.specs.declared.right.PageRight.TheVariants as stored
use Rattle.crew_pages.specs.Rights.{Right, Shared, right_of, has_it, stands, IsFree, after_count, IsOwed}

some_is : (a b : ℕ) → Some a ≡ Some b → a ≡ b
some_is a b e = cc

module _ (r : Right) (h : ℕ) (want : Want) (at : ℕ) (n : ℕ) (xs : List Edge) where
  abbrev pub Owed : Edge → Type 0
  Owed x = IsOwed r h want at (edge_as x)

  -- the edges to the first n harts
  abbrev pub AreOwedTo : ℕ → List Edge → Type 0
  AreOwedTo k ys = (x : Edge) → Contains ys x ↔ ((x.other < k) × Owed x)

  -- nothing is owed to the next
  pub same_owed : AreOwedTo n xs → ((x : Edge) → Owed x → x.other ≢ n) → AreOwedTo (n + 1) xs
  same_owed exact none x = (
    (λ is. let p = (exact x).0 is in let l : x.other < n = p.0 in (omega arith, p.1)),
    (λ p.
        elim (cases_lt x.other n) [
          | inl less ↦ (exact x).1 (less, p.1)
          | inr more ↦ let l : x.other < n + 1 = p.0 in absurd (none x p.1 (omega arith))
        ]),
  )

  -- an edge is
  module _ (after : ℕ) (lacks : has_it r h want ≡ false) (ne : n ≢ h) (small : n < HART_LIMIT) (is : after_count r want n ≡ Some after) where
    abbrev e : Edge
    e = record { hart = h; at = at; other = n; after = after }

    is_owed : Owed e
    is_owed = record { lacks = lacks; own = refl; at = refl; other = ne; is_hart = small; after = is }

    same_edge : (x : Edge) → Owed x → x.other ≡ n → e ≡ x
    same_edge x owed to =
        let count : after ≡ x.after = some_is after x.after (sym is ∙ (ap (after_count r want) (sym to) ∙ owed.after)) in
        λ i. record { hart = sym owed.own i; at = sym owed.at i; other = sym to i; after = count i }

    pub one_owed : AreOwedTo n xs → AreOwedTo (n + 1) (xs ++ e ∷ [])
    one_owed exact x = (
      (λ is_in.
          elim (Contains-append_cases xs (e ∷ []) x is_in) [
            | inl old ↦ let p = (exact x).0 old in let l : x.other < n = p.0 in (omega arith, p.1)
            | inr new ↦
                elim (here_or_later e [] x new) [
                  | inl same ↦ subst (λ x. (x.other < n + 1) × Owed x) same (let l : n < n + 1 = omega arith in l, is_owed)
                  | inr (k, below, at) ↦ absurd (omega arith)
                ]
          ]),
      (λ p.
          elim (cases_lt x.other n) [
            | inl less ↦ Contains-append_left xs (e ∷ []) x ((exact x).1 (less, p.1))
            | inr more ↦
                let l : x.other < n + 1 = p.0 in
                Contains-append_right xs (e ∷ []) x (subst (Contains (e ∷ [])) (same_edge x p.1 (omega arith)) (here e []))
          ]),
    )

    pub one_rises : All (λ x. x.other < n) xs → AllPairs (λ a b. a.other < b.other) xs → AllPairs (λ a b. a.other < b.other) (xs ++ e ∷ [])
    one_rises below rising = all_pairs_push (λ a b. a.other < b.other) xs e rising (λ k d l. below k d l)

    pub one_below : All (λ x. x.other < n) xs → All (λ x. x.other < n + 1) (xs ++ e ∷ [])
    one_below below = All-push (λ x. x.other < n + 1) xs e (λ k d l. let b : (get_or xs k d).other < n = below k d l in omega arith)
        (let l : n < n + 1 = omega arith in l)

-- what a loop over the first n harts has found so far
pub record SoFar (r : Right) (h : ℕ) (want : Want) (at n : ℕ) (v : SmallVec Edge) : Type 0 where
  pub room : length v.items ≤ n
  pub inline : v.capacity ≡ HART_ROW
  pub below : All (λ e. e.other < n) v.items
  pub exact : AreOwedTo r h want at n v.items n v.items
  pub rising : AllPairs (λ a b. a.other < b.other) v.items

pub goes_on_same : (r : Right) (h : ℕ) (want : Want) (at n : ℕ) (v w : SmallVec Edge) → SoFar r h want at n v → w ≡ v →
    ((x : Edge) → IsOwed r h want at (edge_as x) → x.other ≢ n) → SoFar r h want at (n + 1) w
goes_on_same r h want at n v w so same none =
    subst (SoFar r h want at (n + 1)) (sym same)
    (record {
      room = let l : length v.items ≤ n = so.room in omega arith;
      inline = so.inline;
      below = λ k d l. let b : (get_or v.items k d).other < n = so.below k d l in omega arith;
      exact = same_owed r h want at n v.items so.exact none;
      rising = so.rising;
    })

pub goes_on_one : (r : Right) (h : ℕ) (want : Want) (at n after : ℕ) (v w : SmallVec Edge) → SoFar r h want at n v → has_it r h want ≡ false →
    n ≢ h → n < HART_LIMIT → after_count r want n ≡ Some after → w.items ≡ v.items ++ record { hart = h; at = at; other = n; after = after } ∷ [] →
    w.capacity ≡ v.capacity → SoFar r h want at (n + 1) w
goes_on_one r h want at n after v w so lacks ne small is items capacity =
    record {
      room =
          let l : length v.items ≤ n = so.room in
          let size : length w.items ≡ length v.items + 1 = ap length items ∙ length_push v.items (record { hart = h; at = at; other = n; after = after }) in
          omega arith;
      inline = capacity ∙ so.inline;
      below = rw items (one_below r h want at n v.items after lacks ne small is so.below);
      exact = rw items (one_owed r h want at n v.items after lacks ne small is so.exact);
      rising = rw items (one_rises r h want at n v.items after lacks ne small is so.below so.rising);
    }

pub not_other : (a b : ℕ) → not (a == b) ≡ true → a ≢ b
not_other a b is same = true≢false (sym is ∙ ap not (eq-eqb a b same))

pub same_hart : (a b : ℕ) → not (a == b) ≡ false → a ≡ b
same_hart a b is = elim (cases_eq a b) [ inl same ↦ same | inr ne ↦ absurd (true≢false (sym (ap not (ne_eqb a b ne)) ∙ is)) ]

-- of all harts
pub all_owed : (r : Right) (h : ℕ) (want : Want) (at n : ℕ) (v : SmallVec Edge) → SoFar r h want at n v →
    ((x : Edge) → IsOwed r h want at (edge_as x) → x.other < n) → (x : Edge) → Contains v.items x ↔ IsOwed r h want at (edge_as x)
all_owed r h want at n v so within x = ((λ is_in. ((so.exact x).0 is_in).1), (λ owed. (so.exact x).1 (within x owed, owed)))

-- an edge is owed to a hart that the page's right names
pub owed_within : (right : PageRight) (since : Option LastWriter) (readers : List Bool) (left : List (Option ℕ)) (h : ℕ) (want : Want) (at n reach : ℕ) →
    right ≡ stored.Shared since readers left →
    ((is : ℕ → Bool) (asked : Want) (other : ℕ) → reach ≤ other → after_count (Shared since is (λ g. get_or left g None)) asked other ≡ None) →
    reach ≤ n → (x : Edge) → IsOwed (right_of right) h want at (edge_as x) → x.other < n
owed_within right since readers left h want at n reach is beyond most x owed =
    elim (cases_lt x.other n) [
      | inl less ↦ less
      | inr more ↦
          let none = beyond (λ g. get_or readers g false) want x.other (omega (arith, more, most)) in
          let some = subst (λ (s : PageRight). after_count (right_of s) want x.other ≡ Some x.after) is owed.after in
          let clash = sym none ∙ some in cc
    ]

pub count_is : (right : PageRight) (since : Option LastWriter) (readers : List Bool) (left : List (Option ℕ)) (want : Want) (n other : ℕ) (result : Option ℕ) →
    right ≡ stored.Shared since readers left → other ≡ n →
    ((is : ℕ → Bool) → result ≡ after_count (Shared since is (λ g. get_or left g None)) want other) → after_count (right_of right) want n ≡ result
count_is right since readers left want n other result is same gives =
    ap (λ (s : PageRight). after_count (right_of s) want n) is ∙
    (ap (λ (k : ℕ). after_count (right_of (stored.Shared since readers left)) want k) (sym same) ∙ sym (gives (λ g. get_or readers g false)))

pub pushed : (xs ys : List Edge) (h at other n after : ℕ) → ys ≡ xs ++ record { hart = h; at = at; other = other; after = after } ∷ [] → other ≡ n →
    ys ≡ xs ++ record { hart = h; at = at; other = n; after = after } ∷ []
pushed xs ys h at other n after is same =
    is ∙ ap (λ (k : ℕ). let e : Edge = record { hart = h; at = at; other = k; after = after } in xs ++ e ∷ []) same

-- where a flag is set, a right stands
pub one_stands : (r : Right) (h : ℕ) (want : Want) (flags : List Bool) → ((g : ℕ) → (get_or flags g false ≡ true) ↔ (stands r h want g ≡ true)) →
    (((g : ℕ) → get_or flags g false ≡ true → ⊥) → ⊥) → IsFree r h want → ⊥
one_stands r h want flags exact some free = some (λ g is. true≢false (sym ((exact g).0 is) ∙ free g))
