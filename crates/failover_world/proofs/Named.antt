-- Keepers that are named: how many have a store, and the greatest term in those stores.
use Rattle.std.proofs.Common.{◌≡◌, ◌⊎◌, inl, inr, ℕ, zero, suc, ◌+◌, ◌-◌, ◌<◌, ◌≤◌, ◌==◌, max, Bool, true, false, if◌then◌else◌, List, [], ◌∷◌, ◌++◌, length, length-append, map, take, get_or, Option, Some, None, refl, sym, ap, subst, ◌∙◌, arith}
use Rattle.std.specs.List.{list_any, flat_map, enumerate_from}
use Rattle.std.proofs.lemmas.Bool.Decides.{eqb_tells}
use Rattle.std.proofs.lemmas.List.{map-append}
use Rattle.std.proofs.lemmas.List.Elements.{All-nil, All-weaker, All-push}
use Rattle.std.proofs.lemmas.List.Quantifiers.{Any-push}
use Rattle.std.proofs.lemmas.Option.{slice_get-get_or}
use Rattle.log_join.specs.Stores.{StoreView, IsLastTerm}
use Rattle.go_live.specs.declared.fault.LiveFault.{LiveFault}
use Rattle.go_live.specs.declared.fault.LiveFault.TheVariants.{TooFewStores, TermNotNew, Replay, Memory as NoLive}
use Rattle.go_live.specs.Quorums.{distinct_below, AreEnough, HasTerm, IsNew, IsOld}
use Rattle.go_live.proofs.Distinct.{none_below, one_below}
use Rattle.go_live.proofs.Newness.{is_later, not_both}
use Rattle.failover_world.specs.Worlds.{WorldView, term_of}
use Rattle.failover_world.specs.Happenings.{if_named, stores_of}
use Rattle.failover_world.specs.Refusals.{CannotGoLive}
use Rattle.primary.proofs.Rows.{take_next}
use Rattle.failover_world.proofs.Rows.{take_length, enumerate_more, flat_more}
use Rattle.failover_world.proofs.Chosen.{named_from}

-- one keeper more
pub one_more : (stores : List (Option StoreView)) (numbers : List ℕ) (n : ℕ) → n < length stores →
    stores_of (take (n + 1) stores) numbers ≡ stores_of (take n stores) numbers ++ if_named numbers n (get_or stores n None)
one_more stores numbers n lt =
    let x = get_or stores n None in
    let next : take (n + 1) stores ≡ take n stores ++ x ∷ [] =
    ap (λ k. take k stores) (let e : n + 1 ≡ suc n = omega arith in e) ∙ take_next stores n x (slice_get-get_or stores n None lt) in
    ap (λ xs. stores_of xs numbers) next
    ∙ ap (flat_map (λ s. if_named numbers s.0 s.1)) (enumerate_more 0 (take n stores) x)
    ∙ flat_more (λ (s : ℕ × Option StoreView). if_named numbers s.0 s.1) (enumerate_from 0 (take n stores)) (0 + length (take n stores), x)
    ∙ ap (λ k. stores_of (take n stores) numbers ++ if_named numbers k x) (let e : 0 + length (take n stores) ≡ n = let many = take_length stores n (omega (arith, lt)) in omega (arith, many) in e)

-- ---- each is named once

-- those from a number on have no number before it
none_before : (named : List ℕ) (k : ℕ) (stores : List (Option StoreView)) (n : ℕ) → n < k →
    list_any (λ m. m == n) (map (λ s. s.0) (named_from k stores named)) ≡ false
none_before named k [] n less = refl
none_before named k (None ∷ stores) n less = none_before named (k + 1) stores n (omega (arith, less))
none_before named k (Some x ∷ stores) n less =
    of (list_any (λ m. m == k) named) (none_before named (k + 1) stores n (omega (arith, less)))
  where
    of : (b : Bool) → list_any (λ m. m == n) (map (λ s. s.0) (named_from (k + 1) stores named)) ≡ false →
        list_any (λ m. m == n) (map (λ s. s.0) ((if b then (k, x) ∷ [] else []) ++ named_from (k + 1) stores named)) ≡ false
    of true rest = elim (eqb_tells k n) [
      | inl (this, same) ↦ absurd (omega (arith, same, less))
      | inr (this, other) ↦ rw this rest
    ]
    of false rest = rest

each_once : (named : List ℕ) (limit k : ℕ) (stores : List (Option StoreView)) → k + length stores ≤ limit →
    distinct_below limit (map (λ s. s.0) (named_from k stores named)) ≡ length (named_from k stores named)
each_once named limit k [] within = none_below limit
each_once named limit k (None ∷ stores) within = each_once named limit (k + 1) stores (omega (arith, within))
each_once named limit k (Some x ∷ stores) within =
    of (list_any (λ m. m == k) named) (none_before named (k + 1) stores k (omega arith)) (each_once named limit (k + 1) stores (omega (arith, within)))
  where
    of : (b : Bool) → list_any (λ m. m == k) (map (λ s. s.0) (named_from (k + 1) stores named)) ≡ false →
        distinct_below limit (map (λ s. s.0) (named_from (k + 1) stores named)) ≡ length (named_from (k + 1) stores named) →
        distinct_below limit (map (λ s. s.0) ((if b then (k, x) ∷ [] else []) ++ named_from (k + 1) stores named)) ≡
        length ((if b then (k, x) ∷ [] else []) ++ named_from (k + 1) stores named)
    of true none rest =
        let others = map (λ s. s.0) (named_from (k + 1) stores named) in
        one_below limit k others (omega (arith, within))
        ∙ ap (λ (b : Bool). if b then distinct_below limit others else distinct_below limit others + 1) none
        ∙ (let e : distinct_below limit others + 1 ≡ suc (length (named_from (k + 1) stores named)) = omega (arith, rest) in e)
    of false none rest = rest

-- ---- what is told of them

-- how many they are, and the greatest term of a key in their stores, or 0
pub record AreTold (named : List (ℕ × StoreView)) (many last : ℕ) : Type 0 where
  pub length_is : many ≡ length named
  pub new : IsNew (map (λ s. s.1) named) (last + 1)
  pub old : IsOld (map (λ s. s.1) named) last

pub told_none : AreTold [] 0 0
told_none =
    record {
      length_is = refl;
      new = record { granted = omega arith; later = All-nil (λ store. (other : ℕ) → HasTerm store other → other < 0 + 1) };
      old = inl refl;
    }

newer : (stores : List StoreView) (term more : ℕ) → term ≤ more → IsNew stores term → IsNew stores more
newer stores term more le new =
    record {
      granted = let some = new.granted in omega (arith, some, le);
      later =
          All-weaker (λ store. (other : ℕ) → HasTerm store other → other < term) (λ store. (other : ℕ) → HasTerm store other → other < more)
          (λ store is other has. let less = is other has in omega (arith, less, le)) stores new.later;
    }

older : (stores : List StoreView) (term less : ℕ) → less ≤ term → IsOld stores term → IsOld stores less
older stores term less le (inl none) = inl (omega (arith, none, le))
older stores term less le (inr (k, s, within, is, (other, upto, has))) = inr (k, s, within, is, (other, omega (arith, upto, le), has))

at_left : {A : Type 0} (xs ys : List A) (k : ℕ) (d : A) → k < length xs → get_or (xs ++ ys) k d ≡ get_or xs k d
at_left [] ys k d lt = absurd (omega (arith, lt))
at_left (x ∷ xs) ys zero d lt = refl
at_left (x ∷ xs) ys (suc k) d lt = at_left xs ys k d (omega (arith, lt))

still_old : (stores : List StoreView) (s : StoreView) (term : ℕ) → IsOld stores term → IsOld (stores ++ s ∷ []) term
still_old stores s term (inl none) = inl none
still_old stores s term (inr (k, x, within, is, has)) =
    inr (
      k,
      x,
      (let more = length-append stores (s ∷ []) in let e : k < length (stores ++ s ∷ []) = omega (arith, within, more) in e),
      at_left stores (s ∷ []) k x within ∙ is,
      has,
    )

-- the greater of two terms
old_more : (stores : List StoreView) (last : ℕ) (s : StoreView) (own : ℕ) → IsOld stores last → IsLastTerm s own → IsOld (stores ++ s ∷ []) (max last own)
old_more stores last s own old is =
    elim is.there [
      | inl none ↦ older (stores ++ s ∷ []) last (max last own) (omega (arith, none)) (still_old stores s last old)
      | inr here ↦ elim (eqb_tells (max last own) own) [
        | inl (this, same) ↦
            inr (Any-push (λ store. (other : ℕ) × (max last own ≤ other) × HasTerm store other) stores s (own, omega (arith, same), here))
        | inr (this, other) ↦ older (stores ++ s ∷ []) last (max last own) (omega (arith, other)) (still_old stores s last old)
      ]
    ]

pub told_more : (named : List (ℕ × StoreView)) (many last keeper : ℕ) (s : StoreView) (own : ℕ) → AreTold named many last → IsLastTerm s own →
    AreTold (named ++ (keeper, s) ∷ []) (many + 1) (max last own)
told_more named many last keeper s own told is =
    let stores : List StoreView = map (λ x. x.1) named in
    let both = map-append (λ (x : ℕ × StoreView). x.1) named ((keeper, s) ∷ []) in
    record {
      length_is = let one = length-append named ((keeper, s) ∷ []) in let before = told.length_is in omega (arith, one, before);
      new =
          subst (λ xs. IsNew xs (max last own + 1)) (sym both)
          (record {
            granted = omega arith;
            later =
                All-push (λ store. (other : ℕ) → HasTerm store other → other < max last own + 1) stores s
                (newer stores (last + 1) (max last own + 1) (omega arith) told.new).later
                (is_later s own (max last own + 1) is (omega arith));
          });
      old = subst (λ xs. IsOld xs (max last own)) (sym both) (old_more stores last s own told.old is);
    }

-- ---- faults of a grant

pub told_of : (v : WorldView) (named : List ℕ) (stores : List (Option StoreView)) (many last : ℕ) → stores ≡ v.stores →
    many ≡ length (stores_of stores named) → IsNew (map (λ s. s.1) (stores_of stores named)) (last + 1) →
    IsOld (map (λ s. s.1) (stores_of stores named)) last → AreTold (stores_of v.stores named) many last
told_of v named stores many last are length_is new old =
    subst (λ xs. AreTold (stores_of xs named) many last) are (record { length_is = length_is; new = new; old = old })

module _ (v : WorldView) (term : ℕ) (named : List ℕ) (many last : ℕ) (told : AreTold (stores_of v.stores named) many last)
    (all : length v.stores ≡ v.keepers) where
  each : distinct_below v.keepers (map (λ s. s.0) (stores_of v.stores named)) ≡ length (stores_of v.stores named)
  each = each_once named v.keepers 0 v.stores (omega (arith, all))

  pub too_few : many ≤ v.keepers - v.need → CannotGoLive v term named TooFewStores
  too_few few = λ enough.
      let once = each in
      let length_is = told.length_is in
      let are : v.keepers - v.need + 1 ≤ distinct_below v.keepers (map (λ s. s.0) (stores_of v.stores named)) = enough in
      omega (arith, few, once, length_is, are)

  are_enough : v.keepers - v.need < many → AreEnough v.keepers v.need (map (λ s. s.0) (stores_of v.stores named))
  are_enough most = let once = each in let length_is = told.length_is in omega (arith, most, once, length_is)

  pub not_new : v.keepers - v.need < many → (term ≤ term_of v) ⊎ (term ≤ last) → CannotGoLive v term named TermNotNew
  not_new most (inl earlier) = (are_enough most, inl earlier)
  not_new most (inr within) = (are_enough most, inr (older (map (λ s. s.1) (stores_of v.stores named)) last term within told.old))

  pub none_due : v.keepers - v.need < many → term_of v < term → last < term → (fault : LiveFault) → CannotGoLive v term named fault → ⊥
  none_due most later new TooFewStores due = due (are_enough most)
  none_due most later new TermNotNew (enough, inl earlier) = omega (arith, later, earlier)
  none_due most later new TermNotNew (enough, inr old) =
      not_both (map (λ s. s.1) (stores_of v.stores named)) term
      (newer (map (λ s. s.1) (stores_of v.stores named)) (last + 1) term (omega (arith, new)) told.new) old
  none_due most later new (Replay fault) due = due
  none_due most later new NoLive due = due
