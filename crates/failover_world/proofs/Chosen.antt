-- Keepers that are named: their stores are of the world's history, and the join has what they have.
use Rattle.std.proofs.Common.{◌≡◌, inl, inr, ℕ, zero, suc, ◌+◌, ◌-◌, ◌<◌, ◌≤◌, ◌==◌, Bool, true, false, cond, List, [], ◌∷◌, ◌++◌, length, map, slice_index_or, Option, Some, None, if◌then◌else◌, refl, sym, ap, subst, ◌∙◌, arith}
use Rattle.std.specs.Prelude.{All}
use Rattle.std.specs.List.{list_any, flat_map, enumerate_from}
use Rattle.std.proofs.lemmas.List.Elements.{All-nil, All-cons, All-head, All-tail}
use Rattle.std.proofs.Math.Path.{fun_ext}
use Rattle.interleaving.specs.Lists.{put}
use Rattle.interleaving.proofs.Put.{same_or_not, put_same, put_other}
use Rattle.guest_image.specs.Image.{guest_of}
use Rattle.log_join.specs.Families.{Past, Family, opening_of, piece_of, HonestStore, Below}
use Rattle.log_join.specs.Stores.{StoreView, nothing}
use Rattle.log_join.proofs.Families.{honest_nothing}
use Rattle.hart_replay.specs.Images.{GuestHistory, IsHistoryOf}
use Rattle.hart_replay.specs.Primaries.{term_of as history_of}
use Rattle.fenced_theory.specs.Lists.{how_many}
use Rattle.fenced_theory.specs.Worlds.{HasGiven}
use Rattle.fenced_theory.proofs.Growing.{below_itself, below_trans, some_same, some_none}
use Rattle.fenced_theory.proofs.Stores.{see, honest_join}
use Rattle.go_live.specs.Quorums.{distinct_below, AreEnough}
use Rattle.go_live.proofs.Distinct.{within_length}
use Rattle.go_live.specs.Joined.{AreJoinedTo, AreJoined}
use Rattle.go_live.proofs.Joins.{joined_guest}
use Rattle.go_live.specs.Histories.{AreOfHistory}
use Rattle.failover_world.specs.Worlds.{WorldView, store_at, term_of}
use Rattle.failover_world.specs.Happenings.{if_named, stores_of}
use Rattle.failover_world.specs.machinery.Tied.{TermBook, Books, retold_in, history, told_as, quorum_of, live_term, IsTied}
use Rattle.failover_world.proofs.Places.{retold_put, there_too}
use Rattle.primary.proofs.Put.{put_put}
use Rattle.failover_world.proofs.Stopping.{kept}

-- whether the keeper is named and has a store
abbrev pub picks : List ℕ → ℕ → Option StoreView → Bool
picks named keeper None = false
picks named keeper (Some s) = list_any (λ n. n == keeper) named

abbrev pub chosen_of : List (Option StoreView) → List ℕ → ℕ → Bool
chosen_of stores named keeper = picks named keeper (store_at stores keeper)

-- the stores of keepers from a number on that are named
abbrev pub named_from : ℕ → List (Option StoreView) → List ℕ → List (ℕ × StoreView)
named_from n stores named = flat_map (λ s. if_named named s.0 s.1) (enumerate_from n stores)

pub each_named : (Q : StoreView → Type 0) (rest : List (Option StoreView)) (n : ℕ) (named : List ℕ) →
    ((k : ℕ) (s : StoreView) → store_at rest k ≡ Some s → Q s) → All Q (map (λ s. s.1) (named_from n rest named))
each_named Q [] n named each = All-nil Q
each_named Q (None ∷ rest) n named each = each_named Q rest (n + 1) named (λ k s at. each (suc k) s at)
each_named Q (Some x ∷ rest) n named each =
    of (list_any (λ m. m == n) named) (each_named Q rest (n + 1) named (λ k s at. each (suc k) s at))
  where
    of : (b : Bool) → All Q (map (λ s. s.1) (named_from (n + 1) rest named)) →
        All Q (map (λ s. s.1) ((if b then (n, x) ∷ [] else []) ++ named_from (n + 1) rest named))
    of true more = All-cons Q x (map (λ s. s.1) (named_from (n + 1) rest named)) (each 0 x refl) more
    of false more = more

-- and what holds of each that is named holds of it
of_named : (Q : StoreView → Type 0) (rest : List (Option StoreView)) (n : ℕ) (named : List ℕ) → All Q (map (λ s. s.1) (named_from n rest named)) →
    (k m : ℕ) (x : StoreView) → m ≡ k + n → store_at rest k ≡ Some x → list_any (λ j. j == m) named ≡ true → Q x
of_named Q [] n named all k m x at there is = some_none there refl
of_named Q (None ∷ rest) n named all zero m x at there is = some_none there refl
of_named Q (None ∷ rest) n named all (suc k) m x at there is = of_named Q rest (n + 1) named all k m x (omega (arith, at)) there is
of_named Q (Some y ∷ rest) n named all zero m x at there is =
    subst Q (some_same refl there)
    (of (list_any (λ j. j == n) named) (ap (λ i. list_any (λ j. j == i) named) (let e : n ≡ m = omega (arith, at) in e) ∙ is) all)
  where
    of : (b : Bool) → b ≡ true → All Q (map (λ s. s.1) ((if b then (n, y) ∷ [] else []) ++ named_from (n + 1) rest named)) → Q y
    of true e all = All-head Q y (map (λ s. s.1) (named_from (n + 1) rest named)) all
    of false e all = cc
of_named Q (Some y ∷ rest) n named all (suc k) m x at there is =
    of_named Q rest (n + 1) named (of (list_any (λ j. j == n) named) all) k m x (omega (arith, at)) there is
  where
    of : (b : Bool) → All Q (map (λ s. s.1) ((if b then (n, y) ∷ [] else []) ++ named_from (n + 1) rest named)) →
        All Q (map (λ s. s.1) (named_from (n + 1) rest named))
    of true all = All-tail Q y (map (λ s. s.1) (named_from (n + 1) rest named)) all
    of false all = all

-- ---- honest stores

-- what stores have, their join has
pub record HasAll {Told : Type 0} (terms : Family Told) (old : StoreView) (stores : List StoreView) (new : StoreView) : Type 0 where
  pub honest : HonestStore terms new
  pub first : Below old new
  pub each : All (λ s. Below s new) stores

pub joined_has : {Told : Type 0} (terms : Family Told) (old : StoreView) (stores : List StoreView) (new : StoreView) → HonestStore terms old →
    All (HonestStore terms) stores → AreJoinedTo old stores new → HasAll terms old stores new
joined_has terms old [] new honest all same =
    record {
      honest = subst (HonestStore terms) (sym same) honest;
      first = subst (Below old) (sym same) (below_itself old);
      each = All-nil (λ s. Below s new);
    }
joined_has terms old (store ∷ stores) new honest all (next, join, more) =
    let both = honest_join terms old store next honest (All-head (HonestStore terms) store stores all) join in
    let rest = joined_has terms next stores new both.honest (All-tail (HonestStore terms) store stores all) more in
    record {
      honest = rest.honest;
      first = below_trans both.left rest.first;
      each = All-cons (λ s. Below s new) store stores (below_trans both.right rest.first) rest.each;
    }

pub opening_retold : {A B : Type 0} (f : A → B) (p : Option (Past A)) → opening_of (retold_in f p) ≡ opening_of p
opening_retold f None = refl
opening_retold f (Some p) = refl

pub piece_retold : {A B : Type 0} (f : A → B) (p : Option (Past A)) (hart place : ℕ) → piece_of (retold_in f p) hart place ≡ piece_of p hart place
piece_retold f None hart place = refl
piece_retold f (Some p) hart place = refl

-- what is told of the terms says nothing of stores
pub honest_retold : {A B C : Type 0} (f : A → B) (g : A → C) (terms : ℕ → Option (Past A)) (s : StoreView) →
    HonestStore (λ u. retold_in f (terms u)) s → HonestStore (λ u. retold_in g (terms u)) s
honest_retold f g terms s honest =
    record {
      openings = λ term. elim (honest.openings term) [
        | inl none ↦ inl none
        | inr same ↦ inr (same ∙ opening_retold f (terms term) ∙ sym (opening_retold g (terms term)))
      ];
      fragments = λ key. elim (honest.fragments key) [
        | inl none ↦ inl none
        | inr same ↦ inr (same ∙ piece_retold f (terms key.term) key.hart key.place ∙ sym (piece_retold g (terms key.term) key.hart key.place))
      ];
    }

pub put_own : {A : Type 0} (f : ℕ → A) (n : ℕ) (x : A) → f n ≡ x → put f n x ≡ f
put_own f n x is =
    fun_ext (λ u. elim (same_or_not n u) [
      | inl same ↦ put_same f n u x same ∙ sym is ∙ ap f same
      | inr other ↦ put_other f n u x other
    ])

module _ (v : WorldView) (is : IsTied v) where
  -- the books' history is the image's
  pub is_history : IsHistoryOf v.image (history is.terms)
  is_history =
      subst (λ (h : GuestHistory). IsHistoryOf v.image h)
      (ap (λ (h : GuestHistory). put h (term_of v) (Some (live_term v is.pieces))) (retold_put (λ (t : TermBook v.image.pages). history_of t.book) is.terms (term_of v) None)
      ∙ put_put (history is.terms) (term_of v) None (Some (live_term v is.pieces))
      ∙ put_own (history is.terms) (term_of v) (Some (live_term v is.pieces))
      (ap (retold_in (λ (t : TermBook v.image.pages). history_of t.book)) is.there))
      (is.longer
      (ap (retold_in (λ (t : TermBook v.image.pages). history_of t.book)) (put_same is.terms (term_of v) (term_of v) None refl))
      v.primary.book (live_term v is.pieces) refl is.is_book.primary is.of_book refl)

  pub honest : (named : List ℕ) → AreOfHistory v.image (history is.terms) (map (λ s. s.1) (stores_of v.stores named))
  honest named =
      let its = kept is.is_recorder.recorder (guest_of v.image) (quorum_of v) is.comes in
      record {
        is_history = is_history;
        each =
            each_named (HonestStore (history is.terms)) v.stores 0 named
            (λ k s at.
            honest_retold (told_as v.image.pages is.are_theory) (λ (t : TermBook v.image.pages). history_of t.book) is.terms s
            (its.stores k s (there_too v.stores k s (Some (nothing (guest_of v.image))) at)));
      }

  module _ (named : List ℕ) where
    -- ---- the join

    abbrev terms : Family (Books v.image.pages is.are_theory)
    terms u = retold_in (told_as v.image.pages is.are_theory) (is.terms u)

    abbrev stores : ℕ → Option StoreView
    stores keeper = slice_index_or v.stores keeper (Some (nothing (guest_of v.image)))

    -- whoever is chosen has a store, and is named
    is_named : (k : ℕ) → chosen_of v.stores named k ≡ true → (s : StoreView) × (store_at v.stores k ≡ Some s) × (list_any (λ j. j == k) named ≡ true)
    is_named k chosen =
        elim (see (store_at v.stores k)) [
          | inl none ↦ let e : false ≡ true = sym (ap (picks named k) none) ∙ chosen in cc
          | inr (s, there) ↦ (s, there, sym (ap (picks named k) there) ∙ chosen)
        ]

    -- it has what each of them has
    pub all_given : (all : StoreView) → AreJoined (guest_of v.image) (map (λ s. s.1) (stores_of v.stores named)) all →
        HasGiven (guest_of v.image) terms stores (chosen_of v.stores named) (length v.stores) all
    all_given all joined =
        let its = kept is.is_recorder.recorder (guest_of v.image) (quorum_of v) is.comes in
        let j =
        joined_has terms (nothing (guest_of v.image)) (map (λ s. s.1) (stores_of v.stores named)) all (honest_nothing terms (guest_of v.image))
        (each_named (HonestStore terms) v.stores 0 named (λ k s at. its.stores k s (there_too v.stores k s (Some (nothing (guest_of v.image))) at))) joined in
        record {
          of_guest = joined_guest (nothing (guest_of v.image)) (map (λ s. s.1) (stores_of v.stores named)) all joined;
          honest = j.honest;
          has = λ k below chosen.
              let (s, there, named_too) = is_named k chosen in (
                s,
                there_too v.stores k s (Some (nothing (guest_of v.image))) there,
                of_named (λ s. Below s all) v.stores 0 named j.each k k s (omega arith) there named_too,
              );
        }

    -- ---- how many there are

    abbrev StandsFrom : ℕ → List (Option StoreView) → Type 0
    StandsFrom n rest = (k m : ℕ) → m ≡ k + n → store_at v.stores m ≡ store_at rest k

    next : (x : Option StoreView) (rest : List (Option StoreView)) (n : ℕ) → StandsFrom n (x ∷ rest) → StandsFrom (n + 1) rest
    next x rest n at k m is_so = at (suc k) m (omega (arith, is_so))

    next_count : (n : ℕ) (f : ℕ → Bool) (b : Bool) → f n ≡ b → how_many (n + 1) f ≡ cond b 1 0 + how_many n f
    next_count n f b is_so =
        ap (λ k. how_many k f) (let e : n + 1 ≡ suc n = omega arith in e) ∙ ap (λ (c : Bool). cond c 1 0 + how_many n f) is_so

    nothing_more : (a : ℕ) → 0 + a ≡ a
    nothing_more a = omega arith

    none_more : (a b c d : ℕ) → a + b ≡ c → b ≡ 0 + d → a + d ≡ c
    none_more a b c d one two = omega (arith, one, two)

    one_more : (a b c d : ℕ) → a + b ≡ c → b ≡ 1 + d → suc a + d ≡ c
    one_more a b c d one two = omega (arith, one, two)

    count_from : (rest : List (Option StoreView)) (n m : ℕ) → StandsFrom n rest → m ≡ length rest + n →
        length (map (λ s. s.0) (named_from n rest named)) + how_many n (chosen_of v.stores named) ≡ how_many m (chosen_of v.stores named)
    count_from [] n m at many = let e : n ≡ m = omega (arith, many) in nothing_more (how_many n (chosen_of v.stores named)) ∙ ap (λ k. how_many k (chosen_of v.stores named)) e
    count_from (None ∷ rest) n m at many =
        none_more (length (map (λ s. s.0) (named_from (n + 1) rest named))) (how_many (n + 1) (chosen_of v.stores named)) (how_many m (chosen_of v.stores named))
        (how_many n (chosen_of v.stores named)) (count_from rest (n + 1) m (next None rest n at) (omega (arith, many)))
        (next_count n (chosen_of v.stores named) false (ap (picks named n) (at 0 n (omega arith))))
    count_from (Some x ∷ rest) n m at many =
        of (list_any (λ k. k == n) named) refl (count_from rest (n + 1) m (next (Some x) rest n at) (omega (arith, many)))
      where
        of : (b : Bool) → list_any (λ k. k == n) named ≡ b →
            length (map (λ s. s.0) (named_from (n + 1) rest named)) + how_many (n + 1) (chosen_of v.stores named) ≡ how_many m (chosen_of v.stores named) →
            length (map (λ s. s.0) ((if b then (n, x) ∷ [] else []) ++ named_from (n + 1) rest named)) + how_many n (chosen_of v.stores named) ≡
            how_many m (chosen_of v.stores named)
        of true is_named rest_counted =
            one_more (length (map (λ s. s.0) (named_from (n + 1) rest named))) (how_many (n + 1) (chosen_of v.stores named))
            (how_many m (chosen_of v.stores named)) (how_many n (chosen_of v.stores named)) rest_counted
            (next_count n (chosen_of v.stores named) true (ap (picks named n) (at 0 n (omega arith)) ∙ is_named))
        of false is_named rest_counted =
            none_more (length (map (λ s. s.0) (named_from (n + 1) rest named))) (how_many (n + 1) (chosen_of v.stores named))
            (how_many m (chosen_of v.stores named)) (how_many n (chosen_of v.stores named)) rest_counted
            (next_count n (chosen_of v.stores named) false (ap (picks named n) (at 0 n (omega arith)) ∙ is_named))

    over : (keepers need some many all : ℕ) → keepers - need + 1 ≤ some → some ≤ many → many + 0 ≡ all → keepers < need + all
    over keepers need some many all one two three = omega (arith, one, two, three)

    pub enough : AreEnough v.keepers v.need (map (λ s. s.0) (stores_of v.stores named)) →
        v.keepers < v.need + how_many (length v.stores) (chosen_of v.stores named)
    enough are =
        over v.keepers v.need (distinct_below v.keepers (map (λ s. s.0) (stores_of v.stores named))) (length (map (λ s. s.0) (stores_of v.stores named)))
        (how_many (length v.stores) (chosen_of v.stores named)) are (within_length v.keepers (map (λ s. s.0) (stores_of v.stores named)))
        (count_from v.stores 0 (length v.stores) (λ k m is_so. ap (store_at v.stores) (let e : m ≡ k = omega (arith, is_so) in e)) (omega arith))
