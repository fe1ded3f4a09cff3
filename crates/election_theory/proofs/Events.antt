-- Each event keeps whose each term is; the law.
use Rattle.std.proofs.Common.{◌≡◌, ◌≢◌, ◌⊎◌, inl, inr, ℕ, suc, ◌<◌, ◌≤◌, Bool, true, Contains, Some, None, refl, sym, ap, subst, ◌∙◌, arith}
use Rattle.interleaving.specs.Lists.{put, Each, EachPair}
use Rattle.interleaving.proofs.Put.{same_or_not, put_same, put_other}
use Rattle.interleaving.proofs.Each.{each_at, each_more}
use Rattle.ft_types.specs.Guests.{GuestParts}
use Rattle.ft_types.specs.declared.position.Position.{Position}
use Rattle.log_join.specs.Families.{Past, no_terms}
use Rattle.fenced_theory.specs.Recorders.{Recorder, IsBoot}
use Rattle.fenced_theory.specs.Worlds.{Quorum, World, first_term, new_term}
use Rattle.fenced_theory.specs.Worlds as fences
use Rattle.fenced_theory.proofs.Growing.{some_none}
use Rattle.fenced_theory.proofs.Stores.{see}
use Rattle.fenced_theory.proofs.Onward.{put_cases}
use Rattle.fenced_theory.proofs.Events.{failover}
use Rattle.fenced_theory.proofs.Noted.{right_notes}
use Rattle.election_theory.specs.Elections.{Begun, Election, Happens, Other, Stand, Rest, Give, Begin, Comes, Nobody, Begins, Then, empty_election, first_election, stands, rests, gave, begins}
use Rattle.election_theory.specs.Laws.{AreDealt, AreShared, Unique}
use Rattle.election_theory.proofs.Owning.{IsGivenTo, IsOwned, First, Won, Stands, sole}
use Rattle.election_theory.proofs.Lasting.{owned_stands, owned_rests, owned_gives}

module _ {Book Fact : Type 0} (recorder : Recorder Book Fact) (guest : GuestParts) (quorum : Quorum) (may : ℕ → ℕ → Bool) where
  abbrev Owned : Election Book → Begun → Type 0
  Owned e a = IsOwned quorum may e.to e.stood e.standing a

  -- what each candidate stands in, if in anything
  abbrev AllStand : (ℕ → ℕ) → (ℕ → ℕ) → Type 0
  AllStand stood standing = (c : ℕ) → (standing c ≡ 0) ⊎ Stands quorum may stood standing c

  pub record Invariant (e : Election Book) : Type 0 where
    pub comes : fences.Comes recorder guest quorum e.world
    pub stand : AllStand e.stood e.standing
    pub began : (u : ℕ) (p : Past Book) → e.world.terms u ≡ Some p → (c : ℕ) × Contains e.begun (record { term = u; candidate = c })
    pub owned : Each (Owned e) e.begun
    pub once : EachPair (λ a b. a.term ≢ b.term) e.begun

  -- ---- each event

  on_other : (e : Election Book) (v : World Book) → Invariant e → fences.Happens recorder guest quorum e.world v →
      ((u : ℕ) → e.world.terms u ≡ None → v.terms u ≡ None) → Invariant (record e { world = v })
  on_other e v i h none =
      record {
        comes = fences.Then i.comes h;
        stand = i.stand;
        began =
            λ u p is.
            elim (see (e.world.terms u)) [
              | inl free ↦ some_none is (none u free)
              | inr (q, was) ↦ i.began u q was
            ];
        owned = i.owned;
        once = i.once;
      }

  -- whoever stands in the term stood in none that is as late
  all_stand : (e : Election Book) (candidate u : ℕ) → AllStand e.stood e.standing → may candidate u ≡ true → e.stood candidate < u →
      AllStand (put e.stood candidate u) (put e.standing candidate u)
  all_stand e candidate u stand can above c =
      elim (same_or_not candidate c) [
        | inl same ↦
            let now : put e.standing candidate u c ≡ u = put_same e.standing candidate c u same in
            let kept : put e.stood candidate u c ≡ u = put_same e.stood candidate c u same in
            inr (record { past = omega arith; can = subst (λ t. may c t ≡ true) (sym now) (subst (λ d. may d u ≡ true) same can) })
        | inr ne ↦ elim (stand c) [
          | inl none ↦ inl (put_other e.standing candidate c u ne ∙ none)
          | inr s ↦
              let now : put e.standing candidate u c ≡ e.standing c = put_other e.standing candidate c u ne in
              let kept : put e.stood candidate u c ≡ e.stood c = put_other e.stood candidate c u ne in
              let past : e.standing c ≤ e.stood c = s.past in
              inr (record { past = omega arith; can = subst (λ t. may c t ≡ true) (sym now) s.can })
        ]
      ]

  on_stand : (e : Election Book) (candidate u : ℕ) → Invariant e → may candidate u ≡ true → e.stood candidate < u → Invariant (stands e candidate u)
  on_stand e candidate u i can above =
      record {
        comes = i.comes;
        stand = all_stand e candidate u i.stand can above;
        began = i.began;
        owned =
            each_more (Owned e) (Owned (stands e candidate u)) (owned_stands quorum may e.to e.stood e.standing candidate u above) e.begun i.owned;
        once = i.once;
      }

  all_rest : (e : Election Book) (candidate : ℕ) → AllStand e.stood e.standing → AllStand e.stood (put e.standing candidate 0)
  all_rest e candidate stand c =
      elim (same_or_not candidate c) [
        | inl same ↦ inl (put_same e.standing candidate c 0 same)
        | inr ne ↦ elim (stand c) [
          | inl none ↦ inl (put_other e.standing candidate c 0 ne ∙ none)
          | inr s ↦
              let now : put e.standing candidate 0 c ≡ e.standing c = put_other e.standing candidate c 0 ne in
              let past : e.standing c ≤ e.stood c = s.past in
              inr (record { past = omega arith; can = subst (λ t. may c t ≡ true) (sym now) s.can })
        ]
      ]

  -- ---- a term begins

  -- who stands in a term that is not 0 may, and stood in it
  in_it : (e : Election Book) (candidate u : ℕ) → Invariant e → e.standing candidate ≡ u → 1 ≤ u → (u ≤ e.stood candidate) × (may candidate u ≡ true)
  in_it e candidate u i here some =
      elim (i.stand candidate) [
        | inl none ↦ absurd (omega arith)
        | inr s ↦
            let past : e.standing candidate ≤ e.stood candidate = s.past in
            (omega arith, subst (λ t. may candidate t ≡ true) here s.can)
      ]

  -- no term of the world is the one in which the candidate stands
  is_free : (e : Election Book) (u : ℕ) → Invariant e → ((a : Begun) → Owned e a → a.term ≢ u) → e.world.terms u ≡ None
  is_free e u i others =
      elim (see (e.world.terms u)) [
        | inl none ↦ none
        | inr (q, is) ↦
            let (c, at) = i.began u q is in
            absurd (others (record { term = u; candidate = c }) (each_at (Owned e) e.begun (record { term = u; candidate = c }) i.owned at) refl)
      ]

  -- the term begins, which its world allows where it was not begun
  on_begin : AreDealt may ⊎ AreShared quorum → (e : Election Book) (candidate u : ℕ) (p : Position) (b : Book) (marks : ℕ → ℕ) →
      Invariant e → e.standing candidate ≡ u → IsGivenTo quorum may e.to u candidate → 1 ≤ u →
      (e.world.terms u ≡ None → fences.Happens recorder guest quorum e.world (fences.granted guest e.world u p b marks)) →
      Invariant (begins guest e candidate u p b marks)
  on_begin rule e candidate u p b marks i here given some grants =
      record {
        comes = fences.Then i.comes (grants (is_free e u i others));
        stand = all_rest e candidate i.stand;
        began =
            λ v q is.
            elim (put_cases e.world.terms u (new_term guest u p b) v q is) [
              | inl (same, f) ↦ (candidate, (0, omega arith, ap (λ t. record { term = t; candidate = candidate }) same))
              | inr was ↦ let (c, (k, below, at)) = i.began v q was in (c, (suc k, omega arith, at))
            ];
        owned = (Won some (record { past = stood.0; done = done }) stood.1 given, each_more (Owned e) (Owned after) on e.begun i.owned);
        once = (each_more (Owned e) (λ a. u ≢ a.term) (λ a o same. others a o (sym same)) e.begun i.owned, i.once);
      }
    where
      after : Election Book
      after = begins guest e candidate u p b marks

      stood : (u ≤ e.stood candidate) × (may candidate u ≡ true)
      stood = in_it e candidate u i here some

      others : (a : Begun) → Owned e a → a.term ≢ u
      others a o = sole quorum may rule e.to e.stood e.standing a o candidate u stood.1 given here

      done : put e.standing candidate 0 candidate ≢ u
      done same = let now : put e.standing candidate 0 candidate ≡ 0 = put_same e.standing candidate candidate 0 refl in absurd (omega arith)

      on : (a : Begun) → Owned e a → Owned after a
      on = owned_rests quorum may e.to e.stood e.standing candidate

  -- ---- all of them

  empty : Invariant (empty_election guest)
  empty = record { comes = fences.Nobody; stand = λ c. inl refl; began = λ u p is. some_none is refl; owned = tt; once = tt }

  first : (b : Book) → IsBoot recorder b → Invariant (first_election guest b)
  first b boots =
      record {
        comes = fences.Begins b boots;
        stand = λ c. inl refl;
        began =
            λ u p is.
            elim (put_cases no_terms 1 (first_term guest b) u p is) [
              | inl (same, f) ↦ (0, (0, omega arith, ap (λ t. record { term = t; candidate = 0 }) same))
              | inr none ↦ some_none none refl
            ];
        owned = (First (omega arith) (λ c. record { past = omega arith; done = λ e. absurd (omega arith) }), tt);
        once = (tt, tt);
      }

  keep : AreDealt may ⊎ AreShared quorum → (e f : Election Book) → Invariant e → Happens recorder guest quorum may e f → Invariant f
  keep rule e f i (Other v h none) = on_other e v i h none
  keep rule e f i (Stand candidate u can above) = on_stand e candidate u i can above
  keep rule e f i (Rest candidate) =
      record {
        comes = i.comes;
        stand = all_rest e candidate i.stand;
        began = i.began;
        owned = each_more (Owned e) (Owned (rests e candidate)) (owned_rests quorum may e.to e.stood e.standing candidate) e.begun i.owned;
        once = i.once;
      }
  keep rule e f i (Give keeper candidate u s free is under) =
      record {
        comes = fences.Then i.comes (fences.Fence keeper u s is under);
        stand = i.stand;
        began = i.began;
        owned =
            each_more (Owned e) (Owned (gave e keeper candidate u s)) (owned_gives quorum may e.to e.stood e.standing keeper u candidate free) e.begun i.owned;
        once = i.once;
      }
  keep rule e f i (Begin candidate u chosen all p b marks here to has enough new position rules begun marked) =
      on_begin rule e candidate u p b marks i here (record { chosen = chosen; enough = enough; gave = to }) rules.granted
      (λ free. fences.Grant u chosen all p b marks free has enough new position rules begun marked)

  pub always : AreDealt may ⊎ AreShared quorum → {e : Election Book} → Comes recorder guest quorum may e → Invariant e
  always rule Nobody = empty
  always rule (Begins b boots) = first b boots
  always rule (Then {e = e} {f = f} c h) = keep rule e f (always rule c) h

  pub unique : Unique recorder guest quorum may
  unique rule e comes =
      let i = always rule comes in
      record {
        once = i.once;
        began = i.began;
        fenced = i.comes;
        lawful = failover recorder guest quorum e.world i.comes;
        noted = right_notes recorder guest quorum e.world i.comes;
      }
