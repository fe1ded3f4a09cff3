-- Whose a begun term is, and that it is nobody else's.
use Rattle.std.proofs.Common.{◌≡◌, ◌≢◌, ◌⊎◌, inl, inr, ℕ, ◌+◌, ◌<◌, ◌≤◌, Bool, true, Option, Some, sym, ap, subst, ◌∙◌, arith}
use Rattle.std.specs.Prelude.{◌==◌, ◌&&◌, nat_lt}
use Rattle.std.proofs.lemmas.Bool.{and_parts, eqb-true}
use Rattle.ballots.specs.Ballots.{candidate_of, renewal_of, may_stand}
use Rattle.fenced_theory.specs.Lists.{how_many}
use Rattle.fenced_theory.specs.Worlds.{Quorum}
use Rattle.fenced_theory.proofs.Growing.{some_same}
use Rattle.fenced_theory.proofs.Stores.{shared}
use Rattle.election_theory.specs.Elections.{Begun}
use Rattle.election_theory.specs.Laws.{AreDealt, AreShared, IsEnough, Overlaps}

pub overlaps : (quorum : Quorum) → Overlaps quorum
overlaps quorum few a b enough_a enough_b =
    let f : quorum.need + quorum.need < quorum.keepers + 2 = few in
    let g : quorum.keepers < quorum.need + how_many quorum.keepers a = enough_a in
    let h : quorum.keepers < quorum.need + how_many quorum.keepers b = enough_b in
    shared quorum.keepers a b (omega arith)

-- a term says whose it is
whose : (c u : ℕ) → may_stand c u ≡ true → candidate_of u ≡ c
whose c u may =
    let here = and_parts (nat_lt 0 u) ((candidate_of u == c) && (renewal_of u == 0)) may in
    eqb-true (candidate_of u) c (and_parts (candidate_of u == c) (renewal_of u == 0) here.1).0

pub dealt : AreDealt may_stand
dealt u c d of_c of_d = sym (whose c u of_c) ∙ whose d u of_d

-- the candidate stood in the term, and stands in it no more and never will
pub record IsSpent (stood standing : ℕ → ℕ) (candidate u : ℕ) : Type 0 where
  pub past : u ≤ stood candidate
  pub done : standing candidate ≢ u

module _ (quorum : Quorum) (may : ℕ → ℕ → Bool) where
  -- keepers that are enough gave the term to the candidate
  pub record IsGivenTo (to : ℕ → ℕ → Option ℕ) (u candidate : ℕ) : Type 0 where
    pub chosen : ℕ → Bool
    pub enough : IsEnough quorum chosen
    pub gave : (keeper : ℕ) → keeper < quorum.keepers → chosen keeper ≡ true → to u keeper ≡ Some candidate

  -- nobody may stand in the first term any more; a later one is its candidate's
  pub data IsOwned (to : ℕ → ℕ → Option ℕ) (stood standing : ℕ → ℕ) (a : Begun) : Type 0 where
    First : 0 < a.term → ((c : ℕ) → IsSpent stood standing c a.term) → IsOwned to stood standing a
    Won : 0 < a.term → IsSpent stood standing a.candidate a.term → may a.candidate a.term ≡ true → IsGivenTo to a.term a.candidate → IsOwned to stood standing a

  -- in what the candidate stands
  pub record Stands (stood standing : ℕ → ℕ) (candidate : ℕ) : Type 0 where
    pub past : standing candidate ≤ stood candidate
    pub can : may candidate (standing candidate) ≡ true

  -- nobody else begins it
  pub sole : AreDealt may ⊎ AreShared quorum → (to : ℕ → ℕ → Option ℕ) (stood standing : ℕ → ℕ) (a : Begun) → IsOwned to stood standing a →
      (candidate u : ℕ) → may candidate u ≡ true → IsGivenTo to u candidate → standing candidate ≡ u → a.term ≢ u
  sole rule to stood standing a (First some spent) candidate u can g stands e = (spent candidate).done (stands ∙ sym e)
  sole (inl dealt) to stood standing a (Won some spent can_a given) candidate u can g stands e =
      let same : a.candidate ≡ candidate = dealt u a.candidate candidate (subst (λ t. may a.candidate t ≡ true) e can_a) can in
      spent.done (ap standing same ∙ (stands ∙ sym e))
  sole (inr few) to stood standing a (Won some spent can_a given) candidate u can g stands e =
      let (k, under, by_a, by_c) = overlaps quorum few given.chosen g.chosen given.enough g.enough in
      let at_a : to u k ≡ Some a.candidate = subst (λ t. to t k ≡ Some a.candidate) e (given.gave k under by_a) in
      let same : a.candidate ≡ candidate = some_same at_a (g.gave k under by_c) in
      spent.done (ap standing same ∙ (stands ∙ sym e))
