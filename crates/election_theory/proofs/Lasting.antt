-- Whose a begun term is stays, whoever stands, rests or is given a term.
use Rattle.std.proofs.Common.{◌≡◌, inl, inr, ℕ, ◌<◌, ◌≤◌, Bool, Option, Some, None, sym, ap, subst, ◌∙◌, arith}
use Rattle.interleaving.specs.Lists.{put}
use Rattle.interleaving.proofs.Put.{same_or_not, put_same, put_other}
use Rattle.fenced_theory.specs.Worlds.{Quorum}
use Rattle.fenced_theory.proofs.Growing.{some_none}
use Rattle.election_theory.specs.Elections.{Begun}
use Rattle.election_theory.proofs.Owning.{IsSpent, IsGivenTo, IsOwned, First, Won}

-- a term that is spent is none in which a candidate stands later
spent_stands : (stood standing : ℕ → ℕ) (candidate u : ℕ) → stood candidate < u → (c t : ℕ) → IsSpent stood standing c t →
    IsSpent (put stood candidate u) (put standing candidate u) c t
spent_stands stood standing candidate u above c t s =
    let past : t ≤ stood c = s.past in
    elim (same_or_not candidate c) [
      | inl e ↦
          let now : put stood candidate u c ≡ u = put_same stood candidate c u e in
          let there : put standing candidate u c ≡ u = put_same standing candidate c u e in
          let was : stood candidate ≡ stood c = ap stood e in
          record { past = omega arith; done = λ same. let at : put standing candidate u c ≡ t = same in absurd (omega arith) }
      | inr ne ↦
          record {
            past = subst (λ n. t ≤ n) (sym (put_other stood candidate c u ne)) past;
            done = λ same. s.done (sym (put_other standing candidate c u ne) ∙ same);
          }
    ]

-- nor one in which it stands where it rests, unless it is 0
spent_rests : (stood standing : ℕ → ℕ) (candidate c t : ℕ) → 0 < t → IsSpent stood standing c t → IsSpent stood (put standing candidate 0) c t
spent_rests stood standing candidate c t some s =
    record {
      past = s.past;
      done =
          λ same.
          elim (same_or_not candidate c) [
            | inl e ↦
                let now : put standing candidate 0 c ≡ 0 = put_same standing candidate c 0 e in
                let at : put standing candidate 0 c ≡ t = same in
                absurd (omega arith)
            | inr ne ↦ s.done (sym (put_other standing candidate c 0 ne) ∙ same)
          ];
    }

module _ (quorum : Quorum) (may : ℕ → ℕ → Bool) where
  -- a keeper that gave the term to somebody gives it to nobody else
  given_on : (to : ℕ → ℕ → Option ℕ) (keeper v candidate : ℕ) → to v keeper ≡ None → (u owner : ℕ) → IsGivenTo quorum may to u owner →
      IsGivenTo quorum may (put to v (put (to v) keeper (Some candidate))) u owner
  given_on to keeper v candidate free u owner g =
      record {
        chosen = g.chosen;
        enough = g.enough;
        gave =
            λ k under by.
            let was : to u k ≡ Some owner = g.gave k under by in
            elim (same_or_not v u) [
              | inr ne ↦ ap (λ row. row k) (put_other to v u (put (to v) keeper (Some candidate)) ne) ∙ was
              | inl e ↦
                  ap (λ row. row k) (put_same to v u (put (to v) keeper (Some candidate)) e) ∙
                  elim (same_or_not keeper k) [
                    | inr other ↦ put_other (to v) keeper k (Some candidate) other ∙ (ap (λ t. to t k) e ∙ was)
                    | inl same ↦ some_none was (ap (λ t. to t k) (sym e) ∙ (ap (to v) (sym same) ∙ free))
                  ]
            ];
      }

  pub owned_stands : (to : ℕ → ℕ → Option ℕ) (stood standing : ℕ → ℕ) (candidate u : ℕ) → stood candidate < u → (a : Begun) →
      IsOwned quorum may to stood standing a → IsOwned quorum may to (put stood candidate u) (put standing candidate u) a
  owned_stands to stood standing candidate u above a (First some spent) =
      First some (λ c. spent_stands stood standing candidate u above c a.term (spent c))
  owned_stands to stood standing candidate u above a (Won some spent can given) =
      Won some (spent_stands stood standing candidate u above a.candidate a.term spent) can given

  pub owned_rests : (to : ℕ → ℕ → Option ℕ) (stood standing : ℕ → ℕ) (candidate : ℕ) (a : Begun) →
      IsOwned quorum may to stood standing a → IsOwned quorum may to stood (put standing candidate 0) a
  owned_rests to stood standing candidate a (First some spent) = First some (λ c. spent_rests stood standing candidate c a.term some (spent c))
  owned_rests to stood standing candidate a (Won some spent can given) =
      Won some (spent_rests stood standing candidate a.candidate a.term some spent) can given

  pub owned_gives : (to : ℕ → ℕ → Option ℕ) (stood standing : ℕ → ℕ) (keeper v candidate : ℕ) → to v keeper ≡ None → (a : Begun) →
      IsOwned quorum may to stood standing a → IsOwned quorum may (put to v (put (to v) keeper (Some candidate))) stood standing a
  owned_gives to stood standing keeper v candidate free a (First some spent) = First some spent
  owned_gives to stood standing keeper v candidate free a (Won some spent can given) =
      Won some spent can (given_on to keeper v candidate free a.term a.candidate given)
