-- A list of steps with one pulled out from behind steps that it does not meet.
use Rattle.std.proofs.Common.{◌≡◌, ◌≢◌, ℕ, Bool, true, false, cond, List, ◌∷◌, filter, refl, ap, ◌∙◌}
use Rattle.interleaving.specs.Lists.{Each, EachPair}
use Rattle.interleaving.specs.Machine.{Machine, Step, Writes, after, after_all}
use Rattle.interleaving.proofs.Put.{put_swap, written_swap}

-- they are of different harts, and write no page in common
pub record IsApart {Hart Page Input : Type 0} (s t : Step Hart Page Input) : Type 0 where
  pub harts : s.hart ≢ t.hart
  pub pages : (page : ℕ) → Writes s.effect page → Writes t.effect page → ⊥

-- the first list is the second with t put in, behind steps that are apart from it
pub data Pulled {Hart Page Input : Type 0} (t : Step Hart Page Input) : List (Step Hart Page Input) → List (Step Hart Page Input) → Type 0 where
  Here : {rest : List (Step Hart Page Input)} → Pulled t (t ∷ rest) rest
  There : {s : Step Hart Page Input} {rest left : List (Step Hart Page Input)} → IsApart s t → Pulled t rest left →
      Pulled t (s ∷ rest) (s ∷ left)

module _ {Hart Page Input : Type 0} (t : Step Hart Page Input) where
  pub pulled_each : (P : Step Hart Page Input → Type 0) {all left : List (Step Hart Page Input)} → Pulled t all left →
      Each P all → P t × Each P left
  pulled_each P Here h = h
  pulled_each P (There apart p) h = let r = pulled_each P p h.1 in (r.0, (h.0, r.1))

  pub pulled_pairs : (R : Step Hart Page Input → Step Hart Page Input → Type 0)
      {all left : List (Step Hart Page Input)} →
      Pulled t all left → EachPair R all → EachPair R left
  pulled_pairs R Here h = h.1
  pulled_pairs R (There {s = s} apart p) h = ((pulled_each (R s) p h.0).1, pulled_pairs R p h.1)

  -- steps that are apart take effect in either order
  pub after_swap : (m : Machine Hart Page) (s : Step Hart Page Input) → IsApart s t →
      after (after m s) t ≡ after (after m t) s
  after_swap m s apart =
      λ i.
      record {
        harts = put_swap m.harts s.hart t.hart s.effect.hart t.effect.hart apart.harts i;
        pages = written_swap m.pages s.effect.write t.effect.write apart.pages i;
      }

  -- pulling a step that passes a test changes no outcome of the steps that pass
  pub pulled_filter : (test : Step Hart Page Input → Bool) → test t ≡ true → {all left : List (Step Hart Page Input)} →
      Pulled t all left →
      (m : Machine Hart Page) → after_all m (filter test all) ≡ after_all (after m t) (filter test left)
  pulled_filter test passes (Here {rest = rest}) m = rw passes refl
  pulled_filter test passes (There {s = s} {rest = rest} {left = left} apart p) m =
      elim (test s) as
      (λ b. after_all m (cond b (s ∷ filter test rest) (filter test rest)) ≡ after_all (after m t)
      (cond b (s ∷ filter test left) (filter test left))) [
        | true ↦
            pulled_filter test passes p (after m s) ∙ ap (λ n. after_all n (filter test left)) (after_swap m s apart)
        | false ↦ pulled_filter test passes p m
      ]

  pub pulled_all : {all left : List (Step Hart Page Input)} → Pulled t all left → (m : Machine Hart Page) →
      after_all m all ≡ after_all (after m t) left
  pulled_all Here m = refl
  pulled_all (There {s = s} {left = left} apart p) m =
      pulled_all p (after m s) ∙ ap (λ n. after_all n left) (after_swap m s apart)
