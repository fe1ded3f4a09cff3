-- What is said is taken, one behind the other.
use Rattle.std.proofs.Common.{◌≡◌, ◌<◌, ◌++◌, ◌∷◌, [], ◌∙◌, ℕ, zero, suc, List, Bool, true, false, refl, ap, sym, subst, append-nil, append_assoc, arith}
use Rattle.std.proofs.lemmas.Bool.{false≢true}
use Rattle.primary_turns.specs.declared.deeds.Deed.{Deed}
use Rattle.primary_turns.specs.declared.said.Said.{Said}
use Rattle.primary_turns.specs.Deeds.{Adds}
use Rattle.primary_turns.specs.Turns.{LeadershipView, Takes, TakesAll}

-- one more is taken
takes_more : (old : LeadershipView) (all : List Said) (mid : LeadershipView) (deeds : List Deed) (what : Said) (new : LeadershipView) (added : List Deed) →
    TakesAll old all mid deeds → Takes mid what new added → TakesAll old (all ++ what ∷ []) new (deeds ++ added)
takes_more old [] mid deeds what new added t one = (
  new,
  added,
  [],
  subst (λ (o : LeadershipView). Takes o what new added) t.0 one,
  (refl, refl),
  ap (λ (ds : List Deed). ds ++ added) t.1 ∙ sym (append-nil added),
)
takes_more old (first ∷ all) mid deeds what new added t one = (
  t.0,
  t.1,
  t.2 ++ added,
  t.3,
  takes_more t.0 all mid t.2 what new added t.4 one,
  ap (λ (ds : List Deed). ds ++ added) t.5 ∙ append_assoc t.1 t.2 added,
)

-- and what is to be done is added behind what was
pub adds_more : (old : LeadershipView) (all more : List Said) (mid : LeadershipView) (what : Said) (new : LeadershipView) (first then last : List Deed) →
    more ≡ all ++ what ∷ [] → Adds first then (TakesAll old all mid) → Adds then last (Takes mid what new) → Adds first last (TakesAll old more new)
adds_more old all more mid what new first then last parts so_far one = (
  so_far.0 ++ one.0,
  one.1 ∙ ap (λ (ds : List Deed). ds ++ one.0) so_far.1 ∙ append_assoc first so_far.0 one.0,
  subst (λ (xs : List Said). TakesAll old xs new (so_far.0 ++ one.0)) (sym parts) (takes_more old all mid so_far.0 what new one.0 so_far.2 one.2),
)

-- where nothing is sent no output waits for it
pub none_waits : (waiting : ℕ) (sent : Bool) → (0 < waiting → sent ≡ true) → sent ≡ false → waiting ≡ 0
none_waits zero sent waits none = refl
none_waits (suc n) sent waits none = absurd (false≢true (sym none ∙ waits (omega arith)))
