-- A hart that asks for what it has, or lacks it.
use Rattle.std.proofs.Common.{◌≡◌, ◌≢◌, ◌⊎◌, inl, inr, ◌∙◌, ◌↔◌, ℕ, zero, suc, ◌==◌, not, nat_lt, List, [], Contains, Bool, true, false, Some, if◌then◌else◌}
use Rattle.std.proofs.Common.{ap, sym, refl, true≢false, arith, eq-eqb, eqb-true}
use Rattle.std.proofs.lemmas.Bool.{and_parts}
use Rattle.edge_log.specs.EdgeLog.{edge_as}
use Rattle.edge_log.specs.declared.Edge.{Edge as edge_found}
use Rattle.ft_types.specs.declared.names.Want.{Want}
use Rattle.ft_types.specs.declared.names.Want.TheVariants.{Read, Write}
use Rattle.interleaving.specs.Lists.{put}
use Rattle.interleaving.proofs.Put.{same_or_not, put_same, put_other}
use Rattle.crew_pages.specs.Rights.{Right, Shared, Exclusive, nobody, given, give_up, has_it, stands, IsOwed}
use Rattle.hart_lease.specs.declared.asked.Asked.{Asked}
use Rattle.book_modes.specs.machinery.Yielding.{yields, yielded}

-- what a hart has and asks for again is as it was
pub had_given : (r : Right) (hart : ℕ) (want : Want) (n : ℕ) → has_it r hart want ≡ true → given r hart want n ≡ r
had_given (Shared since readers left) hart Read n has = λ i. Shared since (λ other. at_each other (same_or_not hart other) i) left
  where
    at_each : (other : ℕ) → (hart ≡ other) ⊎ (hart ≢ other) → put readers hart true other ≡ readers other
    at_each other (inl same) = put_same readers hart other true same ∙ (sym has ∙ ap readers same)
    at_each other (inr ne) = put_other readers hart other true ne
had_given (Shared since readers left) hart Write n has = cc
had_given (Exclusive owner at since left) hart want n has = refl

-- and owes no edge
pub owes_none : (r : Right) (hart : ℕ) (want : Want) (n : ℕ) (e : edge_found) → has_it r hart want ≡ true →
    Contains (let none : List edge_found = [] in none) e ↔ IsOwed r hart want n (edge_as e)
owes_none r hart want n e has = (λ there. absurd (omega (arith, there.1)), λ owed. absurd (true≢false (sym has ∙ owed.lacks)))

-- and nobody stands in its way
pub has_free : (r : Right) (hart : ℕ) (want : Want) → has_it r hart want ≡ true → (other : ℕ) → stands r hart want other ≡ true → ⊥
has_free (Shared since readers left) hart Read has other way = true≢false (sym (and_parts (not (hart == other)) false way).1)
has_free (Shared since readers left) hart Write has other way = true≢false (sym has)
has_free (Exclusive owner at since left) hart want has other way =
    let both = and_parts (not (hart == other)) (owner == other) way in
    let same : hart ≡ other = sym (eqb-true owner hart has) ∙ eqb-true owner other both.1 in
    true≢false (sym both.0 ∙ ap not (eq-eqb hart other same))

-- who lacks what it asks for lacks it still, once another has left
lacks_when_left : (r : Right) (hart : ℕ) (want : Want) (other count : ℕ) → has_it r hart want ≡ false → has_it (give_up r other count) hart want ≡ false
lacks_when_left (Shared since readers left) hart Read other count lacks =
    elim (same_or_not other hart) [
      | inl same ↦ put_same readers other hart false same
      | inr ne ↦ put_other readers other hart false ne ∙ lacks
    ]
lacks_when_left (Shared since readers left) hart Write other count lacks = refl
lacks_when_left (Exclusive owner at since left) hart want other count lacks = of (nat_lt at count) want
  where
    of : (b : Bool) (want : Want) →
        has_it
        (if b
        then Shared (Some (record { hart = owner; count = count })) (λ other. false) nobody
        else Shared since (λ other. false) (put left owner (Some count)))
        hart want ≡ false
    of true Read = refl
    of true Write = refl
    of false Read = refl
    of false Write = refl

-- so it does once the first n have yielded
pub lacks_still : (asked : Asked) (settled : ℕ → ℕ) (n : ℕ) (r : Right) → has_it r asked.hart asked.want ≡ false →
    has_it (yielded asked settled n r) asked.hart asked.want ≡ false
lacks_still asked settled zero r lacks = lacks
lacks_still asked settled (suc n) r lacks = of (yielded asked settled n r) (lacks_still asked settled n r lacks)
  where
    of : (before : Right) → has_it before asked.hart asked.want ≡ false → has_it (yields asked settled n before) asked.hart asked.want ≡ false
    of before still = if_it_stands (stands before asked.hart asked.want n)
      where
        if_it_stands : (b : Bool) → has_it (if b then give_up before n (settled n) else before) asked.hart asked.want ≡ false
        if_it_stands true = lacks_when_left before asked.hart asked.want n (settled n) still
        if_it_stands false = still
