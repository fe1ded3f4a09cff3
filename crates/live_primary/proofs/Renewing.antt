-- What other keepers handed over so far, for a keeper that lost its log.
use Rattle.std.proofs.Common.{◌≡◌, ℕ, List, [], ◌∷◌, ◌++◌, Option, None, Some, Bool, refl, sym, subst}
use Rattle.std.specs.Prelude.{IfSome, IfNone}
use Rattle.std.specs.List.{AllByRecursion}
use Rattle.ft_types.specs.Guests.{GuestParts}
use Rattle.ft_types.specs.Text.{line}
use Rattle.wire.specs.declared.pairs.Pair.{Pair}
use Rattle.go_live.proofs.Distinct.{HasThese, members_none, member_more}
use Rattle.live_primary.specs.Renewals.{IsHandedBy, AreHandedBy}

abbrev pub has_none : List ℕ → Type 0
has_none bytes = AllByRecursion (λ b. b ≡ 10 → ⊥) bytes

-- where no line feed is, no line is
pub no_line : (text rest : List ℕ) → has_none (line text ++ rest) → ⊥
no_line [] rest all = all.0 refl
no_line (b ∷ text) rest all = no_line text rest all.1

-- these logs are of one pair, which was named before where there are some, and the set has who gave them
pub record SoFarGiven (guest : GuestParts) (keeper term : ℕ) (before : Option Pair) (set : List Bool) (logs : List (List ℕ)) : Type 0 where
  pub givers : List ℕ
  pub has : HasThese givers set
  pub some : IfSome before (λ pair. AreHandedBy guest pair keeper term givers logs)
  pub none : IfNone before ((givers ≡ []) × (logs ≡ []))

-- one more
handed_more : (guest : GuestParts) (pair : Pair) (keeper term : ℕ) (givers : List ℕ) (logs : List (List ℕ)) (giver : ℕ) (log : List ℕ) →
    AreHandedBy guest pair keeper term givers logs → IsHandedBy guest pair keeper term giver log →
    AreHandedBy guest pair keeper term (givers ++ giver ∷ []) (logs ++ log ∷ [])
handed_more guest pair keeper term [] [] giver log so_far is = (is, tt)
handed_more guest pair keeper term [] (l ∷ logs) giver log so_far is = absurd so_far
handed_more guest pair keeper term (g ∷ givers) [] giver log so_far is = absurd so_far
handed_more guest pair keeper term (g ∷ givers) (l ∷ logs) giver log so_far is =
    (so_far.0, handed_more guest pair keeper term givers logs giver log so_far.1 is)

-- what was read so far is of the next one's pair
of_next : (guest : GuestParts) (keeper term : ℕ) (before : Option Pair) (set : List Bool) (logs : List (List ℕ)) (own : Pair)
    (so_far : SoFarGiven guest keeper term before set logs) → IfSome before (λ p. own ≡ p) → AreHandedBy guest own keeper term so_far.givers logs
of_next guest keeper term None set logs own so_far is =
    subst (λ (givers : List ℕ). AreHandedBy guest own keeper term givers logs) (sym so_far.none.0)
    (subst (λ (ls : List (List ℕ)). AreHandedBy guest own keeper term [] ls) (sym so_far.none.1) tt)
of_next guest keeper term (Some p) set logs own so_far is =
    subst (λ (q : Pair). AreHandedBy guest q keeper term so_far.givers logs) (sym is) so_far.some

pub none_given : (guest : GuestParts) (keeper term : ℕ) (set : List Bool) → HasThese [] set → SoFarGiven guest keeper term None set []
none_given guest keeper term set has = record { givers = []; has = has; some = tt; none = (refl, refl) }

pub one_given : (guest : GuestParts) (keeper term : ℕ) (before : Option Pair) (set more : List Bool) (logs : List (List ℕ)) (own : Pair) (giver : ℕ)
    (log : List ℕ) (so_far : SoFarGiven guest keeper term before set logs) → IfSome before (λ p. own ≡ p) → IsHandedBy guest own keeper term giver log →
    HasThese (so_far.givers ++ giver ∷ []) more → SoFarGiven guest keeper term (Some own) more (logs ++ log ∷ [])
one_given guest keeper term before set more logs own giver log so_far is by has =
    record {
      givers = so_far.givers ++ giver ∷ [];
      has = has;
      some = handed_more guest own keeper term so_far.givers logs giver log (of_next guest keeper term before set logs own so_far is) by;
      none = tt;
    }
