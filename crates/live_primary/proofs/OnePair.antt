-- Of which pair logs are that were handed over.
use Rattle.std.proofs.Common.{◌≡◌, ℕ, List, [], ◌∷◌, ◌++◌, Option, None, Some, Bool, true, ◌&&◌, eqb, refl, sym, ap, subst, ◌∙◌}
use Rattle.std.specs.Prelude.{IfSome, IfNone, ◌↔◌}
use Rattle.std.specs.List.{AllByRecursion}
use Rattle.std.proofs.lemmas.Bool.{and_parts, eqb-true, eq-eqb}
use Rattle.ft_types.specs.Guests.{GuestParts}
use Rattle.ft_types.specs.Text.{line}
use Rattle.ft_types.specs.declared.quorum.Quorum.{Quorum}
use Rattle.wire.specs.Fields.{HasNone}
use Rattle.wire.specs.Pairs.{SaysPair}
use Rattle.wire.specs.declared.pairs.Pair.{Pair}
use Rattle.wire.proofs.PairFields.{quorum_same}
use Rattle.stations.proofs.HandedLines.{one_line}
use Rattle.leading.specs.declared.handed.HandedLog.{HandedLog}
use Rattle.live_primary.specs.Pairs.{IsOfPair, IsBehind, AreOfPair}

abbrev pair_of : Quorum → ℕ → Pair
pair_of quorum name = record { quorum = quorum; name = name }

-- pairs are one where their numbers are
pub pairs_told : (a b : Pair) (told : Bool) →
    told ≡ ((eqb a.quorum.keepers b.quorum.keepers && eqb a.quorum.need b.quorum.need) && eqb a.name b.name) → (told ≡ true) ↔ (a ≡ b)
pairs_told a b told is = (
  (λ yes.
      let all = and_parts (eqb a.quorum.keepers b.quorum.keepers && eqb a.quorum.need b.quorum.need) (eqb a.name b.name) (sym is ∙ yes) in
      let both = and_parts (eqb a.quorum.keepers b.quorum.keepers) (eqb a.quorum.need b.quorum.need) all.0 in
      let quorum = quorum_same a.quorum b.quorum (eqb-true a.quorum.keepers b.quorum.keepers both.0) (eqb-true a.quorum.need b.quorum.need both.1) in
      ap (λ (q : Quorum). pair_of q a.name) quorum ∙ ap (λ (n : ℕ). pair_of b.quorum n) (eqb-true a.name b.name all.1)),
  (λ same. is ∙ rw (
    eq-eqb a.quorum.keepers b.quorum.keepers (ap (λ (p : Pair). p.quorum.keepers) same),
    eq-eqb a.quorum.need b.quorum.need (ap (λ (p : Pair). p.quorum.need) same),
    eq-eqb a.name b.name (ap (λ (p : Pair). p.name) same),
  ) refl),
)

-- bytes whose first line says of no pair are of none
pub names_none : (guest : GuestParts) (bytes text rest : List ℕ) → HasNone 10 text → bytes ≡ line text ++ rest →
    ((p : Pair) → (◌≡◌ {A = Option Pair} None (Some p)) ↔ SaysPair guest text p) → (pair : Pair) (other : List ℕ) → IsOfPair guest pair bytes other → ⊥
names_none guest bytes text rest one parts exact pair other of_pair =
    let same = one_line text of_pair.text rest other one of_pair.one (sym parts ∙ of_pair.parts) in
    let never : ◌≡◌ {A = Option Pair} None (Some pair) = (exact pair).1 (subst (λ (t : List ℕ). SaysPair guest t pair) (sym same.0) of_pair.says) in
    absurd cc

-- these logs are of one pair, which was named before where there are some
pub record SoFar (guest : GuestParts) (quorum : Quorum) (before : Option Pair) (logs : List HandedLog) : Type 0 where
  pub pair : Pair
  pub quorum_is : pair.quorum ≡ quorum
  pub of_pair : AreOfPair guest pair logs
  pub same : IfSome before (λ p. p ≡ pair)
  pub none : IfNone before (logs ≡ [])

pub none_so_far : (guest : GuestParts) (quorum : Quorum) → SoFar guest quorum None []
none_so_far guest quorum = record { pair = record { quorum = quorum; name = 0 }; quorum_is = refl; of_pair = tt; same = tt; none = refl }

-- all of a row, and one more
all_more : {A : Type 0} (P : A → Type 0) (xs : List A) (x : A) → AllByRecursion P xs → P x → AllByRecursion P (xs ++ x ∷ [])
all_more P [] x p q = (q, tt)
all_more P (y ∷ ys) x p q = (p.0, all_more P ys x p.1 q)

-- what was read so far is of the next one's pair
of_next : (guest : GuestParts) (quorum : Quorum) (before : Option Pair) (logs : List HandedLog) (own : Pair) → SoFar guest quorum before logs →
    IfSome before (λ p. own ≡ p) → AreOfPair guest own logs
of_next guest quorum None logs own so_far is = subst (AreOfPair guest own) (sym so_far.none) tt
of_next guest quorum (Some p) logs own so_far is = subst (λ (q : Pair). AreOfPair guest q logs) (sym (is ∙ so_far.same)) so_far.of_pair

pub one_more : (guest : GuestParts) (quorum : Quorum) (before : Option Pair) (logs : List HandedLog) (own : Pair) (log : HandedLog) →
    SoFar guest quorum before logs → own.quorum ≡ quorum → IfSome before (λ p. own ≡ p) → IsBehind guest own log →
    SoFar guest quorum (Some own) (logs ++ log ∷ [])
one_more guest quorum before logs own log so_far quorum_is is behind = record {
  pair = own;
  quorum_is = quorum_is;
  of_pair = all_more (IsBehind guest own) logs log (of_next guest quorum before logs own so_far is) behind;
  same = refl;
  none = tt;
}
