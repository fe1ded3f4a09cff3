-- What other keepers handed over, log by log.
use Rattle.std.proofs.Common.{◌≡◌, ℕ, ◌+◌, ◌<◌, List, [], ◌∷◌, ◌++◌, Bool, length, map, take, get_or, slice_get, Some, refl, sym, ap, subst, ◌∙◌}
use Rattle.std.proofs.lemmas.List.{map-append, take_more}
use Rattle.ft_types.specs.Guests.{GuestParts}
use Rattle.go_live.proofs.Distinct.{HasThese}
use Rattle.live_world.specs.declared.hand.HandedTo.{HandedTo}
use Rattle.live_world.specs.Renewals.{AreGifts, Gift, IsHandedBy, givers_of}

abbrev pub logs_of : List Gift → List (List ℕ)
logs_of gifts = map (λ g. g.log) gifts

-- one more
gifts_more : (guest : GuestParts) (keeper term : ℕ) (handed : List HandedTo) (numbers : List ℕ) (gifts : List Gift) (n : ℕ) (h : HandedTo) (g : Gift) →
    AreGifts guest keeper term handed numbers gifts → slice_get handed n ≡ Some h → IsHandedBy guest keeper term h g.giver g.log →
    AreGifts guest keeper term handed (numbers ++ n ∷ []) (gifts ++ g ∷ [])
gifts_more guest keeper term handed [] [] n h g are there is = ((h, there, is), tt)
gifts_more guest keeper term handed [] (k ∷ gifts) n h g are there is = absurd are
gifts_more guest keeper term handed (m ∷ numbers) [] n h g are there is = absurd are
gifts_more guest keeper term handed (m ∷ numbers) (k ∷ gifts) n h g are there is =
    (are.0, gifts_more guest keeper term handed numbers gifts n h g are.1 there is)

-- these numbers of what was handed over are these logs, and the set has who handed them over
pub record SoFar (guest : GuestParts) (keeper term : ℕ) (handed : List HandedTo) (numbers : List ℕ) (set : List Bool) (logs : List (List ℕ)) : Type 0 where
  pub gifts : List Gift
  pub are : AreGifts guest keeper term handed numbers gifts
  pub has : HasThese (givers_of gifts) set
  pub are_logs : logs_of gifts ≡ logs

pub none_so_far : (guest : GuestParts) (keeper term : ℕ) (handed : List HandedTo) (set : List Bool) → HasThese [] set →
    SoFar guest keeper term handed [] set []
none_so_far guest keeper term handed set has = record { gifts = []; are = tt; has = has; are_logs = refl }

pub one_more : (guest : GuestParts) (keeper term : ℕ) (handed : List HandedTo) (numbers : List ℕ) (i : ℕ) (h : HandedTo) (giver : ℕ) (log : List ℕ)
    (set more : List Bool) (old new : List (List ℕ)) → i < length numbers → slice_get handed (get_or numbers i 0) ≡ Some h →
    (so_far : SoFar guest keeper term handed (take i numbers) set old) → IsHandedBy guest keeper term h giver log →
    HasThese (givers_of so_far.gifts ++ giver ∷ []) more → new ≡ old ++ log ∷ [] →
    SoFar guest keeper term handed (take (i + 1) numbers) more new
one_more guest keeper term handed numbers i h giver log set more old new within there so_far is has grown =
    let g : Gift = record { giver = giver; log = log } in
    record {
      gifts = so_far.gifts ++ g ∷ [];
      are = subst (λ (ns : List ℕ). AreGifts guest keeper term handed ns (so_far.gifts ++ g ∷ [])) (sym (take_more numbers i 0 within))
          (gifts_more guest keeper term handed (take i numbers) so_far.gifts (get_or numbers i 0) h g so_far.are there is);
      has = subst (λ (givers : List ℕ). HasThese givers more) (sym (map-append (λ (x : Gift). x.giver) so_far.gifts (g ∷ []))) has;
      are_logs = map-append (λ (x : Gift). x.log) so_far.gifts (g ∷ []) ∙ ap (λ (all : List (List ℕ)). all ++ log ∷ []) so_far.are_logs ∙ sym grown;
    }
