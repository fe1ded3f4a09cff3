-- Joins of several stores.
use Rattle.std.proofs.Common.{◌≡◌, ◌≢◌, ℕ, ◌<◌, ◌⊎◌, Bool, List, [], ◌∷◌, ◌++◌, refl, sym, ap, subst, ◌∙◌, inl, inr}
use Rattle.std.specs.Prelude.{All}
use Rattle.std.specs.FinMap as finite
use Rattle.std.specs.Ordering.{nat_cmp}
use Rattle.std.proofs.lemmas.List.Elements.{All-head, All-tail}
use Rattle.ft_types.specs.Guests.{GuestParts}
use Rattle.fragment_codec.specs.Rules.{OpeningParts}
use Rattle.log_join.specs.Cells.{Cell, One, Absent, Clash, cell_of, join_cell}
use Rattle.frame_content.specs.Tests.{same_opening}
use Rattle.log_join.specs.Stores.{StoreView, opening_at, IsJoin, nothing}
use Rattle.go_live.specs.Quorums.{IsNew}
use Rattle.go_live.specs.Joined.{AreJoinedTo, AreJoined}

pub joined_more : (old : StoreView) (stores : List StoreView) (store next new : StoreView) → AreJoinedTo old stores next → IsJoin next store new →
    AreJoinedTo old (stores ++ store ∷ []) new
joined_more old [] store next new same join = (new, subst (λ (s : StoreView). IsJoin s store new) same join, refl)
joined_more old (first ∷ stores) store next new (middle, join, rest) last = (middle, join, joined_more middle stores store next new rest last)

pub joined_guest : (old : StoreView) (stores : List StoreView) (new : StoreView) → AreJoinedTo old stores new → new.guest ≡ old.guest
joined_guest old [] new same = ap (λ (s : StoreView). s.guest) same
joined_guest old (store ∷ stores) new (next, join, rest) = joined_guest next stores new rest ∙ join.guest

-- what holds of two stores and of their join holds of the join of all
pub joined_keep : (P : StoreView → Type 0) → ((a b c : StoreView) → IsJoin a b c → P a → P b → P c) → (old : StoreView) (stores : List StoreView)
    (new : StoreView) → P old → All P stores → AreJoinedTo old stores new → P new
joined_keep P keeps old [] new first all same = subst P (sym same) first
joined_keep P keeps old (store ∷ stores) new first all (next, join, rest) =
    joined_keep P keeps next stores new (keeps old store next join first (All-head P store stores all)) (All-tail P store stores all) rest

-- what came to a join came to one of the two
some_either : {X : Type 0} (same : X → X → Bool) (a b : Cell X) → join_cell same a b ≢ Absent → (a ≢ Absent) ⊎ (b ≢ Absent)
some_either same Absent b some = inr some
some_either same (One x) b some = inl (λ e. cc)
some_either same Clash b some = inl (λ e. cc)

-- no opening is of this term or a later one
abbrev OpensBelow : ℕ → StoreView → Type 0
OpensBelow term store = (other : ℕ) → opening_at store other ≢ Absent → other < term

opens_below : (term : ℕ) (a b c : StoreView) → IsJoin a b c → OpensBelow term a → OpensBelow term b → OpensBelow term c
opens_below term a b c join first second other some =
    elim (some_either same_opening (opening_at a other) (opening_at b other) (λ none. some (join.openings other ∙ none))) [
      | inl here ↦ first other here
      | inr there ↦ second other there
    ]

pub joined_below : (guest : GuestParts) (stores : List StoreView) (term : ℕ) (joined : StoreView) → IsNew stores term → AreJoined guest stores joined →
    (other : ℕ) (o : OpeningParts) → opening_at joined other ≡ One o → other < term
joined_below guest stores term joined new are other o one =
    joined_keep (OpensBelow term) (opens_below term) (nothing guest) stores joined
    (λ other some. absurd (some (ap cell_of (finite.get-empty nat_cmp other))))
    (λ k d within other some. new.later k d within other (inl some)) are other
    (λ none. let no : One o ≡ Absent = sym one ∙ none in cc)
