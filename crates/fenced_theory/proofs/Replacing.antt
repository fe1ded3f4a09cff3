-- A keeper's number goes to a new log, and the invariant stays.
use Rattle.std.proofs.Common.{◌≡◌, inl, inr, ℕ, ◌<◌, ◌≤◌, ◌+◌, Bool, true, Option, Some, refl, sym, ap, subst, ◌∙◌, arith}
use Rattle.std.proofs.lemmas.Bool.{cases_lt}
use Rattle.ft_types.specs.Guests.{GuestParts}
use Rattle.log_join.specs.Families.{HonestStore}
use Rattle.log_join.specs.Stores.{StoreView}
use Rattle.interleaving.specs.Lists.{put}
use Rattle.interleaving.proofs.Put.{same_or_not, put_same, put_other}
use Rattle.fenced_theory.specs.Lists.{how_many}
use Rattle.fenced_theory.specs.Recorders.{Recorder}
use Rattle.fenced_theory.specs.Worlds.{Quorum, World, HasGiven, replaced}
use Rattle.fenced_theory.proofs.Growing.{below_itself, some_same, later_itself}
use Rattle.fenced_theory.proofs.Giving.{Holds, Renewed, Gives}
use Rattle.fenced_theory.proofs.Invariant.{IsSaved, Invariant, Moves, still, holds_on, gives_on, given_on, granted_on}

module _ {Book Fact : Type 0} (recorder : Recorder Book Fact) (guest : GuestParts) (quorum : Quorum) (w : World Book) (keeper u : ℕ) (chosen : ℕ → Bool)
    (all : StoreView) (v : Invariant recorder quorum w) (has : HasGiven guest w.terms (w.given u) chosen quorum.keepers all)
    (enough : quorum.keepers < quorum.need + how_many quorum.keepers chosen) (under : w.fence keeper ≤ u)
    (silent : (term hart : ℕ) → u ≤ term → w.acked term keeper hart ≡ 0) where
  abbrev higher : ℕ → ℕ
  higher = put w.fence keeper u

  m : Moves recorder w.terms w.terms w.acked w.acked w.fence higher
  m =
      let a = still recorder w.terms w.acked w.fence in
      record {
        grows = a.grows;
        rises =
            λ k.
            elim (same_or_not keeper k) [
              | inl e ↦
                  let f : put w.fence keeper u k ≡ u = put_same w.fence keeper k u e in
                  let g : w.fence keeper ≡ w.fence k = ap w.fence e in
                  omega arith
              | inr ne ↦ let f : put w.fence keeper u k ≡ w.fence k = put_other w.fence keeper k u ne in omega arith
            ];
        fair = a.fair;
        keeps = a.keeps;
      }

  -- what each of the chosen keepers gave is in the store
  gave : (k : ℕ) → k < quorum.keepers → chosen k ≡ true → Gives recorder w.terms w.acked higher quorum u k all
  gave k in_quorum is_chosen =
      let (s, is, below) = has.has k in_quorum is_chosen in
      gives_on recorder w.terms w.terms w.acked w.acked w.fence higher m quorum u k s all below (v.given u k s is).gives

  -- so the new log holds what the one before it acknowledged
  holds : (term hart step : ℕ) → step < w.acked term keeper hart → Holds recorder w.terms w.acked higher quorum all keeper term hart step
  holds term hart step below =
      elim (cases_lt term u) [
        | inl less ↦
            Renewed u chosen less (let f : put w.fence keeper u keeper ≡ u = put_same w.fence keeper keeper u refl in omega arith) enough
            (λ k in_quorum is_chosen. (gave k in_quorum is_chosen).fenced)
            (λ k t h n in_quorum is_chosen lower acks. (gave k in_quorum is_chosen).has t h n lower acks)
        | inr over ↦ let none : w.acked term keeper hart ≡ 0 = silent term hart over in absurd (omega arith)
      ]

  -- of each keeper's store there is this one, or the one that was
  pub on_replace : Invariant recorder quorum (replaced w keeper u all)
  on_replace =
      record {
        family = v.family;
        passed = v.passed;
        frames = v.frames;
        stores = honest w.stores v.stores;
        saves = honest w.saved v.saves;
        has_saved =
            λ k a at.
            elim (same_or_not keeper k) [
              | inl same ↦
                  subst (λ a. IsSaved recorder (put w.saved keeper (Some all)) k a) (some_same (put_same w.stores keeper k (Some all) same) at)
                  (record { store = all; is = put_same w.saved keeper k (Some all) same; below = below_itself all })
              | inr ne ↦
                  let h = v.has_saved k a (sym (put_other w.stores keeper k (Some all) ne) ∙ at) in
                  record { store = h.store; is = put_other w.saved keeper k (Some all) ne ∙ h.is; below = h.below }
            ];
        acks =
            λ term k hart step below a at.
            elim (same_or_not keeper k) [
              | inl same ↦
                  subst (λ a. Holds recorder w.terms w.acked higher quorum a k term hart step) (some_same (put_same w.saved keeper k (Some all) same) at)
                  (subst (λ k. Holds recorder w.terms w.acked higher quorum all k term hart step) same
                  (holds term hart step (subst (λ k. step < w.acked term k hart) (sym same) below)))
              | inr ne ↦
                  holds_on recorder w.terms w.terms w.acked w.acked w.fence higher m quorum a a (below_itself a)
                  (v.acks term k hart step below a (sym (put_other w.saved keeper k (Some all) ne) ∙ at))
            ];
        given = λ t k a at. given_on recorder w.terms w.terms w.acked w.acked w.fence higher m quorum t k a (v.given t k a at);
        grants =
            λ t p at.
            granted_on recorder w.terms w.terms w.acked w.acked w.fence higher m quorum t p p (later_itself recorder p) (v.grants t p at);
        released = v.released;
      }
    where
      honest : (stores : ℕ → Option StoreView) → ((k : ℕ) (a : StoreView) → stores k ≡ Some a → HonestStore w.terms a) → (k : ℕ) (a : StoreView) →
          put stores keeper (Some all) k ≡ Some a → HonestStore w.terms a
      honest stores each k a at =
          elim (same_or_not keeper k) [
            | inl same ↦ subst (λ a. HonestStore w.terms a) (some_same (put_same stores keeper k (Some all) same) at) has.honest
            | inr ne ↦ each k a (sym (put_other stores keeper k (Some all) ne) ∙ at)
          ]
