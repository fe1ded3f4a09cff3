-- Two candidates stand in one term, and one of them begins it.
use Rattle.std.proofs.Common.{◌≡◌, inl, inr, ℕ, ◌<◌, Bool, true, nat_lt, Some, refl, ap, ◌∙◌, arith}
use Rattle.std.proofs.lemmas.Bool.{cases_lt, ltb-true}
use Rattle.ft_types.specs.Guests.{GuestParts, IsGuest}
use Rattle.log_join.specs.Families.{no_terms}
use Rattle.log_join.specs.Stores.{StoreView, nothing}
use Rattle.fenced_theory.specs.Recorders.{Recorder, IsBoot, CanLive}
use Rattle.fenced_theory.specs.Worlds.{Quorum, IsNewTo, BeginsAt, first_term}
use Rattle.fenced_theory.specs.Worlds as fences
use Rattle.fenced_theory.specs.Laws.{CanGo}
use Rattle.fenced_theory.proofs.Growing.{an_opening, some_none}
use Rattle.fenced_theory.proofs.Onward.{put_cases}
use Rattle.fenced_theory.proofs.Positions.{can_begin}
use Rattle.fenced_theory.proofs.Invariant.{Invariant}
use Rattle.fenced_theory.proofs.Events as world_events
use Rattle.fenced_theory.proofs.Noted.{unnoted}
use Rattle.fenced_theory.proofs.Ruled.{IsRight, ruled, given_right}
use Rattle.fenced_theory.proofs.Granting.{can_grant}
use Rattle.election_theory.specs.Elections.{Election, Comes, Begins, Then, Stand, Give, Begin, first_election, stands, gave, begins}
use Rattle.election_theory.specs.Laws.{IsRace, Races}
use Rattle.election_theory.proofs.Events as elections

module _ {Book Fact : Type 0} (recorder : Recorder Book Fact) (guest : GuestParts) (rules : IsGuest guest) (boot : Book) (boots : IsBoot recorder boot)
    (lives : CanLive recorder) where
  abbrev three : Quorum
  three = record { keepers = 3; need = 2 }

  abbrev may : ℕ → ℕ → Bool
  may candidate u = true

  abbrev empty : StoreView
  empty = nothing guest

  abbrev e0 : Election Book
  e0 = first_election guest boot

  abbrev e1 : Election Book
  e1 = stands e0 0 2

  abbrev e2 : Election Book
  e2 = stands e1 1 2

  abbrev e3 : Election Book
  e3 = gave e2 0 0 2 empty

  abbrev e4 : Election Book
  e4 = gave e3 1 0 2 empty

  abbrev e5 : Election Book
  e5 = gave e4 2 1 2 empty

  comes5 : Comes recorder guest three may e5
  comes5 =
      Then
      (
      Then
      (Then (Then (Then (Begins boot boots) (Stand 0 2 refl (omega arith))) (Stand 1 2 refl (omega arith))) (Give 0 0 2 empty refl refl (omega arith)))
      (Give 1 0 2 empty refl refl (omega arith))
      )
      (Give 2 1 2 empty refl refl (omega arith))

  comes : fences.Comes recorder guest three e5.world
  comes = (elections.always recorder guest three may (inr (omega arith)) comes5).comes

  abbrev chosen : ℕ → Bool
  chosen keeper = nat_lt keeper 2

  has : (keeper : ℕ) → keeper < 3 → chosen keeper ≡ true → (s : StoreView) × (e5.world.given 2 keeper ≡ Some s)
  has keeper under hit =
      let less : keeper < 2 = ltb-true keeper 2 hit in
      elim (cases_lt keeper 1) [
        | inl zero ↦ let e : keeper ≡ 0 = omega arith in (empty, ap (e5.world.given 2) e ∙ refl)
        | inr more ↦ let e : keeper ≡ 1 = omega arith in (empty, ap (e5.world.given 2) e ∙ refl)
      ]

  next : CanGo recorder guest three e5.world 2 chosen
  next = can_grant recorder guest three rules e5.world comes 2 chosen has

  sound : Invariant recorder three e5.world
  sound = world_events.always recorder guest three comes

  right : IsRight guest e5.world.terms next.all
  right = given_right recorder guest three e5.world sound (ruled recorder guest three rules comes) 2 chosen 3 next.all next.joined

  new : IsNewTo next.all 2
  new term o is =
      let (r, is_r, e) = an_opening e5.world.terms next.all term o right.honest is in
      elim (put_cases no_terms 1 (first_term guest boot) term r is_r) [
        | inl (one, f) ↦ omega arith
        | inr none ↦ some_none none refl
      ]

  begun : (c : Book) × BeginsAt recorder e5.world.terms next.position c
  begun = can_begin recorder e5.world.terms sound.family next.all right.honest boot boots lives next.position next.is

  to : (keeper : ℕ) → keeper < 3 → chosen keeper ≡ true → e5.to 2 keeper ≡ Some 0
  to keeper under hit =
      let less : keeper < 2 = ltb-true keeper 2 hit in
      elim (cases_lt keeper 1) [
        | inl zero ↦ let e : keeper ≡ 0 = omega arith in ap (e5.to 2) e ∙ refl
        | inr more ↦ let e : keeper ≡ 1 = omega arith in ap (e5.to 2) e ∙ refl
      ]

  pub race : (e : Election Book) × IsRace recorder guest e
  race = (
    begins guest e5 0 2 next.position begun.0 (λ hart. 0),
    record {
      comes =
          Then comes5
          (Begin 0 2 chosen next.all next.position begun.0 (λ hart. 0) refl to next.has (omega arith) new next.is
          (next.opening new (omega arith) (omega arith)) begun.1
          (λ hart. unnoted recorder guest three e5.world comes (λ term hart. refl) next.all right.honest next.position hart));
      begun = refl;
      other = refl;
      gave = refl;
    },
  )

pub races : {Book Fact : Type 0} (recorder : Recorder Book Fact) → Races recorder
races recorder guest rules boot boots lives = race recorder guest rules boot boots lives
