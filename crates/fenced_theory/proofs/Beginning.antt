-- A term begins at a position, and the invariant stays.
use Rattle.std.proofs.Common.{◌≡◌, ◌⊎◌, inl, inr, ℕ, ◌+◌, ◌<◌, ◌≤◌, Option, Some, None, refl, sym, ap, subst, ◌∙◌, arith}
use Rattle.std.specs.Prelude.{slice_get, Bool}
use Rattle.ft_types.specs.Counts.{count_at}
use Rattle.ft_types.specs.Guests.{GuestParts}
use Rattle.fragment_codec.specs.declared.frame.Frame.TheVariants.{Opening}
use Rattle.fragment_codec.specs.Rules.{IsOpening}
use Rattle.log_join.proofs.Families.{opening_granted}
use Rattle.log_join.specs.Families.{Past, OfFamily, HonestStore}
use Rattle.log_join.specs.Stores.{StoreView}
use Rattle.closed_cut.specs.Position.{base_of, IsPosition, NoTop, Top}
use Rattle.ft_types.specs.declared.position.Position.{Position}
use Rattle.interleaving.specs.Lists.{put}
use Rattle.interleaving.proofs.Put.{put_same, put_other}
use Rattle.fenced_theory.specs.Lists.{how_many}
use Rattle.fenced_theory.specs.Recorders.{Output, Recorder, LivesOn, Same}
use Rattle.fenced_theory.specs.Families.{Starts, Boot, At, IsHonestTerm, IsFamily}
use Rattle.fenced_theory.specs.Worlds.{Quorum, World, IsNewTo, HasGiven, new_opening, new_term, granted, BeginsAt, AtBoot, AtCut}
use Rattle.fenced_theory.proofs.Growing.{below_itself, some_same, some_none, later_itself, grown_store, Covered}
use Rattle.fenced_theory.proofs.Stores.{below_cut}
use Rattle.fenced_theory.proofs.Positions.{walked_covered}
use Rattle.fenced_theory.proofs.Onward.{put_cases, Onward, onward_new, own_of, honest_on, starts_on}
use Rattle.fenced_theory.proofs.Giving.{IsFromKeepers, IsGranted, From}
use Rattle.fenced_theory.proofs.Invariant.{Invariant, Moves, holds_on, gives_on, given_on, granted_on, released_on}
use Rattle.fenced_theory.proofs.Changes.{frame_grows, terms_move}
use Rattle.fenced_theory.proofs.Terms.{sent_cases}

module _ {Book Fact : Type 0} (recorder : Recorder Book Fact) (guest : GuestParts) (quorum : Quorum) where
  -- how a term begins at a position
  record Beginning (terms : ℕ → Option (Past Book)) (u : ℕ) (p : Position) (b : Book) : Type 0 where
    start : (hart : ℕ) → recorder.start b hart ≡ count_at p.counts hart
    starts : Starts recorder terms u (new_term guest u p b)
    passed : (q : Past Book) → terms p.term ≡ Some q → (hart number : ℕ) (o : Output) → slice_get (recorder.outputs q.told hart) number ≡ Some o →
        o.step < count_at p.counts hart → slice_get (recorder.outputs b hart) number ≡ Some o

  begins : (terms : ℕ → Option (Past Book)) → IsFamily recorder terms → (u : ℕ) (s : StoreView) → HonestStore terms s → (p : Position) → p.term < u →
      IsPosition s p → (b : Book) → BeginsAt recorder terms p b → Beginning terms u p b
  begins terms family u s honest p later (NoTop none at_boot zeros t) b (AtCut q is lives) = some_none is (ap terms at_boot ∙ family.none)
  begins terms family u s honest p later (NoTop none at_boot zeros t) b (AtBoot none_there boots) =
      record {
        start = λ hart. recorder.boot_start b boots.0 boots.1 hart ∙ sym (zeros hart);
        starts = Boot at_boot zeros b boots Same;
        passed = λ q there. some_none there (ap terms at_boot ∙ family.none);
      }
  begins terms family u s honest p later (Top walked) b (AtBoot none_there boots) =
      some_none (walked_covered recorder terms family s honest p walked).is none_there
  begins terms family u s honest p later (Top walked) b (AtCut a at_a lives_a) =
      record {
        start = recorder.live_start c.past.told b (count_at p.counts) lives.0 lives.1 from c.settled c.closed;
        starts = At c.past c.is later c.above c.settled c.closed b lives Same;
        passed =
            λ q there hart number o at below.
            subst (λ os. slice_get os number ≡ Some o) (sym (recorder.live_outputs c.past.told b (count_at p.counts) lives.0 lives.1 from c.settled c.closed hart))
            (
            below_cut (recorder.outputs c.past.told hart) (count_at p.counts hart) number o (recorder.rising c.past.told hart)
            (subst (λ q. slice_get (recorder.outputs q.told hart) number ≡ Some o) (some_same there c.is) at) below
            );
      }
    where
      c : Covered recorder terms s p.term (count_at p.counts)
      c = walked_covered recorder terms family s honest p walked

      lives : LivesOn recorder c.past.told (count_at p.counts) b
      lives = subst (λ q. LivesOn recorder q.told (count_at p.counts) b) (some_same at_a c.is) lives_a

      from : (hart : ℕ) → recorder.start c.past.told hart ≤ count_at p.counts hart
      from hart =
          let a : recorder.start c.past.told hart ≡ base_of c.past.opening hart = (family.honest p.term c.past c.is).start hart in
          let b : base_of c.past.opening hart ≤ count_at p.counts hart = c.above hart in
          omega arith

  pub on_grant : (w : World Book) (u : ℕ) (chosen : ℕ → Bool) (all : StoreView) (p : Position) (book : Book) (marks : ℕ → ℕ) →
      Invariant recorder quorum w → w.terms u ≡ None → HasGiven guest w.terms (w.given u) chosen quorum.keepers all → quorum.keepers < quorum.need + how_many quorum.keepers chosen →
      IsNewTo all u → IsPosition all p → IsOpening (new_opening guest u p) → BeginsAt recorder w.terms p book →
      Invariant recorder quorum (granted guest w u p book marks)
  on_grant w u chosen all p book marks v free has enough is_new position rules begun =
      record {
        family =
            record {
              none = put_other w.terms u 0 (Some new) (λ e. let a : 1 ≤ u = rules.granted in omega arith) ∙ v.family.none;
              honest =
                  λ term q is.
                  elim (at term q is) [
                    | inl (e, f) ↦
                        subst (λ q. IsHonestTerm recorder more term q) f
                        (
                        subst (λ term. IsHonestTerm recorder more term new) e
                        (
                        record {
                          start = b.start;
                          starts = starts_on recorder w.terms more v.family on u new new (later_itself recorder new) Same b.starts;
                          no_gap = λ hart. tt;
                          cut_from = λ hart place x at. some_none at refl;
                        }
                        )
                        )
                    | inr was ↦
                        honest_on recorder w.terms more v.family on term q q was (later_itself recorder q)
                        (own_of recorder w.terms v.family term q was) Same
                  ];
            };
        passed =
            λ c a q is up hart number o has below.
            elim (at c a is) [
              | inl (e, f) ↦
                  let was : w.terms p.term ≡ Some q = old_parent q (subst (λ a. more a.opening.parent ≡ Some q) (sym f) up) in
                  subst (λ a. slice_get (recorder.outputs a.told hart) number ≡ Some o) f
                  (b.passed q was hart number o has (subst (λ a. o.step < base_of a.opening hart) (sym f) below))
              | inr was ↦ v.passed c a q was (older c a was q up) hart number o has below
            ];
        frames =
            λ f has.
            elim (sent_cases w.sent (Opening new.opening) f has) [
              | inl e ↦ subst (λ f. OfFamily more f) e (opening_granted more u new (put_same w.terms u u (Some new) refl))
              | inr sent ↦ frame_grows recorder quorum w.terms more m.grows f (v.frames f sent)
            ];
        stores = λ keeper s is. grown_store recorder w.terms more s m.grows (v.stores keeper s is);
        saves = λ keeper s is. grown_store recorder w.terms more s m.grows (v.saves keeper s is);
        has_saved = v.has_saved;
        acks =
            λ term keeper hart step below s is.
            holds_on recorder w.terms more w.acked w.acked w.fence w.fence m quorum s s (below_itself s) (v.acks term keeper hart step below s is);
        given = λ t keeper s is. given_on recorder w.terms more w.acked w.acked w.fence w.fence m quorum t keeper s (v.given t keeper s is);
        grants =
            λ term q is.
            elim (at term q is) [
              | inl (e, f) ↦
                  subst (λ q. IsGranted recorder more w.acked w.fence quorum term q) f
                  (subst (λ term. IsGranted recorder more w.acked w.fence quorum term new) e (From from_keepers))
              | inr was ↦
                  granted_on recorder w.terms more w.acked w.acked w.fence w.fence m quorum term q q (later_itself recorder q) (v.grants term q was)
            ];
        released = λ r has. released_on recorder w.terms more w.acked w.acked w.fence w.fence m quorum r (v.released r has);
      }
    where
      new : Past Book
      new = new_term guest u p book

      more : ℕ → Option (Past Book)
      more = put w.terms u (Some new)

      on : Onward recorder w.terms more
      on = onward_new recorder w.terms u new free

      m : Moves recorder w.terms more w.acked w.acked w.fence w.fence
      m = terms_move recorder quorum w more on

      b : Beginning w.terms u p book
      b = begins w.terms v.family u all has.honest p (let a : p.term < u = rules.parent in omega arith) position book begun

      from_keepers : IsFromKeepers recorder more w.acked w.fence quorum u new
      from_keepers =
          record {
            all = all;
            honest = grown_store recorder w.terms more all m.grows has.honest;
            new = is_new;
            position = p;
            is = position;
            parent = refl;
            base = refl;
            by = chosen;
            enough = enough;
            gave =
                λ k under by.
                let (s, is, below) = has.has k under by in
                gives_on recorder w.terms more w.acked w.acked w.fence w.fence m quorum u k s all below (v.given u k s is).gives;
          }

      at : (term : ℕ) (q : Past Book) → more term ≡ Some q → record { 0 : u ≡ term; 1 : new ≡ q } ⊎ (w.terms term ≡ Some q)
      at term q is = put_cases w.terms u new term q is

      old_parent : (q : Past Book) → more p.term ≡ Some q → w.terms p.term ≡ Some q
      old_parent q is =
          let less : p.term < u = rules.parent in
          sym (put_other w.terms u p.term (Some new) (λ e. omega arith)) ∙ is

      -- a parent was granted before
      older : (c : ℕ) (a : Past Book) → w.terms c ≡ Some a → (q : Past Book) → more a.opening.parent ≡ Some q → w.terms a.opening.parent ≡ Some q
      older c a is q up = of ((v.family.honest c a is).starts) (at a.opening.parent q up)
        where
          of : Starts recorder w.terms c a → record { 0 : u ≡ a.opening.parent; 1 : new ≡ q } ⊎ (w.terms a.opening.parent ≡ Some q) →
              w.terms a.opening.parent ≡ Some q
          of starts (inr was) = was
          of (Boot none zeros first boots on) (inl (e, f)) = let some : 1 ≤ u = rules.granted in absurd (omega arith)
          of (At d there less above settled closed first lives on) (inl (e, f)) = some_none there (ap w.terms (sym e) ∙ free)
