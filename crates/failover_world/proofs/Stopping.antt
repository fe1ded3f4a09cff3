-- What happens where primaries stop is what happens in the theory, whose keepers raise their fences just before a grant.
use Rattle.std.proofs.Common.{◌≡◌, ◌⊎◌, inl, inr, ℕ, zero, suc, ◌+◌, ◌-◌, ◌<◌, ◌≤◌, Bool, true, false, List, [], ◌∷◌, ◌++◌, length, nat_lt, Contains, Option, Some, None, refl, sym, ap, ◌∙◌, arith, le_trans}
use Rattle.std.specs.Prelude.{slice_get}
use Rattle.std.proofs.lemmas.Bool.{cases_lt}
use Rattle.interleaving.specs.Lists.{put}
use Rattle.interleaving.proofs.Put.{same_or_not, put_same, put_other}
use Rattle.ft_types.specs.Counts.{count_at}
use Rattle.ft_types.specs.Guests.{GuestParts}
use Rattle.ft_types.specs.declared.position.Position.{Position}
use Rattle.fragment_codec.specs.declared.frame.Frame.{Frame}
use Rattle.fragment_codec.specs.declared.frame.Frame.TheVariants.{Log, Opening}
use Rattle.fragment_codec.specs.Rules.{FragmentParts, IsOpening}
use Rattle.log_join.specs.Families.{Past, end_of}
use Rattle.log_join.specs.Stores.{StoreView, IsFragmentOf, IsJoin, nothing, alone}
use Rattle.closed_cut.specs.Position.{base_of, IsPosition}
use Rattle.fenced_theory.specs.Lists.{how_many}
use Rattle.fenced_theory.specs.Recorders.{Output, Recorder, IsBoot, GoesTo}
use Rattle.fenced_theory.specs.Families.{IsCutFrom}
use Rattle.fenced_theory.specs.Notes.{HasNotes, IsNoting, IsMark}
use Rattle.fenced_theory.specs.Worlds.{Released, Quorum, HasGiven, first_term, new_opening, new_term, BeginsAt, IsNewTo}
use Rattle.fenced_theory.specs.Worlds as fences
use Rattle.fenced_theory.proofs.Growing.{an_opening, some_none, grows_itself}
use Rattle.fenced_theory.proofs.Fate.{keeps_less}
use Rattle.fenced_theory.proofs.Stores.{see, see_bool}
use Rattle.fenced_theory.proofs.Onward.{put_cases}
use Rattle.fenced_theory.proofs.Giving.{HasStep, has_grows, position_has, held_itself}
use Rattle.fenced_theory.proofs.Invariant.{Invariant}
use Rattle.fenced_theory.proofs.Acking.{raised, raised_keeps, raised_reaches}
use Rattle.fenced_theory.proofs.Events.{always, failover}
use Rattle.fenced_theory.proofs.Reaching.{keeps_granted}
use Rattle.failover_world.specs.machinery.Stopping.{World, WentOut, Keepers, beside, stepped, Comes}

module _ {Book Fact : Type 0} (recorder : Recorder Book Fact) (guest : GuestParts) (quorum : Quorum) where
  -- term 1 runs from boot
  pub first_comes : (b : Book) → IsBoot recorder b →
      Comes recorder guest quorum
      (record {
        now = 1;
        terms = put (λ term. None) 1 (Some (first_term guest b));
        sent = Opening ((first_term guest b).opening) ∷ [];
        stores = λ keeper. Some (nothing guest);
        acked = λ keeper hart. 0;
        notes = λ term hart. [];
        marks = λ term hart. 0;
        released = [];
      })
  first_comes b boots =
      record {
        keepers = record { saved = λ keeper. Some (nothing guest); fence = λ keeper. 1; given = λ term keeper. None; acked = λ term keeper hart. 0 };
        comes = fences.Begins b boots;
        low = λ keeper. omega arith;
        high = λ keeper hart. omega arith;
        last =
            λ term p at.
            elim (put_cases (λ term. None) 1 (first_term guest b) term p at) [ inl (e, same) ↦ omega arith | inr none ↦ some_none none refl ];
      }

  module _ {w : World Book} (c : Comes recorder guest quorum w) where
    pub kept : Invariant recorder quorum (beside w c.keepers)
    kept = always recorder guest quorum c.comes

    -- ---- what the primary does

    last_put : (r : Past Book) (term : ℕ) (q : Past Book) → put w.terms w.now (Some r) term ≡ Some q → term ≤ w.now
    last_put r term q at = elim (put_cases w.terms w.now r term q at) [ inl (e, same) ↦ omega arith | inr was ↦ c.last term q was ]

    pub steps : (p : Past Book) (b : Book) → w.terms w.now ≡ Some p → GoesTo recorder p.told b → Comes recorder guest quorum (stepped w p b)
    steps p b is goes =
        record {
          keepers = c.keepers;
          comes = fences.Then c.comes (fences.Step w.now p b is goes);
          low = c.low;
          high = c.high;
          last = last_put (record p { told = b });
        }

    pub seals : (p : Past Book) (hart : ℕ) (x : FragmentParts) → w.terms w.now ≡ Some p →
        IsFragmentOf guest (record { term = w.now; hart = hart; place = length (p.pieces hart) }) x →
        x.from ≡ end_of (base_of p.opening hart) (p.pieces hart) → IsCutFrom recorder p.told hart x → HasNotes (w.notes w.now hart) x →
        Comes recorder guest quorum
        (record w {
          terms = put w.terms w.now (Some (record p { pieces = put p.pieces hart (p.pieces hart ++ x ∷ []) }));
          sent = w.sent ++ Log x ∷ [];
        })
    seals p hart x is rules from cut tells =
        record {
          keepers = c.keepers;
          comes = fences.Then c.comes (fences.Seal w.now p hart x is rules from cut tells);
          low = c.low;
          high = c.high;
          last = last_put (record p { pieces = put p.pieces hart (p.pieces hart ++ x ∷ []) });
        }

    pub releases : (p : Past Book) (hart number : ℕ) (o : Output) (noted : ℕ → ℕ) → w.terms w.now ≡ Some p →
        slice_get (recorder.outputs p.told hart) number ≡ Some o → ((keeper : ℕ) → noted keeper ≤ w.acked keeper hart) →
        quorum.need ≤ how_many quorum.keepers (λ keeper. nat_lt o.step (noted keeper)) → w.marks w.now hart ≤ number →
        Comes recorder guest quorum (record w { released = record { term = w.now; hart = hart; number = number; output = o } ∷ w.released })
    releases p hart number o noted is at low enough above =
        record {
          keepers = c.keepers;
          comes = fences.Then c.comes (fences.Release w.now p hart number o noted is at (λ keeper. le_trans (low keeper) (c.high keeper hart)) enough above);
          low = c.low;
          high = c.high;
          last = c.last;
        }

    -- whatever went out did so by now
    pub makes_note : (p : Past Book) (hart number : ℕ) (notes : List (ℕ × ℕ)) → w.terms w.now ≡ Some p →
        IsNoting (w.notes w.now hart) (recorder.counts p.told hart) number notes →
        ((k : ℕ) → k < number → (k < w.marks w.now hart) ⊎ WentOut w.released hart k) →
        Comes recorder guest quorum (record w { notes = put w.notes w.now (put (w.notes w.now) hart notes) })
    makes_note p hart number notes is one known =
        record {
          keepers = c.keepers;
          comes =
              fences.Then c.comes
              (fences.Note w.now p hart number notes is one
              (λ k less.
              elim (known k less) [
                | inl low ↦ inl low
                | inr (r, has, same, number_is) ↦ (let i = kept.released r has in inr (r, has, same, number_is, c.last r.term i.past i.is))
              ]));
          low = c.low;
          high = c.high;
          last = c.last;
        }

    -- ---- what keepers do

    pub delivers : (keeper : ℕ) (s r : StoreView) (f : Frame) → w.stores keeper ≡ Some s → Contains w.sent f → IsJoin s (alone f) r →
        Comes recorder guest quorum (record w { stores = put w.stores keeper (Some r) })
    delivers keeper s r f is has join =
        record { keepers = c.keepers; comes = fences.Then c.comes (fences.Deliver keeper s r f is has join); low = c.low; high = c.high; last = c.last }

    pub joins : (keeper other : ℕ) (s t r : StoreView) → w.stores keeper ≡ Some s → w.stores other ≡ Some t → IsJoin s t r →
        Comes recorder guest quorum (record w { stores = put w.stores keeper (Some r) })
    joins keeper other s t r is at join =
        record { keepers = c.keepers; comes = fences.Then c.comes (fences.Join keeper other s t r is at join); low = c.low; high = c.high; last = c.last }

    pub loses : (keeper : ℕ) → Comes recorder guest quorum (record w { stores = put w.stores keeper None })
    loses keeper =
        record {
          keepers =
              record { saved = put c.keepers.saved keeper None; fence = c.keepers.fence; given = c.keepers.given; acked = c.keepers.acked };
          comes = fences.Then c.comes (fences.Lose keeper);
          low = c.low;
          high = c.high;
          last = c.last;
        }

    -- it writes its store down first
    pub acknowledges : (keeper : ℕ) (s : StoreView) (p : Position) → w.stores keeper ≡ Some s → IsPosition s p → p.term ≡ w.now →
        Comes recorder guest quorum (record w { acked = put w.acked keeper (count_at p.counts) })
    acknowledges keeper s p is position here =
        record {
          keepers =
              record {
                saved = put c.keepers.saved keeper (Some s);
                fence = c.keepers.fence;
                given = c.keepers.given;
                acked = raised c.keepers.acked p.term keeper (count_at p.counts);
              };
          comes =
              fences.Then (fences.Then c.comes (fences.Save keeper s is))
              (fences.Acknowledge keeper s p (put_same c.keepers.saved keeper keeper (Some s) refl) position
              (let a : c.keepers.fence keeper ≤ w.now = c.low keeper in omega arith));
          low = c.low;
          high = high;
          last = c.last;
        }
      where
        high : (k hart : ℕ) → put w.acked keeper (count_at p.counts) k hart ≤ raised c.keepers.acked p.term keeper (count_at p.counts) w.now k hart
        high k hart =
            elim (same_or_not keeper k) [
              | inl e ↦
                  let a : put w.acked keeper (count_at p.counts) k hart ≡ count_at p.counts hart =
                  ap (λ n. n hart) (put_same w.acked keeper k (count_at p.counts) e) in
                  let b : count_at p.counts hart ≤ raised c.keepers.acked p.term keeper (count_at p.counts) w.now k hart =
                  raised_reaches c.keepers.acked p.term keeper (count_at p.counts) w.now k hart here e in
                  omega arith
              | inr ne ↦
                  let a : put w.acked keeper (count_at p.counts) k hart ≡ w.acked k hart =
                  ap (λ n. n hart) (put_other w.acked keeper k (count_at p.counts) ne) in
                  let b : w.acked k hart ≤ c.keepers.acked w.now k hart = c.high k hart in
                  let d : c.keepers.acked w.now k hart ≤ raised c.keepers.acked p.term keeper (count_at p.counts) w.now k hart =
                  raised_keeps c.keepers.acked p.term keeper (count_at p.counts) w.now k hart in
                  omega arith
            ]

    -- ---- a grant

    -- the chosen keepers below n gave their stores for the term
    record HaveGiven (u : ℕ) (chosen : ℕ → Bool) (n : ℕ) : Type 0 where
      keepers : Keepers
      comes : fences.Comes recorder guest quorum (beside w keepers)
      low : (keeper : ℕ) → keepers.fence keeper ≤ u
      gave : (keeper : ℕ) → keeper < n → chosen keeper ≡ true → keepers.given u keeper ≡ w.stores keeper

    gives : (u : ℕ) (chosen : ℕ → Bool) (n : ℕ) (s : StoreView) → w.stores n ≡ Some s → HaveGiven u chosen n → HaveGiven u chosen (suc n)
    gives u chosen n s there g =
        record {
          keepers =
              record {
                saved = g.keepers.saved;
                fence = put g.keepers.fence n u;
                given = put g.keepers.given u (put (g.keepers.given u) n (Some s));
                acked = g.keepers.acked;
              };
          comes = fences.Then g.comes (fences.Fence n u s there (g.low n));
          low =
              λ keeper.
              elim (same_or_not n keeper) [
                | inl e ↦ let f : put g.keepers.fence n u keeper ≡ u = put_same g.keepers.fence n keeper u e in omega arith
                | inr ne ↦
                    let f : put g.keepers.fence n u keeper ≡ g.keepers.fence keeper = put_other g.keepers.fence n keeper u ne in
                    let a : g.keepers.fence keeper ≤ u = g.low keeper in
                    omega arith
              ];
          gave =
              λ keeper under by.
              ap (λ row. row keeper) (put_same g.keepers.given u u (put (g.keepers.given u) n (Some s)) refl) ∙
              elim (same_or_not n keeper) [
                | inl e ↦ put_same (g.keepers.given u) n keeper (Some s) e ∙ (sym there ∙ ap w.stores e)
                | inr ne ↦ put_other (g.keepers.given u) n keeper (Some s) ne ∙ g.gave keeper (omega arith) by
              ];
        }

    gives_not : (u : ℕ) (chosen : ℕ → Bool) (n : ℕ) → chosen n ≡ false → HaveGiven u chosen n → HaveGiven u chosen (suc n)
    gives_not u chosen n miss g =
        record {
          keepers = g.keepers;
          comes = g.comes;
          low = g.low;
          gave =
              λ keeper under hit.
              elim (cases_lt keeper n) [
                | inl before ↦ g.gave keeper before hit
                | inr last ↦ let k : keeper ≡ n = omega arith in let e : true ≡ false = sym hit ∙ (ap chosen k ∙ miss) in cc
              ];
        }

    have_given : (u : ℕ) → w.now < u → (chosen : ℕ → Bool) (n : ℕ) →
        ((keeper : ℕ) → keeper < n → chosen keeper ≡ true → (s : StoreView) × (w.stores keeper ≡ Some s)) → HaveGiven u chosen n
    have_given u later chosen zero has =
        record {
          keepers = c.keepers;
          comes = c.comes;
          low = λ keeper. let a : c.keepers.fence keeper ≤ w.now = c.low keeper in omega arith;
          gave = λ keeper none. absurd (omega arith);
        }
    have_given u later chosen (suc n) has =
        let g = have_given u later chosen n (λ keeper less. has keeper (omega arith)) in
        elim (see_bool (chosen n)) [
          | inl hit ↦ (let (s, there) = has n (omega arith) hit in gives u chosen n s there g)
          | inr miss ↦ gives_not u chosen n miss g
        ]

    pub grants : (u : ℕ) (chosen : ℕ → Bool) (all : StoreView) (p : Position) (b : Book) (marks : ℕ → ℕ) → w.now < u →
        HasGiven guest w.terms w.stores chosen quorum.keepers all → quorum.keepers < quorum.need + how_many quorum.keepers chosen →
        IsPosition all p → IsOpening (new_opening guest u p) → BeginsAt recorder w.terms p b → ((hart : ℕ) → IsMark w.terms all p hart (marks hart)) →
        Comes recorder guest quorum
        (record w {
          now = u;
          terms = put w.terms u (Some (new_term guest u p b));
          sent = w.sent ++ Opening (new_opening guest u p) ∷ [];
          acked = λ keeper hart. 0;
          notes = put w.notes u (λ hart. []);
          marks = put w.marks u marks;
        })
    grants u chosen all p b marks later has enough position rules begun are_marks =
        let g = have_given u later chosen quorum.keepers (λ keeper under hit. let (s, at, below) = has.has keeper under hit in (s, at)) in
        record {
          keepers = g.keepers;
          comes =
              fences.Then g.comes
              (fences.Grant u chosen all p b marks free
              (record {
                of_guest = has.of_guest;
                honest = has.honest;
                has = λ keeper under hit. let (s, at, below) = has.has keeper under hit in (s, g.gave keeper under hit ∙ at, below);
              }) enough new position rules begun are_marks);
          low = g.low;
          high = λ keeper hart. omega arith;
          last =
              λ term q at.
              elim (put_cases w.terms u (new_term guest u p b) term q at) [
                | inl (e, same) ↦ omega arith
                | inr was ↦ let le : term ≤ w.now = c.last term q was in omega arith
              ];
        }
      where
        free : w.terms u ≡ None
        free = elim (see (w.terms u)) [ inl none ↦ none | inr (q, is) ↦ let le : u ≤ w.now = c.last u q is in absurd (omega arith) ]

        new : IsNewTo all u
        new term o one =
            let (q, is, e) = an_opening w.terms all term o has.honest one in
            let le : term ≤ w.now = c.last term q is in
            omega arith

    -- ---- what holds of the term granted last

    -- its machine has what went out
    pub current : (r : Released) (p : Past Book) → Contains w.released r → w.terms w.now ≡ Some p →
        slice_get (recorder.outputs p.told r.hart) r.number ≡ Some r.output
    current r p has is =
        let i = kept.released r has in (failover recorder guest quorum (beside w c.keepers) c.comes).has r w.now p has is (c.last r.term i.past i.is)

    -- what was acknowledged in it is in the store, so in its position
    pub acked_inside : (keeper hart : ℕ) (s : StoreView) (p : Position) → w.stores keeper ≡ Some s → IsPosition s p → 0 < w.acked keeper hart →
        (p.term ≡ w.now) × (w.acked keeper hart ≤ count_at p.counts hart)
    acked_inside keeper hart s p is position some =
        elim
        (
        position_has recorder w.terms kept.family s (kept.stores keeper s is) p w.now hart (w.acked keeper hart - 1) position step
        (λ top t is_t one later. let le : top ≤ w.now = c.last top t is_t in absurd (omega arith))) [
          | inl (same_term, low) ↦ (same_term, let l : w.acked keeper hart - 1 < count_at p.counts hart = low in omega (arith, l, some))
          | inr k ↦
              let over : w.now < p.term = keeps_less recorder w.terms kept.family w.now hart (w.acked keeper hart - 1) k in
              let (q, is_q) = keeps_granted w.terms w.now hart (w.acked keeper hart - 1) k in
              let most : p.term ≤ w.now = c.last p.term q is_q in
              absurd (omega (arith, over, most))
        ]
      where
        step : HasStep recorder w.terms s w.now hart (w.acked keeper hart - 1)
        step =
            let h = kept.has_saved keeper s is in
            let high : w.acked keeper hart ≤ c.keepers.acked w.now keeper hart = c.high keeper hart in
            has_grows recorder w.terms w.terms h.store s w.now hart (w.acked keeper hart - 1) (grows_itself recorder w.terms) h.below
            (
            held_itself recorder w.terms c.keepers.acked c.keepers.fence quorum h.store (c.low keeper)
            (kept.acks w.now keeper hart (w.acked keeper hart - 1) (omega (arith, some, high)) h.store h.is)
            )

    -- none of its acknowledgements is below one before it
    pub never_lower : (keeper : ℕ) (s : StoreView) (p : Position) → w.stores keeper ≡ Some s → IsPosition s p → (hart : ℕ) →
        w.acked keeper hart ≤ count_at p.counts hart
    never_lower keeper s p is position hart =
        elim (cases_lt 0 (w.acked keeper hart)) [
          | inl some ↦ (acked_inside keeper hart s p is position some).1
          | inr none ↦ omega (arith, none)
        ]
