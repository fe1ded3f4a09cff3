-- Term 1 takes a step that puts out a word, seals it, and a store gets the piece: where that store's position stands.
use Rattle.std.proofs.Common.{◌≡◌, inl, inr, ℕ, ◌+◌, ◌<◌, ◌≤◌, ◌^◌, cond, [], ◌∷◌, ◌++◌, Contains, Option, Some, None, refl, sym, ap, subst, ◌∙◌, arith}
use Rattle.std.specs.Prelude.{slice_get}
use Rattle.std.proofs.lemmas.List.Elements.{Contains-append_right}
use Rattle.std.specs.declared.cmp.Ordering.{Ordering}
use Rattle.std.specs.Cmp.{IsTotalOrder, nat_cmp_total, eq_by_cmp_equiv}
use Rattle.std.specs.FinMap as map
use Rattle.interleaving.specs.Lists.{put}
use Rattle.interleaving.specs.Log.{Edge}
use Rattle.interleaving.proofs.Put.{same_or_not, put_same, put_other}
use Rattle.interleaving.proofs.Cuts.{here}
use Rattle.ft_types.specs.Counts.{count_at}
use Rattle.ft_types.specs.Guests.{GuestParts, IsGuest}
use Rattle.fragment_codec.specs.declared.frame.Frame.{Frame}
use Rattle.fragment_codec.specs.declared.frame.Frame.TheVariants.{Log, Opening}
use Rattle.fragment_codec.specs.Rules.{FragmentParts}
use Rattle.log_join.proofs.Families.{honest_nothing, honest_alone}
use Rattle.log_join.proofs.Joins.{keys_total}
use Rattle.log_join.specs.Cells.{One, cell_of}
use Rattle.log_join.specs.Families.{Past}
use Rattle.log_join.specs.FamilyLaws.{IsHonestJoin}
use Rattle.log_join.specs.Stores.{StoreView, IsFragmentOf, IsJoin, opening_at, nothing, alone}
use Rattle.closed_cut.specs.Position.{pieces_of, Goes, base_of, IsPosition}
use Rattle.ft_types.specs.declared.position.Position.{Position}
use Rattle.closed_cut.proofs.Chains.{zero_row}
use Rattle.closed_cut.proofs.Finding.{there}
use Rattle.fenced_theory.specs.Recorders.{Output, Recorder, IsBoot, GoesTo, CanLive}
use Rattle.fenced_theory.specs.Families.{IsCutFrom, Keeps, Here, Above}
use Rattle.fenced_theory.specs.Notes.{HasNotes}
use Rattle.fenced_theory.specs.Worlds.{Quorum, first_term, World, first_world, stepped, sealed, Step, Seal, Comes, Begins, Then}
use Rattle.fenced_theory.proofs.Growing.{some_none, Covered, There, Backed}
use Rattle.fenced_theory.proofs.Fate.{keeps_less}
use Rattle.fenced_theory.proofs.Stores.{honest_join}
use Rattle.fenced_theory.proofs.Giving.{HasStep, position_has}
use Rattle.fenced_theory.proofs.Invariant.{Invariant}
use Rattle.fenced_theory.proofs.Events.{always}
use Rattle.fenced_theory.proofs.Ruled.{honest_is_store, ruled}
use Rattle.fenced_theory.proofs.Granting.{a_join}

-- what a map of one content has at its key
one_there : {K X : Type 0} {R : K → K → Ordering} → (total : IsTotalOrder R) → (k : K) (x : X) →
    cell_of (map.get (map.insert (map.empty {X = Option X} {R = R}) k (Some x)) k) ≡ One x
one_there {K} {X} {R} total k x =
    ap cell_of
    (map.get-insert total map.empty k (Some x) k ∙
    ap (λ b. cond b (Some (Some x)) (map.get (map.empty {X = Option X} {R = R}) k)) ((eq_by_cmp_equiv total).refl k))

-- a book of a guest that puts out a word, and has no edge
pub record Sample {Book Fact : Type 0} (recorder : Recorder Book Fact) (guest : GuestParts) : Type 0 where
  pub rules : IsGuest guest
  pub boot : Book
  pub told : Book
  pub output : Output
  pub boots : IsBoot recorder boot
  pub goes : GoesTo recorder boot told
  pub out : slice_get (recorder.outputs told 0) 0 ≡ Some output
  pub early : output.step < 2 ^ 31
  pub inside : output.step < recorder.counts told 0
  pub no_edges : (e : Edge) → Contains (recorder.edges told) e → ⊥
  pub lives : CanLive recorder

-- one keeper, whose acknowledgement is enough
abbrev pub quorum : Quorum
quorum = record { keepers = 1; need = 1 }

module _ {Book Fact : Type 0} (recorder : Recorder Book Fact) (guest : GuestParts) (g : Sample recorder guest) where
  abbrev pub start : Past Book
  start = first_term guest g.boot

  abbrev pub x : FragmentParts
  x = record { guest = guest; key = record { term = 1; hart = 0; place = 0 }; from = 0; to = g.output.step + 1; records = [] }

  abbrev pub p : Past Book
  p = record start { told = g.told }

  abbrev pub q : Past Book
  q = record p { pieces = put p.pieces 0 (p.pieces 0 ++ x ∷ []) }

  abbrev w1 : World Book
  w1 = stepped (first_world guest g.boot) 1 start g.told

  abbrev pub w2 : World Book
  w2 = sealed w1 1 p 0 x

  abbrev pub f1 : Frame
  f1 = Opening start.opening

  abbrev pub f2 : Frame
  f2 = Log x

  pub base_0 : (hart : ℕ) → base_of start.opening hart ≡ 0
  base_0 hart = zero_row guest.harts hart

  pub x_rules : IsFragmentOf guest (record { term = 1; hart = 0; place = 0 }) x
  x_rules =
      let rules : IsGuest guest = g.rules in
      record {
        rules =
            record {
              guest = rules;
              key = let some : 1 ≤ guest.harts = rules.some in record { hart = omega arith; granted = omega arith; term = omega arith; place = omega arith };
              some = omega arith;
              end = let early : g.output.step < 2 ^ 31 = g.early in omega arith;
              short = λ more. let early : g.output.step < 2 ^ 31 = g.early in omega arith;
              noted = λ is. absurd cc;
              records = record { limit = omega arith; each = tt; order = tt; inputs = λ count. omega arith };
            };
        same_guest = refl;
        same_key = refl;
      }

  pub cut_x : IsCutFrom recorder g.told 0 x
  cut_x = record { rises = omega arith; settled = let inside : g.output.step < recorder.counts g.told 0 = g.inside in omega arith; has = λ e has. absurd (g.no_edges e has); only = λ e (k, below, is). absurd (omega arith) }

  pub no_notes : HasNotes [] x
  no_notes = record { has = λ note (k, below, is). absurd (omega arith); only = λ note (k, below, is). absurd (omega arith) }

  pub comes2 : Comes recorder guest quorum w2
  comes2 = Then (Then (Begins g.boot g.boots) (Step 1 start g.told refl g.goes)) (Seal 1 p 0 x refl x_rules (sym (base_0 0)) cut_x no_notes)

  pub in_1 : Contains w2.sent f1
  in_1 = here f1 (f2 ∷ [])

  pub in_2 : Contains w2.sent f2
  in_2 = Contains-append_right (f1 ∷ []) (f2 ∷ []) f2 (here f2 [])

  before : Invariant recorder quorum w2
  before = always recorder guest quorum comes2

  pub j1 : (c : StoreView) × IsJoin (nothing guest) (alone f1) c
  j1 = a_join (nothing guest) (alone f1)

  pub j2 : (c : StoreView) × IsJoin j1.0 (alone f2) c
  j2 = a_join j1.0 (alone f2)

  abbrev pub s2 : StoreView
  s2 = j2.0

  h1 : IsHonestJoin w2.terms (nothing guest) (alone f1) j1.0
  h1 = honest_join w2.terms (nothing guest) (alone f1) j1.0 (honest_nothing w2.terms guest) (honest_alone w2.terms f1 (before.frames f1 in_1)) j1.1

  h2 : IsHonestJoin w2.terms j1.0 (alone f2) s2
  h2 = honest_join w2.terms j1.0 (alone f2) s2 h1.honest (honest_alone w2.terms f2 (before.frames f2 in_2)) j2.1

  opens : opening_at s2 1 ≡ One start.opening
  opens = h2.left.openings 1 start.opening (h1.right.openings 1 start.opening (one_there nat_cmp_total 1 start.opening))

  holds : pieces_of s2 1 0 0 ≡ One x
  holds = h2.right.fragments x.key x (one_there keys_total x.key x)

  -- only term 1 was granted
  pub only_first : (u : ℕ) (r : Past Book) → w2.terms u ≡ Some r → u ≡ 1
  only_first u r is =
      elim (same_or_not 1 u) [
        | inl e ↦ sym e
        | inr ne ↦
            some_none is
            (put_other w1.terms 1 u (Some q) ne ∙ (put_other (first_world guest g.boot).terms 1 u (Some p) ne ∙ put_other (λ term. None) 1 u (Some start) ne))
      ]

  pub is_q : w2.terms 1 ≡ Some q
  is_q = put_same w1.terms 1 1 (Some q) refl

  cut : ℕ → ℕ
  cut = put (λ hart. 0) 0 (g.output.step + 1)

  covered : Covered recorder w2.terms s2 1 cut
  unfolding cut
  covered =
      record {
        past = q;
        is = is_q;
        opens = opens;
        above = λ hart. let z : base_of start.opening hart ≡ 0 = base_0 hart in omega arith;
        settled =
            λ hart.
            elim (same_or_not 0 hart) [
              | inl e ↦ let f : cut hart ≡ g.output.step + 1 = put_same (λ hart. 0) 0 hart (g.output.step + 1) e in
                  let some : g.output.step < recorder.counts g.told 0 = g.inside in
                  let h : recorder.counts g.told 0 ≡ recorder.counts g.told hart = ap (recorder.counts g.told) e in omega arith
              | inr ne ↦ let f : cut hart ≡ 0 = put_other (λ hart. 0) 0 hart (g.output.step + 1) ne in omega arith
            ];
        goes =
            λ hart.
            elim (same_or_not 0 hart) [
              | inl e ↦
                  let f : cut hart ≡ g.output.step + 1 = put_same (λ hart. 0) 0 hart (g.output.step + 1) e in
                  subst (λ h. (place : ℕ) × (end : ℕ) × Goes (pieces_of s2 1 h) (base_of start.opening h) place end × (cut hart ≤ end)) e
                  (1, g.output.step + 1, (x, sym (base_0 0), holds, refl), omega arith)
              | inr ne ↦ let f : cut hart ≡ 0 = put_other (λ hart. 0) 0 hart (g.output.step + 1) ne in (0, base_of start.opening hart, refl, omega arith)
            ];
        closed = λ e has. absurd (g.no_edges e has);
      }

  backed : Backed recorder w2.terms s2 1 cut
  backed = record { root = 1; past = q; is = is_q; first = refl; opens = opens; leads = There refl covered }

  has_step : HasStep recorder w2.terms s2 1 0 g.output.step
  unfolding cut
  has_step = record { cut = cut; backed = backed; inside = omega arith }

  no_other : {u : ℕ} → Keeps w2.terms 1 0 g.output.step u → ⊥
  no_other (Here {u = u} r is parent below) =
      let a : u ≡ 1 = only_first u r is in let b : 1 < u = keeps_less recorder w2.terms before.family 1 0 g.output.step (Here r is parent below) in omega arith
  no_other (Above {u = u} r is k) =
      let a : u ≡ 1 = only_first u r is in let b : 1 < u = keeps_less recorder w2.terms before.family 1 0 g.output.step (Above r is k) in omega arith

  abbrev Found : Type 0
  Found = (a : Position) × IsPosition s2 a

  -- the store has a position, and it is of term 1 and has the step
  pub found : Found
  found =
      let store = honest_is_store guest w2.terms s2 (ruled recorder guest quorum g.rules comes2).terms h2.honest (j2.1.guest ∙ j1.1.guest) in
      let (a, is, many, counts) = there s2 store in (a, is)

  pub stands : record { 0 : found.0.term ≡ 1; 1 : g.output.step < count_at found.0.counts 0 }
  stands =
      elim
      (
      position_has recorder w2.terms before.family s2 h2.honest found.0 1 0 g.output.step found.1 has_step
      (λ top t is_t one_t less. let a : top ≡ 1 = only_first top t is_t in absurd (omega arith))) [
        | inl (here, inside) ↦ (here, inside)
        | inr k ↦ absurd (no_other k)
      ]
