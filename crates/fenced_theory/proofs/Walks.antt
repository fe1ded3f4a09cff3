-- Walks over the pieces of an honest store: what is covered fits, and what is reached is covered.
use Rattle.std.proofs.Common.{◌≡◌, inl, inr, ℕ, zero, suc, ◌<◌, ◌≤◌, min, Option, Some, None, MatchOption, refl, sym, ap, subst, ◌∙◌, arith, le_trans}
use Rattle.log_join.specs.Families.{Past, HonestStore}
use Rattle.std.specs.Prelude.{slice_get}
use Rattle.std.proofs.lemmas.Bool.{cases_lt}
use Rattle.fragment_codec.specs.Rules.{FragmentParts}
use Rattle.log_join.specs.Cells.{Cell, One}
use Rattle.log_join.specs.Stores.{StoreView, opening_at}
use Rattle.closed_cut.specs.Position.{pieces_of, Goes, Avail, Fits, IsReached, base_of}
use Rattle.fenced_theory.specs.Recorders.{Recorder}
use Rattle.fenced_theory.specs.Families.{IsCutFrom, Starts, Boot, At, IsFamily}
use Rattle.fenced_theory.specs.Laws.{Growth}
use Rattle.interleaving.specs.Log.{IsClosed}
use Rattle.fenced_theory.proofs.Growing.{Covered, a_piece, some_same, some_none, one_same, covered_grows, grows_itself}

module _ (parts : ℕ → Cell FragmentParts) (start : ℕ) where
  -- over so many places there is one end
  pub goes_same : (place end other : ℕ) → Goes parts start place end → Goes parts start place other → end ≡ other
  goes_same zero end other e f = e ∙ sym f
  goes_same (suc place) end other (x, g, is, e) (y, h, at, f) = e ∙ (ap (λ x. x.to) (one_same is at) ∙ sym f)

  -- a step below the end is in a piece that the walk went over
  pub in_a_piece : (place end step : ℕ) → Goes parts start place end → start ≤ step → step < end →
      (at : ℕ) × (x : FragmentParts) × (at < place) × (parts at ≡ One x) × (x.from ≤ step) × (step < x.to)
  in_a_piece zero end step e from below = absurd (omega arith)
  in_a_piece (suc place) end step (x, g, is, e) from below =
      elim (cases_lt step x.from) [
        | inl before ↦ let (at, y, under, one, lo, hi) = in_a_piece place x.from step g from before in (at, y, omega arith, one, lo, hi)
        | inr later ↦ (place, x, omega arith, is, later, omega arith)
      ]

  -- what a longer walk did next
  pub cut_short : (more place end : ℕ) → Goes parts start more end → place < more → (x : FragmentParts) × Goes parts start place x.from × (parts place ≡ One x)
  cut_short zero place end e less = absurd (omega arith)
  cut_short (suc more) place end (x, g, is, e) less =
      elim (cases_lt place more) [
        | inl before ↦ cut_short more place x.from g before
        | inr later ↦ let same : more ≡ place = omega arith in (x, subst (λ n. Goes parts start n x.from) same g, subst (λ n. parts n ≡ One x) same is)
      ]

  -- the walk over more places comes further
  pub goes_further : ((place : ℕ) (x : FragmentParts) → parts place ≡ One x → x.from < x.to) → (more place end far : ℕ) → Goes parts start place end →
      Goes parts start more far → place ≤ more → end ≤ far
  goes_further rises zero place end far g h le =
      let e : place ≡ 0 = omega arith in let f : end ≡ far = goes_same 0 end far (subst (λ n. Goes parts start n end) e g) h in omega arith
  goes_further rises (suc more) place end far g (x, h, is, f) le =
      elim (cases_lt place (suc more)) [
        | inl less ↦ let k : end ≤ x.from = goes_further rises more place end x.from g h (omega arith) in let r : x.from < x.to = rises more x is in omega arith
        | inr same ↦
            let e : place ≡ suc more = omega arith in
            let k : end ≡ far = goes_same (suc more) end far (subst (λ n. Goes parts start n end) e g) (x, h, is, f) in
            omega arith
      ]

  -- none comes further than one that can't go on
  pub goes_no_further : ((place : ℕ) (x : FragmentParts) → parts place ≡ One x → x.from < x.to) → (places end place far : ℕ) → Goes parts start places end →
      ((x : FragmentParts) → parts places ≡ One x → x.from ≡ end → ⊥) → Goes parts start place far → far ≤ end
  goes_no_further rises places end place far g stops h =
      elim (cases_lt places place) [
        | inl beyond ↦ let (x, k, is) = cut_short place places far h beyond in absurd (stops x is (goes_same places x.from end k g))
        | inr within ↦ goes_further rises places place far end h g within
      ]

module _ {Book Fact : Type 0} (recorder : Recorder Book Fact) (terms : ℕ → Option (Past Book)) where
  -- a piece of the store is cut from its term's log
  pub cut_from : IsFamily recorder terms → (s : StoreView) (term hart place : ℕ) (x : FragmentParts) (p : Past Book) → HonestStore terms s →
      terms term ≡ Some p → pieces_of s term hart place ≡ One x →
      IsCutFrom recorder p.told hart x
  cut_from family s term hart place x p honest is one =
      let (q, at, n) = a_piece terms s term hart place x honest one in
      (family.honest term p is).cut_from hart place x (subst (λ q. slice_get (q.pieces hart) place ≡ Some x) (some_same at is) n)

  pub rises : IsFamily recorder terms → (s : StoreView) (term : ℕ) (p : Past Book) → HonestStore terms s → terms term ≡ Some p →
      (hart place : ℕ) (x : FragmentParts) → pieces_of s term hart place ≡ One x → x.from < x.to
  rises family s term p honest is hart place x one = (cut_from family s term hart place x p honest is one).rises

  pub ends_settled : IsFamily recorder terms → (s : StoreView) (term : ℕ) (p : Past Book) → HonestStore terms s → terms term ≡ Some p → (hart place end : ℕ) →
      Goes (pieces_of s term hart) ((base_of p.opening) hart) place end → end ≤ recorder.counts p.told hart
  ends_settled family s term p honest is hart zero end e =
      let f : recorder.start p.told hart ≡ (base_of p.opening) hart = (family.honest term p is).start hart in
      let k : recorder.start p.told hart ≤ recorder.counts p.told hart = recorder.forward p.told hart in
      omega arith
  ends_settled family s term p honest is hart (suc place) end (x, g, one, e) =
      let k : x.to ≤ recorder.counts p.told hart = (cut_from family s term hart place x p honest is one).settled in omega arith

  -- what a walk reached is covered
  pub reached_covered : IsFamily recorder terms → (s : StoreView) (term : ℕ) (p : Past Book) (next : Option (ℕ → ℕ)) (cut : ℕ → ℕ) → HonestStore terms s →
      terms term ≡ Some p →
      opening_at s term ≡ One (p.opening) → IsReached s term (base_of p.opening) next cut → Covered recorder terms s term cut
  reached_covered family s term p next cut honest is opens r =
      record {
        past = p;
        is = is;
        opens = opens;
        above = r.fits.above;
        settled = λ hart. le_trans (r.fits.within hart)
            (ends_settled family s term p honest is hart (r.avail.places hart) (r.avail.end hart) (r.avail.goes hart));
        goes = λ hart. (r.avail.places hart, r.avail.end hart, r.avail.goes hart, r.fits.within hart);
        closed = shut;
      }
    where
      shut : IsClosed (recorder.edges p.told) cut
      shut e is_edge below =
          let far : cut e.hart ≤ r.avail.end e.hart = r.fits.within e.hart in
          let from : recorder.start p.told e.hart ≤ e.step = recorder.from_start p.told e is_edge in
          let start : recorder.start p.told e.hart ≡ (base_of p.opening) e.hart = (family.honest term p is).start e.hart in
          let (at, x, under, one, lo, hi) =
          in_a_piece (pieces_of s term e.hart) ((base_of p.opening) e.hart) (r.avail.places e.hart) (r.avail.end e.hart) e.step (r.avail.goes e.hart)
          (omega arith) (omega arith) in
          r.fits.closed e.hart at x e under one ((cut_from family s term e.hart at x p honest is one).has e is_edge refl lo hi) below

  -- what is covered fits
  pub covered_fits : IsFamily recorder terms →
      (s : StoreView) (term : ℕ) (p : Past Book) (next : Option (ℕ → ℕ)) (cut : ℕ → ℕ) (avail : Avail s term (base_of p.opening)) → HonestStore terms s →
      terms term ≡ Some p →
      Covered recorder terms s term cut → MatchOption next (Unit {0}) (λ limit. (hart : ℕ) → cut hart ≤ limit hart) →
      Fits s term (base_of p.opening) next avail cut
  covered_fits family s term p next cut avail honest is c before =
      record {
        above = subst (λ q. (hart : ℕ) → (base_of q.opening) hart ≤ cut hart) same c.above;
        within =
            λ hart.
            let (place, end, goes, far) = c.goes hart in
            le_trans far
            (
            goes_no_further (pieces_of s term hart) ((base_of p.opening) hart) (rises family s term p honest is hart) (avail.places hart)
            (avail.end hart) place end (avail.goes hart) (avail.stops hart)
            (subst (λ q. Goes (pieces_of s term hart) ((base_of q.opening) hart) place end) same goes)
            );
        before_next = before;
        closed =
            λ hart place x e under one has below.
            subst (λ q. IsClosed (recorder.edges q.told) cut) same c.closed e ((cut_from family s term hart place x p honest is one).only e has).0 below;
      }
    where
      same : c.past ≡ p
      same = some_same c.is is

  -- so the walk reaches what is covered, within the limit
  pub reaches : IsFamily recorder terms → (s : StoreView) (term : ℕ) (p : Past Book) (next : Option (ℕ → ℕ)) (cut reached : ℕ → ℕ) → HonestStore terms s →
      terms term ≡ Some p →
      IsReached s term (base_of p.opening) next reached → Covered recorder terms s term cut →
      MatchOption next (Unit {0}) (λ limit. (hart : ℕ) → cut hart ≤ limit hart) →
      (hart : ℕ) → cut hart ≤ reached hart
  reaches family s term p next cut reached honest is r c before = r.greatest cut (covered_fits family s term p next cut r.avail honest is c before)

  -- of two cuts of a term the lesser: covered where one is, and the other is closed and not below the base
  pub meet_covered : (s : StoreView) (term : ℕ) (cut other : ℕ → ℕ) → (c : Covered recorder terms s term cut) → IsClosed (recorder.edges c.past.told) other →
      ((hart : ℕ) → (base_of c.past.opening) hart ≤ other hart) → Covered recorder terms s term (λ hart. min (cut hart) (other hart))
  meet_covered s term cut other c closed above =
      record {
        past = c.past;
        is = c.is;
        opens = c.opens;
        above = λ hart. let a : (base_of c.past.opening) hart ≤ cut hart = c.above hart in
            let b : (base_of c.past.opening) hart ≤ other hart = above hart in omega arith;
        settled = λ hart. let a : cut hart ≤ recorder.counts c.past.told hart = c.settled hart in omega arith;
        goes = λ hart. let (place, end, goes, far) = c.goes hart in (place, end, goes, omega arith);
        closed =
            λ e is_edge below.
            let a : e.count ≤ cut e.other = c.closed e is_edge (omega arith) in let b : e.count ≤ other e.other = closed e is_edge (omega arith) in omega arith;
      }

-- more of a family reaches further
pub growth : {Book Fact : Type 0} (recorder : Recorder Book Fact) → Growth recorder
growth {Book} {Fact} recorder terms s r term p limit before family honest_s honest_r below is opens reached = (free, bounded)
  where
    covered : Covered recorder terms r term before
    covered = covered_grows recorder terms terms s r term before (grows_itself recorder terms) below
        (reached_covered recorder terms family s term p limit before honest_s is opens reached)

    free : (now : ℕ → ℕ) → IsReached r term (base_of p.opening) None now → (hart : ℕ) → before hart ≤ now hart
    free now a = reaches recorder terms family r term p None before now honest_r is a covered tt

    bounded : (next : ℕ) (n : Past Book) (now : ℕ → ℕ) → terms next ≡ Some n → n.opening.parent ≡ term →
        IsReached r term (base_of p.opening) (Some (base_of n.opening)) now →
        (hart : ℕ) → min (before hart) ((base_of n.opening) hart) ≤ now hart
    bounded next n now there up a = by ((family.honest next n there).starts)
      where
        by : Starts recorder terms next n → (hart : ℕ) → min (before hart) ((base_of n.opening) hart) ≤ now hart
        by (Boot at_boot zeros first begun on) = some_none is (ap terms (sym up ∙ at_boot) ∙ family.none)
        by (At q at less above settled closed first begun on) =
            let same : q ≡ covered.past = some_same at (ap terms up ∙ covered.is) in
            reaches recorder terms family r term p (Some (base_of n.opening)) (λ hart. min (before hart) ((base_of n.opening) hart)) now honest_r is a
            (
            meet_covered recorder terms r term before (base_of n.opening) covered
            (subst (λ q. IsClosed (recorder.edges q.told) (base_of n.opening)) same closed)
            (subst (λ q. (hart : ℕ) → (base_of q.opening) hart ≤ (base_of n.opening) hart) same above)
            )
            (λ hart. omega arith)
