-- The legs that were made, from the position back.
use Rattle.std.proofs.Common.{◌≡◌, inl, inr, ℕ, zero, suc, ◌<◌, ◌≤◌, List, [], ◌∷◌, All, length, refl, sym, ap, subst, ◌∙◌, arith}
use Rattle.std.proofs.lemmas.Bool.{cases_lt}
use Rattle.std.proofs.lemmas.List.{get_or_past}
use Rattle.std.proofs.lemmas.List.Elements.{All-cons, All-nil}
use Rattle.ft_types.specs.Counts.{count_at}
use Rattle.fragment_codec.specs.Rules.{OpeningParts}
use Rattle.log_join.specs.Cells.{One}
use Rattle.log_join.specs.Stores.{StoreView, opening_at, IsStore}
use Rattle.closed_cut.specs.Chain.{LeadsTo}
use Rattle.closed_cut.specs.Position.{IsPosition, pieces_of, Goes}
use Rattle.ft_types.specs.declared.position.Position.{Position}
use Rattle.hart_replay.specs.declared.plans.PlannedLeg.{PlannedLeg}
use Rattle.hart_replay.specs.Facts.{EndsInside, HasEdges, HasInputs, HasMarks}
use Rattle.hart_replay.specs.Plans.{terms_of, BeginsAtBase, EndAt, IsLeg, GoOn, IsPlan}
use Rattle.closed_cut.proofs.Chains.{term_above}
use Rattle.hart_replay.proofs.walking.Walk.{Leaves, WentOver, ends_over, parent_over}
use Rattle.hart_replay.proofs.gathering.Ends.{ends_inside}
use Rattle.hart_replay.proofs.gathering.Pieces.{hart_is, harts_are, rules_of}

-- where the leg before these ends
abbrev pub NextEnd : List ℕ → List PlannedLeg → List ℕ → Type 0
NextEnd counts [] ends = ends ≡ counts
NextEnd counts (leg ∷ legs) ends = ends ≡ leg.base

-- the legs of the terms after this one, and where it ends
pub record AreMade (store : StoreView) (p : Position) (legs : List PlannedLeg) (term : ℕ) (ends : List ℕ) : Type 0 where
  pub terms : LeadsTo store term (terms_of legs) p.term
  pub bases : All (BeginsAtBase store) legs
  pub ends_at : EndAt p.counts legs
  pub next : NextEnd p.counts legs ends
  pub inside : All (EndsInside store) legs
  pub edges : All (HasEdges store) legs
  pub inputs : All (HasInputs store) legs
  pub marks : All (HasMarks store) legs
  pub each : All (IsLeg store.guest.harts) legs
  pub on : GoOn (count_at ends) legs
  pub from_boot : term ≡ 0 → GoOn (λ hart. 0) legs
  pub over : 0 < term → WentOver store p term (count_at ends)

pub made_none : (store : StoreView) (p : Position) → IsPosition store p → AreMade store p [] p.term p.counts
made_none store p position =
    record {
      terms = refl;
      bases = All-nil (BeginsAtBase store);
      ends_at = tt;
      next = refl;
      inside = All-nil (EndsInside store);
      edges = All-nil (HasEdges store);
      inputs = All-nil (HasInputs store);
      marks = All-nil (HasMarks store);
      each = All-nil (IsLeg store.guest.harts);
      on = tt;
      from_boot = λ first. tt;
      over = ends_over store p position;
    }

-- a hart that the guest has not has no pieces
none_beyond : (store : StoreView) → IsStore store → (term hart start : ℕ) → store.guest.harts ≤ hart → (place end : ℕ) →
    Goes (pieces_of store term hart) start place end → end ≡ start
none_beyond store rules term hart start over zero end goes = goes
none_beyond store rules term hart start over (suc place) end (f, goes, one, is) =
    let harts = harts_are store rules term hart place f one in
    let at = hart_is store rules term hart place f one in
    let key : f.key.hart < f.guest.harts = (rules_of store rules term hart place f one).key.hart in
    absurd (omega arith)

-- a row of zeros
zeros : (row : List ℕ) → All (λ n. n ≡ 0) row → (hart : ℕ) → count_at row hart ≡ 0
zeros row all hart =
    elim (cases_lt hart (length row)) [
      | inl less ↦ all hart 0 less
      | inr over ↦ get_or_past row hart 0 over
    ]

ends_more : (counts : List ℕ) (leg : PlannedLeg) (legs : List PlannedLeg) (ends : List ℕ) → leg.ends ≡ ends → NextEnd counts legs ends → EndAt counts legs →
    EndAt counts (leg ∷ legs)
ends_more counts leg [] ends same next at = same ∙ next
ends_more counts leg (other ∷ legs) ends same next at = (same ∙ next, at)

module _ (store : StoreView) (rules : IsStore store) (p : Position) (position : IsPosition store p) (legs : List PlannedLeg) (term : ℕ) (ends : List ℕ)
    (made : AreMade store p legs term ends) (o : OpeningParts) (one : opening_at store term ≡ One o) (leg : PlannedLeg) (is_term : leg.term ≡ term)
    (is_base : leg.base ≡ o.base) (is_ends : leg.ends ≡ ends) (starts : leg.edges.start ≡ leg.base) (edges : HasEdges store leg) (inputs : HasInputs store leg)
    (marks : HasMarks store leg) where
  fits : (o.parent < term) × (0 < term)
  fits = term_above store term o rules one

  opens : opening_at store leg.term ≡ One o
  opens = ap (opening_at store) is_term ∙ one

  begins : BeginsAtBase store leg
  begins = record { opening = o; opens = opens; base = is_base }

  over : WentOver store p term (count_at ends)
  over = made.over fits.1

  inside : EndsInside store leg
  inside =
      ends_inside store leg begins
      (subst (λ t. Leaves store t (count_at leg.ends)) (sym is_term) (subst (λ (e : List ℕ). Leaves store term (count_at e)) (sym is_ends) over.leaves)) edges

  many : length leg.base ≡ store.guest.harts
  many =
      let at = rules.openings term o one in
      ap length is_base ∙ (at.rules.base ∙ ap (λ g. g.harts) at.same_guest)

  no_others : (hart : ℕ) → store.guest.harts ≤ hart → count_at leg.ends hart ≡ 0
  no_others hart over =
      let harts = many in
      let none : inside.avail.end hart ≡ count_at leg.base hart =
      none_beyond store rules leg.term hart (count_at leg.base hart) over (inside.avail.places hart) (inside.avail.end hart) (inside.avail.goes hart) in
      let past : count_at leg.base hart ≡ 0 = get_or_past leg.base hart 0 (omega arith) in
      let within : count_at leg.ends hart ≤ inside.avail.end hart = inside.within hart in
      omega arith

  leg_is : IsLeg store.guest.harts leg
  leg_is =
      record {
        harts = many;
        marks = marks.many ∙ many;
        no_others = no_others;
        start = starts;
        cut = inside.cut;
      }

  goes_on : GoOn (count_at leg.ends) legs
  goes_on = subst (λ (e : List ℕ). GoOn (count_at e) legs) (sym is_ends) made.on

  pub made_more : AreMade store p (leg ∷ legs) o.parent o.base
  made_more =
      record {
        terms = (record { opening = o; opens = opens; is = refl }, subst (λ t. LeadsTo store t (terms_of legs) p.term) (sym is_term) made.terms);
        bases = All-cons (BeginsAtBase store) leg legs begins made.bases;
        ends_at = ends_more p.counts leg legs ends is_ends made.next made.ends_at;
        next = sym is_base;
        inside = All-cons (EndsInside store) leg legs inside made.inside;
        edges = All-cons (HasEdges store) leg legs edges made.edges;
        inputs = All-cons (HasInputs store) leg legs inputs made.inputs;
        marks = All-cons (HasMarks store) leg legs marks made.marks;
        each = All-cons (IsLeg store.guest.harts) leg legs leg_is made.each;
        on = ((λ hart. ap (λ (b : List ℕ). count_at b hart) is_base), goes_on);
        from_boot = λ first. (
          (λ hart. ap (λ (b : List ℕ). count_at b hart) is_base ∙ zeros o.base ((rules.openings term o one).rules.boot first) hart),
          goes_on,
        );
        over = parent_over store rules p position term o (count_at ends) over one;
      }

-- where no term is before them, they are a plan
pub made_all : (store : StoreView) (p : Position) (legs : List PlannedLeg) (term : ℕ) (ends : List ℕ) → AreMade store p legs term ends →
    ((o : OpeningParts) → opening_at store term ≡ One o → ⊥) → term ≡ 0
made_all store p legs term ends made none =
    elim (cases_lt 0 term) [
      | inl some ↦ let over = made.over some in absurd (none over.leaves.opening over.leaves.opens)
      | inr first ↦ omega arith
    ]

pub made_plan : (store : StoreView) (p : Position) (legs : List PlannedLeg) (term : ℕ) (ends : List ℕ) → AreMade store p legs term ends → term ≡ 0 →
    IsPlan store.guest legs
made_plan store p legs term ends made first = record { each = made.each; on = made.from_boot first }
