-- The family of terms as it grows, honest stores of it, and what a store covers of it.
use Rattle.std.proofs.Common.{◌≡◌, ◌⊎◌, inl, inr, ℕ, zero, suc, ◌≤◌, Contains, Option, Some, None, refl, sym, ap, subst, ◌∙◌, arith, le_trans}
use Rattle.log_join.specs.Families.{Past, HonestStore, Below}
use Rattle.std.specs.Prelude.{slice_get}
use Rattle.fragment_codec.specs.Rules.{FragmentParts, OpeningParts}
use Rattle.log_join.specs.Cells.{Cell, One}
use Rattle.log_join.specs.Stores.{StoreView, opening_at}
use Rattle.log_join.proofs.Families.{opening_known, fragment_known, granted_opening, granted_piece, opening_granted, piece_granted, honest_stay}
use Rattle.closed_cut.specs.Position.{pieces_of, Goes, base_of}
use Rattle.fenced_theory.specs.Recorders.{Output, Recorder}
use Rattle.interleaving.specs.Log.{Edge, IsClosed}

pub below_itself : (s : StoreView) → Below s s
below_itself s = record { openings = λ term o is. is; fragments = λ key x is. is }

pub below_trans : {a b c : StoreView} → Below a b → Below b c → Below a c
below_trans p q = record {
  openings = λ term o is. q.openings term o (p.openings term o is);
  fragments = λ key x is. q.fragments key x (p.fragments key x is);
}

pub some_same : {A : Type 0} {x y : A} {a : Option A} → a ≡ Some x → a ≡ Some y → x ≡ y
some_same p q = cc

pub one_same : {A : Type 0} {x y : A} {a : Cell A} → a ≡ One x → a ≡ One y → x ≡ y
one_same p q = cc

pub some_none : {A G : Type 0} {x : A} {a : Option A} → a ≡ Some x → a ≡ None → G
some_none p q = cc

pub an_opening : {Book : Type 0} (terms : ℕ → Option (Past Book)) (s : StoreView) (term : ℕ) (o : OpeningParts) → HonestStore terms s →
    opening_at s term ≡ One o →
    (p : Past Book) × (terms term ≡ Some p) × (p.opening ≡ o)
an_opening terms s term o honest is = opening_known terms s honest term o is

pub a_piece : {Book : Type 0} (terms : ℕ → Option (Past Book)) (s : StoreView) (term hart place : ℕ) (x : FragmentParts) → HonestStore terms s →
    pieces_of s term hart place ≡ One x →
    (p : Past Book) × (terms term ≡ Some p) × (slice_get (p.pieces hart) place ≡ Some x)
a_piece terms s term hart place x honest is = fragment_known terms s honest (record { term = term; hart = hart; place = place }) x is

module _ {Book Fact : Type 0} (recorder : Recorder Book Fact) where
  -- a term as it was, and as it is later
  pub record Later (p r : Past Book) : Type 0 where
    pub opening : p.opening ≡ r.opening
    pub parent : p.opening.parent ≡ r.opening.parent
    pub base : (base_of p.opening) ≡ (base_of r.opening)
    pub start : (hart : ℕ) → recorder.start r.told hart ≡ recorder.start p.told hart
    pub counts : (hart : ℕ) → recorder.counts p.told hart ≤ recorder.counts r.told hart
    pub fresh : (e : Edge) → Contains (recorder.edges r.told) e → Contains (recorder.edges p.told) e ⊎ (recorder.counts p.told e.hart ≤ e.step)
    pub outputs : (hart number : ℕ) (o : Output) → slice_get (recorder.outputs p.told hart) number ≡ Some o → slice_get (recorder.outputs r.told hart) number ≡ Some o
    pub fewer : (hart number : ℕ) (o : Output) → slice_get (recorder.outputs r.told hart) number ≡ Some o →
        (slice_get (recorder.outputs p.told hart) number ≡ Some o) ⊎ (recorder.counts p.told hart ≤ o.step)
    pub pieces : (hart place : ℕ) (x : FragmentParts) → slice_get (p.pieces hart) place ≡ Some x → slice_get (r.pieces hart) place ≡ Some x

  pub later_itself : (p : Past Book) → Later p p
  later_itself p =
      record {
        opening = refl;
        parent = refl;
        base = refl;
        start = λ hart. refl;
        counts = λ hart. omega arith;
        fresh = λ e is. inl is;
        outputs = λ hart number o is. is;
        fewer = λ hart number o is. inl is;
        pieces = λ hart place x is. is;
      }

  pub later_closed : (p r : Past Book) (cut : ℕ → ℕ) → Later p r → ((hart : ℕ) → cut hart ≤ recorder.counts p.told hart) →
      IsClosed (recorder.edges p.told) cut →
      IsClosed (recorder.edges r.told) cut
  later_closed p r cut l settled closed e is below =
      elim (l.fresh e is) [
        | inl was ↦ closed e was below
        | inr above ↦ let s : cut e.hart ≤ recorder.counts p.told e.hart = settled e.hart in
            absurd (omega arith)
      ]

  pub later_opening : (p r : Past Book) → Later p r → p.opening ≡ r.opening
  later_opening p r l = l.opening

  pub record Grows (terms more : ℕ → Option (Past Book)) : Type 0 where
    pub grown : (term : ℕ) (p : Past Book) → terms term ≡ Some p → (r : Past Book) × (more term ≡ Some r) × Later p r

  pub grown_store : (terms more : ℕ → Option (Past Book)) (s : StoreView) → Grows terms more → HonestStore terms s → HonestStore more s
  grown_store terms more s g honest =
      honest_stay _ terms more s
      (record {
        openings =
            λ term o is.
            let (p, at, e) = granted_opening terms term o is in
            let (r, still, l) = g.grown term p at in
            opening_granted more term r still ∙ ap One (sym (later_opening p r l) ∙ e);
        fragments =
            λ key x is.
            let (p, at, there) = granted_piece terms key x is in
            let (r, still, l) = g.grown key.term p at in
            piece_granted more key r x still (l.pieces key.hart key.place x there);
      })
      honest

  -- the cut of the term is in the store: the walk over its pieces goes that far, and the log has it closed
  pub record Covered (terms : ℕ → Option (Past Book)) (s : StoreView) (term : ℕ) (cut : ℕ → ℕ) : Type 0 where
    pub past : Past Book
    pub is : terms term ≡ Some past
    pub opens : opening_at s term ≡ One (past.opening)
    pub above : (hart : ℕ) → (base_of past.opening) hart ≤ cut hart
    pub settled : (hart : ℕ) → cut hart ≤ recorder.counts past.told hart
    pub goes : (hart : ℕ) → (place : ℕ) × (end : ℕ) × Goes (pieces_of s term hart) ((base_of past.opening) hart) place end × (cut hart ≤ end)
    pub closed : IsClosed (recorder.edges past.told) cut

  -- from a term on, the store has a chain to the term, each one's base covered in the one before, and then the cut
  pub data Leads (terms : ℕ → Option (Past Book)) (s : StoreView) (term : ℕ) (cut : ℕ → ℕ) : ℕ → Type 0 where
    There : {now : ℕ} → now ≡ term → Covered terms s now cut → Leads terms s term cut now
    Step : {now : ℕ} (next : ℕ) (p : Past Book) → terms next ≡ Some p → p.opening.parent ≡ now → opening_at s next ≡ One (p.opening) →
        Covered terms s now (base_of p.opening) →
        Leads terms s term cut next → Leads terms s term cut now

  pub record Backed (terms : ℕ → Option (Past Book)) (s : StoreView) (term : ℕ) (cut : ℕ → ℕ) : Type 0 where
    pub root : ℕ
    pub past : Past Book
    pub is : terms root ≡ Some past
    pub first : past.opening.parent ≡ 0
    pub opens : opening_at s root ≡ One (past.opening)
    pub leads : Leads terms s term cut root

  pub goes_below : (parts more : ℕ → Cell FragmentParts) → ((place : ℕ) (x : FragmentParts) → parts place ≡ One x → more place ≡ One x) →
      (start place end : ℕ) → Goes parts start place end → Goes more start place end
  goes_below parts more b start zero end e = e
  goes_below parts more b start (suc place) end (x, g, is, e) = (x, goes_below parts more b start place x.from g, b place x is, e)

  pub covered_grows : (terms more : ℕ → Option (Past Book)) (s r : StoreView) (term : ℕ) (cut : ℕ → ℕ) → Grows terms more → Below s r →
      Covered terms s term cut → Covered more r term cut
  covered_grows terms more s r term cut g b c = of_past (g.grown term c.past c.is)
    where
      of_past : (q : Past Book) × (more term ≡ Some q) × Later c.past q → Covered more r term cut
      of_past (q, still, l) =
          record {
            past = q;
            is = still;
            opens = b.openings term (c.past.opening) c.opens ∙ ap One (later_opening c.past q l);
            above = subst (λ base. (hart : ℕ) → base hart ≤ cut hart) l.base c.above;
            settled = λ hart. le_trans (c.settled hart) (l.counts hart);
            goes =
                λ hart.
                let (place, end, goes, far) = c.goes hart in (
                  place,
                  end,
                  goes_below (pieces_of s term hart) (pieces_of r term hart) (λ place x is. b.fragments (record { term = term; hart = hart; place = place }) x is) ((base_of q.opening) hart) place end
                      (subst (λ base. Goes (pieces_of s term hart) (base hart) place end) l.base goes),
                  far,
                );
            closed = later_closed c.past q cut l c.settled c.closed;
          }

  pub leads_grow : (terms more : ℕ → Option (Past Book)) (s r : StoreView) (term : ℕ) (cut : ℕ → ℕ) → Grows terms more → Below s r → {now : ℕ} →
      Leads terms s term cut now → Leads more r term cut now
  leads_grow terms more s r term cut g b (There {now = now} e c) = There e (covered_grows terms more s r now cut g b c)
  leads_grow terms more s r term cut g b (Step {now = now} next p is parent opens c rest) =
      let (q, still, l) = g.grown next p is in
      Step next q still (sym l.parent ∙ parent) (b.openings next (p.opening) opens ∙ ap One (later_opening p q l))
      (subst (λ base. Covered more r now base) l.base (covered_grows terms more s r now (base_of p.opening) g b c))
      (leads_grow terms more s r term cut g b rest)

  pub backed_grows : (terms more : ℕ → Option (Past Book)) (s r : StoreView) (term : ℕ) (cut : ℕ → ℕ) → Grows terms more → Below s r →
      Backed terms s term cut → Backed more r term cut
  backed_grows terms more s r term cut g b k =
      let (q, still, l) = g.grown k.root k.past k.is in
      record {
        root = k.root;
        past = q;
        is = still;
        first = sym l.parent ∙ k.first;
        opens = b.openings k.root (k.past.opening) k.opens ∙ ap One (later_opening k.past q l);
        leads = leads_grow terms more s r term cut g b k.leads;
      }

  pub grows_itself : (terms : ℕ → Option (Past Book)) → Grows terms terms
  grows_itself terms = record { grown = λ term p is. (p, is, later_itself p) }
