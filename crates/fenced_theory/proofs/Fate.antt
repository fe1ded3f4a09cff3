-- Where a position of a joined store lies, once one of the stores had a cut of a term.
use Rattle.std.proofs.Common.{◌≡◌, ◌⊎◌, inl, inr, ℕ, zero, suc, ◌<◌, ◌≤◌, min, Option, Some, None, sym, ap, subst, ◌∙◌, arith}
use Rattle.log_join.specs.Families.{Past, HonestStore}
use Rattle.fragment_codec.specs.Rules.{OpeningParts}
use Rattle.log_join.specs.Cells.{One}
use Rattle.log_join.specs.Stores.{StoreView, opening_at}
use Rattle.closed_cut.specs.Chain.{Sound, Root, Child}
use Rattle.closed_cut.specs.Position.{IsReached, base_of, InChain, Self, Up, Stops, Last, Short, On}
use Rattle.fenced_theory.specs.Recorders.{Recorder}
use Rattle.fenced_theory.specs.Families.{Starts, Boot, At, IsFamily, Keeps, Here, Above}
use Rattle.interleaving.specs.Log.{IsClosed}
use Rattle.fenced_theory.proofs.Growing.{Covered, Leads, There, Step, an_opening, some_same, one_same, some_none}
use Rattle.fenced_theory.proofs.Walks.{reaches, meet_covered}

module _ {Book Fact : Type 0} (recorder : Recorder Book Fact) (terms : ℕ → Option (Past Book)) (family : IsFamily recorder terms) where
  -- a parent is below its child, and no term is 0
  pub positive : (term : ℕ) (p : Past Book) → terms term ≡ Some p → 0 < term
  positive zero p is = some_none is family.none
  positive (suc term) p is = omega arith

  pub parent_less : (term : ℕ) (p : Past Book) → terms term ≡ Some p → p.opening.parent < term
  parent_less term p is =
      elim ((family.honest term p is).starts) [
        | Boot none e first begun on ↦ let k : 0 < term = positive term p is in omega arith
        | At q there less a b c first begun on ↦ less
      ]

  pub keeps_less : (term hart step : ℕ) {u : ℕ} → Keeps terms term hart step u → term < u
  keeps_less term hart step (Here {u = u} p is parent below) = let k : p.opening.parent < u = parent_less u p is in omega arith
  keeps_less term hart step (Above {u = u} p is k) =
      let a : p.opening.parent < u = parent_less u p is in let b : term < p.opening.parent = keeps_less term hart step k in omega arith

  module _ (s : StoreView) (honest : HonestStore terms s) where
    -- the parent, by the store's opening
    parent_is : (term : ℕ) (o : OpeningParts) (p : Past Book) → opening_at s term ≡ One o → terms term ≡ Some p → p.opening ≡ o
    parent_is term o p one is =
        let (q, at, e) = an_opening terms s term o honest one in subst (λ q. q.opening ≡ o) (some_same at is) e

    pub chain_le : (term : ℕ) {top : ℕ} → InChain s term top → term ≤ top
    chain_le term (Self e) = omega arith
    chain_le term (Up {top = top} o one chain) =
        let (p, is, e) = an_opening terms s top o honest one in
        let a : p.opening.parent < top = parent_less top p is in
        let b : p.opening.parent ≡ o.parent = ap (λ o. o.parent) e in
        let c : term ≤ o.parent = chain_le term chain in
        omega arith

    pub chain_trans : (a b : ℕ) → InChain s a b → {c : ℕ} → InChain s b c → InChain s a c
    chain_trans a b p (Self e) = subst (λ n. InChain s a n) (sym e) p
    chain_trans a b p (Up o one chain) = Up o one (chain_trans a b p chain)

    -- in one chain a term has one child
    pub one_child : (c d : ℕ) (p q : Past Book) → terms c ≡ Some p → terms d ≡ Some q → p.opening.parent ≡ q.opening.parent → {top : ℕ} → InChain s c top →
        InChain s d top → c ≡ d
    one_child c d p q is_c is_d same (Self e) (Self f) = sym e ∙ f
    one_child c d p q is_c is_d same (Self {top = top} e) (Up o one chain) =
        let g : p.opening ≡ o = parent_is top o p one (ap terms e ∙ is_c) in
        let h : p.opening.parent ≡ o.parent = ap (λ o. o.parent) g in
        let k : d ≤ o.parent = chain_le d chain in
        let l : q.opening.parent < d = parent_less d q is_d in
        absurd (omega arith)
    one_child c d p q is_c is_d same (Up {top = top} o one chain) (Self f) =
        let g : q.opening ≡ o = parent_is top o q one (ap terms f ∙ is_d) in
        let h : q.opening.parent ≡ o.parent = ap (λ o. o.parent) g in
        let k : c ≤ o.parent = chain_le c chain in
        let l : p.opening.parent < c = parent_less c p is_c in
        absurd (omega arith)
    one_child c d p q is_c is_d same (Up o one chain) (Up n two other) =
        one_child c d p q is_c is_d same chain (subst (λ o. InChain s d o.parent) (one_same two one) other)

    -- what is kept is below the base of the next term of the chain
    pub kept_base : (term hart step c : ℕ) (p : Past Book) → terms c ≡ Some p → p.opening.parent ≡ term → {top : ℕ} → Keeps terms term hart step top →
        InChain s c top → step < (base_of p.opening) hart
    kept_base term hart step c p is_c parent (Here {u = top} q is up below) (Self e) =
        subst (λ p. step < (base_of p.opening) hart) (some_same (sym (ap terms e) ∙ is) is_c) below
    kept_base term hart step c p is_c parent (Here {u = top} q is up below) (Up o one chain) =
        let g : q.opening ≡ o = parent_is top o q one is in
        let h : q.opening.parent ≡ o.parent = ap (λ o. o.parent) g in
        let k : c ≤ o.parent = chain_le c chain in
        let l : p.opening.parent < c = parent_less c p is_c in
        absurd (omega arith)
    kept_base term hart step c p is_c parent (Above {u = top} q is k) (Self e) =
        let a : term < q.opening.parent = keeps_less term hart step k in
        let b : q ≡ p = some_same is (ap terms e ∙ is_c) in
        let f : q.opening.parent ≡ p.opening.parent = ap (λ q. q.opening.parent) b in
        absurd (omega arith)
    kept_base term hart step c p is_c parent (Above {u = top} q is k) (Up o one chain) =
        let g : q.opening ≡ o = parent_is top o q one is in
        kept_base term hart step c p is_c parent k (subst (λ o. InChain s c o.parent) (sym g) chain)

    -- whose chain keeps a step of a term has that term in it
    pub keeps_chain : (term hart step : ℕ) (t : Past Book) → terms term ≡ Some t → {top : ℕ} → Keeps terms term hart step top → Sound s top → InChain s term top
    keeps_chain term hart step t at (Here {u = top} q is up below) (Root o one first) =
        let g : q.opening ≡ o = parent_is top o q one is in
        let h : q.opening.parent ≡ o.parent = ap (λ o. o.parent) g in
        let k : 0 < term = positive term t at in
        absurd (omega arith)
    keeps_chain term hart step t at (Here {u = top} q is up below) (Child o r one sound two le) =
        let g : q.opening ≡ o = parent_is top o q one is in
        let h : q.opening.parent ≡ o.parent = ap (λ o. o.parent) g in
        Up o one (Self (sym h ∙ up))
    keeps_chain term hart step t at (Above {u = top} q is k) (Root o one first) =
        let g : q.opening ≡ o = parent_is top o q one is in
        let h : q.opening.parent ≡ o.parent = ap (λ o. o.parent) g in
        let l : term < q.opening.parent = keeps_less term hart step k in
        absurd (omega arith)
    keeps_chain term hart step t at (Above {u = top} q is k) (Child o r one sound two le) =
        let g : q.opening ≡ o = parent_is top o q one is in
        let h : q.opening.parent ≡ o.parent = ap (λ o. o.parent) g in
        Up o one (keeps_chain term hart step t at (subst (λ n. Keeps terms term hart step n) h k) sound)

    -- past a term that keeps the step, each further one keeps it
    pub past_kept : (top stop : ℕ) (cut : ℕ → ℕ) (term hart step : ℕ) {now : ℕ} → Stops s top stop cut now → Keeps terms term hart step now →
        Keeps terms term hart step stop
    past_kept top stop cut term hart step (Last o one is_top is r) k = subst (λ n. Keeps terms term hart step n) is k
    past_kept top stop cut term hart step (Short o n next one two parent chain is r ne) k = subst (λ n. Keeps terms term hart step n) is k
    past_kept top stop cut term hart step (On {now = now} o n next all one two parent chain r e stops) k =
        let (p, is, f) = an_opening terms s next n honest two in
        past_kept top stop cut term hart step stops (Above p is (subst (λ m. Keeps terms term hart step m) (sym (ap (λ o. o.parent) f ∙ parent)) k))

    module _ (term : ℕ) (cut : ℕ → ℕ) where
      pub leads_chain : {now : ℕ} → Leads recorder terms s term cut now → InChain s now term
      leads_chain (There e c) = Self (sym e)
      leads_chain (Step {now = now} next p is parent opens c rest) =
          chain_trans now next (Up (p.opening) opens (Self parent)) (leads_chain rest)

      pub leads_sound : {now : ℕ} → Leads recorder terms s term cut now → Sound s now → Sound s term
      leads_sound (There e c) sound = subst (λ n. Sound s n) e sound
      leads_sound (Step {now = now} next p is parent opens c rest) sound =
          leads_sound rest
          (
          Child (p.opening) (c.past.opening) opens (subst (λ n. Sound s n) (sym parent) sound)
          (subst (λ n. opening_at s n ≡ One (c.past.opening)) (sym parent) c.opens) c.above
          )

      -- a step that is kept, or of the top, is below the base of the term's next in the chain
      next_base : (t : Past Book) (top now hart step next : ℕ) (n : OpeningParts) → terms term ≡ Some t → (top ≡ term) ⊎ Keeps terms term hart step top →
          now ≡ term →
          opening_at s next ≡ One n → n.parent ≡ now → InChain s next top → step < (base_of n) hart
      next_base t top now hart step next n is_t (inl e) here two parent chain =
          let (p, is, f) = an_opening terms s next n honest two in
          let a : p.opening.parent < next = parent_less next p is in
          let b : p.opening.parent ≡ n.parent = ap (λ o. o.parent) f in
          let d : next ≤ top = chain_le next chain in
          absurd (omega arith)
      next_base t top now hart step next n is_t (inr k) here two parent chain =
          let (p, is, f) = an_opening terms s next n honest two in
          subst (λ o. step < (base_of o) hart) f (kept_base term hart step next p is (ap (λ o. o.parent) f ∙ (parent ∙ here)) k chain)

      -- that base is a closed cut
      next_closed : (now : ℕ) (c : Covered recorder terms s now cut) (next : ℕ) (n : OpeningParts) → opening_at s next ≡ One n → n.parent ≡ now →
          record { 0 : IsClosed (recorder.edges c.past.told) (base_of n); 1 : (hart : ℕ) → (base_of c.past.opening) hart ≤ (base_of n) hart }
      next_closed now c next n two parent = of_opening (an_opening terms s next n honest two)
        where
          of_opening : (p : Past Book) × (terms next ≡ Some p) × (p.opening ≡ n) →
              record { 0 : IsClosed (recorder.edges c.past.told) (base_of n); 1 : (hart : ℕ) → (base_of c.past.opening) hart ≤ (base_of n) hart }
          of_opening (p, is, f) = of_start ((family.honest next p is).starts)
            where
              up : p.opening.parent ≡ now
              up = ap (λ o. o.parent) f ∙ parent

              of_start : Starts recorder terms next p →
                  record { 0 : IsClosed (recorder.edges c.past.told) (base_of n); 1 : (hart : ℕ) → (base_of c.past.opening) hart ≤ (base_of n) hart }
              of_start (Boot none e first begun on) = some_none c.is (ap terms (sym up ∙ none) ∙ family.none)
              of_start (At q there less above settled closed first begun on) =
                  let same : q ≡ c.past = some_same there (ap terms up ∙ c.is) in (
                    subst (λ q. IsClosed (recorder.edges q.told) (base_of n)) same (subst (λ o. IsClosed (recorder.edges q.told) (base_of o)) f closed),
                    subst (λ q. (hart : ℕ) → (base_of q.opening) hart ≤ (base_of n) hart) same
                        (subst (λ o. (hart : ℕ) → (base_of q.opening) hart ≤ (base_of o) hart) f above),
                  )

      pub child_chain : (t : Past Book) (top hart step child : ℕ) → terms term ≡ Some t → Sound s top → (top ≡ term) ⊎ Keeps terms term hart step top →
          Leads recorder terms s term cut child → InChain s child top
      child_chain t top hart step child is_t sound (inl e) leads = subst (λ n. InChain s child n) (sym e) (leads_chain leads)
      child_chain t top hart step child is_t sound (inr k) leads = chain_trans child term (leads_chain leads) (keeps_chain term hart step t is_t k sound)

      -- a walk that has come to an ancestor of the term, or to it, stops inside it and not before the step, or behind it
      pub fate : (t : Past Book) (top stop hart step : ℕ) (at : ℕ → ℕ) → terms term ≡ Some t → step < cut hart → Sound s top →
          (top ≡ term) ⊎ Keeps terms term hart step top → {now : ℕ} → Leads recorder terms s term cut now → Stops s top stop at now →
          ((stop ≡ term) × (step < at hart)) ⊎ Keeps terms term hart step stop
      fate t top stop hart step at is_t below sound where_is (There {now = now} here c) (Last o one is_top is r) =
          inl (
            sym is ∙ here,
            let (p, is_p, e) = an_opening terms s now o honest one in
                let k : cut hart ≤ at hart = reaches recorder terms family s now p None cut at honest is_p
                (subst (λ o. IsReached s now (base_of o) None at) (sym e) r) c tt hart in
                omega arith,
          )
      fate t top stop hart step at is_t below sound where_is (There {now = now} here c) (Short o n next one two parent chain is r ne) =
          inl (
            sym is ∙ here,
            let (p, is_p, e) = an_opening terms s now o honest one in
                let less : step < (base_of n) hart = next_base t top now hart step next n is_t where_is here two parent chain in
                let (closed, above) = next_closed now c next n two parent in
                let m : min (cut hart) ((base_of n) hart) ≤ at hart =
                reaches recorder terms family s now p (Some (base_of n)) (λ hart. min (cut hart) ((base_of n) hart)) at honest is_p
                (subst (λ o. IsReached s now (base_of o) (Some (base_of n)) at) (sym e) r)
                (meet_covered recorder terms s now cut (base_of n) c closed above) (λ hart. omega arith) hart in
                omega arith,
          )
      fate t top stop hart step at is_t below sound where_is (There {now = now} here c) (On o n next all one two parent chain r e stops) =
          let less : step < (base_of n) hart = next_base t top now hart step next n is_t where_is here two parent chain in
          let (p, is_p, f) = an_opening terms s next n honest two in
          inr
          (
          past_kept top stop at term hart step stops
          (Here p is_p (ap (λ o. o.parent) f ∙ (parent ∙ here)) (subst (λ o. step < (base_of o) hart) (sym f) less))
          )
      fate t top stop hart step at is_t below sound where_is (Step {now = now} child p is_p p_parent opens c rest) (Last o one is_top is r) =
          let a : p.opening.parent < child = parent_less child p is_p in
          let b : child ≤ term = chain_le child (leads_chain rest) in
          let d : term ≤ top = elim where_is [ inl e ↦ omega arith | inr k ↦ let l : term < top = keeps_less term hart step k in omega arith ] in
          absurd (omega arith)
      fate t top stop hart step at is_t below sound where_is (Step {now = now} child p is_p p_parent opens c rest)
          (Short o n next one two parent chain is r ne) =
          let (q, is_q, e) = an_opening terms s next n honest two in
          let (w, is_w, f) = an_opening terms s now o honest one in
          let same : next ≡ child = one_child next child q p is_q is_p
          (ap (λ o. o.parent) e ∙ (parent ∙ sym p_parent)) chain (child_chain t top hart step child is_t sound where_is rest) in
          let same_past : q ≡ p = some_same is_q (ap terms same ∙ is_p) in
          let base : (base_of p.opening) ≡ (base_of n) = sym (ap (λ q. (base_of q.opening)) same_past) ∙ ap (λ o. (base_of o)) e in
          let le : (hart : ℕ) → (base_of p.opening) hart ≤ (base_of n) hart = λ hart. subst (λ b. (base_of p.opening) hart ≤ b hart) base (omega arith) in
          let k : (hart : ℕ) → (base_of p.opening) hart ≤ at hart =
          reaches recorder terms family s now w (Some (base_of n)) (base_of p.opening) at honest is_w
          (subst (λ o. IsReached s now (base_of o) (Some (base_of n)) at) (sym f) r) c le in
          absurd
          (ne (λ hart. let a : (base_of p.opening) hart ≤ at hart = k hart in let b : at hart ≤ (base_of n) hart = r.fits.before_next hart in
          let g : (base_of p.opening) hart ≡ (base_of n) hart = ap (λ f. f hart) base in omega arith))
      fate t top stop hart step at is_t below sound where_is (Step {now = now} child p is_p p_parent opens c rest)
          (On o n next all one two parent chain r g stops) =
          let (q, is_q, e) = an_opening terms s next n honest two in
          let same : next ≡ child = one_child next child q p is_q is_p
          (ap (λ o. o.parent) e ∙ (parent ∙ sym p_parent)) chain (child_chain t top hart step child is_t sound where_is rest) in
          fate t top stop hart step at is_t below sound where_is rest (subst (λ n. Stops s top stop at n) same stops)
