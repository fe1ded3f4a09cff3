-- The walk to a position: the terms that it went through, and how it left each.
use Rattle.std.proofs.Common.{◌≡◌, inl, inr, ℕ, ◌<◌, ◌≤◌, List, [], ◌∷◌, ◌++◌, Option, Some, None, refl, sym, ap, subst, ◌∙◌, arith, le_trans, le_of_lt}
use Rattle.std.proofs.Common.{le_of_eq}
use Rattle.std.proofs.Math.Path.{fun_ext}
use Rattle.std.proofs.lemmas.Bool.{cases_lt, cases_eq}
use Rattle.ft_types.specs.Counts.{count_at}
use Rattle.fragment_codec.specs.Rules.{OpeningParts}
use Rattle.log_join.specs.Cells.{One}
use Rattle.log_join.specs.Stores.{StoreView, opening_at, IsStore}
use Rattle.closed_cut.specs.Chain.{Sound, Root, LeadsTo, IsChain, NoTerm, To}
use Rattle.closed_cut.specs.Position.{base_of, InChain, Self, Up, IsReached, Stops, Last, Short, On, IsPosition, NoTop, Top}
use Rattle.ft_types.specs.declared.position.Position.{Position}
use Rattle.closed_cut.proofs.Chains.{term_above, chain_up}
use Rattle.closed_cut.proofs.Walking.{one_same}

-- the walk leaves an opened term at this cut, the greatest that it reaches there
pub record Leaves (store : StoreView) (term : ℕ) (cut : ℕ → ℕ) : Type 0 where
  pub opening : OpeningParts
  pub opens : opening_at store term ≡ One opening
  pub limit : Option (ℕ → ℕ)
  pub reached : IsReached store term (base_of opening) limit cut

-- how a walk that went through a term came to this cut of it
pub record WentOver (store : StoreView) (p : Position) (term : ℕ) (cut : ℕ → ℕ) : Type 0 where
  pub chain : InChain store term p.term
  pub leaves : Leaves store term cut

module _ (store : StoreView) where
  -- ---- where the walk stops

  module _ (top term : ℕ) (cut : ℕ → ℕ) where
    pub stop_leaves : {now : ℕ} → Stops store top term cut now → Leaves store term cut
    stop_leaves (Last o one at is reached) =
        subst (λ t. Leaves store t cut) is (record { opening = o; opens = one; limit = None; reached = reached })
    stop_leaves (Short o n next one two parent chain is reached short) =
        subst (λ t. Leaves store t cut) is (record { opening = o; opens = one; limit = Some (base_of n); reached = reached })
    stop_leaves (On o n next all one two parent chain reached full stops) = stop_leaves stops

    pub stop_after : {now : ℕ} → Stops store top term cut now → InChain store now term
    stop_after (Last o one at is reached) = Self (sym is)
    stop_after (Short o n next one two parent chain is reached short) = Self (sym is)
    stop_after (On o n next all one two parent chain reached full stops) =
        subst (λ t. InChain store t term) parent (chain_up store next n two (stop_after stops))

    pub stop_in_chain : {now : ℕ} → Stops store top term cut now → InChain store now top → InChain store term top
    stop_in_chain (Last o one at is reached) chain = subst (λ t. InChain store t top) is chain
    stop_in_chain (Short o n next one two parent in_chain is reached short) chain = subst (λ t. InChain store t top) is chain
    stop_in_chain (On o n next all one two parent in_chain reached full stops) chain = stop_in_chain stops in_chain

  -- ---- the walk to a position

  pub ends_over : (p : Position) → IsPosition store p → 0 < p.term → WentOver store p p.term (count_at p.counts)
  ends_over p (NoTop none boot counts top) some = absurd (omega arith)
  ends_over p (Top w) some = record { chain = Self refl; leaves = stop_leaves p.top p.term (count_at p.counts) w.stops }

  -- ---- the chain from there on

  leads_on : (first : ℕ) (terms : List ℕ) (mid : ℕ) (rest : List ℕ) (last : ℕ) → LeadsTo store first terms mid → LeadsTo store mid rest last →
      LeadsTo store first (terms ++ rest) last
  leads_on first [] mid rest last same on = subst (λ t. LeadsTo store t rest last) (sym same) on
  leads_on first (next ∷ terms) mid rest last (parent, leads) on = (parent, leads_on next terms mid rest last leads on)

  leads_up : (term : ℕ) → {top : ℕ} → InChain store term top → (rest : List ℕ) × LeadsTo store term rest top
  leads_up term (Self same) = ([], sym same)
  leads_up term {top} (Up o one chain) =
      let (rest, leads) = leads_up term chain in
      (rest ++ top ∷ [], leads_on term rest o.parent (top ∷ []) top leads (record { opening = o; opens = one; is = refl }, refl))

  no_terms : (terms : List ℕ) (term : ℕ) → ((t : ℕ) → Sound store t → ⊥) → LeadsTo store 0 terms term → terms ≡ []
  no_terms [] term none leads = refl
  no_terms (t ∷ terms) term none (parent, leads) = absurd (none t (Root parent.opening parent.opens parent.is))

  -- terms that lead from boot to the position are the front of the chain
  pub front_of_chain : (p : Position) → IsPosition store p → (terms : List ℕ) → LeadsTo store 0 terms p.term → (rest : List ℕ) × IsChain store (terms ++ rest)
  front_of_chain p (NoTop none boot counts top) terms leads = ([], NoTerm none (ap (λ l. l ++ []) (no_terms terms p.term none leads)))
  front_of_chain p (Top w) terms leads =
      let (rest, on) = leads_up p.term (stop_in_chain p.top p.term (count_at p.counts) w.stops w.in_chain) in
      (rest, To p.top w.top (leads_on 0 terms p.term rest p.top leads on))

module _ (store : StoreView) (rules : IsStore store) where
  chain_le : (term : ℕ) → {top : ℕ} → InChain store term top → term ≤ top
  chain_le term (Self e) = le_of_eq (sym e)
  chain_le term {top} (Up o one chain) =
      let above = term_above store top o rules one in
      le_trans (chain_le term chain) (le_of_lt above.0)

  -- of two terms of a chain the lower one is in that of the other's parent
  below_child : (low high : ℕ) (o : OpeningParts) → opening_at store high ≡ One o → low < high → (top : ℕ) → InChain store low top → InChain store high top →
      InChain store low o.parent
  below_child low high o one less top (Self e) (Self same) = absurd (omega arith)
  below_child low high o one less top (Up p two chain) (Self same) =
      subst (λ (o : OpeningParts). InChain store low o.parent) (one_same two (ap (opening_at store) same ∙ one)) chain
  below_child low high o one less top (Self e) (Up p two above) =
      let le = chain_le high above in let under = term_above store top p rules two in absurd (omega (arith, under.0))
  below_child low high o one less top (Up q three chain) (Up p two above) =
      below_child low high o one less p.parent (subst (λ (q : OpeningParts). InChain store low q.parent) (one_same three two) chain) above

  module _ (top term : ℕ) (cut : ℕ → ℕ) where
    -- the walk leaves each parent on its way at its child's base
    pub passes : {now : ℕ} → Stops store top term cut now → (child : ℕ) (c : OpeningParts) → InChain store child term → opening_at store child ≡ One c →
        now < child → Leaves store c.parent (base_of c)
    passes (Last o one at is reached) child c chain three less = let le = chain_le child chain in absurd (omega arith)
    passes (Short o n next one two parent in_chain is reached short) child c chain three less = let le = chain_le child chain in absurd (omega arith)
    passes {now} (On o n next all one two parent in_chain reached full stops) child c chain three less =
        elim (cases_lt child next) [
          | inl before ↦
              let under = chain_le child (below_child child next n two before term chain (stop_after store top term cut stops)) in absurd (omega arith)
          | inr from ↦
              elim (cases_eq child next) [
                | inl same ↦
                    let is : n ≡ c = one_same two (ap (opening_at store) (sym same) ∙ three) in
                    subst (λ (c : OpeningParts). Leaves store c.parent (base_of c)) is
                    (subst (λ t. Leaves store t (base_of n)) (sym parent)
                    (record {
                      opening = o;
                      opens = one;
                      limit = Some (base_of n);
                      reached = subst (IsReached store now (base_of o) (Some (base_of n))) (fun_ext full) reached;
                    }))
                | inr ne ↦ passes stops child c chain three (omega arith)
              ]
        ]

  -- and how it came to the term's base
  pub parent_over : (p : Position) → IsPosition store p → (term : ℕ) (o : OpeningParts) (cut : ℕ → ℕ) → WentOver store p term cut →
      opening_at store term ≡ One o →
      0 < o.parent → WentOver store p o.parent (base_of o)
  parent_over p (NoTop none boot counts top) term o cut over one some =
      let le = chain_le term over.chain in let above = term_above store term o rules one in absurd (omega (arith, above.0))
  parent_over p (Top w) term o cut over one some =
      record {
        chain = chain_up store term o one over.chain;
        leaves = passes p.top p.term (count_at p.counts) w.stops term o over.chain one later;
      }
    where
      root_first : w.opening.parent ≡ 0
      root_first = w.first

      later : w.root < term
      later =
          elim (cases_lt w.root term) [
            | inl less ↦ less
            | inr le ↦
                elim (cases_eq term w.root) [
                  | inl same ↦
                      let is : o.parent ≡ w.opening.parent = ap (λ o. o.parent) (one_same one (ap (opening_at store) same ∙ w.opens)) in
                      absurd (omega arith)
                  | inr ne ↦
                      let under = chain_le term (below_child term w.root w.opening w.opens (omega arith) p.term over.chain (stop_after store p.top p.term
                      (count_at p.counts) w.stops)) in
                      let above = term_above store term o rules one in
                      absurd (omega (arith, above.0))
                ]
          ]
