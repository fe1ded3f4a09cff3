-- A position, along the walk of its store's chain and over the list of the chain's terms.
use Rattle.std.proofs.Common.{ℕ, ◌≡◌, ◌≤◌, ◌++◌, ◌^◌, inl, inr, List, [], ◌∷◌, Some, refl, sym, ap, subst, ◌∙◌, arith}
use Rattle.std.proofs.Math.Path.{fun_ext}
use Rattle.ft_types.specs.Counts.{count_at}
use Rattle.fragment_codec.specs.Rules.{OpeningParts}
use Rattle.log_join.specs.Cells.{One}
use Rattle.log_join.specs.Stores.{StoreView, IsStore, opening_at}
use Rattle.ft_types.specs.declared.position.Position.{Position}
use Rattle.closed_cut.specs.Chain.{IsParent, LeadsTo, IsChain, NoTerm, To}
use Rattle.closed_cut.specs.Position.{IsReached, base_of, InChain, Self, Up, Stops, Last, Short, On, IsPosition, NoTop, Top}
use Rattle.closed_cut.specs.OnChain.{StopsAlong, IsAt, IsOnChain, PositionsOnChains, OneWalk}
use Rattle.closed_cut.proofs.Walking.{one_same}
use Rattle.closed_cut.proofs.Chains.{sound_opens, term_above}
use Rattle.closed_cut.proofs.Unique.{same_places, one_end}
use Rattle.closed_cut.proofs.Finding.{formed_of, avail_of}

module _ (store : StoreView) where
  -- ---- the list of the terms from one up to the top

  leads_on : (term last top : ℕ) (rest : List ℕ) → LeadsTo store term rest last → IsParent store last top → LeadsTo store term (rest ++ top ∷ []) top
  leads_on term last top [] leads parent = (subst (λ t. IsParent store t top) (sym leads) parent, refl)
  leads_on term last top (next ∷ rest) leads parent = (leads.0, leads_on next last top rest leads.1 parent)

  line : {term top : ℕ} → InChain store term top → (rest : List ℕ) × LeadsTo store term rest top
  line (Self is) = ([], sym is)
  line {term} {top} (Up o opens in_chain) =
      let (rest, leads) = line in_chain in
      (rest ++ top ∷ [], leads_on term o.parent top rest leads (record { opening = o; opens = opens; is = refl }))

  -- the parent of a term of the chain is in it
  parent_in : {term next top : ℕ} → InChain store next top → IsParent store term next → InChain store term top
  parent_in (Self is) parent =
      Up parent.opening (subst (λ t. opening_at store t ≡ One parent.opening) (sym is) parent.opens) (Self parent.is)
  parent_in (Up o opens in_chain) parent = Up o opens (parent_in in_chain parent)

  in_line : (term top : ℕ) (rest : List ℕ) → LeadsTo store term rest top → InChain store term top
  in_line term top [] leads = Self (sym leads)
  in_line term top (next ∷ rest) leads = parent_in (in_line next top rest leads.1) leads.0

  -- ---- both ways

  module _ (p : Position) where
    along : {now : ℕ} → Stops store p.top p.term (count_at p.counts) now →
        (rest : List ℕ) × LeadsTo store now rest p.top × StopsAlong store p (now ∷ rest)
    along (Last o opens is_top here reached) = ([], is_top, record { term = here; opening = o; opens = opens; reached = reached })
    along (Short o n next opens next_opens parent in_chain here reached short) =
        let (rest, leads) = line in_chain in (
          next ∷ rest,
          (record { opening = n; opens = next_opens; is = parent }, leads),
          inl (record {
            follow = record { opening = o; opens = opens; next_opening = n; next_opens = next_opens };
            here = here;
            reached = reached;
            short = short;
          }),
        )
    along {now} (On o n next all opens next_opens parent in_chain reached same stops) =
        let (rest, leads, more) = along stops in (
          next ∷ rest,
          (record { opening = n; opens = next_opens; is = parent }, leads),
          inr (
            record {
              follow = record { opening = o; opens = opens; next_opening = n; next_opens = next_opens };
              reached = subst (λ cut. IsReached store now (base_of o) (Some (base_of n)) cut) (fun_ext same) reached;
            },
            more,
          ),
        )

    back : (now : ℕ) (rest : List ℕ) → LeadsTo store now rest p.top → StopsAlong store p (now ∷ rest) → Stops store p.top p.term (count_at p.counts) now
    back now [] leads last = Last last.opening last.opens leads last.term last.reached
    back now (next ∷ rest) leads (inl short) =
        let same = one_same leads.0.opens short.follow.next_opens in
        Short short.follow.opening short.follow.next_opening next short.follow.opens short.follow.next_opens
        (sym (ap (λ (o : OpeningParts). o.parent) same) ∙ leads.0.is) (in_line next p.top rest leads.1) short.here short.reached short.short
    back now (next ∷ rest) leads (inr (reaches, more)) =
        let same = one_same leads.0.opens reaches.follow.next_opens in
        On reaches.follow.opening reaches.follow.next_opening next (base_of reaches.follow.next_opening) reaches.follow.opens reaches.follow.next_opens
        (sym (ap (λ (o : OpeningParts). o.parent) same) ∙ leads.0.is) (in_line next p.top rest leads.1) reaches.reached (λ hart. refl)
        (back next rest leads.1 more)

    on_chain : IsPosition store p → IsOnChain store p
    on_chain (NoTop none term counts top) = record { terms = []; chain = NoTerm none refl; at = (term, counts, top) }
    on_chain (Top w) =
        let (rest, leads, more) = along w.stops in
        record {
          terms = w.root ∷ rest;
          chain = To p.top w.top (record { opening = w.opening; opens = w.opens; is = w.first }, leads);
          at = (w.top, more);
        }

    walked : IsStore store → (terms : List ℕ) → IsChain store terms → IsAt store p terms → IsPosition store p
    walked rules [] (NoTerm none e) at = NoTop none at.0 at.1 at.2
    walked rules [] (To top is_top leads) at =
        let (o, opens) = sound_opens store top is_top.sound in
        let above = term_above store top o rules opens in
        let is : 0 ≡ top = leads in
        absurd (omega (arith, above, is))
    walked rules (root ∷ rest) (NoTerm none e) at = absurd cc
    walked rules (root ∷ rest) (To top is_top leads) at =
        let more : top ≤ p.top = at.0.greatest top is_top.sound in
        let less : p.top ≤ top = is_top.greatest p.top at.0.sound in
        let same : top ≡ p.top = omega (arith, more, less) in
        let line_to : LeadsTo store root rest p.top = subst (λ t. LeadsTo store root rest t) same leads.1 in
        Top (record {
          top = at.0;
          root = root;
          opening = leads.0.opening;
          opens = leads.0.opens;
          first = leads.0.is;
          in_chain = in_line root p.top rest line_to;
          stops = back root rest line_to at.1;
        })

pub positions_on_chains : PositionsOnChains
positions_on_chains store p rules = (on_chain store p, λ is. walked store p rules is.terms is.chain is.at)

pub one_walk : OneWalk
one_walk store term base rules =
    record {
      there = avail_of store.guest.harts (2 ^ 32) store (formed_of store rules) term base;
      one = λ a b hart. (same_places store term base a b hart, one_end store term base a b hart);
    }
