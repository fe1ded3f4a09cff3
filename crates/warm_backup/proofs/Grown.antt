-- A leg that got a hart's facts between its end and a later one has what the store tells up to that.
use Rattle.std.proofs.Common.{◌≡◌, ◌≢◌, ◌↔◌, inl, inr, ℕ, ◌<◌, ◌≤◌, List, ◌++◌, Contains, length, get_or-set_same, get_or-set_other, slice_set}
use Rattle.std.proofs.Common.{sym, ap, subst, ◌∙◌, arith}
use Rattle.std.proofs.lemmas.Bool.{cases_eq}
use Rattle.std.proofs.lemmas.List.Elements.{Contains-append_cases, Contains-append_left, Contains-append_right}
use Rattle.ft_types.specs.Counts.{count_at}
use Rattle.interleaving.specs.Log.{Edge}
use Rattle.interleaving.specs.Cuts.{IsEnough}
use Rattle.interleaving.proofs.Cuts.{same_order}
use Rattle.edge_log.specs.EdgeLog.{edges_of}
use Rattle.input_log.specs.Inputs.{inputs_of}
use Rattle.input_log.specs.Notes.{greatest}
use Rattle.input_log.proofs.Notings.{greatest_append}
use Rattle.fragment_codec.specs.declared.types.Record.{Record}
use Rattle.log_join.specs.Stores.{StoreView}
use Rattle.closed_cut.specs.Position.{pieces_of, Goes, Avail}
use Rattle.hart_replay.specs.declared.plans.PlannedLeg.{PlannedLeg}
use Rattle.hart_replay.specs.Facts.{records_of, below, edges_among, inputs_among, notes_among, HasEdges, HasInputs, HasMarks}
use Rattle.hart_replay.specs.machinery.Taking.{TakesEdges, TakesInputs, TakesNotes}
use Rattle.hart_replay.proofs.gathering.Records.{edges_among-append, inputs_among-append, notes_among-append}

module _ (store : StoreView) (old new : PlannedLeg) (hart end : ℕ) (added : List Record) (term : new.term ≡ old.term) (base : new.base ≡ old.base)
    (ends : new.ends ≡ slice_set old.ends hart end) (there : hart < length old.ends)
    (grows : (places far : ℕ) → Goes (pieces_of store old.term hart) (count_at old.base hart) places far → end ≤ far →
    below end (records_of (pieces_of store old.term hart) places) ≡ below (count_at old.ends hart) (records_of (pieces_of store old.term hart) places) ++ added)
    (inside : (avail : Avail store old.term (count_at old.base)) → end ≤ avail.end hart) where
  -- the ends of harts
  pub end_here : count_at new.ends hart ≡ end
  end_here = ap (λ (row : List ℕ). count_at row hart) ends ∙ get_or-set_same old.ends hart end 0 there

  pub end_there : (other : ℕ) → other ≢ hart → count_at new.ends other ≡ count_at old.ends other
  end_there other ne = ap (λ (row : List ℕ). count_at row other) ends ∙ get_or-set_other old.ends hart other end 0 ne

  -- the leg at its new ends, with the facts of the old
  abbrev facts_at : (ends : List ℕ) → (avail : Avail store old.term (count_at old.base)) → ℕ → List Record
  facts_at ends avail h = below (count_at ends h) (records_of (pieces_of store old.term h) (avail.places h))

  facts_here : (avail : Avail store old.term (count_at old.base)) → facts_at new.ends avail hart ≡ facts_at old.ends avail hart ++ added
  facts_here avail =
      ap (λ (k : ℕ). below k (records_of (pieces_of store old.term hart) (avail.places hart))) end_here ∙
      grows (avail.places hart) (avail.end hart) (avail.goes hart) (inside avail)

  facts_there : (avail : Avail store old.term (count_at old.base)) (other : ℕ) → other ≢ hart → facts_at new.ends avail other ≡ facts_at old.ends avail other
  facts_there avail other ne = ap (λ (k : ℕ). below k (records_of (pieces_of store old.term other) (avail.places other))) (end_there other ne)

  -- ---- edges

  module _ (was : HasEdges store old) (taken : TakesEdges hart old.edges (edges_among added) new.edges) (start : old.edges.start ≡ old.base) where
    exact : (e : Edge) → Contains (was.all ++ edges_among added) e ↔ ((h : ℕ) × Contains (edges_among (facts_at new.ends was.avail h)) e)
    exact e = (
      (λ has.
          elim (Contains-append_cases was.all (edges_among added) e has) [
            | inl before ↦
                (let (h, at) = (was.exact e).0 before in
                elim (cases_eq h hart) [
                  | inl same ↦ (
                    hart,
                    subst (λ (rs : List Record). Contains (edges_among rs) e) (sym (facts_here was.avail))
                        (subst (λ (es : List Edge). Contains es e) (sym (edges_among-append (facts_at old.ends was.avail hart) added))
                        (Contains-append_left (edges_among (facts_at old.ends was.avail hart)) (edges_among added) e
                        (subst (λ (k : ℕ). Contains (edges_among (facts_at old.ends was.avail k)) e) same at))),
                  )
                  | inr ne ↦ (h, subst (λ (rs : List Record). Contains (edges_among rs) e) (sym (facts_there was.avail h ne)) at)
                ])
            | inr more ↦ (
              hart,
              subst (λ (rs : List Record). Contains (edges_among rs) e) (sym (facts_here was.avail))
                  (subst (λ (es : List Edge). Contains es e) (sym (edges_among-append (facts_at old.ends was.avail hart) added))
                  (Contains-append_right (edges_among (facts_at old.ends was.avail hart)) (edges_among added) e more)),
            )
          ]),
      (λ (h, at).
          elim (cases_eq h hart) [
            | inl same ↦
                (let here : Contains (edges_among (facts_at new.ends was.avail hart)) e =
                subst (λ (k : ℕ). Contains (edges_among (facts_at new.ends was.avail k)) e) same at in
                elim
                (Contains-append_cases (edges_among (facts_at old.ends was.avail hart)) (edges_among added) e
                (subst (λ (es : List Edge). Contains es e) (edges_among-append (facts_at old.ends was.avail hart) added)
                (subst (λ (rs : List Record). Contains (edges_among rs) e) (facts_here was.avail) here))) [
                  | inl before ↦ Contains-append_left was.all (edges_among added) e ((was.exact e).1 (hart, before))
                  | inr more ↦ Contains-append_right was.all (edges_among added) e more
                ])
            | inr ne ↦
                Contains-append_left was.all (edges_among added) e
                ((was.exact e).1 (h, subst (λ (rs : List Record). Contains (edges_among rs) e) (facts_there was.avail h ne) at))
          ]),
    )

    enough : IsEnough (edges_of new.edges) (was.all ++ edges_among added) (count_at old.base)
    enough =
        subst (λ (s : List ℕ). IsEnough (edges_of new.edges) (was.all ++ edges_among added) (count_at s)) start
        (taken.enough was.all (subst (λ (s : List ℕ). IsEnough (edges_of old.edges) was.all (count_at s)) (sym start) was.enough))

    -- as of a leg with the old one's term and base
    has_edges_there : HasEdges store (record new { term = old.term; base = old.base })
    has_edges_there =
        record {
          avail = was.avail;
          all = was.all ++ edges_among added;
          exact = exact;
          enough = enough;
          same_order = same_order (edges_of new.edges) (was.all ++ edges_among added) (count_at old.base) enough;
        }

    pub has_edges : HasEdges store new
    has_edges =
        subst (λ (leg : PlannedLeg). HasEdges store leg)
        (ap (λ (t : ℕ). record new { term = t; base = old.base }) (sym term) ∙ ap (λ (b : List ℕ). record new { base = b }) (sym base)) has_edges_there

  -- ---- inputs

  module _ (was : HasInputs store old) (taken : TakesInputs hart old.inputs (inputs_among added) new.inputs) where
    inputs_exact : (h : ℕ) → inputs_of new.inputs h ≡ inputs_among (facts_at new.ends was.avail h)
    inputs_exact h =
        elim (cases_eq h hart) [
          | inl same ↦
              rw same
              (taken.own ∙
              (ap (λ l. l ++ inputs_among added) (was.exact hart) ∙
              (sym (inputs_among-append (facts_at old.ends was.avail hart) added) ∙ ap inputs_among (sym (facts_here was.avail)))))
          | inr ne ↦ taken.others h ne ∙ (was.exact h ∙ ap inputs_among (sym (facts_there was.avail h ne)))
        ]

    pub has_inputs : HasInputs store new
    has_inputs =
        let there_too : HasInputs store (record new { term = old.term; base = old.base }) = record { avail = was.avail; exact = inputs_exact } in
        subst (λ (leg : PlannedLeg). HasInputs store leg)
        (ap (λ (t : ℕ). record new { term = t; base = old.base }) (sym term) ∙ ap (λ (b : List ℕ). record new { base = b }) (sym base))
        there_too

  -- ---- marks

  module _ (was : HasMarks store old) (taken : TakesNotes hart old.marks (notes_among added) new.marks) where
    marked : (h : ℕ) → count_at new.marks h ≡ greatest (notes_among (facts_at new.ends was.avail h))
    marked h =
        elim (cases_eq h hart) [
          | inl same ↦
              rw same
              (let own = taken.own in
              let before = was.exact hart in
              let both = greatest_append (notes_among (facts_at old.ends was.avail hart)) (notes_among added) in
              let sum : count_at new.marks hart ≡ greatest (notes_among (facts_at old.ends was.avail hart) ++ notes_among added) =
              omega (arith, own, before, both) in
              sum ∙
              ap greatest (sym (notes_among-append (facts_at old.ends was.avail hart) added) ∙ ap notes_among (sym (facts_here was.avail))))
          | inr ne ↦ taken.others h ne ∙ (was.exact h ∙ ap (λ (rs : List Record). greatest (notes_among rs)) (sym (facts_there was.avail h ne)))
        ]

    pub has_marks : HasMarks store new
    has_marks =
        let there_too : HasMarks store (record new { term = old.term; base = old.base }) = record { many = taken.many ∙ was.many; avail = was.avail; exact = marked } in
        subst (λ (leg : PlannedLeg). HasMarks store leg)
        (ap (λ (t : ℕ). record new { term = t; base = old.base }) (sym term) ∙ ap (λ (b : List ℕ). record new { base = b }) (sym base))
        there_too
