-- Rows below some counts.
use Rattle.std.proofs.Common.{◌≡◌, ◌<◌, ◌≤◌, ℕ, zero, suc, List, [], ◌∷◌, All, Contains, length, nat_lt, slice_index_or, refl, sym, ap, subst, ◌∙◌}
use Rattle.std.proofs.Common.{arith, lt-ltb, le-ltb, inl, inr, get_or, length-append}
use Rattle.std.specs.List.{filter}
use Rattle.std.proofs.lemmas.Bool.{cases_lt}
use Rattle.std.proofs.lemmas.List.Elements.{All-cons, All-contains, All-from_recursion, All-head, All-nil, All-tail, Contains-get_or}
use Rattle.std.proofs.Math.Path.{fun_ext}
use Rattle.std.proofs.lemmas.List.{ext_get_or, get_or_append_left, get_or_at, get_or_past}
use Rattle.ft_types.specs.Counts.{count_at}
use Rattle.ft_types.specs.declared.names.TheConstants.{HART_ROW}
use Rattle.interleaving.specs.Log.{Edge}
use Rattle.edge_log.specs.EdgeLog.{IsOfHart, edge_as, row_of}
use Rattle.edge_log.proofs.Logs.{to_edges}
use Rattle.input_log.specs.declared.Input.{Input}
use Rattle.input_log.specs.Inputs.{inputs_of}
use Rattle.fragment_codec.specs.declared.types.Record.{Record}
use Rattle.fragment_codec.specs.declared.types.Record.TheVariants.{Edge as EdgeRecord, Input as InputRecord, Note as NoteRecord}
use Rattle.fragment_codec.specs.Rules.{IsRecordOf}
use Rattle.log_join.specs.Stores.{StoreView, IsStore}
use Rattle.closed_cut.specs.Position.{pieces_of}
use Rattle.hart_replay.specs.declared.plans.PlannedLeg.{PlannedLeg}
use Rattle.hart_replay.specs.Facts.{HasEdges, HasInputs, below, inputs_among, records_of}
use Rattle.hart_replay.proofs.gathering.Ends.{fact_edge}
use Rattle.hart_replay.proofs.gathering.Pieces.{hart_is, rules_of}
use Rattle.warm_backup.specs.machinery.Cutting.{rows_below, rows_to}

-- ---- lists of rows

all_kept : {A : Type 0} (at : A → ℕ) (end : ℕ) (row : List A) → All (λ x. at x < end) row → filter (λ x. nat_lt (at x) end) row ≡ row
all_kept at end [] all = refl
all_kept at end (x ∷ row) all =
    rw (lt-ltb (at x) end (All-head (λ x. at x < end) x row all)) (ap (λ r. x ∷ r) (all_kept at end row (All-tail (λ x. at x < end) x row all)))

-- a row of each hart
length-rows : {A : Type 0} (n : ℕ) (row : ℕ → List A) → length (rows_to n row) ≡ n
unfolding rows_to
length-rows zero row = refl
length-rows (suc n) row = let before = length-rows n row in omega (arith, before, length-append (rows_to n row) (row n ∷ []))

row_at : {A : Type 0} (n : ℕ) (row : ℕ → List A) (hart : ℕ) → hart < n → slice_index_or (rows_to n row) hart [] ≡ row hart
unfolding rows_to
row_at zero row hart less = absurd (omega (arith, less))
row_at (suc n) row hart less =
    elim (cases_lt hart n) [
      | inl before ↦
          get_or_append_left (rows_to n row) (row n ∷ []) [] hart (omega (arith, before, length-rows n row)) ∙ row_at n row hart before
      | inr last ↦
          let same : n ≡ hart = omega (arith, less, last) in
          get_or_at (rows_to n row) (row n) [] [] hart (omega (arith, same, length-rows n row)) ∙ ap row same
    ]

pub row_below : {A : Type 0} (at : A → ℕ) (ends : List ℕ) (rows : List (List A)) (hart : ℕ) → hart < HART_ROW →
    slice_index_or (rows_below at ends rows) hart [] ≡ filter (λ x. nat_lt (at x) (count_at ends hart)) (slice_index_or rows hart [])
row_below at ends rows hart less =
    row_at HART_ROW (λ h. filter (λ x. nat_lt (at x) (count_at ends h)) (slice_index_or rows h [])) hart less

pub row_past : {A : Type 0} (at : A → ℕ) (ends : List ℕ) (rows : List (List A)) (hart : ℕ) → HART_ROW ≤ hart → slice_index_or (rows_below at ends rows) hart [] ≡ []
row_past at ends rows hart over =
    let many = length-rows HART_ROW (λ h. filter (λ x. nat_lt (at x) (count_at ends h)) (slice_index_or rows h [])) in
    get_or_past (rows_below at ends rows) hart [] (omega (arith, many, over))

-- rows that are all below the counts stay
pub rows_kept : {A : Type 0} (at : A → ℕ) (ends : List ℕ) (rows : List (List A)) → length rows ≡ HART_ROW →
    ((hart : ℕ) → All (λ x. at x < count_at ends hart) (slice_index_or rows hart [])) → rows_below at ends rows ≡ rows
rows_kept at ends rows wide all =
    let many = length-rows HART_ROW (λ h. filter (λ x. nat_lt (at x) (count_at ends h)) (slice_index_or rows h [])) in
    ext_get_or [] (rows_below at ends rows) rows (many ∙ sym wide)
    (λ hart less. row_below at ends rows hart (omega (arith, less, many)) ∙ all_kept at (count_at ends hart) (slice_index_or rows hart []) (all hart))

-- rows with the same below the counts
pub rows_same : {A : Type 0} (at : A → ℕ) (ends : List ℕ) (rows others : List (List A)) →
    ((hart : ℕ) →
    filter (λ x. nat_lt (at x) (count_at ends hart)) (slice_index_or rows hart []) ≡
    filter (λ x. nat_lt (at x) (count_at ends hart)) (slice_index_or others hart [])) → rows_below at ends rows ≡ rows_below at ends others
rows_same at ends rows others same = ap (rows_to HART_ROW) (fun_ext same)

-- ---- the facts of a leg are below its ends

module _ (store : StoreView) (rules : IsStore store) (leg : PlannedLeg) where
  pub early : (has : HasEdges store leg) (e : Edge) → Contains has.all e → e.step < count_at leg.ends e.hart
  early has e there =
      let (h, at) = (has.exact e).0 there in
      let f = fact_edge (pieces_of store leg.term h) (has.avail.places h) (count_at leg.ends h) e at in
      let place = f.from.place in
      let piece = f.from.piece in
      let fits = rules_of store rules leg.term h place piece f.from.one in
      let own : f.edge.hart ≡ piece.key.hart =
      (All-contains (IsRecordOf piece.guest.harts piece.key.hart piece.from piece.to) piece.records (EdgeRecord f.edge)
      (All-from_recursion (IsRecordOf piece.guest.harts piece.key.hart piece.from piece.to) piece.records fits.records.each) f.from.has).0.0 in
      let at_hart : piece.key.hart ≡ h = hart_is store rules leg.term h place piece f.from.one in
      let same : e.hart ≡ f.edge.hart = sym (ap (λ (x : Edge). x.hart) f.is) in
      let which : h ≡ e.hart = sym at_hart ∙ (sym own ∙ sym same) in
      subst (λ (n : ℕ). e.step < count_at leg.ends n) which f.inside

  pub edges_before : HasEdges store leg → (hart : ℕ) → All (IsOfHart leg.edges.start hart) (row_of leg.edges hart) →
      All (λ e. e.at < count_at leg.ends hart) (row_of leg.edges hart)
  edges_before has hart of_row k d small =
      let row = row_of leg.edges hart in
      let e = get_or row k d in
      let less = early has (edge_as e) (has.enough.among (edge_as e) (to_edges leg.edges.rows hart e (Contains-get_or row k d small))) in
      subst (λ (n : ℕ). e.at < count_at leg.ends n) (of_row k d small).own less

  -- those of inputs too
  pub inputs_before : HasInputs store leg → (hart : ℕ) → All (λ x. x.0 < count_at leg.ends hart) (inputs_of leg.inputs hart)
  inputs_before has hart =
      subst (λ (row : List (ℕ × Input)). All (λ x. x.0 < count_at leg.ends hart) row) (sym (has.exact hart))
      (early (count_at leg.ends hart) (records_of (pieces_of store leg.term hart) (has.avail.places hart)))
    where
      early : (end : ℕ) (rs : List Record) → All (λ x. x.0 < end) (inputs_among (below end rs))
      early end [] = All-nil (λ x. x.0 < end)
      early end (EdgeRecord e ∷ rs) =
          elim (cases_lt e.at end) [
            | inl less ↦ rw (lt-ltb e.at end less) (early end rs)
            | inr over ↦ rw (le-ltb e.at end over) (early end rs)
          ]
      early end (NoteRecord at number ∷ rs) =
          elim (cases_lt at end) [
            | inl less ↦ rw (lt-ltb at end less) (early end rs)
            | inr over ↦ rw (le-ltb at end over) (early end rs)
          ]
      early end (InputRecord at input ∷ rs) =
          elim (cases_lt at end) [
            | inl less ↦ rw (lt-ltb at end less) (All-cons (λ x. x.0 < end) (at, input) (inputs_among (below end rs)) less (early end rs))
            | inr over ↦ rw (le-ltb at end over) (early end rs)
          ]
