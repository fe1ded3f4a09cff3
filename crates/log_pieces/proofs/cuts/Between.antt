-- Records that tell what stands in a log between two counts.
use Rattle.std.proofs.Common.{◌≡◌, ℕ, ◌<◌, ◌≤◌, true, cond, ◌==◌, List, [], ◌∷◌, length, filter, filter_map, count_by, All, arith, refl, sym, ap, subst, ◌∙◌}
use Rattle.std.specs.List.{AllByRecursion}
use Rattle.std.proofs.lemmas.Bool.{and_parts, leb-true, ltb-true}
use Rattle.std.proofs.lemmas.List.{length-map}
use Rattle.std.proofs.lemmas.List.Elements.{recursion_from_All, All-filter, filter_passes}
use Rattle.std.proofs.lemmas.List.Sums.{length-filter, sum_by-cons}
use Rattle.ft_types.specs.declared.names.TheConstants.{INPUT_LIMIT}
use Rattle.edge_log.specs.declared.Edge.{Edge}
use Rattle.input_log.specs.declared.Input.{Input as HartInput}
use Rattle.input_log.specs.Inputs.{inputs_at}
use Rattle.input_log.specs.Notes.{IsNote}
use Rattle.fragment_codec.specs.declared.types.Record.{Record}
use Rattle.fragment_codec.specs.declared.types.Record.TheVariants.{Edge as EdgeRecord, Input as InputRecord, Note as NoteRecord}
use Rattle.fragment_codec.specs.Rules.{count_of, IsFactOf, AreInOrder, is_input_at}
use Rattle.fragment_codec.specs.Facts.{edge_in, input_in, note_in, told_by, facts_between, is_between}
use Rattle.log_pieces.specs.machinery.Cutting.{AreLogged, StandBetween}
use Rattle.log_pieces.proofs.cuts.Filters.{count_by-filter-le}

-- what holds of the edges, the inputs and the notes holds of the records that tell them
all_told : (P : Record → Type 0) (rs : List Record) → AllByRecursion (λ e. P (EdgeRecord e)) (filter_map edge_in rs) →
    AllByRecursion (λ x. P (InputRecord x.0 x.1)) (filter_map input_in rs) → AllByRecursion (λ x. P (NoteRecord x.0 x.1)) (filter_map note_in rs) →
    AllByRecursion P rs
all_told P [] edges inputs notes = tt
all_told P (EdgeRecord e ∷ rs) edges inputs notes = (edges.0, all_told P rs edges.1 inputs notes)
all_told P (InputRecord at input ∷ rs) edges inputs notes = (inputs.0, all_told P rs edges inputs.1 notes)
all_told P (NoteRecord at number ∷ rs) edges inputs notes = (notes.0, all_told P rs edges inputs notes.1)

-- as many inputs stand at a count as the records tell
inputs_told : (n : ℕ) (rs : List Record) → count_by (is_input_at n) rs ≡ count_by (λ x. x.0 == n) (filter_map input_in rs)
inputs_told n [] = refl
inputs_told n (EdgeRecord e ∷ rs) =
    let rest = inputs_told n rs in
    omega (arith, rest, sum_by-cons (λ r. cond (is_input_at n r) 1 0) (EdgeRecord e) rs)
inputs_told n (InputRecord at input ∷ rs) =
    let rest = inputs_told n rs in
    omega (
      arith,
      rest,
      sum_by-cons (λ r. cond (is_input_at n r) 1 0) (InputRecord at input) rs,
      sum_by-cons (λ (x : ℕ × HartInput). cond (x.0 == n) 1 0) (at, input)
          (filter_map input_in rs),
    )
inputs_told n (NoteRecord at number ∷ rs) =
    let rest = inputs_told n rs in
    omega (arith, rest, sum_by-cons (λ r. cond (is_input_at n r) 1 0) (NoteRecord at number) rs)

-- a count that stands between two others
pub between_is : (from to n : ℕ) → is_between from to n ≡ true → (from ≤ n) × (n < to)
between_is from to n e = let p = and_parts _ _ e in (leb-true _ _ p.0, ltb-true _ _ p.1)

all_between : {A : Type 0} (count : A → ℕ) (from to : ℕ) (xs : List A) → AllByRecursion (λ x. (from ≤ count x) × (count x < to))
    (filter (λ x. is_between from to (count x)) xs)
all_between count from to xs =
    let kept = filter (λ x. is_between from to (count x)) xs in
    recursion_from_All (λ x. (from ≤ count x) × (count x < to)) kept
    (λ k d below. between_is from to _ (filter_passes (λ x. is_between from to (count x)) xs k d below))

-- and none does where the second is not the greater
none_between : {A : Type 0} (count : A → ℕ) (from to : ℕ) (xs : List A) → to ≤ from → filter (λ x. is_between from to (count x)) xs ≡ []
none_between {A} count from to xs low = empty (filter (λ x. is_between from to (count x)) xs) (all_between count from to xs)
  where
    empty : (ys : List A) → AllByRecursion (λ x. (from ≤ count x) × (count x < to)) ys → ys ≡ []
    empty [] h = refl
    empty (y ∷ ys) h = absurd (omega (arith, h.0.0, h.0.1, low))

pub nothing_told : (from to : ℕ) (edges : List Edge) (inputs : List (ℕ × HartInput)) (notes : List (ℕ × ℕ)) → to ≤ from →
    told_by [] ≡ facts_between from to (record { edges = edges; inputs = inputs; notes = notes })
nothing_told from to edges inputs notes low =
    rw (
      none_between (λ (e : Edge). e.at) from to edges low,
      none_between (λ (x : ℕ × HartInput). x.0) from to inputs low,
      none_between (λ (x : ℕ × ℕ). x.0) from to notes low,
    ) refl

module _ (from to : ℕ) (edges : List Edge) (inputs : List (ℕ × HartInput)) (notes : List (ℕ × ℕ)) (rs : List Record)
    (told : told_by rs ≡ facts_between from to (record { edges = edges; inputs = inputs; notes = notes })) where
  edges_are : filter_map edge_in rs ≡ filter (λ e. is_between from to e.at) edges
  edges_are = ap (λ f. f.edges) told

  inputs_are : filter_map input_in rs ≡ filter (λ x. is_between from to x.0) inputs
  inputs_are = ap (λ f. f.inputs) told

  notes_are : filter_map note_in rs ≡ filter (λ x. is_between from to x.0) notes
  notes_are = ap (λ f. f.notes) told

  pub there_between : StandBetween from to rs
  there_between =
      all_told (λ r. (from ≤ count_of r) × (count_of r < to)) rs
      (subst (AllByRecursion (λ (e : Edge). (from ≤ e.at) × (e.at < to))) (sym edges_are) (all_between (λ (e : Edge). e.at) from to edges))
      (subst (AllByRecursion (λ (x : ℕ × HartInput). (from ≤ x.0) × (x.0 < to))) (sym inputs_are) (all_between (λ (x : ℕ × HartInput). x.0) from to inputs))
      (subst (AllByRecursion (λ (x : ℕ × ℕ). (from ≤ x.0) × (x.0 < to))) (sym notes_are) (all_between (λ (x : ℕ × ℕ). x.0) from to notes))

  pub logged_between : (harts hart : ℕ) → AreInOrder rs → ((n : ℕ) → length (inputs_at inputs n) ≤ INPUT_LIMIT) → All (λ e. IsFactOf harts hart (EdgeRecord e)) edges →
      All (λ x. IsFactOf harts hart (InputRecord x.0 x.1)) inputs → All IsNote notes → AreLogged harts hart rs
  logged_between harts hart order few facts input_facts note_facts =
      record {
        each =
            all_told (IsFactOf harts hart) rs
            (subst (AllByRecursion (λ (e : Edge). IsFactOf harts hart (EdgeRecord e))) (sym edges_are)
            (recursion_from_All (λ (e : Edge). IsFactOf harts hart (EdgeRecord e)) (filter (λ e. is_between from to e.at) edges)
            (All-filter (λ (e : Edge). is_between from to e.at) (λ (e : Edge). IsFactOf harts hart (EdgeRecord e)) edges facts)))
            (subst (AllByRecursion (λ (x : ℕ × HartInput). IsFactOf harts hart (InputRecord x.0 x.1))) (sym inputs_are)
            (recursion_from_All (λ (x : ℕ × HartInput). IsFactOf harts hart (InputRecord x.0 x.1)) (filter (λ x. is_between from to x.0) inputs)
            (All-filter (λ (x : ℕ × HartInput). is_between from to x.0) (λ (x : ℕ × HartInput). IsFactOf harts hart (InputRecord x.0 x.1)) inputs
            input_facts)))
            (subst (AllByRecursion (λ (x : ℕ × ℕ). IsFactOf harts hart (NoteRecord x.0 x.1))) (sym notes_are)
            (recursion_from_All (λ (x : ℕ × ℕ). IsFactOf harts hart (NoteRecord x.0 x.1)) (filter (λ x. is_between from to x.0) notes)
            (λ k d below.
            let x = All-filter (λ (x : ℕ × ℕ). is_between from to x.0) IsNote notes note_facts k d below in
            (x.some, x.within))));
        order = order;
        inputs =
            λ n.
            let at = λ (x : ℕ × HartInput). x.0 == n in
            let all : length (inputs_at inputs n) ≡ count_by at inputs = length-map (filter at inputs) (λ (x : ℕ × HartInput). x.1) ∙ length-filter at inputs in
            let kept : count_by at (filter_map input_in rs) ≤ count_by at inputs =
            subst (λ l. count_by at l ≤ count_by at inputs) (sym inputs_are) (count_by-filter-le at (λ (x : ℕ × HartInput). is_between from to x.0) inputs) in
            omega (arith, inputs_told n rs, few n, all, kept);
      }

pub told_parts : (from to : ℕ) (edges es : List Edge) (inputs xs : List (ℕ × HartInput)) (rs : List Record) →
    es ≡ filter (λ e. is_between from to e.at) edges → xs ≡ filter (λ x. is_between from to x.0) inputs →
    told_by rs ≡ record { edges = es; inputs = xs; notes = [] } →
    told_by rs ≡ facts_between from to (record { edges = edges; inputs = inputs; notes = [] })
told_parts from to edges es inputs xs rs edges_are inputs_are told = cc

-- and with the notes between the counts
pub told_noted : (from to : ℕ) (edges : List Edge) (inputs : List (ℕ × HartInput)) (notes ns : List (ℕ × ℕ)) (rs vs : List Record) →
    ns ≡ filter (λ x. is_between from to x.0) notes →
    told_by rs ≡ facts_between from to (record { edges = edges; inputs = inputs; notes = [] }) → told_by vs ≡ record (told_by rs) { notes = ns } →
    told_by vs ≡ facts_between from to (record { edges = edges; inputs = inputs; notes = notes })
told_noted from to edges inputs notes ns rs vs notes_are told noted =
    let of_edges : filter_map edge_in rs ≡ filter (λ e. is_between from to e.at) edges = ap (λ f. f.edges) told in
    let of_inputs : filter_map input_in rs ≡ filter (λ x. is_between from to x.0) inputs = ap (λ f. f.inputs) told in
    noted ∙ cc
