-- A piece of a book is a piece of each book that goes on from there.
use Rattle.std.proofs.Common.{◌≡◌, ◌≤◌, ℕ, Bool, false, List, [], ◌∷◌, ◌++◌, All, filter, nat_lt, if◌then◌else◌, refl, sym, ap, ◌∙◌, inl, inr, arith, le_trans, append-nil}
use Rattle.std.proofs.lemmas.Bool.{cases_lt, lt-ltb, le-ltb}
use Rattle.std.proofs.lemmas.List.Elements.{filter-append, All-head, All-tail, All-weaker}
use Rattle.edge_log.specs.declared.Edge.{Edge}
use Rattle.edge_log.specs.EdgeLog.{row_of}
use Rattle.input_log.specs.declared.Input.{Input}
use Rattle.input_log.specs.Inputs.{inputs_of}
use Rattle.input_log.specs.Notes.{notes_of}
use Rattle.hart_lease.specs.Runs.{counts_of}
use Rattle.fragment_codec.specs.Facts.{Facts, is_between}
use Rattle.hart_replay.specs.Primaries.{PiecesLast}

-- what no element passes leaves nothing
none_pass : {A : Type 0} (p : A → Bool) (xs : List A) → All (λ x. p x ≡ false) xs → filter p xs ≡ []
none_pass p [] fails = refl
none_pass {A} p (x ∷ xs) fails =
    let here : p x ≡ false = All-head (λ (x : A). p x ≡ false) x xs fails in
    rw here (none_pass p xs (All-tail (λ (x : A). p x ≡ false) x xs fails))

-- a count at the end or later is not between
later_fails : (from to n : ℕ) → to ≤ n → is_between from to n ≡ false
later_fails from to n le = grind (arith, le-ltb n to le)

module _ (from to : ℕ) where
  module _ {A : Type 0} (count : A → ℕ) where
    -- what is between lies before the end
    between_early : (m : ℕ) (xs : List A) → to ≤ m →
        filter (λ x. is_between from to (count x)) (filter (λ x. nat_lt (count x) m) xs) ≡ filter (λ x. is_between from to (count x)) xs
    between_early m [] le = refl
    between_early m (x ∷ xs) le = elim (cases_lt (count x) m) [
      | inl less ↦
          rw (lt-ltb (count x) m less)
          (ap (λ (row : List A). if is_between from to (count x) then x ∷ row else row) (between_early m xs le))
      | inr more ↦ rw (le-ltb (count x) m more, later_fails from to (count x) (le_trans le more)) (between_early m xs le)
    ]

    -- so it is the same where what lies before a later count is
    between_last : (m : ℕ) (old new : List A) → to ≤ m → filter (λ x. nat_lt (count x) m) new ≡ filter (λ x. nat_lt (count x) m) old →
        filter (λ x. is_between from to (count x)) new ≡ filter (λ x. is_between from to (count x)) old
    between_last m old new le same =
        sym (between_early m new le) ∙ ap (filter (λ x. is_between from to (count x))) same ∙ between_early m old le

  heard_later : (before more after : List (ℕ × Input)) → after ≡ before ++ more → All (λ x. to ≤ x.0) more →
      filter (λ x. is_between from to x.0) after ≡ filter (λ x. is_between from to x.0) before
  heard_later before more after is later =
      ap (filter (λ x. is_between from to x.0)) is
      ∙ filter-append (λ x. is_between from to x.0) before more
      ∙ ap (λ (row : List (ℕ × Input)). filter (λ x. is_between from to x.0) before ++ row)
      (none_pass (λ x. is_between from to x.0) more
      (All-weaker (λ x. to ≤ x.0) (λ x. is_between from to x.0 ≡ false) (λ x le. later_fails from to x.0 le) more later))
      ∙ append-nil (filter (λ x. is_between from to x.0) before)

same_facts : (edges more_edges : List Edge) (inputs more_inputs : List (ℕ × Input)) (notes more_notes : List (ℕ × ℕ)) → more_edges ≡ edges →
    more_inputs ≡ inputs → more_notes ≡ notes →
    (let f : Facts = record { edges = edges; inputs = inputs; notes = notes } in f) ≡ record { edges = more_edges; inputs = more_inputs; notes = more_notes }
same_facts edges more_edges inputs more_inputs notes more_notes e i n = rw (e, i, n) refl

pub pieces_last : PiecesLast
pieces_last b c hart piece tells its =
    let m : ℕ = counts_of b.machine hart in
    let settled : piece.to ≤ m = its.settled in
    let (more, heard, from) = tells.inputs hart in
    let edges = between_last piece.from piece.to (λ (e : Edge). e.at) m (row_of b.mode.edges hart) (row_of c.mode.edges hart) settled (tells.edges.rows hart).below in
    let inputs =
    heard_later piece.from piece.to (inputs_of b.mode.inputs hart) more (inputs_of c.mode.inputs hart) heard
    (All-weaker (λ x. m ≤ x.0) (λ x. piece.to ≤ x.0) (λ x le. le_trans settled le) more from) in
    let notes =
    between_last piece.from piece.to (λ (x : ℕ × ℕ). x.0) m (notes_of b.mode.notes hart) (notes_of c.mode.notes hart) settled (tells.notes hart).below in
    record {
      settled = le_trans settled (tells.counts hart);
      exact = its.exact ∙ same_facts _ _ _ _ _ _ edges inputs notes;
    }
