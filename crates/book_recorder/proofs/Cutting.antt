-- Pieces of a hart's log, in the words of the theory.
use Rattle.std.proofs.Common.{◌≡◌, inl, inr, ℕ, ◌+◌, ◌<◌, ◌≤◌, ◌&&◌, Bool, true, false, cond, List, [], ◌∷◌, map, Contains, filter, nat_lt, refl, sym, ap, subst, ◌∙◌, arith}
use Rattle.std.specs.Prelude.{nat_le}
use Rattle.std.specs.List.{filter_map}
use Rattle.std.proofs.lemmas.Bool.{leb-true, le-leb, ltb-true, lt-ltb}
use Rattle.std.proofs.lemmas.List.Elements.{Contains-append_right}
use Rattle.interleaving.specs.Log.{Edge}
use Rattle.interleaving.proofs.Cuts.{here_or_later, here}
use Rattle.edge_log.specs.EdgeLog.{edge_as}
use Rattle.fragment_codec.specs.Rules.{FragmentParts}
use Rattle.fragment_codec.specs.Facts.{Facts, is_between, edge_in}
use Rattle.log_pieces.specs.Pieces.{HartLog, Mark, IsPiece}
use Rattle.closed_cut.specs.Position.{edges_of}
use Rattle.closed_cut.proofs.Lowerings.{found, contains_map}
use Rattle.fenced_theory.specs.Recorders.{Recorder}
use Rattle.fenced_theory.specs.Notes.{HasNotes, notes_in}
use Rattle.book_recorder.specs.Sealings.{PiecesTellNotes, PiecesAreCuts}

both : (a b : Bool) → (a && b) ≡ true → record { 0 : a ≡ true; 1 : b ≡ true }
both true true e = (refl, refl)
both true false e = cc
both false b e = cc

in_filter : {A : Type 0} (P : A → Bool) (xs : List A) (x : A) → Contains (filter P xs) x → record { 0 : Contains xs x; 1 : P x ≡ true }
in_filter P [] x (k, below, is) = absurd (omega arith)
in_filter {A} P (y ∷ ys) x has = by (in_filter P ys x) (P y) refl has
  where
    by : (Contains (filter P ys) x → record { 0 : Contains ys x; 1 : P x ≡ true }) → (b : Bool) → P y ≡ b →
        Contains (cond b (y ∷ filter P ys) (filter P ys)) x →
        record { 0 : Contains (y ∷ ys) x; 1 : P x ≡ true }
    by rec true e h =
        elim (here_or_later y (filter P ys) x h) [
          | inl same ↦ (subst (Contains (y ∷ ys)) same (here y ys), ap P (sym same) ∙ e)
          | inr later ↦ let r = rec later in (Contains-append_right (y ∷ []) ys x r.0, r.1)
        ]
    by rec false e h = let r = rec h in (Contains-append_right (y ∷ []) ys x r.0, r.1)

of_filter : {A : Type 0} (P : A → Bool) (xs : List A) (x : A) → Contains xs x → P x ≡ true → Contains (filter P xs) x
of_filter P [] x (k, below, is) fine = absurd (omega arith)
of_filter {A} P (y ∷ ys) x has fine = by (λ later. of_filter P ys x later fine) (P y) refl
  where
    by : (Contains ys x → Contains (filter P ys) x) → (b : Bool) → P y ≡ b → Contains (cond b (y ∷ filter P ys) (filter P ys)) x
    by rec true e =
        elim (here_or_later y ys x has) [
          | inl same ↦ subst (Contains (y ∷ filter P ys)) same (here y (filter P ys))
          | inr later ↦ Contains-append_right (y ∷ []) (filter P ys) x (rec later)
        ]
    by rec false e =
        elim (here_or_later y ys x has) [
          | inl same ↦ let f : true ≡ false = sym fine ∙ (ap P (sym same) ∙ e) in cc
          | inr later ↦ rec later
        ]

between : (from to n : ℕ) → from ≤ n → n < to → is_between from to n ≡ true
between from to n lo hi = rw (le-leb from n lo) (lt-ltb n to hi)

-- a piece with the notes of its range
filtered_notes : (notes : List (ℕ × ℕ)) (x : FragmentParts) → notes_in x ≡ filter (λ (n : ℕ × ℕ). is_between x.from x.to n.0) notes → HasNotes notes x
filtered_notes notes x same =
    record {
      has =
          λ note has lo hi.
          subst (λ (l : List (ℕ × ℕ)). Contains l note) (sym same)
          (of_filter (λ (n : ℕ × ℕ). is_between x.from x.to n.0) notes note has (between x.from x.to note.0 lo hi));
      only =
          λ note has.
          let r = in_filter (λ (n : ℕ × ℕ). is_between x.from x.to n.0) notes note (subst (λ (l : List (ℕ × ℕ)). Contains l note) same has) in
          let (lo, hi) = both (nat_le x.from note.0) (nat_lt note.0 x.to) r.1 in
          (r.0, leb-true x.from note.0 lo, ltb-true note.0 x.to hi);
    }

-- a piece of the log has the log's notes
pub piece_has_notes : PiecesTellNotes
piece_has_notes log mark x piece = filtered_notes log.facts.notes x (ap (λ (f : Facts). f.notes) piece.exact)

module _ {Book Fact : Type 0} (recorder : Recorder Book Fact) where
  pub piece_is_cut : PiecesAreCuts recorder
  piece_is_cut b log mark x of_book piece =
      record {
        rises = piece.rules.some;
        settled =
            let s : log.settled ≤ recorder.counts b log.hart = of_book.settled in
            elim piece.far [ inl e ↦ omega arith | inr (less, many) ↦ omega arith ];
        has =
            λ e has hart lo hi.
            let y = found log.facts.edges e ((of_book.edges e).1 (has, hart)) in
            let at : y.edge.at ≡ e.step = ap (λ (e : Edge). e.step) y.is in
            let into : Contains (filter (λ e. is_between x.from x.to e.at) log.facts.edges) y.edge =
            of_filter (λ e. is_between x.from x.to e.at) log.facts.edges y.edge (y.place, y.below, sym y.here)
            (between x.from x.to y.edge.at (omega arith) (omega arith)) in
            subst (Contains (edges_of x)) y.is (contains_map (filter_map edge_in x.records) y.edge (subst (λ l. Contains l y.edge) (sym same) into));
        only =
            λ e has.
            let y = found (filter_map edge_in x.records) e has in
            let at : y.edge.at ≡ e.step = ap (λ (e : Edge). e.step) y.is in
            let r = in_filter (λ e. is_between x.from x.to e.at) log.facts.edges y.edge (subst (λ l. Contains l y.edge) same (y.place, y.below, sym y.here)) in
            let (lo, hi) = both (nat_le x.from y.edge.at) (nat_lt y.edge.at x.to) r.1 in
            let low : x.from ≤ y.edge.at = leb-true x.from y.edge.at lo in
            let high : y.edge.at < x.to = ltb-true y.edge.at x.to hi in
            let own = (of_book.edges e).0 (subst (Contains (map edge_as log.facts.edges)) y.is (contains_map log.facts.edges y.edge r.0)) in
            (own.0, own.1, omega arith, omega arith);
      }
    where
      same : filter_map edge_in x.records ≡ filter (λ e. is_between x.from x.to e.at) log.facts.edges
      same = ap (λ (f : Facts). f.edges) piece.exact
