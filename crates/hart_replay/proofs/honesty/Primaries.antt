-- What a recording book tells of its term is true.
use Rattle.std.proofs.Common.{◌≡◌, ◌≢◌, ◌≤◌, ◌<◌, ◌==◌, ℕ, suc, Bool, true, false, List, [], ◌∷◌, length, map, filter, get_or, slice_index_or, Contains}
use Rattle.std.proofs.Common.{Option, Some, None, refl, sym, ap, subst, ◌∙◌, inl, inr, arith, le_of_eq}
use Rattle.std.specs.List.{filter_map, flat_map}
use Rattle.std.proofs.lemmas.Bool.{cases_eq, eq-eqb, ne_eqb, lt-ltb, le-leb}
use Rattle.std.proofs.lemmas.List.Elements.{Contains-append_cases, Contains-append_right}
use Rattle.interleaving.specs.Log as theory
use Rattle.interleaving.specs.Log.{IsCut}
use Rattle.interleaving.specs.Stored.{view}
use Rattle.interleaving.proofs.Cuts.{here, here_or_later}
use Rattle.ft_types.specs.Guests.{GuestParts}
use Rattle.edge_log.specs.declared.Edge.{Edge}
use Rattle.edge_log.specs.EdgeLog.{edge_as, edges_of}
use Rattle.edge_log.proofs.Logs.{contains_map, map_contains, to_edges, in_row, of_row}
use Rattle.input_log.specs.declared.Input.{Input}
use Rattle.input_log.specs.Inputs.{inputs_of, inputs_at}
use Rattle.rv32_hart.specs.Hart.{Hart}
use Rattle.rv32_hart.specs.Hardware.{hardware}
use Rattle.page_book.specs.Books.{BookView}
use Rattle.book_modes.specs.Recordings.{RecordingView}
use Rattle.book_modes.specs.Hearings.{IsTrueLog}
use Rattle.hart_lease.specs.Runs.{counts_of}
use Rattle.fragment_codec.specs.declared.frame.Frame.TheVariants.{Log}
use Rattle.fragment_codec.specs.Rules.{FragmentParts}
use Rattle.fragment_codec.specs.Facts.{is_between, edge_in, Facts}
use Rattle.log_pieces.specs.Pieces.{HartLog, Mark, IsPiece, ArePieces, mark_behind, mark_of, book_log}
use Rattle.log_pieces.proofs.cuts.Between.{between_is}
use Rattle.closed_cut.specs.Position.{edges_of as edges_told}
use Rattle.hart_replay.specs.Facts.{inputs_among}
use Rattle.log_join.specs.Families.{no_terms}
use Rattle.hart_replay.specs.Histories.{TermHistory, TellsOf, IsPlace}
use Rattle.hart_replay.specs.Images.{machine_of}
use Rattle.hart_replay.specs.Primaries.{term_of, IsPieceOf, CutsArePieces, PiecesTell, BooksAreTerms, PrimariesAreHistories}
use Rattle.hart_replay.proofs.honesty.Images.{image_goes_on}
use Rattle.hart_replay.proofs.honesty.Replays.{boot_pages}

abbrev BookTerm : Type 0
BookTerm = TermHistory (Option Hart) (Option (List ℕ))

-- ---- lists

pub in_rows : {A : Type 0} (rows : List (List A)) (x : A) → Contains (flat_map (λ row. row) rows) x → (h : ℕ) × Contains (get_or rows h []) x
in_rows [] x (k, below, is) = absurd (omega arith)
in_rows (row ∷ rows) x h =
    elim (Contains-append_cases row (flat_map (λ row. row) rows) x h) [
      | inl first ↦ (0, first)
      | inr later ↦ let (n, is_in) = in_rows rows x later in (suc n, is_in)
    ]

module _ {A : Type 0} (p : A → Bool) where
  -- what passes is in the list, and what is in the list and passes stays
  pub passed : (xs : List A) (x : A) → Contains (filter p xs) x → Contains xs x × (p x ≡ true)
  passed [] x (k, below, is) = absurd (omega arith)
  passed (y ∷ ys) x h = of (p y) refl (λ later. passed ys x later)
    where
      of : (b : Bool) → p y ≡ b → (Contains (filter p ys) x → Contains ys x × (p x ≡ true)) → Contains (y ∷ ys) x × (p x ≡ true)
      of true e more =
          let kept : filter p (y ∷ ys) ≡ y ∷ filter p ys = rw e refl in
          elim (here_or_later y (filter p ys) x (subst (λ (l : List A). Contains l x) kept h)) [
            | inl same ↦ (subst (Contains (y ∷ ys)) same (here y ys), subst (λ z. p z ≡ true) same e)
            | inr later ↦ let (is_in, is) = more later in (Contains-append_right (y ∷ []) ys x is_in, is)
          ]
      of false e more =
          let skipped : filter p (y ∷ ys) ≡ filter p ys = rw e refl in
          let (is_in, is) = more (subst (λ (l : List A). Contains l x) skipped h) in
          (Contains-append_right (y ∷ []) ys x is_in, is)

  pub passing : (xs : List A) (x : A) → Contains xs x → p x ≡ true → Contains (filter p xs) x
  passing [] x (k, below, is) e = absurd (omega arith)
  passing (y ∷ ys) x h e =
      elim (here_or_later y ys x h) [
        | inl same ↦ let f : p y ≡ true = ap p same ∙ e in rw f (subst (Contains (y ∷ filter p ys)) same (here y (filter p ys)))
        | inr later ↦ more (p y) refl (passing ys x later e)
      ]
    where
      more : (b : Bool) → p y ≡ b → Contains (filter p ys) x → Contains (filter p (y ∷ ys)) x
      more true f is_in = rw f (Contains-append_right (y ∷ []) (filter p ys) x is_in)
      more false f is_in = rw f is_in

pub between_true : (from to n : ℕ) → from ≤ n → n < to → is_between from to n ≡ true
between_true from to n le lt = rw (le-leb from n le, lt-ltb n to lt) refl

-- of a count between, those between are all
at_between : (from to n : ℕ) → from ≤ n → n < to → (row : List (ℕ × Input)) →
    filter (λ x. x.0 == n) (filter (λ x. is_between from to x.0) row) ≡ filter (λ x. x.0 == n) row
at_between from to n le lt [] = refl
at_between from to n le lt (x ∷ row) =
    elim (cases_eq x.0 n) [
      | inl same ↦
          rw (between_true from to x.0 (omega (arith, same, le)) (omega (arith, same, lt)), eq-eqb x.0 n same)
          (ap (λ l. x ∷ l) (at_between from to n le lt row))
      | inr apart ↦ other (is_between from to x.0) refl apart (at_between from to n le lt row)
    ]
  where
    other : (b : Bool) → is_between from to x.0 ≡ b → x.0 ≢ n →
        filter (λ x. x.0 == n) (filter (λ x. is_between from to x.0) row) ≡ filter (λ x. x.0 == n) row →
        filter (λ x. x.0 == n) (filter (λ x. is_between from to x.0) (x ∷ row)) ≡ filter (λ x. x.0 == n) (x ∷ row)
    other true is apart rest = rw (is, ne_eqb x.0 n apart) rest
    other false is apart rest = rw (is, ne_eqb x.0 n apart) rest

-- ---- pieces

piece_in : (log : HartLog) (old : Mark) (pieces : List FragmentParts) (new : Mark) → ArePieces log old pieces new → (piece : FragmentParts) →
    Contains pieces piece → (mark : Mark) × IsPiece log mark piece
piece_in log old [] new row piece (k, below, is) = absurd (omega arith)
piece_in log old (p ∷ pieces) new row piece h =
    elim (here_or_later p pieces piece h) [
      | inl same ↦ (old, subst (IsPiece log old) same row.0)
      | inr later ↦ piece_in log (mark_behind p) pieces new row.1 piece later
    ]

pub is_piece : (guest : GuestParts) (term : ℕ) (book : BookView RecordingView) (hart : ℕ) (mark : Mark) (piece : FragmentParts) →
    IsPiece (book_log guest term book hart) mark piece → IsPieceOf book piece.key.hart piece
is_piece guest term book hart mark piece p =
    subst (λ h. IsPieceOf book h piece) (sym (ap (λ k. k.hart) p.key))
    (record { settled = elim p.far [ inl same ↦ le_of_eq same | inr less ↦ omega (arith, less.0) ]; exact = p.exact })

pub cuts_are_pieces : CutsArePieces
cuts_are_pieces guest term book old new frames piece cut is_in =
    let all = flat_map (λ row. row) cut.pieces in
    let (found, there, same) = map_contains Log all (Log piece) (subst (λ l. Contains l (Log piece)) cut.in_turn is_in) in
    let here : Contains all piece = let e : found ≡ piece = cc in subst (Contains all) e there in
    let (hart, in_hart) = in_rows cut.pieces piece here in
    let (mark, its) =
    piece_in (book_log guest term book hart) (mark_of old hart) (slice_index_or cut.pieces hart []) (mark_of new hart) (cut.each hart).row piece in_hart in
    is_piece guest term book hart mark piece its

pub pieces_tell : PiecesTell
pieces_tell book hart piece p its =
    record {
      edges = record { end = its.settled; exact = λ e. (there e, back e) };
      inputs = λ n le lt. ap (λ row. inputs_at row n) inputs_are ∙ ap (map (λ (x : ℕ × Input). x.1)) (at_between piece.from piece.to n le lt
          (inputs_of book.mode.inputs hart));
    }
  where
    rows : List (List Edge)
    rows = book.mode.edges.rows

    test : Edge → Bool
    test e = is_between piece.from piece.to e.at

    edges_are : filter_map edge_in piece.records ≡ filter (λ e. is_between piece.from piece.to e.at) (get_or rows hart [])
    edges_are = ap (λ (f : Facts). f.edges) its.exact

    inputs_are : inputs_among piece.records ≡ filter (λ x. is_between piece.from piece.to x.0) (inputs_of book.mode.inputs hart)
    inputs_are = ap (λ (f : Facts). f.inputs) its.exact

    there : (e : theory.Edge) → Contains (edges_told piece) e →
        Contains (edges_of book.mode.edges) e × (e.hart ≡ hart) × (piece.from ≤ e.step) × (e.step < piece.to)
    there e h =
        let (x, is_in, is) = map_contains edge_as (filter_map edge_in piece.records) e h in
        let (in_its, passes) =
        passed (λ e. is_between piece.from piece.to e.at) (get_or rows hart []) x (subst (λ l. Contains l x) edges_are is_in) in
        let (le, lt) = between_is piece.from piece.to x.at passes in
        let own = (of_row book.mode.edges.start rows p.log hart x in_its).own in
        subst (λ e. Contains (edges_of book.mode.edges) e × (e.hart ≡ hart) × (piece.from ≤ e.step) × (e.step < piece.to)) is
        (to_edges rows hart x in_its, own, le, lt)

    back : (e : theory.Edge) → Contains (edges_of book.mode.edges) e × (e.hart ≡ hart) × (piece.from ≤ e.step) × (e.step < piece.to) →
        Contains (edges_told piece) e
    back e (h, own, le, lt) =
        let (x, in_its, is) = in_row book.mode.edges.start rows p.log e h in
        let at : x.at ≡ e.step = ap (λ (e : theory.Edge). e.step) is in
        let passes = between_true piece.from piece.to x.at (omega (arith, at, le)) (omega (arith, at, lt)) in
        let is_in : Contains (filter_map edge_in piece.records) x =
        subst (λ l. Contains l x) (sym edges_are)
        (passing (λ e. is_between piece.from piece.to e.at) (get_or rows hart []) x (subst (λ h. Contains (get_or rows h []) x) own in_its) passes) in
        subst (Contains (edges_told piece)) is (contains_map edge_as (filter_map edge_in piece.records) x is_in)

-- ---- terms and histories

pub books_are_terms : BooksAreTerms
books_are_terms image history number book past p many its older start place =
    record {
      is_term = record {
        older = older;
        base = λ hart. its.base hart ∙ ap (λ (c : ℕ → ℕ). c hart) counts_are;
        start = ap (λ (t : BookTerm). t.start) its.told ∙ ap (λ n. view (hardware n) book.start) many ∙ start
            ∙ ap (machine_of image history past.opening.parent) counts_are;
        place = subst (IsPlace history past.opening.parent) counts_are place;
        honest = true_log.honest;
        pieces =
            record {
              no_gap = its.pieces.no_gap;
              tell = λ hart place piece at.
                  subst (λ (t : BookTerm). TellsOf t.log hart piece) (sym its.told) (pieces_tell book hart piece p (its.pieces.tell hart place piece at));
            };
      };
      true_log = true_log;
    }
  where
    true_log : IsTrueLog image.pages past.told.log past.told.start past.told.turns
    true_log =
        subst (λ (t : BookTerm). IsTrueLog image.pages t.log t.start t.turns) (sym its.told)
        (subst (λ n. IsTrueLog n (term_of book).log (term_of book).start (term_of book).turns) many p.honest)

    counts_are : counts_of book.start ≡ past.told.log.start
    counts_are = ap (λ (t : BookTerm). t.log.start) (sym its.told)

pub primaries_are_histories : PrimariesAreHistories
primaries_are_histories image number book past p start its parent some =
    image_goes_on image no_terms number past
    (record {
      is_history = record { none = refl; terms = λ n q at. let no : None ≡ Some q = at in cc };
      true_logs = λ n q at. let no : None ≡ Some q = at in cc;
    }) refl
    (books_are_terms image no_terms number book past p (ap (λ (m : _). length m.pages) start ∙ boot_pages image) its (omega (arith, parent, some))
    (ap (view (hardware image.pages)) start) (inl parent))
