-- The laws of cuts.
use Rattle.std.proofs.Common.{◌≡◌, ◌⊎◌, ℕ, ◌+◌, ◌<◌, ◌≤◌, ◌^◌, ◌&&◌, Bool, true, false, cond, nat_le, nat_lt, ◌==◌, List, [], ◌∷◌, ◌++◌, length, map, get_or}
use Rattle.std.proofs.Common.{filter, filter_map, flat_map, count_by, slice_index_or, arith, refl, sym, ap, subst, ◌∙◌, inl, inr, eq-eqb, ne_eqb, eqb-true}
use Rattle.std.proofs.Common.{le_refl, append-nil}
use Rattle.std.specs.List.{AllByRecursion}
use Rattle.std.proofs.ByRecursion.{kept_by_passes}
use Rattle.std.proofs.lemmas.Bool.{cases_lt, cases_eq, cases_order, le-leb, lt-leb, lt-ltb, le-ltb, and_from, and_left, and_right}
use Rattle.std.proofs.lemmas.List.{same_lists, get_or_default}
use Rattle.std.proofs.lemmas.List.Elements.{filter-append, filter_agree}
use Rattle.std.proofs.lemmas.List.Sums.{sum_by-cons}
use Rattle.edge_log.specs.declared.Edge.{Edge}
use Rattle.input_log.specs.declared.Input.{Input as HartInput}
use Rattle.fragment_codec.specs.declared.types.Record.{Record}
use Rattle.fragment_codec.specs.declared.types.Record.TheVariants.{Edge as EdgeRecord, Input as InputRecord, Note as NoteRecord}
use Rattle.fragment_codec.specs.declared.frame.Frame.{Frame}
use Rattle.fragment_codec.specs.declared.frame.Frame.TheVariants.{Log}
use Rattle.fragment_codec.specs.Rules.{count_of, FragmentParts, IsRecordOf, MayPrecede, AreInOrder}
use Rattle.fragment_codec.specs.Facts.{Facts, edge_in, input_in, note_in, told_by, facts_between, is_between, number_of}
use Rattle.log_pieces.specs.Pieces.{HartLog, Mark, SealedView, mark_of}
use Rattle.fragment_codec.specs.Facts.{records_at}
use Rattle.log_pieces.specs.Pieces.{IsPiece, ArePieces, mark_behind, IsHartCut, IsCut}
use Rattle.log_pieces.proofs.cuts.Filters.{filter-filter, filter-le-length}
use Rattle.log_pieces.proofs.cuts.Records.{number_told, order_filter, edges_kept, inputs_kept, notes_kept, nothing_behind}
use Rattle.log_pieces.proofs.cuts.Harts.{between_between}

-- ---- records in order are known by what they tell

-- where an edge is told, it stands after what stands before all
after_all : (P : Record → Type 0) (rs : List Record) (e : Edge) (es : List Edge) → AllByRecursion P rs → filter_map edge_in rs ≡ e ∷ es → P (EdgeRecord e)
after_all P [] e es all is = absurd cc
after_all P (EdgeRecord f ∷ rs) e es all is = let same : f ≡ e = cc in subst (λ g. P (EdgeRecord g)) same all.0
after_all P (InputRecord at input ∷ rs) e es all is = after_all P rs e es all.1 is
after_all P (NoteRecord at number ∷ rs) e es all is = after_all P rs e es all.1 is

after_all_input : (P : Record → Type 0) (rs : List Record) (at : ℕ) (input : HartInput) (xs : List (ℕ × HartInput)) → AllByRecursion P rs →
    filter_map input_in rs ≡ (at, input) ∷ xs → P (InputRecord at input)
after_all_input P [] at input xs all is = absurd cc
after_all_input P (EdgeRecord f ∷ rs) at input xs all is = after_all_input P rs at input xs all.1 is
after_all_input P (InputRecord n i ∷ rs) at input xs all is =
    let here : ◌≡◌ {A = ℕ × HartInput} (n, i) (at, input) = cc in
    let same_at : n ≡ at = ap (λ (x : ℕ × HartInput). x.0) here in
    let same : i ≡ input = ap (λ (x : ℕ × HartInput). x.1) here in
    subst (λ m. P (InputRecord m input)) same_at (subst (λ j. P (InputRecord n j)) same all.0)
after_all_input P (NoteRecord n m ∷ rs) at input xs all is = after_all_input P rs at input xs all.1 is

after_all_note : (P : Record → Type 0) (rs : List Record) (at number : ℕ) (xs : List (ℕ × ℕ)) → AllByRecursion P rs →
    filter_map note_in rs ≡ (at, number) ∷ xs → P (NoteRecord at number)
after_all_note P [] at number xs all is = absurd cc
after_all_note P (EdgeRecord f ∷ rs) at number xs all is = after_all_note P rs at number xs all.1 is
after_all_note P (InputRecord n i ∷ rs) at number xs all is = after_all_note P rs at number xs all.1 is
after_all_note P (NoteRecord n m ∷ rs) at number xs all is =
    let here : ◌≡◌ {A = ℕ × ℕ} (n, m) (at, number) = cc in
    subst (λ (x : ℕ × ℕ). P (NoteRecord x.0 x.1)) here all.0

-- an edge stands at the front of one list, and an input at that of the other
apart : (e : Edge) (rs : List Record) (at : ℕ) (input : HartInput) (ss : List Record) → AreInOrder (EdgeRecord e ∷ rs) →
    AreInOrder (InputRecord at input ∷ ss) →
    e ∷ filter_map edge_in rs ≡ filter_map edge_in ss → filter_map input_in rs ≡ (at, input) ∷ filter_map input_in ss → ⊥
apart e rs at input ss order other edges inputs =
    let low : e.at ≤ at = after_all_input (MayPrecede (EdgeRecord e)) rs at input (filter_map input_in ss) order.0 inputs in
    let high : at < e.at = after_all (MayPrecede (InputRecord at input)) ss e (filter_map edge_in rs) other.0 (sym edges) in
    omega arith

-- an edge, and a note
edge_apart : (e : Edge) (rs : List Record) (at number : ℕ) (ss : List Record) → AreInOrder (EdgeRecord e ∷ rs) → AreInOrder (NoteRecord at number ∷ ss) →
    e ∷ filter_map edge_in rs ≡ filter_map edge_in ss → filter_map note_in rs ≡ (at, number) ∷ filter_map note_in ss → ⊥
edge_apart e rs at number ss order other edges notes =
    let low : e.at ≤ at = after_all_note (MayPrecede (EdgeRecord e)) rs at number (filter_map note_in ss) order.0 notes in
    let high : at < e.at = after_all (MayPrecede (NoteRecord at number)) ss e (filter_map edge_in rs) other.0 (sym edges) in
    omega arith

-- an input, and a note
input_apart : (at : ℕ) (input : HartInput) (rs : List Record) (n number : ℕ) (ss : List Record) → AreInOrder (InputRecord at input ∷ rs) →
    AreInOrder (NoteRecord n number ∷ ss) →
    (at, input) ∷ filter_map input_in rs ≡ filter_map input_in ss → filter_map note_in rs ≡ (n, number) ∷ filter_map note_in ss → ⊥
input_apart at input rs n number ss order other inputs notes =
    let low : at ≤ n = after_all_note (MayPrecede (InputRecord at input)) rs n number (filter_map note_in ss) order.0 notes in
    let high : n < at = after_all_input (MayPrecede (NoteRecord n number)) ss at input (filter_map input_in rs) other.0 (sym inputs) in
    omega arith

pub one_telling : (rs ss : List Record) → AreInOrder rs → AreInOrder ss → filter_map edge_in rs ≡ filter_map edge_in ss →
    filter_map input_in rs ≡ filter_map input_in ss → filter_map note_in rs ≡ filter_map note_in ss → rs ≡ ss
one_telling [] [] order other edges inputs notes = refl
one_telling [] (EdgeRecord e ∷ ss) order other edges inputs notes = absurd cc
one_telling [] (InputRecord at input ∷ ss) order other edges inputs notes = absurd cc
one_telling [] (NoteRecord at number ∷ ss) order other edges inputs notes = absurd cc
one_telling (EdgeRecord e ∷ rs) [] order other edges inputs notes = absurd cc
one_telling (InputRecord at input ∷ rs) [] order other edges inputs notes = absurd cc
one_telling (NoteRecord at number ∷ rs) [] order other edges inputs notes = absurd cc
one_telling (EdgeRecord e ∷ rs) (EdgeRecord f ∷ ss) order other edges inputs notes =
    let same : e ≡ f = cc in
    let rest : filter_map edge_in rs ≡ filter_map edge_in ss = cc in
    let later : rs ≡ ss = one_telling rs ss order.1 other.1 rest inputs notes in
    cc
one_telling (EdgeRecord e ∷ rs) (InputRecord at input ∷ ss) order other edges inputs notes = absurd (apart e rs at input ss order other edges inputs)
one_telling (EdgeRecord e ∷ rs) (NoteRecord at number ∷ ss) order other edges inputs notes = absurd (edge_apart e rs at number ss order other edges notes)
one_telling (InputRecord at input ∷ rs) (EdgeRecord e ∷ ss) order other edges inputs notes =
    absurd (apart e ss at input rs other order (sym edges) (sym inputs))
one_telling (InputRecord at input ∷ rs) (InputRecord n i ∷ ss) order other edges inputs notes =
    let here : ◌≡◌ {A = ℕ × HartInput} (at, input) (n, i) = cc in
    let same_at : at ≡ n = ap (λ (x : ℕ × HartInput). x.0) here in
    let same : input ≡ i = ap (λ (x : ℕ × HartInput). x.1) here in
    let rest : filter_map input_in rs ≡ filter_map input_in ss = cc in
    let later : rs ≡ ss = one_telling rs ss order.1 other.1 edges rest notes in
    cc
one_telling (InputRecord at input ∷ rs) (NoteRecord n number ∷ ss) order other edges inputs notes =
    absurd (input_apart at input rs n number ss order other inputs notes)
one_telling (NoteRecord at number ∷ rs) (EdgeRecord e ∷ ss) order other edges inputs notes =
    absurd (edge_apart e ss at number rs other order (sym edges) (sym notes))
one_telling (NoteRecord at number ∷ rs) (InputRecord n i ∷ ss) order other edges inputs notes =
    absurd (input_apart n i ss at number rs other order (sym inputs) (sym notes))
one_telling (NoteRecord at number ∷ rs) (NoteRecord n m ∷ ss) order other edges inputs notes =
    let here : ◌≡◌ {A = ℕ × ℕ} (at, number) (n, m) = cc in
    let same_at : at ≡ n = ap (λ (x : ℕ × ℕ). x.0) here in
    let same : number ≡ m = ap (λ (x : ℕ × ℕ). x.1) here in
    let rest : filter_map note_in rs ≡ filter_map note_in ss = cc in
    let later : rs ≡ ss = one_telling rs ss order.1 other.1 edges inputs rest in
    cc

-- ---- one cut

number_less : (a b c : ℕ) (facts : Facts) → b ≤ c → number_of (facts_between a b facts) ≤ number_of (facts_between a c facts)
number_less a b c facts le =
    let whole = between_between a c a b (le_refl a) le facts in
    let edges = filter-le-length (λ (e : Edge). is_between a b e.at) (facts_between a c facts).edges in
    let inputs = filter-le-length (λ (x : ℕ × HartInput). is_between a b x.0) (facts_between a c facts).inputs in
    let notes = filter-le-length (λ (x : ℕ × ℕ). is_between a b x.0) (facts_between a c facts).notes in
    omega (arith, edges, inputs, notes, ap number_of whole)

no_longer : (log : HartLog) (mark : Mark) (p q : FragmentParts) → IsPiece log mark p → IsPiece log mark q → p.to < q.to → ⊥
no_longer log mark p q is_p is_q less =
    elim is_p.far [
      | inl all ↦ elim is_q.far [ inl also ↦ omega arith | inr more ↦ omega (arith, more.0) ]
      | inr (end, inr long) ↦
          let begins : p.from ≡ q.from = is_p.begins ∙ sym is_q.begins in
          let short = is_q.short in
          omega (arith, long, short, begins)
      | inr (end, inl over) ↦
          let begins : p.from ≡ q.from = is_p.begins ∙ sym is_q.begins in
          let many : 256 < number_of (facts_between q.from (p.to + 1) log.facts) = subst (λ n. 256 < number_of (facts_between n (p.to + 1) log.facts)) begins
          over in
          let more = number_less q.from (p.to + 1) q.to log.facts (omega arith) in
          let limit = is_q.rules.records.limit in
          omega (arith, many, more, limit, ap number_of is_q.exact, number_told q.records)
    ]

one_piece_here : (log : HartLog) (mark : Mark) (p q : FragmentParts) → IsPiece log mark p → IsPiece log mark q → p ≡ q
one_piece_here log mark p q is_p is_q =
    let to : p.to ≡ q.to = elim (cases_order p.to q.to) [
      | inl same ↦ same
      | inr apart ↦ elim apart [
        | inl less ↦ absurd
            (no_longer log mark p q is_p is_q less)
        | inr more ↦ absurd (no_longer log mark q p is_q is_p more)
      ]
    ] in
    let from : p.from ≡ q.from = is_p.begins ∙ sym is_q.begins in
    let guest : p.guest ≡ q.guest = is_p.same_guest ∙ sym is_q.same_guest in
    let key : p.key ≡ q.key = is_p.key ∙ sym is_q.key in
    let told : told_by p.records ≡ told_by q.records =
    is_p.exact ∙ (ap (λ n. facts_between n p.to log.facts) from ∙ (ap (λ n. facts_between q.from n log.facts) to ∙ sym is_q.exact)) in
    let records : p.records ≡ q.records = one_telling p.records q.records is_p.rules.records.order is_q.rules.records.order (ap (λ f. f.edges) told)
    (ap (λ f. f.inputs) told) (ap (λ f. f.notes) told) in
    ap (λ x. record p { guest = x }) guest ∙ (ap (λ x. record p { guest = q.guest; key = x }) key ∙
    (ap (λ x. record p { guest = q.guest; key = q.key; from = x }) from ∙
    (ap (λ x. record p { guest = q.guest; key = q.key; from = q.from; to = x }) to ∙ ap (λ x. record {
      guest = q.guest;
      key = q.key;
      from = q.from;
      to = q.to;
      records = x;
    }) records)))

-- where a piece begins, the hart is not sealed for good
not_ended : (log : HartLog) (mark : Mark) (p : FragmentParts) → IsPiece log mark p → (mark.count ≡ log.settled) ⊎ (mark.place ≡ 2 ^ 32) → ⊥
not_ended log mark p is end =
    let some = is.rules.some in
    let begins = is.begins in
    elim end [
      | inl settled ↦ elim is.far [ inl all ↦ omega arith | inr more ↦ omega (arith, more.0) ]
      | inr full ↦
          let place : p.key.place ≡ mark.place = ap (λ k. k.place) is.key in
          let below = is.rules.key.place in
          omega arith
    ]

pub one_hart_cut : (log : HartLog) (old m n : Mark) (ps qs : List FragmentParts) → IsHartCut log old ps m → IsHartCut log old qs n → (ps ≡ qs) × (m ≡ n)
one_hart_cut log old m n [] [] a b = (refl, a.row ∙ sym b.row)
one_hart_cut log old m n [] (q ∷ qs) a b = absurd (not_ended log old q b.row.0 (subst (λ k. (k.count ≡ log.settled) ⊎ (k.place ≡ 2 ^ 32)) a.row a.end))
one_hart_cut log old m n (p ∷ ps) [] a b = absurd (not_ended log old p a.row.0 (subst (λ k. (k.count ≡ log.settled) ⊎ (k.place ≡ 2 ^ 32)) b.row b.end))
one_hart_cut log old m n (p ∷ ps) (q ∷ qs) a b =
    let same : p ≡ q = one_piece_here log old p q a.row.0 b.row.0 in
    let rest = one_hart_cut log (mark_behind q) m n ps qs
    (record { row = subst (λ k. ArePieces log (mark_behind k) ps m) same a.row.1; end = a.end }) (record { row = b.row.1; end = b.end }) in
    (ap (λ k. k ∷ ps) same ∙ ap (λ l. q ∷ l) rest.0, rest.1)

pub one_whole_cut : (logs : ℕ → HartLog) (harts : ℕ) (old m n : SealedView) (fs gs : List Frame) → IsCut logs harts old fs m → IsCut logs harts old gs n →
    fs ≡ gs
one_whole_cut logs harts old m n fs gs a b =
    let pieces : a.pieces ≡ b.pieces = same_lists a.pieces b.pieces (a.every ∙ sym b.every) each in
    a.in_turn ∙ (ap (λ ps. map Log (flat_map (λ l. l) ps)) pieces ∙ sym b.in_turn)
  where
    each : (k : ℕ) (d : List FragmentParts) → k < length a.pieces → get_or a.pieces k d ≡ get_or b.pieces k d
    each k d below =
        let every = a.every in
        let also = b.every in
        get_or_default a.pieces k d [] below ∙
        ((one_hart_cut (logs k) (mark_of old k) (mark_of m k) (mark_of n k) (slice_index_or a.pieces k []) (slice_index_or b.pieces k []) (a.each k)
        (b.each k)).0 ∙
        get_or_default b.pieces k [] d (omega arith))

-- ---- the records of one count

no_edges : (n at : ℕ) (input : HartInput) (rs : List Record) → at ≡ n → AllByRecursion (MayPrecede (InputRecord at input)) rs →
    AllByRecursion (λ r. (count_of r == n) ≡ true) rs →
    filter_map edge_in rs ≡ []
no_edges n at input [] here order all = refl
no_edges n at input (EdgeRecord e ∷ rs) here order all = let same = eqb-true e.at n all.0 in absurd (omega (arith, order.0))
no_edges n at input (InputRecord k i ∷ rs) here order all = no_edges n at input rs here order.1 all.1
no_edges n at input (NoteRecord k m ∷ rs) here order all = no_edges n at input rs here order.1 all.1

all_stand : (n m : ℕ) (rs : List Record) → m ≡ n → AllByRecursion (λ r. (count_of r == n) ≡ true) rs → AllByRecursion (λ r. count_of r ≡ m) rs
all_stand n m [] is all = tt
all_stand n m (r ∷ rs) is all = (eqb-true (count_of r) n all.0 ∙ sym is, all_stand n m rs is all.1)

-- inputs and notes, in that order
abbrev behind_edges : List (ℕ × HartInput) → List (ℕ × ℕ) → List Record
behind_edges inputs notes = map (λ (x : ℕ × HartInput). InputRecord x.0 x.1) inputs ++ map (λ (x : ℕ × ℕ). NoteRecord x.0 x.1) notes

-- at one count edges stand before inputs, and both before notes
kinds_first : (n : ℕ) (rs : List Record) → AreInOrder rs → AllByRecursion (λ r. (count_of r == n) ≡ true) rs →
    rs ≡ map EdgeRecord (filter_map edge_in rs) ++ behind_edges (filter_map input_in rs) (filter_map note_in rs)
kinds_first n [] order all = refl
kinds_first n (EdgeRecord e ∷ rs) order all = ap (λ l. EdgeRecord e ∷ l) (kinds_first n rs order.1 all.1)
kinds_first n (InputRecord at input ∷ rs) order all =
    let none = no_edges n at input rs (eqb-true at n all.0) order.0 all.1 in
    let rest : rs ≡ map EdgeRecord [] ++ behind_edges (filter_map input_in rs) (filter_map note_in rs) =
    kinds_first n rs order.1 all.1 ∙ ap (λ es. map EdgeRecord es ++ behind_edges (filter_map input_in rs) (filter_map note_in rs)) none in
    rw none (ap (λ l. InputRecord at input ∷ l) rest)
kinds_first n (NoteRecord at number ∷ rs) order all =
    let none : rs ≡ [] = nothing_behind at number rs order.0 (all_stand n at rs (eqb-true at n all.0) all.1) in
    subst (λ l. NoteRecord at number ∷ l ≡ map EdgeRecord (filter_map edge_in l) ++ behind_edges (filter_map input_in l) ((at, number) ∷ filter_map note_in l))
    (sym none) refl

-- a test for a count between two others
inner : (from to n : ℕ) → from ≤ n → n < to → (k : ℕ) → (is_between from to k && (k == n)) ≡ (k == n)
inner from to n low high k = elim (cases_eq k n) [
  | inl same ↦ rw (eq-eqb k n same) (and_from (is_between from to k) true (and_from (nat_le from k) (nat_lt k to) (le-leb from k (omega arith))
      (lt-ltb k to (omega arith))) refl)
  | inr apart ↦ rw (ne_eqb k n apart) (and_right (is_between from to k) false refl)
]

pub count_whole : (log : HartLog) (mark : Mark) (piece : FragmentParts) → IsPiece log mark piece → (count : ℕ) → piece.from ≤ count → count < piece.to →
    filter (λ r. count_of r == count) piece.records ≡ records_at count log.facts
count_whole log mark piece is n low high =
    let at : List Record = filter (λ r. count_of r == n) piece.records in
    let split = kinds_first n at (order_filter (λ r. count_of r == n) piece.records is.rules.records.order)
    (kept_by_passes (λ r. count_of r == n) piece.records) in
    let edges : filter_map edge_in at ≡ filter (λ e. e.at == n) log.facts.edges =
    edges_kept (λ k. k == n) piece.records ∙
    (ap (filter (λ (e : Edge). e.at == n)) (ap (λ f. f.edges) is.exact) ∙
    (filter-filter (λ (e : Edge). e.at == n) (λ e. is_between piece.from piece.to e.at) log.facts.edges ∙
    filter_agree (λ (e : Edge). is_between piece.from piece.to e.at && (e.at == n)) (λ e. e.at == n) (λ e. inner piece.from piece.to n low high e.at)
    log.facts.edges)) in
    let inputs : filter_map input_in at ≡ filter (λ x. x.0 == n) log.facts.inputs =
    inputs_kept (λ k. k == n) piece.records ∙
    (ap (filter (λ (x : ℕ × HartInput). x.0 == n)) (ap (λ f. f.inputs) is.exact) ∙
    (filter-filter (λ (x : ℕ × HartInput). x.0 == n) (λ x. is_between piece.from piece.to x.0) log.facts.inputs ∙
    filter_agree (λ (x : ℕ × HartInput). is_between piece.from piece.to x.0 && (x.0 == n)) (λ x. x.0 == n) (λ x. inner piece.from piece.to n low high x.0)
    log.facts.inputs)) in
    let notes : filter_map note_in at ≡ filter (λ x. x.0 == n) log.facts.notes =
    notes_kept (λ k. k == n) piece.records ∙
    (ap (filter (λ (x : ℕ × ℕ). x.0 == n)) (ap (λ f. f.notes) is.exact) ∙
    (filter-filter (λ (x : ℕ × ℕ). x.0 == n) (λ x. is_between piece.from piece.to x.0) log.facts.notes ∙
    filter_agree (λ (x : ℕ × ℕ). is_between piece.from piece.to x.0 && (x.0 == n)) (λ x. x.0 == n) (λ x. inner piece.from piece.to n low high x.0)
    log.facts.notes)) in
    split ∙
    (ap (λ es. map EdgeRecord es ++ behind_edges (filter_map input_in at) (filter_map note_in at)) edges ∙
    (ap (λ xs. map EdgeRecord (filter (λ e. e.at == n) log.facts.edges) ++ behind_edges xs (filter_map note_in at)) inputs ∙
    ap (λ xs. map EdgeRecord (filter (λ e. e.at == n) log.facts.edges) ++ behind_edges (filter (λ x. x.0 == n) log.facts.inputs) xs) notes))

-- ---- each count in one piece

abbrev has : ℕ → FragmentParts → Bool
has n piece = is_between piece.from piece.to n

outside : (from to n : ℕ) → (n < from) ⊎ (to ≤ n) → is_between from to n ≡ false
outside from to n (inl less) = and_left (nat_le from n) (nat_lt n to) (lt-leb from n less)
outside from to n (inr past) = and_right (nat_le from n) (nat_lt n to) (le-ltb n to past)

within : (from to n : ℕ) → from ≤ n → n < to → is_between from to n ≡ true
within from to n low high = and_from (nat_le from n) (nat_lt n to) (le-leb from n low) (lt-ltb n to high)

count_no : (n : ℕ) (p : FragmentParts) (ps : List FragmentParts) → has n p ≡ false → count_by (has n) (p ∷ ps) ≡ count_by (has n) ps
count_no n p ps out = sum_by-cons (λ x. cond (has n x) 1 0) p ps ∙ rw out (omega arith)

count_yes : (n : ℕ) (p : FragmentParts) (ps : List FragmentParts) → has n p ≡ true → count_by (has n) (p ∷ ps) ≡ 1 + count_by (has n) ps
count_yes n p ps in_it = sum_by-cons (λ x. cond (has n x) 1 0) p ps ∙ rw in_it refl

none_has : (log : HartLog) (old new : Mark) (ps : List FragmentParts) (n : ℕ) → ArePieces log old ps new → n < old.count → count_by (has n) ps ≡ 0
none_has log old new [] n row before = refl
none_has log old new (p ∷ ps) n row before =
    let begins = row.0.begins in
    let some = row.0.rules.some in
    count_no n p ps (outside p.from p.to n (inl (omega arith))) ∙ none_has log (mark_behind p) new ps n row.1 (omega arith)

pub one_has : (log : HartLog) (old new : Mark) (ps : List FragmentParts) → ArePieces log old ps new → (n : ℕ) → old.count ≤ n → n < new.count →
    count_by (has n) ps ≡ 1
one_has log old new [] row n low high = let same = ap (λ m. m.count) row in absurd (omega arith)
one_has log old new (p ∷ ps) row n low high =
    let begins = row.0.begins in
    elim (cases_lt n p.to) [
      | inl before ↦
          let rest = none_has log (mark_behind p) new ps n row.1 before in
          count_yes n p ps (within p.from p.to n (omega arith) before) ∙ omega (arith, rest)
      | inr behind ↦ count_no n p ps (outside p.from p.to n (inr behind)) ∙ one_has log (mark_behind p) new ps row.1 n behind high
    ]

-- ---- the records of all pieces

none_at : (n from to : ℕ) (harts hart : ℕ) (rs : List Record) → (n < from) ⊎ (to ≤ n) → AllByRecursion (IsRecordOf harts hart from to) rs →
    filter (λ r. count_of r == n) rs ≡ []
none_at n from to harts hart [] apart all = refl
none_at n from to harts hart (r ∷ rs) apart all =
    let rest = none_at n from to harts hart rs apart all.1 in
    rw (ne_eqb (count_of r) n (λ e. elim apart [ inl less ↦ absurd (omega (arith, all.0.1)) | inr past ↦ absurd (omega (arith, all.0.2)) ])) rest

-- the records of a count, in a piece and those behind it
at_front : (n : ℕ) (p : FragmentParts) (ps : List FragmentParts) →
    filter (λ r. count_of r == n) (flat_map (λ q. q.records) (p ∷ ps)) ≡ filter (λ r. count_of r == n) p.records ++ filter (λ r. count_of r == n)
    (flat_map (λ q. q.records) ps)
at_front n p ps = filter-append (λ r. count_of r == n) p.records (flat_map (λ q. q.records) ps)

none_before : (log : HartLog) (old new : Mark) (ps : List FragmentParts) (n : ℕ) → ArePieces log old ps new → n < old.count →
    filter (λ r. count_of r == n) (flat_map (λ q. q.records) ps) ≡ []
none_before log old new [] n row before = refl
none_before log old new (p ∷ ps) n row before =
    let begins = row.0.begins in
    let some = row.0.rules.some in
    let here = none_at n p.from p.to p.guest.harts p.key.hart p.records (inl (omega arith)) row.0.rules.records.each in
    let later = none_before log (mark_behind p) new ps n row.1 (omega arith) in
    at_front n p ps ∙ rw (here, later) refl

pub count_once : (log : HartLog) (old new : Mark) (ps : List FragmentParts) → ArePieces log old ps new → (n : ℕ) → old.count ≤ n → n < new.count →
    filter (λ r. count_of r == n) (flat_map (λ q. q.records) ps) ≡ records_at n log.facts
count_once log old new [] row n low high = let same = ap (λ m. m.count) row in absurd (omega arith)
count_once log old new (p ∷ ps) row n low high =
    let begins = row.0.begins in
    elim (cases_lt n p.to) [
      | inl before ↦
          let later = none_before log (mark_behind p) new ps n row.1 before in
          at_front n p ps ∙ (rw later (append-nil (filter (λ r. count_of r == n) p.records)) ∙ count_whole log old p row.0 n (omega arith) before)
      | inr behind ↦
          let here = none_at n p.from p.to p.guest.harts p.key.hart p.records (inr behind) row.0.rules.records.each in
          at_front n p ps ∙ (rw here refl ∙ count_once log (mark_behind p) new ps row.1 n behind high)
    ]
