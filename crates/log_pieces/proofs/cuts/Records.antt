-- Records of a hart in order, of any number.
use Rattle.std.proofs.Common.{◌≡◌, ℕ, zero, suc, ◌+◌, ◌<◌, ◌≤◌, Bool, true, false, cond, ◌==◌, eqb, List, [], ◌∷◌, length, get_or, filter, filter_map}
use Rattle.std.proofs.Common.{count_by, arith, refl, ap, inl, inr, le_refl, eq-eqb, eqb-true, sym, subst, ◌∙◌, Option}
use Rattle.std.specs.List.{AllByRecursion}
use Rattle.std.specs.List.Sorted.{IsNonDecreasingBy}
use Rattle.std.proofs.ByRecursion.{all_kept_by, kept_by_passes}
use Rattle.std.proofs.lemmas.Bool.{cond_both, cases_Bool}
use Rattle.std.proofs.lemmas.List.Elements.{All-from_recursion}
use Rattle.std.proofs.lemmas.List.Sums.{sum_by-cons}
use Rattle.ft_types.specs.declared.names.TheConstants.{HART_LIMIT, INPUT_LIMIT}
use Rattle.edge_log.specs.declared.Edge.{Edge}
use Rattle.input_log.specs.declared.Input.{Input as HartInput}
use Rattle.fragment_codec.specs.declared.types.Record.{Record}
use Rattle.fragment_codec.specs.declared.types.Record.TheVariants.{Edge as EdgeRecord, Input as InputRecord, Note as NoteRecord}
use Rattle.fragment_codec.specs.Rules.{count_of, IsFactOf, MayPrecede, AreInOrder, is_input_at}
use Rattle.fragment_codec.specs.Facts.{edge_in, input_in, note_in, told_by, facts_between, is_between, number_of}
use Rattle.log_pieces.specs.machinery.Cutting.{AreLogged}
use Rattle.log_pieces.proofs.cuts.Filters.{count_by-filter-le, all_both}

-- ---- order

precede_le : (a b : Record) → MayPrecede a b → count_of a ≤ count_of b
precede_le (EdgeRecord e) (EdgeRecord f) h = elim h [ inl less ↦ omega arith | inr same ↦ omega (arith, same.0) ]
precede_le (EdgeRecord e) (InputRecord at input) h = h
precede_le (InputRecord at input) (EdgeRecord e) h = omega arith
precede_le (InputRecord at input) (InputRecord next other) h = h
precede_le (EdgeRecord e) (NoteRecord at number) h = h
precede_le (InputRecord at input) (NoteRecord next number) h = h
precede_le (NoteRecord at number) (EdgeRecord e) h = omega arith
precede_le (NoteRecord at number) (InputRecord next input) h = omega arith
precede_le (NoteRecord at number) (NoteRecord next more) h = omega (arith, h.0)

pub rising : (rs : List Record) → AreInOrder rs → IsNonDecreasingBy count_of rs
rising [] h i j d le below = absurd (omega arith)
rising (r ∷ rs) h zero zero d le below = le_refl (count_of r)
rising (r ∷ rs) h zero (suc j) d le below = precede_le r (get_or rs j d) (All-from_recursion (MayPrecede r) rs h.0 j d (omega arith))
rising (r ∷ rs) h (suc i) zero d le below = absurd (omega arith)
rising (r ∷ rs) h (suc i) (suc j) d le below = rising rs h.1 i j d (omega arith) (omega arith)

pub order_filter : (p : Record → Bool) (rs : List Record) → AreInOrder rs → AreInOrder (filter p rs)
order_filter p [] h = tt
order_filter p (r ∷ rs) h =
    cond_both (p r) (r ∷ filter p rs) (filter p rs) AreInOrder
    (λ e. (all_kept_by p (MayPrecede r) rs h.0, order_filter p rs h.1)) (λ e. order_filter p rs h.1)

pub logged_filter : (harts hart : ℕ) (p : Record → Bool) (rs : List Record) → AreLogged harts hart rs → AreLogged harts hart (filter p rs)
logged_filter harts hart p rs h =
    record {
      each = all_kept_by p (IsFactOf harts hart) rs h.each;
      order = order_filter p rs h.order;
      inputs = λ n. let q = h.inputs n in omega (arith, q, count_by-filter-le (is_input_at n) p rs);
    }

-- ---- what records tell

module _ {A : Type 0} (f : Record → Option A) (b : Bool) (r : Record) (rs : List Record) where
  keeps : (x : A) (xs : List A) → filter_map f (r ∷ rs) ≡ x ∷ filter_map f rs → filter_map f rs ≡ xs →
      filter_map f (cond b (r ∷ rs) rs) ≡ cond b (x ∷ xs) xs
  keeps x xs one is = elim (cases_Bool b) [ inl is_on ↦ rw is_on (one ∙ ap (λ l. x ∷ l) is) | inr is_off ↦ rw is_off is ]

  skips : (xs : List A) → filter_map f (r ∷ rs) ≡ filter_map f rs → filter_map f rs ≡ xs → filter_map f (cond b (r ∷ rs) rs) ≡ xs
  skips xs one is = elim (cases_Bool b) [ inl is_on ↦ rw is_on (one ∙ is) | inr is_off ↦ rw is_off is ]

module _ (p : ℕ → Bool) where
  abbrev kept : List Record → List Record
  kept rs = filter (λ r. p (count_of r)) rs

  pub edges_kept : (rs : List Record) → filter_map edge_in (filter (λ r. p (count_of r)) rs) ≡ filter (λ e. p e.at) (filter_map edge_in rs)
  edges_kept [] = refl
  edges_kept (EdgeRecord e ∷ rs) = keeps edge_in (p e.at) (EdgeRecord e) (kept rs) e (filter (λ f. p f.at) (filter_map edge_in rs)) refl (edges_kept rs)
  edges_kept (InputRecord at input ∷ rs) =
      skips edge_in (p at) (InputRecord at input) (kept rs) (filter (λ f. p f.at) (filter_map edge_in rs)) refl (edges_kept rs)
  edges_kept (NoteRecord at number ∷ rs) =
      skips edge_in (p at) (NoteRecord at number) (kept rs) (filter (λ f. p f.at) (filter_map edge_in rs)) refl (edges_kept rs)

  pub inputs_kept : (rs : List Record) → filter_map input_in (filter (λ r. p (count_of r)) rs) ≡ filter (λ x. p x.0) (filter_map input_in rs)
  inputs_kept [] = refl
  inputs_kept (EdgeRecord e ∷ rs) = skips input_in (p e.at) (EdgeRecord e) (kept rs) (filter (λ x. p x.0) (filter_map input_in rs)) refl (inputs_kept rs)
  inputs_kept (InputRecord at input ∷ rs) =
      keeps input_in (p at) (InputRecord at input) (kept rs) (at, input) (filter (λ x. p x.0) (filter_map input_in rs)) refl (inputs_kept rs)
  inputs_kept (NoteRecord at number ∷ rs) =
      skips input_in (p at) (NoteRecord at number) (kept rs) (filter (λ x. p x.0) (filter_map input_in rs)) refl (inputs_kept rs)

  pub notes_kept : (rs : List Record) → filter_map note_in (filter (λ r. p (count_of r)) rs) ≡ filter (λ x. p x.0) (filter_map note_in rs)
  notes_kept [] = refl
  notes_kept (EdgeRecord e ∷ rs) = skips note_in (p e.at) (EdgeRecord e) (kept rs) (filter (λ x. p x.0) (filter_map note_in rs)) refl (notes_kept rs)
  notes_kept (InputRecord at input ∷ rs) =
      skips note_in (p at) (InputRecord at input) (kept rs) (filter (λ x. p x.0) (filter_map note_in rs)) refl (notes_kept rs)
  notes_kept (NoteRecord at number ∷ rs) =
      keeps note_in (p at) (NoteRecord at number) (kept rs) (at, number) (filter (λ x. p x.0) (filter_map note_in rs)) refl (notes_kept rs)

-- the records between two counts tell the facts between them
pub told_between : (from to : ℕ) (rs : List Record) → told_by (filter (λ r. is_between from to (count_of r)) rs) ≡ facts_between from to (told_by rs)
told_between from to rs =
    let edges = edges_kept (is_between from to) rs in
    let inputs = inputs_kept (is_between from to) rs in
    let notes = notes_kept (is_between from to) rs in
    cc

pub number_told : (rs : List Record) → number_of (told_by rs) ≡ length rs
number_told [] = refl
number_told (EdgeRecord e ∷ rs) = let rest = number_told rs in omega arith
number_told (InputRecord at input ∷ rs) = let rest = number_told rs in omega arith
number_told (NoteRecord at number ∷ rs) = let rest = number_told rs in omega arith

-- ---- how many stand at one count

-- the record stands at the count, and an edge has another hart of this number or a greater one below HART_LIMIT
abbrev StandsAt : ℕ → ℕ → Record → Type 0
StandsAt n low (EdgeRecord e) = (e.at ≡ n) × (low ≤ e.other) × (e.other < HART_LIMIT)
StandsAt n low (InputRecord at input) = at ≡ n
StandsAt n low (NoteRecord at number) = at ≡ n

edge_later : (n low : ℕ) (e : Edge) → e.at ≡ n → (r : Record) → MayPrecede (EdgeRecord e) r → StandsAt n low r → StandsAt n (suc e.other) r
edge_later n low e at (EdgeRecord f) h s = elim h [ inl less ↦ absurd (omega (arith, s.0)) | inr same ↦ (s.0, omega (arith, same.1), s.2) ]
edge_later n low e at (InputRecord c input) h s = s
edge_later n low e at (NoteRecord c number) h s = s

few_edges : (n low : ℕ) (rs : List Record) → low ≤ HART_LIMIT → AreInOrder rs → AllByRecursion (StandsAt n low) rs → length (filter_map edge_in rs) + low ≤ HART_LIMIT
few_edges n low [] le h s = omega arith
few_edges n low (EdgeRecord e ∷ rs) le h s =
    let rest =
    few_edges n (suc e.other) rs (omega (arith, s.0.2)) h.1
    (all_both (MayPrecede (EdgeRecord e)) (StandsAt n low) (StandsAt n (suc e.other)) (edge_later n low e s.0.0) rs h.0 s.1) in
    omega (arith, rest, s.0.1)
few_edges n low (InputRecord at input ∷ rs) le h s = few_edges n low rs le h.1 s.1
few_edges n low (NoteRecord at number ∷ rs) le h s = few_edges n low rs le h.1 s.1

-- behind a note nothing stands at its count
pub nothing_behind : (at number : ℕ) (rs : List Record) → AllByRecursion (MayPrecede (NoteRecord at number)) rs → AllByRecursion (λ r. count_of r ≡ at) rs → rs ≡ []
nothing_behind at number [] h s = refl
nothing_behind at number (EdgeRecord e ∷ rs) h s = absurd (omega (arith, h.0, s.0))
nothing_behind at number (InputRecord c input ∷ rs) h s = absurd (omega (arith, h.0, s.0))
nothing_behind at number (NoteRecord c more ∷ rs) h s = absurd (omega (arith, h.0.0, s.0))

counts_are : (n low : ℕ) (rs : List Record) → AllByRecursion (StandsAt n low) rs → AllByRecursion (λ r. count_of r ≡ n) rs
counts_are n low [] s = tt
counts_are n low (EdgeRecord e ∷ rs) s = (s.0.0, counts_are n low rs s.1)
counts_are n low (InputRecord at input ∷ rs) s = (s.0, counts_are n low rs s.1)
counts_are n low (NoteRecord at number ∷ rs) s = (s.0, counts_are n low rs s.1)

few_notes : (n low : ℕ) (rs : List Record) → AreInOrder rs → AllByRecursion (StandsAt n low) rs → length (filter_map note_in rs) ≤ 1
few_notes n low [] h s = omega arith
few_notes n low (EdgeRecord e ∷ rs) h s = few_notes n low rs h.1 s.1
few_notes n low (InputRecord at input ∷ rs) h s = few_notes n low rs h.1 s.1
few_notes n low (NoteRecord at number ∷ rs) h s =
    let none : rs ≡ [] = nothing_behind at number rs h.0 (subst (λ m. AllByRecursion (λ r. count_of r ≡ m) rs) (sym s.0) (counts_are n low rs s.1)) in
    rw none (omega arith)

all_inputs : (n low : ℕ) (rs : List Record) → AllByRecursion (StandsAt n low) rs → length (filter_map input_in rs) ≡ count_by (is_input_at n) rs
all_inputs n low [] s = refl
all_inputs n low (EdgeRecord e ∷ rs) s =
    let rest = all_inputs n low rs s.1 in
    omega (arith, rest, sum_by-cons (λ r. cond (is_input_at n r) 1 0) (EdgeRecord e) rs)
all_inputs n low (InputRecord at input ∷ rs) s =
    let rest = all_inputs n low rs s.1 in
    let one : ℕ = 1 in
    let is : cond (eqb at n) one 0 ≡ one = rw (eq-eqb at n s.0) refl in
    omega (arith, rest, is, sum_by-cons (λ r. cond (is_input_at n r) 1 0) (InputRecord at input) rs)
all_inputs n low (NoteRecord at number ∷ rs) s =
    let rest = all_inputs n low rs s.1 in
    omega (arith, rest, sum_by-cons (λ r. cond (is_input_at n r) 1 0) (NoteRecord at number) rs)

stands_at : (harts hart n : ℕ) → harts ≤ HART_LIMIT → (r : Record) → IsFactOf harts hart r → (count_of r == n) ≡ true → StandsAt n 0 r
stands_at harts hart n le (EdgeRecord e) f at = (eqb-true e.at n at, omega arith, omega (arith, f.1))
stands_at harts hart n le (InputRecord c input) f at = eqb-true c n at
stands_at harts hart n le (NoteRecord c number) f at = eqb-true c n at

pub few_at : (harts hart n : ℕ) (rs : List Record) → harts ≤ HART_LIMIT → AreLogged harts hart rs →
    length (filter (λ r. count_of r == n) rs) ≤ HART_LIMIT + INPUT_LIMIT + 1
few_at harts hart n rs le h =
    let at : List Record = filter (λ r. count_of r == n) rs in
    let kept = logged_filter harts hart (λ r. count_of r == n) rs h in
    let stand =
    all_both (IsFactOf harts hart) (λ r. (count_of r == n) ≡ true) (StandsAt n 0) (stands_at harts hart n le) at kept.each
    (kept_by_passes (λ r. count_of r == n) rs) in
    omega (arith, few_edges n 0 at (omega arith) kept.order stand, all_inputs n 0 at stand, few_notes n 0 at kept.order stand, kept.inputs n, number_told at)
