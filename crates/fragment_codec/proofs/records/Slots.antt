-- The test by slots is the rules of the records.
use Rattle.std.proofs.Common.{◌≡◌, ◌≢◌, ℕ, suc, ◌+◌, ◌-◌, ◌<◌, ◌≤◌, ◌^◌, max, min, Bool, true, false, cond, eqb, List, [], ◌∷◌, length, Option, Some, None, refl}
use Rattle.std.proofs.Common.{sym, ap, subst, ◌∙◌, arith, inl, inr}
use Rattle.std.specs.List.{AllByRecursion, count_by}
use Rattle.std.proofs.lemmas.Bool.{cases_lt, cases_eq, eq-eqb, ne_eqb, lt-ltb, le-leb}
use Rattle.std.proofs.lemmas.Bool.Decides.{nat_tests}
use Rattle.std.proofs.lemmas.List.Sums.{sum_by-cons}
use Rattle.ft_types.specs.declared.names.TheConstants.{HART_LIMIT, INPUT_LIMIT}
use Rattle.edge_log.specs.declared.Edge.{Edge}
use Rattle.input_log.specs.declared.Input.{Input as HartInput}
use Rattle.input_log.specs.Inputs.{IsInputOf}
use Rattle.input_log.specs.declared.Input.TheVariants.{Timer, Word, Bell}
use Rattle.fragment_codec.specs.declared.types.TheConstants.{RECORD_LIMIT}
use Rattle.fragment_codec.specs.declared.types.Record.{Record}
use Rattle.fragment_codec.specs.declared.types.Record.TheVariants.{Edge as EdgeRecord, Input as InputRecord, Note as NoteRecord}
use Rattle.fragment_codec.specs.Rules.{count_of, IsFactOf, IsRecordOf, MayPrecede, AreInOrder, is_input_at, AreRecords}
use Rattle.fragment_codec.proofs.bytes.Fields.{chosen_some}
use Rattle.fragment_codec.specs.machinery.Slots.{free_slot, is_source, note_slot, said_after, slot_after, if_some, are_right}

pub all_map : {X : Type 0} (P Q : X → Type 0) → ((x : X) → P x → Q x) → (xs : List X) → AllByRecursion P xs → AllByRecursion Q xs
all_map P Q f [] h = tt
all_map P Q f (x ∷ xs) h = (f x h.0, all_map P Q f xs h.1)

all_both : {X : Type 0} (P Q R : X → Type 0) → ((x : X) → P x → Q x → R x) → (xs : List X) → AllByRecursion P xs → AllByRecursion Q xs → AllByRecursion R xs
all_both P Q R f [] h k = tt
all_both P Q R f (x ∷ xs) h k = (f x h.0 k.0, all_both P Q R f xs h.1 k.1)

-- ---- one record

-- what a record that is taken keeps, and the slot that it leaves
abbrev Takes : ℕ → ℕ → ℕ → ℕ → ℕ → ℕ → Record → ℕ → Type 0
Takes harts hart to at slot said (EdgeRecord e) n = IsFactOf harts hart (EdgeRecord e) × (at ≤ e.at) × (e.at < to) × (free_slot at slot e.at ≤ e.other) ×
    (n ≡ suc e.other)
Takes harts hart to at slot said (InputRecord c i) n = IsFactOf harts hart (InputRecord c i) × (at ≤ c) × (c < to) × (max HART_LIMIT (free_slot at slot c) < note_slot) ×
    (n ≡ suc (max HART_LIMIT (free_slot at slot c)))
Takes harts hart to at slot said (NoteRecord c m) n = IsFactOf harts hart (NoteRecord c m) × (at ≤ c) × (c < to) × (free_slot at slot c ≤ note_slot) ×
    (n ≡ suc note_slot) × (said < m)

is_source-input : (harts : ℕ) (i : HartInput) → is_source harts i ≡ true → IsInputOf harts i
is_source-input harts Timer e = tt
is_source-input harts (Word w) e = grind (arith, nat_tests)
is_source-input harts (Bell s) e = grind (arith, nat_tests)

input-is_source : (harts : ℕ) (i : HartInput) → IsInputOf harts i → is_source harts i ≡ true
input-is_source harts Timer h = refl
input-is_source harts (Word w) h = grind (arith, nat_tests)
input-is_source harts (Bell s) h = grind (arith, nat_tests)

takes : (harts hart to at slot said : ℕ) (r : Record) (n : ℕ) → slot_after harts hart to at slot said r ≡ Some n → Takes harts hart to at slot said r n
unfolding slot_after
takes harts hart to at slot said (EdgeRecord e) n is =
    let g = chosen_some _ (Some (suc e.other)) n is in
    let test = g.0 in
    let same : suc e.other ≡ n = (let q = g.1 in cc) in (
      (grind (arith, nat_tests), grind (arith, nat_tests), grind (arith, nat_tests), grind (arith, nat_tests), grind (arith, nat_tests)),
      grind (arith, nat_tests),
      grind (arith, nat_tests),
      grind (arith, nat_tests),
      sym same,
    )
takes harts hart to at slot said (InputRecord c i) n is =
    let g = chosen_some _ (Some (suc (max HART_LIMIT (free_slot at slot c)))) n is in
    let test = g.0 in
    let same : suc (max HART_LIMIT (free_slot at slot c)) ≡ n = (let q = g.1 in cc) in
    (is_source-input harts i (grind (arith, nat_tests)), grind (arith, nat_tests), grind (arith, nat_tests), grind (arith, nat_tests), sym same)
takes harts hart to at slot said (NoteRecord c m) n is =
    let g = chosen_some _ (Some (suc note_slot)) n is in
    let test = g.0 in
    let same : suc note_slot ≡ n = (let q = g.1 in cc) in
    let more : said < m = grind (arith, nat_tests) in (
      (omega (arith, more), grind (arith, nat_tests)),
      grind (arith, nat_tests),
      grind (arith, nat_tests),
      grind (arith, nat_tests),
      sym same,
      more,
    )

takes_back : (harts hart to at slot said : ℕ) (r : Record) (n : ℕ) → Takes harts hart to at slot said r n → slot_after harts hart to at slot said r ≡ Some n
unfolding slot_after
takes_back harts hart to at slot said (EdgeRecord e) n h =
    rw (
      le-leb at e.at h.1,
      lt-ltb e.at to h.2,
      eq-eqb e.hart hart h.0.0,
      lt-ltb e.other harts h.0.1,
      ne_eqb e.other hart h.0.2,
      lt-ltb 0 e.after h.0.3,
      lt-ltb e.after (2 ^ 48) h.0.4,
      le-leb (free_slot at slot e.at) e.other h.3,
    ) (ap Some (sym h.4))
takes_back harts hart to at slot said (InputRecord c i) n h =
    rw (le-leb at c h.1, lt-ltb c to h.2, input-is_source harts i h.0, lt-ltb (max HART_LIMIT (free_slot at slot c)) note_slot h.3) (ap Some (sym h.4))
takes_back harts hart to at slot said (NoteRecord c m) n h =
    rw (le-leb at c h.1, lt-ltb c to h.2, lt-ltb said m h.5, le-leb m c h.0.1, le-leb (free_slot at slot c) note_slot h.3) (ap Some (sym h.4))

free_same : (at slot : ℕ) → free_slot at slot at ≡ slot
free_same at slot = rw (eq-eqb at at refl) refl

free_other : (at slot next : ℕ) → at ≢ next → free_slot at slot next ≡ 0
free_other at slot next h = rw (ne_eqb at next h) refl

-- ---- all records behind those that left at, slot and said

abbrev Behind : ℕ → ℕ → ℕ → Record → Type 0
Behind at slot said (EdgeRecord e) = (at ≤ e.at) × (e.at ≡ at → slot ≤ e.other)
Behind at slot said (InputRecord c i) = (at ≤ c) × (c ≡ at → slot ≤ note_slot)
Behind at slot said (NoteRecord c m) = (at ≤ c) × (c ≡ at → slot ≤ note_slot) × (said < m)

abbrev inputs_at : ℕ → List Record → ℕ
inputs_at count rs = count_by (is_input_at count) rs

-- the inputs that stand before them at the count k: all that there may be, where a note stands there
abbrev taken : ℕ → ℕ → ℕ → ℕ
taken at slot k = cond (eqb k at) (min INPUT_LIMIT (slot - HART_LIMIT)) 0

taken_same : (at slot : ℕ) → taken at slot at ≡ min INPUT_LIMIT (slot - HART_LIMIT)
taken_same at slot = rw (eq-eqb at at refl) refl

taken_other : (at slot k : ℕ) → k ≢ at → taken at slot k ≡ 0
taken_other at slot k h = rw (ne_eqb k at h) refl

taken-le : (at slot k : ℕ) → (taken at slot k ≤ slot - HART_LIMIT) × (taken at slot k ≤ INPUT_LIMIT)
taken-le at slot k = elim (cases_eq k at) [
  | inl e ↦ (let q = taken_same at slot in rw e (omega (arith, q), omega (arith, q)))
  | inr h ↦ (let q = taken_other at slot k h in (omega (arith, q), omega (arith, q)))
]

inputs_at-other : (k : ℕ) (r : Record) (rs : List Record) → is_input_at k r ≡ false → inputs_at k (r ∷ rs) ≡ inputs_at k rs
inputs_at-other k r rs e = sum_by-cons (λ x. cond (is_input_at k x) 1 0) r rs ∙ rw e (omega arith)

inputs_at-input : (k : ℕ) (r : Record) (rs : List Record) → is_input_at k r ≡ true → inputs_at k (r ∷ rs) ≡ 1 + inputs_at k rs
inputs_at-input k r rs e = sum_by-cons (λ x. cond (is_input_at k x) 1 0) r rs ∙ rw e refl

is_no_input : (at slot said k : ℕ) (r : Record) → k < at → Behind at slot said r → is_input_at k r ≡ false
is_no_input at slot said k (EdgeRecord e) lt h = refl
is_no_input at slot said k (InputRecord c i) lt h = ne_eqb c k (λ e. absurd (omega (arith, h.0)))
is_no_input at slot said k (NoteRecord c m) lt h = refl

none_before : (at slot said k : ℕ) (rs : List Record) → k < at → AllByRecursion (Behind at slot said) rs → inputs_at k rs ≡ 0
none_before at slot said k [] lt h = refl
none_before at slot said k (r ∷ rs) lt h = inputs_at-other k r rs (is_no_input at slot said k r lt h.0) ∙ none_before at slot said k rs lt h.1

-- behind a note of a count no input of it stands
is_no_more : (c said : ℕ) (r : Record) → Behind c (suc note_slot) said r → is_input_at c r ≡ false
is_no_more c said (EdgeRecord e) h = refl
is_no_more c said (InputRecord d i) h = ne_eqb d c (λ e. absurd (omega (arith, h.1 e)))
is_no_more c said (NoteRecord d m) h = refl

none_more : (c said : ℕ) (rs : List Record) → AllByRecursion (Behind c (suc note_slot) said) rs → inputs_at c rs ≡ 0
none_more c said [] h = refl
none_more c said (r ∷ rs) h = inputs_at-other c r rs (is_no_more c said r h.0) ∙ none_more c said rs h.1

record Fits (harts hart from to at slot said : ℕ) (rs : List Record) : Type 0 where
  each : AllByRecursion (IsRecordOf harts hart from to) rs
  order : AreInOrder rs
  behind : AllByRecursion (Behind at slot said) rs
  inputs : (k : ℕ) → inputs_at k rs + taken at slot k ≤ INPUT_LIMIT

if_some_true : (o : Option ℕ) (f : ℕ → Bool) → if_some o f ≡ true → (n : ℕ) × ((o ≡ Some n) × (f n ≡ true))
if_some_true None f e = absurd cc
if_some_true (Some n) f e = (n, (refl, e))

module _ (harts hart from to : ℕ) (le : harts ≤ HART_LIMIT) where
  module _ (at slot said : ℕ) where
    -- what stands behind an edge
    behind_edge : (e : Edge) (s : Record) (n : ℕ) → Takes harts hart to at slot said (EdgeRecord e) n → Behind e.at n said s →
        MayPrecede (EdgeRecord e) s × Behind at slot said s
    behind_edge e (InputRecord c i) n h b = (
      b.0,
      (
        omega (arith, h.1, b.0),
        λ same.
            let free : free_slot at slot e.at ≡ slot = ap (free_slot at slot) (omega (arith, h.1, b.0)) ∙ free_same at slot in
            omega (arith, h.3, free, h.0.1, le),
      ),
    )
    behind_edge e (NoteRecord c m) n h b = (
      b.0,
      (
        omega (arith, h.1, b.0),
        λ same.
            let free : free_slot at slot e.at ≡ slot = ap (free_slot at slot) (omega (arith, h.1, b.0)) ∙ free_same at slot in
            omega (arith, h.3, free, h.0.1, le),
        b.2,
      ),
    )
    behind_edge e (EdgeRecord d) n h b = (
      elim (cases_lt e.at d.at) [ inl lt ↦ inl lt | inr back ↦ (let eq : d.at ≡ e.at = omega (arith, b.0) in inr (sym eq, omega (arith, b.1 eq, h.4))) ],
      (
        omega (arith, h.1, b.0),
        λ same.
            let first : e.at ≡ at = omega (arith, h.1, b.0) in
            let free : free_slot at slot e.at ≡ slot = ap (free_slot at slot) first ∙ free_same at slot in
            omega (arith, h.3, free, b.1 (same ∙ sym first), h.4),
      ),
    )

    -- what stands behind an input
    behind_input : (c : ℕ) (i : HartInput) (s : Record) (n : ℕ) → Takes harts hart to at slot said (InputRecord c i) n →
        IsRecordOf harts hart from to s → Behind c n said s → MayPrecede (InputRecord c i) s × Behind at slot said s
    behind_input c i (InputRecord d j) n h f b = (
      b.0,
      (
        omega (arith, h.1, b.0),
        λ same.
            let free : free_slot at slot c ≡ slot = ap (free_slot at slot) (omega (arith, h.1, b.0)) ∙ free_same at slot in
            omega (arith, h.3, free),
      ),
    )
    behind_input c i (NoteRecord d m) n h f b = (
      b.0,
      (
        omega (arith, h.1, b.0),
        λ same.
            let free : free_slot at slot c ≡ slot = ap (free_slot at slot) (omega (arith, h.1, b.0)) ∙ free_same at slot in
            omega (arith, h.3, free),
        b.2,
      ),
    )
    behind_input c i (EdgeRecord e) n h f b =
        let other : e.other < HART_LIMIT = omega (arith, f.0.1, le) in
        let later : c < e.at = elim (cases_lt c e.at) [
          | inl lt ↦ lt
          | inr back ↦ (let eq : e.at ≡ c = omega (arith, b.0) in absurd (omega (arith, b.1 eq, h.4, other)))
        ] in
        (later, (omega (arith, h.1), λ same. absurd (omega (arith, h.1, same))))

    -- what stands behind a note
    behind_note : (c m : ℕ) (s : Record) (n : ℕ) → Takes harts hart to at slot said (NoteRecord c m) n → IsRecordOf harts hart from to s → Behind c n m s →
        MayPrecede (NoteRecord c m) s × Behind at slot said s
    behind_note c m (InputRecord d j) n h f b =
        let later : c < d = elim (cases_lt c d) [
          | inl lt ↦ lt
          | inr back ↦ (let eq : d ≡ c = omega (arith, b.0) in absurd (omega (arith, b.1 eq, h.4)))
        ] in
        (later, (omega (arith, h.1), λ same. absurd (omega (arith, h.1, same))))
    behind_note c m (NoteRecord d k) n h f b =
        let later : c < d = elim (cases_lt c d) [
          | inl lt ↦ lt
          | inr back ↦ (let eq : d ≡ c = omega (arith, b.0) in absurd (omega (arith, b.1 eq, h.4)))
        ] in
        ((later, b.2), (omega (arith, h.1), λ same. absurd (omega (arith, h.1, same)), omega (arith, h.5, b.2)))
    behind_note c m (EdgeRecord e) n h f b =
        let other : e.other < HART_LIMIT = omega (arith, f.0.1, le) in
        let later : c < e.at = elim (cases_lt c e.at) [
          | inl lt ↦ lt
          | inr back ↦ (let eq : e.at ≡ c = omega (arith, b.0) in absurd (omega (arith, b.1 eq, h.4, other)))
        ] in
        (later, (omega (arith, h.1), λ same. absurd (omega (arith, h.1, same))))

    edge_in : (e : Edge) (rs : List Record) (n : ℕ) → from ≤ at → Takes harts hart to at slot said (EdgeRecord e) n →
        Fits harts hart from to e.at n said rs → Fits harts hart from to at slot said (EdgeRecord e ∷ rs)
    edge_in e rs n low h q =
        let both = all_map (Behind e.at n said) (λ s. MayPrecede (EdgeRecord e) s × Behind at slot said s) (λ s b. behind_edge e s n h b) rs q.behind in
        record {
          each = ((h.0, omega (arith, h.1), h.2), q.each);
          order = (all_map _ (MayPrecede (EdgeRecord e)) (λ s b. b.0) rs both, q.order);
          behind =
              ((h.1, λ same. omega (arith, h.3, ap (free_slot at slot) same ∙ free_same at slot)), all_map _ (Behind at slot said) (λ s b. b.1) rs both);
          inputs = λ k.
              let less = q.inputs k in
              let front = inputs_at-other k (EdgeRecord e) rs refl in
              elim (cases_eq k at) [
                | inl same ↦
                    elim (cases_lt at e.at) [
                      | inl lt ↦
                          let none = none_before e.at n said k rs (omega (arith, same)) q.behind in
                          omega (arith, front, none, (taken-le at slot k).1)
                      | inr back ↦
                          let free : free_slot at slot e.at ≡ slot = ap (free_slot at slot) (omega (arith, h.1)) ∙ free_same at slot in
                          omega (arith, front, less, (taken-le at slot k).0, free, h.3, h.0.1, le)
                    ]
                | inr apart ↦ omega (arith, front, less, taken_other at slot k apart)
              ];
        }

    input_in : (c : ℕ) (i : HartInput) (rs : List Record) (n : ℕ) → from ≤ at → Takes harts hart to at slot said (InputRecord c i) n →
        Fits harts hart from to c n said rs → Fits harts hart from to at slot said (InputRecord c i ∷ rs)
    input_in c i rs n low h q =
        let both = all_both (IsRecordOf harts hart from to) (Behind c n said) (λ s. MayPrecede (InputRecord c i) s × Behind at slot said s)
        (λ s f b. behind_input c i s n h f b) rs q.each q.behind in
        record {
          each = ((h.0, omega (arith, h.1), h.2), q.each);
          order = (all_map _ (MayPrecede (InputRecord c i)) (λ s b. b.0) rs both, q.order);
          behind = (
            (h.1, λ same. omega (arith, h.3, ap (free_slot at slot) same ∙ free_same at slot)),
            all_map _ (Behind at slot said) (λ s b. b.1) rs both,
          );
          inputs = λ k.
              let less = q.inputs k in
              elim (cases_eq k c) [
                | inl here ↦
                    let front : inputs_at k (InputRecord c i ∷ rs) ≡ 1 + inputs_at k rs =
                    inputs_at-input k (InputRecord c i) rs (eq-eqb c k (sym here)) in
                    let used : taken c n k ≡ min INPUT_LIMIT (n - HART_LIMIT) = ap (taken c n) here ∙ taken_same c n in
                    elim (cases_eq at c) [
                      | inl same ↦
                          let free : free_slot at slot c ≡ slot = ap (free_slot at slot) (sym same) ∙ free_same at slot in
                          omega (arith, front, less, used, h.3, h.4, free, (taken-le at slot k).0)
                      | inr apart ↦
                          let none : taken at slot k ≡ 0 = taken_other at slot k (λ e. apart (sym e ∙ here)) in
                          omega (arith, front, less, used, h.3, h.4, none)
                    ]
                | inr there ↦
                    let front : inputs_at k (InputRecord c i ∷ rs) ≡ inputs_at k rs =
                    inputs_at-other k (InputRecord c i) rs (ne_eqb c k (λ e. there (sym e))) in
                    elim (cases_eq k at) [
                      | inl same ↦
                          let none = none_before c n said k rs (omega (arith, same, h.1, there)) q.behind in
                          omega (arith, front, none, (taken-le at slot k).1)
                      | inr apart ↦ omega (arith, front, less, taken_other at slot k apart)
                    ]
              ];
        }

    note_in : (c m : ℕ) (rs : List Record) (n : ℕ) → from ≤ at → Takes harts hart to at slot said (NoteRecord c m) n →
        Fits harts hart from to c n m rs → Fits harts hart from to at slot said (NoteRecord c m ∷ rs)
    note_in c m rs n low h q =
        let both = all_both (IsRecordOf harts hart from to) (Behind c n m) (λ s. MayPrecede (NoteRecord c m) s × Behind at slot said s)
        (λ s f b. behind_note c m s n h f b) rs q.each q.behind in
        record {
          each = ((h.0, omega (arith, h.1), h.2), q.each);
          order = (all_map _ (MayPrecede (NoteRecord c m)) (λ s b. b.0) rs both, q.order);
          behind = (
            (h.1, λ same. omega (arith, h.3, ap (free_slot at slot) same ∙ free_same at slot), h.5),
            all_map _ (Behind at slot said) (λ s b. b.1) rs both,
          );
          inputs = λ k.
              let less = q.inputs k in
              let front = inputs_at-other k (NoteRecord c m) rs refl in
              elim (cases_eq k at) [
                | inl same ↦
                    elim (cases_lt at c) [
                      | inl lt ↦
                          let none = none_before c n m k rs (omega (arith, same)) q.behind in
                          omega (arith, front, none, (taken-le at slot k).1)
                      | inr back ↦
                          let here : k ≡ c = omega (arith, h.1, same) in
                          let none = none_more c m rs (subst (λ j. AllByRecursion (Behind c j m) rs) h.4 q.behind) in
                          omega (arith, front, ap (λ j. inputs_at j rs) here, none, (taken-le at slot k).1)
                    ]
                | inr apart ↦ omega (arith, front, less, taken_other at slot k apart)
              ];
        }

    -- ---- the other way

    edge_ahead : (e : Edge) → e.other < harts → (s : Record) → MayPrecede (EdgeRecord e) s → Behind at slot said s → Behind e.at (suc e.other) said s
    edge_ahead e small (EdgeRecord d) p b =
        elim p [ inl lt ↦ (omega arith, λ same. absurd (omega arith)) | inr eq ↦ (omega (arith, eq.0), λ same. omega (arith, eq.1)) ]
    edge_ahead e small (InputRecord c i) p b = (p, λ same. omega (arith, le))
    edge_ahead e small (NoteRecord c m) p b = (p, λ same. omega (arith, le), b.2)

    input_ahead : (c : ℕ) (i : HartInput) (n : ℕ) → n ≤ note_slot → (s : Record) → MayPrecede (InputRecord c i) s → Behind at slot said s → Behind c n said s
    input_ahead c i n small (EdgeRecord d) p b = (omega (arith, p), λ same. absurd (omega (arith, p)))
    input_ahead c i n small (InputRecord d j) p b = (p, λ same. small)
    input_ahead c i n small (NoteRecord d m) p b = (p, λ same. small, b.2)

    note_ahead : (c m n : ℕ) (s : Record) → MayPrecede (NoteRecord c m) s → Behind c n m s
    note_ahead c m n (EdgeRecord d) p = (omega (arith, p), λ same. absurd (omega (arith, p)))
    note_ahead c m n (InputRecord d j) p = (omega (arith, p), λ same. absurd (omega (arith, p)))
    note_ahead c m n (NoteRecord d k) p = (omega (arith, p.0), λ same. absurd (omega (arith, p.0)), p.1)

    -- the record is taken, and the others fit behind it
    abbrev GoesOn : Record → List Record → Type 0
    GoesOn r rs = (n : ℕ) × (Takes harts hart to at slot said r n × Fits harts hart from to (count_of r) n (said_after said r) rs)

    edge_out : (e : Edge) (rs : List Record) → Fits harts hart from to at slot said (EdgeRecord e ∷ rs) → GoesOn (EdgeRecord e) rs
    edge_out e rs q =
        let f = q.each.0 in
        let b = q.behind.0 in
        let free : free_slot at slot e.at ≤ e.other = elim (cases_eq at e.at) [
          | inl same ↦ (let k = ap (free_slot at slot) (sym same) ∙ free_same at slot in
              omega (arith, k, b.1 (sym same)))
          | inr apart ↦ (let k = free_other at slot e.at apart in omega (arith, k))
        ] in (
          suc e.other,
          (
            (f.0, b.0, f.2, free, refl),
            record {
              each = q.each.1;
              order = q.order.1;
              behind =
                  all_both (MayPrecede (EdgeRecord e)) (Behind at slot said) (Behind e.at (suc e.other) said) (edge_ahead e f.0.1) rs q.order.0 q.behind.1;
              inputs = λ k. let more = q.inputs k in let front = inputs_at-other k (EdgeRecord e) rs refl in
                  omega (arith, more, front, (taken-le e.at (suc e.other) k).0, f.0.1, le);
            },
          ),
        )

    input_out : (c : ℕ) (i : HartInput) (rs : List Record) → Fits harts hart from to at slot said (InputRecord c i ∷ rs) → GoesOn (InputRecord c i) rs
    input_out c i rs q =
        let f = q.each.0 in
        let low : at ≤ c = q.behind.0.0 in
        let here = q.inputs c in
        let n : ℕ = suc (max HART_LIMIT (free_slot at slot c)) in
        let front : inputs_at c (InputRecord c i ∷ rs) ≡ 1 + inputs_at c rs = inputs_at-input c (InputRecord c i) rs (eq-eqb c c refl) in
        let used : max HART_LIMIT (free_slot at slot c) + inputs_at c rs < note_slot =
        elim (cases_eq c at) [
          | inl same ↦ (let k = ap (free_slot at slot) same ∙ free_same at slot in let t = ap (taken at slot) same ∙ taken_same at slot in
              omega (arith, here, front, k, t))
          | inr apart ↦ (let k = free_other at slot c (λ e. apart (sym e)) in omega (arith, here, front, k))
        ] in (
          n,
          (
            (f.0, low, f.2, omega (arith, used), refl),
            record {
              each = q.each.1;
              order = q.order.1;
              behind =
                  all_both (MayPrecede (InputRecord c i)) (Behind at slot said) (Behind c n said) (input_ahead c i n (omega (arith, used))) rs q.order.0
                  q.behind.1;
              inputs = λ k.
                  let more = q.inputs k in
                  elim (cases_eq k c) [
                    | inl same ↦
                        let all : inputs_at c rs + taken c n c ≤ INPUT_LIMIT = omega (arith, taken_same c n, used) in
                        subst (λ (j : ℕ). inputs_at j rs + taken c n j ≤ INPUT_LIMIT) (sym same) all
                    | inr apart ↦
                        let t = taken_other c n k apart in
                        let rest : inputs_at k (InputRecord c i ∷ rs) ≡ inputs_at k rs =
                        inputs_at-other k (InputRecord c i) rs (ne_eqb c k (λ e. apart (sym e))) in
                        omega (arith, more, t, rest)
                  ];
            },
          ),
        )

    note_out : (c m : ℕ) (rs : List Record) → Fits harts hart from to at slot said (NoteRecord c m ∷ rs) → GoesOn (NoteRecord c m) rs
    note_out c m rs q =
        let f = q.each.0 in
        let b = q.behind.0 in
        let behind = all_map (MayPrecede (NoteRecord c m)) (Behind c (suc note_slot) m) (note_ahead c m (suc note_slot)) rs q.order.0 in
        let free : free_slot at slot c ≤ note_slot = elim (cases_eq c at) [
          | inl same ↦ (let k = ap (free_slot at slot) same ∙ free_same at slot in omega (arith, k, b.1 same))
          | inr apart ↦ (let k = free_other at slot c (λ e. apart (sym e)) in omega (arith, k))
        ] in (
          suc note_slot,
          (
            (f.0, b.0, f.2, free, refl, b.2),
            record {
              each = q.each.1;
              order = q.order.1;
              behind = behind;
              inputs = λ k.
                  let more = q.inputs k in
                  elim (cases_eq k c) [
                    | inl same ↦
                        let none = none_more c m rs behind in
                        omega (arith, ap (λ j. inputs_at j rs) same, none, (taken-le c (suc note_slot) k).1)
                    | inr apart ↦
                        omega (arith, more, taken_other c (suc note_slot) k apart, inputs_at-other k (NoteRecord c m) rs refl)
                  ];
            },
          ),
        )

    -- ---- all records

    takes-le : (r : Record) (n : ℕ) → Takes harts hart to at slot said r n → n ≤ suc note_slot
    takes-le (EdgeRecord e) n h = omega (arith, h.0.1, h.4, le)
    takes-le (InputRecord c i) n h = omega (arith, h.3, h.4)
    takes-le (NoteRecord c m) n h = omega (arith, h.4)

    takes-at : (r : Record) (n : ℕ) → Takes harts hart to at slot said r n → at ≤ count_of r
    takes-at (EdgeRecord e) n h = h.1
    takes-at (InputRecord c i) n h = h.1
    takes-at (NoteRecord c m) n h = h.1

    one_in : (r : Record) (rs : List Record) (n : ℕ) → from ≤ at → Takes harts hart to at slot said r n →
        Fits harts hart from to (count_of r) n (said_after said r) rs → Fits harts hart from to at slot said (r ∷ rs)
    one_in (EdgeRecord e) rs n low h q = edge_in e rs n low h q
    one_in (InputRecord c i) rs n low h q = input_in c i rs n low h q
    one_in (NoteRecord c m) rs n low h q = note_in c m rs n low h q

    one_out : (r : Record) (rs : List Record) → Fits harts hart from to at slot said (r ∷ rs) → GoesOn r rs
    one_out (EdgeRecord e) rs q = edge_out e rs q
    one_out (InputRecord c i) rs q = input_out c i rs q
    one_out (NoteRecord c m) rs q = note_out c m rs q

  right_fits : (at slot said : ℕ) (rs : List Record) → from ≤ at → are_right harts hart to at slot said rs ≡ true → Fits harts hart from to at slot said rs
  unfolding are_right
  right_fits at slot said [] low e = record { each = tt; order = tt; behind = tt; inputs = λ k. omega (arith, (taken-le at slot k).1) }
  right_fits at slot said (r ∷ rs) low e =
      let g = if_some_true (slot_after harts hart to at slot said r) _ e in
      let t = takes harts hart to at slot said r g.0 g.1.0 in
      one_in at slot said r rs g.0 low t
      (right_fits (count_of r) g.0 (said_after said r) rs (omega (arith, takes-at at slot said r g.0 t)) g.1.1)

  fits_right : (at slot said : ℕ) (rs : List Record) → Fits harts hart from to at slot said rs → are_right harts hart to at slot said rs ≡ true
  unfolding are_right
  fits_right at slot said [] q = refl
  fits_right at slot said (r ∷ rs) q =
      let g = one_out at slot said r rs q in
      rw (takes_back harts hart to at slot said r g.0 g.1.0) (fits_right (count_of r) g.0 (said_after said r) rs g.1.1)

  first_behind : (r : Record) → IsRecordOf harts hart from to r → Behind from 0 0 r
  first_behind (EdgeRecord e) h = (h.1, λ same. omega arith)
  first_behind (InputRecord c i) h = (h.1, λ same. omega arith)
  first_behind (NoteRecord c m) h = (h.1, λ same. omega arith, h.0.0)

  -- the test answers yes exactly where the records keep the rules
  pub right_records : (rs : List Record) → length rs ≤ RECORD_LIMIT → are_right harts hart to from 0 0 rs ≡ true → AreRecords harts hart from to rs
  right_records rs limit e =
      let q = right_fits from 0 0 rs (omega arith) e in
      record { limit = limit; each = q.each; order = q.order; inputs = λ k. let h = q.inputs k in omega (arith, h) }

  pub records_right : (rs : List Record) → AreRecords harts hart from to rs → are_right harts hart to from 0 0 rs ≡ true
  records_right rs h =
      fits_right from 0 0 rs (record {
        each = h.each;
        order = h.order;
        behind = all_map (IsRecordOf harts hart from to) (Behind from 0 0) first_behind rs h.each;
        inputs = λ k. let q = h.inputs k in omega (arith, q, (taken-le from 0 k).0);
      })

  pub slot_after-le : (at slot said : ℕ) (r : Record) (n : ℕ) → slot_after harts hart to at slot said r ≡ Some n → n ≤ suc note_slot
  slot_after-le at slot said r n e = takes-le at slot said r n (takes harts hart to at slot said r n e)
