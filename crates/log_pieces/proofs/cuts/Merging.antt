-- Edges and inputs on their way into one list.
use Rattle.std.proofs.Common.{◌≡◌, ℕ, suc, ◌<◌, ◌≤◌, List, [], ◌∷◌, ◌++◌, length, get_or, take, drop, filter_map, zip, All, AllPairs, arith, refl, sym, ap}
use Rattle.std.proofs.Common.{subst, ◌∙◌, inl, inr, append_assoc, append-nil}
use Rattle.std.specs.List.{AllByRecursion}
use Rattle.std.specs.List.Sorted.{IsNonDecreasing}
use Rattle.std.proofs.lemmas.Bool.{cases_lt}
use Rattle.std.proofs.lemmas.List.Elements.{filter_map-append, recursion_from_All}
use Rattle.edge_log.specs.declared.Edge.{Edge}
use Rattle.edge_log.specs.Rows.{ComesBefore}
use Rattle.input_log.specs.declared.Input.{Input as HartInput}
use Rattle.fragment_codec.specs.declared.types.Record.{Record}
use Rattle.fragment_codec.specs.declared.types.Record.TheVariants.{Edge as EdgeRecord, Input as InputRecord}
use Rattle.fragment_codec.specs.Rules.{MayPrecede, AreInOrder}
use Rattle.fragment_codec.specs.Facts.{edge_in, input_in, note_in, told_by}
use Rattle.log_pieces.specs.machinery.Cutting.{IsFirst}
use Rattle.log_pieces.proofs.cuts.Filters.{all_both}

-- the record may stand before each edge and input that waits
abbrev pub Waits : List Edge → List (ℕ × HartInput) → Record → Type 0
Waits edges inputs fact = AllByRecursion (λ e. MayPrecede fact (EdgeRecord e)) edges × AllByRecursion (λ x. MayPrecede fact (InputRecord x.0 x.1)) inputs

-- the records tell the edges and inputs, but for those that wait
pub record Merges (edges waiting : List Edge) (inputs later : List (ℕ × HartInput)) (facts : List Record) : Type 0 where
  pub of_edges : edges ≡ filter_map edge_in facts ++ waiting
  pub of_inputs : inputs ≡ filter_map input_in facts ++ later
  pub plain : filter_map note_in facts ≡ []
  pub order : AreInOrder facts
  pub waits : AllByRecursion (Waits waiting later) facts

pub merges_nothing : (edges : List Edge) (inputs : List (ℕ × HartInput)) → Merges edges edges inputs inputs []
merges_nothing edges inputs = record { of_edges = refl; of_inputs = refl; plain = refl; order = tt; waits = tt }

all_push : {A : Type 0} (P : A → Type 0) (xs : List A) (y : A) → AllByRecursion P xs → P y → AllByRecursion P (xs ++ y ∷ [])
all_push P [] y all one = (one, tt)
all_push P (x ∷ xs) y all one = (all.0, all_push P xs y all.1 one)

all_weaker : {A : Type 0} (P Q : A → Type 0) → ((x : A) → P x → Q x) → (xs : List A) → AllByRecursion P xs → AllByRecursion Q xs
all_weaker P Q f xs all = all_both P P Q (λ x p q. f x p) xs all all

order_push : (facts : List Record) (last : Record) → AreInOrder facts → AllByRecursion (λ r. MayPrecede r last) facts → AreInOrder (facts ++ last ∷ [])
order_push [] last h all = (tt, tt)
order_push (r ∷ rs) last h all = (all_push (MayPrecede r) rs last h.0 all.0, order_push rs last h.1 all.1)

before_edge : (e f : Edge) → ComesBefore e f → MayPrecede (EdgeRecord e) (EdgeRecord f)
before_edge e f before =
    elim (cases_lt e.at f.at) [
      | inl less ↦ inl less
      | inr more ↦
          let le : e.at ≤ f.at = before.no_later in
          let same : e.at ≡ f.at = omega arith in
          inr (same, before.lower same)
    ]

pub merge_edge : (edges : List Edge) (e : Edge) (es : List Edge) (inputs later : List (ℕ × HartInput)) (facts : List Record) →
    AllByRecursion (ComesBefore e) es → AllByRecursion (λ x. e.at ≤ x.0) later → Merges edges (e ∷ es) inputs later facts →
    Merges edges es inputs later (facts ++ EdgeRecord e ∷ [])
merge_edge edges e es inputs later facts behind first h =
    record {
      of_edges = h.of_edges ∙ (sym (append_assoc (filter_map edge_in facts) (e ∷ []) es) ∙
          ap (λ l. l ++ es) (sym (filter_map-append edge_in facts (EdgeRecord e ∷ []))));
      of_inputs = h.of_inputs ∙ ap (λ l. l ++ later) (sym (filter_map-append input_in facts (EdgeRecord e ∷ []) ∙ append-nil (filter_map input_in facts)));
      plain = filter_map-append note_in facts (EdgeRecord e ∷ []) ∙ append-nil (filter_map note_in facts) ∙ h.plain;
      order = order_push facts (EdgeRecord e) h.order (all_weaker (Waits (e ∷ es) later) (λ r. MayPrecede r (EdgeRecord e)) (λ r w. w.0.0) facts h.waits);
      waits =
          all_push (Waits es later) facts (EdgeRecord e)
          (all_weaker (Waits (e ∷ es) later) (Waits es later) (λ r w. (w.0.1, w.1)) facts h.waits)
          (all_weaker (ComesBefore e) (λ f. MayPrecede (EdgeRecord e) (EdgeRecord f)) (before_edge e) es behind, first);
    }

pub merge_input : (edges waiting : List Edge) (inputs : List (ℕ × HartInput)) (at : ℕ) (input : HartInput) (later : List (ℕ × HartInput))
    (facts : List Record) →
    AllByRecursion (λ x. at ≤ x.0) later → AllByRecursion (λ e. at < e.at) waiting → Merges edges waiting inputs ((at, input) ∷ later) facts →
    Merges edges waiting inputs later (facts ++ InputRecord at input ∷ [])
merge_input edges waiting inputs at input later facts behind first h =
    record {
      of_edges = h.of_edges ∙ ap (λ l. l ++ waiting) (sym (filter_map-append edge_in facts (InputRecord at input ∷ []) ∙
          append-nil (filter_map edge_in facts)));
      of_inputs =
          h.of_inputs ∙
          (sym (append_assoc (filter_map input_in facts) ((at, input) ∷ []) later) ∙ ap (λ l. l ++ later)
          (sym (filter_map-append input_in facts (InputRecord at input ∷ []))));
      plain = filter_map-append note_in facts (InputRecord at input ∷ []) ∙ append-nil (filter_map note_in facts) ∙ h.plain;
      order =
          order_push facts (InputRecord at input) h.order
          (all_weaker (Waits waiting ((at, input) ∷ later)) (λ r. MayPrecede r (InputRecord at input)) (λ r w. w.1.0) facts h.waits);
      waits =
          all_push (Waits waiting later) facts (InputRecord at input)
          (all_weaker (Waits waiting ((at, input) ∷ later)) (Waits waiting later) (λ r w. (w.0, w.1.1)) facts h.waits) (first, behind);
    }

-- ---- a turn of the loop

pub record Merging (edges left : List Edge) (counts counts_left : List ℕ) (inputs inputs_left : List HartInput) (facts : List Record) : Type 0 where
  pub paired : length inputs_left ≡ length counts_left
  pub edges_rise : AllPairs ComesBefore left
  pub counts_rise : IsNonDecreasing counts_left
  pub merges : Merges edges left (zip counts inputs) (zip counts_left inputs_left) facts

head_before : (e : Edge) (es : List Edge) → AllPairs ComesBefore (e ∷ es) → AllByRecursion (ComesBefore e) es
head_before e es rise = recursion_from_All (ComesBefore e) es (λ k d below. rise 0 (suc k) d (omega arith) (omega arith))

rise_on : (e : Edge) (es : List Edge) → AllPairs ComesBefore (e ∷ es) → AllPairs ComesBefore es
rise_on e es rise i j d less below = rise (suc i) (suc j) d (omega arith) (omega arith)

counts_on : (k : ℕ) (ks : List ℕ) → IsNonDecreasing (k ∷ ks) → IsNonDecreasing ks
counts_on k ks rise i j d le below = rise (suc i) (suc j) d (omega arith) (omega arith)

all_zip : (P : ℕ → Type 0) (ks : List ℕ) (vs : List HartInput) → AllByRecursion P ks → AllByRecursion (λ x. P x.0) (zip ks vs)
all_zip P [] vs all = tt
all_zip P (k ∷ ks) [] all = tt
all_zip P (k ∷ ks) (v ∷ vs) all = (all.0, all_zip P ks vs all.1)

-- counts are no lower than the first
counts_from : (n : ℕ) (ks : List ℕ) → IsNonDecreasing ks → All (λ k. n ≤ k) (take 1 ks) → AllByRecursion (λ k. n ≤ k) ks
counts_from n [] rise first = tt
counts_from n (k ∷ ks) rise first =
    let low : n ≤ k = first 0 k (omega arith) in
    recursion_from_All (λ m. n ≤ m) (k ∷ ks) (λ i d below. let more : k ≤ get_or (k ∷ ks) i d = rise 0 i d (omega arith) below in omega arith)

edges_from : (n : ℕ) (es : List Edge) → AllPairs ComesBefore es → All (λ e. n < e.at) (take 1 es) → AllByRecursion (λ e. n < e.at) es
edges_from n [] rise first = tt
edges_from n (e ∷ es) rise first =
    let low : n < e.at = first 0 e (omega arith) in
    (low, all_weaker (ComesBefore e) (λ f. n < f.at) (λ f before. let more : e.at ≤ f.at = before.no_later in omega arith) es (head_before e es rise))

edge_turn : (edges es : List Edge) (counts ks : List ℕ) (inputs vs : List HartInput) (facts : List Record) (e : Edge) (later : List Edge) →
    Merging edges es counts ks inputs vs facts → IsFirst es ks vs (EdgeRecord e) → later ≡ drop 1 es →
    Merging edges later counts ks inputs vs (facts ++ EdgeRecord e ∷ [])
edge_turn edges es counts ks inputs vs facts e later h first is =
    let split : es ≡ e ∷ later = first.0 ∙ ap (λ l. e ∷ l) (sym is) in
    let rise : AllPairs ComesBefore (e ∷ later) = subst (AllPairs ComesBefore) split h.edges_rise in
    record {
      paired = h.paired;
      edges_rise = rise_on e later rise;
      counts_rise = h.counts_rise;
      merges =
          merge_edge edges e later (zip counts inputs) (zip ks vs) facts (head_before e later rise) (all_zip (λ k. e.at ≤ k) ks vs
          (counts_from e.at ks h.counts_rise first.1))
          (subst (λ l. Merges edges l (zip counts inputs) (zip ks vs) facts) split h.merges);
    }

input_turn : (edges es : List Edge) (counts ks : List ℕ) (inputs vs : List HartInput) (facts : List Record) (at : ℕ) (input : HartInput)
    (counts_later : List ℕ) (inputs_later : List HartInput) →
    Merging edges es counts ks inputs vs facts → IsFirst es ks vs (InputRecord at input) → counts_later ≡ drop 1 ks → inputs_later ≡ drop 1 vs →
    Merging edges es counts counts_later inputs inputs_later (facts ++ InputRecord at input ∷ [])
input_turn edges es counts ks inputs vs facts at input counts_later inputs_later h first counts_are inputs_are =
    let split : ks ≡ at ∷ counts_later = first.0 ∙ ap (λ l. at ∷ l) (sym counts_are) in
    let split_inputs : vs ≡ input ∷ inputs_later = first.1 ∙ ap (λ l. input ∷ l) (sym inputs_are) in
    let rise : IsNonDecreasing (at ∷ counts_later) = subst IsNonDecreasing split h.counts_rise in
    let low : AllByRecursion (λ k. at ≤ k) counts_later = recursion_from_All (λ k. at ≤ k) counts_later (λ k d below. rise 0 (suc k) d (omega arith)
    (omega arith)) in
    record {
      paired = omega (arith, h.paired, ap length split, ap length split_inputs);
      edges_rise = h.edges_rise;
      counts_rise = counts_on at counts_later rise;
      merges =
          merge_input edges es (zip counts inputs) at input (zip counts_later inputs_later) facts (all_zip (λ k. at ≤ k) counts_later inputs_later low)
          (edges_from at es h.edges_rise first.2)
          (subst (λ l. Merges edges es (zip counts inputs) l facts) (ap (λ l. zip l vs) split ∙ ap (λ l. zip (at ∷ counts_later) l) split_inputs) h.merges);
    }

module _ {edges es es' : List Edge} {counts ks ks' : List ℕ} {inputs vs vs' : List HartInput} {facts facts' : List Record} {first : Record}
    (h : Merging edges es counts ks inputs vs facts) (is_first : IsFirst es ks vs first) (pushed : facts' ≡ facts ++ first ∷ []) where
  pub turn_at_edge : (e : Edge) → first ≡ EdgeRecord e → es' ≡ drop 1 es → ks' ≡ ks → vs' ≡ vs → Merging edges es' counts ks' inputs vs' facts'
  turn_at_edge e is less same_counts same_inputs =
      rw (pushed, is, same_counts, same_inputs) (edge_turn edges es counts ks inputs vs facts e es' h (subst (IsFirst es ks vs) is is_first) less)

  pub turn_at_input : (at : ℕ) (input : HartInput) → first ≡ InputRecord at input → es' ≡ es → ks' ≡ drop 1 ks → vs' ≡ drop 1 vs →
      Merging edges es' counts ks' inputs vs' facts'
  turn_at_input at input is same_edges less less_inputs =
      rw (pushed, is, same_edges) (input_turn edges es counts ks inputs vs facts at input ks' vs' h (subst (IsFirst es ks vs) is is_first) less less_inputs)

-- an edge less, or an input less
pub less_edges : (es es' : List Edge) (ks : List ℕ) (vs : List HartInput) (first : Record) (e : Edge) → IsFirst es ks vs first → first ≡ EdgeRecord e →
    es' ≡ drop 1 es →
    length es' < length es
less_edges es es' ks vs first e is_first is less =
    let split : es ≡ e ∷ drop 1 es = (subst (IsFirst es ks vs) is is_first).0 in
    omega (arith, ap length split, ap length less)

pub less_inputs : (es : List Edge) (ks ks' : List ℕ) (vs : List HartInput) (first : Record) (at : ℕ) (input : HartInput) → IsFirst es ks vs first →
    first ≡ InputRecord at input →
    ks' ≡ drop 1 ks → length ks' < length ks
less_inputs es ks ks' vs first at input is_first is less =
    let split : ks ≡ at ∷ drop 1 ks = (subst (IsFirst es ks vs) is is_first).0 in
    omega (arith, ap length split, ap length less)

pub merging_ends : (edges es : List Edge) (counts ks : List ℕ) (inputs vs : List HartInput) (facts : List Record) →
    Merging edges es counts ks inputs vs facts → length es ≡ 0 → length ks ≡ 0 →
    told_by facts ≡ record { edges = edges; inputs = zip counts inputs; notes = [] }
merging_ends edges [] counts [] inputs vs facts h none no_counts =
    let of_edges : filter_map edge_in facts ≡ edges = sym (h.merges.of_edges ∙ append-nil (filter_map edge_in facts)) in
    let of_inputs : filter_map input_in facts ≡ zip counts inputs = sym (h.merges.of_inputs ∙ append-nil (filter_map input_in facts)) in
    rw (of_edges, of_inputs, h.merges.plain) refl
merging_ends edges [] counts (k ∷ ks) inputs vs facts h none no_counts = absurd (omega arith)
merging_ends edges (e ∷ es) counts ks inputs vs facts h none no_counts = absurd (omega arith)
