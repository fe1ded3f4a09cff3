-- Notes on their way among the records of a hart.
use Rattle.std.proofs.Common.{◌≡◌, ℕ, zero, suc, ◌+◌, ◌<◌, ◌≤◌, Option, None, List, [], ◌∷◌, ◌++◌, length, get_or, take, drop, filter_map, AllPairs, arith}
use Rattle.std.proofs.Common.{refl, sym, ap, subst, ◌∙◌, append_assoc, append-nil, length-drop}
use Rattle.std.specs.List.{AllByRecursion}
use Rattle.std.proofs.lemmas.List.{take_more, drop_more, take_all, get_or-drop}
use Rattle.std.proofs.lemmas.List.Elements.{filter_map-append, recursion_from_All}
use Rattle.input_log.specs.Notes.{IsNotedBefore}
use Rattle.fragment_codec.specs.declared.types.Record.{Record}
use Rattle.fragment_codec.specs.declared.types.Record.TheVariants.{Edge as EdgeRecord, Input as InputRecord, Note as NoteRecord}
use Rattle.fragment_codec.specs.Rules.{count_of, MayPrecede, AreInOrder}
use Rattle.fragment_codec.specs.Facts.{edge_in, input_in, note_in, told_by}

-- the record may stand before each of these notes
abbrev StandsBefore : List (ℕ × ℕ) → Record → Type 0
StandsBefore notes r = AllByRecursion (λ x. MayPrecede r (NoteRecord x.0 x.1)) notes

-- of the notes so many stand among the records that were put out, and the records left are behind those
pub record Noting (records : List Record) (notes : List (ℕ × ℕ)) (i : ℕ) (out left : List Record) : Type 0 where
  pub of_edges : filter_map edge_in (out ++ left) ≡ filter_map edge_in records
  pub of_inputs : filter_map input_in (out ++ left) ≡ filter_map input_in records
  pub of_notes : filter_map note_in out ≡ take i notes
  pub plain : filter_map note_in left ≡ []
  pub order : AreInOrder (out ++ left)
  pub before : AllByRecursion (StandsBefore (drop i notes)) out

pub noting_begins : (records : List Record) (notes : List (ℕ × ℕ)) → AreInOrder records → filter_map note_in records ≡ [] → Noting records notes 0 [] records
noting_begins records notes order plain =
    record { of_edges = refl; of_inputs = refl; of_notes = refl; plain = plain; order = order; before = tt }

pub order_back : (out left : List Record) → AreInOrder (out ++ left) → AreInOrder left
order_back [] left h = h
order_back (r ∷ out) left h = order_back out left h.1

all_weaker : {A : Type 0} (P Q : A → Type 0) → ((x : A) → P x → Q x) → (xs : List A) → AllByRecursion P xs → AllByRecursion Q xs
all_weaker P Q f [] all = tt
all_weaker P Q f (x ∷ xs) all = (f x all.0, all_weaker P Q f xs all.1)

all_join : {A : Type 0} (P : A → Type 0) (xs ys : List A) → AllByRecursion P xs → AllByRecursion P ys → AllByRecursion P (xs ++ ys)
all_join P [] ys all rest = rest
all_join P (x ∷ xs) ys all rest = (all.0, all_join P xs ys all.1 rest)

all_insert : {A : Type 0} (P : A → Type 0) (xs ys : List A) (y : A) → AllByRecursion P (xs ++ ys) → P y → AllByRecursion P (xs ++ y ∷ ys)
all_insert P [] ys y all one = (one, all)
all_insert P (x ∷ xs) ys y all one = (all.0, all_insert P xs ys y all.1 one)

-- a record between others, where those before it may stand before it, and it before those behind it
order_insert : (xs ys : List Record) (r : Record) → AreInOrder (xs ++ ys) → AllByRecursion (λ x. MayPrecede x r) xs → AllByRecursion (MayPrecede r) ys →
    AreInOrder (xs ++ r ∷ ys)
order_insert [] ys r h front back = (back, h)
order_insert (x ∷ xs) ys r h front back = (all_insert (MayPrecede x) xs ys r h.0 front.0, order_insert xs ys r h.1 front.1 back)

nothing_in : {A : Type 0} (xs ys : List A) → xs ++ ys ≡ [] → (xs ≡ []) × (ys ≡ [])
nothing_in [] ys e = (refl, e)
nothing_in (x ∷ xs) ys e = absurd cc

-- records that are no notes stand before a note of no earlier count
plain_before : (rs : List Record) (at number : ℕ) → filter_map note_in rs ≡ [] → AllByRecursion (λ r. count_of r ≤ at) rs →
    AllByRecursion (λ r. MayPrecede r (NoteRecord at number)) rs
plain_before [] at number plain all = tt
plain_before (EdgeRecord e ∷ rs) at number plain all = (all.0, plain_before rs at number plain all.1)
plain_before (InputRecord c i ∷ rs) at number plain all = (all.0, plain_before rs at number plain all.1)
plain_before (NoteRecord c m ∷ rs) at number plain all = absurd cc

-- and behind a note of an earlier one
plain_behind : (rs : List Record) (at number : ℕ) → filter_map note_in rs ≡ [] → AllByRecursion (λ r. at < count_of r) rs →
    AllByRecursion (MayPrecede (NoteRecord at number)) rs
plain_behind [] at number plain all = tt
plain_behind (EdgeRecord e ∷ rs) at number plain all = (all.0, plain_behind rs at number plain all.1)
plain_behind (InputRecord c i ∷ rs) at number plain all = (all.0, plain_behind rs at number plain all.1)
plain_behind (NoteRecord c m ∷ rs) at number plain all = absurd cc

-- so they stand before all notes behind that one
plain_all : (rs : List Record) (at number : ℕ) (later : List (ℕ × ℕ)) → filter_map note_in rs ≡ [] → AllByRecursion (λ r. count_of r ≤ at) rs →
    AllByRecursion (IsNotedBefore (at, number)) later → AllByRecursion (StandsBefore later) rs
plain_all rs at number [] plain all notes = all_weaker (λ r. count_of r ≤ at) (StandsBefore []) (λ r le. tt) rs all
plain_all rs at number (x ∷ later) plain all notes =
    let up : at < x.0 = notes.0.count in
    let here = plain_before rs x.0 x.1 plain (all_weaker (λ r. count_of r ≤ at) (λ r. count_of r ≤ x.0) (λ r le. omega arith) rs all) in
    both rs here (plain_all rs at number later plain all notes.1)
  where
    both : (rs : List Record) → AllByRecursion (λ r. MayPrecede r (NoteRecord x.0 x.1)) rs → AllByRecursion (StandsBefore later) rs →
        AllByRecursion (StandsBefore (x ∷ later)) rs
    both [] a b = tt
    both (r ∷ rs) a b = ((a.0, b.0), both rs a.1 b.1)

later_notes : (notes : List (ℕ × ℕ)) (i : ℕ) (n : ℕ × ℕ) → AllPairs IsNotedBefore notes → drop i notes ≡ n ∷ drop (i + 1) notes → i < length notes →
    AllByRecursion (IsNotedBefore n) (drop (i + 1) notes)
later_notes notes i n rising split less =
    recursion_from_All (IsNotedBefore n) (drop (i + 1) notes)
    (λ k d below.
    let here : get_or notes i d ≡ n = sym (ap (λ m. get_or notes m d) (omega arith)) ∙ sym (get_or-drop i notes 0 d) ∙ ap (λ l. get_or l 0 d) split in
    let there : get_or (drop (i + 1) notes) k d ≡ get_or notes (i + 1 + k) d = get_or-drop (i + 1) notes k d in
    let b : IsNotedBefore (get_or notes i d) (get_or notes (i + 1 + k) d) =
    rising i (i + 1 + k) d (omega arith) (omega (arith, length-drop (i + 1) notes, below)) in
    rw (there, ← here) b)

module _ (records : List Record) (notes : List (ℕ × ℕ)) (i : ℕ) (out left : List Record) (h : Noting records notes i out left)
    (rising : AllPairs IsNotedBefore notes) (less : i < length notes) (at number : ℕ) (is : (d : ℕ × ℕ) → get_or notes i d ≡ (at, number))
    (front rest : List Record) (whole : front ++ rest ≡ left) (upto : AllByRecursion (λ r. count_of r ≤ at) front)
    (behind : AllByRecursion (λ r. at < count_of r) rest) where
  split : drop i notes ≡ (at, number) ∷ drop (i + 1) notes
  split = drop_more notes i (at, number) less ∙ ap (λ n. n ∷ drop (i + 1) notes) (is (at, number))

  later : AllByRecursion (IsNotedBefore (at, number)) (drop (i + 1) notes)
  later = later_notes notes i (at, number) rising split less

  plain : (filter_map note_in front ≡ []) × (filter_map note_in rest ≡ [])
  plain = nothing_in (filter_map note_in front) (filter_map note_in rest)
      (sym (filter_map-append note_in front rest) ∙ ap (filter_map note_in) whole ∙ h.plain)

  abbrev put : List Record
  put = (out ++ front) ++ NoteRecord at number ∷ []

  joined : put ++ rest ≡ (out ++ front) ++ NoteRecord at number ∷ rest
  joined = append_assoc (out ++ front) (NoteRecord at number ∷ []) rest

  was : (out ++ front) ++ rest ≡ out ++ left
  was = append_assoc out front rest ∙ ap (λ l. out ++ l) whole

  -- what tells of no note is told as before
  same : {A : Type 0} (f : Record → Option A) → filter_map f (NoteRecord at number ∷ rest) ≡ filter_map f rest →
      filter_map f (put ++ rest) ≡ filter_map f (out ++ left)
  same f skips =
      ap (filter_map f) joined ∙ filter_map-append f (out ++ front) (NoteRecord at number ∷ rest) ∙
      ap (λ l. filter_map f (out ++ front) ++ l) skips ∙ sym (filter_map-append f (out ++ front) rest) ∙ ap (filter_map f) was

  pub noted_one : Noting records notes (i + 1) ((out ++ front) ++ NoteRecord at number ∷ []) rest
  noted_one =
      record {
        of_edges = same edge_in refl ∙ h.of_edges;
        of_inputs = same input_in refl ∙ h.of_inputs;
        of_notes =
            filter_map-append note_in (out ++ front) (NoteRecord at number ∷ []) ∙
            ap (λ l. l ++ (at, number) ∷ []) (filter_map-append note_in out front ∙ ap (λ l. filter_map note_in out ++ l) plain.0 ∙
            append-nil (filter_map note_in out) ∙ h.of_notes) ∙
            ap (λ n. take i notes ++ n ∷ []) (sym (is (at, number))) ∙ sym (take_more notes i (at, number) less);
        plain = plain.1;
        order =
            subst AreInOrder (sym joined)
            (order_insert (out ++ front) rest (NoteRecord at number) (subst AreInOrder (sym was) h.order)
            (all_join (λ r. MayPrecede r (NoteRecord at number)) out front
            (all_weaker (StandsBefore (drop i notes)) (λ r. MayPrecede r (NoteRecord at number)) (λ r b. (subst (λ l. StandsBefore l r) split b).0) out
            h.before)
            (plain_before front at number plain.0 upto)) (plain_behind rest at number plain.1 behind));
        before =
            all_join (StandsBefore (drop (i + 1) notes)) (out ++ front) (NoteRecord at number ∷ [])
            (all_join (StandsBefore (drop (i + 1) notes)) out front
            (all_weaker (StandsBefore (drop i notes)) (StandsBefore (drop (i + 1) notes)) (λ r b. (subst (λ l. StandsBefore l r) split b).1) out h.before)
            (plain_all front at number (drop (i + 1) notes) plain.0 upto later)) (
              all_weaker (IsNotedBefore (at, number)) (λ x. MayPrecede (NoteRecord at number) (NoteRecord x.0 x.1)) (λ x b. (b.count, b.number))
                  (drop (i + 1) notes) later,
              tt,
            );
      }

pub noting_ends : (records : List Record) (notes : List (ℕ × ℕ)) (i : ℕ) (out left : List Record) → Noting records notes i out left → length notes ≤ i →
    told_by (out ++ left) ≡ record (told_by records) { notes = notes }
noting_ends records notes i out left h all =
    let of_notes : filter_map note_in (out ++ left) ≡ notes =
    filter_map-append note_in out left ∙ ap (λ l. filter_map note_in out ++ l) h.plain ∙ append-nil (filter_map note_in out) ∙ h.of_notes ∙
    take_all i notes all in
    rw (h.of_edges, h.of_inputs, of_notes) refl
