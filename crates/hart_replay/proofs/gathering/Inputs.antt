-- Inputs that are taken.
use Rattle.std.proofs.Common.{◌≡◌, ◌≢◌, inl, inr, ℕ, ◌+◌, ◌<◌, ◌≤◌, Bool, true, false, cond, List, [], ◌∷◌, ◌++◌, map, take, length, get_or, max, All, refl, sym}
use Rattle.std.proofs.Common.{ap, subst, ◌∙◌, arith, append_assoc, ◌==◌, eq-eqb, ne_eqb, append-nil}
use Rattle.std.specs.List.{filter, count_by}
use Rattle.std.proofs.lemmas.List.{map-append}
use Rattle.std.proofs.lemmas.List.Elements.{filter-append, All-nil, All-cons, All-head, All-tail, All-push, All-take, All-weaker, All-from_recursion}
use Rattle.std.proofs.lemmas.List.Sums.{count_by_more_yes, sum_by-take-le, sum_by-cons}
use Rattle.ft_types.specs.declared.names.TheConstants.{INPUT_LIMIT}
use Rattle.input_log.specs.declared.Input.{Input}
use Rattle.input_log.specs.Inputs.{inputs_of, inputs_at, MayFollow, HearsMore}
use Rattle.fragment_codec.specs.declared.types.Record.{Record}
use Rattle.fragment_codec.specs.declared.types.Record.TheVariants.{Edge as EdgeRecord, Input as InputRecord, Note as NoteRecord}
use Rattle.fragment_codec.specs.Rules.{FragmentParts, IsFragment, IsRecordOf, count_of, is_input_at}
use Rattle.hart_replay.specs.Facts.{inputs_among}
use Rattle.hart_replay.specs.machinery.Taking.{is_between, between, TakesInputs, InputsEndBelow}
use Rattle.hart_replay.proofs.gathering.Records.{inputs_more, kept_one, from_there}

-- a hart's inputs are at no later count
abbrev pub InputsEndBy : List (List (ℕ × Input)) → ℕ → ℕ → Type 0
InputsEndBy log hart count = All (λ x. x.0 ≤ count) (inputs_of log hart)

-- ---- how many there are at a count

pub at-append : (a b : List (ℕ × Input)) (n : ℕ) → inputs_at (a ++ b) n ≡ inputs_at a n ++ inputs_at b n
at-append a b n =
    ap (map (λ (x : ℕ × Input). x.1)) (filter-append (λ (x : ℕ × Input). x.0 == n) a b) ∙
    map-append (λ (x : ℕ × Input). x.1) (filter (λ (x : ℕ × Input). x.0 == n) a) (filter (λ (x : ℕ × Input). x.0 == n) b)

none_at : (row : List (ℕ × Input)) (n : ℕ) → All (λ x. x.0 < n) row → inputs_at row n ≡ []
none_at [] n all = refl
none_at (x ∷ row) n all =
    let less : x.0 < n = All-head (λ (x : ℕ × Input). x.0 < n) x row all in
    rw (ne_eqb x.0 n (λ (e : x.0 ≡ n). absurd (omega arith))) (none_at row n (All-tail (λ (x : ℕ × Input). x.0 < n) x row all))

at-cons : (at : ℕ) (input : Input) (row : List (ℕ × Input)) (n : ℕ) → length (inputs_at ((at, input) ∷ row) n) ≡ cond (at == n) 1 0 + length (inputs_at row n)
at-cons at input row n = go (at == n)
  where
    go : (b : Bool) → length (map (λ (x : ℕ × Input). x.1) (cond b ((at, input) ∷ filter (λ (x : ℕ × Input). x.0 == n) row)
        (filter (λ (x : ℕ × Input). x.0 == n) row))) ≡
        cond b 1 0 + length (inputs_at row n)
    go true = omega arith
    go false = omega arith

count-cons : (n : ℕ) (r : Record) (rs : List Record) → count_by (is_input_at n) (r ∷ rs) ≡ cond (is_input_at n r) 1 0 + count_by (is_input_at n) rs
count-cons n r rs = sum_by-cons (λ x. cond (is_input_at n x) 1 0) r rs

-- no more are taken than there are
one_kept : (kept rs : List Record) (n : ℕ) (r : Record) → length (inputs_at (inputs_among kept) n) ≤ count_by (is_input_at n) rs →
    length (inputs_at (inputs_among (r ∷ kept)) n) ≤ cond (is_input_at n r) 1 0 + count_by (is_input_at n) rs
one_kept kept rs n (EdgeRecord e) few = omega (arith, few)
one_kept kept rs n (NoteRecord at number) few = omega (arith, few)
one_kept kept rs n (InputRecord at input) few =
    subst (λ m. m ≤ cond (at == n) 1 0 + count_by (is_input_at n) rs) (sym (at-cons at input (inputs_among kept) n)) (omega (arith, few))

few_at : (p : Record → Bool) (n : ℕ) (rs : List Record) → length (inputs_at (inputs_among (filter p rs)) n) ≤ count_by (is_input_at n) rs
few_at p n [] = omega arith
few_at p n (r ∷ rs) = subst (λ m. length (inputs_at (inputs_among (filter p (r ∷ rs))) n) ≤ m) (sym (count-cons n r rs)) (go (p r) (few_at p n rs))
  where
    go : (b : Bool) → length (inputs_at (inputs_among (filter p rs)) n) ≤ count_by (is_input_at n) rs →
        length (inputs_at (inputs_among (cond b (r ∷ filter p rs) (filter p rs))) n) ≤ cond (is_input_at n r) 1 0 + count_by (is_input_at n) rs
    go true few = one_kept (filter p rs) rs n r few
    go false few = omega (arith, few)

module _ (f : FragmentParts) (p : Record → Bool) (i at : ℕ) (input : Input) (rules : IsFragment f) (less : i < length f.records)
    (is : InputRecord at input ≡ get_or f.records i (InputRecord at input)) where
  -- of the records before one there are fewer than INPUT_LIMIT at its count
  fewer : length (inputs_at (inputs_among (filter p (take i f.records))) at) < INPUT_LIMIT
  fewer =
      let upto = few_at p at (take i f.records) in
      let one : count_by (is_input_at at) (take (i + 1) f.records) ≡ count_by (is_input_at at) (take i f.records) + 1 =
      count_by_more_yes (is_input_at at) f.records i (InputRecord at input) less (subst (λ r. is_input_at at r ≡ true) is (eq-eqb at at refl)) in
      let all : count_by (is_input_at at) (take (i + 1) f.records) ≤ count_by (is_input_at at) f.records =
      sum_by-take-le (λ x. cond (is_input_at at x) 1 0) f.records (i + 1) in
      let few : count_by (is_input_at at) f.records ≤ INPUT_LIMIT = rules.records.inputs at in
      omega arith

  -- so it may follow those
  pub may_follow : (hart : ℕ) (old now : List (List (ℕ × Input))) → InputsEndBelow old hart at → InputsEndBy now hart at →
      TakesInputs hart old (inputs_among (filter p (take i f.records))) now → MayFollow (inputs_of now hart) at
  may_follow hart old now before by taken =
      record {
        last = by;
        room =
            subst (λ l. length (inputs_at l at) < INPUT_LIMIT) (sym taken.own)
            (subst (λ l. length l < INPUT_LIMIT)
            (sym (at-append (inputs_of old hart) (inputs_among (filter p (take i f.records))) at ∙
            ap (λ l. l ++ inputs_at (inputs_among (filter p (take i f.records))) at) (none_at (inputs_of old hart) at before)))
            fewer);
      }

-- one more record, of which nothing is taken
pub skips_input : (hart : ℕ) (old now : List (List (ℕ × Input))) (p : Record → Bool) (rs : List Record) (i : ℕ) (r : Record) → i < length rs → r ≡ get_or rs i r →
    inputs_among (filter p (r ∷ [])) ≡ [] → TakesInputs hart old (inputs_among (filter p (take i rs))) now →
    TakesInputs hart old (inputs_among (filter p (take (i + 1) rs))) now
skips_input hart old now p rs i r less is none taken =
    subst (λ l. TakesInputs hart old l now)
    (sym (inputs_more p rs i r less is ∙ (ap (λ l. inputs_among (filter p (take i rs)) ++ l) none ∙ append-nil (inputs_among (filter p (take i rs))))))
    taken

-- one more input, which is taken
pub takes_input : (hart : ℕ) (old now new : List (List (ℕ × Input))) (p : Record → Bool) (rs : List Record) (i at : ℕ) (input : Input) → i < length rs →
    InputRecord at input ≡ get_or rs i (InputRecord at input) → p (InputRecord at input) ≡ true → TakesInputs hart old (inputs_among (filter p (take i rs))) now →
    inputs_of new hart ≡ inputs_of now hart ++ (at, input) ∷ [] → ((other : ℕ) → other ≢ hart → inputs_of new other ≡ inputs_of now other) →
    TakesInputs hart old (inputs_among (filter p (take (i + 1) rs))) new
takes_input hart old now new p rs i at input less is inside taken own others =
    subst (λ l. TakesInputs hart old l new)
    (sym (inputs_more p rs i (InputRecord at input) less is ∙ ap (λ l. inputs_among (filter p (take i rs)) ++ l)
    (ap inputs_among (kept_one p (InputRecord at input) inside))))
    (record {
      own =
          own ∙
          (ap (λ l. l ++ (at, input) ∷ []) taken.own ∙ append_assoc (inputs_of old hart) (inputs_among (filter p (take i rs))) ((at, input) ∷ []));
      others = λ other ne. others other ne ∙ taken.others other ne;
    })

-- a hart's inputs end where the last one that was added is
pub all_with : (P : ℕ × Input → Type 0) (hart : ℕ) (now new : List (List (ℕ × Input))) (at : ℕ) (input : Input) →
    inputs_of new hart ≡ inputs_of now hart ++ (at, input) ∷ [] → All P (inputs_of now hart) → P (at, input) → All P (inputs_of new hart)
all_with P hart now new at input own all one = subst (All P) (sym own) (All-push P (inputs_of now hart) (at, input) all one)

-- ---- inputs from a count on

-- of records none of which is earlier, the inputs from a count on are at that or later
late_among : (from end low : ℕ) (rs : List Record) → All (λ r. low ≤ count_of r) rs → All (λ x. max from low ≤ x.0) (inputs_among (between from end rs))
late_among from end low [] all = All-nil (λ x. max from low ≤ x.0)
late_among from end low (r ∷ rs) all =
    go r (is_between from end (count_of r)) refl (All-head (λ r. low ≤ count_of r) r rs all)
    (late_among from end low rs (All-tail (λ r. low ≤ count_of r) r rs all))
  where
    go : (r : Record) (b : Bool) → is_between from end (count_of r) ≡ b → low ≤ count_of r →
        All (λ x. max from low ≤ x.0) (inputs_among (between from end rs)) →
        All (λ x. max from low ≤ x.0) (inputs_among (cond b (r ∷ between from end rs) (between from end rs)))
    go r false is up rest = rest
    go (EdgeRecord e) true is up rest = rest
    go (NoteRecord at number) true is up rest = rest
    go (InputRecord at input) true is up rest =
        let upto = (from_there from end at is).0 in
        All-cons (λ x. max from low ≤ x.0) (at, input) (inputs_among (between from end rs)) (omega (arith, upto, up)) rest

-- so what was taken of a piece was given behind what was
pub hears_later : (f : FragmentParts) → IsFragment f → (from end i : ℕ) (hart : ℕ) (old now : List (List (ℕ × Input))) →
    TakesInputs hart old (inputs_among (between from end (take i f.records))) now → HearsMore (inputs_of old hart) (max from f.from) (inputs_of now hart)
hears_later f rules from end i hart old now taken = (
  inputs_among (between from end (take i f.records)),
  taken.own,
  late_among from end f.from (take i f.records)
      (All-take (λ r. f.from ≤ count_of r) i f.records
      (All-weaker (IsRecordOf f.guest.harts f.key.hart f.from f.to) (λ r. f.from ≤ count_of r) (λ r own. own.1) f.records
      (All-from_recursion (IsRecordOf f.guest.harts f.key.hart f.from f.to) f.records rules.records.each))),
)

-- inputs that are taken in two goes
pub takes_both : (hart : ℕ) (old mid new : List (List (ℕ × Input))) (a b : List (ℕ × Input)) → TakesInputs hart old a mid → TakesInputs hart mid b new →
    TakesInputs hart old (a ++ b) new
takes_both hart old mid new a b one two =
    record {
      own = two.own ∙ (ap (λ l. l ++ b) one.own ∙ append_assoc (inputs_of old hart) a b);
      others = λ other ne. two.others other ne ∙ one.others other ne;
    }
