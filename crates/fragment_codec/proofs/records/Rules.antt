-- What the walk through the records of a fragment keeps, and what reading a frame again needs of the rules.
use Rattle.std.proofs.Common.{◌≡◌, ◌≢◌, ◌+◌, ◌-◌, ◌<◌, ◌≤◌, ◌^◌, ℕ, suc, Bool, true, false, List, [], ◌∷◌, Some, None, length, drop, get_or, refl, sym, ap, ◌∙◌, add-one}
use Rattle.std.proofs.Common.{drop-cons, arith}
use Rattle.std.specs.List.{AllByRecursion}
use Rattle.std.proofs.lemmas.List.{drop_all}
use Rattle.ft_types.specs.Counts.{IsCount}
use Rattle.ft_types.specs.declared.names.TheConstants.{HART_LIMIT}
use Rattle.input_log.specs.declared.Input.{Input as HartInput}
use Rattle.input_log.specs.Inputs.{IsInputOf}
use Rattle.input_log.specs.declared.Input.TheVariants.{Timer, Word, Bell}
use Rattle.fragment_codec.specs.declared.types.Record.{Record}
use Rattle.fragment_codec.specs.declared.types.Record.TheVariants.{Edge as EdgeRecord, Input as InputRecord, Note as NoteRecord}
use Rattle.fragment_codec.specs.Rules.{FragmentParts, OpeningParts, IsFragment, IsOpening, IsRecordOf, count_of, has_note}
use Rattle.fragment_codec.specs.machinery.Slots.{said_after, slot_after, are_right}
use Rattle.fragment_codec.proofs.records.Slots.{all_map}

pub are_right-step : (harts hart to at slot said : ℕ) (rs : List Record) (i : ℕ) (r : Record) (n : ℕ) (total : Bool) → i < length rs
    → r ≡ get_or rs i r → slot_after harts hart to at slot said r ≡ Some n → are_right harts hart to at slot said (drop i rs) ≡ total
    → are_right harts hart to (count_of r) n (said_after said r) (drop (i + 1) rs) ≡ total
unfolding are_right
are_right-step harts hart to at slot said rs i r n total lt is e so_far =
    let one : are_right harts hart to at slot said (r ∷ drop (suc i) rs) ≡ are_right harts hart to (count_of r) n (said_after said r) (drop (suc i) rs) =
    rw e refl in
    rw add-one (sym one ∙ ap (λ (x : Record). are_right harts hart to at slot said (x ∷ drop (suc i) rs)) is ∙ ap (are_right harts hart to at slot said)
    (sym (drop-cons rs i r lt)) ∙ so_far)

pub are_right-none : (harts hart to at slot said : ℕ) (rs : List Record) (i : ℕ) (r : Record) → i < length rs
    → r ≡ get_or rs i r → slot_after harts hart to at slot said r ≡ None → are_right harts hart to at slot said (drop i rs) ≡ false
unfolding are_right
are_right-none harts hart to at slot said rs i r lt is e =
    let one : are_right harts hart to at slot said (r ∷ drop (suc i) rs) ≡ false = rw e refl in
    ap (are_right harts hart to at slot said) (drop-cons rs i r lt) ∙ ap (λ (x : Record). are_right harts hart to at slot said (x ∷ drop (suc i) rs))
    (sym is) ∙ one

pub are_right-all : (harts hart to at slot said : ℕ) (rs : List Record) (i : ℕ) → length rs ≤ i → are_right harts hart to at slot said (drop i rs) ≡ true
unfolding are_right
are_right-all harts hart to at slot said rs i le = rw (drop_all i rs le) refl

-- ---- what the fields have room for

abbrev pub FitsInput : HartInput → Type 0
FitsInput Timer = Unit {0}
FitsInput (Word w) = w < 2 ^ 32
FitsInput (Bell source) = source < HART_LIMIT

-- a count that the version can tell, in a fragment that begins at `from`
abbrev pub FitsStand : ℕ → ℕ → ℕ → Type 0
FitsStand version from at = (at < 2 ^ 64) × (version ≢ 1 → (from ≤ at) × (at - from < 2 ^ 32))

abbrev pub FitsRecord : ℕ → ℕ → ℕ → Record → Type 0
FitsRecord version from hart (EdgeRecord edge) = (edge.hart ≡ hart) × FitsStand version from edge.at × (edge.other < HART_LIMIT) × (edge.after < 2 ^ 64)
FitsRecord version from hart (InputRecord at input) = FitsStand version from at × FitsInput input
FitsRecord version from hart (NoteRecord at number) = FitsStand version from at × (number < 2 ^ 64) × (version ≢ 1)

-- records with a note are told of in the second version alone
pub noted_later : (version from hart : ℕ) (rs : List Record) → AllByRecursion (FitsRecord version from hart) rs → version ≡ 1 → has_note rs ≡ false
noted_later version from hart [] h one = refl
noted_later version from hart (EdgeRecord e ∷ rs) h one = noted_later version from hart rs h.1 one
noted_later version from hart (InputRecord c i ∷ rs) h one = noted_later version from hart rs h.1 one
noted_later version from hart (NoteRecord c m ∷ rs) h one = absurd (h.0.2 one)

input_fits : (harts : ℕ) (i : HartInput) → harts ≤ HART_LIMIT → IsInputOf harts i → FitsInput i
input_fits harts Timer le h = tt
input_fits harts (Word w) le h = h
input_fits harts (Bell source) le h = omega (arith, h)

stand_fits : (version from to at : ℕ) → to < 2 ^ 48 → (version ≢ 1 → to - from < 2 ^ 32) → from ≤ at → at < to → FitsStand version from at
stand_fits version from to at small short low high = (omega (arith, high), λ ne. (low, omega (arith, short ne)))

record_fits : (version harts hart from to : ℕ) → harts ≤ HART_LIMIT → to < 2 ^ 48 → (version ≢ 1 → to - from < 2 ^ 32) → (r : Record) →
    (has_note (r ∷ []) ≡ true → version ≢ 1) → IsRecordOf harts hart from to r → FitsRecord version from hart r
record_fits version harts hart from to le small short (EdgeRecord e) later h =
    (h.0.0, stand_fits version from to e.at small short h.1 h.2, omega (arith, h.0.1), omega (arith, h.0.4))
record_fits version harts hart from to le small short (InputRecord c i) later h =
    (stand_fits version from to c small short h.1 h.2, input_fits harts i le h.0)
record_fits version harts hart from to le small short (NoteRecord c m) later h =
    (stand_fits version from to c small short h.1 h.2, omega (arith, h.0.1, h.2), later refl)

first_noted : (r : Record) (rs : List Record) → has_note (r ∷ []) ≡ true → has_note (r ∷ rs) ≡ true
first_noted (EdgeRecord e) rs is = absurd cc
first_noted (InputRecord c i) rs is = absurd cc
first_noted (NoteRecord c m) rs is = refl

rest_noted : (r : Record) (rs : List Record) → has_note rs ≡ true → has_note (r ∷ rs) ≡ true
rest_noted (EdgeRecord e) rs is = is
rest_noted (InputRecord c i) rs is = is
rest_noted (NoteRecord c m) rs is = refl

all_fit : (version harts hart from to : ℕ) → harts ≤ HART_LIMIT → to < 2 ^ 48 → (version ≢ 1 → to - from < 2 ^ 32) → (rs : List Record) →
    (has_note rs ≡ true → version ≢ 1) → AllByRecursion (IsRecordOf harts hart from to) rs → AllByRecursion (FitsRecord version from hart) rs
all_fit version harts hart from to le small short [] later h = tt
all_fit version harts hart from to le small short (r ∷ rs) later h = (
  record_fits version harts hart from to le small short r (λ is. later (first_noted r rs is)) h.0,
  all_fit version harts hart from to le small short rs (λ is. later (rest_noted r rs is)) h.1,
)

pub records_fit : (version : ℕ) (f : FragmentParts) → IsFragment f → (version ≢ 1 → f.to - f.from < 2 ^ 32) → (has_note f.records ≡ true → version ≢ 1) →
    AllByRecursion (FitsRecord version f.from f.key.hart) f.records
records_fit version f h short later =
    all_fit version f.guest.harts f.key.hart f.from f.to h.guest.limit h.end short f.records later h.records.each

pub counts_fit : (o : OpeningParts) → IsOpening o → AllByRecursion (λ n. n < 2 ^ 64) o.base
counts_fit o h = all_map IsCount (λ n. n < 2 ^ 64) (λ n lt. omega (arith, lt)) o.base h.counts

pub opening_counts : (o : OpeningParts) → IsOpening o → (length o.base ≤ HART_LIMIT) × AllByRecursion IsCount o.base
opening_counts o h = (omega (arith, h.base, h.guest.limit), h.counts)
