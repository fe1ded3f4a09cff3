-- What a fragment and an opening are: the rules of frames.
use Rattle.std.specs.Prelude.{◌≡◌, ◌≢◌, ℕ, ◌<◌, ◌≤◌, ◌-◌, ◌^◌, Bool, true, false, ◌==◌, List, [], ◌∷◌, length, All, count_by, ◌⊎◌}
use Rattle.std.specs.List.{AllByRecursion}
use Rattle.ft_types.specs.Counts.{IsCount}
use Rattle.ft_types.specs.Guests.{GuestParts, IsGuest}
use Rattle.input_log.specs.Inputs.{IsInputOf}
use Rattle.ft_types.specs.declared.names.TheConstants.{INPUT_LIMIT}
use Rattle.fragment_codec.specs.declared.types.TheConstants.{RECORD_LIMIT, FIRST_HARTS, SPAN_LIMIT}
use Rattle.fragment_codec.specs.declared.types.Key.{Key}
use Rattle.fragment_codec.specs.declared.types.Record.{Record}
use Rattle.fragment_codec.specs.declared.types.Record.TheVariants.{Edge as EdgeRecord, Input as InputRecord, Note as NoteRecord}

-- ---- keys

-- a key of a guest with so many harts: terms count from 1, and term and place have 32 bits
pub record IsKey (harts : ℕ) (key : Key) : Type 0 where
  pub hart : key.hart < harts
  pub granted : 1 ≤ key.term
  pub term : key.term < 2 ^ 32
  pub place : key.place < 2 ^ 32

-- ---- records

-- where a record stands
abbrev pub count_of : Record → ℕ
count_of (EdgeRecord edge) = edge.at
count_of (InputRecord at input) = at
count_of (NoteRecord at number) = at

-- an edge is the hart's own, and names another hart of the guest and at least one step of it; a note tells of an output at least, and of one at each
-- count at the most
abbrev pub IsFactOf : ℕ → ℕ → Record → Type 0
IsFactOf harts hart (EdgeRecord edge) = (edge.hart ≡ hart) × (edge.other < harts) × (edge.other ≢ hart) × (1 ≤ edge.after) × IsCount edge.after
IsFactOf harts hart (InputRecord at input) = IsInputOf harts input
IsFactOf harts hart (NoteRecord at number) = (1 ≤ number) × (number ≤ at)

-- a record of the hart that stands at least at `from` and below `to`
abbrev pub IsRecordOf : ℕ → ℕ → ℕ → ℕ → Record → Type 0
IsRecordOf harts hart from to fact = IsFactOf harts hart fact × (from ≤ count_of fact) × (count_of fact < to)

-- Of two records the first may stand before the second: counts do not fall, and at one count edges stand before inputs,
-- with strictly rising `other`, and a note behind both. There is one note of a count at the most, and their numbers rise strictly.
abbrev pub MayPrecede : Record → Record → Type 0
MayPrecede (EdgeRecord first) (EdgeRecord second) = (first.at < second.at) ⊎ ((first.at ≡ second.at) × (first.other < second.other))
MayPrecede (EdgeRecord first) (InputRecord at input) = first.at ≤ at
MayPrecede (InputRecord at input) (EdgeRecord second) = at < second.at
MayPrecede (InputRecord at input) (InputRecord next other) = at ≤ next
MayPrecede (EdgeRecord first) (NoteRecord at number) = first.at ≤ at
MayPrecede (InputRecord at input) (NoteRecord next number) = at ≤ next
MayPrecede (NoteRecord at number) (EdgeRecord second) = at < second.at
MayPrecede (NoteRecord at number) (InputRecord next input) = at < next
MayPrecede (NoteRecord at number) (NoteRecord next more) = (at < next) × (number < more)

-- each record may stand before each later one
abbrev pub AreInOrder : List Record → Type 0
AreInOrder [] = Unit {0}
AreInOrder (fact ∷ facts) = AllByRecursion (MayPrecede fact) facts × AreInOrder facts

-- the record is an input at this count
abbrev pub is_input_at : ℕ → Record → Bool
is_input_at count (EdgeRecord edge) = false
is_input_at count (InputRecord at input) = at == count
is_input_at count (NoteRecord at number) = false

-- one of the records is a note
abbrev pub has_note : List Record → Bool
has_note [] = false
has_note (EdgeRecord edge ∷ records) = has_note records
has_note (InputRecord at input ∷ records) = has_note records
has_note (NoteRecord at number ∷ records) = true

-- the records of a fragment: not too many, each right by itself, in order, and not too many inputs at one count
pub record AreRecords (harts hart from to : ℕ) (records : List Record) : Type 0 where
  pub limit : length records ≤ RECORD_LIMIT
  pub each : AllByRecursion (IsRecordOf harts hart from to) records
  pub order : AreInOrder records
  pub inputs : (count : ℕ) → count_by (is_input_at count) records ≤ INPUT_LIMIT

-- ---- fragments and openings

pub record FragmentParts : Type 0 where
  pub guest : GuestParts
  pub key : Key
  pub from : ℕ
  pub to : ℕ
  pub records : List Record

-- What happened to a hart of the guest from one count to a later one. Where the guest has more harts than the first version tells of,
-- or a record is a note, the fragment is so short that the second one tells of it.
pub record IsFragment (f : FragmentParts) : Type 0 where
  pub guest : IsGuest f.guest
  pub key : IsKey f.guest.harts f.key
  pub some : f.from < f.to
  pub end : IsCount f.to
  pub short : FIRST_HARTS < f.guest.harts → f.to - f.from < SPAN_LIMIT
  pub noted : has_note f.records ≡ true → f.to - f.from < SPAN_LIMIT
  pub records : AreRecords f.guest.harts f.key.hart f.from f.to f.records

pub record OpeningParts : Type 0 where
  pub guest : GuestParts
  pub term : ℕ
  pub parent : ℕ
  pub base : List ℕ

-- A term begins with one count per hart of an earlier term, or from boot, where the parent is 0 and all counts are 0.
pub record IsOpening (o : OpeningParts) : Type 0 where
  pub guest : IsGuest o.guest
  pub granted : 1 ≤ o.term
  pub term : o.term < 2 ^ 32
  pub parent : o.parent < o.term
  pub base : length o.base ≡ o.guest.harts
  pub counts : AllByRecursion IsCount o.base
  pub boot : o.parent ≡ 0 → All (λ n. n ≡ 0) o.base
