-- Reading a body from left to right: private words, which the laws in proofs/ tie to the spelling.
use Rattle.std.specs.Prelude.{◌≡◌, ℕ, zero, suc, ◌+◌, ◌-◌, ◌^◌, Bool, ◌||◌, ◌&&◌, List, [], ◌∷◌, ◌++◌, length, take, drop, Option, Some, None, Result, Ok, Err, nat_lt, ◌==◌}
use Rattle.std.specs.Prelude.{if◌then◌else◌}
use Rattle.std.specs.Int.{Width, w16, w32, w64, byte_len, from_le_bytes}
use Rattle.ft_types.specs.declared.names.TheConstants.{HART_LIMIT}
use Rattle.ft_types.specs.Guests.{GuestParts}
use Rattle.fragment_codec.specs.declared.types.TheConstants.{FIRST_VERSION, FIRST_HARTS, SPAN_LIMIT}
use Rattle.fragment_codec.specs.declared.types.Key.{Key}
use Rattle.input_log.specs.declared.Input.{Input as HartInput}
use Rattle.input_log.specs.declared.Input.TheVariants.{Timer, Word, Bell}
use Rattle.fragment_codec.specs.declared.types.Record.{Record}
use Rattle.fragment_codec.specs.declared.types.Record.TheVariants.{Edge as EdgeRecord, Input as InputRecord, Note as NoteRecord}
use Rattle.fragment_codec.specs.declared.frame.Frame.{Frame}
use Rattle.fragment_codec.specs.declared.frame.Frame.TheVariants.{Log, Opening}
use Rattle.fragment_codec.specs.declared.reading.BodyError.{BodyError}
use Rattle.fragment_codec.specs.declared.reading.BodyError.TheVariants.{Memory, Broken}
use Rattle.fragment_codec.specs.Rules.{FragmentParts, OpeningParts}

infixl 10 ◌>>=◌
abbrev pub ◌>>=◌ : {A B : Type 0} → Option A → (A → Option B) → Option B
(Some x) >>= f = f x
None >>= f = None

-- What a function returned, seen by view, is what reading gives, unless memory ran out.
abbrev pub Fails : {Y : Type 0} → BodyError → Option Y → Type 0
Fails Memory read = Unit {0}
Fails Broken read = read ≡ None

abbrev pub Gives : {X Y : Type 0} → (X → Y) → Result X BodyError → Option Y → Type 0
Gives view (Ok x) read = read ≡ Some (view x)
Gives view (Err e) read = Fails e read

-- what a function made of what reading gives: a value that keeps the rules, or a refusal where it keeps none or nothing was read
abbrev pub Refuses : {X : Type 0} → (X → Type 0) → BodyError → Option X → Type 0
Refuses Rules Memory read = Unit {0}
Refuses {X} Rules Broken read = (x : X) → read ≡ Some x → Rules x → ⊥

abbrev pub Makes : {X : Type 0} → (X → Type 0) → Result X BodyError → Option X → Type 0
Makes Rules (Ok x) read = (read ≡ Some x) × Rules x
Makes Rules (Err e) read = Refuses Rules e read

-- A field is a value and the bytes after it.
unfoldable pub number_at : Width → List ℕ → Option (ℕ × List ℕ)
number_at w bytes = if nat_lt (length bytes) (byte_len w) then None else Some (from_le_bytes w (take (byte_len w) bytes), drop (byte_len w) bytes)

unfoldable pub byte_at : List ℕ → Option (ℕ × List ℕ)
byte_at [] = None
byte_at (b ∷ bytes) = Some (b, bytes)

unfoldable pub digest_at : List ℕ → Option (List ℕ × List ℕ)
digest_at bytes = if nat_lt (length bytes) 32 then None else Some (take 32 bytes, drop 32 bytes)

unfoldable pub input_of : ℕ → ℕ → Option HartInput
input_of kind value =
    if kind == 0 then (if value == 0 then Some Timer else None)
    else if kind == 1 then Some (Word value)
    else if kind == 2 then (if nat_lt value HART_LIMIT then Some (Bell value) else None)
    else None

-- where a record stands: a count, or how far it is from the fragment's first count, which makes a number of 64 bits
unfoldable pub stand_at : ℕ → ℕ → List ℕ → Option (ℕ × List ℕ)
stand_at version from bytes =
    if version == FIRST_VERSION then number_at w64 bytes
    else (number_at w32 bytes >>= λ x. if nat_lt (from + x.0) (2 ^ 64) then Some (from + x.0, x.1) else None)

unfoldable pub edge_at : ℕ → ℕ → ℕ → List ℕ → Option (Record × List ℕ)
edge_at version from hart bytes = do
  at ← stand_at version from bytes
  other ← byte_at at.1
  after ← number_at w64 other.1
  if nat_lt other.0 HART_LIMIT then Some (EdgeRecord (record { hart = hart; at = at.0; other = other.0; after = after.0 }), after.1) else None

unfoldable pub heard_at : ℕ → ℕ → List ℕ → Option (Record × List ℕ)
heard_at version from bytes = do
  at ← stand_at version from bytes
  kind ← byte_at at.1
  value ← number_at w32 kind.1
  input ← input_of kind.0 value.0
  Some (InputRecord at.0 input, value.1)

unfoldable pub note_at : ℕ → ℕ → List ℕ → Option (Record × List ℕ)
note_at version from bytes = do
  at ← stand_at version from bytes
  number ← number_at w64 at.1
  Some (NoteRecord at.0 number.0, number.1)

-- the first version tells of no note
unfoldable pub record_at : ℕ → ℕ → ℕ → List ℕ → Option (Record × List ℕ)
record_at version from hart bytes = do
  kind ← byte_at bytes
  if kind.0 == 1 then edge_at version from hart kind.1
      else if kind.0 == 2 then heard_at version from kind.1
      else if kind.0 == 3 then (if version == FIRST_VERSION then None else note_at version from kind.1)
      else None

-- what was read before, with one more behind it
abbrev pub behind : {X : Type 0} → List X → Option (X × List ℕ) → Option (List X × List ℕ)
behind before read = read >>= λ x. Some (before ++ x.0 ∷ [], x.1)

-- so many of one kind, one after the other
unfoldable pub many : {X : Type 0} → (List ℕ → Option (X × List ℕ)) → ℕ → List ℕ → Option (List X × List ℕ)
many item zero bytes = Some ([], bytes)
many item (suc n) bytes = do
  first ← item bytes
  others ← many item n first.1
  Some (first.0 ∷ others.0, others.1)

-- how many harts a version tells of at the most
abbrev pub harts_limit : ℕ → ℕ
harts_limit version = if version == FIRST_VERSION then FIRST_HARTS else HART_LIMIT

-- a version tells of so many counts in one fragment
abbrev pub is_span : ℕ → ℕ → ℕ → Bool
is_span version from to = (version == FIRST_VERSION) || nat_lt (to - from) SPAN_LIMIT

-- the guest that a body begins with, which has as many harts as the version tells of
unfoldable pub guest_at : ℕ → List ℕ → Option (GuestParts × List ℕ)
guest_at version bytes = do
  digest ← digest_at bytes
  harts ← byte_at digest.1
  if nat_lt harts.0 1 then None else if nat_lt (harts_limit version) harts.0 then None else Some (record { digest = digest.0; harts = harts.0 }, harts.1)

-- the guest and the key that a log body begins with
unfoldable pub place_at : ℕ → List ℕ → Option (GuestParts × Key × List ℕ)
place_at version bytes = do
  guest ← guest_at version bytes
  hart ← byte_at guest.1
  term ← number_at w32 hart.1
  place ← number_at w32 term.1
  if nat_lt hart.0 HART_LIMIT then Some (guest.0, record { term = term.0; hart = hart.0; place = place.0 }, place.1) else None

-- what stands behind them
unfoldable pub rest_of : ℕ → GuestParts → Key → List ℕ → Option FragmentParts
rest_of version guest key bytes = do
  from ← number_at w64 bytes
  to ← number_at w64 from.1
  count ← number_at w16 to.1
  records ← many (record_at version from.0 key.hart) count.0 count.1
  if is_span version from.0 to.0 && length records.1 == 0
      then Some (record { guest = guest; key = key; from = from.0; to = to.0; records = records.0 })
      else None

-- the whole of a log body
unfoldable pub log_of : ℕ → List ℕ → Option FragmentParts
log_of version bytes = do
  place ← place_at version bytes
  rest_of version place.0 place.1 place.2

-- the whole of an opening body
unfoldable pub opening_of : ℕ → List ℕ → Option OpeningParts
opening_of version bytes = do
  guest ← guest_at version bytes
  term ← number_at w32 guest.1
  parent ← number_at w32 term.1
  base ← many (number_at w64) guest.0.harts parent.1
  if length base.1 == 0 then Some (record { guest = guest.0; term = term.0; parent = parent.0; base = base.0 }) else None

-- the whole of a body of this version and kind
unfoldable pub frame_of : ℕ → ℕ → List ℕ → Option Frame
frame_of version kind body = if kind == 1 then (log_of version body >>= λ f. Some (Log f)) else (opening_of version body >>= λ o. Some (Opening o))
