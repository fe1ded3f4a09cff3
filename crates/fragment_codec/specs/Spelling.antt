-- The one spelling of a frame in a version: its fields in the order of the tables, each number with its lowest byte first.
use Rattle.std.specs.Prelude.{ℕ, ◌-◌, ◌==◌, if◌then◌else◌, List, ◌∷◌, ◌++◌, length}
use Rattle.std.specs.List.{flat_map}
use Rattle.std.specs.Int.{Width, w16, w32, w64, to_le_bytes}
use Rattle.sha2.specs.Sha256.{sha256}
use Rattle.input_log.specs.declared.Input.{Input as HartInput}
use Rattle.input_log.specs.declared.Input.TheVariants.{Timer, Word, Bell}
use Rattle.fragment_codec.specs.declared.types.TheConstants.{FIRST_VERSION}
use Rattle.fragment_codec.specs.declared.types.Record.{Record}
use Rattle.fragment_codec.specs.declared.types.Record.TheVariants.{Edge as EdgeRecord, Input as InputRecord, Note as NoteRecord}
use Rattle.fragment_codec.specs.Rules.{FragmentParts, OpeningParts}

-- a number, the lowest byte first
unfoldable pub number : Width → ℕ → List ℕ
number w n = to_le_bytes w n

-- an input: its kind, and the value, which is 0 for Timer, the word, or the ringing hart
unfoldable pub input_bytes : HartInput → List ℕ
input_bytes Timer = 0 ∷ number w32 0
input_bytes (Word w) = 1 ∷ number w32 w
input_bytes (Bell source) = 2 ∷ number w32 source

-- where a record stands: the first version tells its count, the second how far that is from the fragment's first count
unfoldable pub stand_bytes : ℕ → ℕ → ℕ → List ℕ
stand_bytes version from at = if version == FIRST_VERSION then number w64 at else number w32 (at - from)

-- an edge of 18 bytes, or an input of 14: in the second version 14 and 10; and a note, of which the second version alone tells, in 13
unfoldable pub record_bytes : ℕ → ℕ → Record → List ℕ
record_bytes version from (EdgeRecord edge) = 1 ∷ (stand_bytes version from edge.at ++ (edge.other ∷ number w64 edge.after))
record_bytes version from (InputRecord at input) = 2 ∷ (stand_bytes version from at ++ input_bytes input)
record_bytes version from (NoteRecord at number1) = 3 ∷ (stand_bytes version from at ++ number w64 number1)

-- digest, harts, hart, term, place, from, to, number of records, records
unfoldable pub log_body : ℕ → FragmentParts → List ℕ
log_body version f =
    f.guest.digest ++ (f.guest.harts ∷ f.key.hart ∷ (number w32 f.key.term ++ (number w32 f.key.place
    ++ (number w64 f.from ++ (number w64 f.to ++ (number w16 (length f.records) ++ flat_map (record_bytes version f.from) f.records))))))

-- digest, harts, term, parent, base: in each version
unfoldable pub opening_body : OpeningParts → List ℕ
opening_body o = o.guest.digest ++ (o.guest.harts ∷ (number w32 o.term ++ (number w32 o.parent ++ flat_map (number w64) o.base)))

-- magic, version, kind, the body's length, the body
unfoldable pub headed : ℕ → ℕ → List ℕ → List ℕ
headed version kind body = 0x56 ∷ 0x46 ∷ version ∷ kind ∷ (number w32 (length body) ++ body)

-- and the digest of all before it: SHA-256 of FIPS 180-4, section 6.2
unfoldable pub sealed : List ℕ → List ℕ
sealed bytes = bytes ++ sha256 bytes
