-- What stands on a stream, and what a feed of it has given.
use Rattle.std.specs.Prelude.{◌≡◌, ◌≢◌, ◌⊎◌, ℕ, ◌<◌, ◌==◌, if◌then◌else◌, List, [], ◌∷◌, ◌++◌, length, Option, None, Some}
use Rattle.std.specs.List.{flat_map, AllByRecursion}
use Rattle.std.specs.Option.{option_to_list}
use Rattle.gdb_packets.specs.declared.spelling.TheConstants.{TEXT_LIMIT}
use Rattle.gdb_packets.specs.declared.event.Event.{Event}
use Rattle.gdb_packets.specs.declared.event.Event.TheVariants as event
use Rattle.gdb_packets.specs.declared.feed.Place.{Place}
use Rattle.gdb_packets.specs.declared.feed.Place.TheVariants.{Between, Body, Sum, LastDigit}
use Rattle.gdb_packets.specs.Packets.{IsPacket, spelling}

-- a byte between packets, a packet that says these bytes, or a text where a packet could stand
pub data Item : Type 0 where
  Byte : (byte : ℕ) → Item
  Packet : (bytes : List ℕ) → Item
  Broken : (body digits : List ℕ) → Item

-- no '#' stands in the body
abbrev pub IsBody : List ℕ → Type 0
IsBody body = AllByRecursion (λ b. b ≢ 35) body

-- '$', a body, '#' and two bytes
abbrev pub framed : List ℕ → List ℕ → List ℕ
framed body digits = 36 ∷ body ++ 35 ∷ digits

abbrev pub text_of : Item → List ℕ
text_of (Byte b) = b ∷ []
text_of (Packet bytes) = spelling bytes
text_of (Broken body digits) = framed body digits

-- A byte between packets is no '$'. A text is broken where it is no packet.
abbrev pub IsItem : Item → Type 0
IsItem (Byte b) = b ≢ 36
IsItem (Packet bytes) = IsPacket (spelling bytes) bytes
IsItem (Broken body digits) = IsBody body × (length digits ≡ 2) × ((bytes : List ℕ) → IsPacket (framed body digits) bytes → ⊥)

-- '+', '-' and 3 say something between packets, and no other byte does
abbrev pub mark : ℕ → Option Event
mark b = if b == 43 then Some event.Heard else if b == 45 then Some event.Again else if b == 3 then Some event.Interrupt else None

abbrev pub events_of : Item → List Event
events_of (Byte b) = option_to_list (mark b)
events_of (Packet bytes) = event.Packet bytes ∷ []
events_of (Broken body digits) = event.Broken ∷ []

-- what has come of the text under way
abbrev pub begun : Place → List ℕ → List ℕ → Type 0
begun Between body rest = rest ≡ []
begun Body body rest = rest ≡ 36 ∷ body
begun Sum body rest = rest ≡ 36 ∷ body ++ 35 ∷ []
begun LastDigit body rest = (digit : ℕ) × (rest ≡ 36 ∷ body ++ 35 ∷ digit ∷ [])

-- what a feed holds: where it stands, and the text under way
pub record Unread : Type 0 where
  pub place : Place
  pub text : List ℕ

-- The text is held, unless both are too long for a packet.
abbrev pub IsHeld : List ℕ → List ℕ → Type 0
IsHeld rest held = (held ≡ rest) ⊎ ((TEXT_LIMIT < length rest) × (TEXT_LIMIT < length held))

-- The stream so far is these items and a text under way, and their events were given.
pub record Follows (stream : List ℕ) (given : List Event) (feed : Unread) : Type 0 where
  pub items : List Item
  pub body : List ℕ
  pub rest : List ℕ
  pub stream_is : stream ≡ flat_map text_of items ++ rest
  pub each : AllByRecursion IsItem items
  pub given_are : given ≡ flat_map events_of items
  pub begun_is : begun feed.place body rest
  pub plain : IsBody body
  pub held : IsHeld rest feed.text
