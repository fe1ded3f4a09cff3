-- What is wrong with the frame at the front of a stream, by its bytes.
use Rattle.std.specs.Prelude.{◌≡◌, ◌≢◌, ◌<◌, ◌≤◌, ◌+◌, ◌⊎◌, ℕ, List, length, take, slice_index}
use Rattle.fragment_codec.specs.declared.fault.FrameFault.{FrameFault}
use Rattle.fragment_codec.specs.declared.fault.FrameFault.TheVariants.{Magic, Version, Kind, Length, Digest, Body, Memory}
use Rattle.fragment_codec.specs.declared.types.TheConstants.{FIRST_VERSION, FRAME_VERSION}
use Rattle.fragment_codec.specs.Streams.{Spelled, IsSpelled, text_of, longest_body, body_len, HasDigest, HasFault}

-- the byte at i is there, and is this one
abbrev pub Has : List ℕ → ℕ → ℕ → Type 0
Has bytes i byte = (i < length bytes) × (slice_index bytes i ≡ byte)

-- the byte at i is there, and is another
abbrev pub HasOther : List ℕ → ℕ → ℕ → Type 0
HasOther bytes i byte = (i < length bytes) × (slice_index bytes i ≢ byte)

-- a log body has 60 bytes at least, an opening body 49; how many at the most goes by the version
abbrev pub IsBodyLen : ℕ → ℕ → ℕ → Type 0
IsBodyLen version kind n =
    ((kind ≡ 1) × (60 ≤ n) × (n ≤ longest_body version 1)) ⊎ ((kind ≡ 2) × (49 ≤ n) × (n ≤ longest_body version 2))

-- the three bytes that a frame of a version begins with
pub record HasVersion (bytes : List ℕ) : Type 0 where
  pub first : Has bytes 0 0x56
  pub second : Has bytes 1 0x46
  pub version : Has bytes 2 FIRST_VERSION ⊎ Has bytes 2 FRAME_VERSION

-- they, the kind and the length of the body are there, and right as far as the kind
pub record TellsLen (bytes : List ℕ) : Type 0 where
  pub version : HasVersion bytes
  pub kind : Has bytes 3 1 ⊎ Has bytes 3 2
  pub there : 8 ≤ length bytes

-- the first n bytes are a frame's, by its head, and are all there
pub record IsAllThere (bytes : List ℕ) (n : ℕ) : Type 0 where
  pub tells : TellsLen bytes
  pub body : IsBodyLen (slice_index bytes 2) (slice_index bytes 3) (body_len bytes)
  pub size : body_len bytes + 40 ≡ n
  pub there : n ≤ length bytes

-- each fault, as soon as its bytes are there
abbrev pub IsAtFault : List ℕ → FrameFault → Type 0
IsAtFault bytes Magic = HasOther bytes 0 0x56 ⊎ HasOther bytes 1 0x46
IsAtFault bytes Version = Has bytes 0 0x56 × Has bytes 1 0x46 × HasOther bytes 2 FIRST_VERSION × HasOther bytes 2 FRAME_VERSION
IsAtFault bytes Kind = HasVersion bytes × HasOther bytes 3 1 × HasOther bytes 3 2
IsAtFault bytes Length = TellsLen bytes × (IsBodyLen (slice_index bytes 2) (slice_index bytes 3) (body_len bytes) → ⊥)
IsAtFault bytes Digest = (n : ℕ) × IsAllThere bytes n × (HasDigest (take n bytes) → ⊥)
IsAtFault bytes Body = (n : ℕ) × IsAllThere bytes n × HasDigest (take n bytes) × ((s : Spelled) → IsSpelled s → take n bytes ≢ text_of s)
IsAtFault bytes Memory = ⊥

-- what a reader finds wrong is what is wrong
abbrev pub FaultsByBytes : Type 0
FaultsByBytes = (bytes : List ℕ) (f : FrameFault) → (HasFault bytes f → IsAtFault bytes f) × (IsAtFault bytes f → HasFault bytes f)
