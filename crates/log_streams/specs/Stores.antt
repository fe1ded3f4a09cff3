-- What is written of a store.
use Rattle.std.specs.Prelude.{◌≡◌, ℕ, List, [], ◌++◌, length, codes, decimal}
use Rattle.std.specs.List.{flat_map}
use Rattle.ft_types.specs.Text.{line}
use Rattle.fragment_codec.specs.declared.types.Key.{Key}
use Rattle.fragment_codec.specs.declared.frame.Frame.TheVariants.{Log, Opening}
use Rattle.fragment_codec.specs.Rules.{FragmentParts, OpeningParts}
use Rattle.fragment_codec.specs.Streams.{spelling}
use Rattle.log_join.specs.Cells.{Cell, Absent, One, Clash}
use Rattle.log_join.specs.Stores.{StoreView, opening_at, fragment_at, AreTerms, AreKeys, clashes_of}
use Rattle.guest_image.specs.Image.{ImageContents, guest_of}
use Rattle.closed_cut.specs.Chain.{IsChain}
use Rattle.closed_cut.specs.Position.{IsPosition}
use Rattle.ft_types.specs.declared.position.Position.{Position}
use Rattle.log_streams.specs.declared.stores.StoreList.{StoreList}
use Rattle.log_streams.specs.declared.stores.StoreSize.{StoreSize}
use Rattle.log_streams.specs.declared.faults.StreamsFault.{StreamsFault}
use Rattle.log_streams.specs.declared.faults.StreamsFault.TheVariants.{Write, Memory}
use Rattle.log_streams.specs.Streams.{AreJoined}
use Rattle.log_streams.specs.Faults.{IsFirstFault}

-- ---- its frames

-- the bytes of a frame, where one stands there
abbrev pub opening_bytes : Cell OpeningParts → List ℕ
opening_bytes Absent = []
opening_bytes (One o) = spelling (Opening o)
opening_bytes Clash = []

abbrev pub fragment_bytes : Cell FragmentParts → List ℕ
fragment_bytes Absent = []
fragment_bytes (One f) = spelling (Log f)
fragment_bytes Clash = []

abbrev pub openings_text : StoreView → List ℕ → List ℕ
openings_text store terms = flat_map (λ term. opening_bytes (opening_at store term)) terms

abbrev pub fragments_text : StoreView → List Key → List ℕ
fragments_text store keys = flat_map (λ key. fragment_bytes (fragment_at store key)) keys

-- the terms of its openings with one content, and the keys of such fragments
pub record IsListOf (store : StoreView) (list : StoreList) : Type 0 where
  pub are_terms : AreTerms store list.terms.items
  pub are_keys : AreKeys store list.keys.items

-- the openings with one content by rising term, and then the fragments with one content by rising key
pub record IsStoreText (store : StoreView) (text : List ℕ) : Type 0 where
  pub terms : List ℕ
  pub are_terms : AreTerms store terms
  pub keys : List Key
  pub are_keys : AreKeys store keys
  pub is : text ≡ openings_text store terms ++ fragments_text store keys

-- ---- how many keys it has

pub record IsSizeOf (store : StoreView) (size : StoreSize) : Type 0 where
  pub terms : List ℕ
  pub are_terms : AreTerms store terms
  pub openings : size.openings ≡ length terms
  pub keys : List Key
  pub are_keys : AreKeys store keys
  pub fragments : size.fragments ≡ length keys
  pub clashes : size.clashes ≡ clashes_of store

unfoldable pub size_line : StoreSize → List ℕ
size_line s =
    line (codes "openings " ++ decimal s.openings ++ codes " fragments " ++ decimal s.fragments ++ codes " clashes " ++ decimal s.clashes)

-- ---- how far it reaches

-- numbers, each behind a space
abbrev pub numbers : List ℕ → List ℕ
numbers ns = flat_map (λ n. codes " " ++ decimal n) ns

abbrev pub chain_line : List ℕ → List ℕ
chain_line terms = line (codes "chain" ++ numbers terms)

unfoldable pub position_head : Position → List ℕ
position_head p = codes "position term " ++ decimal p.term ++ codes " top " ++ decimal p.top ++ codes " counts"

abbrev pub position_line : Position → List ℕ
position_line p = line (position_head p ++ numbers p.counts)

-- the terms of its chain, and then its position
pub record IsCutText (store : StoreView) (text : List ℕ) : Type 0 where
  pub terms : List ℕ
  pub chain : IsChain store terms
  pub position : Position
  pub is_position : IsPosition store position
  pub harts : length position.counts ≡ store.guest.harts
  pub is : text ≡ chain_line terms ++ position_line position

-- the same of the join of the streams' frames
abbrev pub IsCutOf : ImageContents → List (List ℕ) → List ℕ → Type 0
IsCutOf image streams text = (store : StoreView) × AreJoined (guest_of image) streams store × IsCutText store text

-- why it is not told: a fault of the streams is the first one in them
abbrev pub IsCutCause : ImageContents → List (List ℕ) → StreamsFault → Type 0
IsCutCause image streams Write = Unit {0}
IsCutCause image streams Memory = Unit {0}
IsCutCause image streams fault = IsFirstFault 0 (guest_of image) streams fault
