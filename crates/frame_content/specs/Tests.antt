-- When the contents of two frames are equal.
use Rattle.std.specs.Prelude.{Bool, false, ◌&&◌, ◌==◌, nat_eq}
use Rattle.std.specs.Cmp.Lexicographic.{pointwise}
pub use Rattle.ft_types.specs.Guests.{same_guest}
use Rattle.input_log.specs.Alike.{same_input}
use Rattle.edge_log.specs.declared.Edge.{Edge as OwnedEdge}
use Rattle.fragment_codec.specs.declared.types.Key.{Key}
use Rattle.fragment_codec.specs.declared.types.Record.{Record}
use Rattle.fragment_codec.specs.declared.types.Record.TheVariants.{Edge as EdgeRecord, Input as InputRecord, Note as NoteRecord}
use Rattle.fragment_codec.specs.Rules.{FragmentParts, OpeningParts}

abbrev pub same_key : Key → Key → Bool
same_key a b = (a.term == b.term) && (a.hart == b.hart) && (a.place == b.place)

abbrev pub same_edge : OwnedEdge → OwnedEdge → Bool
same_edge a b = (a.hart == b.hart) && (a.at == b.at) && (a.other == b.other) && (a.after == b.after)

abbrev pub same_record : Record → Record → Bool
same_record (EdgeRecord a) (EdgeRecord b) = same_edge a b
same_record (InputRecord m a) (InputRecord n b) = (m == n) && same_input a b
same_record (NoteRecord m a) (NoteRecord n b) = (m == n) && (a == b)
same_record a b = false

abbrev pub same_opening : OpeningParts → OpeningParts → Bool
same_opening a b = same_guest a.guest b.guest && (a.term == b.term) && (a.parent == b.parent) && pointwise nat_eq a.base b.base

abbrev pub same_fragment : FragmentParts → FragmentParts → Bool
same_fragment a b = same_guest a.guest b.guest && same_key a.key b.key && (a.from == b.from) && (a.to == b.to) && pointwise same_record a.records b.records
