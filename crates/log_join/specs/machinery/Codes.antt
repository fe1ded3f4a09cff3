-- Openings and fragments as numbers, pairs and lists: so that a store can be seen as a value.
use Rattle.std.specs.Prelude.{◌≡◌, ℕ, List, ◌⊎◌, Option, Some, None, refl}
use Rattle.std.specs.Coded.{Coded, code_by, coded×, coded⊎, coded_ℕ, coded_list, coded_option}
use mathlib.Core.Logic.{inl, inr}
use Rattle.ft_types.specs.Guests.{GuestParts}
use Rattle.input_log.specs.declared.Input.{Input as HartInput}
use Rattle.input_log.specs.declared.Input.TheVariants.{Timer, Word, Bell}
use Rattle.edge_log.specs.declared.Edge.{Edge as OwnedEdge}
use Rattle.fragment_codec.specs.declared.types.Key.{Key}
use Rattle.fragment_codec.specs.declared.types.Record.{Record}
use Rattle.fragment_codec.specs.declared.types.Record.TheVariants.{Edge as EdgeRecord, Input as InputRecord, Note as NoteRecord}
use Rattle.fragment_codec.specs.Rules.{FragmentParts, OpeningParts}

abbrev pub coded_guest : Coded GuestParts
coded_guest = code_by (List ℕ × ℕ) (coded× (coded_list coded_ℕ) coded_ℕ) (λ g. (g.digest, g.harts)) (λ p. record { digest = p.0; harts = p.1 }) (λ _. refl)

abbrev pub coded_key : Coded Key
coded_key = code_by (ℕ × (ℕ × ℕ)) (coded× coded_ℕ (coded× coded_ℕ coded_ℕ)) (λ k. (k.term, (k.hart, k.place))) (λ p. record {
  term = p.0;
  hart = p.1.0;
  place = p.1.1;
}) (λ _. refl)

abbrev pub coded_edge : Coded OwnedEdge
coded_edge =
    code_by (ℕ × (ℕ × (ℕ × ℕ))) (coded× coded_ℕ (coded× coded_ℕ (coded× coded_ℕ coded_ℕ)))
    (λ e. (e.hart, (e.at, (e.other, e.after))))
    (λ p. record { hart = p.0; at = p.1.0; other = p.1.1.0; after = p.1.1.1 })
    (λ _. refl)

abbrev pub input_out : HartInput → Option (ℕ ⊎ ℕ)
input_out Timer = None
input_out (Word word) = Some (inl word)
input_out (Bell hart) = Some (inr hart)

abbrev pub input_in : Option (ℕ ⊎ ℕ) → HartInput
input_in None = Timer
input_in (Some (inl word)) = Word word
input_in (Some (inr hart)) = Bell hart

pub input_back : (i : HartInput) → input_in (input_out i) ≡ i
input_back Timer = refl
input_back (Word word) = refl
input_back (Bell hart) = refl

abbrev pub coded_input : Coded HartInput
coded_input = code_by (Option (ℕ ⊎ ℕ)) (coded_option (coded⊎ coded_ℕ coded_ℕ)) input_out input_in input_back

abbrev pub record_out : Record → OwnedEdge ⊎ ((ℕ × HartInput) ⊎ (ℕ × ℕ))
record_out (EdgeRecord edge) = inl edge
record_out (InputRecord at input) = inr (inl (at, input))
record_out (NoteRecord at number) = inr (inr (at, number))

abbrev pub record_in : OwnedEdge ⊎ ((ℕ × HartInput) ⊎ (ℕ × ℕ)) → Record
record_in (inl edge) = EdgeRecord edge
record_in (inr (inl p)) = InputRecord p.0 p.1
record_in (inr (inr p)) = NoteRecord p.0 p.1

pub record_back : (r : Record) → record_in (record_out r) ≡ r
record_back (EdgeRecord edge) = refl
record_back (InputRecord at input) = refl
record_back (NoteRecord at number) = refl

abbrev pub coded_record : Coded Record
coded_record =
    code_by (OwnedEdge ⊎ ((ℕ × HartInput) ⊎ (ℕ × ℕ))) (coded⊎ coded_edge (coded⊎ (coded× coded_ℕ coded_input) (coded× coded_ℕ coded_ℕ))) record_out record_in
    record_back

abbrev pub coded_opening : Coded OpeningParts
coded_opening =
    code_by (GuestParts × (ℕ × (ℕ × List ℕ))) (coded× coded_guest (coded× coded_ℕ (coded× coded_ℕ (coded_list coded_ℕ))))
    (λ o. (o.guest, (o.term, (o.parent, o.base))))
    (λ p. record { guest = p.0; term = p.1.0; parent = p.1.1.0; base = p.1.1.1 })
    (λ _. refl)

abbrev pub coded_fragment : Coded FragmentParts
coded_fragment =
    code_by (GuestParts × (Key × (ℕ × (ℕ × List Record)))) (coded× coded_guest (coded× coded_key (coded× coded_ℕ (coded× coded_ℕ (coded_list coded_record)))))
    (λ f. (f.guest, (f.key, (f.from, (f.to, f.records)))))
    (λ p. record { guest = p.0; key = p.1.0; from = p.1.1.0; to = p.1.1.1.0; records = p.1.1.1.1 })
    (λ _. refl)
