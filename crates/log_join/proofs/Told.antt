-- The tests tell openings and fragments apart exactly.
use Rattle.std.proofs.Common.{◌≡◌, refl, ap}
use Rattle.std.specs.Prelude.{◌==◌, ◌&&◌}
use Rattle.std.specs.Bool.{Decides}
use Rattle.std.proofs.lemmas.Bool.Decides.{Decides-and, Decides-eqb, Decides-like}
use Rattle.std.proofs.lemmas.Slice.Eq.{slice_eq-Decides, bytes_eq-Decides}
use Rattle.ft_types.specs.Guests.{GuestParts}
use Rattle.input_log.specs.Alike.{same_input}
use Rattle.input_log.proofs.Told.{inputs_told}
use Rattle.edge_log.specs.declared.Edge.{Edge as OwnedEdge}
use Rattle.fragment_codec.specs.declared.types.Key.{Key}
use Rattle.fragment_codec.specs.declared.types.Record.{Record}
use Rattle.fragment_codec.specs.declared.types.Record.TheVariants.{Edge as EdgeRecord, Input as InputRecord, Note as NoteRecord}
use Rattle.fragment_codec.specs.Rules.{FragmentParts, OpeningParts}
use Rattle.frame_content.specs.Tests.{same_guest, same_key, same_edge, same_record, same_opening, same_fragment}

pub guests_told : (a b : GuestParts) → Decides (same_guest a b) (a ≡ b)
guests_told a b =
    Decides-like (same_guest a b) (λ p i. record { digest = p.0 i; harts = p.1 i }) (λ e. (ap (λ (g : GuestParts). g.digest) e, ap (λ (g : GuestParts). g.harts) e))
    (Decides-and _ _ (bytes_eq-Decides a.digest b.digest) (Decides-eqb a.harts b.harts))

keys_told : (a b : Key) → Decides (same_key a b) (a ≡ b)
keys_told a b =
    Decides-like (same_key a b) (λ p i. record { term = p.0.0 i; hart = p.0.1 i; place = p.1 i })
    (λ e. ((ap (λ (k : Key). k.term) e, ap (λ (k : Key). k.hart) e), ap (λ (k : Key). k.place) e))
    (Decides-and _ _ (Decides-and _ _ (Decides-eqb a.term b.term) (Decides-eqb a.hart b.hart)) (Decides-eqb a.place b.place))

edges_told : (a b : OwnedEdge) → Decides (same_edge a b) (a ≡ b)
edges_told a b =
    Decides-like (same_edge a b) (λ p i. record { hart = p.0.0.0 i; at = p.0.0.1 i; other = p.0.1 i; after = p.1 i })
    (λ e. (((ap (λ (k : OwnedEdge). k.hart) e, ap (λ (k : OwnedEdge). k.at) e), ap (λ (k : OwnedEdge). k.other) e), ap (λ (k : OwnedEdge). k.after) e))
    (Decides-and _ _ (Decides-and _ _ (Decides-and _ _ (Decides-eqb a.hart b.hart) (Decides-eqb a.at b.at)) (Decides-eqb a.other b.other))
    (Decides-eqb a.after b.after))

records_told : (a b : Record) → Decides (same_record a b) (a ≡ b)
records_told (EdgeRecord a) (EdgeRecord b) = Decides-like (same_edge a b) (λ e. ap EdgeRecord e) (λ e. cc e) (edges_told a b)
records_told (EdgeRecord a) (InputRecord n b) = (λ e. absurd (cc e), λ e. absurd (cc e))
records_told (EdgeRecord a) (NoteRecord n b) = (λ e. absurd (cc e), λ e. absurd (cc e))
records_told (InputRecord m a) (EdgeRecord b) = (λ e. absurd (cc e), λ e. absurd (cc e))
records_told (InputRecord m a) (NoteRecord n b) = (λ e. absurd (cc e), λ e. absurd (cc e))
records_told (NoteRecord m a) (EdgeRecord b) = (λ e. absurd (cc e), λ e. absurd (cc e))
records_told (NoteRecord m a) (InputRecord n b) = (λ e. absurd (cc e), λ e. absurd (cc e))
records_told (NoteRecord m a) (NoteRecord n b) =
    Decides-like ((m == n) && (a == b)) (λ p i. NoteRecord (p.0 i) (p.1 i)) (λ e. (cc e, cc e)) (Decides-and _ _ (Decides-eqb m n) (Decides-eqb a b))
records_told (InputRecord m a) (InputRecord n b) =
    Decides-like ((m == n) && same_input a b) (λ p i. InputRecord (p.0 i) (p.1 i)) (λ e. (cc e, cc e)) (Decides-and _ _ (Decides-eqb m n) (inputs_told a b))

pub openings_told : (a b : OpeningParts) → Decides (same_opening a b) (a ≡ b)
openings_told a b =
    Decides-like (same_opening a b) (λ p i. record { guest = p.0.0.0 i; term = p.0.0.1 i; parent = p.0.1 i; base = p.1 i })
    (λ e. (
      ((ap (λ (k : OpeningParts). k.guest) e, ap (λ (k : OpeningParts). k.term) e), ap (λ (k : OpeningParts). k.parent) e),
      ap (λ (k : OpeningParts). k.base) e,
    ))
    (Decides-and _ _ (Decides-and _ _ (Decides-and _ _ (guests_told a.guest b.guest) (Decides-eqb a.term b.term)) (Decides-eqb a.parent b.parent))
    (bytes_eq-Decides a.base b.base))

pub fragments_told : (a b : FragmentParts) → Decides (same_fragment a b) (a ≡ b)
fragments_told a b =
    Decides-like (same_fragment a b) (λ p i. record { guest = p.0.0.0.0 i; key = p.0.0.0.1 i; from = p.0.0.1 i; to = p.0.1 i; records = p.1 i })
    (λ e. (
      (
        ((ap (λ (k : FragmentParts). k.guest) e, ap (λ (k : FragmentParts). k.key) e), ap (λ (k : FragmentParts). k.from) e),
        ap (λ (k : FragmentParts). k.to) e,
      ),
      ap (λ (k : FragmentParts). k.records) e,
    ))
    (Decides-and _ _ (Decides-and _ _ (Decides-and _ _ (Decides-and _ _ (guests_told a.guest b.guest) (keys_told a.key b.key)) (Decides-eqb a.from b.from))
    (Decides-eqb a.to b.to))
    (slice_eq-Decides records_told a.records b.records _ refl))
