-- Frames that come to stores, one after the other.
use Rattle.std.proofs.Common.{◌≡◌, ℕ, List, [], ◌∷◌, ◌++◌, Contains, Some, refl, sym, ap, subst, ◌∙◌}
use Rattle.std.proofs.lemmas.List.Elements.{Contains-append_right}
use Rattle.interleaving.proofs.Cuts.{here}
use Rattle.interleaving.proofs.Put.{put_same, put_other}
use Rattle.ft_types.specs.Guests.{GuestParts}
use Rattle.fragment_codec.specs.declared.frame.Frame.{Frame}
use Rattle.log_join.specs.Coming.{Come}
use Rattle.log_join.specs.Stores.{StoreView, IsJoin, alone}
use Rattle.log_join.proofs.Told.{openings_told, fragments_told}
use Rattle.log_join.proofs.Cells.{cells_join}
use Rattle.log_join.proofs.Joins.{one_join}
use Rattle.fenced_theory.specs.Recorders.{Recorder}
use Rattle.fenced_theory.specs.Worlds.{Quorum, World, held, Deliver}
use Rattle.keeper_disks.specs.Standing.{LeadsTo, Then}

the_join : (a b : StoreView) → (c : StoreView) × IsJoin a b c
the_join a b = (one_join (cells_join openings_told) (cells_join fragments_told) a b).there

same_join : (a b c d : StoreView) → IsJoin a b c → IsJoin a b d → c ≡ d
same_join a b c d h k = (one_join (cells_join openings_told) (cells_join fragments_told) a b).one c d h k

-- the same frames make one store
pub come_same : (first other : StoreView) (fs : List Frame) (a b : StoreView) → first ≡ other → Come first fs a → Come other fs b → a ≡ b
come_same first other [] a b e h k = h ∙ e ∙ sym k
come_same first other (f ∷ fs) a b e h k =
    come_same h.0 k.0 fs a b (same_join other (alone f) h.0 k.0 (subst (λ (s : StoreView). IsJoin s (alone f) h.0) e h.1) k.1) h.2 k.2

pub come_more : (first middle last : StoreView) (fs gs : List Frame) → Come first fs middle → Come middle gs last → Come first (fs ++ gs) last
come_more first middle last [] gs h k = subst (λ (s : StoreView). Come s gs last) h k
come_more first middle last (f ∷ fs) gs h k = (h.0, h.1, come_more h.0 middle last fs gs h.2 k)

pub come_there : (first : StoreView) (fs : List Frame) → (last : StoreView) × Come first fs last
come_there first [] = (first, refl)
come_there first (f ∷ fs) =
    let (next, joined) = the_join first (alone f) in
    let (last, come) = come_there next fs in
    (last, (next, joined, come))

-- ---- deliveries

-- nothing is another but a keeper's store
pub record OnlyStore {Book : Type 0} (w v : World Book) (keeper : ℕ) : Type 0 where
  pub terms : v.terms ≡ w.terms
  pub sent : v.sent ≡ w.sent
  pub saved : v.saved ≡ w.saved
  pub fence : v.fence ≡ w.fence
  pub given : v.given ≡ w.given
  pub acked : v.acked ≡ w.acked
  pub released : v.released ≡ w.released
  pub notes : v.notes ≡ w.notes
  pub marks : v.marks ≡ w.marks
  pub others : (k : ℕ) → (keeper ≡ k → ⊥) → v.stores k ≡ w.stores k

module _ {Book Fact : Type 0} (recorder : Recorder Book Fact) (guest : GuestParts) (quorum : Quorum) where
  pub record Delivered (w : World Book) (keeper : ℕ) (store : StoreView) : Type 0 where
    pub world : World Book
    pub events : LeadsTo recorder guest quorum w world
    pub has : world.stores keeper ≡ Some store
    pub only : OnlyStore w world keeper

  pub held_only : (w : World Book) (keeper : ℕ) (s : StoreView) → OnlyStore w (held w keeper s) keeper
  held_only w keeper s =
      record {
        terms = refl;
        sent = refl;
        saved = refl;
        fence = refl;
        given = refl;
        acked = refl;
        released = refl;
        notes = refl;
        marks = refl;
        others = λ k other. put_other w.stores keeper k (Some s) other;
      }

  pub only_then : (w v u : World Book) (keeper : ℕ) → OnlyStore w v keeper → OnlyStore v u keeper → OnlyStore w u keeper
  only_then w v u keeper a b =
      record {
        terms = b.terms ∙ a.terms;
        sent = b.sent ∙ a.sent;
        saved = b.saved ∙ a.saved;
        fence = b.fence ∙ a.fence;
        given = b.given ∙ a.given;
        acked = b.acked ∙ a.acked;
        released = b.released ∙ a.released;
        notes = b.notes ∙ a.notes;
        marks = b.marks ∙ a.marks;
        others = λ k other. b.others k other ∙ a.others k other;
      }

  -- what was sent comes to a keeper behind other events
  pub delivers : (w v : World Book) → LeadsTo recorder guest quorum w v → (keeper : ℕ) → OnlyStore w v keeper → (s t : StoreView) →
      v.stores keeper ≡ Some s → (fs : List Frame) → ((f : Frame) → Contains fs f → Contains v.sent f) → Come s fs t → Delivered w keeper t
  delivers w v events keeper only s t has [] each come = record { world = v; events = events; has = has ∙ ap Some (sym come); only = only }
  delivers w v events keeper only s t has (f ∷ fs) each come =
      delivers w (held v keeper come.0) (Then events (Deliver keeper s come.0 f has (each f (here f fs)) come.1)) keeper
      (only_then w v (held v keeper come.0) keeper only (held_only v keeper come.0)) come.0 t (put_same v.stores keeper keeper (Some come.0) refl) fs
      (λ g in_fs. each g (Contains-append_right (f ∷ []) fs g in_fs)) come.2
