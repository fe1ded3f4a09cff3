-- A world of processes stays theirs where a keeper's machine goes on.
use Rattle.std.proofs.Common.{◌≡◌, inl, inr, ◌++◌, ◌↔◌, ℕ, zero, suc, List, [], ◌∷◌, Contains, slice_set, Option, None, Some, option_map, refl, sym, ap, subst, ◌∙◌}
use Rattle.std.proofs.lemmas.List.Elements.{Contains-append_left, Contains-append_right, Contains-append_cases}
use Rattle.interleaving.specs.Lists.{put}
use Rattle.interleaving.proofs.Put.{same_or_not, put_same, put_other}
use Rattle.guest_image.specs.Image.{ImageContents, guest_of}
use Rattle.fragment_codec.specs.declared.frame.Frame.{Frame}
use Rattle.fenced_theory.proofs.Growing.{some_same, some_none}
use Rattle.stations.specs.Handing.{IsHandedTo}
use Rattle.keeper_disks.specs.Disks.{Disk}
use Rattle.process_world.specs.Worlds.{ProcessWorld}
use Rattle.wire.specs.declared.acknowledgements.Acknowledgement.{Acknowledgement}
use Rattle.wire.specs.declared.answers.Answer.{Answer}
use Rattle.wire.specs.declared.requests.Request.{Request}
use Rattle.live_world.specs.declared.hand.HandedTo.{HandedTo}
use Rattle.live_world.specs.declared.site.Site.{Site}
use Rattle.live_world.specs.Seats.{AreSeatsOf}
use Rattle.live_world.specs.Sites.{IsAtRest, disk_at, disk_of, site_at}
use Rattle.live_world.specs.Views.{LiveView, IsHandedIn, IsWorldOf}
use Rattle.live_world.proofs.Disks.{GoesAt}

-- the machine of the keeper is the one that was put there
pub site_put : (sites : List (Option Site)) (k : ℕ) {s : Site} (o : Option Site) → site_at sites k ≡ Some s → site_at (slice_set sites k o) k ≡ o
site_put [] k o there = absurd cc
site_put (x ∷ sites) zero o there = refl
site_put (x ∷ sites) (suc k) o there = site_put sites k o there

-- and the others are as they were
pub site_others : (sites : List (Option Site)) (k j : ℕ) (o : Option Site) → (j ≡ k → ⊥) → site_at (slice_set sites k o) j ≡ site_at sites j
site_others [] k j o other = refl
site_others (x ∷ sites) zero zero o other = absurd (other refl)
site_others (x ∷ sites) zero (suc j) o other = refl
site_others (x ∷ sites) (suc k) zero o other = refl
site_others (x ∷ sites) (suc k) (suc j) o other = site_others sites k j o (λ e. other (ap suc e))

-- putting it back changes nothing
pub site_back : (sites : List (Option Site)) (k : ℕ) {s : Site} → site_at sites k ≡ Some s → slice_set sites k (Some s) ≡ sites
site_back [] k there = refl
site_back (x ∷ sites) zero there = ap (λ (y : Option Site). y ∷ sites) (sym there)
site_back (x ∷ sites) (suc k) there = ap (λ (all : List (Option Site)). x ∷ all) (site_back sites k there)

-- with this machine of the keeper, and with what was said and handed over
abbrev pub moved : LiveView → ℕ → Site → List Acknowledgement → List HandedTo → LiveView
moved v keeper t said handed = record v { sites = slice_set v.sites keeper (Some t); said = v.said ++ said; handed = v.handed ++ handed }

-- each machine is one of the world
disks_moved : {v : LiveView} {w x : ProcessWorld} {keeper : ℕ} {s : Site} {said : List Acknowledgement} (t : Site) → IsWorldOf v w →
    site_at v.sites keeper ≡ Some s → GoesAt w keeper (disk_of t) said x → (k : ℕ) → x.disks k ≡ disk_at (slice_set v.sites keeper (Some t)) k
disks_moved {v = v} {x = x} {keeper = keeper} t is there goes k = elim (same_or_not k keeper) [
  | inl same ↦
      let here : disk_at (slice_set v.sites keeper (Some t)) keeper ≡ Some (disk_of t) = ap (option_map disk_of) (site_put v.sites keeper (Some t) there) in
      subst (λ (k : ℕ). x.disks k ≡ disk_at (slice_set v.sites keeper (Some t)) k) (sym same) (goes.disk ∙ sym here)
  | inr other ↦ goes.others k other ∙ (is.disks k ∙ sym (ap (option_map disk_of) (site_others v.sites keeper k (Some t) other)))
]

-- and at rest
rest_moved : {v : LiveView} {w : ProcessWorld} {keeper : ℕ} {s t : Site} → IsWorldOf v w → site_at v.sites keeper ≡ Some s → IsAtRest keeper t →
    (k : ℕ) (u : Site) → site_at (slice_set v.sites keeper (Some t)) k ≡ Some u → IsAtRest k u
rest_moved {v = v} {keeper = keeper} {t = t} is there rests k u at = elim (same_or_not k keeper) [
  | inl same ↦
      let here : site_at (slice_set v.sites keeper (Some t)) k ≡ Some t =
      ap (site_at (slice_set v.sites keeper (Some t))) same ∙ site_put v.sites keeper (Some t) there in
      subst (IsAtRest k) (some_same here at) (subst (λ (k : ℕ). IsAtRest k t) (sym same) rests)
  | inr other ↦ is.at_rest k u (sym (site_others v.sites keeper k (Some t) other) ∙ at)
]

-- what was said is the same in both
said_moved : {v : LiveView} {w x : ProcessWorld} {keeper : ℕ} {d : Disk} {said : List Acknowledgement} → IsWorldOf v w → GoesAt w keeper d said x →
    (a : Acknowledgement) → Contains (v.said ++ said) a ↔ Contains x.said a
said_moved {v = v} {w = w} {said = said} is goes a = (
  λ has. subst (λ (all : List Acknowledgement). Contains all a) (sym goes.said_more)
      (elim (Contains-append_cases v.said said a has) [
        | inl old ↦ Contains-append_right said w.said a ((is.said a).0 old)
        | inr new ↦ Contains-append_left said w.said a new
      ]),
  λ has. elim (Contains-append_cases said w.said a (subst (λ (all : List Acknowledgement). Contains all a) goes.said_more has)) [
    | inl new ↦ Contains-append_right v.said said a new
    | inr old ↦ Contains-append_left v.said said a ((is.said a).1 old)
  ],
)

-- what was handed over is so in the world that follows
handed_stays : {w x : ProcessWorld} {keeper : ℕ} {d : Disk} {said : List Acknowledgement} → GoesAt w keeper d said x → (h : HandedTo) →
    IsHandedIn w h → IsHandedIn x h
handed_stays goes h has = record {
  bytes = has.bytes;
  there = goes.handed (record { keeper = h.keeper; term = h.term; bytes = has.bytes }) has.there;
  line = subst (λ (image : ImageContents). IsHandedTo (guest_of image) h.keeper h.term has.bytes h.bytes.items) (sym goes.image) has.line;
  named = has.named;
}

pub at_site : {v : LiveView} {w x : ProcessWorld} {keeper : ℕ} {s t : Site} {said : List Acknowledgement} (handed : List HandedTo) →
    IsWorldOf v w → site_at v.sites keeper ≡ Some s → GoesAt w keeper (disk_of t) said x → IsAtRest keeper t →
    ((h : HandedTo) → Contains handed h → IsHandedIn x h) → IsWorldOf (moved v keeper t said handed) x
at_site {v = v} {t = t} handed is there goes rests each = record {
  image = goes.image ∙ is.image;
  keepers = goes.keepers ∙ is.keepers;
  need = goes.need ∙ is.need;
  disks = disks_moved t is there goes;
  at_rest = rest_moved is there rests;
  frames = λ f has. subst (λ (all : List Frame). Contains all f) (sym goes.frames) (is.frames f has);
  said = said_moved is goes;
  handed = λ h has. elim (Contains-append_cases v.handed handed h has) [ inl old ↦ handed_stays goes h (is.handed h old) | inr new ↦ each h new ];
  led = subst (AreSeatsOf v.led) (sym goes.led) is.led;
  told = λ a. subst (λ (all : List Answer). Contains v.told a ↔ Contains all a) (sym goes.told) (is.told a);
  clients = goes.clients ∙ is.clients;
  asked = λ r. subst (λ (all : List Request). Contains v.asked r ↔ Contains all r) (sym goes.asked) (is.asked r);
}

-- ---- a keeper that is lost

pub at_lost : {v : LiveView} {w : ProcessWorld} {s : Site} (keeper : ℕ) → IsWorldOf v w → site_at v.sites keeper ≡ Some s →
    IsWorldOf (record v { sites = slice_set v.sites keeper None }) (record w { disks = put w.disks keeper None })
at_lost {v = v} {w = w} keeper is there = record {
  image = is.image;
  keepers = is.keepers;
  need = is.need;
  disks = λ k. elim (same_or_not k keeper) [
    | inl same ↦
        let gone : disk_at (slice_set v.sites keeper None) k ≡ None =
        ap (λ (k : ℕ). disk_at (slice_set v.sites keeper None) k) same ∙ ap (option_map disk_of) (site_put v.sites keeper None there) in
        put_same w.disks keeper k None (sym same) ∙ sym gone
    | inr other ↦
        put_other w.disks keeper k None (λ e. other (sym e)) ∙
        (is.disks k ∙ sym (ap (option_map disk_of) (site_others v.sites keeper k None other)))
  ];
  at_rest = λ k u at. elim (same_or_not k keeper) [
    | inl same ↦
        let gone : site_at (slice_set v.sites keeper None) k ≡ None =
        ap (site_at (slice_set v.sites keeper None)) same ∙ site_put v.sites keeper None there in
        some_none at gone
    | inr other ↦ is.at_rest k u (sym (site_others v.sites keeper k None other) ∙ at)
  ];
  frames = is.frames;
  said = is.said;
  handed = λ h has. let there = is.handed h has in record { bytes = there.bytes; there = there.there; line = there.line; named = there.named };
  led = is.led;
  told = is.told;
  clients = is.clients;
  asked = is.asked;
}
