-- A backup that has caught up is where `go_live` begins.
use Rattle.std.proofs.Common.{◌≡◌, ◌≢◌, ◌-◌, ◌∷◌, ℕ, List, length, sum, refl, sym, ap, subst, ◌∙◌}
use Rattle.std.specs.FinMap as finite
use Rattle.std.specs.Ordering.{nat_cmp}
use Rattle.ft_types.specs.Counts.{count_at}
use Rattle.ft_types.specs.Guests.{GuestParts}
use Rattle.fragment_codec.specs.Rules.{OpeningParts}
use Rattle.frame_content.specs.Tests.{same_opening, same_fragment}
use Rattle.log_join.specs.Cells.{cell_of, join_cell}
use Rattle.log_join.specs.Stores.{StoreView, IsJoin, IsStore, fragment_at, key_cmp, nothing, opening_at}
use Rattle.closed_cut.specs.Position.{IsPosition}
use Rattle.ft_types.specs.declared.position.Position.{Position}
use Rattle.guest_image.specs.Image.{ImageContents, guest_of}
use Rattle.guest_image.specs.Machine.{MachineState}
use Rattle.hart_replay.specs.GoingOn.{GoOnFrom}
use Rattle.hart_replay.specs.KeepingUp.{IsFaultOfStore}
use Rattle.hart_replay.specs.Laws.{ArePlanned}
use Rattle.hart_replay.specs.Plans.{IsPlan, noted_in}
use Rattle.hart_replay.specs.Replays.{IsOutcome}
use Rattle.hart_replay.specs.declared.plans.PlannedLeg.{PlannedLeg}
use Rattle.hart_replay.specs.declared.fault.ReplayFault.{ReplayFault}
use Rattle.hart_replay.specs.declared.fault.ReplayFault.TheVariants.{Cyclic, HaltedInside, OtherGuest, Memory}
use Rattle.go_live.specs.Joined.{AreJoined, AreJoinedTo}
use Rattle.go_live.specs.Lives.{HasNoMachine, IsAtPosition, opening_from}
use Rattle.go_live.proofs.Joins.{joined_guest}
use Rattle.go_live.proofs.Places.{has_counts, has_harts}
use Rattle.warm_backup.specs.Backups.{BackupView}
use Rattle.warm_live.specs.machinery.Onward.{HasCaughtUp}

-- nothing, joined with a store
alone_joined : (guest : GuestParts) (s : StoreView) → s.guest ≡ guest → IsJoin (nothing guest) s s
alone_joined guest s is = record {
  guest = is;
  openings = λ term. sym (ap (λ c. join_cell same_opening c (opening_at s term)) (ap cell_of (finite.get-empty nat_cmp term)));
  fragments = λ key. sym (ap (λ c. join_cell same_fragment c (fragment_at s key)) (ap cell_of (finite.get-empty key_cmp key)));
}

-- what is joined to one's own store is joined with it
pub joined_first : (guest : GuestParts) (own : StoreView) (stores : List StoreView) (new : StoreView) → own.guest ≡ guest →
    AreJoinedTo own stores new → AreJoined guest (own ∷ stores) new
joined_first guest own stores new is joined = (own, alone_joined guest own is, joined)

-- why the store leads to no machine
pub no_machine : (image : ImageContents) (store : StoreView) (fault : ReplayFault) → IsStore store → IsFaultOfStore image store fault →
    fault ≢ Memory → HasNoMachine image store fault
no_machine image store (Cyclic counts) rules has ne = record {
  rules = rules;
  position = has.position;
  is_position = has.is_position;
  legs = has.legs;
  planned = has.planned;
  same_guest = λ e. cc;
  in_memory = ne;
  cyclic = has.is_fault;
  halted_inside = tt;
}
no_machine image store (HaltedInside hart count) rules has ne = record {
  rules = rules;
  position = has.position;
  is_position = has.is_position;
  legs = has.legs;
  planned = has.planned;
  same_guest = λ e. cc;
  in_memory = ne;
  cyclic = tt;
  halted_inside = has.is_fault;
}
no_machine image store OtherGuest rules has ne = absurd has.is_fault
no_machine image store Memory rules has ne = absurd (ne refl)

-- stores were joined to a backup's own, and it went to where all of them lead
pub has_caught : (old mid new : BackupView) (stores : List StoreView) → old.store.guest ≡ guest_of old.image → mid ≡ record old { store = mid.store } →
    AreJoinedTo old.store stores mid.store → IsStore mid.store → new.image ≡ mid.image → new.store ≡ mid.store → IsPosition mid.store new.position →
    length new.position.counts ≡ mid.store.guest.harts → ArePlanned mid.store new.position new.legs → IsPlan (guest_of new.image) new.legs →
    IsOutcome new.image new.legs new.machine → (GoOnFrom mid.legs new.legs → new.last_steps ≡ sum new.position.counts - sum mid.position.counts) →
    ((GoOnFrom mid.legs new.legs → ⊥) → new.last_steps ≡ sum new.position.counts) → HasCaughtUp old stores new
has_caught old mid new stores guest rest joined rules image store position harts planned plan outcome on anew =
    let legs : mid.legs ≡ old.legs = ap (λ (b : BackupView). b.legs) rest in
    let was : mid.position ≡ old.position = ap (λ (b : BackupView). b.position) rest in
    let as_old : new.image ≡ old.image = image ∙ ap (λ (b : BackupView). b.image) rest in
    let own : mid.store.guest ≡ guest_of new.image =
    joined_guest old.store stores mid.store joined ∙ guest ∙ ap (λ (i : ImageContents). guest_of i) (sym as_old) in
    record {
      image = as_old;
      guest = guest;
      joined = subst (λ (s : StoreView). AreJoinedTo old.store stores s) (sym store) joined;
      rules = subst (λ (s : StoreView). IsStore s) (sym store) rules;
      position = subst (λ (s : StoreView). IsPosition s new.position) (sym store) position;
      planned = subst (λ (s : StoreView). ArePlanned s new.position new.legs) (sym store) planned;
      outcome = outcome;
      counts = has_counts new.image mid.store new.position new.legs new.machine rules position planned plan outcome;
      harts = (harts ∙ ap (λ (g : GuestParts). g.harts) own, has_harts new.image new.legs new.machine outcome);
      on = subst (λ (p : Position). GoOnFrom old.legs new.legs → new.last_steps ≡ sum new.position.counts - sum p.counts) was
          (subst (λ (l : List PlannedLeg). GoOnFrom l new.legs → new.last_steps ≡ sum new.position.counts - sum mid.position.counts) legs on);
      anew = subst (λ (l : List PlannedLeg). (GoOnFrom l new.legs → ⊥) → new.last_steps ≡ sum new.position.counts) legs anew;
    }

-- where the primary begins
pub at_position : (old : BackupView) (stores : List StoreView) (new : BackupView) → HasCaughtUp old stores new → (term : ℕ)
    (start : MachineState) (opening : OpeningParts) (marks : List ℕ) → start ≡ new.machine → opening ≡ opening_from (guest_of new.image) term new.position →
    ((hart : ℕ) → count_at marks hart ≡ noted_in new.legs hart) → IsAtPosition old.image (old.store ∷ stores) term start opening marks
at_position old stores new has term start opening marks begins opened noted = record {
  joined = new.store;
  are_joined = joined_first (guest_of old.image) old.store stores new.store has.guest has.joined;
  position = new.position;
  replayed = record {
    rules = has.rules;
    is_position = has.position;
    legs = new.legs;
    planned = has.planned;
    outcome = rw begins (rw (← has.image) has.outcome);
    counts = rw begins has.counts;
    noted = noted;
  };
  opened = opened ∙ ap (λ (image : ImageContents). opening_from (guest_of image) term new.position) has.image;
}
