-- What a backup keeps as frames come.
use Rattle.std.proofs.Common.{◌≡◌, ◌≢◌, Bool, ℕ, List, true, true≢false, refl, sym, ap, subst, ◌∙◌}
use Rattle.ft_types.specs.declared.position.Position.{Position}
use Rattle.fragment_codec.specs.Rules.{FragmentParts}
use Rattle.fragment_codec.specs.declared.frame.Frame.{Frame}
use Rattle.fragment_codec.specs.declared.frame.Frame.TheVariants.{Log}
use Rattle.log_join.specs.Answers.{answer_to}
use Rattle.log_join.specs.declared.answers.Put.{Put}
use Rattle.log_join.specs.declared.answers.Put.TheVariants as put
use Rattle.log_join.specs.Stores.{StoreView, IsJoin, IsStore, alone}
use Rattle.tracked_position.proofs.Growth.{HasOneMore, one_more}
use Rattle.guest_image.specs.Image.{ImageContents}
use Rattle.hart_replay.specs.declared.plans.PlannedLeg.{PlannedLeg}
use Rattle.warm_backup.specs.declared.stand.Stand.{Stand}
use Rattle.warm_backup.specs.declared.stand.Stand.TheVariants.{Boot, Led}
use Rattle.warm_backup.specs.machinery.Working.{legs_of, machine_of, unsure, IsBackup, StandsAt, TellsOn}
use Rattle.warm_backup.proofs.Telling.{led_up_too, up_to_date_too}

pub legs_unsure : (front : List PlannedLeg) (stand : Stand) (counts : List ℕ) → legs_of front (unsure stand) counts ≡ legs_of front stand counts
legs_unsure front (Boot m) counts = refl
legs_unsure front (Led w) counts = refl

pub machine_unsure : (stand : Stand) → machine_of (unsure stand) ≡ machine_of stand
machine_unsure (Boot m) = refl
machine_unsure (Led w) = refl

stands_unsure : (store new : StoreView) (front : List PlannedLeg) (stand : Stand) (counts : List ℕ) → StandsAt store front stand counts →
    StandsAt new front (unsure stand) counts
stands_unsure store new front (Boot m) counts is = is
stands_unsure store new front (Led w) counts is =
    record {
      settled = λ e. let was = is.settled e in record { idle = was.idle; ends = was.ends; whole = was.whole };
      straight = λ e. absurd (true≢false (sym e));
      led_up = λ e. absurd (true≢false (sym e));
      up_to_date = λ e. absurd (true≢false (sym e));
    }

module _ (image : ImageContents) (old new : StoreView) (front : List PlannedLeg) (stand : Stand) (p : Position) (kept : IsBackup image old front stand p)
    (guest : new.guest ≡ old.guest) where
  -- whatever came
  pub kept_unsure : IsBackup image new front (unsure stand) p
  kept_unsure =
      record {
        guest = guest ∙ kept.guest;
        keeps = rw (legs_unsure front stand p.counts, machine_unsure stand) kept.keeps;
        stands = stands_unsure old new front stand p.counts kept.stands;
      }

stands_on : (old new : StoreView) → IsStore new → (f : FragmentParts) → HasOneMore old new f → (front : List PlannedLeg) (stand : Stand) (counts : List ℕ) →
    StandsAt old front stand counts → StandsAt new front stand counts
stands_on old new rules f more front (Boot m) counts is = is
stands_on old new rules f more front (Led w) counts is =
    record {
      settled = is.settled;
      straight = is.straight;
      led_up = λ e. led_up_too old new rules f more front w (is.led_up e);
      up_to_date = λ e. up_to_date_too old new rules f more w (is.up_to_date e);
    }

-- a piece at a key where nothing was
pub kept_on : (image : ImageContents) (old new : StoreView) → IsStore new → (f : FragmentParts) → HasOneMore old new f → (front : List PlannedLeg)
    (stand : Stand) (p : Position) → IsBackup image old front stand p → IsBackup image new front stand p
kept_on image old new rules f more front stand p kept =
    record {
      guest = more.guest ∙ kept.guest;
      keeps = kept.keeps;
      stands = stands_on old new rules f more front stand p.counts kept.stands;
    }

-- a frame that came, with an answer by which the store tells on
pub still_kept : (image : ImageContents) (old new : StoreView) → IsStore new → (front : List PlannedLeg) (stand : Stand) (p : Position) →
    IsBackup image old front stand p → (frame : Frame) (piece : Bool) → (piece ≡ true → (f : FragmentParts) × (frame ≡ Log f)) → (answer : Put) →
    TellsOn piece answer → answer ≡ answer_to old frame → (answer ≢ put.OtherGuest → IsJoin old (alone frame) new) → (answer ≡ put.Same → new ≡ old) →
    (answer ≡ put.OtherGuest → new ≡ old) → IsBackup image new front stand p
still_kept image old new rules front stand p kept frame piece is_piece put.New tells is joined same other =
    let (f, log) = is_piece tells in
    let join = joined (λ (e : put.New ≡ put.OtherGuest). cc) in
    kept_on image old new rules f
    (one_more old new f (ap (answer_to old) (sym log) ∙ sym is) (subst (λ (x : Frame). IsJoin old (alone x) new) log join)) front stand p kept
still_kept image old new rules front stand p kept frame piece is_piece put.Same tells is joined same other =
    subst (λ (s : StoreView). IsBackup image s front stand p) (sym (same refl)) kept
still_kept image old new rules front stand p kept frame piece is_piece put.OtherGuest tells is joined same other =
    subst (λ (s : StoreView). IsBackup image s front stand p) (sym (other refl)) kept
still_kept image old new rules front stand p kept frame piece is_piece put.Clash tells is joined same other = absurd tells
