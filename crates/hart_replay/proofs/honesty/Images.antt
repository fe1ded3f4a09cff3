-- Histories of an image's machine as histories of any system.
use Rattle.std.proofs.Common.{◌≡◌, ℕ, Some, None, sym, subst, ◌∙◌, inl, inr}
use Rattle.interleaving.specs.Lists.{put}
use Rattle.interleaving.proofs.Put.{same_or_not, put_same, put_other}
use Rattle.interleaving.specs.Stored.{system_of}
use Rattle.rv32_hart.specs.Hardware.{hardware}
use Rattle.guest_image.specs.Image.{ImageContents}
use Rattle.book_modes.specs.Hearings.{IsTrueLog}
use Rattle.log_join.specs.Stores.{StoreView}
use Rattle.hart_replay.specs.Histories.{IsHonestStore}
use Rattle.hart_replay.specs.Images.{GuestTerm, GuestHistory, boot_of, IsTermOf, IsHistoryOf, IsHonestStoreOf}
use Rattle.hart_replay.proofs.failovers.Longer.{histories_go_on}

pub honest_in : (image : ImageContents) (history : GuestHistory) (store : StoreView) → IsHonestStoreOf image history store →
    IsHonestStore (system_of (hardware image.pages)) (boot_of image) history store
honest_in image history store its = record { is_history = its.is_history.is_history; honest = its.honest }

-- such a history may go on with a term that was not granted
pub image_goes_on : (image : ImageContents) (history : GuestHistory) (number : ℕ) (past : GuestTerm) → IsHistoryOf image history → history number ≡ None →
    IsTermOf image history number past → IsHistoryOf image (put history number (Some past))
image_goes_on image history number past its new term =
    record {
      is_history = histories_go_on (system_of (hardware image.pages)) (boot_of image) history number past its.is_history new term.is_term;
      true_logs = λ n q at. elim (same_or_not number n) [
        | inl same ↦
            let is : Some past ≡ Some q = sym (put_same history number n (Some past) same) ∙ at in
            let own : past ≡ q = cc in
            subst (λ (q : GuestTerm). IsTrueLog image.pages q.told.log q.told.start q.told.turns) own term.true_log
        | inr ne ↦ its.true_logs n q (sym (put_other history number n (Some past) ne) ∙ at)
      ];
    }
