-- Histories of a guest image's machine.
use Rattle.std.specs.Prelude.{ℕ, ◌≡◌, List, Contains, Option, Some}
use Rattle.interleaving.specs.Stored.{system_of, view}
use Rattle.fragment_codec.specs.declared.frame.Frame.{Frame}
use Rattle.log_join.specs.Families.{Past, OfFamily, HonestStore}
use Rattle.log_join.specs.Stores.{StoreView}
use Rattle.rv32_hart.specs.Hart.{Hart}
use Rattle.rv32_hart.specs.Hardware.{hardware}
use Rattle.guest_image.specs.Image.{ImageContents}
use Rattle.guest_image.specs.Machine.{boot_machine}
use Rattle.book_modes.specs.Hearings.{HartMachine, IsTrueLog}
use Rattle.hart_replay.specs.Histories.{TermHistory, History, machine_at, IsTerm, IsHistory}

-- a term of machines as the theory sees them, and a history of them
abbrev pub GuestTerm : Type 0
GuestTerm = Past (TermHistory (Option Hart) (Option (List ℕ)))

abbrev pub GuestHistory : Type 0
GuestHistory = History (Option Hart) (Option (List ℕ))

module _ (image : ImageContents) where
  -- the image's machine at boot
  abbrev pub boot_of : HartMachine
  boot_of = view (hardware image.pages) (boot_machine image)

  -- the history's machine at a cut of a term
  abbrev pub machine_of : GuestHistory → ℕ → (ℕ → ℕ) → HartMachine
  machine_of history term cut = machine_at (system_of (hardware image.pages)) boot_of history term cut

  -- the term, under this number, is one of the history from the image's boot, and its log tells truly of bells too
  pub record IsTermOf (history : GuestHistory) (number : ℕ) (past : GuestTerm) : Type 0 where
    pub is_term : IsTerm (system_of (hardware image.pages)) boot_of history number past
    pub true_log : IsTrueLog image.pages past.told.log past.told.start past.told.turns

  -- so is each term
  pub record IsHistoryOf (history : GuestHistory) : Type 0 where
    pub is_history : IsHistory (system_of (hardware image.pages)) boot_of history
    pub true_logs : (number : ℕ) (past : GuestTerm) → history number ≡ Some past → IsTrueLog image.pages past.told.log past.told.start past.told.turns

  -- the frames, or a store's, are of a history from the image's boot
  pub record AreHonestOf (history : GuestHistory) (frames : List Frame) : Type 0 where
    pub is_history : IsHistoryOf history
    pub of_family : (frame : Frame) → Contains frames frame → OfFamily history frame

  pub record IsHonestStoreOf (history : GuestHistory) (store : StoreView) : Type 0 where
    pub is_history : IsHistoryOf history
    pub honest : HonestStore history store
