-- A primary's run of an image in term 1, and the frames that tell of it.
use Rattle.std.specs.Prelude.{◌≡◌, ℕ, ◌==◌, List, [], ◌∷◌, ◌++◌, length, map, filter, replicate}
use Rattle.ft_types.specs.declared.names.TheConstants.{HART_ROW}
use Rattle.ft_types.specs.Guests.{GuestParts}
use Rattle.input_log.specs.declared.WaitingInput.{WaitingInput}
use Rattle.input_log.specs.Inputs.{inputs_of}
use Rattle.input_log.specs.Waiting.{bells_of, others_of}
use Rattle.scripts.specs.declared.script.Offered.{Offered}
use Rattle.edge_log.specs.EdgeLog.{edges_of}
use Rattle.guest_image.specs.Image.{ImageContents}
use Rattle.guest_image.specs.Machine.{boot_machine}
use Rattle.log_pieces.specs.Pieces.{SealedView, mark_of, book_log, IsCut}
use Rattle.fragment_codec.specs.declared.frame.Frame.{Frame}
use Rattle.fragment_codec.specs.declared.frame.Frame.TheVariants.{Opening}
use Rattle.page_book.specs.Books.{BookView}
use Rattle.book_modes.specs.Dues.{nothing_due}
use Rattle.book_modes.specs.Recordings.{RecordingView}
use Rattle.lease_rounds.specs.Running.{IsIdle, AreThrough, Continues, RunsOn, GoWithin, KeepsOffered}
use Rattle.primary.specs.declared.granted.Primary.{Primary}
use Rattle.primary.specs.Primaries.{IsUncut}

-- what a script offers to a hart, in its order
abbrev pub offered_to : List Offered → ℕ → List WaitingInput
offered_to script hart =
    map (λ o. record { not_before = o.not_before; input = o.input }) (filter (λ o. o.hart == hart) script)

-- all that a script offers waits behind what waited before
pub record AreOfferedTo (r : RecordingView) (script : List Offered) (new : RecordingView) : Type 0 where
  pub rest : new ≡ record r { desk = new.desk }
  pub others : (hart : ℕ) → others_of new.desk hart ≡ others_of r.desk hart ++ offered_to script hart
  pub bells : (hart : ℕ) → bells_of new.desk hart ≡ bells_of r.desk hart

-- A book of the image's machine at boot, whose log is empty: each hart may go to the limit, nothing is due, and what the script
-- offers waits.
pub record IsReady (image : ImageContents) (script : List Offered) (limit : ℕ) (b : BookView RecordingView) : Type 0 where
  pub start : b.start ≡ boot_machine image
  pub machine : b.machine ≡ boot_machine image
  pub journal : b.journal ≡ []
  pub idle : IsIdle b
  pub limits : b.mode.limits ≡ replicate image.harts limit
  pub edges : edges_of b.mode.edges ≡ []
  pub inputs : (hart : ℕ) → inputs_of b.mode.inputs hart ≡ []
  pub due : b.mode.due ≡ replicate HART_ROW nothing_due
  pub waiting : (hart : ℕ) → others_of b.mode.desk hart ≡ offered_to script hart

-- such a book went on until each hart was halted or at the limit
pub record IsRunOf (image : ImageContents) (script : List Offered) (limit : ℕ) (b : BookView RecordingView) : Type 0 where
  pub before : BookView RecordingView
  pub ready : IsReady image script limit before
  pub goes_on : Continues before b
  pub runs : RunsOn before b
  pub offered : KeepsOffered before b
  pub within : GoWithin before b
  pub limits : b.mode.limits ≡ before.mode.limits
  pub through : AreThrough b

-- such a run, in which the harts went on in this way
pub record IsRunBy (goes : BookView RecordingView → BookView RecordingView → Type 0) (image : ImageContents) (script : List Offered) (limit : ℕ)
    (b : BookView RecordingView) : Type 0 where
  pub run : IsRunOf image script limit b
  pub order : goes run.before b

-- a primary of term 1, from boot, nothing of whose log is cut
pub record IsFirst (p : Primary) : Type 0 where
  pub opening : p.opening ≡ record { guest = p.opening.guest; term = 1; parent = 0; base = replicate p.opening.guest.harts 0 }
  pub uncut : IsUncut p.opening.base p.sealed
  pub harts : length p.book.machine.harts ≡ p.opening.guest.harts

-- The opening of term 1, from boot, and behind it the pieces of the book's log, each hart's from count 0 and place 0 on.
pub record AreFramesOf (guest : GuestParts) (b : BookView RecordingView) (frames : List Frame) : Type 0 where
  pub pieces : List Frame
  pub opened : frames ≡ Opening (record { guest = guest; term = 1; parent = 0; base = replicate guest.harts 0 }) ∷ pieces
  pub uncut : SealedView
  pub from_boot : (hart : ℕ) → mark_of uncut hart ≡ record { place = 0; count = 0 }
  pub seals : SealedView
  pub cut : IsCut (book_log guest 1 b) guest.harts uncut pieces seals
