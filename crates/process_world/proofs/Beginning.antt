-- The first world, in which there are empty disks and nobody runs, is tied to the theory.
use Rattle.std.proofs.Common.{◌≡◌, inl, inr, ℕ, slice_get, Option, Some, None, refl, sym, subst, ◌∙◌}
use Rattle.std.specs.List.{range_with_len}
use Rattle.std.proofs.lemmas.Bool.{cases_lt}
use Rattle.interleaving.specs.Stored.{system_of}
use Rattle.rv32_hart.specs.Hart.{Hart}
use Rattle.rv32_hart.specs.Hardware.{hardware}
use Rattle.guest_image.specs.Image.{ImageContents, guest_of}
use Rattle.guest_image.specs.Machine.{boot_machine}
use Rattle.hart_lease.specs.Runs.{steps_taken}
use Rattle.log_join.specs.Families.{no_terms}
use Rattle.hart_replay.specs.Images.{boot_of}
use Rattle.hart_replay.proofs.walking.Outcomes.{booted_none}
use Rattle.book_recorder.specs.TermBooks.{AreTheory}
use Rattle.book_recorder.proofs.Books.{are_theory}
use Rattle.fenced_theory.specs.Machines.{IsRecorder}
use Rattle.fenced_theory.specs.Worlds as theory
use Rattle.fenced_theory.proofs.Growing.{some_same, some_none}
use Rattle.fenced_theory.proofs.Recording.{of_logs}
use Rattle.keeper_disks.specs.Disks.{Disk}
use Rattle.keeper_disks.specs.Standing.{StandsOn}
use Rattle.keeper_disks.proofs.Standings.{disks_begin}
use Rattle.failover_world.specs.machinery.Tied.{Books}
use Rattle.process_world.specs.Worlds.{ProcessWorld, Begins, led_as}
use Rattle.process_world.specs.machinery.Tied.{IsTied}
use Rattle.process_world.proofs.Lists.{none_in, none_at}

-- the theory counts a hart's steps as its machine does
no_count : (pages : ℕ) (h : Option Hart) → (system_of (hardware pages)).count h ≡ steps_taken h
no_count pages None = refl
no_count pages (Some h) = refl

module _ (image : ImageContents) (keepers need : ℕ) (w : ProcessWorld) (is : Begins image keepers need w) where
  -- how the theory has books
  its_theory : AreTheory w.image.pages
  its_theory = are_theory w.image.pages

  -- by a recorder, as no hart of boot has taken a step
  its_recorder : IsRecorder (system_of (hardware w.image.pages)) its_theory.outs (boot_of w.image)
  its_recorder =
      of_logs (system_of (hardware w.image.pages)) its_theory.outs (boot_of w.image)
      (λ hart. no_count w.image.pages (slice_get (boot_machine w.image).harts hart) ∙ booted_none w.image.harts (range_with_len 0 w.image.harts) hart)

  -- nobody runs there
  abbrev world : theory.World (Books w.image.pages its_theory)
  world = theory.empty_world (guest_of w.image)

  -- each disk that there is is empty
  stands : (k : ℕ) (d : Disk) → w.disks k ≡ Some d → StandsOn (guest_of w.image) world k d
  stands k d at =
      elim (cases_lt k keepers) [
        | inl less ↦
            subst (StandsOn (guest_of w.image) world k) (some_same (is.there k less) at)
            (disks_begin (Books w.image.pages its_theory) (guest_of w.image) world k refl refl refl)
        | inr over ↦ some_none at (is.others k over)
      ]

  -- so the world is tied to it
  pub first_tied : IsTied w
  first_tied =
      record {
        are_theory = its_theory;
        is_recorder = its_recorder;
        terms = no_terms;
        world = world;
        comes = theory.Nobody;
        terms_are = refl;
        is_history = record {
          is_history = record { none = refl; terms = λ number past at. some_none at refl };
          true_logs = λ number past at. some_none at refl;
        };
        granted = record {
          each = λ n l at. none_at w.led n l is.none_led at;
          apart = λ n m l k at also e. none_at w.led n l is.none_led at;
          no_other = λ u p at. some_none at refl;
        };
        leaders = λ n l at. none_at w.led n (led_as l) is.none_led at;
        sent = sym is.no_frames;
        standing = stands;
        said = λ a has hart. none_in w.said a is.none_said has;
        only_said = λ term keeper hart none. refl;
        handed = λ h has. none_in w.handed h is.none_handed has;
        told = λ a has. none_in w.told a is.none_told has;
        heard = λ c t number word at had. none_at w.clients c t is.no_clients at;
      }
