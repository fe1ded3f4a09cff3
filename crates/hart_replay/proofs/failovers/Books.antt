-- A book that begins at a position of honest frames makes the history one term longer.
use Rattle.std.proofs.Common.{◌≡◌, ◌<◌, ℕ, zero, suc, List, [], ◌∷◌, length, slice_get, Some, refl, sym, ap, subst, ◌∙◌, inl, inr, arith}
use Rattle.std.proofs.Math.Path.{fun_ext}
use Rattle.std.specs.List.{range_with_len}
use Rattle.std.specs.Prelude.{map as list_map}
use Rattle.ft_types.specs.Counts.{count_at}
use Rattle.interleaving.specs.Machine.{counts}
use Rattle.interleaving.specs.Stored.{system_of, view}
use Rattle.interleaving.proofs.Put.{same_or_not}
use Rattle.rv32_hart.specs.Hart.{boot_hart}
use Rattle.rv32_hart.specs.Hardware.{hardware}
use Rattle.guest_image.specs.Image.{ImageContents}
use Rattle.guest_image.specs.Machine.{MachineState, boot_machine}
use Rattle.page_book.specs.Books.{BookView}
use Rattle.book_modes.specs.Recordings.{RecordingView}
use Rattle.book_modes.specs.Hearings.{HartMachine}
use Rattle.fragment_codec.specs.Rules.{OpeningParts}
use Rattle.hart_lease.specs.Runs.{counts_of, steps_taken}
use Rattle.log_join.specs.Stores.{StoreView, IsStore}
use Rattle.closed_cut.specs.Position.{IsPosition, NoTop, Top}
use Rattle.ft_types.specs.declared.position.Position.{Position}
use Rattle.closed_cut.proofs.Chains.{term_above}
use Rattle.hart_replay.specs.Histories.{IsPlace, machine_in}
use Rattle.hart_replay.specs.Primaries.{IsTermOfBook, unsealed}
use Rattle.hart_replay.specs.Images.{boot_of, machine_of}
use Rattle.hart_replay.specs.Failovers.{OutcomesBegin, BooksHaveCounts, BooksGoLive, BooksGoOn, StoresOfImageStay, LaterTermsOfImage}
use Rattle.hart_replay.proofs.honesty.Primaries.{books_are_terms}
use Rattle.hart_replay.proofs.honesty.Sealing.{unsealed_is_of_book}
use Rattle.hart_replay.proofs.honesty.Replays.{at_position, boot_pages, legs_keep_pages}
use Rattle.hart_replay.proofs.failovers.Positions.{last_of, positions_are_cuts, stops_opened}
use Rattle.hart_replay.proofs.honesty.Images.{honest_in, image_goes_on}
use Rattle.hart_replay.proofs.failovers.Longer.{new_terms_grow, below_was, later_terms_are_new}
use Rattle.log_join.proofs.Families.{honest_stay}
use Rattle.interleaving.specs.Lists.{put}

pub outcomes_begin : OutcomesBegin
outcomes_begin image history joined position legs book rules honest planned outcome primary =
    record {
      primary = primary;
      pages = legs_keep_pages legs (boot_machine image) book.start outcome ∙ boot_pages image;
      start = at_position image legs history joined position rules (honest_in image history joined honest) planned book.start outcome;
    }

-- no hart of boot has taken a step
none_taken : (harts : ℕ) (numbers : List ℕ) (hart : ℕ) → steps_taken (slice_get (list_map (boot_hart harts) numbers) hart) ≡ 0
unfolding boot_hart
none_taken harts [] hart = refl
none_taken harts (n ∷ numbers) zero = refl
none_taken harts (n ∷ numbers) (suc hart) = none_taken harts numbers hart

-- the term of a book that began at boot, before anything of it is sealed
pub unsealed_from_boot : (image : ImageContents) (book : BookView RecordingView) (opening : OpeningParts) → book.start ≡ boot_machine image →
    ((hart : ℕ) → count_at opening.base hart ≡ 0) → IsTermOfBook book (unsealed opening book)
unsealed_from_boot image book opening start base =
    unsealed_is_of_book book opening
    (λ hart. base hart ∙ sym (none_taken image.harts (range_with_len 0 image.harts) hart) ∙ ap (λ (m : MachineState). counts_of m hart) (sym start))

-- a position of term 0 is at counts 0
pub counts_at_boot : (store : StoreView) (position : Position) → IsStore store → IsPosition store position → position.term ≡ 0 →
    (hart : ℕ) → count_at position.counts hart ≡ 0
counts_at_boot store position rules (NoTop none is_boot counts top) at_boot hart = counts hart
counts_at_boot store position rules (Top walked) at_boot hart =
    let (o, opens) = stops_opened store position.top position.term (count_at position.counts) walked.root walked.stops in
    let above = (term_above store position.term o rules opens).1 in absurd (omega (arith, above, at_boot))

pub books_have_counts : BooksHaveCounts
books_have_counts image history joined position legs book rules honest is_position planned begins hart =
    ap (λ (m : HartMachine). counts (system_of (hardware image.pages)) m hart) begins.start ∙ there
  where
    there : counts (system_of (hardware image.pages)) (machine_of image history position.term (count_at position.counts)) hart ≡ count_at position.counts hart
    there = elim (same_or_not position.term 0) [
      | inl at_boot ↦
          ap (λ (m : HartMachine). counts (system_of (hardware image.pages)) m hart) (is_boot at_boot)
          ∙ none_taken image.harts (range_with_len 0 image.harts) hart
          ∙ sym (counts_at_boot joined position rules is_position at_boot hart)
      | inr other ↦ (positions_are_cuts (system_of (hardware image.pages)) (boot_of image) history joined position legs rules
          (honest_in image history joined honest) planned other).counts hart
    ]
      where
        is_boot : position.term ≡ 0 → machine_of image history position.term (count_at position.counts) ≡ boot_of image
        is_boot at_boot =
            ap (λ (t : ℕ). machine_of image history t (count_at position.counts)) at_boot
            ∙ ap (λ p. machine_in (system_of (hardware image.pages)) (boot_of image) p (count_at position.counts)) honest.is_history.is_history.none

pub books_go_live : BooksGoLive
books_go_live image history joined position legs number book past rules honest is_position planned new later begins its parent =
    image_goes_on image history number past honest.is_history new
    (books_are_terms image history number book past begins.primary begins.pages its (subst (λ (t : ℕ). t < number) (sym parent) later)
    (begins.start
    ∙ ap (machine_of image history position.term) (sym same_counts)
    ∙ ap (λ (t : ℕ). machine_of image history t (counts_of book.start)) (sym parent))
    (subst (λ (t : ℕ). IsPlace history t (counts_of book.start)) (sym parent)
    (subst (IsPlace history position.term) (sym same_counts) place)))
  where
    same_counts : counts_of book.start ≡ count_at position.counts
    same_counts = fun_ext (books_have_counts image history joined position legs book rules honest is_position planned begins)

    place : IsPlace history position.term (count_at position.counts)
    place = elim (same_or_not position.term 0) [
      | inl at_boot ↦ inl at_boot
      | inr other ↦ inr (last_of (system_of (hardware image.pages)) (boot_of image) history joined position legs rules
          (honest_in image history joined honest) planned other)
    ]

pub books_go_on : BooksGoOn
books_go_on image history term cut b c begins start primary =
    record {
      primary = primary;
      pages = ap (λ (m : MachineState). length m.pages) start ∙ begins.pages;
      start = ap (view (hardware image.pages)) start ∙ begins.start;
    }

pub stores_of_image_stay : StoresOfImageStay
stores_of_image_stay image history number past store new term its =
    record {
      is_history = image_goes_on image history number past its.is_history new term;
      honest = honest_stay _ history (put history number (Some past)) store (new_terms_grow _ history number past new) its.honest;
    }

pub later_terms_of_image : LaterTermsOfImage
later_terms_of_image image history store last number its is_last less =
    let (older, new) =
    later_terms_are_new (system_of (hardware image.pages)) (boot_of image) history store last number (honest_in image history store its) is_last less in (
      record {
        is_history =
            record {
              is_history = older.is_history;
              true_logs = λ n past at. its.is_history.true_logs n past (below_was number history n past at).1;
            };
        honest = older.honest;
      },
      new,
    )
