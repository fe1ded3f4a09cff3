-- A primary of term 1, from boot, nothing of whose log is cut.
use Rattle.std.proofs.Common.{◌≡◌, ◌∙◌, ◌≤◌, ℕ, List, length, replicate, ap, sym, arith}
use Rattle.std.proofs.lemmas.List.{length-replicate}
use Rattle.ft_types.specs.Counts.{count_at}
use Rattle.closed_cut.proofs.Chains.{zero_row}
use Rattle.guest_image.specs.Image.{ImageContents}
use Rattle.fragment_codec.specs.Rules.{OpeningParts}
use Rattle.hart_lease.specs.Runs.{counts_of}
use Rattle.book_modes.specs.Recordings.{RecordingView}
use Rattle.page_book.specs.Books.{BookView}
use Rattle.primary.specs.declared.granted.Primary.{Primary}
use Rattle.primary.specs.Primaries.{IsBooted}
use Rattle.log_streams.specs.Primary.{IsFirst}
use Rattle.log_streams.proofs.Ready.{harts_booted}

pub first_booted : (image : ImageContents) (p : Primary) → IsBooted image p → IsFirst p
first_booted image p is = record {
  opening = is.opening
      ∙ sym (ap (λ (o : OpeningParts). let x : OpeningParts = record { guest = o.guest; term = 1; parent = 0; base = replicate o.guest.harts 0 } in x) is.opening);
  uncut = is.uncut;
  harts = harts_booted image p is ∙ sym (ap (λ (o : OpeningParts). o.guest.harts) is.opening);
}

-- no count of it is cut
none_cut : (p : Primary) → IsFirst p → p.sealed.reached ≡ replicate p.opening.guest.harts 0
none_cut p first = first.uncut.0 ∙ ap (λ (o : OpeningParts). o.base) first.opening

pub harts_cut : (p : Primary) → IsFirst p → length p.sealed.reached ≡ p.opening.guest.harts
harts_cut p first = ap length (none_cut p first) ∙ length-replicate p.opening.guest.harts 0

pub cut_within : (p : Primary) → IsFirst p → (hart : ℕ) → count_at p.sealed.reached hart ≤ counts_of p.book.machine hart
cut_within p first hart =
    let none : count_at p.sealed.reached hart ≡ 0 =
    ap (λ (row : List ℕ). count_at row hart) (none_cut p first) ∙ zero_row p.opening.guest.harts hart in
    omega (arith, none)

-- with another book of as many harts
pub first_with : (p : Primary) (book : BookView RecordingView) → length book.machine.harts ≡ length p.book.machine.harts → IsFirst p →
    IsFirst (record p { book = book })
first_with p book same first = record { opening = first.opening; uncut = first.uncut; harts = same ∙ first.harts }
