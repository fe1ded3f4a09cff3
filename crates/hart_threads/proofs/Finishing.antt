-- A leg's book, from its threads to its finisher.
use Rattle.std.proofs.Common.{◌≡◌, ◌<◌, ℕ, zero, suc, List, [], length, replicate, Option, None, Some, refl, sym, ap, ◌∙◌, append-nil}
use Rattle.ft_types.specs.declared.names.TheConstants.{HART_ROW}
use Rattle.guest_image.specs.Machine.{MachineState}
use Rattle.hart_lease.specs.OpenLeases.{OpenView, open_at}
use Rattle.book_modes.specs.declared.mode.Leg.{Leg}
use Rattle.page_book.specs.Books.{BookView}
use Rattle.page_book.specs.Reclaims.{EndsOpen, EndsFirst, GoesOnFrom}
use Rattle.hart_replay.specs.declared.plans.PlannedLeg.{PlannedLeg}
use Rattle.hart_replay.specs.Leading.{IsHeld, IsLeading, HasStopped, leg_of}

-- a book goes on from itself
pub goes_on_itself : (b : BookView Leg) → GoesOnFrom (λ r settled new now. new ≡ r) b b
goes_on_itself b = record { start = refl; journal = ([], sym (append-nil b.journal)); mode = refl }

-- ---- leases that end

ended_open : (machine : MachineState) (lent : Option OpenView) (hart : ℕ) (before after : Leg) →
    EndsOpen (λ r hart count taken new. new ≡ r) machine lent hart before after → after ≡ before
ended_open machine None hart before after same = same
ended_open machine (Some lent) hart before after same = same

pub ended_same : (machine : MachineState) (leases : List (Option OpenView)) (n : ℕ) (before after : Leg) →
    EndsFirst (λ r hart count taken new. new ≡ r) machine leases n before after → after ≡ before
ended_same machine leases zero before after same = same
ended_same machine leases (suc n) before after (between, first, one) =
    ended_open machine (open_at leases n) n between after one ∙ ended_same machine leases n before between first

-- the book goes on with the same leg, and no lease is open
pub left_leading : (b r : BookView Leg) → r ≡ record b { leases = replicate HART_ROW None; mode = r.mode } → r.mode ≡ b.mode →
    length r.machine.harts ≡ length r.start.harts → IsLeading b.start b.mode r
left_leading b r is mode harts =
    record {
      start = ap (λ (x : BookView Leg). x.start) is;
      mode = mode;
      idle = ap (λ (x : BookView Leg). x.leases) is;
      harts = harts ∙ ap (λ (x : BookView Leg). length x.start.harts) is;
    }

-- ---- a leg, from its first book to where none of its harts can go on

module _ (m : MachineState) (leg : PlannedLeg) (begun copy picked b : BookView Leg)
    (is : begun ≡ record { start = m; machine = m; journal = []; leases = replicate HART_ROW None; mode = leg_of leg }) (same : copy ≡ begun)
    (on : GoesOnFrom (λ r settled new now. new ≡ r) copy picked) where
  start_is : picked.start ≡ m
  start_is = on.start ∙ ap (λ (x : BookView Leg). x.start) (same ∙ is)

  mode_is : picked.mode ≡ leg_of leg
  mode_is = on.mode ∙ ap (λ (x : BookView Leg). x.mode) (same ∙ is)

  pub stops : IsLeading picked.start picked.mode b → ((hart : ℕ) → hart < length b.machine.harts → IsHeld b hart) → HasStopped m leg b
  stops leading held =
      record {
        leading =
            record {
              start = leading.start ∙ start_is;
              mode = leading.mode ∙ mode_is;
              idle = leading.idle;
              harts = leading.harts ∙ ap (λ (x : MachineState). length x.harts) start_is;
            };
        held = held;
      }
