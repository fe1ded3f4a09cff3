-- Where a position is: its opening, and the counts of the machine there.
use Rattle.std.proofs.Common.{◌≡◌, ℕ, ◌<◌, ◌≤◌, ◌^◌, List, [], ◌∷◌, length, sym, ap, subst, ◌∙◌, arith}
use Rattle.std.specs.List.{range_with_len, AllByRecursion}
use Rattle.std.specs.Prelude.{All}
use Rattle.std.proofs.lemmas.List.{get_or_default}
use Rattle.std.proofs.Math.Path.{fun_ext}
use Rattle.ft_types.specs.Counts.{count_at, IsCount}
use Rattle.ft_types.specs.Guests.{GuestParts, IsGuest}
use Rattle.fragment_codec.specs.Rules.{OpeningParts, IsOpening}
use Rattle.log_join.specs.Cells.{One}
use Rattle.log_join.specs.Stores.{StoreView, opening_at, IsStore}
use Rattle.closed_cut.specs.Position.{IsPosition, NoTop, Top}
use Rattle.ft_types.specs.declared.position.Position.{Position}
use Rattle.guest_image.specs.Image.{ImageContents, guest_of}
use Rattle.guest_image.specs.Machine.{MachineState, boot_machine}
use Rattle.hart_lease.specs.Runs.{counts_of}
use Rattle.hart_replay.specs.declared.plans.PlannedLeg.{PlannedLeg}
use Rattle.hart_replay.specs.Plans.{GoOn, IsPlan, EndAt}
use Rattle.hart_replay.specs.Laws.{ArePlanned}
use Rattle.hart_replay.specs.Replays.{LegsLead, IsOutcome}
use Rattle.go_live.specs.Lives.{opening_from}
use Rattle.hart_replay.proofs.walking.Outcomes.{booted_none, booted_length, left_counts, left_as_large}
use Rattle.hart_replay.proofs.failovers.Books.{counts_at_boot}
use Rattle.hart_replay.proofs.failovers.Positions.{stops_opened}

at_boot : (image : ImageContents) → counts_of (boot_machine image) ≡ (λ hart. 0)
at_boot image = fun_ext (booted_none image.harts (range_with_len 0 image.harts))

-- what legs leave, where there is one
last_counts : (counts : List ℕ) (leg : PlannedLeg) (legs : List PlannedLeg) (m n : MachineState) → GoOn (counts_of m) (leg ∷ legs) → EndAt counts (leg ∷ legs) →
    LegsLead (leg ∷ legs) m n → counts_of n ≡ count_at counts
last_counts counts leg [] m n on ends (next, leads, same) =
    ap counts_of same ∙ left_counts leg m next (fun_ext on.0) leads ∙ ap count_at ends
last_counts counts leg (other ∷ legs) m n on ends (next, leads, rest) =
    last_counts counts other legs next n
    (subst (λ (now : ℕ → ℕ). GoOn now (other ∷ legs)) (sym (left_counts leg m next (fun_ext on.0) leads)) on.1) ends.1 rest

-- the machine at a position has its counts
pub has_counts : (image : ImageContents) (store : StoreView) (position : Position) (legs : List PlannedLeg) (m : MachineState) → IsStore store →
    IsPosition store position → ArePlanned store position legs → IsPlan (guest_of image) legs → IsOutcome image legs m →
    (hart : ℕ) → counts_of m hart ≡ count_at position.counts hart
has_counts image store position [] m rules is planned plan same hart =
    ap (λ (n : MachineState). counts_of n hart) same
    ∙ ap (λ (now : ℕ → ℕ). now hart) (at_boot image)
    ∙ sym (counts_at_boot store position rules is (sym planned.terms) hart)
has_counts image store position (leg ∷ legs) m rules is planned plan leads hart =
    ap (λ (now : ℕ → ℕ). now hart)
    (last_counts position.counts leg legs (boot_machine image) m (subst (λ (now : ℕ → ℕ). GoOn now (leg ∷ legs)) (sym (at_boot image)) plan.on)
    planned.ends leads)

-- the term of a position is that of an opening, or 0
pub term_below : (store : StoreView) (position : Position) (term : ℕ) → IsPosition store position → 1 ≤ term →
    ((other : ℕ) (o : OpeningParts) → opening_at store other ≡ One o → other < term) → position.term < term
term_below store position term (NoTop none is_boot counts top) granted below = omega (arith, is_boot, granted)
term_below store position term (Top walked) granted below =
    let (o, opens) = stops_opened store position.top position.term (count_at position.counts) walked.root walked.stops in below position.term o opens

lead_harts : (legs : List PlannedLeg) (m n : MachineState) → LegsLead legs m n → length n.harts ≡ length m.harts
lead_harts [] m n same = ap (λ (m : MachineState). length m.harts) same
lead_harts (leg ∷ legs) m n (next, leads, rest) = lead_harts legs next n rest ∙ (left_as_large leg m next leads).harts

-- and as many harts as the image
pub has_harts : (image : ImageContents) (legs : List PlannedLeg) (m : MachineState) → IsOutcome image legs m → length m.harts ≡ image.harts
has_harts image legs m leads = lead_harts legs (boot_machine image) m leads ∙ booted_length image.harts 0 image.harts

zeros : (row : List ℕ) → ((hart : ℕ) → count_at row hart ≡ 0) → All (λ n. n ≡ 0) row
zeros row none k d within = get_or_default row k d 0 within ∙ none k

-- an opening that goes on from a position keeps the rules
pub opening_fits : (guest : GuestParts) (term : ℕ) (position : Position) → IsGuest guest → term < 2 ^ 32 →
    length position.counts ≡ guest.harts → position.term < term → AllByRecursion IsCount position.counts →
    (position.term ≡ 0 → (hart : ℕ) → count_at position.counts hart ≡ 0) → IsOpening (opening_from guest term position)
opening_fits guest term position rules fits harts later counts boot =
    record {
      guest = rules;
      granted = omega (arith, later);
      term = fits;
      parent = later;
      base = harts;
      counts = counts;
      boot = λ at_boot. zeros position.counts (boot at_boot);
    }
