-- A primary goes on for a round.
use Rattle.std.proofs.Common.{◌≡◌, ℕ, refl, inl, sym, subst}
use Rattle.primary.proofs.Gates.{was_offered}
use Rattle.primary.proofs.Waiting.{all_stay}
use Rattle.leading.specs.Leaders.{LeaderView}
use Rattle.leading.specs.declared.inputs.Spacing.{Spacing}
use Rattle.leading.proofs.Onward.{goes_further}
use Rattle.failover_world.proofs.Recorded.{comes_of}
use Rattle.process_world.specs.Worlds.{ProcessWorld, Leads}
use Rattle.process_world.specs.Happenings.{IsRoundOf, led_by}
use Rattle.process_world.specs.machinery.Tied.{IsTied}
use Rattle.process_world.proofs.Terms.{steps_on}

-- what a round leaves
round_leaves : (old new : LeaderView) (spacing : Spacing) (steps : ℕ) → IsRoundOf spacing steps old new →
    new ≡ record old { primary = record old.primary { book = new.primary.book }; gate = new.gate; queues = new.queues }
round_leaves old new spacing steps round = λ i.
    record {
      primary = record { opening = round.opening i; book = new.primary.book; sealed = round.sealed i };
      gate = new.gate;
      queues = new.queues;
      released = round.released i;
    }

-- a primary goes on for a round
pub leads_round : (w : ProcessWorld) (is : IsTied w) (n : ℕ) (old new : LeaderView) (spacing : Spacing) (steps : ℕ) → Leads w n old →
    IsRoundOf spacing steps old new → IsTied (record w { led = led_by w n new })
leads_round w is n old new spacing steps at round =
    let on = goes_further old.primary.book round.round.given new.primary.book round.round.handed round.round.on.on in
    subst (λ (l : LeaderView). IsTied (record w { led = led_by w n l })) (sym (round_leaves old new spacing steps round))
    (steps_on w is n old at new.primary.book (comes_of old.primary.book new.primary.book on) on.primary new.gate new.queues
    (was_offered old.gate new.gate new.gate round.gate refl refl (inl refl)) (all_stay new.gate.gate new.primary.book.machine round.offered)
    on.after on.notes)
