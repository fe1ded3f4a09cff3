-- A turn, from its parts.
use Rattle.std.proofs.Common.{◌≡◌, true, false, List, [], ◌∷◌, ◌++◌, Option, None, Some, map, refl, sym, ap, subst, ◌∙◌, append_assoc, append-nil}
use Rattle.std.specs.Prelude.{Bool}
use Rattle.std.specs.Option.{option_to_list}
use Rattle.stations.specs.Acts.{Act, Does}
use Rattle.wire.specs.declared.acknowledgements.Acknowledgement.{Acknowledgement}
use Rattle.live_keeper.specs.Turns.{KeepingView, TakesEvents, are_logged, passes, Logs, LogsIf, TurnsKeeper}
use Rattle.live_keeper.specs.declared.events.Event.{Event}
use Rattle.live_keeper.specs.declared.events.KeeperDeed.{KeeperDeed}
use Rattle.live_keeper.specs.declared.events.KeeperDeed.TheVariants.{Say}

-- where nothing is to be logged, nothing is done with the files
pub turned_unlogged : (came : List Event) (acts : List Act → Type 0) (old new : KeepingView) (before behind : List KeeperDeed) → are_logged came ≡ false →
    TakesEvents old came new → behind ≡ before ++ passes came → (done : List KeeperDeed) × TurnsKeeper came acts acts old new done × (behind ≡ before ++ done)
turned_unlogged came acts old new before behind is takes passed = (
  passes came,
  (record {
    taken = new;
    said = None;
    takes = takes;
    logs = subst (λ (b : Bool). LogsIf b acts acts new.station new.station None) (sym is) (λ done was. subst acts (sym (append-nil done)) was, refl, refl);
    rest = refl;
    parts = sym (append-nil (passes came));
  }),
  passed,
)

-- where something is, that is done once, and what it acknowledges is said behind what was passed over
pub turned_logged : (came : List Event) (acts_before acts_behind : List Act → Type 0) (old taken new : KeepingView) (said : Option Acknowledgement)
    (before middle behind : List KeeperDeed) → are_logged came ≡ true → TakesEvents old came taken → middle ≡ before ++ passes came →
    Logs acts_before acts_behind taken.station new.station said → new ≡ record taken { station = new.station } →
    behind ≡ middle ++ map Say (option_to_list said) →
    (done : List KeeperDeed) × TurnsKeeper came acts_before acts_behind old new done × (behind ≡ before ++ done)
turned_logged came acts_before acts_behind old taken new said before middle behind is takes passed logs rest added = (
  passes came ++ map Say (option_to_list said),
  (record {
    taken = taken;
    said = said;
    takes = takes;
    logs = subst (λ (b : Bool). LogsIf b acts_before acts_behind taken.station new.station said) (sym is) logs;
    rest = rest;
    parts = refl;
  }),
  added ∙ ap (λ (ds : List KeeperDeed). ds ++ map Say (option_to_list said)) passed ∙ append_assoc before (passes came) (map Say (option_to_list said)),
)
