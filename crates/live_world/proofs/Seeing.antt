-- Whoever hands a log over, over what it saw.
use Rattle.std.proofs.Common.{◌≡◌, ◌≤◌, ◌<◌, ◌+◌, ◌++◌, ℕ, List, [], ◌∷◌, None, Some, inl, inr, refl, sym, ap, subst}
use Rattle.ft_types.specs.Guests.{GuestParts}
use Rattle.stations.specs.Acts.{Act, SawLog, CutTo, Added, Synced, SawFence, Fenced, Failed, Does}
use Rattle.stations.specs.Handing.{IsHanded, IsHandedTo, IsNotFenced, IsNotHanded}
use Rattle.stations.specs.Logs.{IsFrontOf}
use Rattle.stations.specs.declared.faults.FenceFault.{FenceFault}
use Rattle.stations.specs.declared.faults.FenceFault.TheVariants.{Files as FilesOfFence, Fenced as WasFenced, Far}
use Rattle.stations.specs.declared.faults.LogFault.{LogFault}
use Rattle.stations.specs.declared.faults.LogFault.TheVariants.{Files, Frame as FrameAt, OtherGuest, Clash}
use Rattle.stations.specs.declared.reach.TheConstants.{TERM_REACH}
use Rattle.live_world.specs.Hands.{HasHanded, IsNotFencedOff, IsNotRead}
use Rattle.live_world.specs.declared.hand.HandedTo.{HandedTo}
use Rattle.live_world.specs.machinery.Seen.{LeavesSeen, TellsSeen}

leaves_more : (last : ℕ) (log mid left : List ℕ) (acts more : List Act) → LeavesSeen last log acts mid → LeavesSeen last mid more left →
    LeavesSeen last log (acts ++ more) left
leaves_more last log mid left [] more e l = subst (λ (x : List ℕ). LeavesSeen last x more left) e l
leaves_more last log mid left (SawLog bytes ∷ acts) more k l = (k.0, leaves_more last [] mid left acts more k.1 l)
leaves_more last log mid left (SawFence fence ∷ acts) more k l = (k.0, leaves_more last log mid left acts more k.1 l)
leaves_more last log mid left (Failed fault ∷ acts) more k l = absurd k
leaves_more last log mid left (CutTo size ∷ acts) more k l = leaves_more last log mid left acts more k l
leaves_more last log mid left (Added bytes ∷ acts) more k l = leaves_more last log mid left acts more k l
leaves_more last log mid left (Synced ∷ acts) more k l = leaves_more last log mid left acts more k l
leaves_more last log mid left (Fenced term ∷ acts) more k l = leaves_more last log mid left acts more k l

told_more : (last : ℕ) (a b : List ℕ) (next done : List Act) → LeavesSeen last a next b → TellsSeen last a done → TellsSeen last b (done ++ next)
told_more last a b next done l (log, acts, e, k) =
    (log, acts ++ next, ap (λ (x : List Act). x ++ next) e, leaves_more last log a b acts next k l)

-- what is seen is told
pub tells_seen : (last : ℕ) (a b : List ℕ) (next : List Act) → LeavesSeen last a next b → Does (TellsSeen last a) (TellsSeen last b) next
tells_seen last a b next l = λ done told. told_more last a b next done l told

-- what is told behind what there is was seen
pub record WasSeen (last : ℕ) (a : List ℕ) (next : List Act) (now : ℕ) (b : List ℕ) : Type 0 where
  pub same : last ≡ now
  pub left : LeavesSeen last a next b

seen_at : (last now : ℕ) (a b : List ℕ) (next : List Act) → TellsSeen now b (SawLog a ∷ SawFence last ∷ next) → WasSeen last a next now b
seen_at last now a b next (log, acts, e, l) =
    let same : last ≡ now = cc in
    let logs : a ≡ log = cc in
    let nexts : next ≡ acts = cc in
    record { same = same; left = rw (same, logs, nexts) l }

pub was_seen : (last now : ℕ) (a b : List ℕ) (next : List Act) → Does (TellsSeen last a) (TellsSeen now b) next → WasSeen last a next now b
was_seen last now a b next does = seen_at last now a b next (does (SawLog a ∷ SawFence last ∷ []) (a, [], refl, refl))

-- none of it failed
none_failed : (last now : ℕ) (a b : List ℕ) (next : List Act) → (LeavesSeen last a next b → ⊥) → Does (TellsSeen last a) (TellsSeen now b) next → ⊥
none_failed last now a b next never does = never (was_seen last now a b next does).left

pub not_fenced_off : (last now term : ℕ) (a b : List ℕ) (f : FenceFault) → IsNotFenced term (TellsSeen last a) (TellsSeen now b) f →
    IsNotFencedOff last term f
not_fenced_off last now term a b (WasFenced fence) not =
    let seen = was_seen last now a b (SawFence fence ∷ []) not.1 in
    (subst (λ (n : ℕ). term ≤ n) seen.left.0 not.0, seen.left.0)
not_fenced_off last now term a b (Far fence) not =
    let seen = was_seen last now a b (SawFence fence ∷ []) not.1 in
    (subst (λ (n : ℕ). n + TERM_REACH < term) seen.left.0 not.0, seen.left.0)
not_fenced_off last now term a b (FilesOfFence fault) (inl does) = none_failed last now a b (Failed fault ∷ []) (λ l. l) does
not_fenced_off last now term a b (FilesOfFence fault) (inr (seen, below, near, inl does)) =
    none_failed last now a b (SawFence seen ∷ Failed fault ∷ []) (λ l. l.1) does
not_fenced_off last now term a b (FilesOfFence fault) (inr (seen, below, near, inr does)) =
    none_failed last now a b (SawFence seen ∷ Fenced term ∷ Failed fault ∷ []) (λ l. l.1) does

pub not_read : (guest : GuestParts) (last now term : ℕ) (a b : List ℕ) (f : LogFault) → IsNotHanded guest (TellsSeen last a) (TellsSeen now b) f →
    IsNotRead guest (record { term = term; log = a }) f
not_read guest last now term a b (Files fault) (inl does) = absurd (none_failed last now a b (Failed fault ∷ []) (λ l. l) does)
not_read guest last now term a b (Files fault) (inr (log, memory, does)) = memory
not_read guest last now term a b (FrameAt fault) (log, frames, size, does, front) =
    let seen = was_seen last now a b (SawLog log ∷ []) does in
    (frames, size, subst (λ (x : List ℕ). IsFrontOf x frames size (Some fault)) seen.left.0 front)
not_read guest last now term a b OtherGuest (log, frames, size, does, front, other) =
    let seen = was_seen last now a b (SawLog log ∷ []) does in
    (frames, size, subst (λ (x : List ℕ). IsFrontOf x frames size None) seen.left.0 front, other)
not_read guest last now term a b Clash not = not

has_handed : (guest : GuestParts) (keeper last now term : ℕ) (a b frames : List ℕ) (handed : HandedTo) →
    IsHanded guest (TellsSeen last a) (TellsSeen now b) frames → IsHandedTo guest keeper term frames handed.bytes.items → handed.keeper ≡ keeper →
    handed.term ≡ term → HasHanded guest keeper (record { term = term; log = a }) handed
has_handed guest keeper last now term a b frames handed is line own at =
    let seen = was_seen last now a b (SawLog (frames ++ is.rest) ∷ []) is.acts in
    record {
      of_keeper = own;
      of_term = at;
      bytes = frames;
      rest = is.rest;
      parts = sym seen.left.0;
      frames = is.frames;
      splits = is.splits;
      partial = is.partial;
      line = line;
    }

-- of a log and a term that are those of what was read
pub has_handed_as : (guest : GuestParts) (keeper last now term at : ℕ) (a log b frames : List ℕ) (handed : HandedTo) → a ≡ log → term ≡ at →
    IsHanded guest (TellsSeen last a) (TellsSeen now b) frames → IsHandedTo guest keeper term frames handed.bytes.items → handed.keeper ≡ keeper →
    handed.term ≡ at → HasHanded guest keeper (record { term = at; log = log }) handed
has_handed_as guest keeper last now term at a log b frames handed same_log same_term is line own of_term =
    rw (← same_log) (has_handed guest keeper last now at a b frames handed is
    (subst (λ (n : ℕ). IsHandedTo guest keeper n frames handed.bytes.items) same_term line) own of_term)
