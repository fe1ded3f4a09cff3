-- What came of a list of events, and what is told of it.
use Rattle.std.proofs.Common.{◌≡◌, ℕ, ◌+◌, List, [], ◌∷◌, ◌++◌, length, Option, Result, Ok, Err, refl, subst, inr}
use Rattle.ft_types.specs.Devices.{Writes}
use Rattle.ft_types.specs.declared.errors.Failed.{Failed}
use Rattle.guest_image.specs.Image.{ImageContents}
use Rattle.scripts.specs.declared.event.Event.{Event}
use Rattle.failover_world.specs.declared.fault.WorldFault.{WorldFault}
use Rattle.failover_world.specs.declared.fault.WorldFault.TheVariants.{NoPrimary, NoKeeper, NoFrame, NotStopped, Step, Live, Ack, Memory as NoMemory}
use Rattle.failover_world.specs.Worlds.{WorldView}
use Rattle.failover_world.specs.Refusals.{Refuses, IsLeft}
use Rattle.failover_world.specs.Happenings.{Happens}
use Rattle.command_line.specs.declared.faults.CommandFault.{CommandFault}
use Rattle.command_line.specs.declared.faults.CommandFault.TheVariants.{Usage, File, Image, Script, Events, World, Uncovered, Streams, NoStep, Input, Live as NotLive, Memory}
use Rattle.command_line.specs.Writing.{as_told, WritesSome}
use Rattle.command_line.specs.FailingOver.{Begins, HappenAll, RefusesOne, KeepsPromises, FailsOver, Applies, fault_at, world_text, released_text}

-- one event more
pub happens_more : (v w x : WorldView) (front : List Event) (event : Event) → HappenAll v front w → Happens w event x → HappenAll v (front ++ event ∷ []) x
happens_more v w x [] event h s = (x, subst (λ (y : WorldView). Happens y event x) h s, refl)
happens_more v w x (first ∷ front) event h s = (h.0, h.1, happens_more h.0 w x front event h.2 s)

-- a world that begins so, by whatever name its numbers go
pub begins_as : (image : ImageContents) (k n keepers need : ℕ) (w : WorldView) → k ≡ keepers → n ≡ need → Begins image k n w → Begins image keepers need w
begins_as image k n keepers need w e f b = subst (λ (x : ℕ). Begins image x need w) e (subst (λ (y : ℕ). Begins image k y w) f b)

-- one event was refused
module _ (v : WorldView) (events front : List Event) (event : Event) (back : List Event) (n : ℕ) (before w : WorldView)
    (parts : events ≡ front ++ event ∷ back) (number : n ≡ length front + 1) (happened : HappenAll v front before) (left : IsLeft before event w) where
  one : (why : WorldFault) → Refuses before event why → RefusesOne v events n why w
  one why refused = record {
    front = front;
    event = event;
    back = back;
    parts = parts;
    number = number;
    before = before;
    happened = happened;
    refused = refused;
    left = left;
  }

  pub refused_applies : (why : WorldFault) → Refuses before event why → Applies {A = Unit {0}} v events (Err (fault_at n why)) w
  refused_applies NoPrimary r = (one NoPrimary r, λ is. cc)
  refused_applies NoKeeper r = (one NoKeeper r, λ is. cc)
  refused_applies NoFrame r = (one NoFrame r, λ is. cc)
  refused_applies NotStopped r = (one NotStopped r, λ is. cc)
  refused_applies (Step x) r = (one (Step x) r, λ is. cc)
  refused_applies (Live x) r = (one (Live x) r, λ is. cc)
  refused_applies (Ack x) r = (one (Ack x) r, λ is. cc)
  refused_applies NoMemory r = (n, one NoMemory r)

module _ (image : ImageContents) (keepers need : ℕ) (events : List Event) (start w : WorldView) (old new : Option (List ℕ)) (f g : ℕ) where
  -- all of them happened
  pub all_told : (r : Result (Unit {0}) Failed) → Begins image keepers need start → HappenAll start events w → KeepsPromises w →
      Writes r old new f g (world_text w) → FailsOver image keepers need events (as_told r) old new f g
  all_told (Ok x) b h k t = (w, (start, b, h, k), t)
  all_told (Err e) b h k t = (w, (start, b, h, k), t)

  -- one was refused
  pub refused_told : (fault : CommandFault) → Begins image keepers need start → Applies {A = Unit {0}} start events (Err fault) w → KeepsPromises w →
      WritesSome old new f g (released_text w) → FailsOver {A = Unit {0}} image keepers need events (Err fault) old new f g
  refused_told (World n x) b a k t = (w, (start, b, a.0, k), a.1, t)
  refused_told Memory b a k t = inr (w, a.0, (start, b, a.1, k), t)
  refused_told Usage b a k t = absurd a
  refused_told (File x) b a k t = absurd a
  refused_told (Image x) b a k t = absurd a
  refused_told (Script n) b a k t = absurd a
  refused_told (Events n) b a k t = absurd a
  refused_told (Uncovered page one other) b a k t = absurd a
  refused_told (Streams x) b a k t = absurd a
  refused_told (NoStep place) b a k t = absurd a
  refused_told Input b a k t = absurd a
  refused_told (NotLive n) b a k t = absurd a
