-- What a list of events comes to, and what is written of it.
use Rattle.std.specs.Prelude.{◌≡◌, ◌≢◌, ◌⊎◌, ℕ, ◌+◌, List, [], ◌∷◌, ◌++◌, length, replicate, true, Option, Some, Result, Ok, Err, codes, decimal, if◌then◌else◌}
use Rattle.std.specs.List.{flat_map}
use Rattle.ft_types.specs.Text.{line, word}
use Rattle.ft_types.specs.Devices.{Writes}
use Rattle.guest_image.specs.Image.{ImageContents, guest_of}
use Rattle.guest_image.specs.Text.{machine_text}
use Rattle.fragment_codec.specs.declared.frame.Frame.TheVariants.{Opening}
use Rattle.log_join.specs.Stores.{nothing}
use Rattle.scripts.specs.declared.event.Event.{Event}
use Rattle.failover_world.specs.declared.fault.WorldFault.{WorldFault}
use Rattle.failover_world.specs.declared.fault.WorldFault.TheVariants.{Memory as NoMemory}
use Rattle.term_gate.specs.TermGates.{IsNewGate}
use Rattle.primary.specs.declared.released.Released.{Released}
use Rattle.primary.specs.Primaries.{IsBooted}
use Rattle.failover_world.specs.Worlds.{WorldView}
use Rattle.failover_world.specs.Happenings.{Happens}
use Rattle.failover_world.specs.Refusals.{Refuses, IsLeft}
use Rattle.failover_world.specs.Promises.{IsOne, IsOfMachine, IsKept, AreHeld, AreAckedInside, AreNotesReleased, NoneIsNoted}
use Rattle.log_streams.specs.declared.faults.StreamsFault.TheVariants.{Write}
use Rattle.command_line.specs.declared.faults.CommandFault.{CommandFault}
use Rattle.command_line.specs.declared.faults.CommandFault.TheVariants.{World, Streams, Memory}
use Rattle.command_line.specs.Writing.{WritesSome}

-- ---- worlds

-- a primary of term 1 that runs from boot, its opening sent, keepers to which nothing came, and a gate that let nothing out
pub record Begins (image : ImageContents) (keepers need : ℕ) (w : WorldView) : Type 0 where
  pub image_is : w.image ≡ image
  pub quorum : (w.keepers ≡ keepers) × (w.need ≡ need)
  pub primary : IsBooted image w.primary
  pub runs : (w.runs ≡ true) × (w.stopped ≡ [])
  pub sent : w.sent ≡ Opening w.primary.opening ∷ []
  pub stores : w.stores ≡ replicate keepers (Some (nothing (guest_of image)))
  pub gate : IsNewGate w.gate 1 keepers need image.harts []
  pub released : w.released ≡ []

-- the events happened, one after the other
abbrev pub HappenAll : WorldView → List Event → WorldView → Type 0
HappenAll v [] w = w ≡ v
HappenAll v (event ∷ events) w = (next : WorldView) × Happens v event next × HappenAll next events w

-- Those events happened that stand before the one of this line, where the first has line 1, and that one was refused for this fault and
-- changed no more than one that is refused may.
pub record RefusesOne (v : WorldView) (events : List Event) (line_number : ℕ) (fault : WorldFault) (w : WorldView) : Type 0 where
  pub front : List Event
  pub event : Event
  pub back : List Event
  pub parts : events ≡ front ++ event ∷ back
  pub number : line_number ≡ length front + 1
  pub before : WorldView
  pub happened : HappenAll v front before
  pub refused : Refuses before event fault
  pub left : IsLeft before event w

-- what went out keeps what is promised of it
pub record KeepsPromises (w : WorldView) : Type 0 where
  pub one : IsOne w
  pub machine : IsOfMachine w
  pub kept : IsKept w
  pub held : AreHeld w
  pub acknowledged : AreAckedInside w
  pub noted : AreNotesReleased w
  pub fresh : NoneIsNoted w

-- all events happened to such a world
abbrev pub ComesTo : ImageContents → ℕ → ℕ → List Event → WorldView → Type 0
ComesTo image keepers need events w = (start : WorldView) × Begins image keepers need start × HappenAll start events w × KeepsPromises w

-- one of them was refused
abbrev pub StopsAt : ImageContents → ℕ → ℕ → List Event → ℕ → WorldFault → WorldView → Type 0
StopsAt image keepers need events line_number fault w =
    (start : WorldView) × Begins image keepers need start × RefusesOne start events line_number fault w × KeepsPromises w

-- ---- texts

-- an output that went out, with the term in which it did
unfoldable pub released_line : Released → List ℕ
released_line r = codes "term " ++ decimal r.term ++ codes " hart " ++ decimal r.output.hart ++ codes " number " ++ decimal r.output.number
    ++ line (codes " step " ++ decimal r.output.step ++ codes " word " ++ word r.output.word)

-- all that went out, in the order in which it did
abbrev pub released_text : WorldView → List ℕ
released_text w = flat_map released_line w.released

-- the machine of the primary that runs
abbrev pub primary_text : WorldView → List ℕ
primary_text w = if w.runs then machine_text w.primary.book.machine else line (codes "no primary")

abbrev pub world_text : WorldView → List ℕ
world_text w = released_text w ++ primary_text w

-- ---- what is written

-- What went out and the primary's machine, where all events happened. Where one was refused, what went out until then, or a beginning of it
-- where the writer failed. Where there was no memory for a world, nothing.
abbrev pub FailsOver : {A : Type 0} → ImageContents → ℕ → ℕ → List Event → Result A CommandFault → Option (List ℕ) → Option (List ℕ) → ℕ → ℕ → Type 0
FailsOver {A} image keepers need events (Ok x) old new f g =
    (w : WorldView) × ComesTo image keepers need events w × Writes {A = A} {E = CommandFault} (Ok x) old new f g (world_text w)
FailsOver {A} image keepers need events (Err (Streams Write)) old new f g =
    (w : WorldView) × ComesTo image keepers need events w × Writes {A = A} {E = CommandFault} (Err (Streams Write)) old new f g (world_text w)
FailsOver image keepers need events (Err (World line_number fault)) old new f g =
    (w : WorldView) × StopsAt image keepers need events line_number fault w × (fault ≢ NoMemory) × WritesSome old new f g (released_text w)
FailsOver image keepers need events (Err Memory) old new f g =
    ((new ≡ old) × (g ≡ f)) ⊎
    ((w : WorldView) × (line_number : ℕ) × StopsAt image keepers need events line_number NoMemory w × WritesSome old new f g (released_text w))
FailsOver image keepers need events (Err fault) old new f g = ⊥

-- the fault of an event in this line: a private word
abbrev pub fault_at : ℕ → WorldFault → CommandFault
fault_at line_number NoMemory = Memory
fault_at line_number fault = World line_number fault

-- what came of the events, in a world that there is: a private word
abbrev pub Applies : {A : Type 0} → WorldView → List Event → Result A CommandFault → WorldView → Type 0
Applies v events (Ok x) w = HappenAll v events w
Applies v events (Err (World line_number fault)) w = RefusesOne v events line_number fault w × (fault ≢ NoMemory)
Applies v events (Err Memory) w = (line_number : ℕ) × RefusesOne v events line_number NoMemory w
Applies v events (Err fault) w = ⊥
