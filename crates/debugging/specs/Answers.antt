-- What is answered.
use Rattle.std.specs.Prelude.{◌≡◌, ◌≢◌, ◌⊎◌, ℕ, Bool, List, [], codes, option_map}
use Rattle.rv32_hart.specs.Hart.{Hart}
use Rattle.debugging.specs.declared.session.Answer.{Answer}
use Rattle.debugging.specs.declared.session.Answer.TheVariants as answer
use Rattle.debugging.specs.declared.commands.Command.{Command}
use Rattle.debugging.specs.declared.commands.Command.TheVariants as command
use Rattle.debugging.specs.declared.commands.Other.TheVariants.{Query, Detach, Kill, Wrong, Unknown}
use Rattle.debugging.specs.declared.commands.Show.{Show}
use Rattle.debugging.specs.declared.commands.Show.TheVariants.{Why, Registers, Register, Memory}
use Rattle.debugging.specs.Shown.{word_digits, registers_text, register_at, or_wrong}
use Rattle.debugging.specs.Memories.{ShowsBytes, memory_answer}
use Rattle.plan_lines.specs.Line.{GetsStuck}
use Rattle.hart_replay.specs.declared.fault.ReplayFault.{ReplayFault}
use Rattle.hart_replay.specs.declared.fault.ReplayFault.TheVariants as faults
use Rattle.debugging.specs.Sessions.{SessionView, IsShown, IsOfLine}
use Rattle.debugging.specs.Commands.{AsksFor, IsStill}
use Rattle.debugging.specs.Queries.{AsksForText}
use Rattle.debugging.specs.Notes.{HasNoted, told}
use Rattle.debugging.specs.declared.stops.Reason.TheVariants.{Led}
use Rattle.debugging.specs.Stops.{stop_text}
use Rattle.debugging.specs.Ways.{IsLed, HasGone}

-- the packet that says this, and the session goes on
abbrev pub Says : List ℕ → Answer → Type 0
Says text (answer.Says said) = said.items ≡ text
Says text _ = ⊥

-- the packet that says this, and the session is over
abbrev pub SaysLast : List ℕ → Answer → Type 0
SaysLast text (answer.SaysLast said) = said.items ≡ text
SaysLast text _ = ⊥

-- the text shows the machine where the timeline stands: what is asked of a hart is told of the one that was chosen for that
abbrev pub IsShowing : Show → SessionView → List ℕ → Type 0
IsShowing Why s text = text ≡ stop_text s.shown Led
IsShowing Registers s text = (h : Hart) → IsShown s h → text ≡ registers_text h
IsShowing (Register n) s text = (h : Hart) → IsShown s h → text ≡ or_wrong (option_map word_digits (register_at h n))
IsShowing (Memory range) s text = (bytes : List ℕ) × ShowsBytes s.line.stands.machine.pages range.first range.length bytes × (text ≡ memory_answer range.length bytes)

-- the line cannot be gone: where it gets stuck, memory is not what lacks
abbrev pub IsStuck : SessionView → Answer → Type 0
IsStuck s a = (f : ReplayFault) × (f ≢ faults.Memory) × GetsStuck s.line f × Says (codes "E03") a

-- What the command is answered, and the session before and behind it. The past is not changed; where it is to go, the line may get stuck.
abbrev pub Answers : List ℕ → Command → SessionView → SessionView → Answer → Type 0
Answers packet (command.Show show) s t a = (text : List ℕ) × IsShowing show s text × Says text a
Answers packet command.Change s t a = Says (codes "E01") a
Answers packet (command.Note note) s t a = (is_right : Bool) × HasNoted note s t is_right × Says (told is_right) a
Answers packet (command.Go way thread) s t a =
    (hart : ℕ) → IsLed s thread hart → IsStuck s a ⊎ ((text : List ℕ) × HasGone s t way hart text × Says text a)
Answers packet (command.Other Detach) s t a = SaysLast (codes "OK") a
Answers packet (command.Other Kill) s t a = a ≡ answer.Over
Answers packet (command.Other Query) s t a = (text : List ℕ) → AsksForText packet s text → (t ≡ s) × Says text a
Answers packet (command.Other Unknown) s t a = Says [] a
Answers packet (command.Other Wrong) s t a = Unit {0}

-- the packet is answered as it must be, and the session before and behind it
pub record IsAnswered (packet : List ℕ) (s t : SessionView) (a : Answer) : Type 0 where
  pub answers : (command : Command) → AsksFor packet command → Answers packet command s t a
  pub still : (command : Command) → AsksFor packet command → IsStill command → t ≡ s
  pub line : IsOfLine s.line t.line
