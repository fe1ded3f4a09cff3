-- The lines that tell faults.
use Rattle.std.specs.Prelude.{ℕ, List, [], ◌∷◌, ◌++◌, ◌==◌, if◌then◌else◌, codes, decimal}
use Rattle.std.specs.List.{flat_map}
use Rattle.ft_types.specs.Text.{line}
use Rattle.guest_image.specs.declared.fault.ImageFault.{ImageFault}
use Rattle.guest_image.specs.declared.fault.ImageFault.TheVariants.{BadLine, TooLarge, NoHarts, Memory as NoImageMemory}
use Rattle.fragment_codec.specs.Faults.{fault_number as frame_fault_number}
use Rattle.hart_replay.specs.declared.fault.ReplayFault.{ReplayFault}
use Rattle.hart_replay.specs.declared.fault.ReplayFault.TheVariants.{Cyclic, HaltedInside, OtherGuest, Memory as NoReplayMemory}
use Rattle.failover_world.specs.Faults.{fault_number as world_fault_number}
use Rattle.log_streams.specs.declared.faults.StreamsFault.{StreamsFault}
use Rattle.log_streams.specs.declared.faults.StreamsFault.TheVariants.{Read, Frame, Guest, Replay, Write, Memory as NoRoom}
use Rattle.log_streams.specs.Stores.{numbers}
use Rattle.word_forms.specs.declared.fault.WordsFault.{WordsFault}
use Rattle.word_forms.specs.declared.fault.WordsFault.TheVariants.{Usage as NoWords, Memory as NoWordsMemory}
use Rattle.command_line.specs.declared.faults.CommandFault.{CommandFault}
use Rattle.command_line.specs.declared.faults.CommandFault.TheVariants.{Usage, File, Image, Script, Events, World, Uncovered, Streams, NoStep, Input, Live, Memory}

-- of an image
abbrev pub image_line : ImageFault → List ℕ
image_line (BadLine n) = line (codes "fault image 1 line " ++ decimal n)
image_line TooLarge = line (codes "fault image 2")
image_line NoHarts = line (codes "fault image 3")
image_line NoImageMemory = line (codes "fault memory")

-- of a replay
abbrev pub replay_line : ReplayFault → List ℕ
replay_line (Cyclic counts) = line (codes "fault replay 1 counts" ++ numbers counts)
replay_line (HaltedInside hart count) = line (codes "fault replay 2 hart " ++ decimal hart ++ codes " count " ++ decimal count)
replay_line OtherGuest = line (codes "fault replay 3")
replay_line NoReplayMemory = line (codes "fault memory")

-- of streams
abbrev pub streams_line : StreamsFault → List ℕ
streams_line (Read i) = codes "fault stream " ++ decimal i ++ line (codes " read")
streams_line (Frame i fault) = line (codes "fault stream " ++ decimal i ++ codes " frame " ++ decimal (frame_fault_number fault))
streams_line (Guest i) = codes "fault stream " ++ decimal i ++ line (codes " guest")
streams_line (Replay fault) = replay_line fault
streams_line Write = line (codes "fault write")
streams_line NoRoom = line (codes "fault memory")

-- a hart's step
abbrev pub step_text : ℕ × ℕ → List ℕ
step_text s = codes " hart " ++ decimal s.0 ++ codes " step " ++ decimal s.1

-- the page, and the two steps that touch it and that nothing orders
abbrev pub uncovered_line : ℕ → ℕ × ℕ → ℕ × ℕ → List ℕ
uncovered_line page one other = line (codes "fault audit 1 page " ++ decimal page ++ step_text one ++ step_text other)

-- a byte of a name: a line feed is written as `\n`, so that the name stays in its line
abbrev pub shown : ℕ → List ℕ
shown byte = if byte == 10 then codes "\\n" else byte ∷ []

abbrev pub in_one_line : List ℕ → List ℕ
in_one_line name = flat_map shown name

-- of a command; the name is that of the file that the fault names
abbrev pub fault_line : List ℕ → CommandFault → List ℕ
fault_line name Usage = line (codes "fault usage")
fault_line name (File file) = line (codes "fault file " ++ in_one_line name)
fault_line name (Image fault) = image_line fault
fault_line name (Script n) = line (codes "fault script line " ++ decimal n)
fault_line name (Events n) = line (codes "fault events line " ++ decimal n)
fault_line name (World n fault) = line (codes "fault events line " ++ decimal n ++ codes " world " ++ decimal (world_fault_number fault))
fault_line name (Uncovered page one other) = uncovered_line page one other
fault_line name (Streams fault) = streams_line fault
fault_line name (NoStep place) = line (codes "fault replay 4 hart " ++ decimal place.hart ++ codes " count " ++ decimal place.count)
fault_line name Input = line (codes "fault input")
fault_line name (Live n) = line (codes "fault live " ++ decimal n)
fault_line name Memory = line (codes "fault memory")

-- of words that are no request
abbrev pub words_line : WordsFault → List ℕ
words_line NoWords = line (codes "fault usage")
words_line NoWordsMemory = line (codes "fault memory")
