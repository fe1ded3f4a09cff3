-- What a step uses of RAM.
use Rattle.std.specs.Prelude.{ℕ, ◌≡◌, ◌+◌, ◌<◌, ◌≤◌, ◌%◌, ◌^◌, ◌==◌, ◌&&◌, List, [], Some, None, Option, length, slice_get, slice_index_or, if◌then◌else◌}
use Rattle.rv32_isa.specs.declared.instruction.Instr.{Instr}
use Rattle.rv32_isa.specs.declared.instruction.Instr.TheVariants.{Load, Store, Amo}
use Rattle.rv32_isa.specs.Decode.{decode_of}
use Rattle.rv32_hart.specs.Hart.{Hart, register_of}
use Rattle.rv32_hart.specs.Ram.{word_at}
use Rattle.rv32_hart.specs.Csrs.{interrupt_of, received_all}
use Rattle.rv32_hart.specs.Access.{in_ram, page_at, offset_at, load_width, store_width}
use Rattle.guest_image.specs.Machine.{MachineState}
use Rattle.hart_replay.specs.declared.plans.PlannedLeg.{PlannedLeg}
use Rattle.hart_replay.specs.Plans.{log_of}
use Rattle.plan_lines.specs.declared.access.Bytes.{Bytes}
use Rattle.plan_lines.specs.declared.access.Access.{Access}
use Rattle.plan_lines.specs.declared.access.Access.TheVariants.{Nothing, Reads, Writes, Changes}
use Rattle.plan_lines.specs.Line.{Standing, standing_at, Leads, IsNext}

-- the byte at this address is one of these
abbrev pub HasByte : Bytes → ℕ → Type 0
HasByte bytes byte = (bytes.first ≤ byte) × (byte < bytes.first + bytes.length)

-- one byte is among both
abbrev pub Overlap : Bytes → Bytes → Type 0
Overlap these those = (byte : ℕ) × HasByte these byte × HasByte those byte

-- so many bytes at an address, used so where they are aligned and lie in RAM
abbrev pub used_at : (Bytes → Access) → ℕ → ℕ → ℕ → Access
used_at use_of pages first width =
    if (first % width == 0) && in_ram pages first then use_of (record { first = first; length = width }) else Nothing

-- a register's word, where x0 is 0
abbrev pub word_in : Hart → ℕ → ℕ
word_in h r = if r == 0 then 0 else register_of h r

-- what an instruction uses, on a machine with so many pages
abbrev pub used_by : Instr → ℕ → Hart → Access
used_by (Load k rd rs1 imm) pages h = used_at Reads pages ((word_in h rs1 + imm) % 2 ^ 32) (load_width k)
used_by (Store k rs1 rs2 imm) pages h = used_at Writes pages ((word_in h rs1 + imm) % 2 ^ 32) (store_width k)
used_by (Amo o rd rs1 rs2 aq rl) pages h = used_at Changes pages (word_in h rs1) 4
used_by _ pages h = Nothing

abbrev pub used_by_word : Option Instr → ℕ → Hart → Access
used_by_word None pages h = Nothing
used_by_word (Some i) pages h = used_by i pages h

-- The word at pc is fetched, where it lies in RAM. No line comes to a pc that is not a multiple of four (a jump to such an address is exception 0 at
-- the jump, and mtvec and mepc end in two zero bits), nor to an x0 that is not 0: the laws of reads and writes in Laws stand on it.
abbrev pub used_in : List (List ℕ) → Hart → Access
used_in contents h =
    if (h.pc % 4 == 0) && in_ram (length contents) h.pc
    then used_by_word (decode_of (word_at (slice_index_or contents (page_at h.pc) []) (offset_at h.pc))) (length contents) h
    else Nothing

abbrev pub unless_interrupted : Option ℕ → List (List ℕ) → Hart → Access
unless_interrupted (Some cause) contents h = Nothing
unless_interrupted None contents h = used_in contents h

-- the byte at this address is read
abbrev pub ReadsByte : Access → ℕ → Type 0
ReadsByte (Reads bytes) address = HasByte bytes address
ReadsByte (Changes bytes) address = HasByte bytes address
ReadsByte _ address = ⊥

-- the byte at this address is written
abbrev pub WritesByte : Access → ℕ → Type 0
WritesByte (Writes bytes) address = HasByte bytes address
WritesByte (Changes bytes) address = HasByte bytes address
WritesByte _ address = ⊥

-- what a hart uses that has received its inputs
abbrev pub used_next : List (List ℕ) → Hart → Access
used_next contents h = unless_interrupted (interrupt_of h) contents h

-- the step that comes next at this standing is one of a hart that was found so, and uses bytes so
pub record IsStepFrom (legs : List PlannedLeg) (t : Standing) (h : Hart) (access : Access) : Type 0 where
  pub leg : PlannedLeg
  pub there : slice_get legs t.place ≡ Some leg
  pub hart : ℕ
  pub next : IsNext leg t.machine hart
  pub found : slice_get t.machine.harts hart ≡ Some h
  pub uses : access ≡ used_next t.machine.pages (received_all ((log_of leg).inputs hart h.count) h)

-- of the line's step from this moment a fact holds
pub record StepAt (legs : List PlannedLeg) (start : MachineState) (moment : ℕ) (P : Hart → Access → Type 0) : Type 0 where
  pub standing : Standing
  pub leads : Leads legs (standing_at start) standing
  pub at : standing.moment ≡ moment
  pub hart : Hart
  pub access : Access
  pub step : IsStepFrom legs standing hart access
  pub fact : P hart access
