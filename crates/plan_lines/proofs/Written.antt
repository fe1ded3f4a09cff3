-- A step changes no byte of RAM but those that it is told to write.
use Rattle.std.proofs.Common.{◌≡◌, ◌≢◌, ℕ, ◌+◌, ◌-◌, ◌%◌, ◌^◌, ◌<◌, ◌≤◌, ◌==◌, ◌&&◌, inl, inr, List, [], ◌∷◌, length, Bool, true, false, Option, Some, None, slice_get, slice_set, slice_index, slice_index_or, if◌then◌else◌, refl, ap, sym, subst, ◌∙◌, arith}
use Rattle.std.proofs.lemmas.Bool.{cases_eq}
use Rattle.std.proofs.lemmas.Bool.Decides.{nat_tests}
use Rattle.std.specs.Int.{to_le_bytes, w32}
use Rattle.std.specs.List.{range_with_len}
use Rattle.std.proofs.lemmas.List.{get_or-set_other, get_or-set_same}
use Rattle.std.proofs.lemmas.Option.{unwrap_or-slice_get, get_or_from_slice_get, slice_get_within}
use Rattle.interleaving.proofs.Lists.{get_set_same, get_set_other}
use Rattle.interleaving.specs.Machine.{Turn}
use Rattle.interleaving.specs.Stored.{run_from, goes, stored_after, written_in}
use Rattle.input_log.specs.declared.Input.{Input}
use Rattle.rv32_isa.specs.declared.instruction.Instr.{Instr}
use Rattle.rv32_isa.specs.declared.instruction.Instr.TheVariants.{Lui, Auipc, Jal, Jalr, Branch, Load, Store, OpImm, ShiftImm, Op, Fence, Ecall, Ebreak, Mret}
use Rattle.rv32_isa.specs.declared.instruction.Instr.TheVariants.{Wfi, CsrReg, CsrImm, Amo}
use Rattle.rv32_isa.specs.declared.instruction.LoadKind.{LoadKind}
use Rattle.rv32_isa.specs.declared.instruction.StoreKind.{StoreKind}
use Rattle.rv32_isa.specs.declared.instruction.StoreKind.TheVariants as store
use Rattle.rv32_isa.specs.Decode.{decode_of}
use Rattle.zaamo.specs.declared.AmoOp.{AmoOp}
use Rattle.zaamo.specs.Amo.{amo_result}
use Rattle.rv32_hart.specs.Ram.{word_at, put}
use Rattle.rv32_hart.specs.Hart.{Hart, register_of, entered}
use Rattle.rv32_hart.specs.Csrs.{interrupt_of, received_all}
use Rattle.rv32_hart.specs.Access.{Access as HartAccess, Alone, Reading, Writing, Step, Taken, Fetching, page_at, offset_at, in_ram, load_width, load_access}
use Rattle.rv32_hart.specs.Access.{store_width, stored, store_access, amo_access, execution, word_access, fetch}
use Rattle.rv32_hart.specs.Access.{unless_interrupted as hart_unless_interrupted}
use Rattle.rv32_hart.specs.Step.{bytes_of, access_write, step_effect, effect}
use Rattle.rv32_hart.specs.Hardware.{hardware}
use Rattle.guest_image.specs.Image.{ImageContents}
use Rattle.guest_image.specs.Machine.{MachineState, boot_machine}
use Rattle.hart_lease.specs.Runs.{run_of, counts_of, steps_taken}
use Rattle.hart_replay.specs.declared.plans.PlannedLeg.{PlannedLeg}
use Rattle.hart_replay.specs.Plans.{log_of}
use Rattle.log_audit.proofs.StepAnswers.{there_below}
use Rattle.plan_lines.specs.declared.access.Access.{Access}
use Rattle.plan_lines.specs.declared.access.Access.TheVariants.{Nothing, Writes, Changes}
use Rattle.plan_lines.specs.Line.{Standing, standing_at, turn_in, Leads}
use Rattle.plan_lines.specs.Line.{Begins, StepsOn, TurnsOn}
use Rattle.plan_lines.specs.Uses.{HasByte, used_at, word_in, used_by, used_by_word, used_in, used_next, unless_interrupted, WritesByte}
use Rattle.plan_lines.specs.Laws.{WritesAreUsed}
use Rattle.least_cuts.proofs.Legs.{some_is}
use Rattle.plan_lines.proofs.Moves.{runs_there}
use Rattle.plan_lines.proofs.Regular.{IsRegular, same_number, receives, regular_step, regular_booted}

-- the byte at this address, of these pages
abbrev pub byte_in : List (List ℕ) → ℕ → ℕ
byte_in pages address = slice_index (slice_index_or pages (page_at address) []) (offset_at address)

-- the bytes that are put are those that differ
put_within : (xs bytes : List ℕ) (offset j : ℕ) → slice_index (put bytes offset xs) j ≢ slice_index bytes j → (offset ≤ j) × (j < offset + length xs)
put_within [] bytes offset j differs = absurd (differs refl)
put_within (x ∷ xs) bytes offset j differs =
    elim (cases_eq j offset) [
      | inl here ↦ (omega (arith, here), omega (arith, here))
      | inr other ↦
          let within =
          put_within xs (slice_set bytes offset x) (offset + 1) j (λ e. differs (e ∙ get_or-set_other bytes offset j x 0 other)) in
          let from = within.0 in
          let below = within.1 in
          (omega (arith, from), omega (arith, below))
    ]

-- what an access writes is told
abbrev IsTold : HartAccess → Access → Type 0
IsTold (Alone k) used = Unit {0}
IsTold (Reading page hart) used = Unit {0}
IsTold (Writing page hart bytes) used =
    (old : List ℕ) (address : ℕ) → 0x80000000 ≤ address → page_at address ≡ page →
    slice_index (bytes old) (offset_at address) ≢ slice_index old (offset_at address) → WritesByte used address

pub from_ram : (pages a : ℕ) → in_ram pages a ≡ true → 0x80000000 ≤ a
from_ram pages a is = grind (arith, nat_tests)

-- so many bytes from an address on
has_byte : (a width address : ℕ) → 0x80000000 ≤ a → 0x80000000 ≤ address → page_at address ≡ page_at a → offset_at a ≤ offset_at address →
    offset_at address < offset_at a + width → HasByte (record { first = a; length = width }) address
has_byte a width address above over page from below = (omega (arith, above, over, page, from, below), omega (arith, above, over, page, from, below))

both_told : (a b : Bool) (w : HartAccess) (k l : Hart) (used : Access) → (b ≡ true → IsTold w used) →
    IsTold (if a then (if b then w else Alone k) else Alone l) (if a && b then used else Nothing)
both_told true true w k l used told = told refl
both_told true false w k l used told = tt
both_told false b w k l used told = tt

stored_length : (k : StoreKind) (v : ℕ) → length (stored k v) ≡ store_width k
stored_length store.Byte v = refl
stored_length store.Half v = refl
stored_length store.Word v = refl

store_told : (k : StoreKind) (a v pages : ℕ) (h : Hart) → IsTold (store_access k a v pages h) (used_at Writes pages a (store_width k))
store_told k a v pages h =
    both_told (a % store_width k == 0) (in_ram pages a) _ _ _ (Writes (record { first = a; length = store_width k }))
    (λ there old address over page differs.
    let within = put_within (stored k v) old (offset_at a) (offset_at address) differs in
    let from = within.0 in
    let below = within.1 in
    let many = stored_length k v in
    has_byte a (store_width k) address (from_ram pages a there) over page from (omega (arith, below, many)))

amo_told : (o : AmoOp) (rd a v pages : ℕ) (h : Hart) → IsTold (amo_access o rd a v pages h) (used_at Changes pages a 4)
amo_told o rd a v pages h =
    both_told (a % 4 == 0) (in_ram pages a) _ _ _ (Changes (record { first = a; length = 4 }))
    (λ there old address over page differs.
    let within = put_within (to_le_bytes w32 (amo_result o (word_at old (offset_at a)) v)) old (offset_at a) (offset_at address) differs in
    let from = within.0 in
    let below = within.1 in
    has_byte a 4 address (from_ram pages a there) over page from (omega (arith, below)))

load_told : (k : LoadKind) (rd a pages : ℕ) (h : Hart) (used : Access) → IsTold (load_access k rd a pages h) used
load_told k rd a pages h used = of (a % load_width k == 0) (in_ram pages a) _ _ _ _
  where
    of : (b c : Bool) (page : ℕ) (hart : List ℕ → Hart) (k l : Hart) → IsTold (if b then (if c then Reading page hart else Alone k) else Alone l) used
    of true true page hart k l = tt
    of true false page hart k l = tt
    of false c page hart k l = tt

-- x0 is 0
pub word_is : (h : Hart) (r : ℕ) → IsRegular h → register_of h r ≡ word_in h r
word_is h r is = of (r == 0) refl
  where
    of : (b : Bool) → (r == 0) ≡ b → register_of h r ≡ (if b then 0 else register_of h r)
    of true e = ap (slice_index h.registers) (same_number r 0 e) ∙ is.zero
    of false e = refl

execution_told : (i : Instr) (pages : ℕ) (h : Hart) → IsRegular h → IsTold (execution i pages h) (used_by i pages h)
execution_told (Lui rd imm) pages h is = tt
execution_told (Auipc rd imm) pages h is = tt
execution_told (Jal rd offset) pages h is = tt
execution_told (Jalr rd rs1 imm) pages h is = tt
execution_told (Branch c rs1 rs2 offset) pages h is = tt
execution_told (Load k rd rs1 imm) pages h is = load_told k rd _ pages h _
execution_told (Store k rs1 rs2 imm) pages h is =
    subst (λ (w : ℕ). IsTold (execution (Store k rs1 rs2 imm) pages h) (used_at Writes pages ((w + imm) % 2 ^ 32) (store_width k))) (word_is h rs1 is)
    (store_told k ((register_of h rs1 + imm) % 2 ^ 32) (register_of h rs2) pages h)
execution_told (OpImm o rd rs1 imm) pages h is = tt
execution_told (ShiftImm o rd rs1 amount) pages h is = tt
execution_told (Op o rd rs1 rs2) pages h is = tt
execution_told Fence pages h is = tt
execution_told Wfi pages h is = tt
execution_told Ecall pages h is = tt
execution_told Ebreak pages h is = tt
execution_told Mret pages h is = tt
execution_told (CsrReg o rd n rs1) pages h is = tt
execution_told (CsrImm o rd n imm) pages h is = tt
execution_told (Amo o rd rs1 rs2 aq rl) pages h is =
    subst (λ (w : ℕ). IsTold (execution (Amo o rd rs1 rs2 aq rl) pages h) (used_at Changes pages w 4)) (word_is h rs1 is)
    (amo_told o rd (register_of h rs1) (register_of h rs2) pages h)

word_told : (i : Option Instr) (pages : ℕ) (h : Hart) → IsRegular h → IsTold (word_access i pages h) (used_by_word i pages h)
word_told None pages h is = tt
word_told (Some i) pages h is = execution_told i pages h is

-- the bytes after an access
access_writes : (pages : List (List ℕ)) (a : HartAccess) (used : Access) (address : ℕ) → IsTold a used → 0x80000000 ≤ address →
    byte_in (written_in pages (access_write a (slice_get pages))) address ≢ byte_in pages address → WritesByte used address
access_writes pages (Alone k) used address told over differs = absurd (differs refl)
access_writes pages (Reading page hart) used address told over differs = absurd (differs refl)
access_writes pages (Writing page hart bytes) used address told over differs = of (slice_get pages page) refl differs
  where
    of : (o : Option (List ℕ)) → slice_get pages page ≡ o →
        byte_in (written_in pages (access_write (Writing page hart bytes) (λ p. o))) address ≢ byte_in pages address → WritesByte used address
    of None found other = absurd (other refl)
    of (Some old) found other =
        elim (cases_eq (page_at address) page) [
          | inl here ↦
              told old address over here (λ e. other (
              ap (λ (p : ℕ). slice_index (slice_index_or (slice_set pages page (bytes old)) p []) (offset_at address)) here
              ∙ ap (λ (l : List ℕ). slice_index l (offset_at address)) (get_or-set_same pages page (bytes old) [] (slice_get_within pages page old found))
              ∙ e
              ∙ ap (λ (l : List ℕ). slice_index l (offset_at address)) (sym (get_or_from_slice_get pages page old [] found))
              ∙ ap (λ (p : ℕ). slice_index (slice_index_or pages p []) (offset_at address)) (sym here)
              ))
          | inr elsewhere ↦
              absurd (other (ap (λ (l : List ℕ). slice_index l (offset_at address)) (get_or-set_other pages page (page_at address) (bytes old) [] elsewhere)))
        ]

-- and after a step
module _ (pages : List (List ℕ)) (address : ℕ) (over : 0x80000000 ≤ address) where
  abbrev Tells : Step → Access → Type 0
  Tells s used = byte_in (written_in pages (step_effect s (slice_get pages)).write) address ≢ byte_in pages address → WritesByte used address

  -- the instruction at pc, of these bytes of its page
  abbrev instr_of : Hart → List ℕ → Option Instr
  instr_of h bytes = decode_of (word_at bytes (offset_at h.pc))

  fetch_tells : (h : Hart) → IsRegular h → Tells (fetch (length pages) h) (used_in pages h)
  fetch_tells h is = of (h.pc % 4 == 0) (in_ram (length pages) h.pc) (ap (λ (n : ℕ). n == 0) is.pc)
    where
      of : (a b : Bool) → a ≡ true →
          Tells (if b then Fetching (page_at h.pc) (λ bytes. word_access (instr_of h bytes) (length pages) h) else Taken (entered h 1))
          (if a && b then used_by_word (instr_of h (slice_index_or pages (page_at h.pc) [])) (length pages) h else Nothing)
      of true true is_so differs =
          access_writes pages (word_access (instr_of h (bytes_of (slice_get pages) (page_at h.pc))) (length pages) h)
          (used_by_word (instr_of h (slice_index_or pages (page_at h.pc) [])) (length pages) h) address
          (subst (λ (bytes : List ℕ). IsTold (word_access (instr_of h (bytes_of (slice_get pages) (page_at h.pc))) (length pages) h)
          (used_by_word (instr_of h bytes) (length pages) h)) (unwrap_or-slice_get pages (page_at h.pc) [])
          (word_told (instr_of h (bytes_of (slice_get pages) (page_at h.pc))) (length pages) h is))
          over differs
      of true false is_so differs = absurd (differs refl)
      of false b is_so differs = cc

  interrupted_tells : (cause : Option ℕ) (h : Hart) → IsRegular h → Tells (hart_unless_interrupted cause (length pages) h) (unless_interrupted cause pages h)
  interrupted_tells None h is = fetch_tells h is
  interrupted_tells (Some cause) h is = λ differs. absurd (differs refl)

  pub step_tells : (h : Hart) (inputs : List Input) → IsRegular h →
      byte_in (written_in pages (effect (length pages) h inputs (slice_get pages)).write) address ≢ byte_in pages address →
      WritesByte (used_next pages (received_all inputs h)) address
  step_tells h inputs is = interrupted_tells (interrupt_of (received_all inputs h)) (received_all inputs h) (receives inputs h is)

-- ---- on a machine

-- the machine after one turn of this hart
abbrev machine_after : MachineState → Turn (List Input) → Hart → MachineState
machine_after m t h = stored_after m t.hart (effect (length m.pages) h t.input (slice_get m.pages))

pub steps_to : (m n : MachineState) (t : Turn (List Input)) (h : Hart) → slice_get m.harts t.hart ≡ Some h → run_of m (t ∷ []) ≡ Some n →
    n ≡ machine_after m t h
steps_to m n t h found ran = of h.halted (subst (λ (o : Option Hart). run_from (hardware (length m.pages)) (goes (hardware (length m.pages)) m t o) [] ≡ Some n) found ran)
  where
    of : (b : Bool) → run_from (hardware (length m.pages)) (if b then None else Some (machine_after m t h)) [] ≡ Some n → n ≡ machine_after m t h
    of true e = cc
    of false e = cc

abbrev AreRegular : MachineState → Type 0
AreRegular m = (hart : ℕ) (h : Hart) → slice_get m.harts hart ≡ Some h → IsRegular h

regular_after : (m n : MachineState) (t : Turn (List Input)) → t.hart < length m.harts → AreRegular m → run_of m (t ∷ []) ≡ Some n → AreRegular n
regular_after m n t there are ran hart k found =
    let (h, at) = there_below m.harts t.hart there in
    let new = (effect (length m.pages) h t.input (slice_get m.pages)).hart in
    let harts : n.harts ≡ slice_set m.harts t.hart new = ap (λ (x : MachineState). x.harts) (steps_to m n t h at ran) in
    let was : slice_get (slice_set m.harts t.hart new) hart ≡ Some k = ap (λ (l : List Hart). slice_get l hart) (sym harts) ∙ found in
    elim (cases_eq t.hart hart) [
      | inl same ↦
          let is : new ≡ k =
          some_is new k (sym (get_set_same m.harts t.hart new there) ∙ ap (slice_get (slice_set m.harts t.hart new)) same ∙ was) in
          subst (λ (g : Hart). IsRegular g) is (regular_step (length m.pages) h t.input (slice_get m.pages) (are t.hart h at))
      | inr other ↦ are hart k (sym (get_set_other m.harts t.hart hart new other) ∙ was)
    ]

pub regular_on : (image : ImageContents) (legs : List PlannedLeg) (t : Standing) → Leads legs (standing_at (boot_machine image)) t → AreRegular t.machine
regular_on image legs t Begins = regular_booted image.harts (range_with_len 0 image.harts)
regular_on image legs t (StepsOn {t = u} leg hart n leads at next steps) =
    regular_after u.machine n (turn_in leg u.machine hart) (runs_there u.machine hart next.may.runs) (regular_on image legs u leads) steps
regular_on image legs t (TurnsOn {t = u} leg leads at ends) = regular_on image legs u leads

pub writes_are_used : WritesAreUsed
writes_are_used image legs t h access leads step n steps address there differs =
    let m = t.machine in
    let log = log_of step.leg in
    let counts : counts_of m step.hart ≡ h.count = ap steps_taken step.found in
    let pages : n.pages ≡ written_in m.pages (effect (length m.pages) h (log.inputs step.hart (counts_of m step.hart)) (slice_get m.pages)).write =
    ap (λ (x : MachineState). x.pages) (steps_to m n (turn_in step.leg m step.hart) h step.found steps) in
    subst (λ (a : Access). WritesByte a address) (
    ap (λ (count : ℕ). used_next m.pages (received_all (log.inputs step.hart count) h)) counts ∙ sym step.uses
    )
    (step_tells m.pages address (from_ram (length m.pages) address there) h (log.inputs step.hart (counts_of m step.hart))
    (regular_on image legs t leads step.hart h step.found) (λ e. differs (ap (λ (l : List (List ℕ)). byte_in l address) pages ∙ e)))
