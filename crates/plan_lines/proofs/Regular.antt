-- What each step keeps of a hart: pc, mtvec and mepc are multiples of four, and x0 is 0.
use Rattle.std.proofs.Common.{◌≡◌, ◌≢◌, ℕ, zero, suc, ◌+◌, ◌*◌, ◌/◌, ◌%◌, ◌^◌, ◌==◌, ◌&&◌, inl, inr, List, [], ◌∷◌, map, Bool, true, false, true≢false, Option, Some, None, slice_get, slice_index, nat_lt, if◌then◌else◌, refl, ap, sym, subst, ◌∙◌, arith}
use Rattle.std.proofs.lemmas.List.{get_or-set_other}
use Rattle.std.proofs.lemmas.Bool.Decides.{eqb_tells}
use Rattle.input_log.specs.declared.Input.{Input}
use Rattle.rv32_isa.specs.declared.instruction.Instr.{Instr}
use Rattle.rv32_isa.specs.declared.instruction.Instr.TheVariants.{Lui, Auipc, Jal, Jalr, Branch, Load, Store, OpImm, ShiftImm, Op, Fence, Ecall, Ebreak, Mret}
use Rattle.rv32_isa.specs.declared.instruction.Instr.TheVariants.{Wfi, CsrReg, CsrImm, Amo}
use Rattle.rv32_isa.specs.declared.instruction.LoadKind.{LoadKind}
use Rattle.rv32_isa.specs.declared.instruction.StoreKind.{StoreKind}
use Rattle.rv32_isa.specs.declared.instruction.CsrOp.{CsrOp}
use Rattle.rv32_isa.specs.Decode.{decode_of}
use Rattle.zaamo.specs.declared.AmoOp.{AmoOp}
use Rattle.rv32_hart.specs.Arithmetic.{reg_result, imm_result, shift_result, taken}
use Rattle.rv32_hart.specs.Ram.{word_at}
use Rattle.rv32_hart.specs.declared.registers.Csrs.{Csrs}
use Rattle.rv32_hart.specs.Hart.{Hart, register_of, with_register, retired, entered, returned, boot_hart}
use Rattle.rv32_hart.specs.Csrs.{read_csr, write_csr, is_read_only, interrupt_of, received_all}
use Rattle.rv32_hart.specs.Access.{Access, Step, following, set_step, jump_step, link_step, branch_step, offset_at, in_ram, load_width, loaded, load_device}
use Rattle.rv32_hart.specs.Access.{load_access, store_width, device_step, store_device, store_access, amo_access, csr_value, csr_changed, execution, word_access}
use Rattle.rv32_hart.specs.Access.{fetch, unless_interrupted, next_step, is_word_load, is_word_store}
use Rattle.rv32_hart.specs.Step.{Contents, effect}
use Rattle.rv32_hart.specs.machinery.CountedSteps.{Leads, StepLeads, effect_leads}
use Rattle.plan_lines.proofs.Interrupts.{received_pc, received_csrs, received_registers}

pub record IsRegular (h : Hart) : Type 0 where
  pub pc : h.pc % 4 ≡ 0
  pub mtvec : h.csrs.mtvec % 4 ≡ 0
  pub mepc : h.csrs.mepc % 4 ≡ 0
  pub zero : slice_index h.registers 0 ≡ 0

chosen : {A : Type 0} (P : A → Type 0) (b : Bool) (x y : A) → P x → P y → P (if b then x else y)
chosen P true x y p q = p
chosen P false x y p q = q

chosen_by : {A : Type 0} (P : A → Type 0) (b : Bool) (x y : A) → (b ≡ true → P x) → (b ≡ false → P y) → P (if b then x else y)
chosen_by P true x y p q = p refl
chosen_by P false x y p q = q refl

pub same_number : (a b : ℕ) → (a == b) ≡ true → a ≡ b
same_number a b is =
    elim (eqb_tells a b) [
      | inl same ↦ same.1
      | inr other ↦ absurd (true≢false (sym is ∙ other.0))
    ]

other_number : (a b : ℕ) → (a == b) ≡ false → a ≢ b
other_number a b is =
    elim (eqb_tells a b) [
      | inl same ↦ absurd (true≢false (sym same.0 ∙ is))
      | inr other ↦ other.1
    ]

-- ---- the parts of a step

follows : (h : Hart) → IsRegular h → following h % 4 ≡ 0
follows h is = let pc = is.pc in omega (arith, pc)

goes_on : (h : Hart) (pc : ℕ) → IsRegular h → pc % 4 ≡ 0 → IsRegular (retired h pc)
goes_on h pc is aligned = record { pc = aligned; mtvec = is.mtvec; mepc = is.mepc; zero = is.zero }

enters : (h : Hart) (cause : ℕ) → IsRegular h → IsRegular (entered h cause)
enters h cause is = record { pc = is.mtvec; mtvec = is.mtvec; mepc = is.pc; zero = is.zero }

returns : (h : Hart) → IsRegular h → IsRegular (returned h)
returns h is = record { pc = is.mepc; mtvec = is.mtvec; mepc = is.mepc; zero = is.zero }

sets : (h : Hart) (r v : ℕ) → IsRegular h → IsRegular (with_register h r v)
sets h r v is =
    let P : Hart → Type 0 = λ k. IsRegular k in
    chosen_by P (r == 0) _ _ (λ none. is)
    (λ some. record {
      pc = is.pc;
      mtvec = is.mtvec;
      mepc = is.mepc;
      zero = get_or-set_other h.registers r 0 v 0 (λ e. other_number r 0 some (sym e)) ∙ is.zero;
    })

set_on : (h : Hart) (rd value : ℕ) → IsRegular h → IsRegular (set_step rd value h)
set_on h rd value is = goes_on (with_register h rd value) (following h) (sets h rd value is) (follows h is)

jumps : (h : Hart) (target : ℕ) → IsRegular h → IsRegular (jump_step target h)
jumps h target is =
    let P : Hart → Type 0 = λ k. IsRegular k in
    chosen_by P (target % 4 == 0) _ _ (λ to. goes_on h target is (same_number (target % 4) 0 to)) (λ other. enters h 0 is)

links : (h : Hart) (rd target : ℕ) → IsRegular h → IsRegular (link_step rd target h)
links h rd target is =
    let P : Hart → Type 0 = λ k. IsRegular k in
    chosen_by P (target % 4 == 0) _ _
    (λ to. goes_on (with_register h rd (following h)) target (sets h rd (following h) is) (same_number (target % 4) 0 to)) (λ other. enters h 0 is)

branches : (h : Hart) (taken : Bool) (target : ℕ) → IsRegular h → IsRegular (branch_step taken target h)
branches h false target is = goes_on h (following h) is (follows h is)
branches h true target is = jumps h target is

load_devices : (h : Hart) (k : LoadKind) (rd a : ℕ) → IsRegular h → IsRegular (load_device k rd a h)
load_devices h k rd a is =
    let P : Hart → Type 0 = λ g. IsRegular g in
    chosen P (is_word_load k && (a == 0xf0000000)) _ _ (set_on h rd h.received.input_word is)
    (chosen P (is_word_load k && (a == 0xf0000004)) _ _ (set_on h rd h.received.input_sequence is) (enters h 5 is))

loads : (h : Hart) (k : LoadKind) (rd a pages : ℕ) → IsRegular h → Leads (λ g. IsRegular g) (load_access k rd a pages h)
loads h k rd a pages is =
    let P : Access → Type 0 = λ x. Leads (λ g. IsRegular g) x in
    chosen P (a % load_width k == 0) _ _
    (chosen P (in_ram pages a) _ _ (λ bytes. set_on h rd (loaded k bytes (offset_at a)) is) (load_devices h k rd a is)) (enters h 4 is)

devices : (h : Hart) (a v : ℕ) → IsRegular h → IsRegular (device_step a v h)
devices h a v is =
    let P : Hart → Type 0 = λ g. IsRegular g in
    let on : (g : Hart) → g.pc ≡ following h → g.csrs ≡ h.csrs → g.registers ≡ h.registers → IsRegular g =
    λ g pc csrs registers. record {
      pc = ap (λ (n : ℕ). n % 4) pc ∙ follows h is;
      mtvec = ap (λ (c : Csrs). c.mtvec % 4) csrs ∙ is.mtvec;
      mepc = ap (λ (c : Csrs). c.mepc % 4) csrs ∙ is.mepc;
      zero = ap (λ (l : List ℕ). slice_index l 0) registers ∙ is.zero;
    } in
    chosen P (a == 0xf0000008) _ _ (on _ refl refl refl)
    (chosen P (a == 0xf000000c) _ _ (on _ refl refl refl)
    (chosen P (a == 0xf0000010) _ _ (chosen P (nat_lt v h.harts) _ _ (on _ refl refl refl) (enters h 7 is))
    (chosen P (a == 0xf0000014) _ _ (on _ refl refl refl) (enters h 7 is))))

store_devices : (h : Hart) (k : StoreKind) (a v : ℕ) → IsRegular h → IsRegular (store_device k a v h)
store_devices h k a v is =
    let P : Hart → Type 0 = λ g. IsRegular g in
    chosen P (is_word_store k) _ _ (devices h a v is) (enters h 7 is)

stores : (h : Hart) (k : StoreKind) (a v pages : ℕ) → IsRegular h → Leads (λ g. IsRegular g) (store_access k a v pages h)
stores h k a v pages is =
    let P : Access → Type 0 = λ x. Leads (λ g. IsRegular g) x in
    chosen P (a % store_width k == 0) _ _
    (chosen P (in_ram pages a) _ _ (λ bytes. goes_on h (following h) is (follows h is)) (store_devices h k a v is)) (enters h 6 is)

changes : (h : Hart) (o : AmoOp) (rd a v pages : ℕ) → IsRegular h → Leads (λ g. IsRegular g) (amo_access o rd a v pages h)
changes h o rd a v pages is =
    let P : Access → Type 0 = λ x. Leads (λ g. IsRegular g) x in
    chosen P (a % 4 == 0) _ _
    (chosen P (in_ram pages a) _ _ (λ bytes. set_on h rd (word_at bytes (offset_at a)) is) (enters h 7 is)) (enters h 6 is)

csr_written : (h : Hart) (n v : ℕ) → IsRegular h → IsRegular (write_csr h n v)
unfolding write_csr
csr_written h n v is =
    let P : Hart → Type 0 = λ g. IsRegular g in
    let on : (g : Hart) → g.pc ≡ h.pc → g.csrs.mtvec % 4 ≡ 0 → g.csrs.mepc % 4 ≡ 0 → g.registers ≡ h.registers → IsRegular g =
    λ g pc mtvec mepc registers. record {
      pc = ap (λ (k : ℕ). k % 4) pc ∙ is.pc;
      mtvec = mtvec;
      mepc = mepc;
      zero = ap (λ (l : List ℕ). slice_index l 0) registers ∙ is.zero;
    } in
    chosen P (n == 0x300) _ _ (on _ refl is.mtvec is.mepc refl)
    (chosen P (n == 0x304) _ _ (on _ refl is.mtvec is.mepc refl)
    (chosen P (n == 0x305) _ _ (on _ refl (whole v) is.mepc refl)
    (chosen P (n == 0x340) _ _ (on _ refl is.mtvec is.mepc refl)
    (chosen P (n == 0x341) _ _ (on _ refl is.mtvec (whole v) refl)
    (chosen P (n == 0x342) _ _ (on _ refl is.mtvec is.mepc refl) is)))))
  where
    whole : (w : ℕ) → w / 4 * 4 % 4 ≡ 0
    whole w = omega arith

csr_changes : (h : Hart) (old : Option ℕ) (o : CsrOp) (rd n v : ℕ) (writes : Bool) → IsRegular h → IsRegular (csr_changed old o rd n v writes h)
csr_changes h None o rd n v writes is = enters h 2 is
csr_changes h (Some old) o rd n v writes is =
    let P : Hart → Type 0 = λ g. IsRegular g in
    chosen P writes _ _
    (chosen P (is_read_only n) _ _ (enters h 2 is)
    (set_on (write_csr h n (csr_value o old v)) rd old (csr_written h n (csr_value o old v) is)))
    (set_on h rd old is)

-- ---- a step

executes : (i : Instr) (pages : ℕ) (h : Hart) → IsRegular h → Leads (λ g. IsRegular g) (execution i pages h)
executes (Lui rd imm) pages h is = set_on h rd imm is
executes (Auipc rd imm) pages h is = set_on h rd ((h.pc + imm) % 2 ^ 32) is
executes (Jal rd offset) pages h is = links h rd ((h.pc + offset) % 2 ^ 32) is
executes (Jalr rd rs1 imm) pages h is = links h rd ((register_of h rs1 + imm) % 2 ^ 32 / 2 * 2) is
executes (Branch c rs1 rs2 offset) pages h is = branches h (taken c (register_of h rs1) (register_of h rs2)) ((h.pc + offset) % 2 ^ 32) is
executes (Load k rd rs1 imm) pages h is = loads h k rd ((register_of h rs1 + imm) % 2 ^ 32) pages is
executes (Store k rs1 rs2 imm) pages h is = stores h k ((register_of h rs1 + imm) % 2 ^ 32) (register_of h rs2) pages is
executes (OpImm o rd rs1 imm) pages h is = set_on h rd (imm_result o (register_of h rs1) imm) is
executes (ShiftImm o rd rs1 amount) pages h is = set_on h rd (shift_result o (register_of h rs1) amount) is
executes (Op o rd rs1 rs2) pages h is = set_on h rd (reg_result o (register_of h rs1) (register_of h rs2)) is
executes Fence pages h is = goes_on h (following h) is (follows h is)
executes Wfi pages h is = goes_on h (following h) is (follows h is)
executes Ecall pages h is = enters h 11 is
executes Ebreak pages h is = enters h 3 is
executes Mret pages h is = returns h is
executes (CsrReg o rd n rs1) pages h is = csr_changes h (read_csr h n) o rd n (register_of h rs1) _ is
executes (CsrImm o rd n imm) pages h is = csr_changes h (read_csr h n) o rd n imm _ is
executes (Amo o rd rs1 rs2 aq rl) pages h is = changes h o rd (register_of h rs1) (register_of h rs2) pages is

word_executes : (i : Option Instr) (pages : ℕ) (h : Hart) → IsRegular h → Leads (λ g. IsRegular g) (word_access i pages h)
word_executes None pages h is = enters h 2 is
word_executes (Some i) pages h is = executes i pages h is

fetches : (pages : ℕ) (h : Hart) → IsRegular h → StepLeads (λ g. IsRegular g) (fetch pages h)
fetches pages h is =
    let P : Step → Type 0 = λ x. StepLeads (λ g. IsRegular g) x in
    chosen P (in_ram pages h.pc) _ _ (λ bytes. word_executes (decode_of (word_at bytes (offset_at h.pc))) pages h is) (enters h 1 is)

interrupts : (cause : Option ℕ) (pages : ℕ) (h : Hart) → IsRegular h → StepLeads (λ g. IsRegular g) (unless_interrupted cause pages h)
interrupts None pages h is = fetches pages h is
interrupts (Some cause) pages h is = enters h cause is

pub receives : (inputs : List Input) (h : Hart) → IsRegular h → IsRegular (received_all inputs h)
receives inputs h is =
    record {
      pc = ap (λ (n : ℕ). n % 4) (received_pc inputs h) ∙ is.pc;
      mtvec = ap (λ (c : Csrs). c.mtvec % 4) (received_csrs inputs h) ∙ is.mtvec;
      mepc = ap (λ (c : Csrs). c.mepc % 4) (received_csrs inputs h) ∙ is.mepc;
      zero = ap (λ (l : List ℕ). slice_index l 0) (received_registers inputs h) ∙ is.zero;
    }

-- a step keeps it
pub regular_step : (pages : ℕ) (h : Hart) (inputs : List Input) (contents : Contents) → IsRegular h → IsRegular (effect pages h inputs contents).hart
regular_step pages h inputs contents is =
    effect_leads (λ g. IsRegular g) (next_step pages (received_all inputs h)) contents
    (interrupts (interrupt_of (received_all inputs h)) pages (received_all inputs h) (receives inputs h is))

-- and so is each hart at boot
regular_boot : (harts number : ℕ) → IsRegular (boot_hart harts number)
unfolding boot_hart
regular_boot harts number = record { pc = refl; mtvec = refl; mepc = refl; zero = refl }

pub regular_booted : (harts : ℕ) (numbers : List ℕ) (hart : ℕ) (h : Hart) → slice_get (map (boot_hart harts) numbers) hart ≡ Some h → IsRegular h
regular_booted harts [] hart h found = cc
regular_booted harts (number ∷ numbers) zero h found =
    let same : boot_hart harts number ≡ h = cc in
    subst (λ (g : Hart). IsRegular g) same (regular_boot harts number)
regular_booted harts (number ∷ numbers) (suc hart) h found = regular_booted harts numbers hart h found
