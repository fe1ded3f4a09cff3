-- A step of a hart leaves INSEQ as its inputs made it.
use Rattle.std.proofs.Common.{◌≡◌, ◌+◌, ◌*◌, ◌/◌, ◌%◌, ◌^◌, ◌==◌, ◌&&◌, ℕ, List, [], ◌∷◌, Bool, true, false, Option, Some, None}
use Rattle.std.proofs.Common.{refl, ◌∙◌, ◌<◌, suc, arith, length, nat_lt, if◌then◌else◌}
use Rattle.rv32_isa.specs.declared.instruction.Instr.{Instr}
use Rattle.rv32_isa.specs.declared.instruction.Instr.TheVariants.{Lui, Auipc, Jal, Jalr, Branch, Load, Store, OpImm, ShiftImm, Op, Fence, Ecall, Ebreak, Mret}
use Rattle.rv32_isa.specs.declared.instruction.Instr.TheVariants.{Wfi, CsrReg, CsrImm, Amo}
use Rattle.rv32_isa.specs.declared.instruction.LoadKind.{LoadKind}
use Rattle.rv32_isa.specs.declared.instruction.StoreKind.{StoreKind}
use Rattle.rv32_isa.specs.declared.instruction.CsrOp.{CsrOp}
use Rattle.rv32_isa.specs.Decode.{decode_of}
use Rattle.zaamo.specs.declared.AmoOp.{AmoOp}
use Rattle.rv32_hart.specs.Arithmetic.{reg_result, imm_result, shift_result, taken}
use Rattle.rv32_hart.specs.Ram.{word_at}
use Rattle.rv32_hart.specs.Hart.{Hart, register_of, with_register}
use Rattle.input_log.specs.declared.Input.{Input}
use Rattle.input_log.specs.declared.Input.TheVariants.{Timer, Word, Bell}
use Rattle.rv32_hart.specs.Csrs.{read_csr, write_csr, is_read_only, interrupt_of, receive, received_all}
use Rattle.rv32_hart.specs.machinery.CountedSteps.{Leads, StepLeads, effect_leads}
use Rattle.rv32_hart.specs.Step.{Contents, effect}
use Rattle.requests.specs.Queues.{words_in}
use Rattle.rv32_hart.specs.Access.{Access, Step, following, set_step, jump_step, link_step, branch_step, offset_at}
use Rattle.rv32_hart.specs.Access.{in_ram, load_width, loaded, load_device, load_access, store_width, device_step, store_device, store_access, amo_access}
use Rattle.rv32_hart.specs.Access.{csr_value, csr_changed, execution, word_access, fetch, unless_interrupted, next_step, is_word_load, is_word_store}

-- the second hart has the INSEQ of the first
abbrev pub Keeps : Hart → Hart → Type 0
Keeps h k = k.received.input_sequence ≡ h.received.input_sequence

chosen : {A : Type 0} (P : A → Type 0) (b : Bool) (x y : A) → P x → P y → P (if b then x else y)
chosen P true x y p q = p
chosen P false x y p q = q

keeps_register : (h : Hart) (r v : ℕ) → Keeps h (with_register h r v)
keeps_register h r v = let P : Hart → Type 0 = λ k. Keeps h k in chosen P (r == 0) _ _ refl refl

adds_set : (h : Hart) (rd value : ℕ) → Keeps h (set_step rd value h)
adds_set h rd value = keeps_register h rd value

adds_jump : (h : Hart) (target : ℕ) → Keeps h (jump_step target h)
adds_jump h target = let P : Hart → Type 0 = λ k. Keeps h k in chosen P (target % 4 == 0) _ _ refl refl

adds_link : (h : Hart) (rd target : ℕ) → Keeps h (link_step rd target h)
adds_link h rd target =
    let P : Hart → Type 0 = λ k. Keeps h k in chosen P (target % 4 == 0) _ _ (keeps_register h rd (following h)) refl

adds_branch : (h : Hart) (taken : Bool) (target : ℕ) → Keeps h (branch_step taken target h)
adds_branch h false target = refl
adds_branch h true target = adds_jump h target

adds_load_device : (h : Hart) (k : LoadKind) (rd a : ℕ) → Keeps h (load_device k rd a h)
adds_load_device h k rd a =
    let P : Hart → Type 0 = λ k. Keeps h k in
    chosen P (is_word_load k && (a == 0xf0000000)) _ _ (adds_set h rd h.received.input_word)
    (chosen P (is_word_load k && (a == 0xf0000004)) _ _ (adds_set h rd h.received.input_sequence) refl)

adds_load : (h : Hart) (k : LoadKind) (rd a pages : ℕ) → Leads (Keeps h) (load_access k rd a pages h)
adds_load h k rd a pages =
    let P : Access → Type 0 = λ x. Leads (Keeps h) x in
    chosen P (a % load_width k == 0) _ _
    (chosen P (in_ram pages a) _ _ (λ bytes. adds_set h rd (loaded k bytes (offset_at a))) (adds_load_device h k rd a)) refl

adds_device : (h : Hart) (a v : ℕ) → Keeps h (device_step a v h)
adds_device h a v =
    let P : Hart → Type 0 = λ k. Keeps h k in
    chosen P (a == 0xf0000008) _ _ refl
    (chosen P (a == 0xf000000c) _ _ refl
    (chosen P (a == 0xf0000010) _ _ (chosen P (nat_lt v h.harts) _ _ refl refl) (chosen P (a == 0xf0000014) _ _ refl refl)))

adds_store_device : (h : Hart) (k : StoreKind) (a v : ℕ) → Keeps h (store_device k a v h)
adds_store_device h k a v = let P : Hart → Type 0 = λ k. Keeps h k in chosen P (is_word_store k) _ _ (adds_device h a v) refl

adds_store : (h : Hart) (k : StoreKind) (a v pages : ℕ) → Leads (Keeps h) (store_access k a v pages h)
adds_store h k a v pages =
    let P : Access → Type 0 = λ x. Leads (Keeps h) x in
    chosen P (a % store_width k == 0) _ _ (chosen P (in_ram pages a) _ _ (λ bytes. refl) (adds_store_device h k a v)) refl

adds_amo : (h : Hart) (o : AmoOp) (rd a v pages : ℕ) → Leads (Keeps h) (amo_access o rd a v pages h)
adds_amo h o rd a v pages =
    let P : Access → Type 0 = λ x. Leads (Keeps h) x in
    chosen P (a % 4 == 0) _ _ (chosen P (in_ram pages a) _ _ (λ bytes. adds_set h rd (word_at bytes (offset_at a))) refl) refl

keeps_csr : (h : Hart) (n v : ℕ) → Keeps h (write_csr h n v)
unfolding write_csr
keeps_csr h n v =
    let P : Hart → Type 0 = λ k. Keeps h k in
    chosen P (n == 0x300) _ _ refl
    (chosen P (n == 0x304) _ _ refl
    (chosen P (n == 0x305) _ _ refl (chosen P (n == 0x340) _ _ refl (chosen P (n == 0x341) _ _ refl (chosen P (n == 0x342) _ _ refl refl)))))

adds_csr_changed : (h : Hart) (old : Option ℕ) (o : CsrOp) (rd n v : ℕ) (writes : Bool) → Keeps h (csr_changed old o rd n v writes h)
adds_csr_changed h None o rd n v writes = refl
adds_csr_changed h (Some old) o rd n v writes =
    let P : Hart → Type 0 = λ k. Keeps h k in
    chosen P writes _ _
    (chosen P (is_read_only n) _ _ refl
    (keeps_register (write_csr h n (csr_value o old v)) rd old ∙ keeps_csr h n (csr_value o old v)))
    (adds_set h rd old)

adds_execution : (i : Instr) (pages : ℕ) (h : Hart) → Leads (Keeps h) (execution i pages h)
adds_execution (Lui rd imm) pages h = adds_set h rd imm
adds_execution (Auipc rd imm) pages h = adds_set h rd ((h.pc + imm) % 2 ^ 32)
adds_execution (Jal rd offset) pages h = adds_link h rd ((h.pc + offset) % 2 ^ 32)
adds_execution (Jalr rd rs1 imm) pages h = adds_link h rd ((register_of h rs1 + imm) % 2 ^ 32 / 2 * 2)
adds_execution (Branch c rs1 rs2 offset) pages h = adds_branch h (taken c (register_of h rs1) (register_of h rs2)) ((h.pc + offset) % 2 ^ 32)
adds_execution (Load k rd rs1 imm) pages h = adds_load h k rd ((register_of h rs1 + imm) % 2 ^ 32) pages
adds_execution (Store k rs1 rs2 imm) pages h = adds_store h k ((register_of h rs1 + imm) % 2 ^ 32) (register_of h rs2) pages
adds_execution (OpImm o rd rs1 imm) pages h = adds_set h rd (imm_result o (register_of h rs1) imm)
adds_execution (ShiftImm o rd rs1 amount) pages h = adds_set h rd (shift_result o (register_of h rs1) amount)
adds_execution (Op o rd rs1 rs2) pages h = adds_set h rd (reg_result o (register_of h rs1) (register_of h rs2))
adds_execution Fence pages h = refl
adds_execution Wfi pages h = refl
adds_execution Ecall pages h = refl
adds_execution Ebreak pages h = refl
adds_execution Mret pages h = refl
adds_execution (CsrReg o rd n rs1) pages h = adds_csr_changed h (read_csr h n) o rd n (register_of h rs1) _
adds_execution (CsrImm o rd n imm) pages h = adds_csr_changed h (read_csr h n) o rd n imm _
adds_execution (Amo o rd rs1 rs2 aq rl) pages h = adds_amo h o rd (register_of h rs1) (register_of h rs2) pages

adds_word : (i : Option Instr) (pages : ℕ) (h : Hart) → Leads (Keeps h) (word_access i pages h)
adds_word None pages h = refl
adds_word (Some i) pages h = adds_execution i pages h

adds_fetch : (pages : ℕ) (h : Hart) → StepLeads (Keeps h) (fetch pages h)
adds_fetch pages h =
    let P : Step → Type 0 = λ x. StepLeads (Keeps h) x in
    chosen P (in_ram pages h.pc) _ _ (λ bytes. adds_word (decode_of (word_at bytes (offset_at h.pc))) pages h) refl

adds_interrupted : (cause : Option ℕ) (pages : ℕ) (h : Hart) → StepLeads (Keeps h) (unless_interrupted cause pages h)
adds_interrupted None pages h = adds_fetch pages h
adds_interrupted (Some cause) pages h = refl

-- ---- inputs

-- a sum may be cut at once or on the way
cut_once : (a n : ℕ) → ((a + 1) % 2 ^ 32 + n) % 2 ^ 32 ≡ (a + suc n) % 2 ^ 32
cut_once a n = omega arith

pub receives_all : (is : List Input) (h : Hart) → h.received.input_sequence < 2 ^ 32 →
    (received_all is h).received.input_sequence ≡ (h.received.input_sequence + length (words_in is)) % 2 ^ 32
receives_all [] h low = omega (arith, low)
receives_all (Timer ∷ is) h low = receives_all is (receive Timer h) low
receives_all (Word w ∷ is) h low =
    receives_all is (receive (Word w) h) (omega arith) ∙ cut_once h.received.input_sequence (length (words_in is))
receives_all (Bell place ∷ is) h low = receives_all is (receive (Bell place) h) low

-- what a step leaves
pub effect_sequence : (pages : ℕ) (h : Hart) (inputs : List Input) (contents : Contents) → h.received.input_sequence < 2 ^ 32 →
    (effect pages h inputs contents).hart.received.input_sequence ≡ (h.received.input_sequence + length (words_in inputs)) % 2 ^ 32
effect_sequence pages h inputs contents low =
    effect_leads (Keeps (received_all inputs h)) (next_step pages (received_all inputs h)) contents
    (adds_interrupted (interrupt_of (received_all inputs h)) pages (received_all inputs h))
    ∙ receives_all inputs h low
