-- Which interrupt a hart takes once its inputs are received.
use Rattle.std.proofs.Common.{◌≡◌, ◌≢◌, ◌↔◌, inl, inr, ℕ, ◌+◌, ◌*◌, ◌/◌, ◌%◌, ◌^◌, ◌==◌, List, [], ◌∷◌, ◌++◌, take, slice_get, Bool, true, false, Option, Some, None, IsTrue, IsSome, bit_and, bit_or, if◌then◌else◌, refl, ap, sym, subst, ◌∙◌}
use Rattle.std.proofs.lemmas.Bool.Decides.{eqb_tells}
use Rattle.input_log.specs.declared.Input.{Input}
use Rattle.input_log.specs.declared.Input.TheVariants.{Timer, Word, Bell}
use Rattle.rv32_isa.specs.Encode.{flag}
use Rattle.rv32_hart.specs.declared.registers.Csrs.{Csrs}
use Rattle.rv32_hart.specs.Hart.{Hart, mstatus}
use Rattle.rv32_hart.specs.Csrs.{bit, first_interrupt, interrupt_of, received_all}
use Rattle.log_audit.proofs.Lists.{take_more}
use Rattle.plan_lines.specs.machinery.Pending.{bit_of, mip_after}

-- inputs change no CSR but mip
pub received_csrs : (inputs : List Input) (h : Hart) → (received_all inputs h).csrs ≡ h.csrs
received_csrs [] h = refl
received_csrs (Timer ∷ rest) h = received_csrs rest _
received_csrs (Word w ∷ rest) h = received_csrs rest _
received_csrs (Bell source ∷ rest) h = received_csrs rest _

pub received_mip : (inputs : List Input) (h : Hart) → (received_all inputs h).received.mip ≡ mip_after inputs h.received.mip
received_mip [] h = refl
received_mip (Timer ∷ rest) h = received_mip rest _
received_mip (Word w ∷ rest) h = received_mip rest _
received_mip (Bell source ∷ rest) h = received_mip rest _

pub received_pc : (inputs : List Input) (h : Hart) → (received_all inputs h).pc ≡ h.pc
received_pc [] h = refl
received_pc (Timer ∷ rest) h = received_pc rest _
received_pc (Word w ∷ rest) h = received_pc rest _
received_pc (Bell source ∷ rest) h = received_pc rest _

pub received_registers : (inputs : List Input) (h : Hart) → (received_all inputs h).registers ≡ h.registers
received_registers [] h = refl
received_registers (Timer ∷ rest) h = received_registers rest _
received_registers (Word w ∷ rest) h = received_registers rest _
received_registers (Bell source ∷ rest) h = received_registers rest _

-- the interrupt of a hart with these inputs
pub interrupt_is : (inputs : List Input) (h : Hart) →
    interrupt_of (received_all inputs h) ≡ (if h.csrs.mstatus_mie then first_interrupt (bit_and h.csrs.mie (mip_after inputs h.received.mip)) else None)
interrupt_is inputs h =
    ap (λ (c : Csrs). if c.mstatus_mie then first_interrupt (bit_and c.mie (received_all inputs h).received.mip) else None) (received_csrs inputs h)
    ∙ ap (λ (mip : ℕ). if h.csrs.mstatus_mie then first_interrupt (bit_and h.csrs.mie mip) else None) (received_mip inputs h)

-- MIE as a bit of mstatus
pub mie_bit : (c : Csrs) → (mstatus c / 8 % 2 == 1) ≡ c.mstatus_mie
mie_bit c = of c.mstatus_mpie c.mstatus_mie
  where
    of : (mpie mie : Bool) → ((2 ^ 12 + 2 ^ 11 + flag mpie * 2 ^ 7 + flag mie * 2 ^ 3) / 8 % 2 == 1) ≡ mie
    of true true = refl
    of true false = refl
    of false true = refl
    of false false = refl

-- one input more is received
mip_more : (inputs : List Input) (i : Input) (mip : ℕ) → mip_after (inputs ++ i ∷ []) mip ≡ bit_or (mip_after inputs mip) (bit_of i)
mip_more [] i mip = refl
mip_more (x ∷ inputs) i mip = mip_more inputs i (bit_or mip (bit_of x))

pub mip_next : (inputs : List Input) (n mip so_far : ℕ) (i : Input) → slice_get inputs n ≡ Some i → so_far ≡ mip_after (take n inputs) mip →
    bit_or so_far (bit_of i) ≡ mip_after (take (n + 1) inputs) mip
mip_next inputs n mip so_far i at is =
    ap (λ (m : ℕ). bit_or m (bit_of i)) is
    ∙ sym (mip_more (take n inputs) i mip)
    ∙ ap (λ (l : List Input). mip_after l mip) (sym (take_more inputs n i at))

-- ---- from the words of a hart's CSRs

mie_on : (c : Csrs) → mstatus c / 8 % 2 ≡ 1 → c.mstatus_mie ≡ true
mie_on c is =
    sym (mie_bit c)
    ∙ elim (eqb_tells (mstatus c / 8 % 2) 1) [
      | inl same ↦ same.0
      | inr other ↦ absurd (other.1 is)
    ]

mie_off : (c : Csrs) → mstatus c / 8 % 2 ≢ 1 → c.mstatus_mie ≡ false
mie_off c not =
    sym (mie_bit c)
    ∙ elim (eqb_tells (mstatus c / 8 % 2) 1) [
      | inl same ↦ absurd (not same.1)
      | inr other ↦ other.0
    ]

-- interrupts are taken
pub taken_on : (inputs : List Input) (h : Hart) (one : Bool) → mstatus h.csrs / 8 % 2 ≡ 1 →
    IsTrue one ↔ IsSome (first_interrupt (bit_and h.csrs.mie (mip_after inputs h.received.mip))) → IsTrue one ↔ IsSome (interrupt_of (received_all inputs h))
taken_on inputs h one is exact =
    subst (λ (o : Option ℕ). IsTrue one ↔ IsSome o) (
    sym (interrupt_is inputs h ∙ ap (λ (on : Bool). if on then first_interrupt (bit_and h.csrs.mie (mip_after inputs h.received.mip)) else None)
    (mie_on h.csrs is))
    ) exact

-- and are not
pub taken_off : (inputs : List Input) (h : Hart) → mstatus h.csrs / 8 % 2 ≢ 1 → IsTrue false ↔ IsSome (interrupt_of (received_all inputs h))
taken_off inputs h not =
    subst (λ (o : Option ℕ). IsTrue false ↔ IsSome o) (
    sym (interrupt_is inputs h ∙ ap (λ (on : Bool). if on then first_interrupt (bit_and h.csrs.mie (mip_after inputs h.received.mip)) else None)
    (mie_off h.csrs not))
    ) (λ s. s, λ s. s)

pub not_taken : (inputs : List Input) (h : Hart) (word : ℕ) → word ≡ mstatus h.csrs → word / 8 % 2 ≢ 1 →
    IsTrue (word / 8 % 2 == 1) ↔ IsSome (interrupt_of (received_all inputs h))
not_taken inputs h word is not =
    elim (eqb_tells (word / 8 % 2) 1) [
      | inl same ↦ absurd (not same.1)
      | inr other ↦
          subst (λ (b : Bool). IsTrue b ↔ IsSome (interrupt_of (received_all inputs h))) (sym other.0)
          (taken_off inputs h (subst (λ (w : ℕ). w / 8 % 2 ≢ 1) is not))
    ]
