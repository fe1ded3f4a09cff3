-- A step's hart comes out the same, whatever stands at bytes that the step neither fetches nor is told to read.
use Rattle.std.proofs.Common.{◌≡◌, ◌⊎◌, ℕ, ◌+◌, ◌-◌, ◌%◌, ◌^◌, ◌<◌, ◌≤◌, ◌==◌, ◌&&◌, inl, inr, List, [], ◌∷◌, length, Bool, true, false, Option, Some, None, slice_get, slice_index, slice_index_or, if◌then◌else◌, refl, ap, sym, subst, ◌∙◌, arith}
use Rattle.std.proofs.lemmas.Bool.Decides.{nat_tests}
use Rattle.std.proofs.lemmas.Option.{unwrap_or-slice_get, slice_get_within}
use Rattle.std.specs.Int.{from_le_bytes, w16, w32}
use Rattle.interleaving.proofs.Lists.{get_set_same}
use Rattle.interleaving.specs.Stored.{stored_after}
use Rattle.input_log.specs.declared.Input.{Input}
use Rattle.zaamo.specs.declared.AmoOp.{AmoOp}
use Rattle.rv32_isa.specs.declared.instruction.Instr.{Instr}
use Rattle.rv32_isa.specs.declared.instruction.Instr.TheVariants.{Lui, Auipc, Jal, Jalr, Branch, Load, Store, OpImm, ShiftImm, Op, Fence, Ecall, Ebreak, Mret}
use Rattle.rv32_isa.specs.declared.instruction.Instr.TheVariants.{Wfi, CsrReg, CsrImm, Amo}
use Rattle.rv32_isa.specs.declared.instruction.LoadKind.{LoadKind}
use Rattle.rv32_isa.specs.declared.instruction.LoadKind.TheVariants as load
use Rattle.rv32_isa.specs.declared.instruction.StoreKind.{StoreKind}
use Rattle.rv32_isa.specs.Decode.{decode_of}
use Rattle.rv32_isa.specs.Fields.{sign_extend}
use Rattle.rv32_hart.specs.Ram.{half_at, word_at}
use Rattle.rv32_hart.specs.Hart.{Hart, register_of, entered}
use Rattle.rv32_hart.specs.Csrs.{interrupt_of, received_all}
use Rattle.rv32_hart.specs.Access.{Access as HartAccess, Alone, Writing, Step, Taken, Fetching, page_at, offset_at, in_ram, load_width, loaded, load_access}
use Rattle.rv32_hart.specs.Access.{set_step, store_width, store_access, amo_access, execution, word_access, fetch}
use Rattle.rv32_hart.specs.Access.{unless_interrupted as hart_unless_interrupted}
use Rattle.rv32_hart.specs.Step.{bytes_of, access_hart, step_effect, effect}
use Rattle.guest_image.specs.Machine.{MachineState}
use Rattle.hart_lease.specs.Runs.{steps_taken}
use Rattle.hart_replay.specs.Plans.{log_of}
use Rattle.plan_lines.specs.declared.access.Access.{Access}
use Rattle.plan_lines.specs.declared.access.Access.TheVariants.{Nothing, Reads, Changes}
use Rattle.plan_lines.specs.Line.{turn_in}
use Rattle.plan_lines.specs.Uses.{HasByte, used_at, used_by, used_by_word, used_in, used_next, unless_interrupted, ReadsByte}
use Rattle.plan_lines.specs.Laws.{ReadsAreUsed}
use Rattle.plan_lines.proofs.Interrupts.{received_pc}
use Rattle.plan_lines.proofs.Regular.{IsRegular, same_number, receives}
use Rattle.plan_lines.proofs.Written.{byte_in, from_ram, word_is, steps_to, regular_on}

-- the same bytes, so many from an offset on
abbrev Agree : List ℕ → List ℕ → ℕ → ℕ → Type 0
Agree bytes others offset width = (j : ℕ) → offset ≤ j → j < offset + width → slice_index others j ≡ slice_index bytes j

same_byte : (bytes others : List ℕ) (o width : ℕ) → Agree bytes others o width → 0 < width → slice_index others o ≡ slice_index bytes o
same_byte bytes others o width same some = same o (omega arith) (omega (arith, some))

same_half : (bytes others : List ℕ) (o : ℕ) → Agree bytes others o 2 → half_at others o ≡ half_at bytes o
same_half bytes others o same =
    let first : slice_index others o ≡ slice_index bytes o = same o (omega arith) (omega arith) in
    let second : slice_index others (o + 1) ≡ slice_index bytes (o + 1) = same (o + 1) (omega arith) (omega arith) in
    λ i. from_le_bytes w16 (first i ∷ second i ∷ [])

same_word : (bytes others : List ℕ) (o : ℕ) → Agree bytes others o 4 → word_at others o ≡ word_at bytes o
same_word bytes others o same =
    let first : slice_index others o ≡ slice_index bytes o = same o (omega arith) (omega arith) in
    let second : slice_index others (o + 1) ≡ slice_index bytes (o + 1) = same (o + 1) (omega arith) (omega arith) in
    let third : slice_index others (o + 2) ≡ slice_index bytes (o + 2) = same (o + 2) (omega arith) (omega arith) in
    let fourth : slice_index others (o + 3) ≡ slice_index bytes (o + 3) = same (o + 3) (omega arith) (omega arith) in
    λ i. from_le_bytes w32 (first i ∷ second i ∷ third i ∷ fourth i ∷ [])

same_loaded : (k : LoadKind) (bytes others : List ℕ) (o : ℕ) → Agree bytes others o (load_width k) → loaded k others o ≡ loaded k bytes o
same_loaded load.Byte bytes others o same = ap (sign_extend 8) (same_byte bytes others o 1 same (omega arith))
same_loaded load.Half bytes others o same = ap (sign_extend 16) (same_half bytes others o same)
same_loaded load.Word bytes others o same = same_word bytes others o same
same_loaded load.ByteUnsigned bytes others o same = same_byte bytes others o 1 same (omega arith)
same_loaded load.HalfUnsigned bytes others o same = same_half bytes others o same

-- aligned bytes lie in one page
word_inside : (a : ℕ) → a % 4 ≡ 0 → offset_at a + 4 ≤ 4096
word_inside a is = omega (arith, is)

load_inside : (k : LoadKind) (a : ℕ) → a % load_width k ≡ 0 → offset_at a + load_width k ≤ 4096
load_inside load.Byte a is = omega arith
load_inside load.Half a is = omega (arith, is)
load_inside load.Word a is = omega (arith, is)
load_inside load.ByteUnsigned a is = omega arith
load_inside load.HalfUnsigned a is = omega (arith, is)

to_ram : (pages a address : ℕ) → in_ram pages a ≡ true → 0x80000000 ≤ address → page_at address ≡ page_at a → in_ram pages address ≡ true
to_ram pages a address there over page = grind (arith, nat_tests, there, over, page)

-- an address of one of the bytes
pub record IsAddressOf (a width j address : ℕ) : Type 0 where
  pub over : 0x80000000 ≤ address
  pub page : page_at address ≡ page_at a
  pub offset : offset_at address ≡ j
  pub has : HasByte (record { first = a; length = width }) address

address_of : (a width j : ℕ) → 0x80000000 ≤ a → offset_at a + width ≤ 4096 → offset_at a ≤ j → j < offset_at a + width →
    IsAddressOf a width j (a + (j - offset_at a))
address_of a width j over inside from below =
    record {
      over = omega (arith, over, from);
      page = omega (arith, over, inside, from, below);
      offset = omega (arith, inside, from, below);
      has = (omega (arith, from), omega (arith, from, below));
    }

module _ (pages others : List (List ℕ)) where
  -- the same bytes of RAM, where they are used so
  abbrev AreAlike : (ℕ → Type 0) → Type 0
  AreAlike Used = (address : ℕ) → in_ram (length pages) address ≡ true → Used address → byte_in others address ≡ byte_in pages address

  page_agrees : (a width : ℕ) → in_ram (length pages) a ≡ true → offset_at a + width ≤ 4096 →
      AreAlike (λ address. HasByte (record { first = a; length = width }) address) →
      Agree (bytes_of (slice_get pages) (page_at a)) (bytes_of (slice_get others) (page_at a)) (offset_at a) width
  page_agrees a width there inside alike j from below =
      let address = a + (j - offset_at a) in
      let is = address_of a width j (from_ram (length pages) a there) inside from below in
      let same = alike address (to_ram (length pages) a address there is.over is.page) is.has in
      ap (λ (l : List ℕ). slice_index l j) (unwrap_or-slice_get others (page_at a) [])
      ∙ subst (λ (o : ℕ). slice_index (slice_index_or others (page_at a) []) o ≡ slice_index (slice_index_or pages (page_at a) []) o) is.offset
      (subst (λ (p : ℕ). slice_index (slice_index_or others p []) (offset_at address) ≡ slice_index (slice_index_or pages p []) (offset_at address)) is.page same)
      ∙ ap (λ (l : List ℕ). slice_index l j) (sym (unwrap_or-slice_get pages (page_at a) []))

  -- the hart after an access
  abbrev Sees : HartAccess → Access → Type 0
  Sees a used = AreAlike (ReadsByte used) → access_hart a (slice_get others) ≡ access_hart a (slice_get pages)

  both_see : (a b : Bool) (w : HartAccess) (k l : Hart) (used : Access) → (a ≡ true → b ≡ true → Sees w used) →
      Sees (if a then (if b then w else Alone k) else Alone l) (if a && b then used else Nothing)
  both_see true true w k l used sees = sees refl refl
  both_see true false w k l used sees = λ alike. refl
  both_see false b w k l used sees = λ alike. refl

  load_sees : (k : LoadKind) (rd a : ℕ) (h : Hart) → Sees (load_access k rd a (length pages) h) (used_at Reads (length pages) a (load_width k))
  load_sees k rd a h =
      both_see (a % load_width k == 0) (in_ram (length pages) a) _ _ _ (Reads (record { first = a; length = load_width k })) (λ aligned there alike.
      ap (λ (v : ℕ). set_step rd v h) (same_loaded k (bytes_of (slice_get pages) (page_at a)) (bytes_of (slice_get others) (page_at a)) (offset_at a)
      (page_agrees a (load_width k) there (load_inside k a (same_number (a % load_width k) 0 aligned)) alike)))

  amo_sees : (o : AmoOp) (rd a v : ℕ) (h : Hart) → Sees (amo_access o rd a v (length pages) h) (used_at Changes (length pages) a 4)
  amo_sees o rd a v h =
      both_see (a % 4 == 0) (in_ram (length pages) a) _ _ _ (Changes (record { first = a; length = 4 })) (λ aligned there alike.
      ap (λ (w : ℕ). set_step rd w h) (same_word (bytes_of (slice_get pages) (page_at a)) (bytes_of (slice_get others) (page_at a)) (offset_at a)
      (page_agrees a 4 there (word_inside a (same_number (a % 4) 0 aligned)) alike)))

  store_sees : (k : StoreKind) (a v : ℕ) (h : Hart) (used : Access) → Sees (store_access k a v (length pages) h) used
  store_sees k a v h used alike = of (a % store_width k == 0) (in_ram (length pages) a) _ _ _ _ _
    where
      of : (b c : Bool) (page : ℕ) (g k l : Hart) (bytes : List ℕ → List ℕ) →
          access_hart (if b then (if c then Writing page (λ old. g) bytes else Alone k) else Alone l) (slice_get others)
          ≡ access_hart (if b then (if c then Writing page (λ old. g) bytes else Alone k) else Alone l) (slice_get pages)
      of true true page g k l bytes = refl
      of true false page g k l bytes = refl
      of false c page g k l bytes = refl

  execution_sees : (i : Instr) (h : Hart) → IsRegular h → Sees (execution i (length pages) h) (used_by i (length pages) h)
  execution_sees (Lui rd imm) h is = λ alike. refl
  execution_sees (Auipc rd imm) h is = λ alike. refl
  execution_sees (Jal rd offset) h is = λ alike. refl
  execution_sees (Jalr rd rs1 imm) h is = λ alike. refl
  execution_sees (Branch c rs1 rs2 offset) h is = λ alike. refl
  execution_sees (Load k rd rs1 imm) h is =
      subst (λ (w : ℕ). Sees (execution (Load k rd rs1 imm) (length pages) h) (used_at Reads (length pages) ((w + imm) % 2 ^ 32) (load_width k)))
      (word_is h rs1 is) (load_sees k rd ((register_of h rs1 + imm) % 2 ^ 32) h)
  execution_sees (Store k rs1 rs2 imm) h is = store_sees k ((register_of h rs1 + imm) % 2 ^ 32) (register_of h rs2) h _
  execution_sees (OpImm o rd rs1 imm) h is = λ alike. refl
  execution_sees (ShiftImm o rd rs1 amount) h is = λ alike. refl
  execution_sees (Op o rd rs1 rs2) h is = λ alike. refl
  execution_sees Fence h is = λ alike. refl
  execution_sees Wfi h is = λ alike. refl
  execution_sees Ecall h is = λ alike. refl
  execution_sees Ebreak h is = λ alike. refl
  execution_sees Mret h is = λ alike. refl
  execution_sees (CsrReg o rd n rs1) h is = λ alike. refl
  execution_sees (CsrImm o rd n imm) h is = λ alike. refl
  execution_sees (Amo o rd rs1 rs2 aq rl) h is =
      subst (λ (w : ℕ). Sees (execution (Amo o rd rs1 rs2 aq rl) (length pages) h) (used_at Changes (length pages) w 4)) (word_is h rs1 is)
      (amo_sees o rd (register_of h rs1) (register_of h rs2) h)

  word_sees : (i : Option Instr) (h : Hart) → IsRegular h → Sees (word_access i (length pages) h) (used_by_word i (length pages) h)
  word_sees None h is = λ alike. refl
  word_sees (Some i) h is = execution_sees i h is

  -- and after a step
  abbrev seen_word : Hart → List (List ℕ) → ℕ
  seen_word h ps = word_at (bytes_of (slice_get ps) (page_at h.pc)) (offset_at h.pc)

  abbrev StepSees : Step → Hart → Access → Type 0
  StepSees s h used =
      AreAlike (λ address. HasByte (record { first = h.pc; length = 4 }) address ⊎ ReadsByte used address) →
      (step_effect s (slice_get others)).hart ≡ (step_effect s (slice_get pages)).hart

  fetch_sees : (h : Hart) → IsRegular h → StepSees (fetch (length pages) h) h (used_in pages h)
  fetch_sees h is = of (h.pc % 4 == 0) (in_ram (length pages) h.pc) refl (ap (λ (n : ℕ). n == 0) is.pc)
    where
      of : (a b : Bool) → in_ram (length pages) h.pc ≡ b → a ≡ true →
          StepSees (if b then Fetching (page_at h.pc) (λ bytes. word_access (decode_of (word_at bytes (offset_at h.pc))) (length pages) h) else Taken (entered h 1))
          h (if a && b then used_by_word (decode_of (word_at (slice_index_or pages (page_at h.pc) []) (offset_at h.pc))) (length pages) h else Nothing)
      of true true there so alike =
          let word : seen_word h others ≡ seen_word h pages =
          same_word (bytes_of (slice_get pages) (page_at h.pc)) (bytes_of (slice_get others) (page_at h.pc)) (offset_at h.pc)
          (page_agrees h.pc 4 there (word_inside h.pc is.pc) (λ address inside has. alike address inside (inl has))) in
          ap (λ (w : ℕ). access_hart (word_access (decode_of w) (length pages) h) (slice_get others)) word
          ∙ word_sees (decode_of (seen_word h pages)) h is (λ address inside reads. alike address inside (inr
          (subst (λ (bytes : List ℕ). ReadsByte (used_by_word (decode_of (word_at bytes (offset_at h.pc))) (length pages) h) address)
          (unwrap_or-slice_get pages (page_at h.pc) []) reads)))
      of true false there so alike = refl
      of false b there so alike = cc

  interrupted_sees : (cause : Option ℕ) (h : Hart) → IsRegular h →
      StepSees (hart_unless_interrupted cause (length pages) h) h (unless_interrupted cause pages h)
  interrupted_sees None h is = fetch_sees h is
  interrupted_sees (Some cause) h is = λ alike. refl

  step_sees : (h : Hart) (inputs : List Input) → IsRegular h → length others ≡ length pages →
      AreAlike (λ address. HasByte (record { first = h.pc; length = 4 }) address ⊎ ReadsByte (used_next pages (received_all inputs h)) address) →
      (effect (length others) h inputs (slice_get others)).hart ≡ (effect (length pages) h inputs (slice_get pages)).hart
  step_sees h inputs is many alike =
      ap (λ (n : ℕ). (effect n h inputs (slice_get others)).hart) many
      ∙ interrupted_sees (interrupt_of (received_all inputs h)) (received_all inputs h) (receives inputs h is)
      (subst (λ (pc : ℕ). AreAlike (λ address. HasByte (record { first = pc; length = 4 }) address ⊎ ReadsByte (used_next pages (received_all inputs h)) address))
      (sym (received_pc inputs h)) alike)

-- ---- on machines

hart_after : (m n : MachineState) (inputs : List Input) (hart : ℕ) (h : Hart) → slice_get m.harts hart ≡ Some h →
    n ≡ stored_after m hart (effect (length m.pages) h inputs (slice_get m.pages)) →
    slice_get n.harts hart ≡ Some (effect (length m.pages) h inputs (slice_get m.pages)).hart
hart_after m n inputs hart h found is =
    ap (λ (x : MachineState). slice_get x.harts hart) is
    ∙ get_set_same m.harts hart (effect (length m.pages) h inputs (slice_get m.pages)).hart (slice_get_within m.harts hart h found)

pub reads_are_used : ReadsAreUsed
reads_are_used image legs t h access leads step k alike n o first second =
    let m = t.machine in
    let inputs = (log_of step.leg).inputs step.hart h.count in
    let found : slice_get k.harts step.hart ≡ Some h = ap (λ (l : List Hart). slice_get l step.hart) alike.harts ∙ step.found in
    let made =
    step_sees m.pages k.pages h inputs (regular_on image legs t leads step.hart h step.found) alike.pages
    (subst (λ (a : Access). AreAlike m.pages k.pages (λ address. HasByte (record { first = h.pc; length = 4 }) address ⊎ ReadsByte a address)) step.uses
    alike.bytes) in
    hart_after k o inputs step.hart h found
    (subst (λ (count : ℕ). o ≡ stored_after k step.hart (effect (length k.pages) h ((log_of step.leg).inputs step.hart count) (slice_get k.pages)))
    (ap steps_taken found) (steps_to k o (turn_in step.leg k step.hart) h found second))
    ∙ ap Some made
    ∙ sym (hart_after m n inputs step.hart h step.found
    (subst (λ (count : ℕ). n ≡ stored_after m step.hart (effect (length m.pages) h ((log_of step.leg).inputs step.hart count) (slice_get m.pages)))
    (ap steps_taken step.found) (steps_to m n (turn_in step.leg m step.hart) h step.found first)))
