-- Harts that go round.
use Rattle.std.proofs.Common.{◌≡◌, ◌≢◌, ◌<◌, ◌≤◌, ◌+◌, ◌-◌, ◌↔◌, ◌⊎◌, ℕ, zero, suc, List, [], ◌∷◌, true, false, Bool, Option, None, Some, Result, Ok, Err, IfOk, IsTrue, length, map, slice_get, inl, inr, refl, sym, ap, subst, ◌∙◌, arith}
use Rattle.std.proofs.lemmas.Bool.{cases_lt}
use Rattle.std.proofs.lemmas.Option.{slice_get_within}
use Rattle.ft_types.specs.declared.names.TheConstants.{COUNT_LIMIT}
use Rattle.interleaving.specs.Machine.{Write}
use Rattle.rv32_hart.specs.declared.outcome.Tick.{Tick}
use Rattle.rv32_hart.specs.declared.outcome.Tick.TheVariants as tick
use Rattle.rv32_hart.specs.Hart.{Hart, without_outputs}
use Rattle.rv32_hart.specs.Ram.{Ram, may_write}
use Rattle.rv32_hart.specs.Csrs.{received_all}
use Rattle.rv32_hart.specs.Access.{next_step}
use Rattle.rv32_hart.specs.Step.{IsTaken, IsMissing, IsOutput, OnMiss, OnHalted, OnMemory, Wanted, effect_on, ram_after}
use Rattle.hart_lease.specs.Slots.{is_writable, ram_of, slot_at}
use Rattle.hart_lease.specs.declared.lease_pages.Slot.{Slot}
use Rattle.hart_lease.specs.declared.lease_pages.Slot.TheVariants.{Missing, Readable, Writable}
use Rattle.hart_lease.proofs.steps.Seen.{write_right}
use Rattle.std.specs.Prelude.{slice_index_or, slice_set}
use Rattle.leading.specs.declared.waiting.TheConstants.{LOOP}
use Rattle.guest_image.specs.Machine.{MachineState}
use Rattle.leading.specs.Waiting.{GoesRound, HasHeardAll, OnlyWaits, StandsAgain, TakesStep, TakesSteps, Waits, only_read}

-- ---- pages that may be read alone

abbrev pub readable : List (List ℕ) → List Slot
readable pages = map (λ bytes. Readable bytes) pages

pub none_writable : (pages : List (List ℕ)) (page : ℕ) → may_write (ram_of (readable pages)) page ≡ false
none_writable [] page = refl
none_writable (bytes ∷ pages) zero = refl
none_writable (bytes ∷ pages) (suc page) = none_writable pages page

-- a step writes none of them
pub nothing_written : (h k : Hart) (ram left : Ram) → ((page : ℕ) → may_write ram page ≡ false) → IsTaken [] h ram k left → left ≡ ram
nothing_written h k ram left none taken =
    taken.pages ∙ ap (ram_after ram) (no_write (effect_on ram h []).write refl)
  where
    no_write : (w : Option (Write (List ℕ))) → (effect_on ram h []).write ≡ w → (effect_on ram h []).write ≡ None
    no_write None e = e
    no_write (Some w) e =
        let right : true ≡ false =
        sym (write_right ram (next_step (length ram.contents) (received_all [] h)) (slice_get ram.contents) w taken.granted e) ∙ none w.page in cc

-- one more of them, behind those that are there
pub one_readable : (pages : List (List ℕ)) (slots : List Slot) (n : ℕ) (bytes : List ℕ) → length slots ≡ length pages → slice_get pages n ≡ Some bytes →
    ((page : ℕ) → page < n → slot_at slots page ≡ slot_at (readable pages) page) → (page : ℕ) → page < n + 1 →
    slot_at (slice_set slots n (Readable bytes)) page ≡ slot_at (readable pages) page
one_readable [] slots n bytes many there before page lt = cc
one_readable (p ∷ pages) [] n bytes many there before page lt = absurd (omega (arith, many))
one_readable (p ∷ pages) (s ∷ slots) zero bytes many there before zero lt =
    let same : p ≡ bytes = cc in ap (λ (x : List ℕ). Readable x) (sym same)
one_readable (p ∷ pages) (s ∷ slots) zero bytes many there before (suc page) lt = absurd (omega (arith, lt))
one_readable (p ∷ pages) (s ∷ slots) (suc n) bytes many there before zero lt = before zero (omega arith)
one_readable (p ∷ pages) (s ∷ slots) (suc n) bytes many there before (suc page) lt =
    one_readable pages slots n bytes (omega (arith, many)) there (λ other less. before (suc other) (omega (arith, less))) page (omega (arith, lt))

pub all_readable : (pages : List (List ℕ)) (slots : List Slot) → length slots ≡ length pages →
    ((page : ℕ) → page < length pages → slot_at slots page ≡ slot_at (readable pages) page) → slots ≡ readable pages
all_readable [] [] many same = refl
all_readable [] (s ∷ slots) many same = absurd (omega (arith, many))
all_readable (p ∷ pages) [] many same = absurd (omega (arith, many))
all_readable (p ∷ pages) (s ∷ slots) many same =
    let first : s ≡ Readable p = same zero (omega arith) in
    let rest = all_readable pages slots (omega (arith, many)) (λ page lt. same (suc page) (omega (arith, lt))) in
    ap (λ (x : Slot). x ∷ slots) first ∙ ap (λ (xs : List Slot). Readable p ∷ xs) rest

-- ---- one step

-- where no step was taken there is none
pub no_step : (r : Tick) (h k : Hart) (ram : Ram) → (r ≡ tick.Done → ⊥) → OnMiss r (λ w. IsMissing [] h ram w) → OnHalted r (h.halted ≡ true) →
    OnMemory r (IsOutput [] h ram) → TakesStep ram h k → ⊥
no_step tick.Done h k ram not miss halted memory step = not refl
no_step (tick.Miss page want) h k ram not miss halted memory step =
    let no = sym step.taken.granted ∙ miss.missing in cc
no_step tick.Halted h k ram not miss halted memory step = let no : true ≡ false = sym halted ∙ step.taken.running in cc
no_step tick.Memory h k ram not miss halted memory step =
    let none = ap length step.silent in
    let same = ap (λ (x : Hart). length x.outputs) step.taken.hart in
    let more = memory.output in
    omega (arith, none, same, more)

-- a step leads to one state alone
pub one_way : (ram : Ram) (h k other : Hart) → TakesStep ram h k → TakesStep ram h other → k ≡ other
one_way ram h k other first second = first.taken.hart ∙ sym second.taken.hart

-- one that puts something out is none
pub not_silent : (ram left : Ram) (h k other : Hart) → IsTaken [] h ram k left → (k.outputs ≡ [] → ⊥) → TakesStep ram h other → ⊥
not_silent ram left h k other taken says step = says (ap (λ (x : Hart). x.outputs) (taken.hart ∙ sym step.taken.hart) ∙ step.silent)

-- ---- many steps

pub same_end : (n : ℕ) (ram : Ram) (h k other : Hart) → TakesSteps n ram h k → TakesSteps n ram h other → k ≡ other
same_end zero ram h k other first second = first ∙ sym second
same_end (suc n) ram h k other (mid, before, step) (mid2, before2, step2) =
    let same : mid ≡ mid2 = same_end n ram h mid mid2 before before2 in
    one_way ram mid2 k other (subst (λ (x : Hart). TakesStep ram x k) same step) step2

pub one_more : (n : ℕ) (ram : Ram) (h mid k : Hart) → TakesSteps n ram h mid → TakesStep ram mid k → TakesSteps (n + 1) ram h k
one_more n ram h mid k before step =
    let up : suc n ≡ n + 1 = omega arith in subst (λ (m : ℕ). TakesSteps m ram h k) up (mid, before, step)

-- by a step over pages that are the same
pub one_further : (n : ℕ) (ram seen : Ram) (h mid k : Hart) → seen ≡ ram → TakesSteps n ram h mid → TakesStep seen mid k → TakesSteps (n + 1) ram h k
one_further n ram seen h mid k same before step = one_more n ram h mid k before (subst (λ (r : Ram). TakesStep r mid k) same step)

-- what stands at the front of more steps
front : (n many : ℕ) (ram : Ram) (h k : Hart) → n < many → TakesSteps many ram h k →
    (mid : Hart) × (next : Hart) × TakesSteps n ram h mid × TakesStep ram mid next
front n zero ram h k lt steps = absurd (omega (arith, lt))
front n (suc many) ram h k lt (mid, before, step) = elim (cases_lt n many) [
  | inl less ↦ front n many ram h mid less before
  | inr over ↦
      let e : many ≡ n = omega (arith, lt, over) in (mid, k, subst (λ (m : ℕ). TakesSteps m ram h mid) e before, step)
]

-- ---- no way round

-- by up to so many steps it does not come to where it stands
abbrev pub NotYet : ℕ → Ram → Hart → Type 0
NotYet n ram h = (steps : ℕ) (k : Hart) → 0 < steps → steps ≤ n → TakesSteps steps ram (without_outputs h) k → StandsAgain h k → ⊥

pub never_yet : (ram : Ram) (h : Hart) → NotYet 0 ram h
never_yet ram h = λ steps k some few takes again. absurd (omega (arith, some, few))

pub not_yet_more : (n : ℕ) (ram : Ram) (h k : Hart) → NotYet n ram h → TakesSteps (n + 1) ram (without_outputs h) k → (StandsAgain h k → ⊥) →
    NotYet (n + 1) ram h
not_yet_more n ram h k before there elsewhere = λ steps last some few takes again.
    elim (cases_lt n steps) [
      | inl more ↦
          let e : steps ≡ n + 1 = omega (arith, more, few) in
          let same : last ≡ k = same_end (n + 1) ram (without_outputs h) last k (subst (λ (m : ℕ). TakesSteps m ram (without_outputs h) last) e takes) there in
          elsewhere (subst (StandsAgain h) same again)
      | inr less ↦ before steps last some less takes again
    ]

-- it takes no step more
pub stuck : (n : ℕ) (ram : Ram) (h k : Hart) → NotYet n ram h → TakesSteps n ram (without_outputs h) k → ((next : Hart) → TakesStep ram k next → ⊥) →
    GoesRound ram h → ⊥
stuck n ram h k before there none round = elim (cases_lt n round.steps) [
  | inl more ↦
      let (mid, next, steps, step) = front n round.steps ram (without_outputs h) round.last more round.takes in
      let same : mid ≡ k = same_end n ram (without_outputs h) mid k steps there in
      none next (subst (λ (x : Hart). TakesStep ram x next) same step)
  | inr less ↦ before round.steps round.last round.some less round.takes round.again
]

-- so many steps are all that are looked at
pub never : (n : ℕ) (ram : Ram) (h : Hart) → LOOP ≤ n → NotYet n ram h → GoesRound ram h → ⊥
never n ram h all before round = before round.steps round.last round.some (let few = round.few in omega (arith, few, all)) round.takes round.again

pub round_by : (n : ℕ) (ram : Ram) (h k : Hart) → n < LOOP → TakesSteps (n + 1) ram (without_outputs h) k → StandsAgain h k → GoesRound ram h
round_by n ram h k lt takes again =
    record { steps = n + 1; some = omega arith; few = omega (arith, lt); last = k; takes = takes; again = again }

-- ---- a hart of a machine

pub hart_there : (harts : List Hart) (n : ℕ) → n < length harts → (h : Hart) × (slice_get harts n ≡ Some h)
hart_there [] n lt = absurd (omega (arith, lt))
hart_there (h ∷ harts) zero lt = (h, refl)
hart_there (h ∷ harts) (suc n) lt = hart_there harts n (omega (arith, lt))

same_hart : (x : Option Hart) (s h : Hart) → x ≡ Some s → x ≡ Some h → s ≡ h
same_hart x s h p q = let e : Some s ≡ Some h = sym p ∙ q in cc

pub both_wait : (machine : MachineState) (hart : ℕ) (s h : Hart) (ram : Ram) (x : Option Hart) (b c : Bool) → x ≡ Some s → x ≡ Some h → ram ≡ only_read machine →
    b ≡ true → ((b ≡ true) ↔ HasHeardAll machine hart s) → ((c ≡ true) ↔ ((s.halted ≡ true) ⊎ GoesRound ram s)) → (c ≡ true) ↔ Waits machine hart h
both_wait machine hart s h ram x b c there at seen holds heard round =
    subst (λ (k : Hart). (c ≡ true) ↔ Waits machine hart k) (same_hart x s h there at) (
      λ e. (heard.0 holds, subst (λ (r : Ram). (s.halted ≡ true) ⊎ GoesRound r s) seen (round.0 e)),
      λ waits. round.1 (subst (λ (r : Ram). (s.halted ≡ true) ⊎ GoesRound r s) (sym seen) waits.1),
    )

pub not_heard : (machine : MachineState) (hart : ℕ) (s h : Hart) (x : Option Hart) (b : Bool) → x ≡ Some s → x ≡ Some h → b ≡ false →
    ((b ≡ true) ↔ HasHeardAll machine hart s) → (b ≡ true) ↔ Waits machine hart h
not_heard machine hart s h x b there at fails heard =
    subst (λ (k : Hart). (b ≡ true) ↔ Waits machine hart k) (same_hart x s h there at)
    (λ e. absurd (let both : true ≡ false = sym e ∙ fails in cc), λ waits. heard.1 waits.0)

-- a machine all of whose harts wait, where nothing is handed to one
pub only_waits : {E : Type 0} (r : Result Bool E) (N : Type 0) (m n : MachineState) → m ≡ n → N → IfOk r (λ waits. IsTrue waits ↔ OnlyWaits m) →
    IfOk r (λ waits. IsTrue waits ↔ (N × OnlyWaits n))
only_waits (Err e) N m n same none is = tt
only_waits (Ok b) N m n same none is = (λ e. (none, subst OnlyWaits same (is.0 e)), λ all. is.1 (subst OnlyWaits (sym same) all.1))
