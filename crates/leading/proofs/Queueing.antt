-- Queues, hart by hart.
use Rattle.std.proofs.Common.{◌≡◌, ◌≢◌, ◌⊎◌, ◌<◌, ◌≤◌, ◌+◌, ℕ, zero, suc, List, [], ◌∷◌, ◌++◌, Some, length, slice_get, inl, inr, refl, sym, ap, subst, ◌∙◌, arith}
use Rattle.std.specs.Prelude.{slice_index_or, slice_set}
use Rattle.std.proofs.lemmas.Bool.{cases_lt}
use Rattle.rv32_hart.specs.Hart.{Hart}
use Rattle.guest_image.specs.Machine.{MachineState}
use Rattle.requests.specs.Queues.{QueueView}
use Rattle.requests.specs.declared.queue.TheConstants.{WORD_LIMIT}
use Rattle.leading.specs.Leaders.{queue_at}

-- ---- one queue more

pub queue_before : (queues : List QueueView) (q : QueueView) (hart : ℕ) → hart < length queues → queue_at (queues ++ q ∷ []) hart ≡ queue_at queues hart
queue_before [] q hart lt = absurd (omega arith)
queue_before (first ∷ queues) q zero lt = refl
queue_before (first ∷ queues) q (suc hart) lt = queue_before queues q hart (omega arith)

pub queue_last : (queues : List QueueView) (q : QueueView) (hart : ℕ) → hart ≡ length queues → queue_at (queues ++ q ∷ []) hart ≡ q
queue_last [] q zero e = refl
queue_last [] q (suc hart) e = absurd (omega arith)
queue_last (first ∷ queues) q zero e = absurd (omega arith)
queue_last (first ∷ queues) q (suc hart) e = queue_last queues q hart (omega arith)

-- behind what a hart was given
abbrev pub begun_of : Hart → QueueView
begun_of h = record { handed = h.received.input_sequence; waiting = [] }

pub one_begun : (machine : MachineState) (queues : List QueueView) (q : QueueView) (number : ℕ) → length queues ≡ number →
    ((h : Hart) → slice_get machine.harts number ≡ Some h → q ≡ begun_of h) →
    ((hart : ℕ) (h : Hart) → hart < number → slice_get machine.harts hart ≡ Some h → queue_at queues hart ≡ begun_of h) →
    (hart : ℕ) (h : Hart) → hart < number + 1 → slice_get machine.harts hart ≡ Some h → queue_at (queues ++ q ∷ []) hart ≡ begun_of h
one_begun machine queues q number many one behind hart h lt there =
    elim (cases_lt hart number) [
      | inl less ↦ queue_before queues q hart (omega arith) ∙ behind hart h less there
      | inr over ↦
          let e : number ≡ hart = omega arith in
          queue_last queues q hart (omega arith) ∙ one h (ap (slice_get machine.harts) e ∙ there)
    ]

-- the hart of this number was given so many words
pub one_given : (machine : MachineState) (number place given : ℕ) (state : Hart) (q : QueueView) → place ≡ number → slice_get machine.harts place ≡ Some state →
    given ≡ state.received.input_sequence → given ≤ WORD_LIMIT → q ≡ record { handed = given; waiting = [] } → (h : Hart) →
    slice_get machine.harts number ≡ Some h → (q ≡ begun_of h) × (h.received.input_sequence ≤ WORD_LIMIT)
one_given machine number place given state q same at is limit queue h there =
    let e : Some state ≡ Some h = sym at ∙ ap (slice_get machine.harts) same ∙ there in
    let its : state ≡ h = cc in
    let words : given ≡ h.received.input_sequence = is ∙ ap (λ (k : Hart). k.received.input_sequence) its in
    (queue ∙ ap (λ (n : ℕ). let p : QueueView = record { handed = n; waiting = [] } in p) words, omega (arith, words, limit))

pub one_in_limit : (machine : MachineState) (number : ℕ) → ((h : Hart) → slice_get machine.harts number ≡ Some h → h.received.input_sequence ≤ WORD_LIMIT) →
    ((hart : ℕ) (h : Hart) → hart < number → slice_get machine.harts hart ≡ Some h → h.received.input_sequence ≤ WORD_LIMIT) →
    (hart : ℕ) (h : Hart) → hart < number + 1 → slice_get machine.harts hart ≡ Some h → h.received.input_sequence ≤ WORD_LIMIT
one_in_limit machine number one before hart h lt there =
    elim (cases_lt hart number) [
      | inl less ↦ before hart h less there
      | inr over ↦ let e : number ≡ hart = omega arith in one h (ap (slice_get machine.harts) e ∙ there)
    ]

-- ---- one queue that is another now

pub set_same : (queues : List QueueView) (n : ℕ) (q : QueueView) → n < length queues → queue_at (slice_set queues n q) n ≡ q
set_same [] n q lt = absurd (omega arith)
set_same (first ∷ queues) zero q lt = refl
set_same (first ∷ queues) (suc n) q lt = set_same queues n q (omega arith)

pub set_other : (queues : List QueueView) (n hart : ℕ) (q : QueueView) → hart ≢ n → queue_at (slice_set queues n q) hart ≡ queue_at queues hart
set_other [] n hart q ne = refl
set_other (first ∷ queues) zero zero q ne = absurd (ne refl)
set_other (first ∷ queues) zero (suc hart) q ne = refl
set_other (first ∷ queues) (suc n) zero q ne = refl
set_other (first ∷ queues) (suc n) (suc hart) q ne = set_other queues n hart q (λ e. ne (ap suc e))

-- a queue that is there is the same, whatever stands for one that is not
pub queue_there : (queues : List QueueView) (n : ℕ) (q : QueueView) → n < length queues → q ≡ slice_index_or queues n q → q ≡ queue_at queues n
queue_there queues n q lt is = is ∙ whatever queues n q lt
  where
    whatever : (queues : List QueueView) (n : ℕ) (other : QueueView) → n < length queues → slice_index_or queues n other ≡ queue_at queues n
    whatever [] n other lt = absurd (omega arith)
    whatever (first ∷ queues) zero other lt = refl
    whatever (first ∷ queues) (suc n) other lt = whatever queues n other (omega arith)

-- where there is none, nothing changes
pub set_none : (queues : List QueueView) (n : ℕ) (q : QueueView) → length queues ≤ n → slice_set queues n q ≡ queues
set_none [] n q le = refl
set_none (first ∷ queues) zero q le = absurd (omega arith)
set_none (first ∷ queues) (suc n) q le = ap (λ (qs : List QueueView). first ∷ qs) (set_none queues n q (omega arith))
