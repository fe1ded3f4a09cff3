-- Inputs that are handed on, hart by hart.
use Rattle.std.proofs.Common.{◌≡◌, ◌≢◌, ℕ, ◌==◌, ◌+◌, ◌≤◌, ◌<◌, ◌++◌, ◌∷◌, [], true, false, Bool, List, length, slice_get, inl, inr, Option, Some, None, IfSome, IfNone, if◌then◌else◌, refl, sym, ap, subst, ◌∙◌, arith, eq-eqb, ne_eqb}
use Rattle.interleaving.proofs.Put.{same_or_not}
use Rattle.input_log.specs.declared.Input.{Input}
use Rattle.input_log.specs.Waiting.{bells_of, others_of}
use Rattle.rv32_hart.specs.Hart.{Hart}
use Rattle.book_modes.specs.Recordings.{RecordingView, IsOffered}
use Rattle.requests.specs.Queues.{QueueView, front, handed_on}
use Rattle.std.specs.Prelude.{slice_set}
use Rattle.std.specs.Option.{is_some}
use Rattle.guest_image.specs.Machine.{MachineState}
use Rattle.leading.specs.declared.inputs.Spacing.{Spacing}
use Rattle.leading.specs.Leaders.{queue_at}
use Rattle.leading.specs.Rounds.{Hands, NoneIsHanded, may_take, next_of, spacing_of}
use Rattle.leading.proofs.Queueing.{set_same, set_other}

-- what a queue says is next, where the hart was given so many words
queue_says : (given : ℕ) (q : QueueView) (r : Option Input) → (given ≡ q.handed → r ≡ front q.waiting) → ((given ≡ q.handed → ⊥) → r ≡ None) →
    r ≡ (if given == q.handed then front q.waiting else None)
queue_says given q r ready waits = elim (same_or_not given q.handed) [
  | inl same ↦ rw (eq-eqb given q.handed same) (ready same)
  | inr other ↦ rw (ne_eqb given q.handed other) (waits other)
]

-- what is next for a hart that may take it
pub next_is : (h : Hart) (q : QueueView) (r : Option Input) (b : Bool) (given : ℕ) → b ≡ may_take h → b ≡ true → given ≡ h.received.input_sequence →
    (given ≡ q.handed → r ≡ front q.waiting) → ((given ≡ q.handed → ⊥) → r ≡ None) → r ≡ next_of h q
next_is h q r b given may is so_many ready waits =
    queue_says given q r ready waits
    ∙ ap (λ (n : ℕ). if n == q.handed then front q.waiting else None) so_many
    ∙ ap (λ (x : Bool). if x then (if h.received.input_sequence == q.handed then front q.waiting else None) else None) (sym is ∙ may)

pub none_next : (h : Hart) (q : QueueView) (b : Bool) → b ≡ may_take h → b ≡ false → None ≡ next_of h q
none_next h q b may is =
    ap (λ (x : Bool). if x then (if h.received.input_sequence == q.handed then front q.waiting else None) else None) (sym is ∙ may)

-- what is known of it where it is there, and where it is not
pub some_is : {A : Type 0} (P : A → Type 0) (r n : Option A) → r ≡ n → IfSome r P → IfSome r (λ x. (n ≡ Some x) × P x)
some_is P None n same holds = tt
some_is P (Some x) n same holds = (sym same, holds)

pub none_is : {A : Type 0} (r n : Option A) → r ≡ n → IfNone r (n ≡ None)
none_is None n same = sym same
none_is (Some x) n same = tt

-- the same state of a hart
same_state : (x : Option Hart) (h k : Hart) → x ≡ Some h → x ≡ Some k → h ≡ k
same_state x h k p q = let e : Some h ≡ Some k = sym p ∙ q in cc

pub hands_nothing : (d : Spacing) (x : Option Hart) (state : Hart) (hart : ℕ) (q : QueueView) (b : RecordingView) → x ≡ Some state → next_of state q ≡ None → (h : Hart) →
    x ≡ Some h → Hands d (next_of h q) hart h.count q q b b
hands_nothing d x state hart q b there none h at =
    subst (λ (s : Hart). Hands d (next_of s q) hart s.count q q b b) (same_state x state h there at)
    (subst (λ (n : Option Input). Hands d n hart state.count q q b b) (sym none) (refl, refl))

pub hands_input : (d : Spacing) (x : Option Hart) (state : Hart) (hart count spacing : ℕ) (input : Input) (q p : QueueView) (b c : RecordingView) → x ≡ Some state →
    next_of state q ≡ Some input → count ≡ state.count → spacing ≡ spacing_of d → p ≡ handed_on q.handed q.waiting →
    IsOffered b hart (count + spacing) input c → (h : Hart) →
    x ≡ Some h → Hands d (next_of h q) hart h.count q p b c
hands_input d x state hart count spacing input q p b c there some so_many so_far queue offered h at =
    subst (λ (s : Hart). Hands d (next_of s q) hart s.count q p b c) (same_state x state h there at)
    (subst (λ (n : Option Input). Hands d n hart state.count q p b c) (sym some) (
      queue,
      subst (λ (k : ℕ). others_of c.desk hart ≡ others_of b.desk hart ++ record { not_before = k + spacing_of d; input = input } ∷ []) so_many
          (subst (λ (k : ℕ). others_of c.desk hart ≡ others_of b.desk hart ++ record { not_before = count + k; input = input } ∷ []) so_far offered.others),
    ))

-- no bell is touched
pub bells_stay : (b c : RecordingView) (hart not_before : ℕ) (input : Input) → IsOffered b hart not_before input c → (other : ℕ) →
    bells_of c.desk other ≡ bells_of b.desk other
bells_stay b c hart not_before input offered other = elim (same_or_not other hart) [
  | inl same ↦ subst (λ k. bells_of c.desk k ≡ bells_of b.desk k) (sym same) offered.bells
  | inr ne ↦ offered.bells_of_others other ne
]

-- where queue and desk of the hart are as they were, before and behind
pub hands_same : (g : Spacing) (n : Option Input) (hart count : ℕ) (old new p q : QueueView) (b c d e : RecordingView) → p ≡ old → q ≡ new →
    others_of d.desk hart ≡ others_of b.desk hart → others_of e.desk hart ≡ others_of c.desk hart → Hands g n hart count old new b c → Hands g n hart count p q d e
hands_same g None hart count old new p q b c d e first last before behind (queue, desk) = (last ∙ queue ∙ sym first, behind ∙ desk ∙ sym before)
hands_same g (Some input) hart count old new p q b c d e first last before behind (queue, desk) = (
  last ∙ queue ∙ ap (λ (k : QueueView). handed_on k.handed k.waiting) (sym first),
  behind ∙ desk ∙ ap (λ os. os ++ record { not_before = count + spacing_of g; input = input } ∷ []) (sym before),
)

-- one hart more
pub hands_more : (g : Spacing) (harts : List Hart) (n : ℕ) (old qs : List QueueView) (q p : QueueView) (b c d : RecordingView) → n < length qs → q ≡ queue_at qs n →
    ((hart : ℕ) (h : Hart) → hart < n → slice_get harts hart ≡ Some h → Hands g (next_of h (queue_at old hart)) hart h.count (queue_at old hart) (queue_at qs hart) b c) →
    ((hart : ℕ) → n ≤ hart → queue_at qs hart ≡ queue_at old hart) → ((hart : ℕ) → n ≤ hart → others_of c.desk hart ≡ others_of b.desk hart) →
    ((h : Hart) → slice_get harts n ≡ Some h → Hands g (next_of h q) n h.count q p c d) →
    ((other : ℕ) → other ≢ n → others_of d.desk other ≡ others_of c.desk other) → (hart : ℕ) (h : Hart) → hart < n + 1 → slice_get harts hart ≡ Some h →
    Hands g (next_of h (queue_at old hart)) hart h.count (queue_at old hart) (queue_at (slice_set qs n p) hart) b d
hands_more g harts n old qs q p b c d inside there done queues desk own others hart h lt at =
    elim (same_or_not hart n) [
      | inl same ↦
          let first : queue_at old n ≡ q = sym (queues n (omega arith)) ∙ sym there in
          subst (λ k. Hands g (next_of h (queue_at old k)) k h.count (queue_at old k) (queue_at (slice_set qs n p) k) b d) (sym same)
          (subst (λ x. Hands g (next_of h x) n h.count (queue_at old n) (queue_at (slice_set qs n p) n) b d) (sym first)
          (hands_same g (next_of h q) n h.count q p (queue_at old n) (queue_at (slice_set qs n p) n) c d b d first (set_same qs n p inside)
          (sym (desk n (omega arith))) refl (own h (subst (λ k. slice_get harts k ≡ Some h) same at))))
      | inr other ↦
          hands_same g (next_of h (queue_at old hart)) hart h.count (queue_at old hart) (queue_at qs hart) (queue_at old hart) (queue_at (slice_set qs n p) hart) b c b d
          refl (set_other qs n hart p other) refl (others hart other) (done hart h (omega (arith, lt, other)) at)
    ]

-- ---- whether one is handed

pub one_is_handed : (machine : MachineState) (queues : List QueueView) (n : ℕ) (h : Hart) (q : QueueView) (r : Option Input) →
    slice_get machine.harts n ≡ Some h → q ≡ queue_at queues n → r ≡ next_of h q → is_some r ≡ true → NoneIsHanded machine queues → ⊥
one_is_handed machine queues n h q None there same is some none = let no : false ≡ true = some in cc
one_is_handed machine queues n h q (Some i) there same is some none = let no : Some i ≡ None = is ∙ ap (next_of h) same ∙ none n h there in cc
