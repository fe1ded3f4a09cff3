-- Outputs that go out at the gate are the machine's, and enough keepers acknowledged their steps.
use Rattle.std.proofs.Common.{◌≡◌, inl, inr, ℕ, ◌<◌, ◌≤◌, true, false, List, [], ◌∷◌, filter, nat_lt, slice_index_or, sym, ap, ◌∙◌, arith}
use Rattle.std.proofs.lemmas.Bool.{cases_lt, ltb-true, leb-true}
use Rattle.interleaving.specs.Lists.{Each}
use Rattle.ft_types.specs.Counts.{count_at}
use Rattle.guest_image.specs.Machine.{MachineState}
use Rattle.ft_types.specs.declared.output.Output.{Output}
use Rattle.output_gate.specs.Gates.{GateView, waiting_of, holder_count, is_held, held_outputs}
use Rattle.term_gate.specs.TermGates.{TermGateView, AreAcked, acked_at}
use Rattle.fenced_theory.specs.Lists.{how_many}
use Rattle.fenced_theory.proofs.Stores.{see_bool}
use Rattle.primary.specs.Gating.{AreOffered}
use Rattle.primary.proofs.Said.{IsSaid, each_filter, each_held, waiting_said}
use Rattle.failover_world.proofs.Counting.{row_among}

-- the output is the machine's, and enough keepers acknowledged its step
pub record IsGoing (keepers need : ℕ) (g : TermGateView) (m : MachineState) (o : Output) : Type 0 where
  pub said : IsSaid m o
  pub enough : need ≤ how_many keepers (λ keeper. nat_lt o.step (acked_at g keeper o.hart))

acked_beyond : (g : TermGateView) (noted : List (List ℕ)) → AreAcked g noted → (keeper hart step : ℕ) →
    nat_lt step (count_at (slice_index_or noted keeper []) hart) ≡ true →
    (keeper < g.gate.keepers) × (nat_lt step (acked_at g keeper hart) ≡ true)
acked_beyond g noted are keeper hart step is =
    let above : step < count_at (slice_index_or noted keeper []) hart = ltb-true step (count_at (slice_index_or noted keeper []) hart) is in
    elim (cases_lt keeper g.gate.keepers) [
      | inl few ↦ (
        few,
        elim (cases_lt hart g.harts) [
          | inl wide ↦ ap (nat_lt step) (sym (are.acked keeper hart few wide)) ∙ is
          | inr past ↦ let none = are.no_hart keeper hart past in absurd (omega (arith, above, none))
        ],
      )
      | inr past ↦ let none = are.no_keeper keeper hart past in absurd (omega (arith, above, none))
    ]

never_below : (n : ℕ) → nat_lt n 0 ≡ false
never_below n = elim (see_bool (nat_lt n 0)) [
  | inl is ↦ let low : n < 0 = ltb-true n 0 is in absurd (omega (arith, low))
  | inr is ↦ is
]

pub held_enough : (need : ℕ) (g : TermGateView) (noted : List (List ℕ)) → AreAcked g noted → (o : Output) → is_held need noted o ≡ true →
    need ≤ how_many g.gate.keepers (λ keeper. nat_lt o.step (acked_at g keeper o.hart))
held_enough need g noted are o held =
    let enough : need ≤ holder_count noted o.hart o.step = leb-true need (holder_count noted o.hart o.step) held in
    let among = row_among (λ (row : List ℕ). nat_lt o.step (count_at row o.hart)) [] noted g.gate.keepers
    (λ keeper. nat_lt o.step (acked_at g keeper o.hart)) (never_below o.step) (λ k is. acked_beyond g noted are k o.hart o.step is) in
    omega (arith, enough, among)

both_then : {A : Type 0} (P Q : A → Type 0) (xs : List A) → ((x : A) → P x → Q x) → Each P xs → Each Q xs
both_then P Q [] f all = tt
both_then P Q (x ∷ xs) f (first, rest) = (f x first, both_then P Q xs f rest)

-- what the gate gives
pub going : (need : ℕ) (g : TermGateView) (h : GateView) (noted : List (List ℕ)) (m : MachineState) → AreAcked g noted → AreOffered h m →
    Each (IsGoing g.gate.keepers need g m) (held_outputs need noted h.lines)
going need g h noted m are offered =
    each_held (IsGoing g.gate.keepers need g m) (is_held need noted) h.lines
    (λ hart.
    both_then (λ o. IsSaid m o × (is_held need noted o ≡ true)) (IsGoing g.gate.keepers need g m) (filter (is_held need noted) (waiting_of h hart))
    (λ o both. record { said = both.0; enough = held_enough need g noted are o both.1 })
    (each_filter (IsSaid m) (is_held need noted) (waiting_of h hart) (waiting_said h m offered hart)))
