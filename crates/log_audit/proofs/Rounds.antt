-- From hart to hart in a round, and from round to round.
use Rattle.std.proofs.Common.{◌≡◌, ℕ, ◌+◌, ◌<◌, length, refl, sym, ap, subst, ◌∙◌, inl, inr, arith}
use Rattle.std.proofs.lemmas.Bool.{cases_lt}
use Rattle.hart_replay.specs.declared.plans.PlannedLeg.{PlannedLeg}
use Rattle.guest_image.specs.Machine.{MachineState}
use Rattle.hart_replay.specs.Plans.{IsLeg}
use Rattle.log_audit.specs.declared.harts.Clash.{Clash}
use Rattle.log_audit.specs.declared.harts.Turn.{Turn}
use Rattle.log_audit.specs.declared.harts.Turn.TheVariants.{Held, Went, Clashed}
use Rattle.log_audit.specs.declared.legs.Ended.TheVariants.{Stopped}
use Rattle.log_audit.specs.machinery.Covered.{HartsView, machine_of, begun, GoesOn, IsHeld, IsOn}
use Rattle.log_audit.specs.machinery.Turns.{IsClash, Turns, TurnsOf, HasStopped, Ends}

-- the first harts had their turns, and none clashed
abbrev pub HadTurns : PlannedLeg → ℕ → HartsView → Turn → HartsView → Type 0
HadTurns leg many b Held c = (c ≡ b) × ((hart : ℕ) → hart < many → IsHeld leg b hart)
HadTurns leg many b Went c = GoesOn leg b c
HadTurns leg many b (Clashed clash) c = ⊥

pub had_none : (leg : PlannedLeg) (b : HartsView) → HadTurns leg 0 b Held b
had_none leg b = (refl, λ hart lt. absurd (omega (arith, lt)))

pub had_start : (leg : PlannedLeg) (n : ℕ) (b : HartsView) (turn : Turn) (c : HartsView) → HadTurns leg n b turn c → c.start ≡ b.start
had_start leg n b Held c (same, held) = ap (λ (v : HartsView). v.start) same
had_start leg n b Went c on = on.start
had_start leg n b (Clashed clash) c none = absurd none

pub had_on : (leg : PlannedLeg) (n : ℕ) (b : HartsView) (turn : Turn) (c : HartsView) → IsOn leg b → HadTurns leg n b turn c → IsOn leg c
had_on leg n b Held c on (same, held) = subst (λ (v : HartsView). IsOn leg v) (sym same) on
had_on leg n b Went c on goes = goes.on
had_on leg n b (Clashed clash) c on none = absurd none

-- there are as many harts as ever
pub as_many : (leg : PlannedLeg) (b c : HartsView) → IsOn leg b → IsOn leg c → c.start ≡ b.start → length c.harts ≡ length b.harts
as_many leg b c (order, before) (later, after) start =
    after.harts ∙ ap (λ (m : MachineState). length m.harts) start ∙ sym before.harts

pub had_harts : (leg : PlannedLeg) (n : ℕ) (b : HartsView) (turn : Turn) (c : HartsView) → IsOn leg b → HadTurns leg n b turn c →
    length c.harts ≡ length b.harts
had_harts leg n b turn c on had = as_many leg b c on (had_on leg n b turn c on had) (had_start leg n b turn c had)

pub had_leg : (leg : PlannedLeg) (n : ℕ) (b : HartsView) (turn : Turn) (c : HartsView) → IsLeg (length b.start.harts) leg → HadTurns leg n b turn c →
    IsLeg (length c.start.harts) leg
had_leg leg n b turn c is_leg had = subst (λ (m : MachineState). IsLeg (length m.harts) leg) (sym (had_start leg n b turn c had)) is_leg

pub had_all : (leg : PlannedLeg) (n : ℕ) (b : HartsView) (turn : Turn) (c : HartsView) → HadTurns leg n b turn c → TurnsOf leg n b turn c
had_all leg n b Held c had = had
had_all leg n b Went c had = had
had_all leg n b (Clashed clash) c none = absurd none

goes_further : (leg : PlannedLeg) (b c d : HartsView) → GoesOn leg b c → GoesOn leg c d → GoesOn leg b d
goes_further leg b c d first second =
    record {
      start = second.start ∙ first.start;
      on = second.on;
      fewer = let p = first.fewer in let q = second.fewer in omega (arith, p, q);
    }

-- the next one is held
pub next_held : (leg : PlannedLeg) (n : ℕ) (b : HartsView) (turn : Turn) (c d : HartsView) → HadTurns leg n b turn c → Turns leg n c Held d →
    HadTurns leg (n + 1) b turn d
next_held leg n b Held c d (same, held) (still, here) = (
  still ∙ same,
  λ hart lt. elim (cases_lt hart n) [
    | inl earlier ↦ held hart earlier
    | inr last ↦
        (let is : n ≡ hart = omega (arith, lt, last) in
        subst (λ (k : ℕ). IsHeld leg b k) is (subst (λ (v : HartsView). IsHeld leg v n) same here))
  ],
)
next_held leg n b Went c d on (still, here) = subst (λ (v : HartsView). GoesOn leg b v) (sym still) on
next_held leg n b (Clashed clash) c d none turns = none

-- the next one goes on
pub next_went : (leg : PlannedLeg) (n : ℕ) (b : HartsView) (turn : Turn) (c d : HartsView) → HadTurns leg n b turn c → Turns leg n c Went d →
    HadTurns leg (n + 1) b Went d
next_went leg n b Held c d (same, held) on = subst (λ (v : HartsView). GoesOn leg v d) same on
next_went leg n b Went c d first second = goes_further leg b c d first second
next_went leg n b (Clashed clash) c d none turns = absurd none

-- the next one clashes
pub next_clashes : (leg : PlannedLeg) (n : ℕ) (b : HartsView) (turn : Turn) (c d : HartsView) (clash : Clash) → HadTurns leg n b turn c →
    Turns leg n c (Clashed clash) d → IsClash leg b.start clash
next_clashes leg n b turn c d clash had is = subst (λ (m : MachineState). IsClash leg m clash) (had_start leg n b turn c had) is

-- what a hart's turn was, as the code finds it
module _ (leg : PlannedLeg) (n : ℕ) (b : HartsView) (turn : Turn) (c d : HartsView) (had : HadTurns leg n b turn c) (k : ℕ) (here : k ≡ n) (own : Turn)
    (turns : Turns leg k c own d) where
  found : (t : Turn) → own ≡ t → Turns leg n c t d
  found t is = subst (λ (x : Turn). Turns leg n c x d) is (subst (λ (j : ℕ). Turns leg j c own d) here turns)

  pub found_held : (after : Turn) → own ≡ Held → after ≡ turn → HadTurns leg (n + 1) b after d
  found_held after is same = subst (λ (t : Turn). HadTurns leg (n + 1) b t d) (sym same) (next_held leg n b turn c d had (found Held is))

  pub found_went : (after : Turn) → own ≡ Went → after ≡ Went → HadTurns leg (n + 1) b after d
  found_went after is went = subst (λ (t : Turn). HadTurns leg (n + 1) b t d) (sym went) (next_went leg n b turn c d had (found Went is))

  pub found_clash : (clash : Clash) → own ≡ Clashed clash → IsClash leg b.start clash
  found_clash clash is = next_clashes leg n b turn c d clash had (found (Clashed clash) is)

-- ---- rounds

pub round_went : (leg : PlannedLeg) (b c d : HartsView) → c.start ≡ b.start → GoesOn leg c d → (d.start ≡ b.start) × IsOn leg d
round_went leg b c d start goes = (goes.start ∙ start, goes.on)

pub went_on : (leg : PlannedLeg) (many : ℕ) (b c : HartsView) (turn : Turn) → TurnsOf leg many b turn c → turn ≡ Went → GoesOn leg b c
went_on leg many b c turn turns is = subst (λ (t : Turn). TurnsOf leg many b t c) is turns

-- no hart can go on
pub stops : (leg : PlannedLeg) (many : ℕ) (m n : MachineState) (b v : HartsView) → b ≡ begun m → many ≡ length b.start.harts → HasStopped leg many b v →
    n ≡ machine_of v → Ends leg m (Stopped n)
stops leg many m n b v is all stopped end =
    let started : v.start ≡ m = stopped.start ∙ ap (λ (x : HartsView). x.start) is in
    let harts : length v.harts ≡ length v.start.harts = stopped.on.1.harts in
    let same : length v.start.harts ≡ length b.start.harts = ap (λ (x : MachineState). length x.harts) stopped.start in
    let ended : length n.harts ≡ length v.harts = ap (λ (x : MachineState). length x.harts) end in
    (v, started, sym end, stopped.on, λ hart within. stopped.held hart (omega (arith, within, all, harts, same, ended)))
