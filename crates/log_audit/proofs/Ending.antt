-- Where the audit of a leg ends: at the leg's ends, or stuck.
use Rattle.std.proofs.Common.{◌≡◌, ◌⊎◌, inl, inr, ℕ, zero, suc, ◌<◌, ◌≤◌, List, [], ◌∷◌, All, length, true, Some, slice_get}
use Rattle.std.proofs.Common.{refl, sym, ap, subst, ◌∙◌, arith}
use Rattle.std.proofs.Math.Path.{fun_ext}
use Rattle.std.proofs.lemmas.Bool.{cases_lt}
use Rattle.ft_types.specs.Counts.{count_at}
use Rattle.interleaving.specs.Log.{HasUnmet, counts_after}
use Rattle.interleaving.specs.Stored.{halted_of}
use Rattle.edge_log.specs.EdgeLog.{IsOfHart, row_of}
use Rattle.rv32_hart.specs.Hart.{Hart}
use Rattle.rv32_hart.specs.Hardware.{hardware}
use Rattle.guest_image.specs.Machine.{MachineState}
use Rattle.hart_lease.specs.Runs.{counts_of, steps_taken}
use Rattle.hart_replay.specs.declared.plans.PlannedLeg.{PlannedLeg}
use Rattle.hart_replay.specs.declared.fault.ReplayFault.{ReplayFault}
use Rattle.hart_replay.specs.declared.fault.ReplayFault.TheVariants.{Cyclic, HaltedInside, OtherGuest, Memory}
use Rattle.hart_replay.specs.Plans.{IsLeg, log_of}
use Rattle.hart_replay.specs.Replays.{is_halted, GetsStuck}
use Rattle.hart_replay.specs.Leading.{IsBelow, ComesTo, ComesShort}
use Rattle.log_audit.specs.declared.fault.AuditFault.TheVariants.{Replay}
use Rattle.log_audit.specs.Coverage.{LegAgrees}
use Rattle.log_audit.specs.machinery.Covered.{HartsView, machine_of, IsCovered, IsHeld, IsOn}
use Rattle.log_audit.specs.Faults.{IsLegFault}
use Rattle.log_audit.proofs.Agreeing.{leg_agrees, leg_start_closed}

hart_at : (harts : List Hart) (hart : ℕ) → hart < length harts → (h : Hart) × (slice_get harts hart ≡ Some h)
hart_at [] hart lt = absurd (omega arith)
hart_at (h ∷ harts) zero lt = (h, refl)
hart_at (h ∷ harts) (suc hart) lt = hart_at harts hart (omega arith)

-- ---- a leg that cannot go on

module _ (leg : PlannedLeg) (v : HartsView) (is_leg : IsLeg (length v.start.harts) leg) (order : List ℕ)
    (covered : IsCovered leg order (counts_of (machine_of v)) v) (held : (hart : ℕ) → hart < length v.harts → IsHeld leg v hart) where
  counted : counts_after (count_at leg.base) order ≡ counts_of (machine_of v)
  counted = fun_ext covered.counts

  -- a hart that is below its end is there
  is_there : (hart : ℕ) → counts_of (machine_of v) hart < count_at leg.ends hart → hart < length v.harts
  is_there hart below =
      elim (cases_lt hart (length v.start.harts)) [
        | inl less ↦ let many = covered.harts in omega (arith, less, many)
        | inr over ↦ let none = is_leg.no_others hart over in absurd (omega (arith, none, below))
      ]

  below_now : (hart : ℕ) → counts_after (count_at leg.base) order hart < count_at leg.ends hart → counts_of (machine_of v) hart < count_at leg.ends hart
  below_now hart less = subst (λ (n : ℕ → ℕ). n hart < count_at leg.ends hart) counted less

  held_here : (hart : ℕ) → counts_after (count_at leg.base) order hart < count_at leg.ends hart →
      (is_halted (machine_of v) hart ≡ true) ⊎ HasUnmet (log_of leg).edges (counts_after (count_at leg.base) order) hart
  held_here hart less =
      let below = below_now hart less in
      let (h, there) = hart_at v.harts hart (is_there hart below) in
      elim (held hart (is_there hart below) h there) [
        | inl past ↦
            let is : counts_of (machine_of v) hart ≡ h.count = ap steps_taken there in
            absurd (omega (arith, past, below, is))
        | inr other ↦ elim other [
          | inl halted ↦ inl (ap (halted_of (hardware (length v.pages.contents))) there ∙ halted)
          | inr unmet ↦ inr (subst (λ (n : ℕ → ℕ). HasUnmet (log_of leg).edges n hart) (sym counted) unmet)
        ]
      ]

  gets_stuck : (hart : ℕ) → IsBelow (machine_of v) leg.ends hart → GetsStuck leg v.start order (machine_of v)
  gets_stuck hart below =
      record {
        begins = covered.begins;
        run = covered.run;
        stuck =
            record {
              below = (hart, subst (λ (n : ℕ → ℕ). n hart < count_at leg.ends hart) (sym counted) below);
              held = held_here;
            };
      }

  falls_short : (fault : ReplayFault) → ComesShort (machine_of v) leg.ends fault → IsLegFault leg v.start (Replay fault)
  falls_short (Cyclic counts) (harts, are, (hart, below), runs) =
      record {
        harts = harts ∙ covered.harts;
        order = order;
        machine = machine_of v;
        stuck = gets_stuck hart below;
        counts_are = λ k. are k ∙ sym (ap (λ (n : ℕ → ℕ). n k) counted);
        awake = λ k less.
            let under : counts_of (machine_of v) k < count_at leg.ends k = subst (λ (n : ℕ). n < count_at leg.ends k) (are k) less in
            runs k (is_there k under) under;
      }
  falls_short (HaltedInside hart count) (is, below, halted, least) =
      record {
        order = order;
        machine = machine_of v;
        stuck = gets_stuck hart below;
        count_is = is ∙ sym (ap (λ (n : ℕ → ℕ). n hart) counted);
        below = subst (λ (n : ℕ). n < count_at leg.ends hart) (sym is) below;
        halted = halted;
        least = λ other lt less. least other lt (below_now other less);
      }
  falls_short OtherGuest h = absurd h
  falls_short Memory h = tt

-- ---- a leg that was run

module _ (leg : PlannedLeg) (start n : MachineState) (is_leg : IsLeg (length start.harts) leg)
    (base : (hart : ℕ) → count_at leg.base hart ≡ counts_of start hart)
    (ends : (v : HartsView) × (v.start ≡ start) × (machine_of v ≡ n) × IsOn leg v × ((hart : ℕ) → hart < length n.harts → IsHeld leg v hart)) where
  abbrev there : HartsView
  there = ends.0

  same_start : there.start ≡ start
  same_start = ends.1

  same_end : machine_of there ≡ n
  same_end = ends.2

  its_leg : IsLeg (length there.start.harts) leg
  its_leg = subst (λ (m : MachineState). IsLeg (length m.harts) leg) (sym same_start) is_leg

  pub ends_agree : ((hart : ℕ) → All (IsOfHart leg.edges.start hart) (row_of leg.edges hart)) → (m : MachineState) → ComesTo n leg.ends m →
      LegAgrees leg start m
  ends_agree own m (same, reached) =
      subst (λ (x : MachineState). LegAgrees leg x m) same_start
      (subst (λ (x : MachineState). LegAgrees leg there.start x) (same_end ∙ sym same)
      (leg_agrees leg there its_leg
      (subst (λ (x : MachineState). (hart : ℕ) → count_at leg.base hart ≡ counts_of x hart) (sym same_start) base)
      (leg_start_closed leg (length start.harts) is_leg own) ends.3
      (subst (λ (x : MachineState). (hart : ℕ) → hart < length x.harts → count_at leg.ends hart ≤ counts_of x hart) (sym same_end) reached)))

  pub ends_short : (fault : ReplayFault) → ComesShort n leg.ends fault → IsLegFault leg start (Replay fault)
  ends_short fault short =
      subst (λ (x : MachineState). IsLegFault leg x (Replay fault)) same_start
      (falls_short leg there its_leg ends.3.0 ends.3.1
      (λ hart within. ends.4 hart (subst (λ (x : MachineState). hart < length x.harts) same_end within))
      fault (subst (λ (x : MachineState). ComesShort x leg.ends fault) (sym same_end) short))
