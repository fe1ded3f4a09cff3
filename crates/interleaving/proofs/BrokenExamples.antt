-- The examples of a log whose start is not closed, and of one with the edges of hand-overs alone.
use Rattle.std.proofs.Common.{◌≡◌, inl, ℕ, ◌==◌, ◌<◌, ◌≤◌, cond, [], ◌∷◌, Option, Some, None, refl, sym, ap, ◌∙◌, arith}
use Rattle.interleaving.specs.Machine.{System, steps}
use Rattle.interleaving.specs.Log.{Before, Across, IsComplete}
use Rattle.interleaving.specs.Stored.{view}
use Rattle.interleaving.specs.Counters.{counters}
use Rattle.interleaving.specs.Examples.{counting, three, late, passing, early_edge, early_log, handing_on, handed_log, Tells, PartsOfHonesty, StartMatters}
use Rattle.interleaving.specs.Examples.{HandOversLoseOrder}
use Rattle.interleaving.specs.declared.counters.Counter.{Counter}
use Rattle.interleaving.proofs.Put.{bump_swap}
use Rattle.interleaving.proofs.Order.{before_inside}
use Rattle.interleaving.proofs.Cuts.{here}
use Rattle.interleaving.proofs.Runs.{counts_grow, counts_run}
use Rattle.interleaving.proofs.Decided.{closed_by, each_met_by, begins_by}

pub parts_of_honesty : {Hart Page Input : Type 0} (system : System Hart Page Input) → PartsOfHonesty system
parts_of_honesty system log m turns = (
  λ h. (
    record { runs = h.runs; inputs = h.inputs; start = h.start; end = h.end; met = h.met },
    h.closed,
    h.ordered,
  ),
  λ (tells, closed, ordered).
      record {
        runs = tells.runs;
        inputs = tells.inputs;
        start = tells.start;
        end = tells.end;
        closed = closed;
        met = tells.met;
        ordered = ordered;
      },
)

-- what the hart loaded last
abbrev loaded : Option Counter → ℕ
loaded None = 0
loaded (Some c) = c.value

early_tells : Tells counting early_log (view counters late) passing
early_tells =
    record {
      runs = (refl, (refl, tt));
      inputs = (refl, (refl, tt));
      start = λ hart. refl;
      end = λ hart. refl;
      met = each_met_by early_log.edges early_log.start (steps counting (view counters late) passing) refl;
    }

early_order : Before early_log.edges (record { hart = 0; step = 7 }) (record { hart = 1; step = 5 })
early_order = Across early_edge (here early_edge []) refl (omega arith) refl (omega arith)

early_complete : IsComplete early_log.end early_log.start (1 ∷ 0 ∷ [])
early_complete hart =
    ap (λ n. n hart)
    (bump_swap early_log.start 1 0 (omega arith) ∙
    sym (counts_run counting (view counters late) passing early_tells.runs))

pub start_matters : StartMatters
start_matters =
    record {
      tells = early_tells;
      ordered = (((λ conflict. early_order), tt), (tt, tt));
      not_closed =
          λ closed. let h : 8 ≤ 7 = closed early_edge (here early_edge []) (omega arith) in absurd (omega arith);
      wrong =
          record {
            is_cut =
                record {
                  from_start = counts_grow counting (view counters late) passing early_tells.runs;
                  to_end = λ hart. omega arith;
                  closed = closed_by early_log.edges early_log.end refl;
                };
            schedule =
                record {
                  begins = begins_by early_log.edges early_log.end early_log.start (1 ∷ 0 ∷ []) refl;
                  complete = early_complete;
                };
            differs = λ e. let h : 0 ≡ 8 = ap (λ m. loaded (m.harts 1)) e in absurd (omega arith);
          };
    }

handed_tells : Tells counting handed_log (view counters three) handing_on
handed_tells =
    record {
      runs = (refl, (refl, tt));
      inputs = (refl, (refl, tt));
      start = λ hart. refl;
      end = λ hart. refl;
      met = each_met_by handed_log.edges handed_log.start (steps counting (view counters three) handing_on) refl;
    }

handed_complete : IsComplete handed_log.end handed_log.start (2 ∷ 0 ∷ [])
handed_complete hart =
    ap (λ n. n hart)
    (bump_swap handed_log.start 2 0 (omega arith) ∙
    sym (counts_run counting (view counters three) handing_on handed_tells.runs))

-- hart 2's step alone is a closed cut
not_before : Before handed_log.edges (record { hart = 0; step = 0 }) (record { hart = 2; step = 0 }) → ⊥
not_before before =
    let h : 0 < 0 =
    before_inside handed_log.edges alone (closed_by handed_log.edges alone refl) before (omega arith) in omega arith
  where
    alone : ℕ → ℕ
    alone hart = cond (hart == 2) 1 0

pub hand_overs_lose_order : HandOversLoseOrder
hand_overs_lose_order =
    record {
      tells = handed_tells;
      closed = closed_by handed_log.edges handed_log.start refl;
      lost =
          λ ordered.
          not_before (ordered.0.0
          ((λ e. omega arith), (0, (0, (omega arith), refl), (0, (omega arith), refl), inl refl)));
      wrong =
          record {
            is_cut =
                record {
                  from_start = counts_grow counting (view counters three) handing_on handed_tells.runs;
                  to_end = λ hart. omega arith;
                  closed = closed_by handed_log.edges handed_log.end refl;
                };
            schedule =
                record {
                  begins = begins_by handed_log.edges handed_log.end handed_log.start (2 ∷ 0 ∷ []) refl;
                  complete = handed_complete;
                };
            differs = λ e. let h : 0 ≡ 1 = ap (λ m. loaded (m.harts 2)) e in absurd (omega arith);
          };
    }
