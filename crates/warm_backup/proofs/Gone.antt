-- A leg that grew, and a book that went on to its new ends.
use Rattle.std.proofs.Common.{◌≡◌, ◌≢◌, ◌⊎◌, ◌<◌, ◌≤◌, inl, inr, ℕ, suc, List, [], ◌∷◌, map, slice_index_or, length, refl, sym, ap, subst, ◌∙◌, arith, le_trans}
use Rattle.std.specs.List.{flat_map}
use Rattle.std.proofs.Math.Path.{fun_ext}
use Rattle.std.proofs.lemmas.Bool.{cases_lt}
use Rattle.ft_types.specs.Counts.{count_at}
use Rattle.ft_types.specs.declared.names.TheConstants.{HART_ROW}
use Rattle.interleaving.specs.Log.{IsClosed, IsCut}
use Rattle.edge_log.specs.declared.Edge.{Edge}
use Rattle.edge_log.specs.EdgeLog.{IsLog, edge_as, row_of}
use Rattle.input_log.specs.declared.Input.{Input}
use Rattle.input_log.specs.Inputs.{inputs_of}
use Rattle.log_join.specs.Stores.{StoreView, IsStore}
use Rattle.guest_image.specs.Machine.{MachineState}
use Rattle.hart_lease.specs.Runs.{counts_of}
use Rattle.book_modes.specs.declared.mode.Leg.{Leg}
use Rattle.page_book.specs.Books.{BookView}
use Rattle.hart_replay.specs.declared.plans.PlannedLeg.{PlannedLeg}
use Rattle.hart_replay.specs.declared.fault.ReplayFault.{ReplayFault}
use Rattle.hart_replay.specs.declared.fault.ReplayFault.TheVariants.{Cyclic, HaltedInside, OtherGuest, Memory}
use Rattle.hart_replay.specs.GoingOn.{BeginsLeg}
use Rattle.hart_replay.specs.Leading.{AreAtEnds, ComesShort}
use Rattle.hart_replay.specs.Plans.{log_of}
use Rattle.hart_replay.specs.machinery.Going.{FailsOn, LeadsOn}
use Rattle.warm_backup.specs.machinery.Cutting.{edges_below, inputs_below}
use Rattle.warm_backup.specs.machinery.Growing.{cursor_at, AsksForNothing, AsksForNothingOf, Grows, HasFacts, IsBehind, IsNext, IsRest, Walks}
use Rattle.warm_backup.specs.machinery.Working.{HasGone, IsReady, IsRefused, IsUpToDate}
use Rattle.warm_backup.specs.declared.work.Work.{Work}
use Rattle.warm_backup.specs.machinery.Leading.{AreHeld, IsLater, IsLed}
use Rattle.warm_backup.proofs.Cuts.{early, edges_before, inputs_before, rows_kept, rows_same}
use Rattle.warm_backup.proofs.Firsts.{below_of_more}
use Rattle.warm_backup.proofs.Obeying.{fails, leads}

-- the old leg begins the one that it grew to
pub begins_grown : (old new : PlannedLeg) → Grows old new → ((hart : ℕ) → count_at old.ends hart ≤ count_at new.ends hart) → BeginsLeg old new
begins_grown old new grows up =
    record { term = grows.term; base = grows.base; ends = λ hart less. up hart; edges = grows.edges; inputs = λ hart less. grows.inputs hart }

-- what was done of a leg is behind the one that it grew to
pub still_behind : (old new : PlannedLeg) (done : Leg) → new.base ≡ old.base → ((hart : ℕ) → count_at old.ends hart ≤ count_at new.ends hart) → IsBehind old done →
    IsBehind new done
still_behind old new done base up was =
    let many = ap length base in
    record {
      harts = was.harts ∙ sym many;
      start = λ hart. le_trans (was.start hart) (up hart);
      rows = λ hart le. was.rows hart (omega (arith, le, many));
      inputs = λ hart le. was.inputs hart (omega (arith, le, many));
    }

-- ---- below its old ends it is what it was

module _ (old new : PlannedLeg) (grows : Grows old new) where
  pub edges_same : edges_below old.ends new.edges ≡ edges_below old.ends old.edges
  edges_same =
      let rows = rows_same (λ (e : Edge). e.at) old.ends new.edges.rows old.edges.rows (λ hart. (grows.edges.rows hart).below) in
      rw (grows.edges.start, rows) refl

  pub inputs_same : inputs_below old.ends new.inputs ≡ inputs_below old.ends old.inputs
  inputs_same =
      rows_same (λ (x : ℕ × Input). x.0) old.ends new.inputs old.inputs
      (λ hart. below_of_more (count_at old.ends hart) (inputs_of old.inputs hart) (inputs_of new.inputs hart) (grows.inputs hart))

-- and it has no more than what is below its own
pub whole_below : (store : StoreView) → IsStore store → (leg : PlannedLeg) → HasFacts store leg → IsLog leg.edges.start leg.edges.rows →
    length leg.inputs ≡ HART_ROW →
    record leg { edges = edges_below leg.ends leg.edges; inputs = inputs_below leg.ends leg.inputs } ≡ leg
whole_below store rules leg facts log wide =
    let edges = rows_kept (λ (e : Edge). e.at) leg.ends leg.edges.rows log.many (λ hart. edges_before store rules leg facts.edges hart (log.own hart)) in
    let inputs = rows_kept (λ (x : ℕ × Input). x.0) leg.ends leg.inputs wide (inputs_before store rules leg facts.inputs) in
    rw (edges, inputs) refl

-- ---- the book

module _ (store : StoreView) (rules : IsStore store) (old new : PlannedLeg) (rest : Leg) (facts : HasFacts store old) (is : IsRest old new rest)
    (cut : IsCut (log_of old) (count_at old.ends)) (ends : rest.ends ≡ new.ends) (m : MachineState) (at : (hart : ℕ) → counts_of m hart ≡ count_at old.ends hart)
    (start_leg : BookView Leg) (starts : start_leg.start ≡ m) (obeys : start_leg.mode ≡ rest) (same : start_leg.machine ≡ m) (b : BookView Leg)
    (later : IsLater start_leg b) (led : IsLed b) (held : AreHeld b) where
  closed : IsClosed facts.edges.all (count_at old.ends)
  closed = (facts.edges.same_order.cuts (count_at old.ends) cut.from_start).0 cut.closed

  harts : length b.machine.harts ≡ length m.harts
  harts = later.harts ∙ ap (λ (x : MachineState). length x.harts) same

  pub goes_there : AreAtEnds b.machine new.ends → LeadsOn new m b.machine
  goes_there =
      leads old new rest is facts.edges.all facts.edges.enough (early store rules old facts.edges) closed cut.from_start
      (inputs_before store rules old facts.inputs) ends m (fun_ext at) b (later.start ∙ starts) (later.mode ∙ obeys) later.idle harts held led

  pub falls_short_there : (fault : ReplayFault) → ComesShort b.machine new.ends fault → FailsOn new m fault
  falls_short_there =
      fails old new rest is facts.edges.all facts.edges.enough (early store rules old facts.edges) closed cut.from_start
      (inputs_before store rules old facts.inputs) ends m (fun_ext at) b (later.start ∙ starts) (later.mode ∙ obeys) later.idle harts held led

-- memory, or another fault
pub memory_or_not : (fault : ReplayFault) → (fault ≡ Memory) ⊎ (fault ≢ Memory)
memory_or_not (Cyclic counts) = inr (λ (e : Cyclic counts ≡ Memory). cc)
memory_or_not (HaltedInside hart count) = inr (λ (e : HaltedInside hart count ≡ Memory). cc)
memory_or_not OtherGuest = inr (λ (e : OtherGuest ≡ Memory). cc)
memory_or_not Memory = inl refl

-- ---- nothing is asked for

none_of_rows : (rows : List (List Edge)) → ((hart : ℕ) → slice_index_or rows hart [] ≡ []) → flat_map (map edge_as) rows ≡ []
none_of_rows [] none = refl
none_of_rows (row ∷ rows) none = rw (none 0) (none_of_rows rows (λ hart. none (suc hart)))

pub asks_for_nothing : (leg : PlannedLeg) (done : Leg) → IsBehind leg done → AsksForNothingOf done (length leg.base) → AsksForNothing done
asks_for_nothing leg done behind nothing =
    record { rows = rows; edges = none_of_rows done.edges.rows rows; inputs = inputs }
  where
    rows : (hart : ℕ) → row_of done.edges hart ≡ []
    rows hart = elim (cases_lt hart (length leg.base)) [ inl less ↦ (nothing hart less).0 | inr over ↦ behind.rows hart over ]

    inputs : (hart : ℕ) → inputs_of done.inputs hart ≡ []
    inputs hart = elim (cases_lt hart (length leg.base)) [ inl less ↦ (nothing hart less).1 | inr over ↦ behind.inputs hart over ]

-- ---- what came of it

module _ (store : StoreView) (rules : IsStore store) (old : Work) (counts : List ℕ) (ready : IsReady old) (facts : IsUpToDate store old)
    (to : IsNext store old.leg counts) (leg : PlannedLeg) (rest : Leg) (has : HasFacts store leg) (log : IsLog leg.edges.start leg.edges.rows)
    (ends : leg.ends ≡ counts) (is : IsRest old.leg leg rest) (rest_ends : rest.ends ≡ counts) (grows : Grows old.leg leg) (begun : BookView Leg)
    (obeys : begun ≡ record old.book { mode = rest }) (b : BookView Leg) (later : IsLater begun b) (led : IsLed b) where
  rises : (hart : ℕ) → count_at old.leg.ends hart ≤ count_at leg.ends hart
  rises hart = let up = to.up hart in let same = ap (λ (row : List ℕ). count_at row hart) ends in omega (arith, up, same)

  begins : BeginsLeg old.leg leg
  begins = begins_grown old.leg leg grows rises

  leads_there : AreHeld b → AreAtEnds b.machine counts → LeadsOn leg old.book.machine b.machine
  leads_there held far =
      goes_there store rules old.leg leg rest facts.facts is ready.at.cut (rest_ends ∙ sym ends) old.book.machine ready.at.counts begun
      (ap (λ (x : BookView Leg). x.start) obeys ∙ ready.again) (ap (λ (x : BookView Leg). x.mode) obeys) (ap (λ (x : BookView Leg). x.machine) obeys) b later led
      held (subst (λ (row : List ℕ). AreAtEnds b.machine row) (sym ends) far)

  pub has_gone : (new : Work) → new.leg ≡ leg → new.book ≡ b → new.rest.value ≡ old.book.mode → IsBehind leg rest → length leg.inputs ≡ HART_ROW →
      ((hart : ℕ) → hart < length old.leg.base → Walks store leg hart (cursor_at new.cursors hart)) → AreAtEnds b.machine counts → AreHeld b →
      HasGone store counts old new
  has_gone new leg_is book_is rest_is behind wide walks far held =
      record {
        facts =
            record {
              facts = rw leg_is has;
              walks = rw leg_is (λ hart less. let base = ap length grows.base in walks hart (omega (arith, less, base)));
              log = rw leg_is log;
              rows = rw leg_is wide;
              done = rw (leg_is, rest_is) (still_behind old.leg leg old.book.mode grows.base rises facts.obeyed);
              obeyed = rw (leg_is, book_is, later.mode ∙ ap (λ (x : BookView Leg). x.mode) obeys) behind;
            };
        idle = rw book_is later.idle;
        ends = rw leg_is ends;
        begins = rw leg_is begins;
        led = rw (leg_is, book_is) (leads_there held far);
      }

  pub is_refused : (fault : ReplayFault) → ComesShort b.machine counts fault → (fault ≢ Memory → AreHeld b) → IsRefused store counts old fault
  is_refused fault short held =
      elim (memory_or_not fault) [
        | inl memory ↦ inl memory
        | inr other ↦ inr (
          leg,
          has,
          log,
          begins,
          ends,
          falls_short_there store rules old.leg leg rest facts.facts is ready.at.cut (rest_ends ∙ sym ends) old.book.machine ready.at.counts begun
              (ap (λ (x : BookView Leg). x.start) obeys ∙ ready.again) (ap (λ (x : BookView Leg). x.mode) obeys)
              (ap (λ (x : BookView Leg). x.machine) obeys) b later led (held other) fault
              (subst (λ (row : List ℕ). ComesShort b.machine row fault) (sym ends) short),
        )
      ]
