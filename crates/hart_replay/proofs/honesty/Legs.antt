-- A leg of honest frames follows its term.
use Rattle.std.proofs.Common.{◌≡◌, inl, inr, ℕ, ◌<◌, ◌≤◌, false, List, Contains, slice_get, Some, refl, sym, ap, subst, ◌∙◌, arith, le_trans}
use Rattle.std.proofs.Math.Path.{fun_ext}
use Rattle.std.proofs.lemmas.Bool.{cases_lt}
use Rattle.ft_types.specs.Counts.{count_at}
use Rattle.interleaving.specs.Lists.{IsWithin}
use Rattle.interleaving.specs.Machine.{Machine, System, Runs, run, at}
use Rattle.interleaving.specs.Log.{Edge, Log, IsClosed, IsCut, IsMet, Begins, IsReplayed, GoesOn, counts_after, turns_of}
use Rattle.interleaving.specs.Beginnings.{order_at}
use Rattle.interleaving.proofs.Replay.{confluence}
use Rattle.interleaving.proofs.Beginnings.{own_order, ends_are_cuts}
use Rattle.interleaving.proofs.Stuck.{stuck_cannot_go_on}
use Rattle.edge_log.specs.EdgeLog.{edges_of}
use Rattle.input_log.specs.declared.Input.{Input}
use Rattle.input_log.specs.Inputs.{inputs_at}
use Rattle.fragment_codec.specs.declared.types.Key.{Key}
use Rattle.fragment_codec.specs.Rules.{FragmentParts, OpeningParts, IsFragment}
use Rattle.log_join.specs.Cells.{One}
use Rattle.log_join.specs.Stores.{StoreView, IsStore}
use Rattle.log_join.specs.Families.{Past}
use Rattle.log_join.proofs.Families.{opening_known, fragment_known}
use Rattle.closed_cut.specs.Position.{pieces_of}
use Rattle.hart_replay.specs.declared.plans.PlannedLeg.{PlannedLeg}
use Rattle.hart_replay.specs.Facts.{records_of, below, edges_among, inputs_among, EndsInside, HasEdges, HasInputs}
use Rattle.hart_replay.specs.Plans.{BeginsAtBase, log_of}
use Rattle.hart_replay.specs.Histories.{TermHistory, History, IsTerm, IsHonestStore, TellsOf}
use Rattle.hart_replay.specs.Laws.{FollowsTerm}
use Rattle.hart_replay.proofs.gathering.Pieces.{rules_of}
use Rattle.hart_replay.proofs.gathering.Ends.{one_avail}
use Rattle.hart_replay.proofs.gathering.Facts.{to_end, edge_of_log, edge_of_facts, inputs_of_facts}
use Rattle.hart_replay.proofs.honesty.Schedules.{begins_too, same_turns}

module _ {Hart Page : Type 0} (system : System Hart Page (List Input)) (boot : Machine Hart Page) (history : History Hart Page)
    (store : StoreView) (rules : IsStore store) (store_honest : IsHonestStore system boot history store) (leg : PlannedLeg)
    (past : Past (TermHistory Hart Page)) (granted : history leg.term ≡ Some past)
    (begins_at : BeginsAtBase store leg) (inside : EndsInside store leg) (has_edges : HasEdges store leg) (has_inputs : HasInputs store leg) where
  abbrev term : TermHistory Hart Page
  term = past.told

  abbrev log : Log (List Input)
  log = past.told.log

  abbrev ends : ℕ → ℕ
  ends = count_at leg.ends

  is_term : IsTerm system boot history leg.term past
  is_term = store_honest.is_history.terms leg.term past granted

  own : (q : Past (TermHistory Hart Page)) → history leg.term ≡ Some q → q ≡ past
  own q at = let same : Some q ≡ Some past = sym at ∙ granted in cc

  opening_is : past.opening ≡ begins_at.opening
  opening_is =
      let (q, at, same) = opening_known history store store_honest.honest leg.term begins_at.opening begins_at.opens in
      ap (λ (q : Past (TermHistory Hart Page)). q.opening) (sym (own q at)) ∙ same

  -- the leg begins where the term does
  pub same_start : count_at leg.base ≡ past.told.log.start
  same_start =
      fun_ext
      (λ hart.
      ap (λ (b : List ℕ). count_at b hart) begins_at.base ∙
      ap (λ (o : OpeningParts). count_at o.base hart) (sym opening_is) ∙
      is_term.base hart)

  tells : (hart place : ℕ) (f : FragmentParts) → pieces_of store leg.term hart place ≡ One f → TellsOf past.told.log hart f
  tells hart place f one =
      let key : Key = record { term = leg.term; hart = hart; place = place } in
      let (q, at, placed) = fragment_known history store store_honest.honest key f one in
      is_term.pieces.tell hart place f (subst (λ (q : Past (TermHistory Hart Page)). slice_get (q.pieces hart) place ≡ Some f) (own q at) placed)

  fits : (hart place : ℕ) (f : FragmentParts) → pieces_of store leg.term hart place ≡ One f → IsFragment f
  fits hart place f one = rules_of store rules leg.term hart place f one

  -- ---- edges

  -- those of the leg's facts are the log's
  of_log : (e : Edge) → Contains has_edges.all e → Contains log.edges e × (count_at leg.base e.hart ≤ e.step) × (e.step < ends e.hart)
  of_log e has =
      let (hart, at) = (has_edges.exact e).0 has in
      let f =
      edge_of_log (pieces_of store leg.term hart) (fits hart) log hart (tells hart) (count_at leg.base hart) (has_edges.avail.places hart)
      (has_edges.avail.end hart)
      (ends hart) e (has_edges.avail.goes hart) at in
      (f.0, subst (λ h. count_at leg.base h ≤ e.step) (sym f.1) f.2, subst (λ h. e.step < ends h) (sym f.1) f.3)

  -- and the log's inside the leg are among them
  of_facts : (e : Edge) → Contains log.edges e → count_at leg.base e.hart ≤ e.step → e.step < ends e.hart → Contains has_edges.all e
  of_facts e has from less =
      let hart = e.hart in
      (has_edges.exact e).1 (
        hart,
        subst (λ n. Contains (edges_among (below (ends hart) (records_of (pieces_of store leg.term hart) n))) e)
            (one_avail store leg.term (count_at leg.base) inside.avail has_edges.avail hart)
            (edge_of_facts (pieces_of store leg.term hart) (fits hart) log hart (tells hart) (count_at leg.base hart) (inside.avail.places hart)
            (inside.avail.end hart)
            (ends hart) e (inside.avail.goes hart) (inside.within hart) has refl from less),
      )

  -- ---- the leg's ends are a cut of the term's log

  pub is_cut : IsCut past.told.log (count_at leg.ends)
  is_cut =
      record {
        from_start = subst (λ s. IsWithin s ends) same_start inside.cut.from_start;
        to_end = upto;
        closed = closed;
      }
    where
      starts : IsCut log log.start
      starts = (ends_are_cuts system log term.start term.turns is_term.honest).0

      upto : (hart : ℕ) → ends hart ≤ log.end hart
      upto hart =
          le_trans (inside.within hart)
          (to_end (pieces_of store leg.term hart) (fits hart) log hart (tells hart) (count_at leg.base hart) (inside.avail.places hart) (inside.avail.end hart)
          (inside.avail.goes hart) (subst (λ s. s hart ≤ log.end hart) (sym same_start) (starts.to_end hart)))

      all_closed : IsClosed has_edges.all ends
      all_closed = (has_edges.same_order.cuts ends inside.cut.from_start).0 inside.cut.closed

      closed : IsClosed log.edges ends
      closed e has less =
          elim (cases_lt e.step (count_at leg.base e.hart)) [
            | inl before ↦
                let met : e.count ≤ log.start e.other = starts.closed e has (subst (λ s. e.step < s e.hart) same_start before) in
                le_trans met (subst (λ s. s e.other ≤ ends e.other) same_start (inside.cut.from_start e.other))
            | inr from ↦ all_closed e (of_facts e has from less) less
          ]

  -- ---- inputs

  same_inputs : (hart count : ℕ) → count_at leg.base hart ≤ count → count < ends hart → (log_of leg).inputs hart count ≡ log.inputs hart count
  same_inputs hart count from less =
      ap (λ row. inputs_at row count) (has_inputs.exact hart) ∙
      (ap (λ n. inputs_at (inputs_among (below (ends hart) (records_of (pieces_of store leg.term hart) n))) count)
      (one_avail store leg.term (count_at leg.base) has_inputs.avail inside.avail hart) ∙
      inputs_of_facts (pieces_of store leg.term hart) (fits hart) log hart (tells hart) (count_at leg.base hart) (inside.avail.places hart)
      (inside.avail.end hart)
      (ends hart) count (inside.avail.goes hart) (inside.within hart) from less)

  -- ---- schedules

  pub begins_of_log : (order : List ℕ) → Begins (edges_of leg.edges) ends (count_at leg.base) order → Begins log.edges ends log.start order
  begins_of_log order begins =
      subst (λ s. Begins log.edges ends s order) same_start
      (begins_too log.edges has_edges.all (count_at leg.base) ends of_facts order (count_at leg.base) (λ i. omega arith)
      ((has_edges.same_order.schedules ends order).0 begins))

  begins_of_leg : (order : List ℕ) → Begins log.edges ends log.start order → Begins (edges_of leg.edges) ends (count_at leg.base) order
  begins_of_leg order begins =
      (has_edges.same_order.schedules ends order).1
      (begins_too has_edges.all log.edges (count_at leg.base) ends (λ e has from less. (of_log e has).0) order (count_at leg.base) (λ i. omega arith)
      (subst (λ s. Begins log.edges ends s order) (sym same_start) begins))

  pub leg_turns : (order : List ℕ) → Begins (edges_of leg.edges) ends (count_at leg.base) order →
      turns_of (log_of leg).inputs (count_at leg.base) order ≡ turns_of log.inputs log.start order
  leg_turns order begins =
      same_turns (log_of leg).inputs log.inputs (edges_of leg.edges) (count_at leg.base) ends same_inputs order (count_at leg.base) (λ i. omega arith) begins ∙
      ap (λ s. turns_of log.inputs s order) same_start

  module _ (order : List ℕ) (begins : Begins (edges_of leg.edges) ends (count_at leg.base) order) where
    of_term : IsReplayed system log term.start term.turns ends order
    of_term = confluence system log term.start term.turns ends order is_term.honest is_cut (begins_of_log order begins)

    abbrev now : ℕ → ℕ
    now = counts_after (count_at leg.base) order

    same_now : counts_after (count_at leg.base) order ≡ counts_after log.start order
    same_now = ap (λ s. counts_after s order) same_start

    abbrev machine : Machine Hart Page
    machine = run system term.start (turns_of (log_of leg).inputs (count_at leg.base) order)

    same_machine : run system term.start (turns_of (log_of leg).inputs (count_at leg.base) order) ≡ run system term.start (turns_of log.inputs log.start order)
    same_machine = ap (run system term.start) (leg_turns order begins)

    met_too : (hart : ℕ) (at : ℕ → ℕ) → IsMet log.edges at hart → IsMet (edges_of leg.edges) at hart
    met_too hart at met e has = met e (of_log e (has_edges.enough.among e has)).0

    goes_on : (hart : ℕ) → counts_after (count_at leg.base) order hart < ends hart →
        GoesOn system (edges_of leg.edges) ends (counts_after (count_at leg.base) order)
        (run system term.start (turns_of (log_of leg).inputs (count_at leg.base) order))
    goes_on hart less =
        let (next, (under, met), awake) = of_term.goes_on hart (subst (λ n. n hart < ends hart) same_now less) in (
          next,
          (
            subst (λ n. n next < ends next) (sym same_now) under,
            subst (λ n. IsMet (edges_of leg.edges) n next) (sym same_now) (met_too next (counts_after log.start order) met),
          ),
          subst (λ (m : Machine Hart Page). system.halted (m.harts next) ≡ false) (sym same_machine) awake,
        )

    pub replayed : IsReplayed system (log_of leg) term.start term.turns ends order
    replayed =
        record {
          runs = subst (Runs system term.start) (sym (leg_turns order begins)) of_term.runs;
          outcome = λ complete. same_machine ∙ of_term.outcome (λ hart. sym (ap (λ n. n hart) same_now) ∙ complete hart);
          goes_on = goes_on;
          not_stuck =
              λ stuck.
              let (hart, less) = stuck.below in
              stuck_cannot_go_on system (edges_of leg.edges) ends now machine stuck (goes_on hart less);
        }

  pub follows : FollowsTerm system past.told leg
  follows =
      record {
        own =
            let own = own_order system log term.start term.turns ends is_term.honest is_cut in
            record {
              begins = begins_of_leg (order_at system term.start term.turns ends) own.begins;
              complete =
                  λ hart.
                  ap (λ s. counts_after s (order_at system term.start term.turns ends) hart) same_start ∙ own.complete hart;
            };
        replayed = replayed;
      }
