-- A leg whose ends are raised hart by hart.
use Rattle.std.proofs.Common.{◌≡◌, ◌≢◌, inl, inr, ℕ, ◌+◌, ◌<◌, ◌≤◌, ◌++◌, List, [], Contains, length, slice_set, refl, sym, ap, subst, ◌∙◌, arith, append-nil, append_assoc}
use Rattle.std.proofs.Common.{le_of_eq, le_refl, get_or-set_same, get_or-set_other, length-set}
use Rattle.std.proofs.lemmas.Bool.{cases_eq, cases_lt}
use Rattle.std.proofs.lemmas.List.{ext_get_or}
use Rattle.std.proofs.lemmas.List.Elements.{Contains-append_cases}
use Rattle.ft_types.specs.Counts.{count_at}
use Rattle.ft_types.specs.declared.names.TheConstants.{HART_ROW}
use Rattle.interleaving.specs.Log.{Edge}
use Rattle.interleaving.specs.Cuts.{IsEnough}
use Rattle.edge_log.specs.EdgeLog.{edges_of, row_of}
use Rattle.input_log.specs.declared.Input.{Input}
use Rattle.input_log.specs.Inputs.{inputs_of, HearsMore}
use Rattle.page_book.proofs.Later.{adds_nothing, adds_on}
use Rattle.log_join.specs.Stores.{StoreView}
use Rattle.book_modes.specs.declared.mode.Leg.{Leg}
use Rattle.hart_replay.specs.declared.plans.PlannedLeg.{PlannedLeg}
use Rattle.hart_replay.specs.Facts.{edges_among, inputs_among}
use Rattle.warm_backup.specs.declared.growing.Cursor.{Cursor}
use Rattle.warm_backup.specs.machinery.Growing.{cursor_at, Grows, GrowsFrom, HasFacts, IsBehind, IsFresh, IsRest, TakesOf, Walks}
use Rattle.warm_backup.proofs.Steps.{hears_nothing, hears_on}

-- ---- what came of the leg

rest_none : (was : PlannedLeg) (rest : Leg) → IsFresh was rest → IsRest was was rest
rest_none was rest fresh =
    record {
      added = [];
      late = λ e (k, less, is). absurd (omega (arith, less));
      enough =
          subst (λ (es : List Edge). IsEnough es [] (count_at was.ends)) (sym fresh.nothing.edges)
          (record {
            among = λ e (k, less, is). absurd (omega (arith, less));
            implied = λ e (k, less, is). absurd (omega (arith, less));
            start_closed = λ e (k, less, is) under. absurd (omega (arith, less));
          });
      whole = λ all enough. subst (λ (es : List Edge). IsEnough (edges_of was.edges) es (count_at was.base)) (sym (append-nil all)) enough;
      inputs =
          λ hart.
          sym (append-nil (inputs_of was.inputs hart)) ∙ ap (λ (row : List (ℕ × Input)). inputs_of was.inputs hart ++ row) (sym (fresh.nothing.inputs hart));
    }

module _ (was old new : PlannedLeg) (before after : Leg) (hart : ℕ) (taken : TakesOf hart (count_at old.ends hart) (count_at was.ends) old before new after)
    (from : count_at old.ends hart ≡ count_at was.ends hart) (start : old.edges.start ≡ was.base) (is : IsRest was old before) where
  abbrev added : List Edge
  added = is.added ++ edges_among taken.added

  late_there : (e : Edge) → Contains added e → count_at was.ends e.hart ≤ e.step
  late_there e has =
      elim (Contains-append_cases is.added (edges_among taken.added) e has) [
        | inl earlier ↦ is.late e earlier
        | inr came ↦
            let (own, up) = taken.late e came in
            let at : count_at was.ends e.hart ≡ count_at was.ends hart = ap (count_at was.ends) own in omega (arith, up, from, at)
      ]

  whole_there : (all : List Edge) → IsEnough (edges_of was.edges) all (count_at was.base) → IsEnough (edges_of new.edges) (all ++ added) (count_at was.base)
  whole_there all enough =
      subst (λ (es : List Edge). IsEnough (edges_of new.edges) es (count_at was.base)) (append_assoc all is.added (edges_among taken.added))
      (subst (λ (s : List ℕ). IsEnough (edges_of new.edges) ((all ++ is.added) ++ edges_among taken.added) (count_at s)) start
      (taken.leg.edges.enough (all ++ is.added)
      (subst (λ (s : List ℕ). IsEnough (edges_of old.edges) (all ++ is.added) (count_at s)) (sym start) (is.whole all enough))))

  inputs_there : (h : ℕ) → inputs_of new.inputs h ≡ inputs_of was.inputs h ++ inputs_of after.inputs h
  inputs_there h =
      elim (cases_eq h hart) [
        | inl same ↦
            rw same
            (taken.leg.inputs.own ∙
            (ap (λ (row : List (ℕ × Input)). row ++ inputs_among taken.added) (is.inputs hart) ∙
            (append_assoc (inputs_of was.inputs hart) (inputs_of before.inputs hart) (inputs_among taken.added) ∙
            ap (λ (row : List (ℕ × Input)). inputs_of was.inputs hart ++ row) (sym taken.rest.inputs.own))))
        | inr ne ↦
            taken.leg.inputs.others h ne ∙
            (is.inputs h ∙ ap (λ (row : List (ℕ × Input)). inputs_of was.inputs h ++ row) (sym (taken.rest.inputs.others h ne)))
      ]

  rest_more : IsRest was new after
  rest_more =
      record {
        added = added;
        late = late_there;
        enough = taken.rest.edges.enough is.added is.enough;
        whole = whole_there;
        inputs = inputs_there;
      }

-- ---- what was added to it

grew_nothing : (was : PlannedLeg) → Grows was was
grew_nothing was =
    record {
      term = refl;
      base = refl;
      edges = adds_nothing was.edges (count_at was.ends) was.edges refl;
      inputs = λ hart. hears_nothing (inputs_of was.inputs hart) (count_at was.ends hart);
    }

pub grew_more : (was old new : PlannedLeg) (hart : ℕ) → count_at old.ends hart ≡ count_at was.ends hart → Grows was old →
    GrowsFrom hart (count_at old.ends hart) old new → Grows was new
grew_more was old new hart from so_far more =
    record {
      term = more.term ∙ so_far.term;
      base = more.base ∙ so_far.base;
      edges =
          adds_on was.edges (count_at was.ends) old.edges (count_at was.ends) new.edges (λ h. le_refl (count_at was.ends h)) so_far.edges
          (more.edges (count_at was.ends) (le_of_eq (sym from)));
      inputs =
          λ h.
          elim (cases_eq h hart) [
            | inl same ↦
                rw same
                (hears_on (inputs_of was.inputs hart) (inputs_of old.inputs hart) (inputs_of new.inputs hart) (count_at was.ends hart) (count_at old.ends hart)
                (le_of_eq (sym from)) (so_far.inputs hart) more.inputs)
            | inr ne ↦
                subst (λ (row : List (ℕ × Input)). HearsMore (inputs_of was.inputs h) (count_at was.ends h) row) (sym (more.others h ne)) (so_far.inputs h)
          ];
    }

-- ---- hart by hart

-- once so many harts' ends were raised to these
pub record IsRaised (store : StoreView) (ends : List ℕ) (was : PlannedLeg) (before : Leg) (number : ℕ) (cursors : List Cursor) (leg : PlannedLeg) (after : Leg) :
    Type 0 where
  pub facts : HasFacts store leg
  pub wide : length cursors ≡ HART_ROW
  pub walks : (hart : ℕ) → hart < length was.base → Walks store leg hart (cursor_at cursors hart)
  pub there : (hart : ℕ) → hart < number → count_at leg.ends hart ≡ count_at ends hart
  pub not_yet : (hart : ℕ) → number ≤ hart → count_at leg.ends hart ≡ count_at was.ends hart
  pub rest : IsRest was leg after
  pub start : after.edges.start ≡ before.edges.start
  pub rows : (hart : ℕ) → number ≤ hart → row_of after.edges hart ≡ []
  pub inputs : (hart : ℕ) → number ≤ hart → inputs_of after.inputs hart ≡ []
  pub rest_ends : after.ends ≡ before.ends
  pub grows : Grows was leg

pub raises_none : (store : StoreView) (ends : List ℕ) (was : PlannedLeg) (before : Leg) (cursors : List Cursor) → HasFacts store was →
    length cursors ≡ HART_ROW → ((hart : ℕ) → hart < length was.base → Walks store was hart (cursor_at cursors hart)) → IsFresh was before →
    IsRaised store ends was before 0 cursors was before
raises_none store ends was before cursors facts wide walks fresh =
    record {
      facts = facts;
      wide = wide;
      walks = walks;
      there = λ hart less. absurd (omega (arith, less));
      not_yet = λ hart le. refl;
      rest = rest_none was before fresh;
      start = refl;
      rows = λ hart le. fresh.nothing.rows hart;
      inputs = λ hart le. fresh.nothing.inputs hart;
      rest_ends = refl;
      grows = grew_nothing was;
    }

module _ (store : StoreView) (ends : List ℕ) (was : PlannedLeg) (before : Leg) (number : ℕ) (cursors : List Cursor) (leg : PlannedLeg) (rest : Leg)
    (so_far : IsRaised store ends was before number cursors leg rest) where
  -- a hart that was there already
  pub raises_nothing : count_at leg.ends number ≡ count_at ends number → IsRaised store ends was before (number + 1) cursors leg rest
  raises_nothing is =
      record {
        facts = so_far.facts;
        wide = so_far.wide;
        walks = so_far.walks;
        there =
            λ hart less.
            elim (cases_lt hart number) [
              | inl earlier ↦ so_far.there hart earlier
              | inr last ↦ (let same : number ≡ hart = omega (arith, less, last) in subst (λ (h : ℕ). count_at leg.ends h ≡ count_at ends h) same is)
            ];
        not_yet = λ hart le. so_far.not_yet hart (omega (arith, le));
        rest = so_far.rest;
        start = so_far.start;
        rows = λ hart le. so_far.rows hart (omega (arith, le));
        inputs = λ hart le. so_far.inputs hart (omega (arith, le));
        rest_ends = so_far.rest_ends;
        grows = so_far.grows;
      }

  -- one that is raised
  module _ (end : ℕ) (is_end : end ≡ count_at ends number) (there : number < length leg.base) (room : number < HART_ROW) (new : PlannedLeg) (after : Leg) (cursor : Cursor)
      (facts : HasFacts store new) (walks : Walks store new number cursor) (new_ends : new.ends ≡ slice_set leg.ends number end)
      (taken : TakesOf number (count_at leg.ends number) (count_at was.ends) leg rest new after) (rest_ends : after.ends ≡ rest.ends)
      (grows : GrowsFrom number (count_at leg.ends number) leg new) where
    from : count_at leg.ends number ≡ count_at was.ends number
    from = so_far.not_yet number (omega arith)

    end_here : count_at new.ends number ≡ count_at ends number
    end_here =
        let many = so_far.facts.many_ends in
        ap (λ (row : List ℕ). count_at row number) new_ends ∙ (get_or-set_same leg.ends number end 0 (omega (arith, there, many)) ∙ is_end)

    end_there : (other : ℕ) → other ≢ number → count_at new.ends other ≡ count_at leg.ends other
    end_there other ne = ap (λ (row : List ℕ). count_at row other) new_ends ∙ get_or-set_other leg.ends number other end 0 ne

    abbrev nowhere : Cursor
    nowhere = record { place = 0; end = 0 }

    walks_there : (hart : ℕ) → hart < length was.base → Walks store new hart (cursor_at (slice_set cursors number cursor) hart)
    walks_there hart less =
        elim (cases_eq hart number) [
          | inl same ↦
              rw same
              (let wide = so_far.wide in
              subst (λ (c : Cursor). Walks store new number c) (sym (get_or-set_same cursors number cursor nowhere (omega (arith, wide, room)))) walks)
          | inr ne ↦
              subst (λ (c : Cursor). Walks store new hart c) (sym (get_or-set_other cursors number hart cursor nowhere ne))
              (let was_there = so_far.walks hart less in
              record {
                goes = rw (grows.term, grows.base) was_there.goes;
                within = rw (end_there hart ne) was_there.within;
              })
        ]

    pub raises_one : IsRaised store ends was before (number + 1) (slice_set cursors number cursor) new after
    raises_one =
        record {
          facts = facts;
          wide = length-set cursors number cursor ∙ so_far.wide;
          walks = walks_there;
          there =
              λ hart less.
              elim (cases_lt hart number) [
                | inl earlier ↦ end_there hart (λ same. absurd (omega (arith, earlier, same))) ∙ so_far.there hart earlier
                | inr last ↦ (let same : number ≡ hart = omega (arith, less, last) in subst (λ (h : ℕ). count_at new.ends h ≡ count_at ends h) same end_here)
              ];
          not_yet = λ hart le. end_there hart (λ same. absurd (omega (arith, le, same))) ∙ so_far.not_yet hart (omega (arith, le));
          rest = rest_more was leg new rest after number taken from (so_far.facts.start ∙ so_far.grows.base) so_far.rest;
          start = taken.rest.edges.start ∙ so_far.start;
          rows =
              λ hart le. taken.rest.edges.others hart (λ same. absurd (omega (arith, le, same))) ∙ so_far.rows hart (omega (arith, le));
          inputs =
              λ hart le. taken.rest.inputs.others hart (λ same. absurd (omega (arith, le, same))) ∙ so_far.inputs hart (omega (arith, le));
          rest_ends = rest_ends ∙ so_far.rest_ends;
          grows = grew_more was leg new number from so_far.grows grows;
        }

  -- the same, as a body tells of it: of the hart with this number
  pub raises_at : (h i end : ℕ) → h ≡ number → i ≡ number → end ≡ count_at ends h → h < length leg.base → h < HART_ROW → (new : PlannedLeg) (after : Leg)
      (cursor : Cursor) → HasFacts store new → Walks store new h cursor → new.ends ≡ slice_set leg.ends h end →
      TakesOf h (count_at leg.ends h) (count_at was.ends) leg rest new after → after.ends ≡ rest.ends → GrowsFrom h (count_at leg.ends h) leg new →
      IsRaised store ends was before (number + 1) (slice_set cursors i cursor) new after
  raises_at h i end own index is_end there room new after cursor facts walks new_ends taken rest_ends grows =
      rw index
      (raises_one end (rw own at is_end) (rw own at there) (rw own at room) new after cursor facts (rw own at walks) (rw own at new_ends) (rw own at taken)
      rest_ends (rw own at grows))

-- where each hart's end was raised, the ends are these
pub raised_all : (store : StoreView) (ends : List ℕ) (was : PlannedLeg) (before : Leg) (cursors : List Cursor) (number : ℕ) (leg : PlannedLeg) (rest : Leg) →
    IsRaised store ends was before number cursors leg rest → length ends ≤ number → length ends ≡ length leg.ends → leg.ends ≡ ends
raised_all store ends was before cursors number leg rest so_far all many =
    ext_get_or 0 leg.ends ends (sym many) (λ hart less. so_far.there hart (omega (arith, less, all, many)))

-- and what is to be done of it began no later
pub raised_behind : (store : StoreView) (ends : List ℕ) (was : PlannedLeg) (before : Leg) (cursors : List Cursor) (number : ℕ) (leg : PlannedLeg) (rest : Leg) →
    IsRaised store ends was before number cursors leg rest → IsFresh was before → ((hart : ℕ) → count_at was.ends hart ≤ count_at ends hart) →
    number ≡ length ends → length ends ≡ length was.base → IsBehind leg rest
raised_behind store ends was before cursors number leg rest so_far fresh up all many =
    let base = ap length so_far.grows.base in
    record {
      harts = ap length so_far.start ∙ (fresh.harts ∙ sym base);
      start =
          λ hart.
          let begun = fresh.start hart in
          let same = ap (λ (row : List ℕ). count_at row hart) so_far.start in
          elim (cases_lt hart number) [
            | inl there ↦ (let end = so_far.there hart there in let higher = up hart in omega (arith, begun, same, end, higher))
            | inr over ↦ (let end = so_far.not_yet hart over in omega (arith, begun, same, end))
          ];
      rows = λ hart le. so_far.rows hart (omega (arith, le, all, many, base));
      inputs = λ hart le. so_far.inputs hart (omega (arith, le, all, many, base));
    }
