-- What a recorder writes of a run is an honest log.
use Rattle.std.proofs.Common.{◌≡◌, ◌≢◌, ◌∙◌, ne_eqb, ◌⊎◌, inl, inr, ℕ, ◌+◌, ◌==◌, ◌&&◌, ◌<◌, ◌≤◌, Bool, true, false, cond, if◌then◌else◌, List, [], ◌∷◌, ◌++◌}
use Rattle.std.proofs.Common.{Option, Some, None, MatchOption, Contains, refl, sym, ap, subst, arith, le_trans, append_assoc, eq-eqb, eqb-true, true≢false}
use Rattle.std.proofs.lemmas.Bool.{cases_Bool}
use Rattle.std.proofs.lemmas.List.Elements.{Contains-append_cases, Contains-append_left, Contains-append_right}
use Rattle.interleaving.specs.Lists.{Each, EachPair}
use Rattle.interleaving.specs.Machine.{Write, Writes, System, Machine, Turn, Step, after, counts, step_of, steps, Runs}
use Rattle.interleaving.specs.Log.{Edge, Before, Across, Through, IsMet, EachMet, Conflict, place, bump}
use Rattle.interleaving.specs.Recorder.{is_write, has, edge_after, edges_at, edges_for, recorded, RecordsHonestly, input_at, log_of, RecordsEachRun}
use Rattle.interleaving.proofs.Put.{same_or_not, put_same, bump_same, bump_le}
use Rattle.interleaving.proofs.Cuts.{here_or_later, here}
use Rattle.interleaving.proofs.Runs.{InTurn, in_turn, from_now}
use Rattle.interleaving.proofs.Each.{each_from, each_more, each_both, pairs_more}

is_write_true : {Page : Type 0} (w : Option (Write Page)) (page : ℕ) → MatchOption w ⊥ (λ w. w.page ≡ page) →
    is_write w page ≡ true
is_write_true None page h = absurd h
is_write_true (Some w) page h = eq-eqb w.page page h

true_is_write : {Page : Type 0} (w : Option (Write Page)) (page : ℕ) → is_write w page ≡ true →
    MatchOption w ⊥ (λ w. w.page ≡ page)
true_is_write None page h = true≢false (sym h)
true_is_write (Some w) page h = eqb-true w.page page h

has_true : (xs : List ℕ) (page : ℕ) → Contains xs page → has xs page ≡ true
has_true [] page (k, below, is) = absurd (omega arith)
has_true (x ∷ xs) page h =
    elim (here_or_later x xs page h) [
      | inl is ↦ rw (eq-eqb x page is) refl
      | inr later ↦
          elim (x == page) as (λ b. cond b true (has xs page) ≡ true) [ true ↦ refl | false ↦ has_true xs page later ]
    ]

-- one step of `edges_at`
abbrev picked : Bool → Bool → Edge → List Edge → List Edge
picked b c x more = if b then x ∷ [] else (if c then x ∷ more else more)

picked_cases : (b c : Bool) (x : Edge) (more : List Edge) (e : Edge) → Contains (picked b c x more) e →
    (x ≡ e) ⊎ Contains more e
picked_cases true c x more e h =
    elim (here_or_later x [] e h) [ inl is ↦ inl is | inr (k, below, is) ↦ absurd (omega arith) ]
picked_cases false true x more e h = here_or_later x more e h
picked_cases false false x more e h = inr h

picked_first : (b c : Bool) (x : Edge) (more : List Edge) → (b ≡ true) ⊎ (c ≡ true) → Contains (picked b c x more) x
picked_first true c x more h = here x []
picked_first false true x more h = here x more
picked_first false false x more (inl h) = absurd (true≢false (sym h))
picked_first false false x more (inr h) = absurd (true≢false (sym h))

picked_later : (b c : Bool) (x : Edge) (more : List Edge) (e : Edge) → b ≡ false → Contains more e →
    Contains (picked b c x more) e
picked_later true c x more e h later = absurd (true≢false h)
picked_later false true x more e h later = Contains-append_right (x ∷ []) more e later
picked_later false false x more e h later = later

module _ {Hart Page Input : Type 0} (system : System Hart Page Input) where
  abbrev AllPast : (ℕ → ℕ) → List (Step Hart Page Input) → Type 0
  AllPast now past = Each (λ s. system.count s.found < now s.hart) past

  record IsEdgeOf (now : ℕ → ℕ) (t : Step Hart Page Input) (e : Edge) : Type 0 where
    hart : t.hart ≡ e.hart
    step : system.count t.found ≡ e.step
    met : e.count ≤ now e.other

  edges_at_of : (now : ℕ → ℕ) (past : List (Step Hart Page Input)) (t : Step Hart Page Input) (page : ℕ) (e : Edge) →
      AllPast now past →
      Contains (edges_at system past t page) e → IsEdgeOf now t e
  edges_at_of now [] t page e all (k, below, is) = absurd (omega arith)
  edges_at_of now (s ∷ past) t page e all h =
      elim
      (picked_cases (is_write s.effect.write page) (is_write t.effect.write page && has s.effect.touched page)
      (edge_after system t s)
      (edges_at system past t page) e h) [
        | inl is ↦
            subst (λ e. IsEdgeOf now t e) is (let p : system.count s.found < now s.hart = all.0 in
            record { hart = refl; step = refl; met = omega arith })
        | inr later ↦ edges_at_of now past t page e all.1 later
      ]

  edges_for_of : (now : ℕ → ℕ) (past : List (Step Hart Page Input)) (t : Step Hart Page Input) (pages : List ℕ)
      (e : Edge) → AllPast now past →
      Contains (edges_for system past t pages) e → IsEdgeOf now t e
  edges_for_of now past t [] e all (k, below, is) = absurd (omega arith)
  edges_for_of now past t (page ∷ pages) e all h =
      elim (Contains-append_cases (edges_at system past t page) (edges_for system past t pages) e h)
      [ inl first ↦ edges_at_of now past t page e all first | inr later ↦ edges_for_of now past t pages e all later ]

  past_bump : (now : ℕ → ℕ) (past : List (Step Hart Page Input)) (t : Step Hart Page Input) →
      system.count t.found ≡ now t.hart → AllPast now past →
      AllPast (bump now t.hart) (t ∷ past)
  past_bump now past t is all = (
    (let e : bump now t.hart t.hart ≡ now t.hart + 1 = bump_same now t.hart in omega arith),
    each_more (λ s. system.count s.found < now s.hart) (λ s. system.count s.found < bump now t.hart s.hart)
        (λ s less. le_trans less (bump_le now t.hart s.hart)) past all,
  )

  -- what is recorded later is of later steps
  recorded_later : (now : ℕ → ℕ) (past rest : List (Step Hart Page Input)) (e : Edge) → AllPast now past →
      InTurn system now rest →
      Contains (recorded system past rest) e → now e.hart ≤ e.step
  recorded_later now past [] e all turn (k, below, is) = absurd (omega arith)
  recorded_later now past (t ∷ rest) e all turn h =
      elim (Contains-append_cases (edges_for system past t t.effect.touched) (recorded system (t ∷ past) rest) e h) [
        | inl first ↦
            let of = edges_for_of now past t t.effect.touched e all first in
            let a : now t.hart ≡ now e.hart = ap now of.hart in
            let b : system.count t.found ≡ e.step = of.step in
            let c : system.count t.found ≡ now t.hart = turn.0 in
            omega arith
        | inr later ↦
            le_trans (bump_le now t.hart e.hart)
            (recorded_later (bump now t.hart) (t ∷ past) rest e (past_bump now past t turn.0 all) turn.1 later)
      ]

  -- each step's edges are met
  met_from : (done : List Edge) (now : ℕ → ℕ) (past rest : List (Step Hart Page Input)) →
      ((e : Edge) → Contains done e → e.step < now e.hart) →
      AllPast now past → InTurn system now rest → EachMet (done ++ recorded system past rest) now rest
  met_from done now past [] was all turn = tt
  met_from done now past (t ∷ rest) was all turn = (
    met,
    subst (λ edges. EachMet edges (bump now t.hart) rest) (append_assoc done mine later)
        (met_from (done ++ mine) (bump now t.hart) (t ∷ past) rest was_next (past_bump now past t turn.0 all) turn.1),
  )
    where
      mine : List Edge
      mine = edges_for system past t t.effect.touched

      later : List Edge
      later = recorded system (t ∷ past) rest

      met : IsMet (done ++ (mine ++ later)) now t.hart
      met e is_edge is_here stands =
          elim (Contains-append_cases done (mine ++ later) e is_edge) [
            | inl old ↦
                let a : e.step < now e.hart = was e old in
                let b : now e.hart ≡ now t.hart = ap now is_here in absurd (omega arith)
            | inr new ↦
                elim (Contains-append_cases mine later e new) [
                  | inl own ↦ (edges_for_of now past t t.effect.touched e all own).met
                  | inr next ↦
                      let a : bump now t.hart e.hart ≤ e.step =
                      recorded_later (bump now t.hart) (t ∷ past) rest e
                      (past_bump now past t turn.0 all) turn.1 next in
                      let b : bump now t.hart e.hart ≡ now t.hart + 1 =
                      put_same now t.hart e.hart (now t.hart + 1) (sym is_here) in
                      absurd (omega arith)
                ]
          ]

      was_next : (e : Edge) → Contains (done ++ mine) e → e.step < bump now t.hart e.hart
      was_next e is_edge =
          elim (Contains-append_cases done mine e is_edge) [
            | inl old ↦
                let a : e.step < now e.hart = was e old in
                let b : now e.hart ≤ bump now t.hart e.hart = bump_le now t.hart e.hart in omega arith
            | inr own ↦
                let of = edges_for_of now past t t.effect.touched e all own in
                let a : system.count t.found ≡ e.step = of.step in
                let c : system.count t.found ≡ now t.hart = turn.0 in
                let b : bump now t.hart e.hart ≡ now t.hart + 1 = put_same now t.hart e.hart (now t.hart + 1) of.hart in
                omega arith
          ]

  -- both touch one page, and one of them writes it
  abbrev Meet : Step Hart Page Input → Step Hart Page Input → Type 0
  Meet s t =
      (page : ℕ) × Contains s.effect.touched page × Contains t.effect.touched page ×
      (Writes s.effect page ⊎ Writes t.effect page)

  abbrev InOrder : List Edge → Step Hart Page Input → Step Hart Page Input → Type 0
  InOrder edges s t = Meet s t → Before edges (place system s) (place system t)

  abbrev AllWithin : List (Step Hart Page Input) → Type 0
  AllWithin xs = Each (λ s. (page : ℕ) → Writes s.effect page → Contains s.effect.touched page) xs

  by_edge : (edges : List Edge) (s t : Step Hart Page Input) → Contains edges (edge_after system t s) →
      Before edges (place system s) (place system t)
  by_edge edges s t is_edge = Across (edge_after system t s) is_edge refl (omega arith) refl (omega arith)

  -- the steps that meet t at this page are before it
  at_page : (edges : List Edge) (past : List (Step Hart Page Input)) (t : Step Hart Page Input) (page : ℕ) →
      ((e : Edge) → Contains (edges_at system past t page) e → Contains edges e) →
      EachPair (λ u s. InOrder edges s u) past → AllWithin past →
      Each (λ s. Contains s.effect.touched page → Writes s.effect page ⊎ Writes t.effect page → Before edges
      (place system s) (place system t)) past
  at_page edges [] t page some order within = tt
  at_page edges (u ∷ past) t page some order within = (
    first,
    elim (cases_Bool b) [
      | inl writes ↦
          each_more (λ s. InOrder edges s u)
          (λ s. Contains s.effect.touched page → Writes s.effect page ⊎ Writes t.effect page → Before edges
          (place system s) (place system t))
          (λ s before touches either.
          let w = true_is_write u.effect.write page writes in
          Through (before (page, touches, within.0 page w, inr w)) (first (within.0 page w) (inl w)))
          past order.0
      | inr reads ↦
          at_page edges past t page
          (λ e is_edge. some e
          (picked_later b c (edge_after system t u) (edges_at system past t page) e reads is_edge)) order.1
          within.1
    ],
  )
    where
      b : Bool
      b = is_write u.effect.write page

      c : Bool
      c = is_write t.effect.write page && has u.effect.touched page

      first : Contains u.effect.touched page → Writes u.effect page ⊎ Writes t.effect page →
          Before edges (place system u) (place system t)
      first touches (inl w) =
          by_edge edges u t
          (some (edge_after system t u)
          (picked_first b c (edge_after system t u) (edges_at system past t page)
          (inl (is_write_true u.effect.write page w))))
      first touches (inr w) =
          by_edge edges u t
          (some (edge_after system t u)
          (picked_first b c (edge_after system t u) (edges_at system past t page)
          (inr (rw (is_write_true t.effect.write page w, has_true u.effect.touched page touches) refl))))

  edges_for_has : (past : List (Step Hart Page Input)) (t : Step Hart Page Input) (pages : List ℕ) (page : ℕ)
      (e : Edge) → Contains pages page →
      Contains (edges_at system past t page) e → Contains (edges_for system past t pages) e
  edges_for_has past t [] page e (k, below, is) h = absurd (omega arith)
  edges_for_has past t (x ∷ pages) page e in_pages h =
      elim (here_or_later x pages page in_pages) [
        | inl is ↦
            Contains-append_left (edges_at system past t x) (edges_for system past t pages) e
            (subst (λ x. Contains (edges_at system past t x) e) (sym is) h)
        | inr later ↦
            Contains-append_right (edges_at system past t x) (edges_for system past t pages) e
            (edges_for_has past t pages page e later h)
      ]

  each_page : (Q : ℕ → Type 0) (P : Step Hart Page Input → ℕ → Type 0) (xs : List (Step Hart Page Input)) →
      ((page : ℕ) → Q page → Each (λ s. P s page) xs) → Each (λ s. (page : ℕ) → Q page → P s page) xs
  each_page Q P [] h = tt
  each_page Q P (x ∷ xs) h = ((λ page q. (h page q).0), each_page Q P xs (λ page q. (h page q).1))

  -- those that meet t at all are before it
  for_step : (edges : List Edge) (past : List (Step Hart Page Input)) (t : Step Hart Page Input) →
      ((e : Edge) → Contains (edges_for system past t t.effect.touched) e → Contains edges e) →
      EachPair (λ u s. InOrder edges s u) past → AllWithin past →
      Each (λ s. InOrder edges s t) past
  for_step edges past t some order within =
      each_more
      (λ s.
      (page : ℕ) → Contains t.effect.touched page → Contains s.effect.touched page →
      Writes s.effect page ⊎ Writes t.effect page →
      Before edges (place system s) (place system t))
      (λ s. InOrder edges s t) (λ s h (page, ours, theirs, either). h page theirs ours either) past
      (each_page (Contains t.effect.touched)
      (λ s page. Contains s.effect.touched page → Writes s.effect page ⊎ Writes t.effect page → Before edges
      (place system s) (place system t)) past
      (λ page touches.
      at_page edges past t page
      (λ e is_edge. some e (edges_for_has past t t.effect.touched page e touches is_edge)) order within))

  ordered_from : (edges : List Edge) (past rest : List (Step Hart Page Input)) →
      ((e : Edge) → Contains (recorded system past rest) e → Contains edges e) →
      EachPair (λ u s. InOrder edges s u) past → AllWithin past → AllWithin rest →
      EachPair (InOrder edges) rest × Each (λ s. Each (InOrder edges s) rest) past
  ordered_from edges past [] some order within_past within = (tt, each_from (λ s. Unit {0}) past (λ s is_past. tt))
  ordered_from edges past (t ∷ rest) some order within_past within =
      let mine =
      for_step edges past t
      (λ e is_edge. some e
      (Contains-append_left (edges_for system past t t.effect.touched)
      (recorded system (t ∷ past) rest) e is_edge)) order
      within_past in
      let next =
      ordered_from edges (t ∷ past) rest
      (λ e is_edge. some e
      (Contains-append_right (edges_for system past t t.effect.touched) (recorded system (t ∷ past) rest) e is_edge))
      (mine, order)
      (within.0, within_past) within.1 in
      ((next.1.0, next.0), each_both (λ s. InOrder edges s t) (λ s. Each (InOrder edges s) rest) past mine next.1.1)

  steps_within : (m : Machine Hart Page) (turns : List (Turn Input)) → Runs system m turns →
      AllWithin (steps system m turns)
  steps_within m [] runs = tt
  steps_within m (t ∷ turns) runs = (
    (λ page writes. system.within (m.harts t.hart) t.input m.pages page runs.0 writes),
    steps_within (after m (step_of system m t)) turns runs.1,
  )

  pub records_honestly : RecordsHonestly system
  records_honestly log m turns runs recording =
      record {
        runs = runs;
        inputs = recording.inputs;
        start = recording.start;
        end = recording.end;
        closed =
            λ e is_edge below.
            let a : counts system m e.hart ≤ e.step =
            recorded_later (counts system m) [] (steps system m turns) e tt (in_turn system m turns runs) (subst (λ es. Contains es e) recording.edges is_edge)
            in
            let b : log.start e.hart ≡ counts system m e.hart = recording.start e.hart in
            absurd (omega arith);
        met =
            subst (λ now. EachMet log.edges now (steps system m turns)) (sym start)
            (subst (λ es. EachMet es (counts system m) (steps system m turns)) (sym recording.edges)
            (met_from [] (counts system m) [] (steps system m turns) (λ e (k, below, is). absurd (omega arith)) tt
            (in_turn system m turns runs)));
        ordered =
            pairs_more (InOrder log.edges)
            (λ s t. Conflict system s t → Before log.edges (place system s) (place system t))
            (λ s t f conflict. f conflict.1)
            (steps system m turns)
            (ordered_from log.edges [] (steps system m turns)
            (λ e is_edge. subst (λ es. Contains es e) (sym recording.edges) is_edge) tt tt
            (steps_within m turns runs)).0;
      }
    where
      start : log.start ≡ counts system m
      start = λ i hart. recording.start hart i

  input_here : (idle : Input) (t : Step Hart Page Input) (rest : List (Step Hart Page Input)) →
      input_at system idle (t ∷ rest) t.hart (system.count t.found) ≡ t.input
  input_here idle t rest =
      rw (eq-eqb t.hart t.hart refl, eq-eqb (system.count t.found) (system.count t.found) refl) refl

  input_later : (idle : Input) (t : Step Hart Page Input) (rest : List (Step Hart Page Input)) (hart count : ℕ) →
      (t.hart ≡ hart → system.count t.found ≢ count) →
      input_at system idle (t ∷ rest) hart count ≡ input_at system idle rest hart count
  input_later idle t rest hart count apart =
      elim (same_or_not t.hart hart) [
        | inl same ↦ rw (eq-eqb t.hart hart same, ne_eqb (system.count t.found) count (apart same)) refl
        | inr ne ↦ rw (ne_eqb t.hart hart ne) refl
      ]

  -- each step finds its input by its hart and its number
  inputs_found : (idle : Input) (now : ℕ → ℕ) (xs : List (Step Hart Page Input)) → InTurn system now xs →
      Each (λ s. s.input ≡ input_at system idle xs s.hart (system.count s.found)) xs
  inputs_found idle now [] turn = tt
  inputs_found idle now (t ∷ rest) turn = (
    sym (input_here idle t rest),
    each_more (λ s. (bump now t.hart s.hart ≤ system.count s.found) ×
        (s.input ≡ input_at system idle rest s.hart (system.count s.found)))
        (λ s. s.input ≡ input_at system idle (t ∷ rest) s.hart (system.count s.found))
        (λ s (from, is). is ∙ sym (input_later idle t rest s.hart (system.count s.found) (later s from))) rest
        (each_both (λ s. bump now t.hart s.hart ≤ system.count s.found)
        (λ s. s.input ≡ input_at system idle rest s.hart (system.count s.found)) rest
        (from_now system (bump now t.hart) rest turn.1) (inputs_found idle (bump now t.hart) rest turn.1)),
  )
    where
      later : (s : Step Hart Page Input) → bump now t.hart s.hart ≤ system.count s.found → t.hart ≡ s.hart →
          system.count t.found ≢ system.count s.found
      later s from same is =
          let a : bump now t.hart s.hart ≡ now t.hart + 1 = put_same now t.hart s.hart (now t.hart + 1) same in
          let b : system.count t.found ≡ now t.hart = turn.0 in
          absurd (omega arith)

  pub records_each_run : RecordsEachRun system
  records_each_run idle m turns runs =
      records_honestly (log_of system idle m turns) m turns runs
      (record {
        edges = refl;
        inputs = inputs_found idle (counts system m) (steps system m turns) (in_turn system m turns runs);
        start = λ hart. refl;
        end = λ hart. refl;
      })
