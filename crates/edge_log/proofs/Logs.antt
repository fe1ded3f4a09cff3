-- The rows of a log, and what they say in the theory's words.
use Rattle.std.proofs.Common.{◌≡◌, ◌≢◌, ◌⊎◌, ◌↔◌, ℕ, zero, suc, ◌<◌, ◌≤◌, List, [], ◌∷◌, ◌++◌, length, get_or, set, map, arith, refl, sym, ap, subst, ◌∙◌, inl}
use Rattle.std.proofs.Common.{inr, le_trans, le_refl, le_of_eq, All, Contains, Result, Ok, Err, IfOk, length-set, get_or-set_same}
use Rattle.std.proofs.Common.{get_or-set_other}
use Rattle.std.specs.List.{flat_map, AllByRecursion}
use Rattle.std.proofs.lemmas.Bool.{cases_lt, cases_eq}
use Rattle.std.proofs.lemmas.List.{length-map, map-set, set-get_or}
use Rattle.std.proofs.lemmas.List.Elements.{Contains-append_cases, Contains-append_left, Contains-append_right, All-contains}
use Rattle.ft_types.specs.Counts.{count_at}
use Rattle.ft_types.specs.declared.names.TheConstants.{HART_LIMIT, HART_ROW}
use Rattle.interleaving.specs.Log as theory
use Rattle.interleaving.specs.Cuts.{IsImplied, IsEnough, IsSameOrder}
use Rattle.interleaving.proofs.Cuts.{here, here_or_later, same_order}
use Rattle.ft_types.specs.declared.errors.Memory.{Memory}
use Rattle.edge_log.specs.declared.Edge.{Edge}
use Rattle.edge_log.specs.declared.Added.{Added}
use Rattle.edge_log.specs.declared.Added.TheVariants.{New, Implied}
use Rattle.edge_log.specs.Rows.{IsPut, SaysAsMuch, EdgesOfOne}
use Rattle.edge_log.specs.EdgeLog.{edge_as, IsOfHart, IsLater, IsLog}
use Rattle.edge_log.proofs.Rows.{put_has, put_kept, put_among, all_put}

pub edges_at_map : (rows : List EdgesOfOne) (h : ℕ) (d : EdgesOfOne) → h < length rows → get_or (map (λ r. r.edges) rows) h [] ≡ (get_or rows h d).edges
edges_at_map [] h d below = absurd (omega arith)
edges_at_map (r ∷ rows) zero d below = refl
edges_at_map (r ∷ rows) (suc h) d below = edges_at_map rows h d (omega arith)

pub contains_map : {A B : Type 0} (f : A → B) (xs : List A) (x : A) → Contains xs x → Contains (map f xs) (f x)
contains_map f [] x (k, below, is) = absurd (omega arith)
contains_map f (y ∷ ys) x h =
    elim (here_or_later y ys x h) [
      | inl same ↦ subst (λ x. Contains (f y ∷ map f ys) (f x)) same (here (f y) (map f ys))
      | inr later ↦ Contains-append_right (f y ∷ []) (map f ys) (f x) (contains_map f ys x later)
    ]

pub map_contains : {A B : Type 0} (f : A → B) (xs : List A) (y : B) → Contains (map f xs) y → (x : A) × Contains xs x × (f x ≡ y)
map_contains f [] y (k, below, is) = absurd (omega arith)
map_contains f (x ∷ xs) y h =
    elim (here_or_later (f x) (map f xs) y h) [
      | inl same ↦ (x, here x xs, same)
      | inr later ↦ let (z, is_in, is) = map_contains f xs y later in (z, Contains-append_right (x ∷ []) xs z is_in, is)
    ]

pub to_edges : (rows : List (List Edge)) (h : ℕ) (e : Edge) → Contains (get_or rows h []) e → Contains (flat_map (map edge_as) rows) (edge_as e)
to_edges [] h e (k, below, is) = absurd (omega arith)
to_edges (row ∷ rows) zero e h = Contains-append_left (map edge_as row) (flat_map (map edge_as) rows) (edge_as e) (contains_map edge_as row e h)
to_edges (row ∷ rows) (suc n) e h = Contains-append_right (map edge_as row) (flat_map (map edge_as) rows) (edge_as e) (to_edges rows n e h)

-- an edge of the log, with its row
pub record Found (rows : List (List Edge)) (x : theory.Edge) : Type 0 where
  pub hart : ℕ
  pub edge : Edge
  pub is_in : Contains (get_or rows hart []) edge
  pub is : edge_as edge ≡ x

pub from_edges : (rows : List (List Edge)) (x : theory.Edge) → Contains (flat_map (map edge_as) rows) x → Found rows x
from_edges [] x (k, below, is) = absurd (omega arith)
from_edges (row ∷ rows) x h =
    elim (Contains-append_cases (map edge_as row) (flat_map (map edge_as) rows) x h) [
      | inl first ↦ let (e, is_in, is) = map_contains edge_as row x first in record { hart = 0; edge = e; is_in = is_in; is = is }
      | inr later ↦ let f = from_edges rows x later in record { hart = suc f.hart; edge = f.edge; is_in = f.is_in; is = f.is }
    ]

module _ (start : List ℕ) (rows : List (List Edge)) (log : IsLog start rows) where
  pub of_row : (h : ℕ) (e : Edge) → Contains (get_or rows h []) e → IsOfHart start h e
  of_row h e is_in = All-contains (IsOfHart start h) (get_or rows h []) e (log.own h) is_in

  -- an edge of the log stands in its hart's row
  pub in_row : (x : theory.Edge) → Contains (flat_map (map edge_as) rows) x → (e : Edge) × Contains (get_or rows x.hart []) e × (edge_as e ≡ x)
  in_row x h =
      let f = from_edges rows x h in
      (f.edge, subst (λ n. Contains (get_or rows n []) f.edge) (sym (of_row f.hart f.edge f.is_in).own ∙ ap (λ x. x.hart) f.is) f.is_in, f.is)

  pub implied_by : (e : Edge) → SaysAsMuch (get_or rows e.hart []) e → IsImplied (flat_map (map edge_as) rows) (count_at start) (edge_as e)
  implied_by e (by, is_in, asks) = inr (edge_as by, to_edges rows e.hart by is_in, (of_row e.hart by is_in).own, asks.other, asks.at, asks.after)

  pub implying : (e : Edge) → IsImplied (flat_map (map edge_as) rows) (count_at start) (edge_as e) →
      (e.after ≤ count_at start e.other) ⊎ SaysAsMuch (get_or rows e.hart []) e
  implying e (inl le) = inl le
  implying e (inr (x, is_edge, hart, other, step, count)) =
      let (by, is_in, is) = in_row x is_edge in
      inr (
        by,
        subst (λ h. Contains (get_or rows h []) by) hart is_in,
        record {
          other = ap (λ x. x.other) is ∙ other;
          at = subst (λ n. n ≤ e.at) (sym (ap (λ x. x.step) is)) step;
          after = subst (λ n. e.after ≤ n) (sym (ap (λ x. x.count) is)) count;
        },
      )

  pub starts_closed : theory.IsClosed (flat_map (map edge_as) rows) (count_at start)
  starts_closed x is_edge below =
      let (e, is_in, is) = in_row x is_edge in
      let from : count_at start x.hart ≤ e.at = (of_row x.hart e is_in).from_start in
      let step : e.at ≡ x.step = ap (λ x. x.step) is in
      absurd (omega arith)

  pub enough_implied : (e : Edge) (all : List theory.Edge) → IsImplied (flat_map (map edge_as) rows) (count_at start) (edge_as e) →
      IsEnough (flat_map (map edge_as) rows) all (count_at start) → IsEnough (flat_map (map edge_as) rows) (all ++ edge_as e ∷ []) (count_at start)
  enough_implied e all implied enough =
      record {
        among = λ x h. Contains-append_left all (edge_as e ∷ []) x (enough.among x h);
        implied =
            λ x h.
            elim (Contains-append_cases all (edge_as e ∷ []) x h) [
              | inl old ↦ enough.implied x old
              | inr new ↦
                  elim (here_or_later (edge_as e) [] x new) [
                    | inl same ↦ subst (IsImplied (flat_map (map edge_as) rows) (count_at start)) same implied
                    | inr (k, below, at) ↦ absurd (omega arith)
                  ]
            ];
        start_closed = enough.start_closed;
      }

  module _ (e : Edge) (small : e.hart < length rows) (row : List Edge) (put : IsPut (get_or rows e.hart []) e row) where
    others_row : (h : ℕ) → h ≢ e.hart → get_or (set rows e.hart row) h [] ≡ get_or rows h []
    others_row h ne = get_or-set_other rows e.hart h row [] ne

    its_row : get_or (set rows e.hart row) e.hart [] ≡ row
    its_row = get_or-set_same rows e.hart row [] small

    pub log_after : e.other < length start → count_at start e.hart ≤ e.at → IsLater start e → IsLog start (set rows e.hart row)
    log_after other from later =
        record {
          harts = log.harts;
          many = length-set rows e.hart row ∙ log.many;
          own =
              λ h.
              elim (cases_eq h e.hart) [
                | inl same ↦
                    rw (same, its_row)
                    (all_put (IsOfHart start e.hart) (get_or rows e.hart []) e row put (record { own = refl; other = other; from_start = from })
                    (log.own e.hart))
                | inr ne ↦ rw (others_row h ne) (log.own h)
              ];
          later =
              λ h.
              elim (cases_eq h e.hart) [
                | inl same ↦ rw (same, its_row) (all_put (IsLater start) (get_or rows e.hart []) e row put later (log.later e.hart))
                | inr ne ↦ rw (others_row h ne) (log.later h)
              ];
        }

    new_among : (x : theory.Edge) → Contains (flat_map (map edge_as) (set rows e.hart row)) x → (edge_as e ≡ x) ⊎ Contains (flat_map (map edge_as) rows) x
    new_among x h =
        let f = from_edges (set rows e.hart row) x h in
        elim (cases_eq f.hart e.hart) [
          | inl same ↦
              elim (put_among (get_or rows e.hart []) e row put f.edge (subst (λ l. Contains l f.edge) (ap (λ n. get_or (set rows e.hart row) n []) same ∙
              its_row) f.is_in)) [
                | inl is ↦ inl (ap edge_as is ∙ f.is)
                | inr old ↦ inr (subst (Contains (flat_map (map edge_as) rows)) f.is (to_edges rows e.hart f.edge old))
              ]
          | inr ne ↦ inr (subst (Contains (flat_map (map edge_as) rows)) f.is (to_edges rows f.hart f.edge (subst (λ l. Contains l f.edge)
              (others_row f.hart ne) f.is_in)))
        ]

    has_new : Contains (flat_map (map edge_as) (set rows e.hart row)) (edge_as e)
    has_new = to_edges (set rows e.hart row) e.hart e (rw its_row (put_has (get_or rows e.hart []) e row put))

    -- what an edge of the log was good for, one is still
    still : (SaysAsMuch (get_or rows e.hart []) e → ⊥) → (x : theory.Edge) → Contains (flat_map (map edge_as) rows) x →
        (by : theory.Edge) × Contains (flat_map (map edge_as) (set rows e.hart row)) by × (by.hart ≡ x.hart) × (by.other ≡ x.other) × (by.step ≤ x.step) ×
        (x.count ≤ by.count)
    still none x h =
        let (f, is_in, is) = in_row x h in
        elim (cases_eq x.hart e.hart) [
          | inr ne ↦ (
            x,
            subst (Contains (flat_map (map edge_as) (set rows e.hart row))) is (to_edges (set rows e.hart row) x.hart f (rw (others_row x.hart ne) is_in)),
            refl,
            refl,
            le_refl x.step,
            le_refl x.count,
          )
          | inl same ↦
              let was : Contains (get_or rows e.hart []) f = subst (λ n. Contains (get_or rows n []) f) same is_in in
              elim (put_kept (get_or rows e.hart []) e row put f was) [
                | inl kept ↦ (
                  x,
                  subst (Contains (flat_map (map edge_as) (set rows e.hart row))) is (to_edges (set rows e.hart row) e.hart f (rw its_row kept)),
                  refl,
                  refl,
                  le_refl x.step,
                  le_refl x.count,
                )
                | inr twin ↦ (
                  edge_as e,
                  has_new,
                  sym same,
                  sym twin.other ∙ ap (λ x. x.other) is,
                  le_of_eq (sym twin.at ∙ ap (λ x. x.step) is),
                  let after : f.after ≡ x.count = ap (λ x. x.count) is in
                      elim (cases_lt f.after e.after) [
                        | inl less ↦ omega arith
                        | inr le ↦ absurd (none (f, was, record { other = twin.other; at = le_of_eq twin.at; after = le }))
                      ],
                )
              ]
        ]

    pub enough_after : e.other < length start → count_at start e.hart ≤ e.at → (SaysAsMuch (get_or rows e.hart []) e → ⊥) → (all : List theory.Edge) →
        IsEnough (flat_map (map edge_as) rows) all (count_at start) →
        IsEnough (flat_map (map edge_as) (set rows e.hart row)) (all ++ edge_as e ∷ []) (count_at start)
    enough_after other from none all enough =
        record {
          among =
              λ x h.
              elim (new_among x h) [
                | inl same ↦ Contains-append_right all (edge_as e ∷ []) x (subst (Contains (edge_as e ∷ [])) same (here (edge_as e) []))
                | inr old ↦ Contains-append_left all (edge_as e ∷ []) x (enough.among x old)
              ];
          implied =
              λ x h.
              elim (Contains-append_cases all (edge_as e ∷ []) x h) [
                | inl old ↦ implied x (enough.implied x old)
                | inr new ↦
                    elim (here_or_later (edge_as e) [] x new) [
                      | inl same ↦
                          subst (IsImplied (flat_map (map edge_as) (set rows e.hart row)) (count_at start)) same
                          (inr (edge_as e, has_new, refl, refl, le_refl e.at, le_refl e.after))
                      | inr (k, below, at) ↦ absurd (omega arith)
                    ]
              ];
          start_closed = closed;
        }
      where
        implied : (x : theory.Edge) → IsImplied (flat_map (map edge_as) rows) (count_at start) x → IsImplied (flat_map (map edge_as) (set rows e.hart row))
            (count_at start) x
        implied x (inl le) = inl le
        implied x (inr (by, is_edge, hart, other, step, count)) =
            let (y, is_new, h, o, s, c) = still none by is_edge in
            inr (y, is_new, h ∙ hart, o ∙ other, le_trans s step, le_trans count c)

        closed : theory.IsClosed (flat_map (map edge_as) (set rows e.hart row)) (count_at start)
        closed x is_edge below =
            elim (new_among x is_edge) [
              | inr old ↦ starts_closed x old below
              | inl same ↦
                  let l : e.at < count_at start e.hart = subst (λ x. x.step < count_at start x.hart) (sym same) below in
                  absurd (omega arith)
            ]

not_said : (result : Result Added Memory) (e : Edge) (row : List Edge) → ((result ≡ Ok Implied) ↔ SaysAsMuch row e) → result ≡ Ok New → SaysAsMuch row e → ⊥
not_said result e row implied is says = let f = implied.1 says in cc

-- a row of the log, and the same with an edge added
module _ (start : List ℕ) (inner : List EdgesOfOne) (log : IsLog start (map (λ r. r.edges) inner)) (e : Edge) (i : ℕ) (is : i ≡ e.hart) (small : i < HART_LIMIT)
    (r new : EdgesOfOne) where
  many : length inner ≡ HART_ROW
  many = sym (length-map inner (λ r. r.edges)) ∙ log.many

  pub old_is : get_or (map (λ r. r.edges) inner) e.hart [] ≡ (get_or inner i r).edges
  old_is =
      let rows : length inner ≡ HART_ROW = many in
      ap (λ n. get_or (map (λ r. r.edges) inner) n []) (sym is) ∙ edges_at_map inner i r (omega arith)

  pub rows_are : map (λ r. r.edges) (set inner i new) ≡ set (map (λ r. r.edges) inner) e.hart new.edges
  rows_are = map-set (λ r. r.edges) inner i new ∙ ap (λ n. set (map (λ r. r.edges) inner) n new.edges) is

  there : e.hart < length (map (λ r. r.edges) inner)
  there = let h : length (map (λ r. r.edges) inner) ≡ HART_ROW = log.many in omega arith

  pub new_is : get_or (map (λ r. r.edges) (set inner i new)) e.hart [] ≡ new.edges
  new_is = ap (λ rows. get_or rows e.hart []) rows_are ∙ get_or-set_same (map (λ r. r.edges) inner) e.hart new.edges [] there

  pub others_are : (h : ℕ) → h ≢ e.hart → get_or (map (λ r. r.edges) (set inner i new)) h [] ≡ get_or (map (λ r. r.edges) inner) h []
  others_are h ne = ap (λ rows. get_or rows h []) rows_are ∙ get_or-set_other (map (λ r. r.edges) inner) e.hart h new.edges [] ne

  -- where its edges stay, all do
  pub all_stay : new.edges ≡ (get_or inner i r).edges → map (λ r. r.edges) (set inner i new) ≡ map (λ r. r.edges) inner
  all_stay same =
      rows_are ∙ (ap (set (map (λ r. r.edges) inner) e.hart) (same ∙ sym old_is) ∙ set-get_or (map (λ r. r.edges) inner) e.hart [])

  module _ (result : Result Added Memory) (implied : (result ≡ Ok Implied) ↔ SaysAsMuch (get_or inner i r).edges e)
      (put : result ≡ Ok New → IsPut (get_or inner i r).edges e new.edges)
      (kept : (result ≡ Ok New → ⊥) → new.edges ≡ (get_or inner i r).edges)
      (other : e.other < length start) (from : count_at start e.hart ≤ e.at) (more : count_at start e.other < e.after) where
    put_in : result ≡ Ok New → IsPut (get_or (map (λ r. r.edges) inner) e.hart []) e new.edges
    put_in f = subst (λ l. IsPut l e new.edges) (sym old_is) (put f)

    pub put_is : result ≡ Ok New →
        IsPut (get_or (map (λ r. r.edges) inner) e.hart []) e (get_or (map (λ r. r.edges) (set inner i new)) e.hart [])
    put_is f = subst (IsPut (get_or (map (λ r. r.edges) inner) e.hart []) e) (sym new_is) (put_in f)

    pub latest_is : All (λ y. y.at ≤ e.at) (get_or (map (λ r. r.edges) inner) e.hart []) →
        All (λ y. y.at ≤ e.at) (get_or (map (λ r. r.edges) (set inner i new)) e.hart [])
    latest_is last = go result refl
      where
        go : (o : Result Added Memory) → result ≡ o → All (λ y. y.at ≤ e.at) (get_or (map (λ r. r.edges) (set inner i new)) e.hart [])
        go (Ok New) f = rw new_is (all_put (λ y. y.at ≤ e.at) (get_or (map (λ r. r.edges) inner) e.hart []) e new.edges (put_in f) (le_refl e.at) last)
        go (Ok Implied) f = rw (all_stay (kept (λ g. let h = sym f ∙ g in cc))) last
        go (Err m) f = rw (all_stay (kept (λ g. let h = sym f ∙ g in cc))) last

    pub still_log : IsLog start (map (λ r. r.edges) (set inner i new))
    still_log = go result refl
      where
        go : (o : Result Added Memory) → result ≡ o → IsLog start (map (λ r. r.edges) (set inner i new))
        go (Ok New) f = subst (IsLog start) (sym rows_are) (log_after start (map (λ r. r.edges) inner) log e there new.edges (put_in f) other from more)
        go (Ok Implied) f = subst (IsLog start) (sym (all_stay (kept (λ g. let h = sym f ∙ g in cc)))) log
        go (Err m) f = subst (IsLog start) (sym (all_stay (kept (λ g. let h = sym f ∙ g in cc)))) log

    pub implied_is : (result ≡ Ok Implied) ↔ IsImplied (flat_map (map edge_as) (map (λ r. r.edges) inner)) (count_at start) (edge_as e)
    implied_is = (
      (λ f. implied_by start (map (λ r. r.edges) inner) log e (subst (λ l. SaysAsMuch l e) (sym old_is) (implied.0 f))),
      (λ f.
          elim (implying start (map (λ r. r.edges) inner) log e f) [
            | inl le ↦ absurd (omega arith)
            | inr says ↦ implied.1 (subst (λ l. SaysAsMuch l e) old_is says)
          ]),
    )

    pub enough_is : IfOk result
        (λ _. (all : List theory.Edge) → IsEnough (flat_map (map edge_as) (map (λ r. r.edges) inner)) all (count_at start) →
        IsEnough (flat_map (map edge_as) (map (λ r. r.edges) (set inner i new))) (all ++ edge_as e ∷ []) (count_at start))
    enough_is = go result refl
      where
        go : (o : Result Added Memory) → result ≡ o →
            IfOk o
            (λ _. (all : List theory.Edge) → IsEnough (flat_map (map edge_as) (map (λ r. r.edges) inner)) all (count_at start) →
            IsEnough (flat_map (map edge_as) (map (λ r. r.edges) (set inner i new))) (all ++ edge_as e ∷ []) (count_at start))
        go (Ok New) f =
            λ all enough.
            subst (λ rows. IsEnough (flat_map (map edge_as) rows) (all ++ edge_as e ∷ []) (count_at start)) (sym rows_are)
            (enough_after start (map (λ r. r.edges) inner) log e there new.edges (put_in f) other from
            (λ says. not_said result e (get_or inner i r).edges implied f (subst (λ l. SaysAsMuch l e) old_is says)) all enough)
        go (Ok Implied) f =
            λ all enough.
            subst (λ rows. IsEnough (flat_map (map edge_as) rows) (all ++ edge_as e ∷ []) (count_at start))
            (sym (all_stay (kept (λ g. let h = sym f ∙ g in cc))))
            (enough_implied start (map (λ r. r.edges) inner) log e all (implied_is.0 f) enough)
        go (Err m) f = tt

    pub order_is : IfOk result
        (λ _. (all : List theory.Edge) → IsEnough (flat_map (map edge_as) (map (λ r. r.edges) inner)) all (count_at start) →
        IsSameOrder (flat_map (map edge_as) (map (λ r. r.edges) (set inner i new))) (all ++ edge_as e ∷ []) (count_at start))
    order_is = go result enough_is
      where
        go : (o : Result Added Memory) →
            IfOk o
            (λ _. (all : List theory.Edge) → IsEnough (flat_map (map edge_as) (map (λ r. r.edges) inner)) all (count_at start) →
            IsEnough (flat_map (map edge_as) (map (λ r. r.edges) (set inner i new))) (all ++ edge_as e ∷ []) (count_at start)) →
            IfOk o
            (λ _. (all : List theory.Edge) → IsEnough (flat_map (map edge_as) (map (λ r. r.edges) inner)) all (count_at start) →
            IsSameOrder (flat_map (map edge_as) (map (λ r. r.edges) (set inner i new))) (all ++ edge_as e ∷ []) (count_at start))
        go (Ok x) all_enough =
            λ all enough.
            same_order (flat_map (map edge_as) (map (λ r. r.edges) (set inner i new))) (all ++ edge_as e ∷ []) (count_at start) (all_enough all enough)
        go (Err m) h = tt

-- rows without edges
pub no_edges : (rows : List EdgesOfOne) → AllByRecursion (λ r. r.edges ≡ []) rows → (h : ℕ) → get_or (map (λ r. r.edges) rows) h [] ≡ []
no_edges [] none h = refl
no_edges (r ∷ rows) none zero = none.0
no_edges (r ∷ rows) none (suc h) = no_edges rows none.1 h

-- nor have they any together
pub none_at_all : (rows : List EdgesOfOne) → AllByRecursion (λ r. r.edges ≡ []) rows → flat_map (map edge_as) (map (λ r. r.edges) rows) ≡ []
none_at_all [] none = refl
none_at_all (r ∷ rows) none = rw none.0 (none_at_all rows none.1)

-- they are those of a log
pub empty_log : (start : List ℕ) (rows : List EdgesOfOne) → length start ≤ HART_LIMIT → length rows ≡ HART_ROW →
    AllByRecursion (λ r. r.edges ≡ []) rows → IsLog start (map (λ r. r.edges) rows)
empty_log start rows few many none =
    record {
      harts = few;
      many = length-map rows (λ r. r.edges) ∙ many;
      own = λ hart. subst (All (IsOfHart start hart)) (sym (no_edges rows none hart)) (λ k d below. absurd (omega (arith, below)));
      later = λ hart. subst (All (IsLater start)) (sym (no_edges rows none hart)) (λ k d below. absurd (omega (arith, below)));
    }
