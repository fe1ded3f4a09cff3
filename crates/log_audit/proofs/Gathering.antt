-- All that the edges of a hart's next step bring.
use Rattle.std.proofs.Common.{◌≡◌, inl, inr, ℕ, ◌-◌, ◌<◌, ◌≤◌, max, List, [], ◌∷◌, ◌++◌, length, slice_index, slice_set}
use Rattle.std.proofs.Common.{refl, sym, ap, subst, arith, le_trans, le_refl, Contains}
use Rattle.std.proofs.lemmas.Bool.{cases_lt}
use Rattle.std.proofs.lemmas.List.{length-replicate}
use Rattle.std.proofs.lemmas.List.Elements.{Contains-append_cases, Contains-append_left, Contains-push}
use Rattle.ft_types.specs.Counts.{greater}
use Rattle.interleaving.specs.Log.{Edge, Place, Before, Own, Across, Through}
use Rattle.ft_types.specs.declared.names.TheConstants.{HART_LIMIT, HART_ROW}
use Rattle.edge_log.specs.declared.Edge.{Edge as LogEdge}
use Rattle.edge_log.specs.EdgeLog.{edge_as}
use Rattle.log_audit.specs.declared.befores.Before.{Before as Entry}
use Rattle.log_audit.specs.machinery.Befores.{row_of, no_steps, IsLatest, IsBrought, Nothing, More, AreBrought, NoneYet, Next}
use Rattle.log_audit.specs.machinery.Covered.{IsKnown}
use Rattle.log_audit.proofs.Latest.{none_at, none_in, in_one, latest_covers, latest_is, IsGreatest, greatest, many_all}

abbrev pub place_at : ℕ → ℕ → Place
place_at hart step = record { hart = hart; step = step }

-- what comes before a step comes before the later ones of its hart
pub before_later : (edges : List Edge) (a : Place) (hart n m : ℕ) → n ≤ m → Before edges a (place_at hart n) → Before edges a (place_at hart m)
before_later edges a hart n m le before = elim (cases_lt n m) [
  | inl less ↦ Through before (Own refl less)
  | inr more ↦
      let same : n ≡ m = omega (arith, le, more) in subst (λ (k : ℕ). Before edges a (place_at hart k)) same before
]

module _ (edges : List Edge) (now : ℕ → ℕ) (rows : List (List Entry)) (known : IsKnown edges now now rows)
    (wide : (h : ℕ) (b : Entry) → Contains (row_of rows h) b → length b.steps ≡ HART_ROW) where
  -- what comes before a step, and all that comes before that
  pub record IsPast (hart count : ℕ) (steps : List ℕ) : Type 0 where
    pub many : length steps ≡ HART_ROW
    pub bound : (g : ℕ) → slice_index steps g ≤ now g
    pub sound : (g x : ℕ) → x < slice_index steps g → (n : ℕ) × (n ≤ count) × Before edges (place_at g x) (place_at hart n)
    pub closed : (other x : ℕ) → x < slice_index steps other → (a : Entry) → Contains (row_of rows other) a → a.since ≤ x → (g : ℕ) →
        slice_index a.steps g ≤ slice_index steps g

  past_none : (hart count : ℕ) → IsPast hart count no_steps
  past_none hart count = record {
    many = length-replicate {A = ℕ} HART_ROW 0;
    bound = λ g. let none = none_at g in omega (arith, none);
    sound = λ g x less. let none = none_at g in absurd (omega (arith, none, less));
    closed = λ other x less. let none = none_at other in absurd (omega (arith, none, less));
  }

  past_entry : (hart count : ℕ) (b : Entry) → Contains (row_of rows hart) b → b.since ≤ count → IsPast hart count b.steps
  past_entry hart count b there early = record {
    many = wide hart b there;
    bound = known.bound hart b there;
    sound = λ g x less. (b.since, early, known.sound hart b there g x less);
    closed = known.closed hart b there;
  }

  latest_past : (hart count : ℕ) (steps : List ℕ) → IsLatest (row_of rows hart) count steps → IsPast hart count steps
  latest_past hart count steps latest = elim (latest_is (row_of rows hart) count steps latest) [
    | inl is ↦ subst (λ (all : List ℕ). IsPast hart count all) (sym is) (past_none hart count)
    | inr entry ↦
        let (b, there, early, is) = entry in subst (λ (all : List ℕ). IsPast hart count all) (sym is) (past_entry hart count b there early)
  ]

  module _ (hart : ℕ) (first : List ℕ) (latest_first : IsLatest (row_of rows hart) (now hart) first) where
    -- what was gathered for the hart's next step from these edges
    pub record IsGathered (done : List LogEdge) (steps : List ℕ) : Type 0 where
      pub past : IsPast hart (now hart) steps
      pub own : (g : ℕ) → slice_index first g ≤ slice_index steps g
      pub named : (e : LogEdge) → Contains done e → e.after ≤ slice_index steps e.other

    -- an edge of the hart's next step, which is met
    pub record IsNext (e : LogEdge) : Type 0 where
      pub there : Contains edges (edge_as e)
      pub of_hart : e.hart ≡ hart
      pub at : e.at ≡ now hart
      pub other : e.other < HART_LIMIT
      pub met : e.after ≤ now e.other

    module _ (e : LogEdge) (done : List LogEdge) (steps all : List ℕ) (next : IsNext e) (got : IsGathered done steps) where
      named_too : (all : List ℕ) → ((g : ℕ) → slice_index steps g ≤ slice_index all g) → e.after ≤ slice_index all e.other →
          (x : LogEdge) → Contains (done ++ e ∷ []) x → x.after ≤ slice_index all x.other
      named_too all more enough x there = elim (Contains-append_cases done (e ∷ []) x there) [
        | inl old ↦ le_trans (got.named x old) (more x.other)
        | inr new ↦ subst (λ (y : LogEdge). y.after ≤ slice_index all y.other) (sym (in_one x e new)) enough
      ]

      gather_none : e.after ≡ 0 → IsGathered (done ++ e ∷ []) steps
      gather_none none = record {
        past = got.past;
        own = got.own;
        named = named_too steps (λ g. le_refl (slice_index steps g)) (omega (arith, none));
      }

      module _ (below : List ℕ) (some : 0 < e.after) (latest : IsLatest (row_of rows e.other) (e.after - 1) below) where
        p : IsPast e.other (e.after - 1) below
        p = latest_past e.other (e.after - 1) below latest

        abbrev grown : List ℕ
        grown = slice_set (greater steps below) e.other (max (slice_index (greater steps below) e.other) e.after)

        r : IsGreatest steps below grown e.other e.after
        r = greatest steps below e.other e.after got.past.many p.many next.other

        across : (g n : ℕ) → g ≡ e.other → n < e.after → Before edges (place_at g n) (place_at hart (now hart))
        across g n same less =
            let at : e.at ≡ now hart = next.at in Across (edge_as e) next.there same less (sym next.of_hart) (omega (arith, at))

        grown_bound : (g : ℕ) → slice_index grown g ≤ now g
        grown_bound g = elim (cases_lt (now g) (slice_index grown g)) [
          | inl over ↦ elim (r.no_more g (now g) over) [
            | inl in_steps ↦ let le = got.past.bound g in absurd (omega (arith, in_steps, le))
            | inr rest ↦ elim rest [
              | inl in_below ↦ let le = p.bound g in absurd (omega (arith, in_below, le))
              | inr in_edge ↦
                  let same : now g ≡ now e.other = ap now in_edge.0 in
                  let less = in_edge.1 in
                  let met = next.met in absurd (omega (arith, same, less, met))
            ]
          ]
          | inr fine ↦ fine
        ]

        grown_sound : (g x : ℕ) → x < slice_index grown g → (n : ℕ) × (n ≤ now hart) × Before edges (place_at g x) (place_at hart n)
        grown_sound g x less = elim (r.no_more g x less) [
          | inl in_steps ↦ got.past.sound g x in_steps
          | inr rest ↦ elim rest [
            | inl in_below ↦
                let (n, early, before) = p.sound g x in_below in
                (now hart, le_refl (now hart), Through before (across e.other n refl (omega (arith, early, some))))
            | inr in_edge ↦ (now hart, le_refl (now hart), across g x in_edge.0 in_edge.1)
          ]
        ]

        grown_closed : (other x : ℕ) → x < slice_index grown other → (a : Entry) → Contains (row_of rows other) a → a.since ≤ x → (g : ℕ) →
            slice_index a.steps g ≤ slice_index grown g
        grown_closed other x less a there early g = elim (r.no_more other x less) [
          | inl in_steps ↦ le_trans (got.past.closed other x in_steps a there early g) (r.from_steps g)
          | inr rest ↦ elim rest [
            | inl in_below ↦ le_trans (p.closed other x in_below a there early g) (r.from_below g)
            | inr in_edge ↦
                let at = in_edge.1 in
                le_trans
                (latest_covers (row_of rows e.other) (e.after - 1) below (known.growing e.other) latest a
                (subst (λ (h : ℕ). Contains (row_of rows h) a) in_edge.0 there) (omega (arith, at, early)) g)
                (r.from_below g)
          ]
        ]

        gather_some : IsGathered (done ++ e ∷ []) grown
        gather_some = record {
          past = record {
            many = many_all steps below e.other e.after got.past.many p.many next.other;
            bound = grown_bound;
            sound = grown_sound;
            closed = grown_closed;
          };
          own = λ g. le_trans (got.own g) (r.from_steps g);
          named = named_too grown r.from_steps r.named;
        }

      gather_one : IsBrought rows steps e all → IsGathered (done ++ e ∷ []) all
      gather_one (Nothing none same) = subst (λ (s : List ℕ). IsGathered (done ++ e ∷ []) s) (sym same) (gather_none none)
      gather_one (More below some latest is) = subst (λ (s : List ℕ). IsGathered (done ++ e ∷ []) s) (sym is) (gather_some below some latest)

    pub gather : (done : List LogEdge) (steps : List ℕ) → AreBrought rows first done steps →
        ((e : LogEdge) → Contains done e → IsNext e) → IsGathered done steps
    gather done steps NoneYet next = record {
      past = latest_past hart (now hart) first latest_first;
      own = λ g. le_refl (slice_index first g);
      named = λ e there. absurd (none_in [] e refl there);
    }
    gather done steps (Next {edges = before} {steps = sofar} e all brought one) next =
        gather_one e before sofar all (next e (Contains-push before e))
        (gather before sofar brought (λ x there. next x (Contains-append_left before (e ∷ []) x there))) one
