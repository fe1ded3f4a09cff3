-- Edges that are added one after another to one row.
use Rattle.std.proofs.Common.{◌≡◌, ◌≢◌, ℕ, ◌<◌, ◌≤◌, List, [], ◌∷◌, ◌++◌, length, get_or, set, map, refl, sym, ap, subst, ◌∙◌, inl, inr, le_refl, All}
use Rattle.std.proofs.Common.{Contains, Result, Ok, Err, OnOk, OnErr, arith, append_assoc, append-nil, length-set, get_or-set_same, get_or-set_other}
use Rattle.std.specs.List.{flat_map}
use Rattle.std.proofs.lemmas.Bool.{cases_lt}
use Rattle.std.proofs.lemmas.List.{set-get_or, set-set, map-set, length-map}
use Rattle.std.proofs.lemmas.List.Elements.{All-head, All-tail}
use Rattle.ft_types.specs.Counts.{count_at}
use Rattle.ft_types.specs.declared.names.TheConstants.{HART_LIMIT, HART_ROW}
use Rattle.interleaving.specs.Log as theory
use Rattle.interleaving.specs.Cuts.{IsImplied, IsEnough}
use Rattle.ft_types.specs.declared.errors.Memory.{Memory}
use Rattle.edge_log.specs.declared.Edge.{Edge}
use Rattle.edge_log.specs.Rows.{EdgesOfOne, IsPut, IsSaid, Said, Put, TakesAll}
use Rattle.edge_log.specs.EdgeLog.{Edges, edge_as, IsOfHart, MayAdd, IsLog, IsPutInLog, IsAdded, Stays, Enters, AreAdded}
use Rattle.edge_log.proofs.Logs.{edges_at_map, implied_by, implying, starts_closed, enough_implied, log_after, enough_after}

-- a log of these rows
abbrev log_of : List ℕ → List (List Edge) → Edges
log_of start rows = record { start = start; rows = rows }

-- what holds once the edges were added
pub record IsSettled (start : List ℕ) (old : List (List Edge)) (edges : List Edge) (new : List (List Edge)) : Type 0 where
  pub log : IsLog start new
  pub added : AreAdded (log_of start old) edges (log_of start new)
  pub enough :
      (all : List theory.Edge) → IsEnough (flat_map (map edge_as) old) all (count_at start) →
      IsEnough (flat_map (map edge_as) new) (all ++ map edge_as edges) (count_at start)

module _ (start : List ℕ) where
  settled_none : (rows : List (List Edge)) → IsLog start rows → IsSettled start rows [] rows
  settled_none rows log =
      record {
        log = log;
        added = refl;
        enough = λ all enough. subst (λ l. IsEnough (flat_map (map edge_as) rows) l (count_at start)) (sym (append-nil all)) enough;
      }

  settled_more : (rows now new : List (List Edge)) (e : Edge) (edges : List Edge) → IsAdded (log_of start rows) e (log_of start now) →
      ((all : List theory.Edge) → IsEnough (flat_map (map edge_as) rows) all (count_at start) →
      IsEnough (flat_map (map edge_as) now) (all ++ edge_as e ∷ []) (count_at start)) →
      IsSettled start now edges new → IsSettled start rows (e ∷ edges) new
  settled_more rows now new e edges one enough rest =
      record {
        log = rest.log;
        added = (log_of start now, one, rest.added);
        enough =
            λ all was.
            subst (λ l. IsEnough (flat_map (map edge_as) new) l (count_at start)) (append_assoc all (edge_as e ∷ []) (map edge_as edges))
            (rest.enough (all ++ edge_as e ∷ []) (enough all was));
      }

  said_implied : (rows : List (List Edge)) → IsLog start rows → (e : Edge) → IsSaid start (get_or rows e.hart []) e →
      IsImplied (flat_map (map edge_as) rows) (count_at start) (edge_as e)
  said_implied rows log e (inl le) = inl le
  said_implied rows log e (inr says) = implied_by start rows log e says

  put_in_log : (rows : List (List Edge)) (e : Edge) (row : List Edge) → e.hart < length rows → IsPut (get_or rows e.hart []) e row →
      IsPutInLog (log_of start rows) e (log_of start (set rows e.hart row))
  put_in_log rows e row small put =
      record {
        start = refl;
        row = subst (IsPut (get_or rows e.hart []) e) (sym (get_or-set_same rows e.hart row [] small)) put;
        others = λ h ne. get_or-set_other rows e.hart h row [] ne;
      }

  pub settled : (rows : List (List Edge)) → IsLog start rows → (hart : ℕ) → hart < length rows → (edges : List Edge) → All (IsOfHart start hart) edges →
      (row : List Edge) → TakesAll start (get_or rows hart []) edges row → IsSettled start rows edges (set rows hart row)
  settled rows log hart small [] own row same =
      subst (IsSettled start rows []) (sym (ap (set rows hart) same ∙ set-get_or rows hart [])) (settled_none rows log)
  settled rows log hart small (e ∷ edges) own row (now, Said said same, rest) =
      let of = All-head (IsOfHart start hart) e edges own in
      let implied : IsImplied (flat_map (map edge_as) rows) (count_at start) (edge_as e) =
      said_implied rows log e (subst (λ h. IsSaid start (get_or rows h []) e) (sym of.own) said) in
      settled_more rows rows (set rows hart row) e edges (Stays implied refl) (λ all. enough_implied start rows log e all implied)
      (settled rows log hart small edges (All-tail (IsOfHart start hart) e edges own) row (subst (λ l. TakesAll start l edges row) same rest))
  settled rows log hart small (e ∷ edges) own row (now, Put not put, rest) =
      let of = All-head (IsOfHart start hart) e edges own in
      let first = entered rows log e now (subst (λ h. h < length rows) (sym of.own) small) of.other (subst (λ h. count_at start h ≤ e.at)
      (sym of.own) of.from_start)
      (λ said. not (subst (λ h. IsSaid start (get_or rows h []) e) of.own said)) (subst (λ h. IsPut (get_or rows h []) e now) (sym of.own) put) in
      settled_more rows (set rows e.hart now) (set rows hart row) e edges first.0 first.1
      (subst (IsSettled start (set rows e.hart now) edges) (ap (λ h. set (set rows h now) hart row) of.own ∙ set-set rows hart now row)
      (settled (set rows e.hart now) first.2 hart (subst (λ n. hart < n) (sym (length-set rows e.hart now)) small) edges
      (All-tail (IsOfHart start hart) e edges own) row
      (subst (λ l. TakesAll start l edges row)
      (sym (ap (λ h. get_or (set rows h now) hart []) of.own ∙ get_or-set_same rows hart now [] small)) rest)))
    where
      entered : (rows : List (List Edge)) → IsLog start rows → (e : Edge) (now : List Edge) → e.hart < length rows → e.other < length start →
          count_at start e.hart ≤ e.at → (IsSaid start (get_or rows e.hart []) e → ⊥) → IsPut (get_or rows e.hart []) e now →
          IsAdded (log_of start rows) e (log_of start (set rows e.hart now)) ×
          ((all : List theory.Edge) → IsEnough (flat_map (map edge_as) rows) all (count_at start) →
          IsEnough (flat_map (map edge_as) (set rows e.hart now)) (all ++ edge_as e ∷ []) (count_at start)) ×
          IsLog start (set rows e.hart now)
      entered rows log e now small other from not put = (
        Enters (λ implied. not (implying start rows log e implied)) (put_in_log rows e now small put),
        (λ all. enough_after start rows log e small now put other from (λ says. not (inr says)) all),
        log_after start rows log e small now put other from (elim (cases_lt (count_at start e.other) e.after) [
          | inl less ↦ less
          | inr le ↦ absurd
              (not (inl le))
        ]),
      )

  -- an edge of the new log was in the old one, or was added
  pub settled_among : (old new : List (List Edge)) (edges : List Edge) → IsLog start old → IsSettled start old edges new → (x : theory.Edge) →
      Contains (flat_map (map edge_as) new) x → Contains (flat_map (map edge_as) old ++ map edge_as edges) x
  settled_among old new edges log settled x is_in = (settled.enough (flat_map (map edge_as) old) itself).among x is_in
    where
      itself : IsEnough (flat_map (map edge_as) old) (flat_map (map edge_as) old) (count_at start)
      itself =
          record {
            among = λ x is_in. is_in;
            implied = λ x is_in. inr (x, is_in, refl, refl, le_refl x.step, le_refl x.count);
            start_closed = starts_closed start old log;
          }

-- each edge that may be added is of its hart
pub all_own : (log : Edges) (hart : ℕ) (edges : List Edge) → All (λ e. e.hart ≡ hart) edges → All (λ e. MayAdd log e) edges →
    All (IsOfHart log.start hart) edges
all_own log hart edges own each k d below =
    let may = each k d below in
    record {
      own = own k d below;
      other = may.other;
      from_start = subst (λ h. count_at log.start h ≤ (get_or edges k d).at) (own k d below) may.from_start;
    }

-- a row of the log, and the same after edges were added
module _ (start : List ℕ) (inner : List EdgesOfOne) (log : IsLog start (map (λ r. r.edges) inner)) (i : ℕ) (small : i < HART_LIMIT) (r new : EdgesOfOne) where
  rows_are : map (λ r. r.edges) (set inner i new) ≡ set (map (λ r. r.edges) inner) i new.edges
  rows_are = map-set (λ r. r.edges) inner i new

  there : i < length (map (λ r. r.edges) inner)
  there = let h : length (map (λ r. r.edges) inner) ≡ HART_ROW = log.many in omega arith

  row_is : get_or (map (λ r. r.edges) inner) i [] ≡ (get_or inner i r).edges
  row_is = edges_at_map inner i r (omega (arith, there, length-map inner (λ r. r.edges)))

  pub other_rows : (h : ℕ) → h ≢ i → get_or (map (λ r. r.edges) (set inner i new)) h [] ≡ get_or (map (λ r. r.edges) inner) h []
  other_rows h ne = ap (λ rows. get_or rows h []) rows_are ∙ get_or-set_other (map (λ r. r.edges) inner) i h new.edges [] ne

  pub row_settled : (edges : List Edge) → All (IsOfHart start i) edges → TakesAll start (get_or inner i r).edges edges new.edges →
      IsSettled start (map (λ r. r.edges) inner) edges (map (λ r. r.edges) (set inner i new))
  row_settled edges own takes =
      subst (IsSettled start (map (λ r. r.edges) inner) edges) (sym rows_are)
      (settled start (map (λ r. r.edges) inner) log i there edges own new.edges (subst (λ l. TakesAll start l edges new.edges) (sym row_is) takes))

  -- where its edges stay, all do
  pub same_left : new.edges ≡ (get_or inner i r).edges → map (λ r. r.edges) (set inner i new) ≡ map (λ r. r.edges) inner
  same_left kept = rows_are ∙ (ap (set (map (λ r. r.edges) inner) i) (kept ∙ sym row_is) ∙ set-get_or (map (λ r. r.edges) inner) i [])

  pub log_kept : (result : Result (Unit {0}) Memory) (edges : List Edge) → All (IsOfHart start i) edges →
      OnOk result (TakesAll start (get_or inner i r).edges edges new.edges) → OnErr result (new.edges ≡ (get_or inner i r).edges) →
      IsLog start (map (λ r. r.edges) (set inner i new))
  log_kept (Ok x) edges own takes kept = (row_settled edges own takes).log
  log_kept (Err m) edges own takes kept =
      subst (IsLog start) (sym (same_left kept)) log
