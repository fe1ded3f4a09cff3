-- Lowering counts by edges, until they are closed.
use Rattle.std.proofs.Common.{◌≡◌, inl, inr, ℕ, ◌+◌, ◌-◌, ◌<◌, ◌≤◌, List, Contains, map, set, length, get_or, refl, sym, ap, subst, arith, le_refl, le_trans}
use Rattle.std.proofs.Common.{◌∙◌, length-set, get_or-set_same, get_or-set_other}
use Rattle.std.specs.List.{AllWithin}
use Rattle.std.specs.List.Sorted.{IsPermutation, IsNonDecreasingBy}
use Rattle.std.proofs.lemmas.Bool.{cases_lt, cases_eq}
use Rattle.std.proofs.lemmas.List.{get_or-map, get_or_default, length-map}
use Rattle.std.proofs.lemmas.List.Sorted.{IsPermutation-map, IsPermutation-sym, Contains-permutation}
use Rattle.ft_types.specs.Counts.{count_at}
use Rattle.ft_types.specs.declared.names.TheConstants.{HART_LIMIT}
use Rattle.interleaving.specs.Lists as theory
use Rattle.interleaving.specs.Log.{Edge as EdgeOfTheory, IsClosed}
use Rattle.interleaving.specs.Cuts.{IsGreatest, IsLowering, lowered}
use Rattle.interleaving.proofs.Put.{put_same, put_other}
use Rattle.interleaving.proofs.Cuts.{lowering}
use Rattle.edge_log.specs.declared.Edge.{Edge}
use Rattle.edge_log.specs.EdgeLog.{edge_as}
use Rattle.closed_cut.specs.machinery.Lowering.{IsOf, AreOf, IsLoweredTo}

pub lowered_none : (edges : List Edge) (cut : List ℕ) → IsLoweredTo edges cut cut
lowered_none edges cut = record { harts = refl; below = λ h. le_refl (count_at cut h); keeps = λ other closed below. below }

pub lowered_on : (edges : List Edge) (a b c : List ℕ) → IsLoweredTo edges a b → IsLoweredTo edges b c → IsLoweredTo edges a c
lowered_on edges a b c ab bc =
    record {
      harts = bc.harts ∙ ab.harts;
      below = λ h. le_trans (bc.below h) (ab.below h);
      keeps = λ other closed below. bc.keeps other closed (ab.keeps other closed below);
    }

pub contains_map : (edges : List Edge) (e : Edge) → Contains edges e → Contains (map edge_as edges) (edge_as e)
contains_map edges e (k, below, is) = (
  k,
  (let l : length (map edge_as edges) ≡ length edges = length-map edges edge_as in omega arith),
  get_or-map edge_as edges k e (edge_as e) below ∙
      ap edge_as is,
)

-- an edge of the theory's list, with its place
pub record Found (edges : List Edge) (x : EdgeOfTheory) : Type 0 where
  pub place : ℕ
  pub edge : Edge
  pub below : place < length edges
  pub here : edge ≡ get_or edges place edge
  pub is : edge_as edge ≡ x

pub found : (edges : List Edge) (x : EdgeOfTheory) → Contains (map edge_as edges) x → Found edges x
found edges x (k, less, is) =
    record { place = k; edge = e; below = below; here = get_or_same; is = sym (get_or-map edge_as edges k zero x below) ∙ is }
  where
    zero : Edge
    zero = record { hart = 0; at = 0; other = 0; after = 0 }

    e : Edge
    e = get_or edges k zero

    below : k < length edges
    below = let l : length (map edge_as edges) ≡ length edges = length-map edges edge_as in omega arith

    get_or_same : e ≡ get_or edges k e
    get_or_same = get_or_default edges k zero e below

module _ (edges : List Edge) (cut : List ℕ) (e : Edge) (has : Contains edges e) (hart : e.hart < length cut) (step : e.at < count_at cut e.hart)
    (short : count_at cut e.other < e.after) where
  low : IsLowering (map edge_as edges) (count_at cut) (edge_as e)
  low = lowering (map edge_as edges) (count_at cut) (edge_as e) (contains_map edges e has) (step, short)

  same : (h : ℕ) → count_at (set cut e.hart e.at) h ≡ lowered (count_at cut) (edge_as e) h
  same h =
      elim (cases_eq h e.hart) [
        | inl is ↦
            ap (count_at (set cut e.hart e.at)) is ∙
            (get_or-set_same cut e.hart e.at 0 hart ∙ sym (put_same (count_at cut) e.hart h e.at (sym is)))
        | inr ne ↦ get_or-set_other cut e.hart h e.at 0 ne ∙ sym (put_other (count_at cut) e.hart h e.at (λ x. ne (sym x)))
      ]

  -- one hart is stopped in front of the step of an edge that is not met
  pub lowered_by : IsLoweredTo edges cut (set cut e.hart e.at)
  lowered_by =
      record {
        harts = length-set cut e.hart e.at;
        below =
            λ h.
            let s : count_at (set cut e.hart e.at) h ≡ lowered (count_at cut) (edge_as e) h = same h in
            let b : lowered (count_at cut) (edge_as e) h ≤ count_at cut h = low.below h in omega arith;
        keeps =
            λ other closed under h.
            let s : count_at (set cut e.hart e.at) h ≡ lowered (count_at cut) (edge_as e) h = same h in
            let k : other h ≤ lowered (count_at cut) (edge_as e) h = low.keeps other closed under h in omega arith;
      }

-- no count is above the step of an edge that waits for the hart and stands from here up to there
abbrev pub AreStopped : List Edge → List ℕ → ℕ → ℕ → ℕ → Type 0
AreStopped edges cut hart from to = AllWithin (λ e. e.other ≡ hart → count_at cut e.hart ≤ e.at) edges from to

pub stopped_below : (edges : List Edge) (cut lower : List ℕ) (hart from to : ℕ) → theory.IsWithin (count_at lower) (count_at cut) →
    AreStopped edges cut hart from to → AreStopped edges lower hart from to
stopped_below edges cut lower hart from to within stopped k d a b other =
    le_trans (within (get_or edges k d).hart) (stopped k d a b other)

pub stopped_join : (edges : List Edge) (cut : List ℕ) (hart from mid to : ℕ) → AreStopped edges cut hart from mid → AreStopped edges cut hart mid to →
    AreStopped edges cut hart from to
stopped_join edges cut hart from mid to low high k d a b other =
    elim (cases_lt k mid) [ inl less ↦ low k d a less other | inr more ↦ high k d more b other ]

pub stopped_one : (edges : List Edge) (cut : List ℕ) (hart place : ℕ) (e : Edge) → place < length edges → e ≡ get_or edges place e →
    (e.other ≡ hart → count_at cut e.hart ≤ e.at) → AreStopped edges cut hart place (place + 1)
stopped_one edges cut hart place e below here stop k d a b other =
    let same : k ≡ place = omega arith in
    let is : e ≡ get_or edges k d = here ∙ (get_or_default edges place e d below ∙ ap (λ n. get_or edges n d) (sym same)) in
    subst (λ e. count_at cut e.hart ≤ e.at) is (stop (ap (λ e. e.other) is ∙ other))

-- one more edge, at the lower counts
pub stopped_step : (edges : List Edge) (old new : List ℕ) (hart place to : ℕ) (e : Edge) → theory.IsWithin (count_at new) (count_at old) → 0 < place →
    place ≤ length edges → e ≡ get_or edges (place - 1) e → (e.other ≡ hart → count_at new e.hart ≤ e.at) → AreStopped edges old hart place to →
    AreStopped edges new hart (place - 1) to
stopped_step edges old new hart place to e within some long here stop stopped =
    stopped_join edges new hart (place - 1) place to
    (λ k d a b. stopped_one edges new hart (place - 1) e (omega arith) here stop k d a (omega arith))
    (stopped_below edges old new hart place to within stopped)

-- where the last edge is met, so is each before it
pub met_below : (edges : List Edge) (count end : ℕ) (e : Edge) → IsNonDecreasingBy (λ e. e.after) edges → 0 < end → end ≤ length edges →
    e ≡ get_or edges (end - 1) e → e.after ≤ count → AllWithin (λ e. e.after ≤ count) edges 0 end
met_below edges count end e sorted some long here le k d a b =
    let last : (get_or edges k d).after ≤ (get_or edges (end - 1) d).after = sorted k (end - 1) d (omega arith) (omega arith) in
    let is : e ≡ get_or edges (end - 1) d = here ∙ get_or_default edges (end - 1) e d (omega arith) in
    let same : e.after ≡ (get_or edges (end - 1) d).after = ap (λ e. e.after) is in omega arith

-- one end went down
module _ (edges : List Edge) (ends : List ℕ) (at end : ℕ) (there : at < length ends) where
  pub ends_after : end ≤ get_or ends at 0 → ((h : ℕ) → get_or ends h 0 ≤ length edges) → (h : ℕ) → get_or (set ends at end) h 0 ≤ length edges
  ends_after less within h =
      elim (cases_eq h at) [
        | inl same ↦ rw (same, get_or-set_same ends at end 0 there) (le_trans less (within at))
        | inr ne ↦ rw (get_or-set_other ends at h end 0 ne) (within h)
      ]

  pub stopped_after : (old new : List ℕ) → theory.IsWithin (count_at new) (count_at old) → AreStopped edges new at end (get_or ends at 0) →
      ((h : ℕ) → h < HART_LIMIT → AreStopped edges old h (get_or ends h 0) (length edges)) →
      (h : ℕ) → h < HART_LIMIT → AreStopped edges new h (get_or (set ends at end) h 0) (length edges)
  stopped_after old new within fell stopped h less =
      elim (cases_eq h at) [
        | inl same ↦
            subst (λ n. AreStopped edges new n (get_or (set ends at end) n 0) (length edges)) (sym same)
            (rw (get_or-set_same ends at end 0 there)
            (stopped_join edges new at end (get_or ends at 0) (length edges) fell
            (stopped_below edges old new at (get_or ends at 0) (length edges) within (stopped at (subst (λ n. n < HART_LIMIT) same less)))))
        | inr ne ↦
            rw (get_or-set_other ends at h end 0 ne) (stopped_below edges old new h (get_or ends h 0) (length edges) within (stopped h less))
      ]

-- where each edge was stopped or is met, the counts are closed
pub closed_after : (edges : List Edge) (ends cut : List ℕ) → AreOf (length cut) edges → length cut ≤ HART_LIMIT →
    ((h : ℕ) → h < HART_LIMIT → AreStopped edges cut h (get_or ends h 0) (length edges)) →
    ((h : ℕ) → h < length cut → AllWithin (λ e. e.after ≤ count_at cut h) edges 0 (get_or ends h 0)) →
    IsClosed (map edge_as edges) (count_at cut)
closed_after edges ends cut are limit stopped met x is_edge below =
    subst (λ (x : EdgeOfTheory). x.count ≤ count_at cut x.other) f.is
    (elim (cases_lt f.place (get_or ends f.edge.other 0)) [
      | inl before ↦ subst (λ (e : Edge). e.after ≤ count_at cut f.edge.other) (sym f.here) (met f.edge.other own.other f.place f.edge (omega arith) before)
      | inr behind ↦
          let stop : (get_or edges f.place f.edge).other ≡ f.edge.other → count_at cut (get_or edges f.place f.edge).hart ≤ (get_or edges f.place f.edge).at =
          stopped f.edge.other (omega (arith, own.other, limit)) f.place f.edge behind f.below in
          let s : count_at cut f.edge.hart ≤ f.edge.at = subst (λ (e : Edge). count_at cut e.hart ≤ e.at) (sym f.here)
          (stop (sym (ap (λ (e : Edge). e.other) f.here))) in
          let l : f.edge.at < count_at cut f.edge.hart = subst (λ (x : EdgeOfTheory). x.step < count_at cut x.hart) (sym f.is) below in
          absurd (omega arith)
    ])
  where
    f : Found edges x
    f = found edges x is_edge

    own : IsOf (length cut) f.edge
    own = subst (IsOf (length cut)) (sym f.here) (are f.place f.edge f.below)

-- the greatest is the same for the same edges in another order
pub greatest_of_sorted : (edges sorted : List Edge) (bound cut : ℕ → ℕ) → IsPermutation edges sorted → IsGreatest (map edge_as sorted) bound cut →
    IsGreatest (map edge_as edges) bound cut
greatest_of_sorted edges sorted bound cut moved g =
    record {
      closed = λ e is_edge below. g.closed e (there e is_edge) below;
      below = g.below;
      greatest = λ other closed below. g.greatest other (λ e is_edge under. closed e (back e is_edge) under) below;
    }
  where
    there : (e : EdgeOfTheory) → Contains (map edge_as edges) e → Contains (map edge_as sorted) e
    there e = Contains-permutation (map edge_as edges) (map edge_as sorted) e (IsPermutation-map edge_as edges sorted moved)

    back : (e : EdgeOfTheory) → Contains (map edge_as sorted) e → Contains (map edge_as edges) e
    back e = Contains-permutation (map edge_as sorted) (map edge_as edges) e (IsPermutation-map edge_as sorted edges (IsPermutation-sym edges sorted moved))
