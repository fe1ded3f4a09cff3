-- Edges from some counts on: one more, which the counts meet, or which is added.
use Rattle.std.proofs.Common.{◌≡◌, inl, inr, ℕ, ◌<◌, ◌≤◌, List, [], ◌∷◌, ◌++◌, Contains, refl, sym, subst, ◌∙◌, arith, le_refl, le_trans}
use Rattle.std.proofs.lemmas.List.Elements.{Contains-append_cases, Contains-append_left, Contains-append_right}
use Rattle.interleaving.specs.Lists.{IsWithin}
use Rattle.interleaving.specs.Log.{Edge, IsClosed}
use Rattle.interleaving.specs.Cuts.{IsEnough, IsImplied}
use Rattle.interleaving.proofs.Cuts.{here_or_later}
use Rattle.ft_types.specs.Counts.{count_at}
use Rattle.edge_log.specs.declared.Edge.{Edge as OwnedEdge}
use Rattle.edge_log.specs.EdgeLog.{Edges, edge_as, edges_of, start_of}

-- what holds of one edge holds of those of a list of one
of_one : (P : Edge → Type 0) (e x : Edge) → Contains (e ∷ []) x → P e → P x
of_one P e x has holds =
    elim (here_or_later e [] x has) [ inl same ↦ subst P same holds | inr (k, below, at) ↦ absurd (omega (arith, below)) ]

-- one that the counts meet
pub enough_met : (met : ℕ → ℕ) (few all : List Edge) (e : Edge) → e.count ≤ met e.other → IsEnough few all met → IsEnough few (all ++ e ∷ []) met
enough_met met few all e le was =
    record {
      among = λ x h. Contains-append_left all (e ∷ []) x (was.among x h);
      implied =
          λ x h.
          elim (Contains-append_cases all (e ∷ []) x h) [
            | inl before ↦ was.implied x before
            | inr one ↦ of_one (IsImplied few met) e x one (inl le)
          ];
      start_closed = was.start_closed;
    }

-- edges that are closed at a start are enough for themselves
own : (few : List Edge) (start : ℕ → ℕ) → IsClosed few start → IsEnough few few start
own few start closed =
    record { among = λ x h. h; implied = λ x h. inr (x, h, refl, refl, le_refl x.step, le_refl x.count); start_closed = closed }

module _ (start met : ℕ → ℕ) (low : IsWithin start met) (few new : List Edge) (e : Edge) (closed : IsClosed few start)
    (adds : (all : List Edge) → IsEnough few all start → IsEnough new (all ++ e ∷ []) start) where
  added : IsEnough new (few ++ e ∷ []) start
  added = adds few (own few start closed)

  pub closed_on : IsClosed new start
  closed_on = added.start_closed

  -- what implies an edge does so from later counts on
  by_new : (x : Edge) → IsImplied new start x → IsImplied new met x
  by_new x (inl le) = let up = low x.other in inl (omega (arith, le, up))
  by_new x (inr by) = inr by

  through : (x : Edge) → IsImplied few met x → IsImplied new met x
  through x (inl le) = inl le
  through x (inr (by, there, hart, other, step, count)) =
      elim (by_new by (added.implied by (Contains-append_left few (e ∷ []) by there))) [
        | inl le ↦ inl (le_trans count (subst (λ (k : ℕ). by.count ≤ met k) other le))
        | inr (y, here, own_hart, to, no_later, much) ↦ inr (y, here, own_hart ∙ hart, to ∙ other, le_trans no_later step, le_trans count much)
      ]

  -- one that was added, of a step that the counts have not come past
  pub enough_added : (all : List Edge) → met e.hart ≤ e.step → IsEnough few all met → IsEnough new (all ++ e ∷ []) met
  enough_added all late was =
      record {
        among =
            λ x h.
            elim (Contains-append_cases few (e ∷ []) x (added.among x h)) [
              | inl before ↦ Contains-append_left all (e ∷ []) x (was.among x before)
              | inr one ↦ Contains-append_right all (e ∷ []) x one
            ];
        implied =
            λ x h.
            elim (Contains-append_cases all (e ∷ []) x h) [
              | inl before ↦ through x (was.implied x before)
              | inr one ↦ by_new x (added.implied x (Contains-append_right few (e ∷ []) x one))
            ];
        start_closed =
            λ x h less.
            elim (Contains-append_cases few (e ∷ []) x (added.among x h)) [
              | inl before ↦ was.start_closed x before less
              | inr one ↦ let no : met x.hart ≤ x.step = of_one (λ y. met y.hart ≤ y.step) e x one late in absurd (omega (arith, no, less))
            ];
      }

-- ---- logs

module _ (met : ℕ → ℕ) (old now new : Edges) (e : OwnedEdge) (low : IsWithin (start_of old) met) (started : now.start ≡ old.start) (begun : new.start ≡ now.start)
    (closed : IsClosed (edges_of now) (start_of old))
    (adds : (all : List Edge) → IsEnough (edges_of now) all (start_of now) → IsEnough (edges_of new) (all ++ edge_as e ∷ []) (start_of new)) where
  adds_there : (all : List Edge) → IsEnough (edges_of now) all (start_of old) → IsEnough (edges_of new) (all ++ edge_as e ∷ []) (start_of old)
  adds_there all was =
      subst (λ (s : List ℕ). IsEnough (edges_of new) (all ++ edge_as e ∷ []) (count_at s)) (begun ∙ started)
      (adds all (subst (λ (s : List ℕ). IsEnough (edges_of now) all (count_at s)) (sym started) was))

  pub enough_there : met e.hart ≤ e.at → (all : List Edge) → IsEnough (edges_of now) all met → IsEnough (edges_of new) (all ++ edge_as e ∷ []) met
  enough_there late all was = enough_added (start_of old) met low (edges_of now) (edges_of new) (edge_as e) closed adds_there all late was

  pub closed_there : IsClosed (edges_of new) (start_of old)
  closed_there = closed_on (start_of old) met low (edges_of now) (edges_of new) (edge_as e) closed adds_there
