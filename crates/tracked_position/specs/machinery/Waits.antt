-- Why a hart goes no further: private words.
use Rattle.std.specs.Prelude.{ℕ, ◌≡◌, ◌<◌, ◌≤◌, ◌-◌, min, List, Contains, sum_by, Option, Some, None, slice_index_or}
use Rattle.edge_log.specs.declared.Edge.{Edge}
use Rattle.fragment_codec.specs.Rules.{FragmentParts}
use Rattle.log_join.specs.Stores.{StoreView}
use Rattle.closed_cut.specs.Position.{pieces_of}
use Rattle.tracked_position.specs.machinery.Cuts.{edges_in, GoesOver, IsCutOf}
use Rattle.ft_types.specs.Counts.{count_at}
use Rattle.ft_types.specs.declared.names.TheConstants.{COUNT_LIMIT}

-- the hart waits for none, or for one that is held
pub data IsHeld (waits : List (Option ℕ)) : ℕ → Type 0 where
  Free : {hart : ℕ} → slice_index_or waits hart None ≡ None → IsHeld waits hart
  Behind : {hart : ℕ} (other : ℕ) → slice_index_or waits hart None ≡ Some other → IsHeld waits other → IsHeld waits hart

-- an edge on the hart's walk at this count asks for more steps of the other hart
pub record WaitsFor (store : StoreView) (term : ℕ) (base cut : ℕ → ℕ) (hart other : ℕ) : Type 0 where
  pub place : ℕ
  pub piece : FragmentParts
  pub edge : Edge
  pub over : GoesOver (pieces_of store term hart) (base hart) place piece
  pub has : Contains (edges_in piece) edge
  pub here : edge.at ≤ cut hart
  pub for : edge.other ≡ other
  pub unmet : cut other < edge.after

-- no cut is further for the hart, or it waits for another
abbrev pub IsWaiting : StoreView → ℕ → (ℕ → ℕ) → Option (ℕ → ℕ) → (ℕ → ℕ) → ℕ → Option ℕ → Type 0
IsWaiting store term base next cut hart None = (other : ℕ → ℕ) → IsCutOf store term base next other → other hart ≤ cut hart
IsWaiting store term base next cut hart (Some other) = WaitsFor store term base cut hart other

-- the count, where it is at most the hart's limit, and else that
abbrev pub limited_to : Option (List ℕ) → ℕ → ℕ → ℕ
limited_to None hart count = count
limited_to (Some limit) hart count = min count (count_at limit hart)

-- how far the counts can still rise, all in all
abbrev pub room : List ℕ → ℕ
room counts = sum_by (λ n. COUNT_LIMIT - n) counts

abbrev pub total : List ℕ → ℕ
total counts = sum_by (λ n. n) counts
