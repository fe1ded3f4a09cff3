-- What the type of a gate keeps, and what is released of one hart.
use Rattle.std.specs.Prelude.{◌≡◌, ℕ, ◌<◌, ◌≤◌, List, length, take, drop, slice_index_or}
use Rattle.std.specs.List.{AllByRecursion, filter}
use Rattle.ft_types.specs.declared.names.TheConstants.{HART_LIMIT, HART_ROW, KEEPER_LIMIT, KEEPER_ROW}
use Rattle.ft_types.specs.declared.output.Output.{Output}
use Rattle.output_gate.specs.Gates.{LineView, is_held, is_not_held}
use Rattle.output_gate.specs.Orders.{IsLineOf}

-- of these outputs, the first so many are held, and the others are not
pub record IsFront (need : ℕ) (noted : List (List ℕ)) (count : ℕ) (waiting : List Output) : Type 0 where
  pub within : count ≤ length waiting
  pub held : filter (is_held need noted) waiting ≡ take count waiting
  pub rest : filter (is_not_held need noted) waiting ≡ drop count waiting

-- what holds of a gate's parts
pub record IsGate (keepers need : ℕ) (noted : List (List ℕ)) (lines : List LineView) : Type 0 where
  pub few : keepers ≤ KEEPER_LIMIT
  pub some : 0 < need
  pub enough : need ≤ keepers
  pub rows : length noted ≡ KEEPER_ROW
  pub wide : AllByRecursion (λ row. length row ≡ HART_ROW) noted
  pub harts : length lines ≡ HART_ROW
  pub each : (hart : ℕ) (other : LineView) → hart < HART_LIMIT → IsLineOf hart (slice_index_or lines hart other)
