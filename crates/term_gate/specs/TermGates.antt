-- The gate of one term, what its keepers acknowledged, and what it gives.
use Rattle.std.specs.Prelude.{◌≡◌, ◌<◌, ◌≤◌, ℕ, List, [], length, replicate, slice_index_or}
use Rattle.ft_types.specs.declared.names.TheConstants.{KEEPER_LIMIT}
use Rattle.ft_types.specs.Counts.{count_at}
use Rattle.output_gate.specs.Gates.{GateView, noted_at, gone_of, mark_at}
use Rattle.output_gate.specs.Orders.{ArePassedBelow}

pub record TermGateView : Type 0 where
  pub harts : ℕ
  pub acked : List (List ℕ)  -- by keeper and hart, the count that was acknowledged last, or 0
  pub gate : GateView

-- the count that the keeper acknowledged last for the hart, or 0
abbrev pub acked_at : TermGateView → ℕ → ℕ → ℕ
acked_at g keeper hart = count_at (slice_index_or g.acked keeper []) hart

-- the gate is of this term, each of its keepers has a row of so many counts, and no count is noted above those
pub record IsTermGate (of_term harts : ℕ) (acked : List (List ℕ)) (gate : GateView) : Type 0 where
  pub term : of_term ≡ gate.term
  pub keepers : length acked ≡ gate.keepers
  pub few : length acked ≤ KEEPER_LIMIT
  pub wide : (keeper : ℕ) → keeper < length acked → length (slice_index_or acked keeper []) ≡ harts
  pub below : (keeper hart : ℕ) → noted_at gate keeper hart ≤ count_at (slice_index_or acked keeper []) hart

-- a table of what the keepers acknowledged
pub record AreAcked (g : TermGateView) (noted : List (List ℕ)) : Type 0 where
  pub acked : (keeper hart : ℕ) → keeper < g.gate.keepers → hart < g.harts → count_at (slice_index_or noted keeper []) hart ≡ acked_at g keeper hart
  pub no_keeper : (keeper hart : ℕ) → g.gate.keepers ≤ keeper → count_at (slice_index_or noted keeper []) hart ≡ 0
  pub no_hart : (keeper hart : ℕ) → g.harts ≤ hart → count_at (slice_index_or noted keeper []) hart ≡ 0

-- no keeper has acknowledged anything, none is noted, and nothing went out; outputs with numbers below the marks will not, and
-- only such are passed over
pub record IsNewGate (g : TermGateView) (term keepers need harts : ℕ) (marks : List ℕ) : Type 0 where
  pub of_harts : g.harts ≡ harts
  pub of_term : g.gate.term ≡ term
  pub of_keepers : g.gate.keepers ≡ keepers
  pub of_need : g.gate.need ≡ need
  pub acked : g.acked ≡ replicate keepers (replicate harts 0)
  pub noted : (keeper hart : ℕ) → noted_at g.gate keeper hart ≡ 0
  pub gone : (hart : ℕ) → gone_of g.gate hart ≡ []
  pub marked : (hart : ℕ) → mark_at g.gate hart ≡ count_at marks hart
  pub passed : ArePassedBelow g.gate
