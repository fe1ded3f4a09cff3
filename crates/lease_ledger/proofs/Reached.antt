-- What holds of a ledger holds of every one that calls lead to.
use Rattle.std.proofs.Common.{ℕ, ◌≤◌}
use Rattle.ft_types.specs.declared.names.TheConstants.{HART_LIMIT}
use Rattle.interleaving.specs.Machine.{System, Machine}
use Rattle.lease_ledger.specs.Ledger.{Ledger}
use Rattle.lease_ledger.specs.Calls.{Reached, Begun, Opened, Needed, Settled, Dropped}
use Rattle.lease_ledger.proofs.Invariant.{Ok}
use Rattle.lease_ledger.proofs.Opening.{begun_ok, opened_ok}
use Rattle.lease_ledger.proofs.Needing.{needed_ok}
use Rattle.lease_ledger.proofs.Settling.{settled_ok}
use Rattle.lease_ledger.proofs.Dropping.{dropped_ok}

module _ {Hart Page Input : Type 0} (system : System Hart Page Input) (crew : ℕ) (few : crew ≤ HART_LIMIT) (start : Machine Hart Page) where
  pub reached_ok : (b : Ledger Hart Page Input) → Reached system crew start b → Ok system crew start b
  reached_ok _ Begun = begun_ok system crew start
  reached_ok _ (Opened {b = b} h edges before is_hart none heard) =
      opened_ok system crew start b (reached_ok b before) h edges is_hart none heard
  reached_ok _ (Needed {b = b} l page want r answer before lease ours yielded answered) =
      needed_ok system crew start b (reached_ok b before) few l page want r answer lease ours yielded answered
  reached_ok _ (Settled {b = b} l keep before lease ours) = settled_ok system crew start b (reached_ok b before) l lease ours keep
  reached_ok _ (Dropped {b = b} h s before is) = dropped_ok system crew start b (reached_ok b before) h s is
