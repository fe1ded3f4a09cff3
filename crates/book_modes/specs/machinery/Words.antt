-- What the contracts of this crate say of the crates below.
pub use Rattle.crew_pages.specs.Rights.{give_up, given, holds, IsFree, IsOwed, owns, unused}
pub use Rattle.edge_log.specs.EdgeLog.{edge_as, edges_of}
pub use Rattle.ft_types.specs.Counts.{count_at, greater}
pub use Rattle.ft_types.specs.Sets.{IsMember}
pub use Rattle.guest_image.specs.Machine.{MachineState}
pub use Rattle.hart_lease.specs.Leases.{LeaseView, whole}
pub use Rattle.hart_lease.specs.OpenLeases.{has_taken, IsHolder, lent_with, LentView, open_at, OpenView, stands_against}
pub use Rattle.hart_lease.specs.Runs.{counts_of, Heard, heard_in, IsStop, MayGoTo}
pub use Rattle.input_log.specs.Inputs.{inputs_of, is_bell, IsInputOf}
pub use Rattle.input_log.specs.Offers.{but_bells}
pub use Rattle.input_log.specs.Waiting.{bells_of, others_of, Queues}
pub use Rattle.lease_ledger.specs.Calls.{kept}
pub use Rattle.smallvec.specs.SmallVec.{HasRoomFor, small_vec_len}
