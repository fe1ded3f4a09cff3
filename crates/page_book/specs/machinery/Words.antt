-- What the contracts of this crate say of the crates below.
pub use Rattle.book_modes.specs.Modes.{IsAsking}
pub use Rattle.book_modes.specs.Recordings.{HasHonestLog, heard_by, IsBetween, IsOffered, IsUnused, RecordingView}
pub use Rattle.edge_log.specs.EdgeLog.{row_of}
pub use Rattle.ft_types.specs.Counts.{count_at, greater}
pub use Rattle.ft_types.specs.Sets.{IsMember}
pub use Rattle.guest_image.specs.Machine.{MachineState}
pub use Rattle.hart_lease.specs.Asks.{asked_by}
pub use Rattle.hart_lease.specs.Leases.{base_at, fresh, IsFull, IsLent, IsLentBy, laid, laid_pages, LeaseView, Runs, Ticks, whole, whole_in, with_page}
pub use Rattle.hart_lease.specs.Leases.{with_slot}
pub use Rattle.hart_lease.specs.OpenLeases.{edges_after, given_more, idle, lent_with, nothing_taken, open_at, OpenView}
pub use Rattle.hart_lease.specs.Runs.{added, BeginsSchedule, counts_of, IsBareLease, LeadsTo}
pub use Rattle.hart_lease.specs.Slots.{part_of, slot_at, want_of}
pub use Rattle.hart_lease.specs.declared.taken.Taken.{Taken}
pub use Rattle.input_log.specs.Inputs.{inputs_of, is_bell, IsInputOf}
pub use Rattle.interleaving.specs.Log.{HasUnmet, IsMet}
