-- What a primary's rounds come to.
use Rattle.std.specs.Prelude.{◌≡◌}
use Rattle.hart_lease.specs.Runs.{LeadsTo}
use Rattle.page_book.specs.Books.{BookView}
use Rattle.book_modes.specs.Recordings.{RecordingView, heard_by}
use Rattle.lease_rounds.specs.Running.{AreThrough, Continues, GoWithin, KeepsOffered}

-- the first book went on until each hart was halted or at its limit, and is the second
pub record HasLed (before b : BookView RecordingView) : Type 0 where
  pub goes_on : Continues before b
  pub offered : KeepsOffered before b
  pub within : GoWithin before b
  pub limits : b.mode.limits ≡ before.mode.limits
  pub ran : LeadsTo (heard_by b.mode) b.start b.journal b.machine
  pub through : AreThrough b
