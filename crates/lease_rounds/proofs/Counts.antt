-- What running a primary leaves of a machine: as many pages, and the counts of its order.
use Rattle.std.proofs.Common.{sym, ap, ℕ}
use Rattle.hart_lease.specs.Runs.{LeadsTo, harts_of}
use Rattle.hart_lease.proofs.journals.Sizes.{as_large, counts_ran}
use Rattle.page_book.specs.Books.{BookView}
use Rattle.book_modes.specs.Recordings.{RecordingView, heard_by}
use Rattle.lease_rounds.specs.machinery.SoFar.{HasRun}

pub has_run : (b : BookView RecordingView) → LeadsTo (heard_by b.mode) b.start b.journal b.machine → HasRun b
has_run b run =
    record {
      run = run;
      counted = λ hart. ap (λ (now : ℕ → ℕ). now hart) (sym (counts_ran b.start b.machine (heard_by b.mode) (harts_of b.journal) run));
      harts = (as_large b.start b.machine _ run).harts;
      pages = (as_large b.start b.machine _ run).pages;
    }
