use Rattle.std.proofs.Common.{subst, arith, length}
use Rattle.std.proofs.lemmas.Grind.{common_steps}
use Rattle.ft_types.specs.Guests.{GuestParts}
use Rattle.log_pieces.specs.Pieces.{book_log, IsCut}
use Rattle.interleaving.specs.Stored.{view}
use Rattle.interleaving.proofs.Beginnings.{ends_are_cuts}
use Rattle.rv32_hart.specs.Hardware.{hardware}
use Rattle.hart_lease.specs.Recorded.{system}
use Rattle.hart_lease.specs.Runs.{journal_turns}
use Rattle.book_modes.specs.Recordings.{heard_by, log_of, HasHonestLog}
use Rattle.log_streams.proofs.Ends.{reach_its_end}
use Rattle.log_streams.proofs.first_term.frames_of.Goals as goal

pub returns-clause-frames : goal.returns-clause-frames
returns-clause-frames c =
    let book = c.args.book.now in
    let pieces = c.in_ok-frames.frames.items in
    let P : GuestParts → Type 0 = λ g. IsCut (book_log g 1 book) g.harts c.new-sealed.result pieces c.cut_pieces.new.sealed in
    record {
      pieces = pieces;
      opened = grind (arith, common_steps);
      uncut = c.new-sealed.result;
      from_boot = λ hart. grind (arith, common_steps);
      seals = c.cut_pieces.new.sealed;
      cut = subst P c.guest-guest.ensures c.in_ok-frames.ensures.cut;
    }

pub returns-clause-end : goal.returns-clause-end
returns-clause-end c =
    let book = c.args.book.now in
    reach_its_end _ book _ (returns-clause-frames c)
    (ends_are_cuts (system (length book.start.pages)) (log_of book.mode.edges (heard_by book.mode) book.start book.machine)
    (view (hardware (length book.start.pages)) book.start) (journal_turns (heard_by book.mode) book.start book.journal)
    ((subst (λ e. HasHonestLog e (heard_by book.mode) book.start book.journal book.machine) c.edges-edges.ensures.value c.edges-edges.ensures.honest).honest)).1.closed
