use Rattle.std.proofs.Common.{subst}
use Rattle.edge_log.specs.EdgeLog.{Edges, IsLog}
use Rattle.book_modes.specs.Recordings.{heard_by, HasHonestLog}
use Rattle.primary.proofs.granted.tell_primary.Goals as goal

pub returns-clause-primary : goal.returns-clause-primary
returns-clause-primary c =
    record {
      log = subst (λ (e : Edges). IsLog e.start e.rows) c.edges.ensures.value c.next-next.ensures.rules;
      honest =
          subst (λ (e : Edges). HasHonestLog e (heard_by c.args.book.now.mode) c.args.book.now.start c.args.book.now.journal c.args.book.now.machine)
          c.edges.ensures.value c.edges.ensures.honest;
    }
