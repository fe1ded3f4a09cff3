use Rattle.std.proofs.Common.{◌≡◌, ◌<◌, ℕ, List, All, ◌∙◌, sym, ap, subst}
use Rattle.input_log.specs.declared.Input.{Input}
use Rattle.input_log.specs.Inputs.{inputs_of}
use Rattle.edge_log.specs.EdgeLog.{Edges}
use Rattle.hart_lease.specs.Leases.{whole}
use Rattle.book_modes.specs.Recordings.{RecordingView, AreLogged}
use Rattle.book_modes.proofs.ledger.Settling.{edges_own, edges_each, edges_from, edges_rising, inputs_last}
use Rattle.book_modes.proofs.recording.Recording.log.Goals as goal

pub add_all-requires-clause-own : goal.add_all-requires-clause-own
add_all-requires-clause-own c = rw (c.edges.ensures, c.hart.ensures.value) (edges_own c.requires.settles.1 (whole c.requires.settles.0 c.args.lease.now)
    c.requires.settles.2)

pub add_all-requires-clause-each : goal.add_all-requires-clause-each
add_all-requires-clause-each c =
    let same : c.requires.settles.1.edges ≡ c.self.inside.edges.value =
    ap (λ (v : RecordingView). v.edges) (sym (c.self.view_is ∙ (c.log_inputs.ensures.rest ∙
    ap (λ (v : RecordingView). let w : RecordingView = record v { inputs = c.log_inputs.new.self.inputs } in w) c.requires.settles.3))) in
    rw (c.deref_mut.ensures.value, c.edges.ensures) (rw same at (edges_each c.requires.settles.1 (whole c.requires.settles.0 c.args.lease.now) c.requires.settles.2))

pub add_all-requires-clause-rising : goal.add_all-requires-clause-rising
add_all-requires-clause-rising c = rw c.edges.ensures (edges_rising c.requires.settles.1 (whole c.requires.settles.0 c.args.lease.now) c.requires.settles.2)

pub returns-in-Ok-clause-edges : goal.returns-in-Ok-clause-edges
returns-in-Ok-clause-edges c =
    let same : c.self.inside.edges.value ≡ c.args.self.now.edges = ap (λ (v : RecordingView). v.edges) (c.self.view_is ∙ c.log_inputs.ensures.rest) in
    subst (λ (old : Edges). AreLogged old c.args.lease.now.edges c.add_all.new.self) same
    (rw (← c.edges.ensures)
    (record {
      added = rw c.deref_mut.ensures.value at c.in-Ok.ensures.added;
      was = rw c.deref_mut.ensures.value at c.in-Ok.ensures.rules_before;
      log = c.in-Ok.ensures.rules;
      start = rw c.deref_mut.ensures.value at c.in-Ok.ensures.start;
      enough = rw c.deref_mut.ensures.value at c.in-Ok.ensures.enough;
    }))

pub returns-in-Ok-clause-unsettled : goal.returns-in-Ok-clause-unsettled
returns-in-Ok-clause-unsettled c = edges_from c.requires.settles.1 (whole c.requires.settles.0 c.args.lease.now) c.requires.settles.2

pub returns-in-Ok-clause-counts : goal.returns-in-Ok-clause-counts
returns-in-Ok-clause-counts c = c.requires.settles.2.is_lease.count

pub log_inputs-requires : goal.log_inputs-requires
log_inputs-requires c =
    let (earlier, r, settles, is) = c.requires.settles in
    let last = inputs_last r (whole earlier c.args.lease.now) settles in
    record {
      last =
          subst (λ (log : List (List (ℕ × Input))). All (λ x. x.0 < c.args.lease.now.base.count) (inputs_of log c.args.lease.now.hart))
          (ap (λ (v : RecordingView). v.inputs) (sym is)) last;
    }
