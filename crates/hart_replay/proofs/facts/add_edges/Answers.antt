use Rattle.std.proofs.Common.{◌≡◌, ◌≢◌, ◌↔◌, ◌≤◌, ◌<◌, ◌+◌, ℕ, true, false, List, All, append-nil, get_or, length, drop, max, Result, Ok, Err, refl, sym, ap, subst, arith, ◌∙◌, le_refl, le_trans, le_of_lt}
use Rattle.std.proofs.lemmas.List.Elements.{All-weaker, All-from_recursion}
use Rattle.ft_types.specs.declared.errors.Memory.{Memory}
use Rattle.edge_log.specs.declared.Added.{Added}
use Rattle.edge_log.specs.declared.Added.TheVariants.{New, Implied}
use Rattle.interleaving.specs.Cuts.{IsImplied, IsEnough}
use Rattle.edge_log.specs.Rows.{IsPut}
use Rattle.edge_log.specs.EdgeLog.{AddsLater, Edges, IsAdded, Enters, IsOfHart, row_of, edges_of, start_of, edge_as}
use Rattle.edge_log.specs.declared.Edge.{Edge as OwnedEdge}
use Rattle.edge_log.proofs.Logs.{starts_closed}
use Rattle.ft_types.specs.Counts.{count_at}
use Rattle.fragment_codec.specs.declared.types.Record.{Record}
use Rattle.fragment_codec.specs.declared.types.Record.TheVariants.{Edge as EdgeRecord, Input as InputRecord}
use Rattle.fragment_codec.specs.Rules.{count_of, IsRecordOf}
use Rattle.page_book.proofs.Later.{AreOwn, adds_nothing, adds_on, added_later, own_after}
use Rattle.hart_replay.specs.Facts.{edges_among}
use Rattle.hart_replay.specs.machinery.Taking.{is_between, EdgesEndBy}
use Rattle.hart_replay.proofs.gathering.Records.{later, ahead_at, kept_none, from_there, no_edge, record_at, skips_edge, takes_edge, meets_edge, ends_by, read_at}
use Rattle.hart_replay.proofs.gathering.Unmet.{enough_there, closed_there}
use Rattle.hart_replay.proofs.facts.add_edges.Goals as goal
use Rattle.hart_replay.proofs.facts.add_edges.Goals.{in-Edge+then-is_between+then-count_of-edge+in_ok-add, in-Edge+else-is_between, in_default}
use Rattle.hart_replay.proofs.facts.add_edges.Goals.{else-is_between-via-then-is_between+else-count_of-edge, else-is_between-via-else-is_between}

-- what adding an edge left, by its answer: the edge in its place where it was not implied, else the same log
module _ (old : Edges) (e : OwnedEdge) (new : Edges) (others : (hart : ℕ) → hart ≢ e.hart → row_of new hart ≡ row_of old hart) (start : new.start ≡ old.start)
    (own : AreOwn old) where
  entered : (IsImplied (edges_of old) (start_of old) (edge_as e) → ⊥) → IsPut (row_of old e.hart) e (row_of new e.hart) → IsAdded old e new
  entered unsaid put = Enters unsaid (record { start = start; row = put; others = others })

  own_then : (r : Result Added Memory) → ((r ≡ Ok Implied) ↔ IsImplied (edges_of old) (start_of old) (edge_as e)) →
      (r ≡ Ok New → IsPut (row_of old e.hart) e (row_of new e.hart)) → ((r ≡ Ok New → ⊥) → new ≡ old) → AreOwn new
  own_then (Ok New) implied put kept =
      own_after old (λ h. 0) e new own (omega arith) (entered (λ said. let same : Ok New ≡ Ok Implied = implied.1 said in cc) (put refl))
  own_then (Ok Implied) implied put kept = subst (λ (x : Edges). AreOwn x) (sym (kept (λ same. let e : Ok Implied ≡ Ok New = same in cc))) own
  own_then (Err fault) implied put kept = subst (λ (x : Edges). AreOwn x) (sym (kept (λ same. let e : Err fault ≡ Ok New = same in cc))) own

  later_then : (settled : ℕ → ℕ) → settled e.hart ≤ e.at → (r : Result Added Memory) →
      ((r ≡ Ok Implied) ↔ IsImplied (edges_of old) (start_of old) (edge_as e)) → (r ≡ Ok New → IsPut (row_of old e.hart) e (row_of new e.hart)) →
      ((r ≡ Ok New → ⊥) → new ≡ old) → AddsLater old settled new
  later_then settled le (Ok New) implied put kept =
      added_later old settled e new own le (entered (λ said. let same : Ok New ≡ Ok Implied = implied.1 said in cc) (put refl))
  later_then settled le (Ok Implied) implied put kept = adds_nothing old settled new (kept (λ same. let e : Ok Implied ≡ Ok New = same in cc))
  later_then settled le (Err fault) implied put kept = adds_nothing old settled new (kept (λ same. let e : Err fault ≡ Ok New = same in cc))

pub loop-record-init : goal.loop-record-init
loop-record-init c =
    let f = c.args.piece.now in
    record {
      taken =
          record { start = refl; others = λ other ne. refl; enough = λ all was. subst (λ l. IsEnough (edges_of c.args.edges.now) l (count_at c.args.met.now)) (sym (append-nil all)) was };
      ahead =
          All-weaker (IsRecordOf f.guest.harts f.key.hart f.from f.to) (λ r. c.args.from ≤ count_of r → EdgesEndBy c.args.edges.now f.key.hart (count_of r))
          (λ r own le. All-weaker (λ e. e.at ≤ max c.args.from f.from) (λ e. e.at ≤ count_of r) (λ e l. omega (arith, l, own.1, le)) (row_of c.args.edges.now f.key.hart)
          c.requires.last) f.records (All-from_recursion (IsRecordOf f.guest.harts f.key.hart f.from f.to) f.records c.records-record-items.ensures.rules.records.each);
      last =
          All-weaker (λ e. e.at ≤ max c.args.from f.from) (λ e. e.at ≤ max c.args.from f.to) (λ e l. omega (arith, l, c.records-record-items.ensures.rules.some))
          (row_of c.args.edges.now f.key.hart) c.requires.last;
      own = λ hart. All-weaker (IsOfHart c.args.edges.now.start hart) (λ e. e.hart ≡ hart) (λ e o. o.own) (row_of c.args.edges.now hart) (c.next-rules.ensures.rules.own hart);
      closed = starts_closed c.args.edges.now.start c.args.edges.now.rows c.next-rules.ensures.rules;
      later = λ settled le. adds_nothing c.args.edges.now settled c.args.edges.now refl;
    }

pub add-requires : goal.add-requires
add-requires c =
    let f = c.args.piece.now in
    let e = c.in-Edge.edge in
    let i = c.loop-record.record-index in
    let less : i < length f.records = subst (λ (l : List Record). i < length l) c.records-record-items.ensures.records c.loop-record-test.true in
    let is = read_at f.records c.records-record-items.result.now i c.record-item.result (EdgeRecord e) c.records-record-items.ensures.records c.record-item.is
    c.in-Edge.is in
    let rules = c.records-record-items.ensures.rules in
    let fact : IsRecordOf f.guest.harts f.key.hart f.from f.to (EdgeRecord e) = record_at f i (EdgeRecord e) rules less is in
    let harts : length c.loop-record.edges.start ≡ f.guest.harts = rw c.loop-record.invariant.taken.start c.requires.harts in
    let hart : f.key.hart < f.guest.harts = rules.key.hart in
    let own : e.hart ≡ f.key.hart = fact.0.0 in
    let other : e.other < f.guest.harts = fact.0.1 in
    let from : f.from ≤ e.at = fact.1 in
    let is_in : is_between c.args.from c.args.end e.at ≡ true = sym c.is_between.ensures ∙ c.if-is_between.true in
    record {
      hart = omega arith;
      other = omega arith;
      from_start =
          rw (c.loop-record.invariant.taken.start, own)
          (let low = c.requires.start f.key.hart in let begins = c.requires.from in let upto = (from_there c.args.from c.args.end e.at is_in).0 in
          omega (arith, low, begins, from, upto));
      last =
          rw own ((ahead_at (λ r. c.args.from ≤ count_of r → EdgesEndBy c.loop-record.edges f.key.hart (count_of r)) f.records i (EdgeRecord e) less is
          c.loop-record.invariant.ahead).0 (from_there c.args.from c.args.end e.at is_in).0);
    }

pub loop-record-preserved : goal.loop-record-preserved
loop-record-preserved c =
    let f = c.args.piece.now in
    let i = c.loop-record.record-index in
    let less : i < length f.records = subst (λ (l : List Record). i < length l) c.records-record-items.ensures.records c.loop-record-test.true in
    let rules = c.records-record-items.ensures.rules in
    let item = c.record-item.result in
    let read = λ (s : Record) (named : item ≡ s). read_at f.records c.records-record-items.result.now i item s c.records-record-items.ensures.records
    c.record-item.is named in
    let hart = f.key.hart in
    let met = count_at c.args.met.now in
    let old = c.args.edges.now in
    let now = c.loop-record.edges in
    let from = c.args.from in
    let p = λ (fact : Record). is_between from c.args.end (count_of fact) in
    let so_far = c.loop-record.invariant in
    let stays = λ (r : Record) (is : r ≡ get_or f.records i r).
    (ahead_at (λ r. from ≤ count_of r → EdgesEndBy now hart (count_of r)) f.records i r less is so_far.ahead).1 in
    elim c.match-record.branch [
      | in-Edge+then-is_between+then-count_of-edge+in_ok-add w ↦
          let e = w.in-Edge.edge in
          let new = w.add.new.self in
          let is = read (EdgeRecord e) w.in-Edge.is in
          let fact : IsRecordOf f.guest.harts f.key.hart f.from f.to (EdgeRecord e) = record_at f i (EdgeRecord e) rules less is in
          let own : e.hart ≡ hart = fact.0.0 in
          let is_in : is_between from c.args.end e.at ≡ true = sym w.is_between.ensures ∙ w.if-is_between.true in
          let from_in = (from_there from c.args.end e.at is_in).0 in
          let begins = c.requires.from in
          let at = fact.1 in
          let late : met e.hart ≤ e.at = subst (λ h. met h ≤ e.at) (sym own) (omega (arith, begins, at, from_in)) in
          rw w.edges-is
          (record {
            taken =
                takes_edge hart met old now new p f.records i e less is is_in so_far.taken own w.add.ensures.start w.add.ensures.others_kept
                (enough_there met old now new e c.requires.start so_far.taken.start w.add.ensures.start so_far.closed w.in_ok-add.ensures.enough late);
            ahead =
                All-weaker (λ s. e.at ≤ count_of s) (λ s. from ≤ count_of s → EdgesEndBy new hart (count_of s))
                (λ s le later. ends_by hart new e (count_of s) own w.add.ensures.latest le) (drop (i + 1) f.records)
                (later f.records i (EdgeRecord e) rules.records.order less is);
            last = ends_by hart new e (max from f.to) own w.add.ensures.latest (let to = fact.2 in omega (arith, to));
            own =
                own_then now e new w.add.ensures.others_kept w.add.ensures.start so_far.own w.add.result w.add.ensures.implied w.add.ensures.put
                w.add.ensures.kept;
            closed =
                closed_there met old now new e c.requires.start so_far.taken.start w.add.ensures.start so_far.closed w.in_ok-add.ensures.enough;
            later =
                λ settled le.
                adds_on old settled now settled new (λ h. le_refl (settled h)) (so_far.later settled le)
                (later_then now e new w.add.ensures.others_kept w.add.ensures.start so_far.own settled
                (subst (λ h. settled h ≤ e.at) (sym own) (omega (arith, le, at, from_in))) w.add.result w.add.ensures.implied w.add.ensures.put
                w.add.ensures.kept);
          })
      | in-Edge+else-is_between w ↦
          let e = w.in-Edge.edge in
          let is = read (EdgeRecord e) w.in-Edge.is in
          let fact : IsRecordOf f.guest.harts f.key.hart f.from f.to (EdgeRecord e) = record_at f i (EdgeRecord e) rules less is in
          rw w.edges-is
          (record {
            taken =
                elim w.else-is_between.branch [
                  | else-is_between-via-then-is_between+else-count_of-edge v ↦
                      let is_in : is_between from c.args.end e.at ≡ true = sym w.is_between.ensures ∙ v.if-is_between.true in
                      let count = v.count_of.ensures.value in
                      meets_edge hart met old now p f.records i e less is is_in so_far.taken fact.0.0 (omega (arith, count, v.if-count_of-edge.false))
                  | else-is_between-via-else-is_between v ↦
                      let is_out : is_between from c.args.end e.at ≡ false = sym w.is_between.ensures ∙ v.if-is_between.false in
                      skips_edge hart met old now p f.records i (EdgeRecord e) less is (ap edges_among (kept_none p (EdgeRecord e) is_out)) so_far.taken
                ];
            ahead = stays (EdgeRecord e) is;
            last = so_far.last;
            own = so_far.own;
            closed = so_far.closed;
            later = so_far.later;
          })
      | in_default w ↦
          let is = read item refl in
          rw w.edges-is
          (record {
            taken = skips_edge hart met old now p f.records i item less is (no_edge p item w.in_default.not-Edge) so_far.taken;
            ahead = stays item is;
            last = so_far.last;
            own = so_far.own;
            closed = so_far.closed;
            later = so_far.later;
          })
    ]

pub returns-in_err-add-clause-later : goal.returns-in_err-add-clause-later
returns-in_err-add-clause-later c settled le =
    let f = c.args.piece.now in
    let e = c.in-Edge.edge in
    let i = c.loop-record.record-index in
    let less : i < length f.records = subst (λ (l : List Record). i < length l) c.records-record-items.ensures.records c.loop-record-test.true in
    let is = read_at f.records c.records-record-items.result.now i c.record-item.result (EdgeRecord e) c.records-record-items.ensures.records c.record-item.is
    c.in-Edge.is in
    let fact : IsRecordOf f.guest.harts f.key.hart f.from f.to (EdgeRecord e) = record_at f i (EdgeRecord e) c.records-record-items.ensures.rules less is in
    let own : e.hart ≡ f.key.hart = fact.0.0 in
    let is_in : is_between c.args.from c.args.end e.at ≡ true = sym c.is_between.ensures ∙ c.if-is_between.true in
    let from_in = (from_there c.args.from c.args.end e.at is_in).0 in
    adds_on c.args.edges.now settled c.loop-record.edges settled c.add.new.self (λ h. le_refl (settled h)) (c.loop-record.invariant.later settled le)
    (later_then c.loop-record.edges e c.add.new.self c.add.ensures.others_kept c.add.ensures.start c.loop-record.invariant.own settled
    (subst (λ h. settled h ≤ e.at) (sym own) (let at = fact.1 in omega (arith, le, at, from_in))) c.add.result c.add.ensures.implied c.add.ensures.put
    c.add.ensures.kept)
