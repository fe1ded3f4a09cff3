use Rattle.log_streams.specs.declared.faults.StreamsFault.TheVariants.{Read}
use Rattle.std.proofs.Common.{◌≡◌, refl, [], take, rules, ◌<◌, length, ◌∙◌}
use Rattle.std.proofs.lemmas.Result.{err_from_is_err_and}
use Rattle.log_streams.proofs.StreamLemmas.{consumes_nothing, push_refused, push_failures, reading_more, told, takes_none, nothing_wrong, still_right}
use Rattle.log_streams.proofs.StreamLemmas.{not_read, goes_right}
use Rattle.log_streams.proofs.reading.read_into.Goals as goal

pub returns-in_err-feed-clause-fault : goal.returns-in_err-feed-clause-fault
returns-in_err-feed-clause-fault g c =
    let p = err_from_is_err_and c.from_residual.result c.from_residual.ensures.1 in
    rw (p.1, p.2) (record { read = []; consumed = consumes_nothing (g.R.Source.left c.args.reader.now); fault = tt })

pub returns-in_err-feed-clause-failures : goal.returns-in_err-feed-clause-failures
returns-in_err-feed-clause-failures g c =
    let p = err_from_is_err_and c.from_residual.result c.from_residual.ensures.1 in
    rw (p.1, p.2) refl

pub loop-read-init : goal.loop-read-init
loop-read-init g c = (
  record {
    read = [];
    given = [];
    consumed = consumes_nothing (g.R.Source.left c.args.reader.now);
    follows = c.in_ok-feed.ensures.follows;
    takes = takes_none c.args.store.now;
  },
  nothing_wrong c.args.store.now.guest (g.R.Source.left c.args.reader.now),
  refl,
)

pub returns-in_err-push-clause-fault : goal.returns-in_err-push-clause-fault
returns-in_err-push-clause-fault g c =
    let p = err_from_is_err_and c.from_residual-in_err-push.result c.from_residual-in_err-push.ensures.1 in
    rw (p.1, p.2) (push_refused c.args.stream c.args.store.now (g.R.Source.left c.args.reader.now) (g.R.Source.left c.loop-read.reader)
    (g.R.Source.left c.read.new.self) c.loop-read.feed c.loop-read.store
    c.front_of-front.result.now (take c.in-Ok.count c.read.new.piece) c.in_err-push.field-0.0 c.front_of-front.ensures c.loop-read.invariant.0
    c.in-Ok.ensures.taken.0 c.in_err-push.ensures.fault)

pub returns-in_err-push-clause-failures : goal.returns-in_err-push-clause-failures
returns-in_err-push-clause-failures g c =
    let p = err_from_is_err_and c.from_residual-in_err-push.result c.from_residual-in_err-push.ensures.1 in
    rw (p.1, p.2) (push_failures c.args.stream c.args.store.now (g.R.Source.left c.args.reader.now) (g.R.Source.left c.loop-read.reader) c.loop-read.feed
    c.loop-read.store
    c.front_of-front.result.now c.in_err-push.field-0.0 (g.R.Source.failures c.args.reader.now) (g.R.Source.failures c.read.new.self) c.loop-read.invariant.0
    (c.in-Ok.ensures.taken.1 ∙ c.loop-read.invariant.2) c.in_err-push.ensures.fault)

pub returns-in_err-push-clause-right : goal.returns-in_err-push-clause-right
returns-in_err-push-clause-right g c =
    let p = err_from_is_err_and c.from_residual-in_err-push.result c.from_residual-in_err-push.ensures.1 in
    rw (p.1, p.2) (λ e. let is : c.in_err-push.field-0.0 ≡ Read c.args.stream = cc in
    absurd (not_read c.args.stream c.args.stream c.args.store.now.guest _ c.in_err-push.field-0.0
    (c.in_err-push.ensures.fault c.args.store.now c.loop-read.invariant.0.read c.loop-read.invariant.0.given c.loop-read.invariant.0.follows
    c.loop-read.invariant.0.takes) is))

pub returns-then-count-eq0-clause-ok : goal.returns-then-count-eq0-clause-ok
returns-then-count-eq0-clause-ok g c =
    let on = goes_right c.loop-read.feed c.push.new.feed c.loop-read.store c.push.new.store c.front_of-front.result.now c.in_ok-push.ensures.ok
    c.in_ok-push.ensures.sound in
    let some : 0 < length c.read.new.piece = search rules in
    told c.args.store.now (g.R.Source.left c.args.reader.now) (g.R.Source.left c.loop-read.reader) (g.R.Source.left c.read.new.self) c.loop-read.feed
    c.push.new.feed c.loop-read.store c.push.new.store
    c.front_of-front.result.now (take c.in-Ok.count c.read.new.piece) c.front_of-front.ensures
    c.loop-read.invariant.0 c.in-Ok.ensures.taken.0 (c.in-Ok.ensures.end c.if-count-eq0.true some) on

pub loop-read-preserved : goal.loop-read-preserved
loop-read-preserved g c =
    let on = goes_right c.loop-read.feed c.push.new.feed c.loop-read.store c.push.new.store c.front_of-front.result.now c.in_ok-push.ensures.ok
    c.in_ok-push.ensures.sound in (
      reading_more c.args.store.now (g.R.Source.left c.args.reader.now) (g.R.Source.left c.loop-read.reader) (g.R.Source.left c.read.new.self) c.loop-read.feed
          c.push.new.feed c.loop-read.store c.push.new.store
          c.front_of-front.result.now (take c.in-Ok.count c.read.new.piece) c.front_of-front.ensures c.loop-read.invariant.0 c.in-Ok.ensures.taken.0
          on,
      still_right c.args.store.now (g.R.Source.left c.args.reader.now) (g.R.Source.left c.loop-read.reader) (g.R.Source.left c.read.new.self) c.loop-read.feed
          c.push.new.feed c.loop-read.store c.push.new.store
          c.front_of-front.result.now (take c.in-Ok.count c.read.new.piece) c.front_of-front.ensures c.loop-read.invariant.0 c.in-Ok.ensures.taken.0
          on,
      c.in-Ok.ensures.taken.1 ∙ c.loop-read.invariant.2,
    )
