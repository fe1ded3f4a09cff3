use Rattle.std.proofs.Common.{[], ◌++◌, Some, sym, ap, subst, ◌∙◌}
use Rattle.std.proofs.lemmas.Result.{err_from_is_err_and}
use Rattle.fragment_codec.specs.Streams.{Unread, Follows}
use Rattle.stations.proofs.Fronts.{behind}
use Rattle.stations.proofs.Spellings.{holds_rest}
use Rattle.stations.proofs.written_feed.WrittenFeed.push.Goals as goal

pub returns-in_err-frames-clause-fault : goal.returns-in_err-frames-clause-fault
returns-in_err-frames-clause-fault c = λ stream given f.
    let fault = c.in_err-frames.field-0.0 in
    let p = err_from_is_err_and c.from_residual.result c.from_residual.ensures.1 in
    let own : Follows stream given c.self.inside.feed = subst (Follows stream given) (sym c.self.view_is) f in
    rw (p.1, p.2) (λ other.
    behind (stream ++ c.args.piece.now) given c.push.new.self (Some fault) ((c.push.ensures.for_good fault).1 c.in_err-frames.was other)
    (c.in_err-frames.ensures.fault stream given own other))

pub returns-in_err-frames-clause-for_good : goal.returns-in_err-frames-clause-for_good
returns-in_err-frames-clause-for_good c = λ fault e.
    let p = err_from_is_err_and c.from_residual.result c.from_residual.ensures.1 in
    let is = (c.push.ensures.for_good fault).0 (ap (λ (u : Unread). u.fault) c.self.view_is ∙ e) in
    let was = c.in_err-frames.was in
    rw (p.1, p.2) cc

pub split_both-requires : goal.split_both-requires
split_both-requires c =
    let all = c.in_ok-frames.ensures.given c.self.inside.held.items [] c.self.invariant in
    (all.rest, all.splits)

pub returns-in_default-clause-for_good : goal.returns-in_default-clause-for_good
returns-in_default-clause-for_good c = λ fault e.
    let is = (c.push.ensures.for_good fault).0 (ap (λ (u : Unread). u.fault) c.self.view_is ∙ e) in
    let was = c.in_ok-frames.was in
    absurd cc

pub invariant_of-result : goal.invariant_of-result
invariant_of-result c =
    let held = c.self.inside.held.items in
    holds_rest (held ++ c.args.piece.now) c.in-Ok.held.items c.in_ok-frames.frames.items c.push.new.self
    (c.in_ok-frames.ensures.given held [] c.self.invariant) c.in-Ok.ensures.rest

pub returns-clause-for_good : goal.returns-clause-for_good
returns-clause-for_good c = λ fault e.
    let is = (c.push.ensures.for_good fault).0 (ap (λ (u : Unread). u.fault) c.self.view_is ∙ e) in
    let was = c.in_ok-frames.was in
    absurd cc
