use Rattle.std.proofs.Common.{◌<◌, ◌≤◌, replicate, Err, refl, sym, ap, subst, ◌∙◌}
use Rattle.std.specs.Prelude.{All}
use Rattle.std.specs.List.{Any}
use Rattle.std.proofs.lemmas.Result.{err_from_is_err_and}
use Rattle.ft_types.specs.Counts.{count_at}
use Rattle.go_live.specs.Quorums.{AreEnough, MostOf}
use Rattle.primary.specs.Gating.{AreAllOffered}
use Rattle.primary.proofs.Gates.{on_ok}
use Rattle.primary.proofs.NewGates.{none_offered, new_gate}
use Rattle.go_live.proofs.Beginnings.{at_harts, at_counts, at_too, unused_so, uncut_so, begins_term}
use Rattle.term_gate.specs.TermGates.{IsNewGate}
use Rattle.leading.specs.Beginning.{GoesLiveGiven, CannotGoLive, stores_in, givers_in}
use Rattle.leading.proofs.Beginning.{cannot}
use Rattle.leading.proofs.starting.started.Goals as goal
use Rattle.leading.proofs.starting.started.Goals.{Else-is_err}

-- the keepers are those of the quorum
pub returns-then-not-are_keepers-clause-refused : goal.returns-then-not-are_keepers-clause-refused
returns-then-not-are_keepers-clause-refused c =
    subst (λ k. Any (λ g. k ≤ g.keeper) c.args.given.now) c.keepers-keepers.ensures.value (c.if-not-are_keepers.ensures.some (λ e. cc))

pub returns-in_err-live-clause-refused : goal.returns-in_err-live-clause-refused
returns-in_err-live-clause-refused c =
    let e = err_from_is_err_and c.from_residual.result c.from_residual.ensures.1 in
    rw (e.1)
    (subst (λ f. CannotGoLive c.args.image.now c.args.quorum c.args.term c.args.given.now f) (sym e.2) (
      subst (λ k. All (λ g. g.keeper < k) c.args.given.now) c.keepers-keepers.ensures.value (c.if-not-are_keepers.ensures.all refl),
      cannot c.args.image.now c.args.quorum c.keepers-keepers.result c.need-need.result c.need_with_most.result c.args.term c.args.given.now
          c.in_err-live.field-0.0 c.keepers-keepers.ensures.value c.need-need.ensures.value (c.need_with_most.ensures.both (givers_in c.args.given.now))
          (λ same. c.in_err-live.ensures.other_term.0 (ap Err same)) (λ same. (c.in_err-live.ensures.too_few.0 (ap Err same)).1)
          (λ same. let old = c.in_err-live.ensures.not_new.0 (ap Err same) in (old.1, old.2)) (λ same. (c.in_err-live.ensures.other_guest.0 (ap Err same)).3)
          c.in_err-live.ensures.replay c.in_err-live.ensures.history_ends,
    ))

pub going_on-primary-requires-clause-harts : goal.going_on-primary-requires-clause-harts
going_on-primary-requires-clause-harts c =
    at_harts c.args.image.now (stores_in c.args.given.now) c.args.term c.in_ok-live.live.book.start c.in_ok-live.live.opening c.in_ok-live.live.marks
    c.in_ok-live.ensures.position

pub going_on-primary-requires-clause-counts : goal.going_on-primary-requires-clause-counts
going_on-primary-requires-clause-counts c =
    at_counts c.args.image.now (stores_in c.args.given.now) c.args.term c.in_ok-live.live.book.start c.in_ok-live.live.opening c.in_ok-live.live.marks
    c.in_ok-live.ensures.position

pub offer_all-all-requires : goal.offer_all-all-requires
offer_all-all-requires c = none_offered c.in-Ok.gate.gate c.machine.result.now (count_at c.in_ok-live.live.marks) c.in-Ok.ensures.lines

module _ (c : Else-is_err) where
  abbrev gate : IsNewGate c.offer_all-all.new.gate c.args.term c.args.quorum.keepers c.args.quorum.need c.args.image.now.harts c.in_ok-live.live.marks
  gate =
      new_gate c.in-Ok.gate c.offer_all-all.new.gate c.args.term c.args.quorum.keepers c.args.quorum.need c.args.image.now.harts c.in_ok-live.live.marks
      (c.in-Ok.ensures.harts ∙ c.harts-harts.ensures.value) c.in-Ok.ensures.parts.0 (c.in-Ok.ensures.parts.1 ∙ c.keepers-keepers.ensures.value)
      (c.in-Ok.ensures.parts.2 ∙ c.need-need.ensures.value)
      (c.in-Ok.ensures.acked ∙ ap (λ k. replicate k (replicate c.harts-harts.result 0)) c.keepers-keepers.ensures.value
      ∙ ap (λ n. replicate c.args.quorum.keepers (replicate n 0)) c.harts-harts.ensures.value) c.in-Ok.ensures.noted
      c.in-Ok.ensures.lines c.offer_all-all.ensures.more c.offered.ensures.passed

  goes : GoesLiveGiven c.args.image.now c.args.quorum c.args.term c.args.given.now c.going_on-primary.result c.offer_all-all.new.gate
  goes =
      let image = c.args.image.now in
      let stores = stores_in c.args.given.now in
      let live = c.in_ok-live.live in
      let says = c.in_ok-live.ensures in
      let both = (c.need_with_most.ensures.both (givers_in c.args.given.now)).0 says.enough in
      let p = c.going_on-primary.result in
      let opens = c.going_on-primary.ensures.opening in
      let start = c.going_on-primary.ensures.start in
      record {
        members = subst (λ k. All (λ g. g.keeper < k) c.args.given.now) c.keepers-keepers.ensures.value (c.if-not-are_keepers.ensures.all refl);
        own = says.given;
        most = subst (λ k. MostOf k (givers_in c.args.given.now)) c.keepers-keepers.ensures.value both.1;
        same_guest = says.own;
        live =
            record {
              enough = subst (λ k. AreEnough k c.args.quorum.need (givers_in c.args.given.now)) c.keepers-keepers.ensures.value
                  (subst (λ n. AreEnough c.keepers-keepers.result n (givers_in c.args.given.now)) c.need-need.ensures.value both.0);
              new = says.new;
              marks = live.marks;
              at = at_too image stores c.args.term live.book.start live.opening live.marks says.position p opens start;
              begins = c.going_on-primary.ensures.begins;
              unused =
                  unused_so image stores c.args.term live.book.start live.opening live.marks says.position p opens start
                  c.going_on-primary.ensures.unused;
              uncut = uncut_so image stores c.args.term live.book.start live.opening live.marks says.position p opens start c.going_on-primary.ensures.uncut;
              gate = gate;
              offered =
                  subst (AreAllOffered c.offer_all-all.new.gate.gate) c.machine.ensures.value
                  (on_ok c.offer_all-all.result (AreAllOffered c.offer_all-all.new.gate.gate c.machine.result.now) (sym c.is_err.ensures.value ∙ c.if-is_err.false)
                  c.offer_all-all.ensures.all);
            };
        begins =
            begins_term image c.args.term stores p live.book.start live.opening start opens c.going_on-primary.ensures.primary
            c.going_on-primary.ensures.rules says.history says.longer;
      }

pub returns-clause-goes : goal.returns-clause-goes
returns-clause-goes c = goes c.before

pub returns-clause-marks : goal.returns-clause-marks
returns-clause-marks c = (gate c.before).marked
