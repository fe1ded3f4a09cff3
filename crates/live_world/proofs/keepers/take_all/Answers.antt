use Rattle.std.proofs.Common.{◌≡◌, ◌++◌, [], ◌∷◌, List, Option, Ok, sym, ap, subst, ◌∙◌, append_assoc}
use Rattle.std.specs.Vec.Iter.{into_iter_items}
use Rattle.std.proofs.lemmas.Result.{err_from_is_err_and}
use Rattle.fragment_codec.specs.declared.frame.Frame.{Frame}
use Rattle.log_join.specs.declared.answers.Put.{Put}
use Rattle.stations.specs.Stations.{StationView}
use Rattle.live_world.specs.declared.site.Site.{Site}
use Rattle.live_world.specs.Calls.{TakesAll}
use Rattle.live_world.proofs.Taking.{no_memory, rests, takes_more, takes_one, with_station}
use Rattle.live_world.proofs.keepers.take_all.Goals as goal

pub returns-in_default-clause-some : goal.returns-in_default-clause-some
returns-in_default-clause-some c =
    let at = c.loop-frame in
    rests c.args.frames.items at.yielded c.args.site.now at.site at.invariant.0 c.in_default.is

pub returns-in_err-_put-clause-some : goal.returns-in_err-_put-clause-some
returns-in_err-_put-clause-some c =
    let at = c.loop-frame in
    let frame = c.in-Some.frame in
    let behind = into_iter_items c.next.new.self in
    let steps : into_iter_items at.frame-iterator ≡ frame ∷ behind = c.in-Some.ensures.steps.0 in
    let parts : c.args.frames.items ≡ at.yielded ++ frame ∷ behind =
    sym (ap (λ (xs : List Frame). at.yielded ++ xs) (sym steps) ∙ at.invariant.1 ∙ c.into_iter-frame-iterator.ensures.into_iter_gives.0) in
    let same : with_station at.site c.take.new.self ≡ at.site =
    ap (with_station at.site) c.in_err-_put.ensures.err ∙ ap (λ (o : Option StationView). record at.site { station = o }) (sym c.in-Some-station.is) in
    let taken = subst (λ (x : Site). TakesAll at.yielded c.args.site.now x) (sym same) at.invariant.0 in
    let p = err_from_is_err_and c.from_residual.result c.from_residual.ensures.1 in
    rw (p.1, p.2) (no_memory c.args.frames.items at.yielded (frame ∷ behind) c.args.site.now (with_station at.site c.take.new.self) parts taken)

pub loop-frame-preserved : goal.loop-frame-preserved
loop-frame-preserved c =
    let at = c.loop-frame in
    let frame = c.in-Some.frame in
    let steps : into_iter_items at.frame-iterator ≡ frame ∷ into_iter_items c.next.new.self = c.in-Some.ensures.steps.0 in
    let put = c.in_ok-_put in
    let one = takes_one frame at.site c.in-Some-station.station c.take.new.self put._put c.in-Some-station.is put.ensures.answer
    (λ e. put.ensures.joined (ap (λ (x : Put). Ok x) e)) (λ e. put.ensures.fresh (ap (λ (x : Put). Ok x) e))
    (λ e. put.ensures.one (ap (λ (x : Put). Ok x) e)) put.ensures.stays put.ensures.seen put.ensures.keeper in (
      takes_more at.yielded frame c.args.site.now at.site (with_station at.site c.take.new.self) at.invariant.0 one,
      append_assoc at.yielded (frame ∷ []) _ ∙ rw (← steps) at.invariant.1,
    )
