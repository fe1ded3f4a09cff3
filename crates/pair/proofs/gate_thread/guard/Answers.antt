use Rattle.std.proofs.Common.{◌≡◌, ap, refl, subst, sym, ◌∙◌}
use Rattle.std.specs.List.{AllByRecursion}
use Rattle.output_gate.specs.Gates.{GateView}
use Rattle.pair.specs.Serving.{IsHeard}
use Rattle.pair.proofs.Heard.{heard_all}
use Rattle.pair.proofs.Offered.{none_offered}
use Rattle.pair.proofs.gate_thread.guard.Goals as goal
use Rattle.pair.proofs.gate_thread.guard.Goals.{in-None, in-Some+in_ok-ended+in_default}

pub loop-init : goal.loop-init
loop-init g c = record {
  place = c.requires.place;
  last = none_offered c.args.watch.gate c.no_steps-last.result c.requires.empty c.no_steps-last.ensures;
  need = refl;
  heard = subst (AllByRecursion (IsHeard c.args.board.now c.args.watch.seat c.args.watch.gate.need)) (sym c.new-released.ensures.items) tt;
}

pub loop-preserved : goal.loop-preserved
loop-preserved g c =
    let need = ap (λ (v : GateView). v.need) c.in_ok-ended.ensures.rest ∙ c.loop.invariant.need in
    let at = c.in_ok-look_on.ensures.place in record {
      place = at;
      last = c.in_ok-look_on.ensures.last c.listen.new.last c.in_ok-ended.ensures.last;
      need = c.in_ok-look_on.ensures.need ∙ need;
      heard = heard_all c.args.board.now c.look_on.new.gate c.loop.seat c.look_on.new.seat c.args.watch.gate.need c.loop.released.items _ c.look_on.new.released.items
          at.3 (c.in_ok-look_on.ensures.need ∙ need) c.in_ok-look_on.ensures.heard c.loop.invariant.heard c.in_ok-look_on.ensures.inside
          c.in_ok-look_on.ensures.released;
    }

pub returns-clause-heard : goal.returns-clause-heard
returns-clause-heard g c =
    let same : c.match-next.gate.need ≡ c.args.watch.gate.need = elim c.match-next.branch [
      | in-None w ↦ ap (λ (v : GateView). v.need) w.gate-is ∙ c.loop.invariant.need
      | in-Some+in_ok-ended+in_default w ↦ ap (λ (v : GateView). v.need) w.gate-is ∙ ap (λ (v : GateView). v.need) w.in_ok-ended.ensures.rest
          ∙ c.loop.invariant.need
    ] in
    let said = c.in_ok-_gate.ensures in
    heard_all c.args.board.now c.in_ok-_gate._gate c.loop.seat c.in_ok-_gate.seat c.args.watch.gate.need c.loop.released.items _ c.in_ok-_gate.released.items
    said.place.3 (said.need ∙ same) said.heard c.loop.invariant.heard said.inside said.released
