use Rattle.std.proofs.Common.{◌≡◌, inl, inr, ◌++◌, List, length, refl, ap, subst, ◌∙◌, arith}
use Rattle.ft_types.specs.declared.output.Output.{Output}
use Rattle.output_gate.specs.Orders.{AreAbove}
use Rattle.output_gate.specs.Gates.{line_of, held_outputs, after_release}
use Rattle.term_gate.specs.TermGates.{TermGateView}
use Rattle.primary.specs.declared.released.Released.{Released}
use Rattle.primary.specs.Gating.{IsAsItWas, LetGo, released_in}
use Rattle.primary.proofs.Waiting.{still_offered, released_offered}
use Rattle.primary.proofs.Gates.{offers_rest, rest_after, was_offered, acked_before, same_lines, every_line, few_held, left_if}
use Rattle.primary.proofs.gating.release_outputs.Goals as goal

-- ---- an offer was refused

pub returns-in_err-offer_all-clause-rest : goal.returns-in_err-offer_all-clause-rest
returns-in_err-offer_all-clause-rest c = offers_rest c.args.gate.now c.offer_all.new.gate c.offer_all.ensures.more

pub returns-in_err-offer_all-clause-was : goal.returns-in_err-offer_all-clause-was
returns-in_err-offer_all-clause-was c =
    let g = c.offer_all.new.gate in
    left_if c.from_residual.result (IsAsItWas c.args.gate.now g) (was_offered c.args.gate.now g g c.offer_all.ensures.more refl refl (inl refl))

-- ---- there was no room

pub returns-in_err-reserve-clause-rest : goal.returns-in_err-reserve-clause-rest
returns-in_err-reserve-clause-rest c = offers_rest c.args.gate.now c.offer_all.new.gate c.offer_all.ensures.more

pub returns-in_err-reserve-clause-was : goal.returns-in_err-reserve-clause-was
returns-in_err-reserve-clause-was c =
    let g = c.offer_all.new.gate in
    left_if c.from_residual-in_err-reserve.result (IsAsItWas c.args.gate.now g)
    (was_offered c.args.gate.now g g c.offer_all.ensures.more refl refl (inl refl))

-- ---- the release was refused

pub returns-in_err-given-clause-rest : goal.returns-in_err-given-clause-rest
returns-in_err-given-clause-rest c =
    rest_after c.args.gate.now c.offer_all.new.gate c.release-given.new.self c.offer_all.ensures.more c.release-given.ensures.rest

pub returns-in_err-given-clause-offered : goal.returns-in_err-given-clause-offered
returns-in_err-given-clause-offered c = λ rising.
    same_lines c.offer_all.new.gate.gate c.release-given.new.self.gate c.args.machine.now c.in_err-given.ensures.err c.offer_all.ensures.offered

pub returns-in_err-given-clause-was : goal.returns-in_err-given-clause-was
returns-in_err-given-clause-was c =
    let g = c.release-given.new.self in
    left_if c.from_residual-in_err-given.result (IsAsItWas c.args.gate.now g)
    (was_offered c.args.gate.now c.offer_all.new.gate g c.offer_all.ensures.more c.release-given.ensures.rest c.in_err-given.ensures.err
    (inr c.release-given.ensures.acked))

-- ---- outputs went out

pub add_released-requires : goal.add_released-requires
add_released-requires c =
    let room = c.in_ok-reserve.ensures.ok in
    let kept = c.kept.ensures in
    let few = few_held c.offer_all.new.gate.gate.need c.release-given.new.self.gate.noted c.offer_all.new.gate.gate.lines in
    let many = ap length (c.deref.ensures.value ∙ c.in_ok-given.ensures.given) in
    omega (arith, room, kept, few, many)

pub returns-clause-rest : goal.returns-clause-rest
returns-clause-rest c =
    rest_after c.args.gate.now c.offer_all.new.gate c.release-given.new.self c.offer_all.ensures.more c.release-given.ensures.rest

pub returns-clause-offered : goal.returns-clause-offered
returns-clause-offered c = λ rising.
    let g = c.offer_all.new.gate in
    let h = c.release-given.new.self in
    released_offered g.gate h.gate c.args.machine.now c.offer_all.ensures.offered
    (still_offered g.gate.need h.gate.noted g.gate h.gate c.args.machine.now rising c.offer_all.ensures.offered
    (every_line g.gate.need h.gate.noted g.gate h.gate c.offered-before.ensures.harts c.offered-after.ensures.harts c.in_ok-given.ensures.lines))

pub returns-clause-goes : goal.returns-clause-goes
returns-clause-goes c =
    let r = c.args.gate.now in
    let g = c.offer_all.new.gate in
    let h = c.release-given.new.self in
    let need : g.gate.need ≡ r.gate.need = ap (λ (x : TermGateView). x.gate.need) c.offer_all.ensures.more.rest in
    let out = held_outputs r.gate.need h.gate.noted g.gate.lines in
    let given = c.in_ok-given.ensures.given ∙ ap (λ n. held_outputs n h.gate.noted g.gate.lines) need in
    let goes : LetGo c.args.term c.args.machine.now r c.args.released.now.items h c.add_released.new.released.items = record {
      offered = g;
      more = c.offer_all.ensures.more;
      all = c.in_ok-offer_all.ensures.all;
      harts = c.offered-before.ensures.harts;
      passed = c.offered-before.ensures.passed;
      acked = acked_before r g h.gate.noted c.offer_all.ensures.more c.release-given.ensures.acked;
      lines = λ hart.
          every_line g.gate.need h.gate.noted g.gate h.gate c.offered-before.ensures.harts c.offered-after.ensures.harts c.in_ok-given.ensures.lines hart
          ∙ ap (λ n. after_release n h.gate.noted (line_of g.gate hart)) need;
      gate = rest_after r g h c.offer_all.ensures.more c.release-given.ensures.rest;
      given = out;
      held = refl;
      above = subst (λ (os : List Output). AreAbove g.gate os) given c.in_ok-given.ensures.above;
      out =
          c.add_released.ensures
          ∙ ap (λ (rs : List Released). rs ++ released_in c.args.term c.deref.result.now) c.reserve.ensures.items
          ∙ ap (λ os. c.args.released.now.items ++ released_in c.args.term os) (c.deref.ensures.value ∙ given);
    } in (goes, given)
