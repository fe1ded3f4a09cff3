use Rattle.std.proofs.Common.{◌≡◌, ◌<◌, ℕ, List, ◌++◌, ◌∙◌, ap, subst, slice_index_or}
use Rattle.std.specs.List.Sorted.{IsPermutation}
use Rattle.ft_types.specs.declared.output.Output.{Output}
use Rattle.ft_types.specs.declared.names.TheConstants.{HART_LIMIT}
use Rattle.output_gate.specs.Gates.{LineView, GateView, fresh_line, offered_in, offered_of, held_outputs}
use Rattle.output_gate.specs.Orders.{StepsRise, AreAbove}
use Rattle.output_gate.proofs.Gates.{gate_releases, offered_moves, offered_stays}
use Rattle.output_gate.proofs.Orders.{given_rises, given_above}
use Rattle.output_gate.proofs.gate.Gate.release_held.Goals as goal

pub invariant_of-self : goal.invariant_of-self
invariant_of-self c = gate_releases c.self.inside.keepers c.self.inside.need c.self.inside.noted c.self.inside.lines c.advance_all.new.lines
    c.self.invariant c.advance_all.ensures.harts c.advance_all.ensures.each

pub returns-clause-rising : goal.returns-clause-rising
returns-clause-rising c = given_rises c.self.inside.need c.self.inside.noted c.self.inside.lines _ c.self.invariant.harts c.self.invariant.each
    (c.in_ok-held.ensures.given ∙ ap (λ (l : List Output). l ++ held_outputs c.self.inside.need c.self.inside.noted c.self.inside.lines)
    c.new-given.ensures.items)

abbrev now_offered : List LineView → ℕ → List Output
now_offered lines hart = offered_in (slice_index_or lines hart (fresh_line 0))

-- whatever is given is above the marks that are seen
above_seen : (inside seen : GateView) (given : List Output) → inside ≡ seen → AreAbove inside given → AreAbove seen given
above_seen inside seen given is above = subst (λ (v : GateView). AreAbove v given) is above

pub returns-clause-above : goal.returns-clause-above
returns-clause-above c = above_seen _ _ _ c.self.view_is
    (given_above c.self.inside.need c.self.inside.noted c.self.inside.lines _ c.self.invariant.harts c.self.invariant.each
    (c.in_ok-held.ensures.given ∙ ap (λ (l : List Output). l ++ held_outputs c.self.inside.need c.self.inside.noted c.self.inside.lines)
    c.new-given.ensures.items))

pub returns-clause-same : goal.returns-clause-same
returns-clause-same c =
    subst (λ (v : GateView). (hart : ℕ) → hart < HART_LIMIT → IsPermutation (offered_of v hart) (now_offered c.advance_all.new.lines hart)) c.self.view_is
    (offered_moves c.self.inside.need c.self.inside.noted c.self.inside.lines c.advance_all.new.lines c.advance_all.ensures.each)

pub returns-clause-offered : goal.returns-clause-offered
returns-clause-offered c =
    subst (λ (v : GateView). (hart : ℕ) → hart < HART_LIMIT → StepsRise (offered_of v hart) → now_offered c.advance_all.new.lines hart ≡ offered_of v hart)
    c.self.view_is
    (offered_stays c.self.inside.keepers c.self.inside.need c.self.inside.noted c.self.inside.lines c.advance_all.new.lines c.self.invariant
    c.advance_all.ensures.each)
