use Rattle.std.proofs.Common.{◌≡◌, [], ◌∷◌, ◌++◌, OnOk, length, slice_index_or, sym, subst}
use Rattle.output_gate.specs.Gates.{GateView, fresh_line, offered_in, offered_of}
use Rattle.output_gate.proofs.Gates.{gate_longer, gate_offered, next_is_behind}
use Rattle.output_gate.proofs.gate.Gate.offer.Goals as goal

pub invariant_of-self : goal.invariant_of-self
invariant_of-self c = let e = c.offer_in.ensures in let x = c.args.output in
    gate_offered c.offer_in.result c.self.inside.keepers c.self.inside.need c.self.inside.noted c.self.inside.lines c.offer_in.new.lines x (fresh_line 0) c.self.invariant e.harts e.hart e.line e.others e.err
    (subst (λ (v : GateView). x.number ≡ length (offered_of v x.hart)) (sym c.self.view_is) c.requires.number)

pub offer_in-requires : goal.offer_in-requires
offer_in-requires c =
    next_is_behind c.self.inside.keepers c.self.inside.need c.self.inside.noted c.self.inside.lines c.args.output c.self.invariant
    (subst (λ (v : GateView). c.args.output.number ≡ length (offered_of v c.args.output.hart)) (sym c.self.view_is) c.requires.number)

pub returns-clause-offered : goal.returns-clause-offered
returns-clause-offered c =
    let e = c.offer_in.ensures in
    let x = c.args.output in
    subst
    (λ (v : GateView). OnOk c.offer_in.result (offered_in (slice_index_or c.offer_in.new.lines x.hart (fresh_line 0)) ≡ offered_of v x.hart ++ x ∷ []))
    c.self.view_is
    (gate_longer c.offer_in.result c.self.inside.keepers c.self.inside.need c.self.inside.noted c.self.inside.lines c.offer_in.new.lines x c.self.invariant
    e.hart e.line (subst (λ (v : GateView). x.number ≡ length (offered_of v x.hart)) (sym c.self.view_is) c.requires.number))
