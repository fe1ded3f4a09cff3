use Rattle.std.proofs.Common.{ℕ, subst, arith}
use Rattle.log_audit.proofs.Rounds.{HadTurns, had_none, had_on, had_harts, had_leg, had_all, found_held, found_went, found_clash}
use Rattle.log_audit.proofs.legs.go_round.Goals.{in-Held, in-Went}
use Rattle.log_audit.proofs.legs.go_round.Goals as goal

pub new-requires : goal.new-requires
new-requires c = let few = c.requires.few in let less = c.loop-number-test.true in omega (arith, few, less)

pub loop-number-init : goal.loop-number-init
loop-number-init c = had_none c.args.leg.now c.args.harts.now

pub go-requires-clause-hart : goal.go-requires-clause-hart
go-requires-clause-hart c =
    let many = c.requires.many in
    let less = c.loop-number-test.true in
    let same = had_harts c.args.leg.now c.loop-number.number c.args.harts.now c.loop-number.turn c.loop-number.harts c.requires.on c.loop-number.invariant in
    let is = c.new.ensures in
    omega (arith, many, less, same, is)

pub go-requires-clause-leg : goal.go-requires-clause-leg
go-requires-clause-leg c =
    had_leg c.args.leg.now c.loop-number.number c.args.harts.now c.loop-number.turn c.loop-number.harts c.requires.leg c.loop-number.invariant

pub go-requires-clause-on : goal.go-requires-clause-on
go-requires-clause-on c =
    had_on c.args.leg.now c.loop-number.number c.args.harts.now c.loop-number.turn c.loop-number.harts c.requires.on c.loop-number.invariant

pub returns-in-Clashed : goal.returns-in-Clashed
returns-in-Clashed c =
    record {
      turns =
          found_clash c.args.leg.now c.loop-number.number c.args.harts.now c.loop-number.turn c.loop-number.harts c.go.new.self c.loop-number.invariant
          c.new.result c.new.ensures c.in_ok-go.field-0 c.in_ok-go.ensures.turns c.in-Clashed.clash c.in-Clashed.is;
    }

pub loop-number-preserved : goal.loop-number-preserved
loop-number-preserved c =
    elim c.match-branch-2.branch [
      | in-Held w ↦
          found_held c.args.leg.now c.loop-number.number c.args.harts.now c.loop-number.turn c.loop-number.harts c.go.new.self c.loop-number.invariant
          c.new.result c.new.ensures c.in_ok-go.field-0 c.in_ok-go.ensures.turns c.match-branch-2.turn w.in-Held.is w.turn-is
      | in-Went w ↦
          found_went c.args.leg.now c.loop-number.number c.args.harts.now c.loop-number.turn c.loop-number.harts c.go.new.self c.loop-number.invariant
          c.new.result c.new.ensures c.in_ok-go.field-0 c.in_ok-go.ensures.turns c.match-branch-2.turn w.in-Went.is w.turn-is
    ]

pub returns : goal.returns
returns c =
    let all = c.loop-number-test.false in
    let within = c.loop-number.auto.number-end in
    record {
      turns =
          had_all c.args.leg.now c.args.many c.args.harts.now c.loop-number.turn c.loop-number.harts
          (subst (λ (n : ℕ). HadTurns c.args.leg.now n c.args.harts.now c.loop-number.turn c.loop-number.harts) (omega (arith, all, within))
          c.loop-number.invariant);
    }
