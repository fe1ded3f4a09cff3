use Rattle.std.proofs.Common.{◌∙◌, ℕ, refl, subst}
use Rattle.lease_rounds.specs.Leading.{MayGoFor, NoHart}
use Rattle.lease_rounds.proofs.GoingOn.{round_goes, round_stands}
use Rattle.lease_rounds.proofs.rounds.go_round.Goals.{then-branch, else-branch}
use Rattle.lease_rounds.proofs.rounds.go_round.Goals as goal

pub loop-number-init : goal.loop-number-init
loop-number-init g c = record { rounds = NoHart; idle = c.requires.idle; harts = refl }

pub loop-number-preserved : goal.loop-number-preserved
loop-number-preserved g c =
    let old = c.args.book.now in
    let before = c.loop-number.book in
    let now = c.go_for.new.book in
    let n = c.loop-number.number in
    let i = c.loop-number.invariant in
    let goes =
    subst (λ (k : ℕ). MayGoFor g.M.Mode c.args.most c.args.keep c.in_ok-go_for.field-0 k before now) c.new.ensures c.in_ok-go_for.ensures.goes in
    elim c.if-branch.branch [
      | then-branch w ↦
          (let next =
          round_goes g.M.Mode c.args.most c.args.keep old before now c.loop-number.went c.in_ok-go_for.field-0 c.if-branch.went n w.if-branch.true w.went-is i.rounds goes in
          record { rounds = next.0; idle = c.in_ok-go_for.ensures.idle; harts = next.1 ∙ i.harts })
      | else-branch w ↦
          (let next =
          round_stands g.M.Mode c.args.most c.args.keep old before now c.loop-number.went c.in_ok-go_for.field-0 c.if-branch.went n w.if-branch.false w.went-is i.rounds goes in
          record { rounds = next.0; idle = c.in_ok-go_for.ensures.idle; harts = next.1 ∙ i.harts })
    ]
