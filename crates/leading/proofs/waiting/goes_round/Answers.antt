use Rattle.std.proofs.Common.{◌≡◌, ◌+◌, refl, sym, ap, subst, ◌∙◌, arith}
use Rattle.rv32_hart.specs.Hart.{Hart, without_outputs}
use Rattle.rv32_hart.specs.Ram.{Ram, may_write}
use Rattle.hart_lease.specs.Slots.{ram_of}
use Rattle.leading.specs.Waiting.{TakesStep}
use Rattle.leading.proofs.GoingRound.{never, never_yet, not_yet_more, one_further, round_by, stuck}
use Rattle.leading.proofs.waiting.goes_round.Goals as goal

pub loop-step-init : goal.loop-step-init
loop-step-init c = record {
  pages = refl;
  takes = c.without_outputs-state.ensures;
  never = never_yet (ram_of c.args.pages.now) c.args.stand.now;
}

pub goes_on-requires : goal.goes_on-requires
goes_on-requires c = λ page. ap (λ (r : Ram). may_write r page) c.loop-step.invariant.pages ∙ c.requires page

pub returns-then-not-goes_on-clause-round : goal.returns-then-not-goes_on-clause-round
returns-then-not-goes_on-clause-round c = (
  λ e. absurd (cc e),
  λ round.
      absurd (stuck c.loop-step._step (ram_of c.args.pages.now) c.args.stand.now c.loop-step.state c.loop-step.invariant.never c.loop-step.invariant.takes
      (λ next step.
      c.goes_on.ensures.stuck c.if-not-goes_on.true next
      (subst (λ (r : Ram). TakesStep r c.loop-step.state next) (sym c.loop-step.invariant.pages) step)) round),
)

pub returns-then-not-goes_on-clause-pages : goal.returns-then-not-goes_on-clause-pages
returns-then-not-goes_on-clause-pages c = c.goes_on.ensures.pages ∙ c.loop-step.invariant.pages

pub returns-then-stands_again-clause-round : goal.returns-then-stands_again-clause-round
returns-then-stands_again-clause-round c =
    let ram = ram_of c.args.pages.now in
    let stand = c.args.stand.now in
    let was = c.loop-step.invariant in
    let takes = one_further c.loop-step._step ram (ram_of c.loop-step.pages) (without_outputs stand) c.loop-step.state c.goes_on.new.state was.pages was.takes
    (c.goes_on.ensures.goes c.if-not-goes_on.false) in (
      λ e. round_by c.loop-step._step ram stand c.goes_on.new.state (omega (arith, c.loop-step-test.true)) takes (c.stands_again.ensures.0 c.if-stands_again.true),
      λ round. refl,
    )

pub returns-then-stands_again-clause-pages : goal.returns-then-stands_again-clause-pages
returns-then-stands_again-clause-pages c = c.goes_on.ensures.pages ∙ c.loop-step.invariant.pages

pub loop-step-preserved : goal.loop-step-preserved
loop-step-preserved c =
    let ram = ram_of c.args.pages.now in
    let stand = c.args.stand.now in
    let was = c.loop-step.invariant in
    let takes = one_further c.loop-step._step ram (ram_of c.loop-step.pages) (without_outputs stand) c.loop-step.state c.goes_on.new.state was.pages was.takes
    (c.goes_on.ensures.goes c.if-not-goes_on.false) in
    record {
      pages = c.goes_on.ensures.pages ∙ was.pages;
      takes = takes;
      never = not_yet_more c.loop-step._step ram stand c.goes_on.new.state was.never takes
          (λ again. let yes = c.stands_again.ensures.1 again in let no = c.if-stands_again.false in cc);
    }

pub returns-clause-round : goal.returns-clause-round
returns-clause-round c = (
  λ e. absurd (cc e),
  λ round.
      absurd
      (never c.loop-step._step (ram_of c.args.pages.now) c.args.stand.now (omega (arith, c.loop-step-test.false)) c.loop-step.invariant.never round),
)

pub returns-clause-pages : goal.returns-clause-pages
returns-clause-pages c = c.loop-step.invariant.pages
