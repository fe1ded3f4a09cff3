use Rattle.std.proofs.Common.{arith, ◌≡◌, ◌<◌, ◌∙◌, ℕ, length, ap, sym, subst}
use Rattle.ft_types.specs.declared.quorum.Quorum.{Quorum}
use Rattle.output_gate.specs.Gates.{offered_in}
use Rattle.output_gate.specs.Looks.{IsSeen}
use Rattle.std.specs.List.{AllByRecursion}
use Rattle.log_streams.specs.Primary.{IsReady, IsRunOf}
use Rattle.pair.specs.Serving.{IsHeldOnTheWay}
use Rattle.pair.proofs.HeldOutputs.{if_ok}
use Rattle.pair.proofs.Leading.{may_lead, run_of}
use Rattle.pair.proofs.threads.run_kept.Goals as goal

pub man_posts-requires-clause-seats : goal.man_posts-requires-clause-seats
man_posts-requires-clause-seats g c =
    let said = c.in_ok-board.ensures in (
      said.seats ∙ sym said.board.2,
      λ k other less. said.keepers k other (subst (λ (n : ℕ). k < n) said.seats less),
    )

pub run_all-requires-clause-primary : goal.run_all-requires-clause-primary
run_all-requires-clause-primary g c κs order =
    may_lead c.args.image.now c.args.script.now c.budget.result _ c.in_ok-primary.ensures.ready c.in_ok-primary.ensures.first
    (c.budget-2.ensures ∙ sym c.budget.ensures)

pub run_all-requires-clause-watch : goal.run_all-requires-clause-watch
run_all-requires-clause-watch g c κs within =
    let noted = c.new-gate.ensures.noted in
    let seen : IsSeen c.in_ok-board.board c.new-gate.result c.in_ok-board.seat =
    record {
      below = λ keeper hart few less. omega (arith, noted keeper hart);
      no_keeper = λ keeper hart past. noted keeper hart;
      no_hart = λ keeper hart past. noted keeper hart;
    } in
    record {
      place = (
        c.in_ok-board.ensures.board.0 ∙ sym c.new-gate.ensures.parts.0,
        c.in_ok-board.ensures.board.2 ∙ c.keepers.ensures.value ∙ sym c.keepers-2.ensures.value ∙ sym c.new-gate.ensures.parts.1,
        c.in_ok-board.ensures.gate.0,
        seen,
      );
      empty = λ hart below. ap offered_in (c.new-gate.ensures.lines hart);
    }

pub returns-clause-run : goal.returns-clause-run
returns-clause-run g c =
    let ready = subst (λ (n : ℕ). IsReady c.args.image.now c.args.script.now n c.in_ok-primary.primary.book) c.budget.ensures c.in_ok-primary.ensures.ready in
    let said = c.run_all.ensures in
    if_ok c.run_all.result (λ end. IsRunOf c.args.image.now c.args.script.now c.args.orders.now.budget end.book) said.led said.led said.led
    (λ end led _ _. run_of c.args.image.now c.args.script.now c.args.orders.now.budget c.in_ok-primary.primary.book end.book ready led)

pub returns-clause-inside : goal.returns-clause-inside
returns-clause-inside g c =
    let said = c.run_all.ensures in
    let need = c.new-gate.ensures.parts.2 ∙ c.need.ensures.value ∙ ap (λ (q : Quorum). q.need) c.quorum-quorum.ensures in
    if_ok c.run_all.result (λ end. AllByRecursion (IsHeldOnTheWay end.stores.items 1 c.args.orders.now.quorum.need) end.released.items) said.inside said.inside said.inside
    (λ end inside _ _. subst (λ (n : ℕ). AllByRecursion (IsHeldOnTheWay end.stores.items 1 n) end.released.items) need
    (subst (λ (t : ℕ). AllByRecursion (IsHeldOnTheWay end.stores.items t c.new-gate.result.need) end.released.items) c.in_ok-board.ensures.board.0 inside))

pub returns-clause-stores : goal.returns-clause-stores
returns-clause-stores g c =
    let said = c.run_all.ensures in
    let keepers = c.in_ok-board.ensures.board.2 ∙ c.keepers.ensures.value ∙ ap (λ (q : Quorum). q.keepers) c.quorum-quorum.ensures in
    if_ok c.run_all.result (λ end. length end.stores.items ≡ c.args.orders.now.quorum.keepers) said.stores said.stores said.stores
    (λ end count _ _. count ∙ keepers)
