use Rattle.std.proofs.Common.{◌<◌, ℕ, length, sym, subst}
use Rattle.ft_types.specs.declared.names.TheConstants.{HART_ROW}
use Rattle.book_modes.specs.declared.mode.Leg.{Leg}
use Rattle.hart_lease.proofs.journals.Sizes.{as_large}
use Rattle.page_book.specs.Books.{BookView}
use Rattle.hart_replay.specs.Leading.{IsHeld, IsLeading}
use Rattle.hart_replay.proofs.rounds.Leases.{free_alone, leads_on, leads_nearer, all_held}
use Rattle.hart_threads.proofs.Finishing.{ended_same, left_leading}
use Rattle.hart_threads.proofs.legs.finish.Goals as goal

pub go_round-requires-clause-free : goal.go_round-requires-clause-free
go_round-requires-clause-free c = free_alone

pub loop-book-init : goal.loop-book-init
loop-book-init c =
    let a = c.args.book in
    let r = c.reclaim.new.self in
    left_leading a r c.reclaim.ensures.book (ended_same a.machine a.leases HART_ROW a.mode r.mode c.reclaim.ensures.mode)
    (as_large r.start r.machine _ c.machine-machine.ensures.run).harts

pub loop-book-preserved : goal.loop-book-preserved
loop-book-preserved c =
    leads_on c.args.book.start c.args.book.mode c.loop-book.book c.go_round.new.book c.loop-book.invariant c.in_ok-go_round.field-0
    c.in_ok-go_round.ensures.rounds c.if-not-branch.false

pub loop-book-smaller : goal.loop-book-smaller
loop-book-smaller c =
    leads_nearer c.args.book.start c.args.book.mode c.loop-book.book c.go_round.new.book c.loop-book.invariant c.in_ok-go_round.field-0
    c.in_ok-go_round.ensures.rounds c.if-not-branch.false

pub returns-then-not-branch : goal.returns-then-not-branch
returns-then-not-branch c =
    let a = c.args.book in
    let b = c.loop-book.book in
    let last =
    all_held a.start a.mode b c.go_round.new.book c.loop-book.invariant c.in_ok-go_round.field-0 c.in_ok-go_round.ensures.rounds c.if-not-branch.true in
    record {
      leading = subst (λ (x : BookView Leg). IsLeading a.start a.mode x) (sym last.0) c.loop-book.invariant;
      held = subst (λ (x : BookView Leg). (hart : ℕ) → hart < length x.machine.harts → IsHeld x hart) (sym last.0) last.1;
    }
