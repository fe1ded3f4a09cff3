use Rattle.std.proofs.Common.{◌∙◌, ◌≤◌, ap, subst, sym, arith, Result, Ok, Err, IfOk}
use Rattle.ft_types.specs.Counts.{count_at}
use Rattle.std.specs.List.{range_with_len}
use Rattle.hart_lease.specs.Runs.{counts_of}
use Rattle.hart_replay.proofs.walking.Outcomes.{booted_none}
use Rattle.log_streams.specs.Primary.{IsRunBy}
use Rattle.log_streams.proofs.first_term.run_primary.Goals as goal

-- what follows from all that a run's clauses say of its book
if_all : {X E : Type 0} (r : Result X E) {A B C D F G H : X → Type 0} (Q : X → Type 0) →
    IfOk r A → IfOk r B → IfOk r C → IfOk r D → IfOk r F → IfOk r G → IfOk r H →
    ((x : X) → A x → B x → C x → D x → F x → G x → H x → Q x) → IfOk r Q
if_all (Ok x) Q a b c d f g h follows = follows x a b c d f g h
if_all (Err e) Q a b c d f g h follows = tt

pub run_book-requires-clause-below : goal.run_book-requires-clause-below
run_book-requires-clause-below o c hart =
    subst (λ n. n ≤ count_at c.in_ok-book.book.mode.limits hart)
    (sym (ap (λ m. counts_of m hart) c.in_ok-book.ensures.machine ∙ booted_none _ (range_with_len 0 _) hart))
    (omega arith)

pub returns-clause-run : goal.returns-clause-run
returns-clause-run g c =
    let said = c.run_book.ensures in
    if_all c.run_book.result (λ b. IsRunBy (g.P.Runs.goes c.args.runs.now) c.args.image.now c.args.script.now c.args.limit b)
    said.done said.continues said.runs said.offered said.limits said.counts said.order
    (λ b done continues runs offered limits counts order. record {
      run = record {
        before = c.in_ok-book.book;
        ready = c.in_ok-book.ensures;
        goes_on = continues;
        runs = runs;
        offered = offered;
        within = counts;
        limits = limits;
        through = done;
      };
      order = order;
    })
