use Rattle.std.proofs.Common.{rules, ◌≡◌, ◌++◌, List, append_assoc, replicate, ap, ◌∙◌}
use Rattle.input_log.specs.declared.WaitingBell.{WaitingBell}
use Rattle.input_log.specs.Waiting.{bells_of}
use Rattle.hart_lease.specs.Runs.{counts_of}
use Rattle.book_modes.specs.Silences.{bell_from, unheard_from}
use Rattle.book_modes.proofs.bells.Unheard.{one_more_source}
use Rattle.book_modes.proofs.unheard.put_unheard.Goals as goal

pub loop-number-preserved : goal.loop-number-preserved
loop-number-preserved c =
    let m = c.args.machine.now in
    let target = c.args.target in
    let i = c.loop-number.invariant in
    let source = c.new-source.result in
    let counted : c.count.result ≡ counts_of m source = search rules in
    let more = one_more_source m target c.loop-number.number source c.count.result c.many_unheard-many.result (search rules) c.many_unheard-many.ensures.value
    counted in
    record {
      bells =
          c.in_ok-put_many.ensures.bells ∙
          (ap (λ (bs : List WaitingBell). bs ++ replicate c.many_unheard-many.result (bell_from source c.count.result)) i.bells ∙
          (append_assoc (bells_of c.args.desk.now target) (unheard_from m target c.loop-number.number) (replicate c.many_unheard-many.result
          (bell_from source c.count.result)) ∙
          ap (λ (bs : List WaitingBell). bells_of c.args.desk.now target ++ bs) more));
      bells_of_others = λ other ne. c.put_many.ensures.bells_of_others other ne ∙ i.bells_of_others other ne;
      others = λ other. c.put_many.ensures.others other ∙ i.others other;
      row = λ some. c.many_unheard-many.ensures.row;
    }
