use Rattle.std.proofs.Common.{length, take, arith}
use Rattle.std.proofs.lemmas.List.{take_rest}
use Rattle.std.proofs.lemmas.Slice.Eq.{slice_eq-Decides}
use Rattle.input_log.proofs.Told.{inputs_told}
use Rattle.input_log.proofs.More.{go_on, hears_more}
use Rattle.input_log.proofs.row.Row.hears_more.Goals as goal

pub returns-then-kept-counts : goal.returns-then-kept-counts
returns-then-kept-counts c =
    let m = c.columns.result.0.now in
    let a = c.columns.result.1.now in
    let n = c.columns-2.result.0.now in
    let b = c.columns-2.result.1.now in
    rw (← c.columns.ensures.value, ← c.columns-2.ensures.value) (
      λ e. absurd (cc e),
      λ p. absurd (let on = go_on n b c.args.count m a c.columns-2.ensures.paired c.columns.ensures.paired p in omega (arith, on.many)),
    )

pub returns-then-not-same_counts : goal.returns-then-not-same_counts
returns-then-not-same_counts c =
    let m = c.columns.result.0.now in
    let a = c.columns.result.1.now in
    let n = c.columns-2.result.0.now in
    let b = c.columns-2.result.1.now in
    rw (← c.columns.ensures.value, ← c.columns-2.ensures.value) (
      λ e. absurd (cc e),
      λ p.
          let on = go_on n b c.args.count m a c.columns-2.ensures.paired c.columns.ensures.paired p in
          absurd (let same = c.same_counts.ensures.1 on.counts in let no = c.if-not-same_counts.true in cc),
    )

pub returns-else-same_inputs : goal.returns-else-same_inputs
returns-else-same_inputs c =
    let m = c.columns.result.0.now in
    let a = c.columns.result.1.now in
    let n = c.columns-2.result.0.now in
    let b = c.columns-2.result.1.now in
    rw (← c.columns.ensures.value, ← c.columns-2.ensures.value) (
      λ e. absurd (let no = c.if-same_inputs.false in cc),
      λ p.
          let told = slice_eq-Decides inputs_told (take (length n) a) b c.same_inputs.result c.same_inputs.ensures in
          let on = go_on n b c.args.count m a c.columns-2.ensures.paired c.columns.ensures.paired p in told.1 on.inputs,
    )

pub returns-then-same_inputs : goal.returns-then-same_inputs
returns-then-same_inputs c =
    let m = c.columns.result.0.now in
    let a = c.columns.result.1.now in
    let n = c.columns-2.result.0.now in
    let b = c.columns-2.result.1.now in
    rw (← c.columns.ensures.value, ← c.columns-2.ensures.value) (
      λ e.
          let told = slice_eq-Decides inputs_told (take (length n) a) b c.same_inputs.result c.same_inputs.ensures in
          hears_more n b c.args.count m a c.columns-2.ensures.paired c.columns.ensures.paired
          (record {
            many = c.if-kept-counts.false;
            counts = c.same_counts.ensures.0 c.if-not-same_counts.false;
            inputs = told.0 c.if-same_inputs.true;
            later = (rw (take_rest m (length n)) at c.all_from.ensures).0 e;
          }),
      λ p. let on = go_on n b c.args.count m a c.columns-2.ensures.paired c.columns.ensures.paired p in (rw (take_rest m (length n)) at c.all_from.ensures).1 on.later,
    )
