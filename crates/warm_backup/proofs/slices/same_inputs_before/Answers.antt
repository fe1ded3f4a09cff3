use Rattle.std.proofs.Common.{take, zip, sym, ◌∙◌}
use Rattle.std.proofs.lemmas.Slice.Eq.{slice_eq-Decides}
use Rattle.input_log.proofs.Told.{inputs_told}
use Rattle.warm_backup.proofs.Firsts.{hears_from_same, inputs_below_are, paired_below, same_from_hears, same_zips}
use Rattle.warm_backup.proofs.slices.same_inputs_before.Goals as goal

pub returns-then-same_counts : goal.returns-then-same_counts
returns-then-same_counts c =
    let end = c.args.end in
    let m = c.of_hart.result.0.now in
    let a = c.of_hart.result.1.now in
    let n = c.of_hart-2.result.0.now in
    let b = c.of_hart-2.result.1.now in
    let i = c.counts_before-many.result in
    let j = c.counts_before-few.result in
    let x = c.counts_before-many.ensures in
    let y = c.counts_before-few.ensures in
    let told = slice_eq-Decides inputs_told (take i a) (take j b) c.same_inputs.result c.same_inputs.ensures in
    let both = same_zips (take i m) (take j n) (take i a) (take j b) (paired_below end i m a c.of_hart.ensures.paired x.within x.before x.from)
    (paired_below end j n b c.of_hart-2.ensures.paired y.within y.before y.from) in
    let mine = inputs_below_are end i m a c.of_hart.ensures.paired x.within x.before x.from in
    let theirs = inputs_below_are end j n b c.of_hart-2.ensures.paired y.within y.before y.from in
    rw (← c.of_hart.ensures.value, ← c.of_hart-2.ensures.value) (
      λ yes.
          hears_from_same end j (zip m a) n b c.of_hart-2.ensures.paired y.within y.before y.from
          (mine ∙ (both.1 (c.same_counts.ensures.0 c.if-same_counts.true, told.0 yes) ∙ sym theirs)),
      λ hears.
          let same = same_from_hears end j (zip m a) n b c.of_hart-2.ensures.paired y.within y.before y.from hears in
          told.1 (both.0 (sym mine ∙ (same ∙ theirs))).1,
    )

pub returns-else-same_counts : goal.returns-else-same_counts
returns-else-same_counts c =
    let end = c.args.end in
    let m = c.of_hart.result.0.now in
    let a = c.of_hart.result.1.now in
    let n = c.of_hart-2.result.0.now in
    let b = c.of_hart-2.result.1.now in
    let i = c.counts_before-many.result in
    let j = c.counts_before-few.result in
    let x = c.counts_before-many.ensures in
    let y = c.counts_before-few.ensures in
    let both = same_zips (take i m) (take j n) (take i a) (take j b) (paired_below end i m a c.of_hart.ensures.paired x.within x.before x.from)
    (paired_below end j n b c.of_hart-2.ensures.paired y.within y.before y.from) in
    let mine = inputs_below_are end i m a c.of_hart.ensures.paired x.within x.before x.from in
    let theirs = inputs_below_are end j n b c.of_hart-2.ensures.paired y.within y.before y.from in
    rw (← c.of_hart.ensures.value, ← c.of_hart-2.ensures.value) (
      λ yes. absurd (let no = c.if-same_counts.false in cc),
      λ hears.
          let same = same_from_hears end j (zip m a) n b c.of_hart-2.ensures.paired y.within y.before y.from hears in
          c.same_counts.ensures.1 (both.0 (sym mine ∙ (same ∙ theirs))).0,
    )
