use Rattle.std.proofs.Common.{refl, ◌∷◌, [], ◌++◌, sym, ◌∙◌, arith, length-append}
use Rattle.std.proofs.lemmas.List.{take_all, take_at}
use Rattle.wire.specs.declared.line.TheConstants.{LINE_LIMIT}
use Rattle.wire.proofs.feed.take.Goals as goal
use Rattle.wire.proofs.feed.take.Goals.{then-len-lt-LINE_LIMIT, else-len-lt-LINE_LIMIT}

pub returns-clause-goes_on : goal.returns-clause-goes_on
returns-clause-goes_on c = λ other.
    let more = c.args.held.now ++ c.args.byte ∷ [] in
    let long = length-append c.args.held.now (c.args.byte ∷ []) in (
      elim c.if-len-lt-LINE_LIMIT.branch [
        | then-len-lt-LINE_LIMIT w ↦ w.held-is ∙ w.push.ensures.bytes
            ∙ sym (take_all LINE_LIMIT more (omega (arith, long, c.len.ensures.value, w.if-len-lt-LINE_LIMIT.true)))
        | else-len-lt-LINE_LIMIT w ↦ w.held-is
            ∙ sym (take_at c.args.held.now (c.args.byte ∷ []) LINE_LIMIT
            (omega (arith, c.len.ensures.value, c.len.ensures.limit, w.if-len-lt-LINE_LIMIT.false)))
      ],
      refl,
    )
