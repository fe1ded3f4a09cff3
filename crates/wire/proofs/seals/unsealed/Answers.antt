use Rattle.std.proofs.Common.{ℕ, List, take, drop, sym, ap, ◌∙◌, arith}
use Rattle.std.proofs.lemmas.Bool.{iff_false}
use Rattle.ft_types.specs.Text.{word}
use Rattle.wire.specs.Seals.{seal}
use Rattle.wire.proofs.Reading.{no_seal, cut_parts, end_is_seal}
use Rattle.wire.proofs.seals.unsealed.Goals as goal
use Rattle.wire.proofs.seals.unsealed.Goals.{else-is-via-then-is+else-is-2, else-is-via-else-is}

pub returns-then-bytes-lt-SEAL_BYTES-clause-none : goal.returns-then-bytes-lt-SEAL_BYTES-clause-none
returns-then-bytes-lt-SEAL_BYTES-clause-none c = λ text e. no_seal c.args.guest.now c.args.bytes.now text c.if-bytes-lt-SEAL_BYTES.true e

pub returns-else-is-clause-none : goal.returns-else-is-clause-none
returns-else-is-clause-none c = λ text e.
    let parts = end_is_seal c.args.guest.now c.args.bytes.now c.split_at.result.0.now c.split_at.result.1.now text
    (cut_parts c.args.bytes.now c.split_at.result.0.now c.split_at.result.1.now _ c.split_at.ensures.front c.split_at.ensures.back)
    (omega (arith, c.split_at.ensures.back_len, c.if-bytes-lt-SEAL_BYTES.false)) e in
    elim c.else-is.branch [
      | else-is-via-then-is+else-is-2 w ↦ iff_false w.is-then-is.ensures w.if-is-2.false (c.split_at-2.ensures.back ∙ ap (drop 1) parts.1
          ∙ sym (w.word_text.ensures ∙ ap word w.seal_of.ensures ∙ ap (λ (t : List ℕ). word (seal c.args.guest.now t)) parts.0))
      | else-is-via-else-is w ↦ iff_false c.is.ensures w.if-is.false (c.split_at-2.ensures.front ∙ ap (take 1) parts.1)
    ]
