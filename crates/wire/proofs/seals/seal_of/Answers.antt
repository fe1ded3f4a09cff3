use Rattle.std.proofs.Common.{◌∙◌}
use Rattle.wire.proofs.Reading.{seal_is}
use Rattle.wire.proofs.seals.seal_of.Goals as goal

pub returns : goal.returns
returns c = seal_is c.args.guest.now c.args.text.now c.as_slice.result.now c.finalize-digest.result c.from_be_bytes.result
    (c.finalize-digest.ensures _ (c.update-2.ensures _ (c.update.ensures _ c.new-hasher.ensures))) (c.as_slice.ensures ∙ c.digest.ensures)
    c.from_be_bytes.ensures
