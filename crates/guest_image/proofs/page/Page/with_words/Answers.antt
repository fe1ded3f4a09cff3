use Rattle.std.proofs.Common.{arith, ◌∙◌}
use Rattle.guest_image.proofs.BootFacts.{page_goes_on, page_is}
use Rattle.guest_image.proofs.page.Page.with_words.Goals as goal

pub loop-i-preserved : goal.loop-i-preserved
loop-i-preserved c =
    page_goes_on c.args.words.now c.loop-i.bytes c.put_word.new.bytes c.loop-i.i c.loop-i-test.true c.put_word.ensures.front
    c.put_word.ensures.rest c.put_word.ensures.length c.loop-i.invariant

pub returns : goal.returns
returns c = c.in_ok-bytes.ensures.ok ∙ page_is c.args.words.now c.loop-i.bytes c.loop-i.i (omega arith) (omega arith) c.loop-i.invariant
