use Rattle.std.proofs.Common.{◌∙◌, ap}
use Rattle.primary.specs.declared.granted.Primary.{Primary}
use Rattle.log_streams.proofs.Waiting.{offered_next}
use Rattle.log_streams.proofs.first_term.offer_script.Goals as goal

pub loop-offered-preserved : goal.loop-offered-preserved
loop-offered-preserved c = (
  c.in_ok-offer.ensures.rest
      ∙ ap (λ (p : Primary). let x : Primary = record p { book = record p.book { mode = c.offer.new.self.book.mode } } in x) c.loop-offered.invariant.0,
  offered_next c.args.primary.now.book.mode c.args.script.now c.loop-offered.offered-index c.offered-item.result c.loop-offered.primary.book.mode
      c.offer.new.self.book.mode c.loop-offered-test.true c.offered-item.is c.loop-offered.invariant.1 c.in_ok-offer.ensures.offered,
)
