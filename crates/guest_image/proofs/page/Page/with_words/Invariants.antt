use Rattle.guest_image.proofs.BootFacts.{HasWords}
use Rattle.guest_image.proofs.page.Page.with_words.Given as goal

abbrev pub invariant-loop-i : goal.invariant-loop-i
invariant-loop-i l = HasWords l.words l.i l.bytes
