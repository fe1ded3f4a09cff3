use Rattle.std.proofs.Common.{◌≡◌, List, ℕ, refl, subst}
use Rattle.ft_types.specs.Text.{line}
use Rattle.guest_image.proofs.TextFacts.{WritesTo}
use Rattle.pair.specs.Printing.{live_line}
use Rattle.pair.proofs.printing.write_live.Goals as goal

pub returns : goal.returns
unfolding live_line
returns g c =
    let written : List ℕ → Type 0 = λ all. WritesTo g.W.Sink.bytes g.W.Sink.failures c.write.result c.args.out.now c.write.new.out all in
    let text : line c.push_number.new.self ≡ live_line c.args.steps = rw (c.push_number.ensures.text, c.push.ensures, c.new-text.ensures) refl in
    subst written text c.write.ensures
