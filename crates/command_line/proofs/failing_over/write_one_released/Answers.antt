use Rattle.std.proofs.Common.{◌≡◌, List, ℕ, ◌++◌, refl, subst}
use Rattle.std.specs.Prelude.{codes, decimal}
use Rattle.ft_types.specs.Text.{line, word}
use Rattle.guest_image.proofs.TextFacts.{WritesTo}
use Rattle.command_line.specs.FailingOver.{released_line}
use Rattle.command_line.proofs.failing_over.write_one_released.Goals as goal

pub returns : goal.returns
unfolding released_line
returns g c =
    let r = c.args.released.now in
    let front : c.push_number-3.new.self ≡ codes "term " ++ decimal r.term ++ codes " hart " ++ decimal r.output.hart ++ codes " number "
    ++ decimal r.output.number =
    rw (
      c.push_number-3.ensures.text,
      c.push-3.ensures,
      c.push_number-2.ensures.text,
      c.push-2.ensures,
      c.push_number.ensures.text,
      c.push.ensures,
      c.new-front.ensures,
      c.from.ensures,
      c.from-2.ensures,
      c.number.ensures.value,
    ) refl
    in
    let back : c.push_word.new.self ≡ codes " step " ++ decimal r.output.step ++ codes " word " ++ word r.output.word =
    rw (c.push_word.ensures.text, c.push-5.ensures, c.push_number-4.ensures.text, c.push-4.ensures, c.new-back.ensures) refl
    in
    let written : List ℕ → Type 0 = λ all. WritesTo g.W.Sink.bytes g.W.Sink.failures c.write_long_line.result c.args.out.now c.write_long_line.new.out all in
    let text : c.push_number-3.new.self ++ line c.push_word.new.self ≡ released_line r = rw (front, back) refl in
    subst written text c.write_long_line.ensures
