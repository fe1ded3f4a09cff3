use Rattle.std.proofs.Common.{◌≡◌, ℕ, List, [], ◌∷◌, ◌++◌, refl, sym, subst, append_assoc}
use Rattle.std.specs.Prelude.{codes, decimal}
use Rattle.ft_types.specs.Text.{line}
use Rattle.guest_image.proofs.TextFacts.{WritesTo}
use Rattle.command_line.specs.Faults.{step_text, uncovered_line}
use Rattle.command_line.proofs.faults.write_uncovered.Goals as goal

pub returns : goal.returns
returns g c =
    let page : List ℕ = codes "fault audit 1 page " ++ decimal c.args.page in
    let front : c.push_step.new.text ≡ page ++ step_text c.args.one =
    rw (c.push_step.ensures.text, c.push_number.ensures.text, c.push.ensures, c.new-front.ensures, c.from.ensures, c.number.ensures.value) refl
    in
    let back : c.push_step-2.new.text ≡ step_text c.args.other = rw (c.push_step-2.ensures.text, c.new-back.ensures) refl in
    let text : c.push_step.new.text ++ line c.push_step-2.new.text ≡ uncovered_line c.args.page c.args.one c.args.other =
    rw (front, back) (sym (append_assoc (page ++ step_text c.args.one) (step_text c.args.other) (10 ∷ [])))
    in
    let written : List ℕ → Type 0 = λ all. WritesTo g.W.Sink.bytes g.W.Sink.failures c.write_long_line.result c.args.out.now c.write_long_line.new.out all in
    subst written text c.write_long_line.ensures
