use Rattle.std.proofs.Common.{◌≡◌, ◌*◌, ◌/◌, ◌++◌, ap, sym, ◌∙◌, arith, List, ℕ, append-nil}
use Rattle.std.specs.Prelude.{decimal}
use Rattle.std.proofs.lemmas.List.{drop_all}
use Rattle.guest_image.proofs.front.Front.begin.Goals as goal

pub returns-clause-front : goal.returns-clause-front
returns-clause-front c =
    let hundreds = c.args.hundreds in
    let whole : hundreds * 100 / 100 ≡ hundreds = omega arith in
    record {
      hundreds = omega arith;
      whole = omega arith;
      numbers = omega arith;
      from = omega arith;
      text = c.put_number_before-self.ensures.written
          ∙ ap (λ (rest : List ℕ). decimal hundreds ++ rest) (drop_all 20 c.args.self.now.text (omega arith)) ∙ append-nil (decimal hundreds)
          ∙ ap decimal (sym whole);
    }
