use Rattle.std.proofs.Common.{◌-◌, ◌++◌, drop, ap, ◌∙◌, arith, List, ℕ, refl}
use Rattle.guest_image.proofs.FrontFacts.{front_number}
use Rattle.guest_image.proofs.front.Front.put.Goals as goal

pub returns-clause-written : goal.returns-clause-written
returns-clause-written c =
    let f = c.is_ready.new.self in
    let number = c.args.number in
    let low = number - f.first in
    let rest = drop c.args.end c.args.bytes.now in
    c.put_text.ensures.written
    ∙ ap (λ (r : List ℕ). drop f.from f.text ++ r) c.put_pair_before-at.ensures.written
    ∙ front_number f number low rest c.is_ready.ensures.front (omega arith) (omega arith) refl
