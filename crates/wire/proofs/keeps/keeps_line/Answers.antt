use Rattle.std.proofs.Common.{List, ℕ, ◌∷◌, ◌++◌, ap, ◌∙◌}
use Rattle.std.specs.Prelude.{codes, decimal}
use Rattle.ft_types.specs.Text.{line}
use Rattle.wire.specs.Seals.{sealed}
use Rattle.wire.proofs.PairFields.{keeps_spelled}
use Rattle.wire.proofs.keeps.keeps_line.Goals as goal

pub returns : goal.returns
returns c =
    c.seal_line.ensures ∙ ap (λ (t : List ℕ). line (sealed c.args.guest.now t))
    (keeps_spelled c.args.keeps.now c.push.new.self c.push_number.new.self c.push_pair.new.text c.push_inode.new.text c.push_inode-2.new.text
    (c.push.ensures.bytes ∙ ap (λ (t : List ℕ). t ++ codes "keeps") c.new-text.ensures)
    (c.push_number.ensures.bytes ∙ ap (λ (n : ℕ). c.push.new.self ++ 32 ∷ decimal n) (c.from.ensures ∙ c.number.ensures.value)) c.push_pair.ensures.bytes c.push_inode.ensures.bytes c.push_inode-2.ensures.bytes)
