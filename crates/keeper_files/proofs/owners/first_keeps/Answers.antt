use Rattle.std.proofs.Common.{List, ℕ, ◌++◌, ap, ◌∙◌}
use Rattle.ft_types.specs.Text.{line}
use Rattle.keeper_files.proofs.Results.{some_of}
use Rattle.keeper_files.proofs.owners.first_keeps.Goals as goal

pub returns : goal.returns
returns c = some_of c.read_keeps.result _ (λ k found.
    let says = (c.read_keeps.ensures.exact k).0 found in
    let rest = c.in_ok-text._behind.now in
    (says.0, rest, c.in_ok-text.ensures.found ∙ ap (λ (t : List ℕ). line t ++ rest) says.1))
