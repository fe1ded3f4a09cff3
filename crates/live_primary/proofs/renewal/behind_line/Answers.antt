use Rattle.std.proofs.Common.{◌≡◌, rules, sym, subst, ◌∙◌}
use Rattle.ft_types.specs.Text.{line}
use Rattle.stations.proofs.HandedLines.{one_line}
use Rattle.live_primary.proofs.Renewing.{no_line, has_none}
use Rattle.live_primary.proofs.renewal.behind_line.Goals as goal

pub returns-in_ok-to_vec-in-Some : goal.returns-in_ok-to_vec-in-Some
returns-in_ok-to_vec-in-Some c = λ text rest one parts.
    let same : c.in_ok-to_vec-in-Some.field-0.items ≡ c.in-Some.rest.now = search rules in
    same ∙ (one_line c.in-Some.field-0-0.now text c.in-Some.rest.now rest c.in-Some.ensures.one one (sym c.in-Some.ensures.found ∙ parts)).1

pub returns-in-None : goal.returns-in-None
returns-in-None c = λ text rest one parts. absurd (no_line text rest (subst has_none parts c.in-None.ensures.none))
