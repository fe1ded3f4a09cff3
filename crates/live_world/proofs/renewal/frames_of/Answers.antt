use Rattle.std.proofs.Common.{◌≡◌, rules, sym, ◌∙◌}
use Rattle.stations.proofs.HandedLines.{one_line}
use Rattle.live_world.proofs.renewal.frames_of.Goals as goal

pub returns : goal.returns
returns c = λ text rest one parts.
    let same : c.in_ok-to_vec.field-0.items ≡ c.in-Some.rest.now = search rules in
    same ∙ (one_line c.in-Some.field-0-0.now text c.in-Some.rest.now rest c.in-Some.ensures.one one (sym c.in-Some.ensures.found ∙ parts)).1
