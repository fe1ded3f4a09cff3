use Rattle.std.proofs.Common.{◌≡◌, replicate, Some}
use Rattle.live_world.specs.Sites.{empty_site}
use Rattle.live_world.proofs.site.empty_sites.Given as goal

abbrev pub invariant-loop-made : goal.invariant-loop-made
invariant-loop-made l = l.sites.items ≡ replicate l._made (Some empty_site)
