-- Machines by their keepers' numbers.
use Rattle.std.proofs.Common.{◌≡◌, ◌≤◌, ℕ, zero, suc, List, [], ◌∷◌, length, Option, None, refl, arith}
use Rattle.live_world.specs.Sites.{site_at}
use Rattle.live_world.specs.declared.site.Site.{Site}

pub none_past : (sites : List (Option Site)) (k : ℕ) → length sites ≤ k → site_at sites k ≡ None
none_past [] k past = refl
none_past (s ∷ sites) zero past = absurd (omega arith)
none_past (s ∷ sites) (suc k) past = none_past sites k (omega arith)
