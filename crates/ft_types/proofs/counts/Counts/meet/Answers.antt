use Rattle.std.proofs.Common.{min, refl}
use Rattle.ft_types.proofs.Zips.{zip_is_of_harts, zip_is_row, zip_shows, min_counts}
use Rattle.ft_types.proofs.counts.Counts.meet.Goals as goal

pub invariant_of-result : goal.invariant_of-result
invariant_of-result c =
    let xs = c.self.inside.row in
    let ys = c.other.inside.row in
    let m = c.self.inside.harts in
    let n = c.other.inside.harts in
    rw (
      c.least.ensures,
      zip_is_of_harts min xs ys c.args.self c.args.other m n refl min_counts c.self.invariant c.other.invariant c.self.view_is c.other.view_is c.requires,
    ) (zip_is_row min xs ys c.args.self c.args.other m n refl min_counts c.self.invariant c.other.invariant c.self.view_is c.other.view_is c.requires)

pub returns : goal.returns
returns c =
    let xs = c.self.inside.row in
    let ys = c.other.inside.row in
    let m = c.self.inside.harts in
    let n = c.other.inside.harts in
    rw (
      c.least.ensures,
      zip_is_of_harts min xs ys c.args.self c.args.other m n refl min_counts c.self.invariant c.other.invariant c.self.view_is c.other.view_is c.requires,
    ) (zip_shows min xs ys c.args.self c.args.other m n refl min_counts c.self.invariant c.other.invariant c.self.view_is c.other.view_is c.requires)
