use Rattle.std.proofs.Common.{max, refl}
use Rattle.ft_types.proofs.Zips.{zip_is_of_harts, zip_is_row, zip_shows, max_counts}
use Rattle.ft_types.proofs.counts.Counts.max.Goals as goal

pub invariant_of-result : goal.invariant_of-result
invariant_of-result c =
    let xs = c.self.inside.row in
    let ys = c.other.inside.row in
    let m = c.self.inside.harts in
    let n = c.other.inside.harts in
    rw (
      c.greatest.ensures,
      zip_is_of_harts max xs ys c.args.self c.args.other m n refl max_counts c.self.invariant c.other.invariant c.self.view_is c.other.view_is c.requires,
    ) (zip_is_row max xs ys c.args.self c.args.other m n refl max_counts c.self.invariant c.other.invariant c.self.view_is c.other.view_is c.requires)

pub returns : goal.returns
returns c =
    let xs = c.self.inside.row in
    let ys = c.other.inside.row in
    let m = c.self.inside.harts in
    let n = c.other.inside.harts in
    rw (
      c.greatest.ensures,
      zip_is_of_harts max xs ys c.args.self c.args.other m n refl max_counts c.self.invariant c.other.invariant c.self.view_is c.other.view_is c.requires,
    ) (zip_shows max xs ys c.args.self c.args.other m n refl max_counts c.self.invariant c.other.invariant c.self.view_is c.other.view_is c.requires)
