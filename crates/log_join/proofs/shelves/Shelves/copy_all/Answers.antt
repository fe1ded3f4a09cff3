use Rattle.std.specs.Ordering.{nat_cmp}
use Rattle.log_join.specs.declared.shelves.Shelves.{Shelves}
use Rattle.log_join.specs.machinery.Contents.{is_among, IsKept}
use Rattle.log_join.specs.machinery.Places.{place_cmp}
use Rattle.log_join.proofs.Maps.{undone}
use Rattle.log_join.proofs.Stores.{though_err}
use Rattle.log_join.proofs.shelves.Shelves.copy_all.Goals as goal

pub returns-then-is_err-clause-err : goal.returns-then-is_err-clause-err
returns-then-is_err-clause-err c =
    let new : Shelves = record c.copy_some-copied.new.self { openings = c.remove_at.new.shelf; fragments = c.remove_at-then-is_err.new.shelf } in
    let kept : IsKept c.args.self.now new = record {
      terms = λ t. undone (is_among nat_cmp c.args.terms.now t) _ _ _ (c.remove_at.ensures t) (c.requires.free_terms t)
          (c.copy_some-copied.ensures.other_terms t);
      places = λ p. undone (is_among place_cmp c.args.places.now p) _ _ _ (c.remove_at-then-is_err.ensures p) (c.requires.free_places p)
          (c.copy_some-copied.ensures.other_places p);
    } in
    though_err c.copy_some-copied.result (IsKept c.args.self.now new) kept
