use Rattle.std.proofs.Common.{◌≡◌, ◌++◌}
use Rattle.std.specs.Prelude.{Some}
use Rattle.std.specs.List.{AllByRecursion}
use Rattle.log_join.specs.machinery.Contents.{listed, fragment_part, FitsAt}
use Rattle.log_join.specs.machinery.Places.{key_of}
use Rattle.log_join.proofs.shelves.Shelves.keys.Given as goal

-- the keys so far and those that are left are all, and what is left stands at its keys
abbrev pub invariant-loop-content : goal.invariant-loop-content
invariant-loop-content l =
    (l.keys.items ++ listed key_of l.content-iterator ≡ listed key_of l.self.fragments.entries)
    × AllByRecursion (λ e. FitsAt fragment_part (λ f. f.key ≡ key_of e.0) (Some e.1)) l.content-iterator
