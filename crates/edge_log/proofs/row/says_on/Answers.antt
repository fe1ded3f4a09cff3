use Rattle.std.proofs.Common.{◌≡◌, ◌-◌, take, drop, length}
use Rattle.std.proofs.lemmas.List.{take_rest}
use Rattle.std.proofs.lemmas.Slice.Eq.{slice_eq-Decides}
use Rattle.edge_log.proofs.Equal.{edge_decides}
use Rattle.edge_log.proofs.Rows.{parts_say, say_parts}
use Rattle.edge_log.proofs.row.says_on.Goals as goal

pub returns-then-same_edges : goal.returns-then-same_edges
returns-then-same_edges c =
    let old = c.args.before.now in
    let new = c.args.edges.now in
    let i = c.first_from.result in
    let j = c.first_from-kept.result in
    let told = slice_eq-Decides edge_decides (take i new) (take j old) c.same_edges.result c.same_edges.ensures in
    let rest : take (length old - j) (drop j old) ≡ drop j old = take_rest old j in
    let says = rw rest at c.says_all.ensures in (
      λ e.
          parts_say old new c.args.count i j c.first_from.ensures.within c.first_from-kept.ensures.within c.first_from.ensures.before
          c.first_from.ensures.from c.first_from-kept.ensures.before c.first_from-kept.ensures.from (told.0 c.if-same_edges.true) (says.0 e),
      λ on.
          says.1 (say_parts old new c.args.count i j c.first_from.ensures.within c.first_from-kept.ensures.within c.first_from.ensures.before
          c.first_from.ensures.from c.first_from-kept.ensures.before c.first_from-kept.ensures.from on).1,
    )

pub returns-else-same_edges : goal.returns-else-same_edges
returns-else-same_edges c =
    let old = c.args.before.now in
    let new = c.args.edges.now in
    let i = c.first_from.result in
    let j = c.first_from-kept.result in
    let told = slice_eq-Decides edge_decides (take i new) (take j old) c.same_edges.result c.same_edges.ensures in (
      λ e. absurd (let no = c.if-same_edges.false in cc),
      λ on.
          told.1 (say_parts old new c.args.count i j c.first_from.ensures.within c.first_from-kept.ensures.within c.first_from.ensures.before
          c.first_from.ensures.from c.first_from-kept.ensures.before c.first_from-kept.ensures.from on).0,
    )
