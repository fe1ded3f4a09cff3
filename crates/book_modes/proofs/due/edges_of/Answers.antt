use Rattle.std.proofs.Common.{◌≡◌, ◌≢◌, ◌+◌, ◌<◌, ◌++◌, ◌∷◌, [], List, append-nil, length, take, sym, ap, subst, ◌∙◌, lit<, rules, arith, length-take}
use Rattle.input_log.specs.declared.WaitingBell.{WaitingBell}
use Rattle.edge_log.specs.declared.Edge.{Edge}
use Rattle.book_modes.specs.Dues.{bell_edges}
use Rattle.book_modes.proofs.bells.Edges.{few_edges, one_more_bell, own_bell, other_bell}
use Rattle.book_modes.proofs.due.edges_of.Goals as goal
use Rattle.book_modes.proofs.due.edges_of.Goals.{then-ne, else-ne}

pub push_reserved-requires : goal.push_reserved-requires
push_reserved-requires c =
    let i = c.loop-bell.invariant in
    let few = few_edges c.args.hart c.args.count (take c.loop-bell.bell-index c.args.bells.now) in
    let below : c.loop-bell.bell-index < length c.args.bells.now = search rules in
    (lit< tt, omega (arith, ap length i.so_far, few, length-take c.loop-bell.bell-index c.args.bells.now, below, c.requires, i.inline))

pub loop-bell-preserved : goal.loop-bell-preserved
loop-bell-preserved c =
    let i = c.loop-bell.invariant in
    let below : c.loop-bell.bell-index < length c.args.bells.now = search rules in
    let hart = c.args.hart in
    let count = c.args.count in
    let bell = c.bell-item.result in
    let more : bell_edges hart count (take (c.loop-bell.bell-index + 1) c.args.bells.now) ≡
    bell_edges hart count (take c.loop-bell.bell-index c.args.bells.now) ++ bell_edges hart count (bell ∷ []) =
    subst
    (λ (b : WaitingBell). bell_edges hart count (take (c.loop-bell.bell-index + 1) c.args.bells.now) ≡ bell_edges hart count
    (take c.loop-bell.bell-index c.args.bells.now) ++ bell_edges hart count (b ∷ []))
    (sym c.bell-item.is) (one_more_bell hart count c.args.bells.now c.loop-bell.bell-index bell below) in
    elim c.if-ne.branch [
      | then-ne w ↦
          rw w.edges-is
          (
          record {
            so_far =
                let ne : bell.source ≢ hart = search rules in
                w.push_reserved.ensures.items ∙
                (ap (λ (es : List Edge). es ++ record { hart = hart; at = count; other = bell.source; after = bell.after } ∷ []) i.so_far ∙
                (ap (λ (es : List Edge). bell_edges hart count (take c.loop-bell.bell-index c.args.bells.now) ++ es) (sym (other_bell hart count bell ne)) ∙
                sym more));
            inline = w.push_reserved.ensures.capacity ∙ i.inline;
          }
          )
      | else-ne w ↦
          rw w.edges-is
          (
          record {
            so_far =
                let same : bell.source ≡ hart = search rules in
                i.so_far ∙
                (sym (append-nil (bell_edges hart count (take c.loop-bell.bell-index c.args.bells.now))) ∙
                (ap (λ (es : List Edge). bell_edges hart count (take c.loop-bell.bell-index c.args.bells.now) ++ es) (sym (own_bell hart count bell same)) ∙
                sym more));
            inline = i.inline;
          }
          )
    ]

pub returns-clause-few : goal.returns-clause-few
returns-clause-few c =
    let i = c.loop-bell.invariant in
    let few = few_edges c.args.hart c.args.count (take c.loop-bell.bell-index c.args.bells.now) in
    omega (arith, ap length i.so_far, few, length-take c.loop-bell.bell-index c.args.bells.now, c.requires)
