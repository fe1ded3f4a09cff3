use Rattle.std.proofs.Common.{◌≡◌, ◌<◌, ◌∙◌, ℕ, List, [], length, map, get_or, ap, sym, refl, arith, inl, inr}
use Rattle.std.proofs.Math.Path.{transport}
use Rattle.std.proofs.lemmas.Bool.{cases_lt}
use Rattle.ft_types.specs.Counts.{count_at}
use Rattle.edge_log.specs.Rows.{EdgesOfOne, SayOn}
use Rattle.edge_log.proofs.Logs.{edges_at_map}
use Rattle.edge_log.proofs.log.rows_say_on.Goals as goal

-- the rows of a hart
rows_are : (xs ys : List EdgesOfOne) (h n count : ℕ) (x y : EdgesOfOne) → h < length xs → h < length ys → n ≡ count →
    SayOn (get_or ys h y).edges n (get_or xs h x).edges ≡
    SayOn (get_or (map (λ r. r.edges) ys) h []) count (get_or (map (λ r. r.edges) xs) h [])
rows_are xs ys h n count x y below under is = rw (edges_at_map xs h x below, edges_at_map ys h y under, is) refl

pub returns-then-not-says_on : goal.returns-then-not-says_on
returns-then-not-says_on c =
    let is = c.count_of-count.ensures.value ∙ ap (count_at c.args.settled.now) c.new.ensures in
    let same = rows_are c.args.rows.now c.args.before.now c.loop-hart.hart c.count_of-count.result (count_at c.args.settled.now c.loop-hart.hart)
    c.index-rows-hart.result c.index-before-hart.result (omega (arith, c.type_inv.rows)) (omega (arith, c.type_inv.before)) is in (
      λ e. absurd (cc e),
      λ on. let says = c.says_on.ensures.1 (transport (sym same) (on c.loop-hart.hart)) in absurd (let no = c.if-not-says_on.true in cc),
    )

pub loop-hart-preserved : goal.loop-hart-preserved
loop-hart-preserved c h below = elim (cases_lt h c.loop-hart.hart) [
  | inl less ↦ c.loop-hart.invariant h less
  | inr more ↦
      let at : c.loop-hart.hart ≡ h = omega arith in
      let is = c.count_of-count.ensures.value ∙ ap (count_at c.args.settled.now) c.new.ensures in
      let same = rows_are c.args.rows.now c.args.before.now c.loop-hart.hart c.count_of-count.result (count_at c.args.settled.now c.loop-hart.hart)
      c.index-rows-hart.result c.index-before-hart.result (omega (arith, c.type_inv.rows)) (omega (arith, c.type_inv.before)) is in
      let here = transport same (c.says_on.ensures.0 c.if-not-says_on.false) in
      rw (← at) here
]
