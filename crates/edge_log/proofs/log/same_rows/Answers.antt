use Rattle.std.proofs.Common.{◌≡◌, ◌<◌, ◌∙◌, ◌+◌, ◌++◌, ◌∷◌, ℕ, List, [], length, map, take, get_or, sym, ap, arith}
use Rattle.std.proofs.lemmas.List.{length-map}
use Rattle.std.proofs.lemmas.List.{take_more}
use Rattle.edge_log.specs.declared.Edge.{Edge}
use Rattle.edge_log.specs.Rows.{EdgesOfOne}
use Rattle.edge_log.proofs.Logs.{edges_at_map}
use Rattle.edge_log.proofs.log.same_rows.Goals as goal

-- rows that are the same so far, and at the next place
same_more : (xs ys : List EdgesOfOne) (i : ℕ) (x y : EdgesOfOne) → i < length xs → i < length ys →
    take i (map (λ r. r.edges) xs) ≡ take i (map (λ r. r.edges) ys) → (get_or xs i x).edges ≡ (get_or ys i y).edges →
    take (i + 1) (map (λ r. r.edges) xs) ≡ take (i + 1) (map (λ r. r.edges) ys)
same_more xs ys i x y below under so_far here =
    let many = length-map xs (λ r. r.edges) in
    let others = length-map ys (λ r. r.edges) in
    take_more (map (λ r. r.edges) xs) i [] (omega (arith, many))
    ∙ (ap (λ (row : List Edge). take i (map (λ r. r.edges) xs) ++ row ∷ []) (edges_at_map xs i x below ∙ here ∙ sym (edges_at_map ys i y under))
    ∙ ap (λ (rows : List (List Edge)). rows ++ get_or (map (λ r. r.edges) ys) i [] ∷ []) so_far
    ∙ sym (take_more (map (λ r. r.edges) ys) i [] (omega (arith, others))))

-- where they are the same, they are so at each place
same_at : (xs ys : List EdgesOfOne) (i : ℕ) (x y : EdgesOfOne) → i < length xs → i < length ys → map (λ r. r.edges) xs ≡ map (λ r. r.edges) ys →
    (get_or xs i x).edges ≡ (get_or ys i y).edges
same_at xs ys i x y below under same =
    sym (edges_at_map xs i x below) ∙ ap (λ (rows : List (List Edge)). get_or rows i []) same ∙ edges_at_map ys i y under

pub returns-then-not-has_edges_of : goal.returns-then-not-has_edges_of
returns-then-not-has_edges_of c = (
  λ e. absurd (cc e),
  λ e.
      let has = c.has_edges_of.ensures.1
      (same_at c.args.rows.now c.args.others.now c.loop-hart.hart c.index-rows-hart.result c.index-others-hart.result
      (omega (arith, c.type_inv.rows)) (omega (arith, c.type_inv.others)) e) in
      absurd (let no = c.if-not-has_edges_of.true in cc),
)

pub loop-hart-preserved : goal.loop-hart-preserved
loop-hart-preserved c =
    same_more c.args.rows.now c.args.others.now c.loop-hart.hart c.index-rows-hart.result c.index-others-hart.result
    (omega (arith, c.type_inv.rows)) (omega (arith, c.type_inv.others)) c.loop-hart.invariant
    (c.has_edges_of.ensures.0 c.if-not-has_edges_of.false)
