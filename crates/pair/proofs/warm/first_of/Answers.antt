use Rattle.std.proofs.Common.{◌≡◌, ◌<◌, ◌∷◌, [], List, get_or, length, ap, arith, sym, ◌∙◌}
use Rattle.std.specs.List.{remove}
use Rattle.log_join.specs.Stores.{StoreView}
use Rattle.pair.proofs.warm.first_of.Goals as goal

-- the first of a list, and the rest
first_rest : (xs : List StoreView) (x : StoreView) → 0 < length xs → x ≡ get_or xs 0 x → xs ≡ x ∷ remove xs 0
first_rest [] x some is = absurd (omega (arith, some))
first_rest (y ∷ xs) x some is = ap (λ (s : StoreView). s ∷ xs) (sym is)

pub returns-clause-held : goal.returns-clause-held
returns-clause-held c =
    first_rest c.args.held.items c.remove.result (omega arith) c.remove.ensures.value
    ∙ ap (λ (s : StoreView). s ∷ remove c.args.held.items 0) (sym c.in-Some.ensures)
    ∙ ap (λ (xs : List StoreView). c.in-Some.backup.store ∷ xs) (sym c.remove.ensures.items)

pub returns-clause-image : goal.returns-clause-image
returns-clause-image c = sym c.image.ensures.value ∙ c.is_same.ensures c.if-not-is_same.false
