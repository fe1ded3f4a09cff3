use Rattle.std.proofs.Common.{◌≡◌, ◌+◌, ◌<◌, ◌++◌, ◌∷◌, [], ℕ, List, map, length, take, arith, ap, sym, subst, ◌∙◌}
use Rattle.std.specs.List.{range_with_len}
use Rattle.std.proofs.lemmas.List.{take_more, take_all, map-append}
use Rattle.log_join.specs.Stores.{StoreView}
use Rattle.pair.proofs.Numbers.{one_further}
use Rattle.pair.proofs.warm.stores_of.Goals as goal

pub loop-one-preserved : goal.loop-one-preserved
loop-one-preserved c =
    let held = c.args.held.now in
    let i = c.loop-one.one-index in
    let item = c.one-item.result in
    let within : i < length held = omega arith in
    let one = take_more held i item within ∙ ap (λ (s : StoreView). take i held ++ s ∷ []) (sym c.one-item.is) in
    let number : c.new.result ≡ i + 1 = omega (arith, c.new.ensures, c.loop-one.invariant.number) in
    record {
      stores = ap (λ xs. map (λ s. s.1.now) xs) c.push_reserved.ensures.items
          ∙ map-append (λ s. s.1.now) c.loop-one.stores.items ((c.new.result, c.store.result) ∷ [])
          ∙ ap (λ (ss : List StoreView). ss ++ c.store.result.now ∷ []) c.loop-one.invariant.stores
          ∙ ap (λ (s : StoreView). take i held ++ s ∷ []) c.store.ensures
          ∙ sym one;
      numbers = ap (λ xs. map (λ s. s.0) xs) c.push_reserved.ensures.items
          ∙ map-append (λ s. s.0) c.loop-one.stores.items ((c.new.result, c.store.result) ∷ [])
          ∙ ap (λ (ns : List ℕ). ns ++ c.new.result ∷ []) c.loop-one.invariant.numbers
          ∙ ap (λ (n : ℕ). range_with_len 1 i ++ n ∷ []) number
          ∙ sym (one_further i);
      room = omega arith;
      number = omega arith;
    }

pub returns-clause-stores : goal.returns-clause-stores
returns-clause-stores c = c.loop-one.invariant.stores ∙ take_all c.loop-one.one-index c.args.held.now (omega arith)

pub returns-clause-numbers : goal.returns-clause-numbers
returns-clause-numbers c =
    let all : c.loop-one.one-index ≡ length c.args.held.now = omega arith in
    c.loop-one.invariant.numbers ∙ ap (λ (n : ℕ). range_with_len 1 n) all
