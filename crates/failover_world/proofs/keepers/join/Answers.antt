use Rattle.std.proofs.Common.{◌≡◌, ◌≢◌, ℕ, true, false, eq-eqb, List, slice_set, get_or, Option, Some, None, sym, ap, subst, ◌∙◌}
use Rattle.std.proofs.lemmas.Bool.{eqb-true}
use Rattle.log_join.specs.Stores.{StoreView, IsJoin}
use Rattle.failover_world.proofs.Rows.{set_set, set_own, set_elsewhere, whatever}
use Rattle.primary.proofs.Rows.{same_some}
use Rattle.failover_world.proofs.Guests.{with_itself}
use Rattle.failover_world.proofs.keepers.join.Goals as goal

pub returns-then-eq-clause-joined : goal.returns-then-eq-clause-joined
returns-then-eq-clause-joined c = λ s t is at.
    let one : c.args.keeper ≡ c.args.other = eqb-true c.args.keeper c.args.other (sym c.if-eq.ensures) in
    let same : s ≡ t = same_some s t (sym is ∙ ap (λ k. get_or c.args.stores.now k None) one ∙ at) in
    (s, subst (λ (x : StoreView). IsJoin s x s) same (with_itself s), sym (set_own c.args.stores.now c.args.keeper (Some s) is))

-- the row with another content at the keeper
put_twice : (stores : List (Option StoreView)) (k i j : ℕ) (x y : Option StoreView) → i ≡ k → j ≡ k → slice_set (slice_set stores i x) j y ≡ slice_set stores k y
put_twice stores k i j x y one two =
    ap (λ n. slice_set (slice_set stores n x) j y) one ∙ ap (λ n. slice_set (slice_set stores k x) n y) two ∙ set_set stores k x y

pub returns-in-Ok-clause-joined : goal.returns-in-Ok-clause-joined
returns-in-Ok-clause-joined c = λ s t is at.
    let here : get_or c.args.stores.now c.index.result c.index-stores-index.result ≡ get_or c.args.stores.now c.args.keeper None =
    ap (λ k. get_or c.args.stores.now k c.index-stores-index.result) c.index.ensures.value
    ∙ whatever c.args.stores.now c.args.keeper c.index-stores-index.result None c.requires.below.0 in
    let there : get_or c.args.stores.now c.args.keeper None ≡ Some c.in-Some.store =
    sym here ∙ sym c.take-taken.ensures.value ∙ c.in-Some.is in
    let one : c.in-Some.store ≡ s = same_some c.in-Some.store s (sym there ∙ is) in
    let apart : c.index.result ≢ c.index-2.result = λ e.
    let no : false ≡ true = c.if-eq.ensures ∙ eq-eqb c.args.keeper c.args.other (sym c.index.ensures.value ∙ e ∙ c.index-2.ensures.value) in cc in
    let other : get_or (slice_set c.args.stores.now c.index.result c.take-taken.new.self) c.index-2.result c.index-stores-index-2.result
    ≡ get_or c.args.stores.now c.args.other None =
    set_elsewhere c.args.stores.now c.index.result c.index-2.result c.take-taken.new.self c.index-stores-index-2.result apart
    ∙ ap (λ k. get_or c.args.stores.now k c.index-stores-index-2.result) c.index-2.ensures.value
    ∙ whatever c.args.stores.now c.args.other c.index-stores-index-2.result None c.requires.below.1 in
    let held : c.in-Some-stores.held ≡ t = same_some c.in-Some-stores.held t (sym c.in-Some-stores.is ∙ other ∙ at) in (
      c.join-joined.new.self,
      subst (λ (x : StoreView). IsJoin x t c.join-joined.new.self) one
          (subst (λ (x : StoreView). IsJoin c.in-Some.store x c.join-joined.new.self) (c.store.ensures ∙ held) c.in-Ok.ensures.joined),
      put_twice c.args.stores.now c.args.keeper c.index.result c.index-3.result c.take-taken.new.self (Some c.join-joined.new.self) c.index.ensures.value
          c.index-3.ensures.value,
    )

pub returns-in-Err-clause-kept : goal.returns-in-Err-clause-kept
returns-in-Err-clause-kept c =
    let here : get_or c.args.stores.now c.index.result c.index-stores-index.result ≡ get_or c.args.stores.now c.args.keeper None =
    ap (λ k. get_or c.args.stores.now k c.index-stores-index.result) c.index.ensures.value
    ∙ whatever c.args.stores.now c.args.keeper c.index-stores-index.result None c.requires.below.0 in
    let there : get_or c.args.stores.now c.args.keeper None ≡ Some c.in-Some.store =
    sym here ∙ sym c.take-taken.ensures.value ∙ c.in-Some.is in
    put_twice c.args.stores.now c.args.keeper c.index.result c.index-3.result c.take-taken.new.self (Some c.join-joined.new.self) c.index.ensures.value
    c.index-3.ensures.value
    ∙ ap (λ (x : StoreView). slice_set c.args.stores.now c.args.keeper (Some x)) c.in-Err.ensures.err
    ∙ set_own c.args.stores.now c.args.keeper (Some c.in-Some.store) there
