use Rattle.std.proofs.Common.{◌<◌, Contains, refl, sym, arith, ◌∙◌, true≢false}
use Rattle.closed_cut.specs.Chain.{Root}
use Rattle.closed_cut.proofs.Chains.{search_tells, sound_by_parent}
use Rattle.closed_cut.proofs.ancestry.is_sound.Goals as goal

pub returns-then-parent-eq0 : goal.returns-then-parent-eq0
returns-then-parent-eq0 c =
    ((λ t. Root c.args.opening.now c.requires.opening (sym c.parent-parent.ensures ∙ c.if-parent-eq0.true)), (λ s. refl))

pub returns-then-is_ok : goal.returns-then-is_ok
returns-then-is_ok c =
    let store = c.args.store.now in
    let o = c.args.opening.now in
    let p = c.in-Some.before.now in
    let parent = c.parent-parent.ensures in
    let some : 0 < o.parent = omega arith in
    let exact = sound_by_parent store c.args.sound.now o p c.opening_of.ensures.rules c.requires.opening some (rw parent at c.in-Some.ensures.one)
    c.requires.sound in
    let tells = search_tells c.args.sound.now c.parent-parent.result c.binary_search.result c.binary_search.ensures.position c.requires.rising in
    let has : Contains c.args.sound.now o.parent = rw parent at (tells.0 (sym c.is_ok.ensures.value ∙ c.if-is_ok.true)) in
    let within = rw (c.base.ensures.base, c.base-then-is_ok.ensures.base) at c.within.ensures in
    ((λ t. exact.1 (has, within.0 t)), (λ s. within.1 (exact.0 s).1))

pub returns-else-is_ok : goal.returns-else-is_ok
returns-else-is_ok c =
    let store = c.args.store.now in
    let o = c.args.opening.now in
    let p = c.in-Some.before.now in
    let parent = c.parent-parent.ensures in
    let some : 0 < o.parent = omega arith in
    let exact = sound_by_parent store c.args.sound.now o p c.opening_of.ensures.rules c.requires.opening some (rw parent at c.in-Some.ensures.one)
    c.requires.sound in
    let tells = search_tells c.args.sound.now c.parent-parent.result c.binary_search.result c.binary_search.ensures.position c.requires.rising in (
      (λ t. absurd (true≢false (sym t ∙ c.if-is_ok.false))),
      (λ s. absurd (tells.1 (sym c.is_ok.ensures.value ∙ c.if-is_ok.false) (rw parent (exact.0 s).0))),
    )
