use Rattle.std.proofs.Common.{[], ◌∷◌, sym, arith}
use Rattle.std.proofs.lemmas.List.{reverse-append}
use Rattle.closed_cut.proofs.Chains.{term_above, sound_parent}
use Rattle.closed_cut.proofs.ancestry.line_of.Goals as goal

pub loop-opening-smaller : goal.loop-opening-smaller
loop-opening-smaller c =
    let above = term_above c.args.store.now c.loop-opening.term c.in-Some.opening.now c.opening_of.ensures.rules c.in-Some.ensures.one in
    let parent = c.parent-term.ensures in omega (arith, above.0)

pub loop-opening-preserved : goal.loop-opening-preserved
loop-opening-preserved c =
    let store = c.args.store.now in
    let o = c.in-Some.opening.now in
    let term = c.loop-opening.term in
    let above = term_above store term o c.opening_of.ensures.rules c.in-Some.ensures.one in
    record {
      leads =
          rw (c.in_ok-push.ensures.items, reverse-append c.loop-opening.line.items (term ∷ []))
          (record { opening = o; opens = c.in-Some.ensures.one; is = sym c.parent-term.ensures }, c.loop-opening.invariant.leads);
      sound =
          λ some.
          rw c.parent-term.ensures
          (sound_parent store term o c.in-Some.ensures.one (let p = c.parent-term.ensures in omega arith) (c.loop-opening.invariant.sound above.1)).sound;
    }
