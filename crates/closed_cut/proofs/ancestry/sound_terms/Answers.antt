use Rattle.std.proofs.Common.{◌≡◌, ◌<◌, length, get_or, true≢false, refl, sym, subst, arith, ◌∙◌}
use Rattle.log_join.specs.Cells.{One}
use Rattle.log_join.specs.Stores.{opening_at, AreTerms}
use Rattle.closed_cut.specs.Chain.{Sound}
use Rattle.closed_cut.proofs.Chains.{none_first, comes_after, skip_term, add_term, all_sound, sound_opens}
use Rattle.closed_cut.proofs.ancestry.sound_terms.Goals as goal
use Rattle.closed_cut.proofs.ancestry.sound_terms.Goals.{in-Some+then-is_sound+in_ok-push, in-Some+else-is_sound, in_default}

pub loop-term-init : goal.loop-term-init
loop-term-init c =
    rw c.new-sound.ensures.items (none_first c.args.store.now c.deref-term-items.result.now (rw c.deref-term-items.ensures.value c.in_ok-terms.ensures))

pub is_sound-requires-clause-opening : goal.is_sound-requires-clause-opening
is_sound-requires-clause-opening c =
    let fits = c.opening_of.ensures.rules.openings _ c.in-Some.opening.now c.in-Some.ensures.one in
    subst (λ t. opening_at c.args.store.now t ≡ One c.in-Some.opening.now) (sym fits.same_term) c.in-Some.ensures.one

pub is_sound-requires-clause-rising : goal.is_sound-requires-clause-rising
is_sound-requires-clause-rising c = rw c.deref.ensures.value c.loop-term.invariant.rising

pub is_sound-requires-clause-sound : goal.is_sound-requires-clause-sound
is_sound-requires-clause-sound c =
    let store = c.args.store.now in
    let terms = c.deref-term-items.result.now in
    let fits = c.opening_of.ensures.rules.openings _ c.in-Some.opening.now c.in-Some.ensures.one in
    let are : AreTerms store terms = rw c.deref-term-items.ensures.value c.in_ok-terms.ensures in
    rw (c.deref.ensures.value, fits.same_term) (comes_after store terms are c.loop-term.sound.items c.loop-term.term-index (omega arith) c.loop-term.invariant)

pub loop-term-preserved : goal.loop-term-preserved
loop-term-preserved c =
    let store = c.args.store.now in
    let terms = c.deref-term-items.result.now in
    let index = c.loop-term.term-index in
    let are : AreTerms store terms = rw c.deref-term-items.ensures.value c.in_ok-terms.ensures in
    let less : index < length terms = omega arith in
    elim c.match-opening_of.branch [
      | in-Some+then-is_sound+in_ok-push w ↦
          let fits = c.opening_of.ensures.rules.openings _ w.in-Some.opening.now w.in-Some.ensures.one in
          rw (w.sound-is, w.in_ok-push.ensures.items)
          (add_term store terms are c.loop-term.sound.items index less c.loop-term.invariant _ refl
          (subst (Sound store) fits.same_term (w.is_sound.ensures.0 w.if-is_sound.true)))
      | in-Some+else-is_sound w ↦
          let fits = c.opening_of.ensures.rules.openings _ w.in-Some.opening.now w.in-Some.ensures.one in
          rw w.sound-is
          (skip_term store terms are c.loop-term.sound.items index less c.loop-term.invariant
          (λ s. true≢false (sym (w.is_sound.ensures.1 (subst (Sound store) (sym fits.same_term) s)) ∙ w.if-is_sound.false)))
      | in_default w ↦
          rw w.sound-is
          (skip_term store terms are c.loop-term.sound.items index less c.loop-term.invariant
          (λ s. let (o, one) = sound_opens store (get_or terms index 0) s in w.in_default.ensures.none o one))
    ]

pub returns : goal.returns
returns c =
    let store = c.args.store.now in
    let terms = c.deref-term-items.result.now in
    let are : AreTerms store terms = rw c.deref-term-items.ensures.value c.in_ok-terms.ensures in
    all_sound store terms are c.loop-term.sound.items c.loop-term.term-index (omega arith) c.loop-term.invariant
