use Rattle.std.proofs.Common.{◌≡◌, ◌<◌, ◌≤◌, ◌+◌, ◌++◌, ◌∷◌, [], ⊎_elim, ℕ, List, get_or, length, take, arith, subst, sym, ◌∙◌}
use Rattle.std.specs.List.{Contains}
use Rattle.std.proofs.lemmas.List.{take_more, take_all}
use Rattle.std.proofs.lemmas.List.Elements.{Contains-push_cases}
use Rattle.pair.proofs.beside.tell_at_most.Goals as goal

pub loop-note-init : goal.loop-note-init
loop-note-init c = λ note there. (let below : there.0 < 0 = there.1 in absurd (omega (arith, below)))

pub loop-note-preserved : goal.loop-note-preserved
loop-note-preserved c = λ note there.
    let notes = c.args.notes.now in
    let i = c.loop-note.note-index in
    let item = get_or notes i (0, 0) in
    let more : take (i + 1) notes ≡ take i notes ++ item ∷ [] =
    take_more notes i (0, 0) c.loop-note-test.true in
    let few : item.1 ≤ c.args.many = c.if-note-many.false in
    ⊎_elim (λ (was : Contains (take i notes) note). c.loop-note.invariant note was)
    (λ (is : item ≡ note). subst (λ (x : ℕ × ℕ). x.1 ≤ c.args.many) is few)
    (Contains-push_cases (take i notes) item note (subst (λ (xs : List (ℕ × ℕ)). Contains xs note) more there))

pub returns : goal.returns
returns c = λ yes note there.
    c.loop-note.invariant note
    (subst (λ (xs : List (ℕ × ℕ)). Contains xs note) (sym (take_all c.loop-note.note-index c.args.notes.now (omega arith))) there)
