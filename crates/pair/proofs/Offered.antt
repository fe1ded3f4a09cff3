-- What a gate was offered, with one output more.
use Rattle.std.proofs.Common.{◌≡◌, ◌↔◌, IsTrue, nat_le, ◌<◌, ◌≤◌, ℕ, List, [], ◌∷◌, ◌++◌}
use Rattle.std.proofs.Common.{length, slice_index, slice_set, inl, inr, ap, arith, refl, sym, subst, ◌∙◌}
use Rattle.std.proofs.lemmas.Bool.{cases_eq}
use Rattle.std.proofs.lemmas.Bool.Decides.{nat_tests}
use Rattle.std.proofs.lemmas.List.{get_or-set_same, get_or-set_other}
use Rattle.std.proofs.lemmas.List.Elements.{All-from_recursion, recursion_from_All}
use Rattle.std.proofs.lemmas.List.Sorted.{All-permutation, IsPermutation-sym}
use Rattle.std.specs.List.{AllByRecursion}
use Rattle.std.specs.List.Sorted.{IsPermutation}
use Rattle.ft_types.specs.declared.output.Output.{Output}
use Rattle.ft_types.specs.declared.names.TheConstants.{HART_LIMIT}
use Rattle.output_gate.specs.Gates.{GateView, offered_in, offered_of}
use Rattle.output_gate.proofs.Alls.{all_so, all_join, all_back}
use Rattle.pair.specs.Exits.{AreLast, AreTakenIn, IsNext, IsOffered, IsTakenIn}

-- no output of the list is behind the step
abbrev NoneBehind : ℕ → List Output → Type 0
NoneBehind step outputs = AllByRecursion (λ o. o.step ≤ step) outputs

-- of one hart
abbrev IsLastAt : GateView → List ℕ → ℕ → Type 0
IsLastAt gate steps hart =
    NoneBehind (slice_index steps hart) (offered_of gate hart) × ((step : ℕ) → NoneBehind step (offered_of gate hart) → slice_index steps hart ≤ step)

told_le : (a b : ℕ) → IsTrue (nat_le a b) → a ≤ b
told_le a b t = grind (arith, nat_tests)

le_told : (a b : ℕ) → a ≤ b → IsTrue (nat_le a b)
le_told a b le = grind (arith, nat_tests)

-- one that has the next number is next exactly where it is not before the last
pub next_told : (gate : GateView) (steps : List ℕ) (o : Output) (place : ℕ) → place ≡ o.hart → place < HART_LIMIT → AreLast gate steps →
    length (offered_of gate o.hart) ≡ o.number → IsTrue (nat_le (slice_index steps place) o.step) ↔ IsNext gate o
next_told gate steps o place same below last number =
    let at : IsLastAt gate steps o.hart = subst (IsLastAt gate steps) same (last place below) in
    let e : slice_index steps place ≡ slice_index steps o.hart = ap (λ (p : ℕ). slice_index steps p) same in (
      λ t. (
        number,
        all_so (λ (x : Output). x.step ≤ slice_index steps o.hart) (λ (x : Output). x.step ≤ o.step)
            (λ x b. (let l = told_le (slice_index steps place) o.step t in omega arith)) (offered_of gate o.hart) at.0,
      ),
      λ next. le_told (slice_index steps place) o.step (let l : slice_index steps o.hart ≤ o.step = at.1 o.step next.1 in omega arith),
    )

last_same : (old new : GateView) (before after : List ℕ) (hart : ℕ) → offered_of new hart ≡ offered_of old hart →
    slice_index after hart ≡ slice_index before hart → IsLastAt old before hart → IsLastAt new after hart
last_same old new before after hart same step at = (
  subst (λ (xs : List Output). NoneBehind (slice_index after hart) xs) (sym same) (subst (λ (n : ℕ). NoneBehind n (offered_of old hart)) (sym step) at.0),
  λ n all. subst (λ (m : ℕ). m ≤ n) (sym step) (at.1 n (subst (λ (xs : List Output). NoneBehind n xs) same all)),
)

last_own : (old new : GateView) (after : List ℕ) (o : Output) → IsNext old o → offered_of new o.hart ≡ offered_of old o.hart ++ o ∷ [] →
    slice_index after o.hart ≡ o.step → IsLastAt new after o.hart
last_own old new after o next more step = (
  subst (λ (xs : List Output). NoneBehind (slice_index after o.hart) xs) (sym more)
      (subst (λ (n : ℕ). NoneBehind n (offered_of old o.hart ++ o ∷ [])) (sym step)
      (all_join (λ (x : Output). x.step ≤ o.step) (offered_of old o.hart) (o ∷ []) next.1 (omega arith, tt))),
  λ n all. subst (λ (m : ℕ). m ≤ n) (sym step)
      (all_back (λ (x : Output). x.step ≤ n) (offered_of old o.hart) (o ∷ []) (subst (λ (xs : List Output). NoneBehind n xs) more all)).0,
)

-- one output more
pub last_offered : (old new : GateView) (steps : List ℕ) (o : Output) (place : ℕ) → place ≡ o.hart → place < length steps → AreLast old steps →
    IsNext old o → IsOffered old o new → AreLast new (slice_set steps place o.step)
last_offered old new steps o place at there last next is hart below = elim (cases_eq hart place) [
  | inl same ↦ subst (IsLastAt new (slice_set steps place o.step)) (sym (same ∙ at)) (last_own old new (slice_set steps place o.step) o next
      is.offered
      (ap (λ (p : ℕ). slice_index (slice_set steps place o.step) p) (sym at) ∙ get_or-set_same steps place o.step 0 there))
  | inr ne ↦ last_same old new steps (slice_set steps place o.step) hart
      (ap offered_in (is.others hart (λ e. ne (e ∙ sym at)))) (get_or-set_other steps place hart o.step 0 ne) (last hart below)
]

-- one output more is taken in
pub taken_in_more : (old between new : GateView) (outputs : List Output) (o : Output) → AreTakenIn old outputs between → IsTakenIn between o new →
    AreTakenIn old (outputs ++ o ∷ []) new
taken_in_more old between new [] o t last = (new, subst (λ (g : GateView). IsTakenIn g o new) t last, refl)
taken_in_more old between new (x ∷ xs) o t last = (t.0, t.1, taken_in_more t.0 between new xs o t.2 last)

moved_all : (P : Output → Type 0) (xs ys : List Output) → IsPermutation xs ys → AllByRecursion P xs → AllByRecursion P ys
moved_all P xs ys moves all = recursion_from_All P ys (All-permutation P xs ys moves (All-from_recursion P xs all))

-- what goes out was offered all the same
pub last_kept : (old new : GateView) → ((hart : ℕ) → hart < HART_LIMIT → IsPermutation (offered_of old hart) (offered_of new hart)) → (steps : List ℕ) →
    AreLast old steps → AreLast new steps
last_kept old new same steps last hart below =
    let moves = same hart below in (
      moved_all (λ (x : Output). x.step ≤ slice_index steps hart) (offered_of old hart) (offered_of new hart) moves (last hart below).0,
      λ n all. (last hart below).1 n
          (moved_all (λ (x : Output). x.step ≤ n) (offered_of new hart) (offered_of old hart)
          (IsPermutation-sym (offered_of old hart) (offered_of new hart) moves) all),
    )

-- nothing yet
pub none_offered : (gate : GateView) (steps : List ℕ) → ((hart : ℕ) → hart < HART_LIMIT → offered_of gate hart ≡ []) →
    ((hart : ℕ) → hart < HART_LIMIT → slice_index steps hart ≡ 0) → AreLast gate steps
none_offered gate steps empty zero hart below = (
  subst (λ (xs : List Output). NoneBehind (slice_index steps hart) xs) (sym (empty hart below)) tt,
  λ n all. (let e = zero hart below in omega arith),
)
