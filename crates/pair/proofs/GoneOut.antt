-- Outputs that have gone out, hart by hart the first ones.
use Rattle.std.proofs.Common.{◌≡◌, ◌<◌, ◌≤◌, ◌+◌, ◌∙◌, ⊎_elim, ℕ, List, [], ◌∷◌, ◌++◌, length, replicate, slice_index, slice_set, inl, inr, sym, subst, arith}
use Rattle.std.specs.List.{Contains}
use Rattle.std.proofs.lemmas.Bool.{cases_eq, cases_lt}
use Rattle.std.proofs.lemmas.List.{get_or-replicate, get_or-set_same, get_or-set_other, get_or_past, length-replicate}
use Rattle.std.proofs.lemmas.List.Elements.{Contains-append_left, Contains-push}
use Rattle.ft_types.specs.Counts.{count_at}
use Rattle.ft_types.specs.declared.output.Output.{Output}
use Rattle.input_log.specs.Notes.{NotesOfOne, notes_of}
use Rattle.pair.specs.Released.{HasGoneOut}

-- of each hart so many of the first outputs are among these
abbrev pub AreFirst : List Output → List ℕ → Type 0
AreFirst released many = (hart number : ℕ) → number < slice_index many hart → HasGoneOut released hart number

-- none yet
pub none_first : (n : ℕ) (released : List Output) → AreFirst released (replicate n 0)
none_first n released hart number below =
    let none : slice_index (replicate n 0) hart ≡ 0 = ⊎_elim (λ (lt : hart < n). get_or-replicate n hart 0 0 lt)
    (λ (le : n ≤ hart). get_or_past (replicate n 0) hart 0 (omega (arith, length-replicate {A = ℕ} n 0, le))) (cases_lt hart n) in
    absurd (omega (arith, none, below))

-- what has gone out has gone out where one more does
pub gone_still : (xs : List Output) (o : Output) (hart number : ℕ) → HasGoneOut xs hart number → HasGoneOut (xs ++ o ∷ []) hart number
gone_still xs o hart number gone = record {
  output = gone.output;
  there = Contains-append_left xs (o ∷ []) gone.output gone.there;
  of_hart = gone.of_hart;
  numbered = gone.numbered;
}

gone_now : (xs : List Output) (o : Output) (hart number : ℕ) → o.hart ≡ hart → o.number ≡ number → HasGoneOut (xs ++ o ∷ []) hart number
gone_now xs o hart number of_hart numbered = record {
  output = o;
  there = Contains-push xs o;
  of_hart = of_hart;
  numbered = numbered;
}

-- one more
pub first_still : (many : List ℕ) (xs : List Output) (o : Output) → AreFirst xs many → AreFirst (xs ++ o ∷ []) many
first_still many xs o first hart number below = gone_still xs o hart number (first hart number below)

-- one more that is its hart's next
pub first_more : (many : List ℕ) (xs : List Output) (o : Output) (place next : ℕ) → place ≡ o.hart → place < length many →
    o.number ≡ slice_index many place → next ≤ o.number + 1 → AreFirst xs many → AreFirst (xs ++ o ∷ []) (slice_set many place next)
first_more many xs o place next same there is few first hart number below = elim (cases_eq hart place) [
  | inl here ↦
      let now : slice_index (slice_set many place next) place ≡ next = get_or-set_same many place next 0 there in
      let under : number < next = subst (λ (n : ℕ). number < n) now (subst (λ (h : ℕ). number < slice_index (slice_set many place next) h) here below) in
      ⊎_elim
      (λ (lt : number < slice_index many place). gone_still xs o hart number (first hart number (subst (λ (h : ℕ). number < slice_index many h) (sym here) lt)))
      (λ (le : slice_index many place ≤ number). gone_now xs o hart number (sym same ∙ sym here) (omega (arith, under, few, is, le)))
      (cases_lt number (slice_index many place))
  | inr ne ↦
      gone_still xs o hart number (first hart number (subst (λ (n : ℕ). number < n) (get_or-set_other many place hart next 0 ne) below))
]

-- no note of one hart more tells of more outputs than these
pub upto_more : (notes : List NotesOfOne) (many : List ℕ) (next : ℕ) →
    ((hart : ℕ) (note : ℕ × ℕ) → hart < next → Contains (notes_of notes hart) note → note.1 ≤ slice_index many hart) →
    ((note : ℕ × ℕ) → Contains (notes_of notes next) note → note.1 ≤ slice_index many next) →
    (hart : ℕ) (note : ℕ × ℕ) → hart < next + 1 → Contains (notes_of notes hart) note → note.1 ≤ slice_index many hart
upto_more notes many next before now hart note below there = elim (cases_eq hart next) [
  | inl here ↦ subst (λ (h : ℕ). note.1 ≤ slice_index many h) (sym here)
      (now note (subst (λ (h : ℕ). Contains (notes_of notes h) note) here there))
  | inr ne ↦ before hart note (omega (arith, below, ne)) there
]

-- nor is one mark more greater
pub within_more : (marks many : List ℕ) (next : ℕ) → ((hart : ℕ) → hart < next → count_at marks hart ≤ slice_index many hart) →
    count_at marks next ≤ slice_index many next → (hart : ℕ) → hart < next + 1 → count_at marks hart ≤ slice_index many hart
within_more marks many next before now hart below = elim (cases_eq hart next) [
  | inl here ↦ subst (λ (h : ℕ). count_at marks h ≤ slice_index many h) (sym here) now
  | inr ne ↦ before hart (omega (arith, below, ne))
]
