use Rattle.std.proofs.Common.{◌≡◌, ℕ, List, length, map, zip, ap, sym, ◌∙◌, refl}
use Rattle.std.proofs.lemmas.Slice.Eq.{slice_eq-Decides}
use Rattle.std.proofs.lemmas.Slice.Zip.{firsts-zip, seconds-zip}
use Rattle.input_log.specs.declared.Input.{Input}
use Rattle.input_log.proofs.Told.{inputs_told}
use Rattle.input_log.proofs.row.Row.same.Goals as goal

-- paired rows that are the same have the same counts, and the same inputs
same_firsts : (m n : List ℕ) (a b : List Input) → length a ≡ length m → length b ≡ length n → zip m a ≡ zip n b → m ≡ n
same_firsts m n a b e f same =
    sym (firsts-zip m a e) ∙ ap (λ (row : List (ℕ × Input)). map (λ (x : ℕ × Input). x.0) row) same ∙ firsts-zip n b f

same_seconds : (m n : List ℕ) (a b : List Input) → length a ≡ length m → length b ≡ length n → zip m a ≡ zip n b → a ≡ b
same_seconds m n a b e f same =
    sym (seconds-zip m a e) ∙ ap (λ (row : List (ℕ × Input)). map (λ (x : ℕ × Input). x.1) row) same ∙ seconds-zip n b f

pub returns-then-same_counts : goal.returns-then-same_counts
returns-then-same_counts c =
    let told = slice_eq-Decides inputs_told c.as_slice-then-same_counts.result.now c.as_slice-then-same_counts-2.result.now c.same_inputs.result
    c.same_inputs.ensures in
    let mine = c.as_slice-then-same_counts.ensures.value in
    let theirs = c.as_slice-then-same_counts-2.ensures.value in
    let counts : c.self.inside.counts.items ≡ c.other.inside.counts.items =
    sym c.as_slice.ensures.value ∙ c.same_counts.ensures.0 c.if-same_counts.true ∙ c.as_slice-2.ensures.value in
    rw (← c.self.view_is, ← c.other.view_is) (
      λ e.
          let inputs : c.self.inside.inputs.items ≡ c.other.inside.inputs.items = sym mine ∙ told.0 e ∙ theirs in
          rw (counts, inputs) refl,
      λ e.
          told.1 (mine
          ∙ same_seconds c.self.inside.counts.items c.other.inside.counts.items c.self.inside.inputs.items c.other.inside.inputs.items c.self.invariant.paired
          c.other.invariant.paired e
          ∙ sym theirs),
    )

pub returns-else-same_counts : goal.returns-else-same_counts
returns-else-same_counts c = rw (← c.self.view_is, ← c.other.view_is) (
  λ e. absurd (let no = c.if-same_counts.false in cc),
  λ e.
      let same = c.same_counts.ensures.1 (c.as_slice.ensures.value
      ∙ same_firsts c.self.inside.counts.items c.other.inside.counts.items c.self.inside.inputs.items c.other.inside.inputs.items c.self.invariant.paired
      c.other.invariant.paired e
      ∙ sym c.as_slice-2.ensures.value) in
      same,
)
