-- What is due to harts, set anew for one.
use Rattle.std.proofs.Common.{◌≡◌, ◌≢◌, ◌∙◌, ap, refl, inl, inr, ℕ, ◌<◌, List, [], ◌∷◌, None, length, slice_set, sym, subst}
use Rattle.std.proofs.lemmas.List.{get_or-set_same, get_or-set_other, set-get_or}
use Rattle.interleaving.proofs.Put.{same_or_not}
use Rattle.input_log.specs.declared.WaitingBell.{WaitingBell}
use Rattle.input_log.specs.declared.WaitingInput.{WaitingInput}
use Rattle.input_log.specs.Waiting.{bells_of, others_of, next_going}
use Rattle.book_modes.specs.Dues.{DueView, nothing_due, due_at, due_from, is_silent}
use Rattle.book_modes.specs.Recordings.{RecordingView, IsFilled}

-- what is due to one hart is set anew
pub due_set : (due : List DueView) (hart : ℕ) (new : DueView) (P : ℕ → DueView → Type 0) → hart < length due → P hart new →
    ((other : ℕ) → hart ≢ other → P other (due_at due other)) → (other : ℕ) → P other (due_at (slice_set due hart new) other)
due_set due hart new P row here there other =
    elim (same_or_not hart other) [
      | inl same ↦ subst (λ h. P h (due_at (slice_set due hart new) h)) same (subst (P hart) (sym (get_or-set_same due hart new nothing_due row)) here)
      | inr ne ↦ subst (P other) (sym (get_or-set_other due hart other new nothing_due (λ e. ne (sym e)))) (there other ne)
    ]

-- where nothing goes next nothing waits
none_waits : (bells : List WaitingBell) (others : List WaitingInput) → next_going bells others ≡ None → (bells ≡ []) × (others ≡ [])
none_waits [] [] e = (refl, refl)
none_waits [] (w ∷ others) e = cc
none_waits (b ∷ bells) others e = cc

-- a hart to which nothing is due, and for which nothing waits, takes nothing
pub takes_nothing : (r : RecordingView) (hart count : ℕ) → hart < length r.due → due_at r.due hart ≡ nothing_due →
    next_going (bells_of r.desk hart) (others_of r.desk hart) ≡ None → IsFilled (is_silent (due_at r.due hart).inputs) r hart count r
takes_nothing r hart count row due next =
    let none = none_waits (bells_of r.desk hart) (others_of r.desk hart) next in
    let empty : due_from hart count (bells_of r.desk hart) (others_of r.desk hart) ≡ nothing_due = rw none.0 (rw none.1 refl) in
    subst (λ (d : DueView). IsFilled (is_silent d.inputs) r hart count r) (sym due)
    (record {
      row = row;
      rest = refl;
      due = sym (ap (λ (d : DueView). slice_set r.due hart d) (empty ∙ sym due) ∙ set-get_or r.due hart nothing_due);
      bells = rw none.0 refl;
      others = rw none.0 (rw none.1 refl);
      bells_of_others = λ other ne. refl;
      others_of_others = λ other ne. refl;
    })
