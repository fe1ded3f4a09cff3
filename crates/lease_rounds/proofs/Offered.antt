-- What was offered to a hart stays: it is logged, due or waiting.
use Rattle.std.proofs.Common.{◌≡◌, ◌≢◌, ◌≤◌, ℕ, zero, suc, List, [], ◌∷◌, ◌++◌, map, Bool, true, false, slice_set}
use Rattle.std.proofs.Common.{refl, sym, ap, subst, ◌∙◌, inl, inr}
use Rattle.std.proofs.lemmas.Bool.{cases_eq}
use Rattle.std.proofs.lemmas.List.{get_or-set_same, get_or-set_other}
use Rattle.input_log.specs.declared.Input.{Input}
use Rattle.input_log.specs.declared.offered.Offer.{Offer}
use Rattle.input_log.specs.Inputs.{inputs_of}
use Rattle.input_log.specs.Offers.{all_offers, but_bells, AreKept}
use Rattle.input_log.specs.Waiting.{bells_of, others_of, going}
use Rattle.hart_lease.specs.Leases.{LeaseView}
use Rattle.book_modes.specs.Dues.{DueView, nothing_due, due_at, due_from, is_silent}
use Rattle.book_modes.specs.Recordings.{RecordingView, IsFilled, TakesFromDesk, LogsInputs, HasRung, due_after, offers_at}
use Rattle.book_modes.proofs.ledger.Dues.{of_silence}
use Rattle.page_book.specs.Books.{BookView}
use Rattle.lease_rounds.specs.Running.{KeepsOffered, offers}
use Rattle.lease_rounds.proofs.Offers.{kept_itself, kept_same, kept_on, kept_later, kept_taken, same_given}

-- ---- from book to book

pub offered_itself : (b : BookView RecordingView) → KeepsOffered b b
offered_itself b = λ hart. kept_itself (offers b hart)

pub offered_on : (b c d : BookView RecordingView) → KeepsOffered b c → KeepsOffered c d → KeepsOffered b d
offered_on b c d p q = λ hart. kept_on (offers b hart) (offers c hart) (offers d hart) (p hart) (q hart)

-- ---- what was offered

pub same_offered : (r new : RecordingView) (hart count : ℕ) → inputs_of new.inputs hart ≡ inputs_of r.inputs hart →
    (due_at new.due hart).inputs ≡ (due_at r.due hart).inputs → others_of new.desk hart ≡ others_of r.desk hart →
    offers_at new hart count ≡ offers_at r hart count
same_offered r new hart count logged due desk = λ i. but_bells (all_offers (logged i) count (due i) (desk i))

-- the same at a later count
same_later : (r new : RecordingView) (hart count later : ℕ) → count ≤ later → inputs_of new.inputs hart ≡ inputs_of r.inputs hart →
    (due_at new.due hart).inputs ≡ (due_at r.due hart).inputs → others_of new.desk hart ≡ others_of r.desk hart →
    AreKept (offers_at r hart count) (offers_at new hart later)
same_later r new hart count later le logged due desk =
    subst (λ (xs : List Offer). AreKept (offers_at r hart count) xs) (sym (same_offered r new hart later logged due desk))
    (kept_later (inputs_of r.inputs hart) count later (due_at r.due hart).inputs (others_of r.desk hart) le)

-- ---- a hart is lent

module _ (r : RecordingView) (hart : ℕ) (now : ℕ → ℕ) (new : RecordingView) where
  taken_here : (due_at r.due hart).inputs ≡ [] → TakesFromDesk r hart (now hart) new → AreKept (offers_at r hart (now hart)) (offers_at new hart (now hart))
  taken_here none t =
      let count = now hart in
      let bells = bells_of r.desk hart in
      let others = others_of r.desk hart in
      let log : inputs_of new.inputs hart ≡ inputs_of r.inputs hart = ap (λ (v : RecordingView). inputs_of v.inputs hart) t.rest in
      let due : (due_at new.due hart).inputs ≡ going count bells others =
      ap (λ (ds : List DueView). (due_at ds hart).inputs) t.due
      ∙ ap (λ (d : DueView). d.inputs) (get_or-set_same r.due hart (due_from hart count bells others) nothing_due t.row) in
      subst (λ (xs : List Offer). AreKept xs (offers_at new hart count))
      (ap (λ (xs : List Input). but_bells (all_offers (inputs_of r.inputs hart) count xs others)) (sym none))
      (subst (λ (xs : List Offer). AreKept (but_bells (all_offers (inputs_of r.inputs hart) count [] others)) xs)
      (λ i. but_bells (all_offers (sym log i) count (sym due i) (sym t.others i)))
      (kept_taken (inputs_of r.inputs hart) count bells others))

  taken_elsewhere : TakesFromDesk r hart (now hart) new → (other : ℕ) → other ≢ hart → AreKept (offers_at r other (now other)) (offers_at new other (now other))
  taken_elsewhere t other ne =
      kept_same (offers_at r other (now other)) (offers_at new other (now other))
      (same_offered r new other (now other) (ap (λ (v : RecordingView). inputs_of v.inputs other) t.rest)
      (ap (λ (ds : List DueView). (due_at ds other).inputs) t.due
      ∙ ap (λ (d : DueView). d.inputs)
      (get_or-set_other r.due hart other (due_from hart (now hart) (bells_of r.desk hart) (others_of r.desk hart)) nothing_due ne))
      (t.others_of_others other ne))

  pub filled_offered : (silent : Bool) → is_silent (due_at r.due hart).inputs ≡ silent → IsFilled silent r hart (now hart) new → (other : ℕ) →
      AreKept (offers_at r other (now other)) (offers_at new other (now other))
  filled_offered false is same other =
      kept_same (offers_at r other (now other)) (offers_at new other (now other)) (ap (λ (v : RecordingView). offers_at v other (now other)) same)
  filled_offered true is t other = elim (cases_eq other hart) [
    | inl own ↦
        subst (λ (h : ℕ). AreKept (offers_at r h (now h)) (offers_at new h (now h))) (sym own) (taken_here (of_silence (due_at r.due hart).inputs is) t)
    | inr ne ↦ taken_elsewhere t other ne
  ]

-- ---- its lease comes back

pub cleared : (due : List DueView) (hart : ℕ) → due_at (slice_set due hart nothing_due) hart ≡ nothing_due
cleared [] hart = refl
cleared (d ∷ due) zero = refl
cleared (d ∷ due) (suc hart) = cleared due hart

module _ (r : RecordingView) (l : LeaseView) (new : RecordingView) (now later : ℕ → ℕ) (further : (hart : ℕ) → now hart ≤ later hart)
    (counted : now l.hart ≡ l.base.count) (rung : HasRung r.desk l new.desk) (is_due : l.inputs ≡ (due_at r.due l.hart).inputs) where
  pub settled_offered : (steps : ℕ) → LogsInputs steps r.inputs l new.inputs → new.due ≡ due_after steps r.due l.hart → (hart : ℕ) →
      AreKept (offers_at r hart (now hart)) (offers_at new hart (later hart))
  settled_offered zero logs due hart =
      same_later r new hart (now hart) (later hart) (further hart) (ap (λ (log : List (List (ℕ × Input))). inputs_of log hart) logs)
      (ap (λ (ds : List DueView). (due_at ds hart).inputs) due) (rung.others hart)
  settled_offered (suc steps) logs due hart = elim (cases_eq hart l.hart) [
    | inl own ↦ subst (λ (h : ℕ). AreKept (offers_at r h (now h)) (offers_at new h (later h))) (sym own) here
    | inr ne ↦
        same_later r new hart (now hart) (later hart) (further hart) (logs.others hart ne)
        (ap (λ (ds : List DueView). (due_at ds hart).inputs) due
        ∙ ap (λ (d : DueView). d.inputs) (get_or-set_other r.due l.hart hart nothing_due nothing_due ne))
        (rung.others hart)
  ]
    where
      none : (due_at new.due l.hart).inputs ≡ []
      none = ap (λ (ds : List DueView). (due_at ds l.hart).inputs) due ∙ ap (λ (d : DueView). d.inputs) (cleared r.due l.hart)

      row : inputs_of new.inputs l.hart ≡ inputs_of r.inputs l.hart ++ map (λ i. (now l.hart, i)) (due_at r.due l.hart).inputs
      row =
          logs.row
          ∙ (λ i. inputs_of r.inputs l.hart ++ map (λ (x : Input). let pair : ℕ × Input = (sym counted i, x) in pair) (is_due i))

      here : AreKept (offers_at r l.hart (now l.hart)) (offers_at new l.hart (later l.hart))
      here =
          kept_same (offers_at r l.hart (now l.hart)) (offers_at new l.hart (later l.hart))
          ((λ i. but_bells (all_offers (row i) (later l.hart) (none i) (rung.others l.hart i)))
          ∙ ap but_bells
          (same_given (inputs_of r.inputs l.hart) (now l.hart) (later l.hart) (due_at r.due l.hart).inputs (others_of r.desk l.hart)))
