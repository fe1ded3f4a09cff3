-- What a hart's next step is given, once it was lent.
use Rattle.std.proofs.Common.{◌≡◌, ◌≢◌, ℕ, List, [], ◌∷◌, ◌++◌, map, drop, length, Bool, true, false, refl, sym, ap, subst, ◌∙◌, if◌then◌else◌}
use Rattle.std.proofs.lemmas.List.{get_or-set_same, get_or-set_other}
use Rattle.ft_types.specs.declared.names.TheConstants.{INPUT_LIMIT}
use Rattle.input_log.specs.declared.Input.{Input}
use Rattle.input_log.specs.declared.WaitingBell.{WaitingBell}
use Rattle.input_log.specs.declared.WaitingInput.{WaitingInput}
use Rattle.input_log.specs.Waiting.{Queues, bells_of, others_of, going, others_going, others_staying, room_beside}
use Rattle.book_modes.specs.Dues.{DueView, nothing_due, due_at, due_from, is_silent}
use Rattle.book_modes.specs.Recordings.{RecordingView, IsFilled}
use Rattle.page_book.specs.Books.{BookView}
use Rattle.hart_lease.specs.Runs.{counts_of}
use Rattle.lease_rounds.specs.Steps.{KeepsNext, inputs_next, bells_left, others_left}

-- what is due to a hart that was lent
pub filled_due : (r : RecordingView) (hart count : ℕ) (new : RecordingView) (silent : Bool) → is_silent (due_at r.due hart).inputs ≡ silent →
    IsFilled silent r hart count new → (due_at new.due hart).inputs ≡ inputs_next r hart count
filled_due r hart count new false is same =
    ap (λ (v : RecordingView). (due_at v.due hart).inputs) same
    ∙ sym (ap (λ (b : Bool). if b then going count (bells_of r.desk hart) (others_of r.desk hart) else (due_at r.due hart).inputs) is)
filled_due r hart count new true is t =
    ap (λ (ds : List DueView). (due_at ds hart).inputs) t.due
    ∙ ap (λ (d : DueView). d.inputs)
    (get_or-set_same r.due hart (due_from hart count (bells_of r.desk hart) (others_of r.desk hart)) nothing_due t.row)
    ∙ sym (ap (λ (b : Bool). if b then going count (bells_of r.desk hart) (others_of r.desk hart) else (due_at r.due hart).inputs) is)

-- what a hart that is lent at this count leaves of what is due to others and of what waits
pub record Leaves (r : RecordingView) (hart count : ℕ) (new : RecordingView) : Type 0 where
  pub due : (other : ℕ) → other ≢ hart → due_at new.due other ≡ due_at r.due other
  pub bells : bells_of new.desk hart ≡ bells_left r hart
  pub others : others_of new.desk hart ≡ others_left r hart count
  pub bells_of_others : (other : ℕ) → other ≢ hart → bells_of new.desk other ≡ bells_of r.desk other
  pub others_of_others : (other : ℕ) → other ≢ hart → others_of new.desk other ≡ others_of r.desk other

pub filled_leaves : (r : RecordingView) (hart count : ℕ) (new : RecordingView) (silent : Bool) → is_silent (due_at r.due hart).inputs ≡ silent →
    IsFilled silent r hart count new → Leaves r hart count new
filled_leaves r hart count new false is same =
    subst (Leaves r hart count) (sym same)
    (record {
      due = λ other ne. refl;
      bells = sym (ap (λ (b : Bool). if b then drop INPUT_LIMIT (bells_of r.desk hart) else bells_of r.desk hart) is);
      others = sym
          (ap (λ (b : Bool). if b then others_staying count (room_beside (bells_of r.desk hart)) (others_of r.desk hart) else others_of r.desk hart) is);
      bells_of_others = λ other ne. refl;
      others_of_others = λ other ne. refl;
    })
filled_leaves r hart count new true is t =
    record {
      due = λ other ne.
          ap (λ (ds : List DueView). due_at ds other) t.due
          ∙ get_or-set_other r.due hart other (due_from hart count (bells_of r.desk hart) (others_of r.desk hart)) nothing_due ne;
      bells = t.bells ∙ sym (ap (λ (b : Bool). if b then drop INPUT_LIMIT (bells_of r.desk hart) else bells_of r.desk hart) is);
      others = t.others
          ∙ sym
          (ap (λ (b : Bool). if b then others_staying count (room_beside (bells_of r.desk hart)) (others_of r.desk hart) else others_of r.desk hart) is);
      bells_of_others = t.bells_of_others;
      others_of_others = t.others_of_others;
    }

-- ---- a lease that was given up

-- nothing goes where no bell waits and none of the others goes
none_goes : (count : ℕ) (bells : List WaitingBell) (others : List WaitingInput) → going count bells others ≡ [] →
    (bells ≡ []) × (others_going count (room_beside bells) others ≡ [])
none_goes count [] others none = (refl, no_others (others_going count (room_beside []) others) none)
  where
    no_others : (xs : List WaitingInput) → map (λ w. w.input) xs ≡ [] → xs ≡ []
    no_others [] e = refl
    no_others (x ∷ xs) e = cc
none_goes count (b ∷ bells) others none = cc

-- what is due to the hart, and waits for it, leads to the same as before
next_stays : (r : RecordingView) (hart count : ℕ) (new : RecordingView) (silent : Bool) → is_silent (due_at r.due hart).inputs ≡ silent →
    IsFilled silent r hart count new → inputs_next new hart count ≡ inputs_next r hart count
next_stays r hart count new false is same = ap (λ (v : RecordingView). inputs_next v hart count) same
next_stays r hart count new true is t = of (going count bells others) refl ∙ was
  where
    bells : List WaitingBell
    bells = bells_of r.desk hart

    others : List WaitingInput
    others = others_of r.desk hart

    was : going count bells others ≡ inputs_next r hart count
    was = sym (ap (λ (b : Bool). if b then going count bells others else (due_at r.due hart).inputs) is)

    due : (due_at new.due hart).inputs ≡ going count bells others
    due = filled_due r hart count new true is t ∙ sym was

    next : List Input → List Input
    next xs = if is_silent xs then going count (bells_of new.desk hart) (others_of new.desk hart) else xs

    stayed : going count bells others ≡ [] → going count (bells_of new.desk hart) (others_of new.desk hart) ≡ going count bells others
    stayed none =
        let no = none_goes count bells others none in
        let no_bells : bells_of new.desk hart ≡ bells = t.bells ∙ ap (drop INPUT_LIMIT) no.0 ∙ sym no.0 in
        let same : others_of new.desk hart ≡ others = t.others ∙ ap (λ (xs : List WaitingInput). drop (length xs) others) no.1 in
        λ i. going count (no_bells i) (same i)

    of : (xs : List Input) → going count bells others ≡ xs → inputs_next new hart count ≡ going count bells others
    of [] none = ap next (due ∙ none) ∙ stayed none
    of (x ∷ xs) some = ap next (due ∙ some) ∙ sym some

-- a book with what such a lease left
pub keeps_next : (hart : ℕ) (b d : BookView RecordingView) (new : RecordingView) (silent : Bool) → is_silent (due_at b.mode.due hart).inputs ≡ silent →
    IsFilled silent b.mode hart (counts_of b.machine hart) new → d.mode.due ≡ new.due → d.mode.desk ≡ new.desk → KeepsNext hart b d
keeps_next hart b d new silent is filled due desk =
    let count = counts_of b.machine hart in
    let left = filled_leaves b.mode hart count new silent is filled in
    record {
      own =
          (λ i. inputs_next (record d.mode { due = due i; desk = desk i }) hart count)
          ∙ next_stays b.mode hart count new silent is filled;
      due = λ other ne. ap (λ (ds : List DueView). due_at ds other) due ∙ left.due other ne;
      bells = λ other ne. ap (λ (qs : List Queues). bells_of qs other) desk ∙ left.bells_of_others other ne;
      others = λ other ne. ap (λ (qs : List Queues). others_of qs other) desk ∙ left.others_of_others other ne;
    }

-- a book keeps what it has
pub next_itself : (hart : ℕ) (b : BookView RecordingView) → KeepsNext hart b b
next_itself hart b = record { own = refl; due = λ other ne. refl; bells = λ other ne. refl; others = λ other ne. refl }
