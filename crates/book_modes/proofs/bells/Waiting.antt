-- Bells that wait when a book begins, when a hart is lent, and when an input is offered.
use Rattle.std.proofs.Common.{◌≡◌, ◌≢◌, inl, inr, ℕ, zero, suc, ◌<◌, ◌≤◌, false, List, [], ◌∷◌, ◌++◌, length, drop, replicate, slice_get, Some, refl, ap, sym}
use Rattle.std.proofs.Common.{subst, ◌∙◌, arith, take-append-drop}
use Rattle.std.specs.List.{count_by}
use Rattle.std.proofs.lemmas.Option.{slice_get_within}
use Rattle.std.proofs.lemmas.List.{length-append, length-replicate}
use Rattle.std.proofs.lemmas.List.Elements.{All-cons, All-append, All-drop}
use Rattle.ft_types.specs.declared.names.TheConstants.{INPUT_LIMIT}
use Rattle.interleaving.specs.Lists.{put}
use Rattle.interleaving.specs.Machine.{counts}
use Rattle.interleaving.specs.Log.{Edge}
use Rattle.interleaving.specs.Stored.{view}
use Rattle.interleaving.proofs.Put.{same_or_not, put_same, put_other}
use Rattle.input_log.specs.declared.Input.{Input}
use Rattle.input_log.specs.declared.WaitingBell.{WaitingBell}
use Rattle.input_log.specs.Inputs.{is_bell}
use Rattle.input_log.specs.Waiting.{Queues, bells_of, others_of, AreOthers, bells_going, others_going, room_beside}
use Rattle.rv32_hart.specs.Hart.{Hart}
use Rattle.rv32_hart.specs.Bells.{is_bell_from}
use Rattle.rv32_hart.specs.Hardware.{hardware}
use Rattle.guest_image.specs.Machine.{MachineState}
use Rattle.hart_lease.specs.Recorded.{system}
use Rattle.hart_lease.specs.Runs.{counts_of}
use Rattle.book_modes.specs.Silences.{rung_by, heard_by, many_unheard, bell_from, unheard_from, unheard_of, unheard_bells}
use Rattle.book_modes.specs.Dues.{DueView, nothing_due, due_at, bell_edges}
use Rattle.book_modes.specs.Recordings.{RecordingView, IsOffered, TakesFromDesk}
use Rattle.book_modes.specs.Hearings.{HartStep, IsPair, bells_from, WasRung, AreNext, KeepsBells}
use Rattle.book_modes.proofs.bells.Numbers.{numbered_each, from_append, from_same, from_other, going_told}
use Rattle.book_modes.proofs.bells.Steps.{Now}
use Rattle.book_modes.proofs.ledger.NewDue.{due_set}

-- A book begins.

-- no bell of a source that is yet to come
none_yet : (m : MachineState) (target source n : ℕ) → n ≤ source → bells_from source (unheard_from m target n) ≡ []
none_yet m target source zero le = refl
none_yet m target source (suc n) le =
    from_append source (unheard_from m target n) (replicate (many_unheard m n target) (bell_from n (counts_of m n))) ∙
    (ap (λ bs. bs ++ bells_from source (replicate (many_unheard m n target) (bell_from n (counts_of m n)))) (none_yet m target source n (omega (arith, le))) ∙
    from_other source (many_unheard m n target) (bell_from n (counts_of m n)) (λ e. omega (arith, e, le)))

many_from : (m : MachineState) (target source n : ℕ) → source < n → length (bells_from source (unheard_from m target n)) ≡ many_unheard m source target
many_from m target source zero lt = absurd (omega (arith, lt))
many_from m target source (suc n) lt =
    ap length (from_append source (unheard_from m target n) bells) ∙
    elim (same_or_not n source) [
      | inl same ↦
          ap (λ bs. length (bs ++ bells_from source bells)) (none_yet m target source n (omega (arith, same))) ∙
          (ap length (from_same source (many_unheard m n target) (bell_from n (counts_of m n)) same) ∙
          (length-replicate {A = WaitingBell} (many_unheard m n target) (bell_from n (counts_of m n)) ∙ ap (λ s. many_unheard m s target) same))
      | inr ne ↦
          omega (
            arith,
            length-append (bells_from source (unheard_from m target n)) (bells_from source bells),
            many_from m target source n (omega (arith, lt, ne)),
            ap length (from_other source (many_unheard m n target) (bell_from n (counts_of m n)) ne),
          )
    ]
  where
    bells : List WaitingBell
    bells = replicate (many_unheard m n target) (bell_from n (counts_of m n))

-- a target that is there
unheard_there : (m : MachineState) (target : ℕ) → target < length m.harts → unheard_bells m target ≡ unheard_from m target (length m.harts)
unheard_there m target lt = of m.harts target lt
  where
    of : (hs : List Hart) (n : ℕ) → n < length hs → unheard_of (slice_get hs n) (unheard_from m target (length m.harts)) ≡ unheard_from m target
        (length m.harts)
    of [] n lt = absurd (omega (arith, lt))
    of (h ∷ hs) zero lt = refl
    of (h ∷ hs) (suc n) lt = of hs n (omega (arith, lt))

pub begun_bells : (start : MachineState) (due : List DueView) (desk : List Queues) →
    ((hart : ℕ) (h : Hart) → slice_get start.harts hart ≡ Some h → length start.harts ≤ length h.received.heard) →
    ((hart : ℕ) → due_at due hart ≡ nothing_due) → ((hart : ℕ) → bells_of desk hart ≡ unheard_bells start hart) →
    ((hart : ℕ) → others_of desk hart ≡ []) → KeepsBells start (view (hardware (length start.pages)) start) [] [] due desk
begun_bells start due desk rows nothing bells others =
    record {
      rows = rows;
      due_bells = λ hart. [];
      told = λ hart source. ap (λ (d : DueView). count_by (is_bell_from source) d.inputs) (nothing hart);
      owed = λ hart. ap (λ (d : DueView). d.edges) (nothing hart);
      next =
          λ source target pair.
          let many : length (bells_from source (bells_of desk target)) ≡ many_unheard start source target =
          ap (λ bs. length (bells_from source bs)) (bells target ∙
          unheard_there start target (slice_get_within start.harts target pair.is_target.0 pair.is_target.1)) ∙
          many_from start target source (length start.harts)
          (slice_get_within start.harts source pair.is_source.0 pair.is_source.1) in
          record {
            many = omega (arith, many, pair.heard);
            each =
                numbered_each (WasRung start [] source target) (heard_by (slice_get start.harts target) source) (bells_from source (bells_of desk target))
                (λ n b below. inl (omega (arith, below, many, pair.heard)));
          };
      others = λ hart. subst AreOthers (sym (others hart)) (λ k d below. absurd (omega (arith, below)));
      in_turn = λ source target k t pair since (i, below, is) hears. absurd (omega (arith, below));
    }

-- An input is offered.

module _ (start : MachineState) (now : Now) (past : List HartStep) (edges : List Edge) where
  pub offered_bells : (r new : RecordingView) (hart not_before : ℕ) (input : Input) → IsOffered r hart not_before input new → is_bell input ≡ false →
      KeepsBells start now past edges r.due r.desk → KeepsBells start now past edges r.due new.desk
  offered_bells r new hart not_before input o plain kept =
      record {
        rows = kept.rows;
        due_bells = kept.due_bells;
        told = kept.told;
        owed = kept.owed;
        next =
            λ source target pair.
            subst (λ bs. AreNext (WasRung start past source target) (heard_by (now.harts target) source) (rung_by (now.harts source) target)
            (bells_from source (kept.due_bells target ++ bs))) (sym (same target)) (kept.next source target pair);
        others = others_left;
        in_turn = kept.in_turn;
      }
    where
      same : (h : ℕ) → bells_of new.desk h ≡ bells_of r.desk h
      same h =
          elim (same_or_not hart h) [
            | inl here ↦ subst (λ h. bells_of new.desk h ≡ bells_of r.desk h) here o.bells
            | inr ne ↦ o.bells_of_others h (λ e. ne (sym e))
          ]

      others_left : (h : ℕ) → AreOthers (others_of new.desk h)
      others_left h =
          elim (same_or_not hart h) [
            | inl here ↦
                subst (λ h. AreOthers (others_of new.desk h)) here
                (subst AreOthers (sym o.others)
                (All-append (λ w. is_bell w.input ≡ false) (others_of r.desk hart) (record { not_before = not_before; input = input } ∷ []) (kept.others hart)
                (All-cons (λ w. is_bell w.input ≡ false) (record { not_before = not_before; input = input }) [] plain
                (λ k d below. absurd (omega (arith, below))))))
            | inr ne ↦ subst AreOthers (sym (o.others_of_others h (λ e. ne (sym e)))) (kept.others h)
          ]

  -- A hart that has nothing due takes what the desk has.

  pub taken_bells : (r new : RecordingView) (hart count : ℕ) → TakesFromDesk r hart count new → (due_at r.due hart).inputs ≡ [] →
      count ≡ counts (system (length start.pages)) now hart → hart < length r.due → KeepsBells start now past edges r.due r.desk →
      KeepsBells start now past edges new.due new.desk
  taken_bells r new hart count t silent at row kept =
      record {
        rows = kept.rows;
        due_bells = bells;
        told =
            λ h source.
            subst (λ (due : List DueView). count_by (is_bell_from source) (due_at due h).inputs ≡ length (bells_from source (bells h))) (sym t.due)
            (due_set r.due hart _ (λ h d. count_by (is_bell_from source) d.inputs ≡ length (bells_from source (bells h))) row
            (going_told source count (bells_of r.desk hart) (others_of r.desk hart) (kept.others hart) ∙ ap (λ bs. length (bells_from source bs)) (sym here))
            (λ h ne. kept.told h source ∙ ap (λ bs. length (bells_from source bs)) (sym (there h ne))) h);
        owed =
            λ h.
            subst (λ (due : List DueView). (due_at due h).edges ≡ bell_edges h (counts (system (length start.pages)) now h) (bells h)) (sym t.due)
            (due_set r.due hart _ (λ h d. d.edges ≡ bell_edges h (counts (system (length start.pages)) now h) (bells h)) row
            (ap (λ n. bell_edges hart n (bells_going (bells_of r.desk hart))) at ∙ ap (bell_edges hart (counts (system (length start.pages)) now hart))
            (sym here))
            (λ h ne. kept.owed h ∙ ap (bell_edges h (counts (system (length start.pages)) now h)) (sym (there h ne))) h);
        next = next_left;
        others = others_left;
        in_turn = kept.in_turn;
      }
    where
      going : List WaitingBell
      going = bells_going (bells_of r.desk hart)

      bells : ℕ → List WaitingBell
      bells = put kept.due_bells hart going

      here : bells hart ≡ going
      here = put_same kept.due_bells hart hart going refl

      there : (h : ℕ) → hart ≢ h → bells h ≡ kept.due_bells h
      there h ne = put_other kept.due_bells hart h going ne

      none : (bs : List WaitingBell) → length bs ≡ 0 → bs ≡ []
      none [] e = refl
      none (b ∷ bs) e = absurd (omega (arith, e))

      -- what goes and what stays are what waited
      same : (source : ℕ) → bells_from source (kept.due_bells hart ++ bells_of r.desk hart) ≡ bells_from source (bells hart ++ bells_of new.desk hart)
      same source =
          from_append source (kept.due_bells hart) (bells_of r.desk hart) ∙
          (ap (λ bs. bs ++ bells_from source (bells_of r.desk hart))
          (none (bells_from source (kept.due_bells hart)) (sym (sym (ap (count_by (is_bell_from source)) silent) ∙ kept.told hart source))) ∙
          ap (bells_from source)
          (sym (take-append-drop INPUT_LIMIT (bells_of r.desk hart)) ∙ (ap (λ bs. bs ++ drop INPUT_LIMIT (bells_of r.desk hart)) (sym here) ∙ ap (λ bs. bells hart ++ bs)
          (sym t.bells))))

      next_left : (source target : ℕ) → IsPair (view (hardware (length start.pages)) start) source target →
          AreNext (WasRung start past source target) (heard_by (now.harts target) source) (rung_by (now.harts source) target)
          (bells_from source (bells target ++ bells_of new.desk target))
      next_left source target pair =
          elim (same_or_not hart target) [
            | inl is ↦
                subst (AreNext (WasRung start past source target) (heard_by (now.harts target) source) (rung_by (now.harts source) target))
                (subst (λ h. bells_from source (kept.due_bells h ++ bells_of r.desk h) ≡ bells_from source (bells h ++ bells_of new.desk h)) is (same source))
                (kept.next source target pair)
            | inr ne ↦
                subst (λ bs. AreNext (WasRung start past source target) (heard_by (now.harts target) source) (rung_by (now.harts source) target)
                (bells_from source bs))
                (ap (λ bs. bs ++ bells_of r.desk target) (sym (there target ne)) ∙ ap (λ bs. bells target ++ bs)
                (sym (t.bells_of_others target (λ e. ne (sym e)))))
                (kept.next source target pair)
          ]

      others_left : (h : ℕ) → AreOthers (others_of new.desk h)
      others_left h =
          elim (same_or_not hart h) [
            | inl is ↦
                subst (λ h. AreOthers (others_of new.desk h)) is
                (subst AreOthers (sym t.others)
                (All-drop (λ w. is_bell w.input ≡ false) (length (others_going count (room_beside (bells_of r.desk hart)) (others_of r.desk hart)))
                (others_of r.desk hart) (kept.others hart)))
            | inr ne ↦ subst AreOthers (sym (t.others_of_others h (λ e. ne (sym e)))) (kept.others h)
          ]
