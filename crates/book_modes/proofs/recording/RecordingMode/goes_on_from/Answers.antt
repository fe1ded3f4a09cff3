use Rattle.std.proofs.Common.{◌≡◌, ◌≤◌, ℕ, List, [], refl, ap, subst, sym, ◌∙◌, arith, inl, inr}
use Rattle.std.proofs.lemmas.Bool.{cases_lt}
use Rattle.std.proofs.lemmas.List.{get_or_past}
use Rattle.std.proofs.lemmas.List.Elements.{All-nil}
use Rattle.ft_types.specs.Counts.{count_at}
use Rattle.ft_types.specs.declared.names.TheConstants.{HART_ROW}
use Rattle.input_log.specs.declared.Input.{Input}
use Rattle.input_log.specs.Inputs.{inputs_of}
use Rattle.input_log.specs.declared.offered.Offer.{Offer}
use Rattle.input_log.specs.Offers.{all_offers, but_bells, AreKept}
use Rattle.input_log.specs.Notes.{notes_of, NotesMore}
use Rattle.input_log.specs.Waiting.{Queues, others_of, empty}
use Rattle.book_modes.specs.Dues.{DueView, due_at, nothing_due}
use Rattle.book_modes.specs.Recordings.{RecordingView, HasRows, KeepsInputs, offers_at}
use Rattle.book_modes.proofs.recording.RecordingMode.goes_on_from.Goals as goal

-- a hart that has no row was given and offered nothing
nothing_offered : (r : RecordingView) (hart count : ℕ) → HasRows r → HART_ROW ≤ hart → offers_at r hart count ≡ []
nothing_offered r hart count rows past =
    ap (λ (row : List (ℕ × Input)). but_bells (all_offers row count (due_at r.due hart).inputs (others_of r.desk hart)))
    (get_or_past r.inputs hart [] (omega (arith, rows.inputs)))
    ∙ ap (λ (due : DueView). but_bells (all_offers [] count due.inputs (others_of r.desk hart)))
    (get_or_past r.due hart nothing_due (omega (arith, rows.due)))
    ∙ ap (λ (queues : Queues). but_bells (all_offers [] count [] queues.others)) (get_or_past r.desk hart empty (omega (arith, rows.desk)))

nothing_kept : (r new : RecordingView) (hart count later : ℕ) → HasRows r → HasRows new → HART_ROW ≤ hart → KeepsInputs r hart count new later
nothing_kept r new hart count later rows now past =
    record {
      given =
          let old : inputs_of r.inputs hart ≡ [] = get_or_past r.inputs hart [] (omega (arith, rows.inputs)) in
          let more : inputs_of new.inputs hart ≡ [] = get_or_past new.inputs hart [] (omega (arith, now.inputs)) in
          ([], rw (old, more) refl, All-nil (λ (x : ℕ × Input). count ≤ x.0));
      offered =
          subst (λ (old : List Offer). AreKept old (offers_at new hart later)) (sym (nothing_offered r hart count rows past))
          (subst (λ (all : List Offer). AreKept [] all) (sym (nothing_offered new hart later now past)) tt);
    }

pub loop-number-preserved : goal.loop-number-preserved
loop-number-preserved c h below = elim (cases_lt h c.loop-number.number) [
  | inl less ↦ c.loop-number.invariant h less
  | inr more ↦
      let at : c.new-hart.result ≡ h = let e = c.new-hart.ensures in omega (arith, e) in
      let kept = c.keeps_inputs.ensures.0 c.if-not-keeps_inputs.false in
      let told =
      subst (λ (n : ℕ). KeepsInputs c.args.before.now c.new-hart.result n c.args.self.now c.count_of-later.result) c.count_of.ensures.value kept in
      subst (λ (n : ℕ). KeepsInputs c.args.before.now n (count_at c.args.settled.now n) c.args.self.now (count_at c.args.now.now n)) at
      (subst (λ (n : ℕ). KeepsInputs c.args.before.now c.new-hart.result (count_at c.args.settled.now c.new-hart.result) c.args.self.now n)
      c.count_of-later.ensures.value told)
]

pub returns-then-not-adds_later-2 : goal.returns-then-not-adds_later-2
returns-then-not-adds_later-2 c = (
  λ e. absurd (cc e),
  λ on.
      let more : (hart : ℕ) → NotesMore (notes_of c.before-2.inside.notes hart) (count_at c.args.settled.now hart) (notes_of c.self.inside.notes hart) =
      λ hart.
      subst (λ (r : RecordingView). NotesMore (notes_of r.notes hart) (count_at c.args.settled.now hart) (notes_of c.self.inside.notes hart)) (sym c.before-2.view_is)
      (subst (λ (r : RecordingView). NotesMore (notes_of c.args.before.now.notes hart) (count_at c.args.settled.now hart) (notes_of r.notes hart)) (sym c.self.view_is)
      (on.notes hart)) in
      let told = c.adds_later-2.ensures.1 more in absurd (let no = c.if-not-adds_later-2.true in cc),
)

pub returns : goal.returns
returns c = (
  λ e.
      record {
        edges =
            rw (← c.self.view_is, ← c.before-2.view_is) (rw (c.deref.ensures, c.deref-2.ensures) at (c.adds_later.ensures.0 c.if-not-adds_later.false));
        notes = rw (← c.self.view_is, ← c.before-2.view_is) (c.adds_later-2.ensures.0 c.if-not-adds_later-2.false);
        inputs = λ h. elim (cases_lt h c.loop-number.number) [
          | inl less ↦ c.loop-number.invariant h less
          | inr more ↦
              let past : HART_ROW ≤ h = let end = c.loop-number-test.false in omega (arith, end) in
              nothing_kept c.args.before.now c.args.self.now h (count_at c.args.settled.now h) (count_at c.args.now.now h) c.has_rows-2.ensures c.has_rows.ensures past
        ];
      },
  λ on. refl,
)
