use Rattle.std.proofs.Common.{ℕ, AllPairs, filter, Result, Ok, Err, IfOk, sym, ap, subst, ◌∙◌}
use Rattle.std.proofs.lemmas.List.Kept.{AllPairs-filter}
use Rattle.std.proofs.lemmas.Result.{IfOk-weaker}
use Rattle.edge_log.specs.EdgeLog.{row_of}
use Rattle.input_log.specs.Inputs.{inputs_of}
use Rattle.input_log.specs.Notes.{notes_of, IsNotedBefore, AreNotes}
use Rattle.fragment_codec.specs.Facts.{is_between}
use Rattle.log_pieces.proofs.cuts.Between.{nothing_told, told_noted, there_between, logged_between}
use Rattle.input_log.proofs.Notings.{counts_rise}
use Rattle.log_pieces.proofs.merging.records_between.Goals as goal

both : {T E : Type 0} {P Q R : T → Type 0} (r : Result T E) → ((x : T) → P x → Q x → R x) → IfOk r P → IfOk r Q → IfOk r R
both (Ok x) f p q = f x p q
both (Err e) f p q = tt

pub notes_between-notes-requires : goal.notes_between-notes-requires
notes_between-notes-requires c = counts_rise c.of_hart.result.now c.of_hart.ensures.rules.rising

pub with_notes-requires-clause-plain : goal.with_notes-requires-clause-plain
with_notes-requires-clause-plain c = ap (λ f. f.notes) c.in_ok-records.ensures.told

pub with_notes-requires-clause-notes : goal.with_notes-requires-clause-notes
with_notes-requires-clause-notes c =
    subst (AllPairs IsNotedBefore) (sym c.notes_between-notes.ensures)
    (AllPairs-filter IsNotedBefore (λ (x : ℕ × ℕ). is_between c.args.from c.args.to x.0) c.of_hart.result.now c.of_hart.ensures.rules.rising)

pub returns-clause-told : goal.returns-clause-told
returns-clause-told c =
    IfOk-weaker c.with_notes.result _ _
    (λ v told.
    told_noted c.args.from c.args.to (row_of c.args.edges.now c.args.hart) (inputs_of c.args.inputs.now c.args.hart) (notes_of c.args.notes.now c.args.hart) _
    c.in_ok-records.records.items v.items
    (c.notes_between-notes.ensures ∙ ap (filter (λ (x : ℕ × ℕ). is_between c.args.from c.args.to x.0)) c.of_hart.ensures.value)
    c.in_ok-records.ensures.told told)
    c.with_notes.ensures.told

pub returns-clause-there : goal.returns-clause-there
returns-clause-there c =
    IfOk-weaker c.with_notes.result _ _
    (λ v told.
    there_between c.args.from c.args.to (row_of c.args.edges.now c.args.hart) (inputs_of c.args.inputs.now c.args.hart)
    (notes_of c.args.notes.now c.args.hart) v.items told)
    (returns-clause-told c)

pub returns-clause-logged : goal.returns-clause-logged
returns-clause-logged c =
    both c.with_notes.result
    (λ v told order harts edges inputs.
    logged_between c.args.from c.args.to (row_of c.args.edges.now c.args.hart) (inputs_of c.args.inputs.now c.args.hart)
    (notes_of c.args.notes.now c.args.hart) v.items told harts c.args.hart order c.unnoted_between.ensures.few (edges c.args.hart) (inputs c.args.hart)
    (subst (λ l. AreNotes l) c.of_hart.ensures.value c.of_hart.ensures.rules).each)
    (returns-clause-told c) c.with_notes.ensures.order

-- where no count is between there is nothing to tell
pub returns-then-to-from-clause-told : goal.returns-then-to-from-clause-told
returns-then-to-from-clause-told c =
    rw c.new.ensures.items
    (nothing_told c.args.from c.args.to (row_of c.args.edges.now c.args.hart) (inputs_of c.args.inputs.now c.args.hart) (notes_of c.args.notes.now c.args.hart)
    c.if-to-from.true)
