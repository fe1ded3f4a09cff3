use Rattle.std.proofs.Common.{◌≡◌, List, refl, ◌<◌, ◌≤◌, length, max, ap, subst, sym, ◌∙◌, arith}
use Rattle.ft_types.specs.Counts.{count_at}
use Rattle.fragment_codec.specs.declared.types.Record.{Record}
use Rattle.fragment_codec.specs.declared.types.Record.TheVariants.{Note as NoteRecord}
use Rattle.fragment_codec.specs.Rules.{IsRecordOf, count_of}
use Rattle.hart_replay.specs.Facts.{notes_among}
use Rattle.hart_replay.specs.machinery.Taking.{is_between}
use Rattle.hart_replay.proofs.gathering.Notes.{takes_nothing, skips_note, takes_note}
use Rattle.hart_replay.proofs.gathering.Records.{kept_none, no_note, record_at, read_at}
use Rattle.hart_replay.proofs.facts.add_notes.Goals as goal
use Rattle.hart_replay.proofs.facts.add_notes.Goals.{in-Note+then-is_between, in-Note+else-is_between, in_default}

pub loop-record-init : goal.loop-record-init
loop-record-init c = takes_nothing c.args.piece.now.key.hart c.args.marks.now

pub set-requires-clause-count : goal.set-requires-clause-count
set-requires-clause-count c =
    let f = c.args.piece.now in
    let i = c.loop-record.record-index in
    let less : i < length f.records = subst (λ (l : List Record). i < length l) c.records-record-items.ensures.records c.loop-record-test.true in
    let fact = NoteRecord c.in-Note.at c.in-Note.number in
    let is = read_at f.records c.records-record-items.result.now i c.record-item.result fact c.records-record-items.ensures.records c.record-item.is
    c.in-Note.is in
    let rules = c.records-record-items.ensures.rules in
    let own : IsRecordOf f.guest.harts f.key.hart f.from f.to fact = record_at f i fact rules less is in
    omega (arith, own.0.1, own.2, rules.end, c.get.ensures.limit, c.max-mark.ensures)

pub loop-record-preserved : goal.loop-record-preserved
loop-record-preserved c =
    let f = c.args.piece.now in
    let i = c.loop-record.record-index in
    let less : i < length f.records = subst (λ (l : List Record). i < length l) c.records-record-items.ensures.records c.loop-record-test.true in
    let item = c.record-item.result in
    let read = λ (s : Record) (named : item ≡ s). read_at f.records c.records-record-items.result.now i item s c.records-record-items.ensures.records
    c.record-item.is named in
    let hart = f.key.hart in
    let old = c.args.marks.now in
    let now = c.loop-record.marks in
    let p = λ (r : Record). is_between c.args.from c.args.end (count_of r) in
    elim c.match-record.branch [
      | in-Note+then-is_between w ↦
          let is = read (NoteRecord w.in-Note.at w.in-Note.number) w.in-Note.is in
          let mark : w.max-mark.result ≡ max (count_at now hart) w.in-Note.number
          = w.max-mark.ensures ∙ ap (λ m. max m w.in-Note.number) (w.get.ensures.value ∙ ap (λ k. count_at now k.hart) c.key-hart.ensures) in
          rw w.marks-is
          (rw w.set.ensures
          (rw c.key-hart.ensures
          (takes_note hart old now p f.records i w.in-Note.at w.in-Note.number less is (sym w.is_between.ensures ∙ w.if-is_between.true) c.loop-record.invariant w.max-mark.result
          mark (omega (arith, c.requires, c.loop-record.invariant.many)))))
      | in-Note+else-is_between w ↦
          let fact = NoteRecord w.in-Note.at w.in-Note.number in
          let is = read fact w.in-Note.is in
          rw w.marks-is
          (skips_note hart old now p f.records i fact less is (ap notes_among (kept_none p fact (sym w.is_between.ensures ∙ w.if-is_between.false))) c.loop-record.invariant)
      | in_default w ↦
          let is = read item refl in
          rw w.marks-is (skips_note hart old now p f.records i item less is (no_note p item w.in_default.not-Note) c.loop-record.invariant)
    ]
