use Rattle.std.proofs.Common.{◌≡◌, ◌≢◌, ℕ, ◌≤◌, ◌<◌, ◌+◌, List, [], ◌∷◌, ◌++◌, append-nil, length, drop, max, true, false, refl, sym, ap, subst, ◌∙◌, arith, le_refl, le_trans}
use Rattle.std.proofs.lemmas.List.Elements.{All-weaker, All-from_recursion}
use Rattle.fragment_codec.specs.declared.types.Record.{Record}
use Rattle.fragment_codec.specs.declared.types.Record.TheVariants.{Edge as EdgeRecord, Input as InputRecord}
use Rattle.fragment_codec.specs.Rules.{count_of, IsRecordOf}
use Rattle.input_log.specs.Inputs.{inputs_of, HearsMore}
use Rattle.hart_replay.specs.Facts.{inputs_among}
use Rattle.hart_replay.specs.machinery.Taking.{is_between}
use Rattle.hart_replay.proofs.gathering.Records.{later, ahead_at, kept_none, from_there, no_input, record_at, read_at}
use Rattle.hart_replay.proofs.gathering.Inputs.{InputsEndBy, may_follow, skips_input, takes_input, all_with, hears_later}
use Rattle.hart_replay.proofs.facts.add_inputs.Goals as goal
use Rattle.hart_replay.proofs.facts.add_inputs.Goals.{in-Input+then-is_between+in_ok-add, in-Input+else-is_between, in_default}

pub loop-record-init : goal.loop-record-init
loop-record-init c =
    let f = c.args.piece.now in
    let rules = c.records-record-items.ensures.rules in
    record {
      taken = record { own = sym (append-nil (inputs_of c.args.inputs.now f.key.hart)); others = λ other ne. refl };
      ahead =
          All-weaker (IsRecordOf f.guest.harts f.key.hart f.from f.to) (λ r. c.args.from ≤ count_of r → InputsEndBy c.args.inputs.now f.key.hart (count_of r))
          (λ r own le. All-weaker (λ x. x.0 < max c.args.from f.from) (λ x. x.0 ≤ count_of r) (λ x l. omega (arith, l, own.1, le))
          (inputs_of c.args.inputs.now f.key.hart) c.requires.last) f.records
          (All-from_recursion (IsRecordOf f.guest.harts f.key.hart f.from f.to) f.records rules.records.each);
      last =
          All-weaker (λ x. x.0 < max c.args.from f.from) (λ x. x.0 < max c.args.from f.to) (λ x l. omega (arith, l, rules.some))
          (inputs_of c.args.inputs.now f.key.hart) c.requires.last;
    }

pub add-requires : goal.add-requires
add-requires c =
    let f = c.args.piece.now in
    let at = c.in-Input.at in
    let i = c.loop-record.record-index in
    let less : i < length f.records = subst (λ (l : List Record). i < length l) c.records-record-items.ensures.records c.loop-record-test.true in
    let fact = InputRecord at c.in-Input.input in
    let is = read_at f.records c.records-record-items.result.now i c.record-item.result fact c.records-record-items.ensures.records c.record-item.is
    c.in-Input.is in
    let rules = c.records-record-items.ensures.rules in
    let own : IsRecordOf f.guest.harts f.key.hart f.from f.to fact = record_at f i fact rules less is in
    let hart = f.key.hart in
    let from = c.args.from in
    let is_in : is_between from c.args.end at ≡ true = sym c.is_between.ensures ∙ c.if-is_between.true in
    let upto = (from_there from c.args.end at is_in).0 in
    let by =
    (ahead_at (λ r. from ≤ count_of r → InputsEndBy c.loop-record.inputs hart (count_of r)) f.records i fact less is c.loop-record.invariant.ahead).0 upto in
    rw c.key-hart.ensures
    (may_follow f (λ r. is_between from c.args.end (count_of r)) i at c.in-Input.input rules less is hart c.args.inputs.now c.loop-record.inputs
    (All-weaker (λ x. x.0 < max from f.from) (λ x. x.0 < at) (λ x l. omega (arith, l, own.1, upto)) (inputs_of c.args.inputs.now hart) c.requires.last)
    by c.loop-record.invariant.taken)

pub loop-record-preserved : goal.loop-record-preserved
loop-record-preserved c =
    let f = c.args.piece.now in
    let i = c.loop-record.record-index in
    let less : i < length f.records = subst (λ (l : List Record). i < length l) c.records-record-items.ensures.records c.loop-record-test.true in
    let rules = c.records-record-items.ensures.rules in
    let item = c.record-item.result in
    let read = λ (s : Record) (named : item ≡ s). read_at f.records c.records-record-items.result.now i item s c.records-record-items.ensures.records
    c.record-item.is named in
    let hart = f.key.hart in
    let old = c.args.inputs.now in
    let now = c.loop-record.inputs in
    let from = c.args.from in
    let p = λ (r : Record). is_between from c.args.end (count_of r) in
    elim c.match-record.branch [
      | in-Input+then-is_between+in_ok-add w ↦
          let at = w.in-Input.at in
          let fact = InputRecord at w.in-Input.input in
          let is = read fact w.in-Input.is in
          let own : IsRecordOf f.guest.harts f.key.hart f.from f.to fact = record_at f i fact rules less is in
          let new = w.add.new.self in
          let same : c.key-hart.result.hart ≡ hart = ap (λ k. k.hart) c.key-hart.ensures in
          let added : inputs_of new hart ≡ inputs_of now hart ++ (at, w.in-Input.input) ∷ [] =
          subst (λ h. inputs_of new h ≡ inputs_of now h ++ (at, w.in-Input.input) ∷ []) same w.in_ok-add.ensures.added in
          let is_in : is_between from c.args.end at ≡ true = sym w.is_between.ensures ∙ w.if-is_between.true in
          let by =
          (ahead_at (λ r. from ≤ count_of r → InputsEndBy now hart (count_of r)) f.records i fact less is c.loop-record.invariant.ahead).0
          (from_there from c.args.end at is_in).0 in
          let upto : InputsEndBy new hart at = all_with (λ x. x.0 ≤ at) hart now new at w.in-Input.input added by (le_refl at) in
          rw w.inputs-is
          (record {
            taken =
                takes_input hart old now new p f.records i at w.in-Input.input less is is_in c.loop-record.invariant.taken added
                (subst (λ h. (other : ℕ) → other ≢ h → inputs_of new other ≡ inputs_of now other) same w.add.ensures.others_kept);
            ahead =
                All-weaker (λ s. at ≤ count_of s) (λ s. from ≤ count_of s → InputsEndBy new hart (count_of s))
                (λ s le later. All-weaker (λ x. x.0 ≤ at) (λ x. x.0 ≤ count_of s) (λ x l. le_trans l le) (inputs_of new hart) upto) (drop (i + 1) f.records)
                (later f.records i fact rules.records.order less is);
            last =
                all_with (λ x. x.0 < max from f.to) hart now new at w.in-Input.input added c.loop-record.invariant.last
                (let to = own.2 in omega (arith, to));
          })
      | in-Input+else-is_between w ↦
          let fact = InputRecord w.in-Input.at w.in-Input.input in
          let is = read fact w.in-Input.is in
          let is_out : is_between from c.args.end w.in-Input.at ≡ false = sym w.is_between.ensures ∙ w.if-is_between.false in
          rw w.inputs-is
          (record {
            taken =
                skips_input hart old now p f.records i fact less is (ap inputs_among (kept_none p fact is_out))
                c.loop-record.invariant.taken;
            ahead = (ahead_at (λ r. from ≤ count_of r → InputsEndBy now hart (count_of r)) f.records i fact less is c.loop-record.invariant.ahead).1;
            last = c.loop-record.invariant.last;
          })
      | in_default w ↦
          let fact = item in
          let is = read fact refl in
          rw w.inputs-is
          (record {
            taken =
                skips_input hart old now p f.records i fact less is (no_input p fact w.in_default.not-Input) c.loop-record.invariant.taken;
            ahead = (ahead_at (λ r. from ≤ count_of r → InputsEndBy now hart (count_of r)) f.records i fact less is c.loop-record.invariant.ahead).1;
            last = c.loop-record.invariant.last;
          })
    ]

pub returns-in_err-add-clause-later : goal.returns-in_err-add-clause-later
returns-in_err-add-clause-later c =
    let f = c.args.piece.now in
    subst (λ now. HearsMore (inputs_of c.args.inputs.now f.key.hart) (max c.args.from f.from) (inputs_of now f.key.hart)) (sym c.in_err-add.ensures.kept)
    (hears_later f c.records-record-items.ensures.rules c.args.from c.args.end c.loop-record.record-index f.key.hart c.args.inputs.now c.loop-record.inputs
    c.loop-record.invariant.taken)

pub returns-clause-later : goal.returns-clause-later
returns-clause-later c =
    let f = c.args.piece.now in
    hears_later f c.records-record-items.ensures.rules c.args.from c.args.end c.loop-record.record-index f.key.hart c.args.inputs.now c.loop-record.inputs
    c.loop-record.invariant.taken
