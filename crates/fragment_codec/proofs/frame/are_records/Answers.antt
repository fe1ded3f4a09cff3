use Rattle.std.proofs.Common.{arith, sym, ◌∙◌, refl}
use Rattle.fragment_codec.proofs.records.Slots.{slot_after-le, right_records, records_right}
use Rattle.fragment_codec.proofs.records.Rules.{are_right-step, are_right-none, are_right-all}
use Rattle.fragment_codec.proofs.frame.are_records.Goals as goal

pub loop-record-preserved : goal.loop-record-preserved
loop-record-preserved c = record {
  slot = slot_after-le _ _ 0 _ c.requires _ _ _ _ _ (sym c.in-Some.ensures.slot);
  rest = rw (c.count-at.ensures, c.said_after-said.ensures) (are_right-step _ _ _ _ _ _ c.args.records.now c.loop-record.record-index c.record-item.result _ _ c.loop-record-test.true
      c.record-item.is (sym c.in-Some.ensures.slot) c.loop-record.invariant.rest);
}

pub returns-in-None : goal.returns-in-None
returns-in-None c =
    let no = are_right-none _ _ _ _ _ _ c.args.records.now c.loop-record.record-index c.record-item.result c.loop-record-test.true c.record-item.is
    (sym c.in-None.ensures.slot) in
    (λ e. absurd cc, λ h. let yes = records_right _ _ _ _ c.requires _ h in let rest = c.loop-record.invariant.rest in cc)

pub returns : goal.returns
returns c =
    let yes = are_right-all _ _ _ _ _ _ c.args.records.now c.loop-record.record-index c.loop-record-test.false in
    (λ e. right_records _ _ _ _ c.requires _ (omega arith) (sym c.loop-record.invariant.rest ∙ yes), λ h. refl)
