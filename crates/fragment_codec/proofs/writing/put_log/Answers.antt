use Rattle.std.proofs.Common.{ℕ, ◌++◌, ◌∙◌, ap, arith, length}
use Rattle.fragment_codec.specs.Spelling.{record_bytes}
use Rattle.fragment_codec.proofs.bytes.Texts.{log_started, log_goes_on}
use Rattle.fragment_codec.proofs.writing.put_log.Goals as goal

pub loop-record-init : goal.loop-record-init
loop-record-init c = record {
  text = log_started c.args.fragment.now c.guest.result c.key.result _ _ _ _ _ _ _ _ c.requires.empty c.put_place.ensures.items c.put_u64.ensures.items
      c.put_u64-2.ensures.items c.put_u16.ensures.items c.guest.ensures c.key.ensures c.from-from.ensures c.to.ensures (ap length c.records-records.ensures.records);
  len = omega (arith, ap length c.requires.empty, c.put_place.ensures.len, c.put_u64.ensures.len, c.put_u64-2.ensures.len, c.put_u16.ensures.len);
}

pub loop-record-preserved : goal.loop-record-preserved
loop-record-preserved c = record {
  text = log_goes_on (record_bytes c.args.version c.args.fragment.now.from) c.args.fragment.now c.records-records.result.now c.loop-record.record-index
      c.record-item.result c.loop-record.out.items c.put_record.new.out.items c.loop-record-test.true c.record-item.is
      (c.put_record.ensures.items ∙ ap (λ (n : ℕ). c.loop-record.out.items ++ record_bytes c.args.version n c.record-item.result) c.from-from.ensures)
      c.loop-record.invariant.text;
  len = omega (arith, c.put_record.ensures.len, c.loop-record.invariant.len);
}
