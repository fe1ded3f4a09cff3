use Rattle.log_streams.proofs.Taken.{taken_own}
use Rattle.log_streams.proofs.reading.put_frame.Goals as goal

pub returns-in_default : goal.returns-in_default
returns-in_default c = record {
  own = taken_own c.args.store.now c.args.frame c.in_ok-put.field-0 c.in_ok-put.ensures.answer c.in_default.not-OtherGuest;
  joined = c.in_ok-put.ensures.joined c.in_default.not-OtherGuest;
  fault = tt;
}
