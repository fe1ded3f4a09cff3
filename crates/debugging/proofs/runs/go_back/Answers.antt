use Rattle.std.proofs.Common.{◌≡◌, arith}
use Rattle.debugging.proofs.Going.{behind_within}
use Rattle.debugging.proofs.runs.go_back.Goals as goal

pub returns-clause-went : goal.returns-clause-went
returns-clause-went c = record {
  there = c.back_until.new.self;
  stop = c.in_ok-stop.stop;
  stopped = c.in_ok-stop.ensures.stopped;
  moment = let a = c.in_ok-go_to.ensures.there in let d = c.now-there.ensures.value in let e = c.watching.ensures in cc;
  reason = c.reason_of-reason.ensures;
  next = c.next_hart-hart.ensures;
}
