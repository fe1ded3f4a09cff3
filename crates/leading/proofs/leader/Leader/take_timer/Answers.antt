use Rattle.std.proofs.Common.{◌≡◌, ◌<◌, length, length-set, arith, sym, ap, ◌∙◌}
use Rattle.input_log.specs.declared.Input.TheVariants.{Timer}
use Rattle.requests.specs.Queues.{QueueView}
use Rattle.std.specs.Prelude.{slice_set}
use Rattle.leading.proofs.Counting.{put_handed}
use Rattle.leading.proofs.Hearing.{put_keeps}
use Rattle.leading.proofs.Queueing.{queue_there}
use Rattle.leading.proofs.Sound.{sound_queues}
use Rattle.leading.proofs.leader.Leader.take_timer.Goals as goal

pub invariant_of-self-2 : goal.invariant_of-self-2
invariant_of-self-2 c =
    let queues = c.self.inside.queues.items in
    let n = c.index-2.result in
    let old = c.index_mut-queue.result.now in
    let new = c.put_timer.new.self in
    let inside : n < length queues =
    (let less = c.if-index-len.false in
    let first = c.index.ensures.value in
    let second = c.index-2.ensures.value in
    let many = c.len.ensures in omega (arith, less, first, second, many)) in
    let same = put_keeps old new Timer c.put_timer.result c.put_timer.ensures.taken c.put_timer.ensures.stays in (
      sound_queues c.self.inside.primary.value c.self.inside.gate.value queues (slice_set queues n new) (length-set queues n new) c.self.invariant.0,
      c.self.invariant.1,
      c.self.invariant.2,
      put_handed c.self.inside.primary.value.book queues n new inside
          (same ∙ ap (λ (q : QueueView). q.handed) (queue_there queues n old inside c.index_mut-queue.ensures.value))
          (let all = c.words-words.ensures.value in let limit = c.words-words.ensures.limit in omega (arith, all, limit)) c.self.invariant.3,
    )
