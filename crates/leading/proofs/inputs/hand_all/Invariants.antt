use Rattle.std.proofs.Common.{◌≡◌, ◌<◌, ◌≤◌, ℕ, Some, length, slice_get}
use Rattle.input_log.specs.Waiting.{bells_of, others_of}
use Rattle.rv32_hart.specs.Hart.{Hart}
use Rattle.primary.specs.Primaries.{GoesOn}
use Rattle.leading.specs.Leaders.{queue_at}
use Rattle.leading.specs.Rounds.{Hands, next_of}
use Rattle.leading.proofs.inputs.hand_all.Given as goal

abbrev pub invariant-loop-number : goal.invariant-loop-number
invariant-loop-number l = record {
  goes_on : GoesOn l.fn.primary.book l.primary.book;
  rest : l.primary ≡ record l.fn.primary { book = record l.fn.primary.book { mode = l.primary.book.mode } };
  limits : l.primary.book.mode.limits ≡ l.fn.primary.book.mode.limits;
  waiting : l.primary.book.mode ≡ record l.fn.primary.book.mode { desk = l.primary.book.mode.desk };
  bells : (hart : ℕ) → bells_of l.primary.book.mode.desk hart ≡ bells_of l.fn.primary.book.mode.desk hart;
  many : length l.queues.items ≡ length l.fn.queues.items;
  done : (hart : ℕ) (h : Hart) → hart < l.number → slice_get l.fn.primary.book.machine.harts hart ≡ Some h →
      Hands l.fn.spacing (next_of h (queue_at l.fn.queues.items hart)) hart h.count (queue_at l.fn.queues.items hart) (queue_at l.queues.items hart)
      l.fn.primary.book.mode l.primary.book.mode;
  queues : (hart : ℕ) → l.number ≤ hart → queue_at l.queues.items hart ≡ queue_at l.fn.queues.items hart;
  desk : (hart : ℕ) → l.number ≤ hart → others_of l.primary.book.mode.desk hart ≡ others_of l.fn.primary.book.mode.desk hart;
}
