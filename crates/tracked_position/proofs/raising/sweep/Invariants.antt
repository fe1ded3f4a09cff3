use Rattle.std.proofs.Common.{◌≡◌, ◌<◌, ◌≤◌, ℕ, true, false, None, length, get_or}
use Rattle.std.specs.Option.{option_map}
use Rattle.ft_types.specs.Counts.{count_at}
use Rattle.ft_types.specs.declared.names.TheConstants.{HART_ROW}
use Rattle.closed_cut.specs.Position.{base_of}
use Rattle.tracked_position.specs.machinery.Cuts.{IsCutOf}
use Rattle.tracked_position.specs.machinery.Walks.{AreOver}
use Rattle.tracked_position.specs.machinery.Waits.{IsWaiting, room}
use Rattle.tracked_position.proofs.raising.sweep.Given as goal

abbrev pub invariant-loop-number : goal.invariant-loop-number
invariant-loop-number l =
    record {
      wide : length l.cursors ≡ HART_ROW;
      many : length l.waits ≡ HART_ROW;
      harts : length l.cut ≡ length l.initial.cut;
      cut : IsCutOf l.store l.opening.term (base_of l.opening) (option_map count_at l.limit) (count_at l.cut);
      over : AreOver l.store l.opening.term (base_of l.opening) (count_at l.cut) l.cursors;
      same : l.rose ≡ false → l.cut ≡ l.initial.cut;
      less : l.rose ≡ true → room l.cut < room l.initial.cut;
      waits : l.rose ≡ false → (hart : ℕ) → hart < l.number →
          IsWaiting l.store l.opening.term (base_of l.opening) (option_map count_at l.limit) (count_at l.initial.cut) hart (get_or l.waits hart None);
      free : l.waiting ≡ false → (hart : ℕ) → hart < l.number →
          (get_or l.waits hart None ≡ None) × IsWaiting l.store l.opening.term (base_of l.opening) (option_map count_at l.limit) (count_at l.cut) hart None;
      rest : (hart : ℕ) → l.number ≤ hart → get_or l.waits hart None ≡ None;
    }
