use Rattle.std.proofs.Common.{◌≡◌, ◌≢◌, ◌++◌, ℕ, replicate}
use Rattle.input_log.specs.Waiting.{bells_of, others_of}
use Rattle.book_modes.specs.Silences.{bell_from}
use Rattle.book_modes.proofs.unheard.put_many.Given as goal

abbrev pub invariant-loop-bell : goal.invariant-loop-bell
invariant-loop-bell l = record {
  bells : bells_of l.desk l.target ≡ bells_of l.initial.desk l.target ++ replicate l._bell (bell_from l.source l.after);
  bells_of_others : (other : ℕ) → other ≢ l.target → bells_of l.desk other ≡ bells_of l.initial.desk other;
  others : (other : ℕ) → others_of l.desk other ≡ others_of l.initial.desk other;
}
