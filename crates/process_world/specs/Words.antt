-- The words that clients ask for by their numbers, and those that machines were given, over all terms.
use Rattle.std.specs.Prelude.{◌≡◌, ◌≤◌, ℕ, List, [], ◌++◌, Option, Some, Contains, length, slice_get}
use Rattle.ft_types.specs.Counts.{count_at}
use Rattle.hart_lease.specs.Runs.{counts_of}
use Rattle.word_sequences.specs.Sequences.{sequence_of, words_below}
use Rattle.leading.specs.Clients.{AreFrom}
use Rattle.wire.specs.declared.requests.Request.{Request}
use Rattle.wire.specs.declared.requests.Request.TheVariants.{Word}
use Rattle.process_world.specs.Worlds.{Led, ProcessWorld}

-- each word that was asked for of this hart has its number, and is the clients' word of that number
abbrev pub AskByNumber : List Request → ℕ → (ℕ → ℕ) → Type 0
AskByNumber asked hart clients =
    (word : ℕ) (number : Option ℕ) → Contains asked (Word hart word number) → (n : ℕ) × (number ≡ Some n) × (word ≡ clients n)

-- The words that the hart of a term's machine was given since boot up to a count: those that its parent's was given below its base, and those that the
-- term's log has from there on.
pub data GivenTo (w : ProcessWorld) (hart : ℕ) : ℕ → ℕ → List ℕ → Type 0 where
  AtBoot : GivenTo w hart 0 0 []
  InTerm : (n : ℕ) (l : Led) (count : ℕ) (before : List ℕ) → slice_get w.led n ≡ Some l → count_at l.opening.base hart ≤ count →
      count ≤ counts_of l.book.machine hart → GivenTo w hart l.opening.parent (count_at l.opening.base hart) before →
      GivenTo w hart l.opening.term count (before ++ words_below l.book.mode.inputs hart count)

pub record AreWords (w : ProcessWorld) : Type 0 where
  -- There are such words up to each count that a term's machine had.
  pub given : (n : ℕ) (l : Led) (hart count : ℕ) → slice_get w.led n ≡ Some l → count_at l.opening.base hart ≤ count →
      count ≤ counts_of l.book.machine hart → (words : List ℕ) × GivenTo w hart l.opening.term count words
  -- INSEQ counts them.
  pub counted : (n : ℕ) (l : Led) (hart : ℕ) (words : List ℕ) → slice_get w.led n ≡ Some l →
      GivenTo w hart l.opening.term (counts_of l.book.machine hart) words → sequence_of (slice_get l.book.machine.harts hart) ≡ length words
  -- They are the clients' words from the first one on, each once and in order.
  pub first : (hart : ℕ) (clients : ℕ → ℕ) → AskByNumber w.asked hart clients → (term count : ℕ) (words : List ℕ) → GivenTo w hart term count words →
      AreFrom clients 0 words
