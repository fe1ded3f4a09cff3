-- What a tied world's machines were given over all terms are the clients' words.
use Rattle.std.proofs.Common.{◌≡◌, inl, inr, ℕ, zero, suc, ◌+◌, ◌<◌, ◌≤◌, List, [], ◌++◌, Some, length, slice_get, refl, sym, ap, subst, ◌∙◌, arith}
use Rattle.std.proofs.Common.{length-append}
use Rattle.ft_types.specs.Counts.{count_at}
use Rattle.hart_lease.specs.Runs.{counts_of}
use Rattle.word_sequences.specs.Sequences.{sequence_of, words_below}
use Rattle.fenced_theory.proofs.Growing.{some_same}
use Rattle.leading.specs.Clients.{AreFrom}
use Rattle.process_world.specs.Worlds.{Led, ProcessWorld}
use Rattle.process_world.specs.Words.{AreWords, AskByNumber, GivenTo, AtBoot, InTerm}
use Rattle.process_world.specs.machinery.Tied.{IsTied}
use Rattle.process_world.specs.machinery.Worded.{AreWorded, BookWords}
use Rattle.process_world.proofs.Rows.{from_more}
use Rattle.process_world.proofs.Chain.{ComesFrom, begun_with, its_words, no_boot, origin}
use Rattle.process_world.proofs.Sequences.{at_end}

module _ (w : ProcessWorld) (is : IsTied w) (words : AreWorded w.asked w.led) where
  -- what is known of those of a book
  abbrev of : (n : ℕ) (x : Led) → slice_get w.led n ≡ Some x → BookWords w.asked x.book
  of n x at = its_words w is w.asked words n x at

  -- as many as the hart was given by the term's log and before it
  abbrev given_by : Led → ℕ → ℕ → ℕ
  given_by x hart count = sequence_of (slice_get x.book.start.harts hart) + length (words_below x.book.mode.inputs hart count)

  -- such words are none at boot, as many as INSEQ says, and the clients'
  record AreSo (hart term count : ℕ) (given : List ℕ) : Type 0 where
    boot : term ≡ 0 → given ≡ []
    many : (n : ℕ) (x : Led) → slice_get w.led n ≡ Some x → x.opening.term ≡ term → length given ≡ given_by x hart count
    first : (clients : ℕ → ℕ) → AskByNumber w.asked hart clients → AreFrom clients 0 given

  -- so many were given before the term
  given_before : (hart : ℕ) (x : Led) (before : List ℕ) → ((hart : ℕ) → count_at x.opening.base hart ≡ counts_of x.book.start hart) →
      ComesFrom w x.opening.parent x.book → AreSo hart x.opening.parent (count_at x.opening.base hart) before →
      sequence_of (slice_get x.book.start.harts hart) ≡ length before
  given_before hart x before base (inl (boot, booted)) so = booted.first hart ∙ sym (ap length (so.boot boot))
  given_before hart x before base (inr (m, k, at, parent, behind)) so =
      begun_with w.asked k.book x.book (of m k at) behind hart
      ∙ ap (λ (n : ℕ). given_by k hart n) (sym (base hart))
      ∙ sym (so.many m k at parent)

  -- with those of one term more
  one_more : (hart n : ℕ) (x : Led) (count : ℕ) (before : List ℕ) → slice_get w.led n ≡ Some x → count ≤ counts_of x.book.machine hart →
      AreSo hart x.opening.parent (count_at x.opening.base hart) before →
      AreSo hart x.opening.term count (before ++ words_below x.book.mode.inputs hart count)
  one_more hart n x count before at le so =
      let from = origin w is n x at in
      let begun = given_before hart x before from.1 from.2 so in
      let place : sequence_of (slice_get x.book.start.harts hart) ≡ 0 + length before = omega (arith, begun) in
      record {
        boot = λ none. absurd (no_boot w is n x at none);
        many = λ m y at_y same.
            let e : y ≡ x = some_same at_y (ap (slice_get w.led) (is.granted.apart m n y x at_y at same) ∙ at) in
            let all = length-append before (words_below x.book.mode.inputs hart count) in
            subst (λ (y : Led). length (before ++ words_below x.book.mode.inputs hart count) ≡ given_by y hart count) (sym e) (omega (arith, all, begun));
        first = λ clients ask.
            from_more clients 0 before (words_below x.book.mode.inputs hart count) (so.first clients ask)
            (subst (λ (k : ℕ). AreFrom clients k (words_below x.book.mode.inputs hart count)) place ((of n x at).clients hart clients ask count le));
      }

  -- so it is for each
  are_so : (hart term count : ℕ) (given : List ℕ) → GivenTo w hart term count given → AreSo hart term count given
  are_so hart term count given AtBoot =
      record {
        boot = λ none. refl;
        many = λ n x at none. absurd (no_boot w is n x at none);
        first = λ clients ask. tt;
      }
  are_so hart term count given (InTerm n x to before at above le rest) =
      one_more hart n x count before at le (are_so hart x.opening.parent (count_at x.opening.base hart) before rest)

  -- ---- they are there

  -- term by term, of terms below a bound
  there : (bound n : ℕ) (x : Led) (hart count : ℕ) → x.opening.term < bound → slice_get w.led n ≡ Some x → count_at x.opening.base hart ≤ count →
      count ≤ counts_of x.book.machine hart → (given : List ℕ) × GivenTo w hart x.opening.term count given
  there zero n x hart count less at above le = absurd (omega (arith, less))
  there (suc bound) n x hart count less at above le =
      let (older, base, from) = origin w is n x at in
      elim from [
        | inl (boot, booted) ↦
            let none : count_at x.opening.base hart ≡ 0 = base hart ∙ booted.count hart in
            let before : GivenTo w hart x.opening.parent (count_at x.opening.base hart) [] =
            subst (λ (t : ℕ). GivenTo w hart t (count_at x.opening.base hart) []) (sym boot)
            (subst (λ (c : ℕ). GivenTo w hart 0 c []) (sym none) AtBoot) in
            ([] ++ words_below x.book.mode.inputs hart count, InTerm n x count [] at above le before)
        | inr (m, k, at_k, parent, behind) ↦
            let its = origin w is m k at_k in
            let own = base hart in
            let its_base = its.1 hart in
            let up = behind.above hart in
            let inside = behind.within hart in
            let (before, given) =
            there bound m k hart (count_at x.opening.base hart) (omega (arith, less, older, parent)) at_k (omega (arith, own, its_base, up))
            (omega (arith, own, inside)) in (
              before ++ words_below x.book.mode.inputs hart count,
              InTerm n x count before at above le (subst (λ (t : ℕ). GivenTo w hart t (count_at x.opening.base hart) before) parent given),
            )
      ]

  -- all that is promised of words
  pub are_words : AreWords w
  are_words =
      record {
        given = λ n x hart count at above le. there (suc x.opening.term) n x hart count (omega arith) at above le;
        counted = λ n x hart given at is_given.
            at_end x.book (of n x at).leads (of n x at).from hart ((of n x at).limit hart (counts_of x.book.machine hart) (omega arith))
            ∙ sym ((are_so hart x.opening.term (counts_of x.book.machine hart) given is_given).many n x at refl);
        first = λ hart clients ask term count given is_given. (are_so hart term count given is_given).first clients ask;
      }
