-- Each term's machine begins at that of its parent, where it was given so many words; or at boot, where it was given none.
use Rattle.std.proofs.Common.{◌≡◌, ◌⊎◌, inl, inr, ℕ, zero, suc, ◌+◌, ◌<◌, ◌≤◌, List, [], ◌∷◌, length, map, slice_get, Option, Some, None, refl, sym, ap, subst}
use Rattle.std.proofs.Common.{◌∙◌, arith}
use Rattle.std.specs.List.{range_with_len}
use Rattle.ft_types.specs.Counts.{count_at}
use Rattle.interleaving.specs.Log.{IsCut}
use Rattle.interleaving.specs.Machine.{at}
use Rattle.interleaving.specs.Stored.{system_of, view}
use Rattle.rv32_hart.specs.Hart.{boot_hart}
use Rattle.rv32_hart.specs.Hardware.{hardware}
use Rattle.hart_lease.specs.Runs.{counts_of, journal_turns, steps_taken}
use Rattle.book_modes.specs.Hearings.{HartMachine}
use Rattle.book_modes.specs.Recordings.{RecordingView, heard_by}
use Rattle.page_book.specs.Books.{BookView}
use Rattle.fragment_codec.specs.Rules.{OpeningParts}
use Rattle.log_join.specs.Families.{Past}
use Rattle.hart_replay.specs.Histories.{IsTerm, machine_in}
use Rattle.hart_replay.specs.Images.{GuestTerm, boot_of}
use Rattle.hart_replay.proofs.walking.Outcomes.{booted_none}
use Rattle.fenced_theory.proofs.Growing.{some_same, some_none}
use Rattle.requests.specs.declared.queue.TheConstants.{WORD_LIMIT}
use Rattle.word_sequences.specs.Sequences.{machine_at, sequence_of, words_below}
use Rattle.wire.specs.declared.requests.Request.{Request}
use Rattle.failover_world.specs.machinery.Tied.{TermBook, retold, retold_in, history}
use Rattle.failover_world.proofs.Promises.{untold}
use Rattle.process_world.specs.Worlds.{Led, ProcessWorld}
use Rattle.process_world.specs.machinery.Tied.{IsTied}
use Rattle.process_world.specs.machinery.Worded.{AreWorded, BookWords}
use Rattle.process_world.proofs.Seats.{tell}
use Rattle.process_world.proofs.Laws.{its_granted}
use Rattle.process_world.proofs.RoundWords.{book_words}
use Rattle.process_world.proofs.Sequences.{at_cut}

-- no hart of boot was given a word
none_given : (harts : ℕ) (numbers : List ℕ) (hart : ℕ) → sequence_of (slice_get (map (boot_hart harts) numbers) hart) ≡ 0
unfolding boot_hart
none_given harts [] hart = refl
none_given harts (n ∷ numbers) zero = refl
none_given harts (n ∷ numbers) (suc hart) = none_given harts numbers hart

-- the second book begins inside the first, and each hart was given so many words there
pub record IsBehind (k b : BookView RecordingView) : Type 0 where
  pub above : (hart : ℕ) → counts_of k.start hart ≤ counts_of b.start hart
  pub within : (hart : ℕ) → counts_of b.start hart ≤ counts_of k.machine hart
  pub first : (hart : ℕ) → sequence_of (slice_get b.start.harts hart) ≡
      sequence_of ((machine_at k.mode.inputs k.start k.journal (counts_of b.start)).harts hart)

-- the book begins at boot
pub record IsBooted (b : BookView RecordingView) : Type 0 where
  pub count : (hart : ℕ) → counts_of b.start hart ≡ 0
  pub first : (hart : ℕ) → sequence_of (slice_get b.start.harts hart) ≡ 0

-- the book begins at boot, or at the machine of this term
abbrev pub ComesFrom : ProcessWorld → ℕ → BookView RecordingView → Type 0
ComesFrom w parent b =
    ((parent ≡ 0) × IsBooted b) ⊎ ((m : ℕ) × (k : Led) × (slice_get w.led m ≡ Some k) × (k.opening.term ≡ parent) × IsBehind k.book b)

-- where a term comes from, which is older
abbrev pub Origin : ProcessWorld → Led → Type 0
Origin w x =
    (x.opening.parent < x.opening.term) × ((hart : ℕ) → count_at x.opening.base hart ≡ counts_of x.book.start hart) ×
    ComesFrom w x.opening.parent x.book

module _ (w : ProcessWorld) (is : IsTied w) where
  module _ (x : Led) (p : Past (TermBook w.image.pages)) (there : is.terms x.opening.term ≡ Some p) where
    -- its term in the history
    term : IsTerm (system_of (hardware w.image.pages)) (boot_of w.image) (history is.terms) x.opening.term (retold (tell w is) p)
    term = is.is_history.is_history.terms x.opening.term (retold (tell w is) p) (ap (retold_in (tell w is)) there)

    -- from boot
    booted : p.opening.parent ≡ 0 → IsBooted p.told.book
    booted boot =
        let none : history is.terms p.opening.parent ≡ None = ap (history is.terms) boot ∙ is.is_history.is_history.none in
        let first : view (hardware (length p.told.book.start.pages)) p.told.book.start ≡ boot_of w.image =
        term.start
        ∙ ap (λ (t : Option GuestTerm). machine_in (system_of (hardware w.image.pages)) (boot_of w.image) t (counts_of p.told.book.start)) none in
        record {
          count = λ hart. ap (λ (m : HartMachine). steps_taken (m.harts hart)) first ∙ booted_none w.image.harts (range_with_len 0 w.image.harts) hart;
          first = λ hart. ap (λ (m : HartMachine). sequence_of (m.harts hart)) first ∙ none_given w.image.harts (range_with_len 0 w.image.harts) hart;
        }

    -- or from its parent
    behind : (q : Past (TermBook w.image.pages)) → is.terms p.opening.parent ≡ Some q → IsCut (tell w is q.told).log (counts_of p.told.book.start) →
        IsBehind q.told.book p.told.book
    behind q at_parent cut =
        let k = q.told.book in
        let b = p.told.book in
        let first : view (hardware (length b.start.pages)) b.start ≡
        at (system_of (hardware w.image.pages)) (view (hardware (length k.start.pages)) k.start) (journal_turns (heard_by k.mode) k.start k.journal)
        (counts_of b.start) =
        term.start
        ∙ ap (λ (t : Option GuestTerm). machine_in (system_of (hardware w.image.pages)) (boot_of w.image) t (counts_of b.start))
        (ap (retold_in (tell w is)) at_parent) in
        record {
          above = cut.from_start;
          within = cut.to_end;
          first = λ hart.
              ap (λ (m : HartMachine). sequence_of (m.harts hart)) first
              ∙ ap
              (λ (n : ℕ). sequence_of ((at (system_of (hardware n)) (view (hardware (length k.start.pages)) k.start)
              (journal_turns (heard_by k.mode) k.start k.journal) (counts_of b.start)).harts hart)) (sym q.told.is.many);
        }

  -- where the parent is another term, it is that of a primary that was granted
  from_parent : (b : BookView RecordingView) (u : ℕ) (past : GuestTerm) → history is.terms u ≡ Some past → IsCut past.told.log (counts_of b.start) →
      ((q : Past (TermBook w.image.pages)) → is.terms u ≡ Some q → IsCut (tell w is q.told).log (counts_of b.start) → IsBehind q.told.book b) →
      (m : ℕ) × (k : Led) × (slice_get w.led m ≡ Some k) × (k.opening.term ≡ u) × IsBehind k.book b
  from_parent b u past was cut goes =
      let (q, there, of) = untold (tell w is) (is.terms u) past was in
      let same : past ≡ retold (tell w is) q = some_same was (ap (retold_in (tell w is)) there) in
      let (m, k, at_k, of_term, opening, book) = its_granted w is u q there in (
        m,
        k,
        at_k,
        of_term,
        subst (λ (k : BookView RecordingView). IsBehind k b) book
            (goes q there (subst (λ (t : GuestTerm). IsCut t.told.log (counts_of b.start)) same cut)),
      )

  -- no term is that of boot
  pub no_boot : (n : ℕ) (x : Led) → slice_get w.led n ≡ Some x → x.opening.term ≡ 0 → ⊥
  no_boot n x at_x boot =
      let (p, there, opening, book) = is.granted.each n x at_x in
      some_none (ap (retold_in (tell w is)) there) (ap (history is.terms) boot ∙ is.is_history.is_history.none)

  -- of each term that was granted it is known where it comes from
  pub origin : (n : ℕ) (x : Led) → slice_get w.led n ≡ Some x → Origin w x
  origin n x at_x =
      let (p, there, opening, book) = is.granted.each n x at_x in
      let its = term x p there in
      subst
      (λ (o : OpeningParts). (o.parent < x.opening.term) × ((hart : ℕ) → count_at o.base hart ≡ counts_of x.book.start hart) × ComesFrom w o.parent x.book)
      opening
      (subst
      (λ (b : BookView RecordingView).
      (p.opening.parent < x.opening.term) × ((hart : ℕ) → count_at p.opening.base hart ≡ counts_of b.start hart) × ComesFrom w p.opening.parent b) book (
        its.older,
        its.base,
        elim its.place [
          | inl boot ↦ inl (boot, booted x p there boot)
          | inr (past, was, cut) ↦ inr (from_parent p.told.book p.opening.parent past was cut (λ q at_q cut. behind x p there q at_q cut))
        ],
      ))

-- ---- words

module _ (w : ProcessWorld) (is : IsTied w) (asked : List Request) (words : AreWorded asked w.led) where
  -- what is known of the words of each term's book
  pub its_words : (n : ℕ) (x : Led) → slice_get w.led n ≡ Some x → BookWords asked x.book
  its_words n x at_x =
      elim (words n x at_x) [
        | inl (l, same, knows) ↦
            subst (λ (y : Led). BookWords asked y.book) (sym same)
            (book_words asked l.primary.book l.queues (is.leaders n l (at_x ∙ ap Some same)).led knows)
        | inr (none, ended) ↦ ended
      ]

-- so many words a hart was given where its book begins
pub begun_with : (asked : List Request) (k b : BookView RecordingView) → BookWords asked k → IsBehind k b → (hart : ℕ) →
    sequence_of (slice_get b.start.harts hart) ≡
    sequence_of (slice_get k.start.harts hart) + length (words_below k.mode.inputs hart (counts_of b.start hart))
begun_with asked k b words behind hart =
    behind.first hart
    ∙ at_cut k words.leads words.from hart (counts_of b.start) (behind.above hart) (behind.within hart)
    (words.limit hart (counts_of b.start hart) (behind.within hart))

-- and none more than there are
pub begun_within : (asked : List Request) (k b : BookView RecordingView) → BookWords asked k → IsBehind k b → (hart : ℕ) →
    sequence_of (slice_get b.start.harts hart) ≤ WORD_LIMIT
begun_within asked k b words behind hart =
    let many = begun_with asked k b words behind hart in
    let most = words.limit hart (counts_of b.start hart) (behind.within hart) in omega (arith, many, most)
