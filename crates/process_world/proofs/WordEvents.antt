-- Whatever happens, what is known of words stays known.
use Rattle.std.proofs.Common.{◌≡◌, inl, inr, ℕ, ◌<◌, ◌≤◌, List, [], ◌∷◌, ◌++◌, Contains, Some, length, slice_get, slice_set, refl, sym, ap, subst, ◌∙◌, arith}
use Rattle.std.proofs.lemmas.List.Elements.{Contains-append_right}
use Rattle.interleaving.specs.Lists.{put}
use Rattle.book_modes.specs.Recordings.{RecordingView}
use Rattle.page_book.specs.Books.{BookView}
use Rattle.fenced_theory.proofs.Growing.{some_none}
use Rattle.keeper_disks.specs.Disks.{Out, Nothing, Says, Hands}
use Rattle.primary.specs.Primaries.{no_limits}
use Rattle.wire.specs.declared.requests.Request.{Request}
use Rattle.requests.specs.Asking.{asked_again}
use Rattle.requests.specs.Queues.{QueueView}
use Rattle.requests.specs.declared.queue.TheConstants.{WORD_LIMIT}
use Rattle.word_sequences.specs.Sequences.{sequence_of}
use Rattle.leading.specs.Leaders.{AreInLimit, LeaderView}
use Rattle.process_world.specs.Worlds.{Led, ProcessWorld, led_as}
use Rattle.process_world.specs.Happenings.{Happens, AtKeeper, Loses, Renews, GoesLiveIn, HearsRequest, LeadsRound, Seals, HearsSaid, LacksMemory, Tells, Ends, Joins}
use Rattle.process_world.specs.Happenings.{Wants, Asks, AsksAgain, HearsAnswer, Prints}
use Rattle.process_world.specs.Happenings.{OnlyHears, ended, with_out}
use Rattle.process_world.specs.machinery.Tied.{IsTied}
use Rattle.process_world.specs.machinery.Worded.{AreWorded, LeaderWords, LedWords}
use Rattle.process_world.proofs.Lists.{none_at, push_cases, push_last, set_cases}
use Rattle.process_world.proofs.Seats.{one_leader}
use Rattle.process_world.proofs.Wording.{Knows, begun, hears_words, more_asked, more_asked_too, renoted_words}
use Rattle.process_world.proofs.RoundWords.{book_words, round_words}
use Rattle.process_world.proofs.Chain.{ComesFrom, begun_within, its_words, origin}

-- nobody leads where the world begins
pub first_worded : (asked : List Request) (led : List Led) → led ≡ [] → AreWorded asked led
first_worded asked led none n x at = none_at led n x none at

-- one of the primaries is another now
set_worded : (asked : List Request) (led : List Led) (n : ℕ) (y : Led) → AreWorded asked led → LedWords asked y → AreWorded asked (slice_set led n y)
set_worded asked led n y words own m x at =
    elim (set_cases led n m y x at) [ inl (here, is) ↦ subst (LedWords asked) is own | inr (other, was) ↦ words m x was ]

-- one more leads
push_worded : (asked : List Request) (led : List Led) (y : Led) → AreWorded asked led → LedWords asked y → AreWorded asked (led ++ y ∷ [])
push_worded asked led y words own n x at =
    elim (push_cases led y n x at) [ inl was ↦ words n x was | inr (last, is) ↦ subst (LedWords asked) is own ]

-- what is known of one that runs
knows : (asked : List Request) (led : List Led) (n : ℕ) (l : LeaderView) → slice_get led n ≡ Some (led_as l) → AreWorded asked led → Knows asked l
knows asked led n l at words =
    elim (words n (led_as l) at) [
      | inl (k, same, is) ↦ subst (Knows asked) (one_leader k l (sym same)) is
      | inr (none, is) ↦ some_none refl none
    ]

-- more is asked for
all_more : (asked more : List Request) (led : List Led) → AreWorded asked led → AreWorded (more ++ asked) led
all_more asked more led words n x at =
    let grows : (r : Request) → Contains asked r → Contains (more ++ asked) r = λ r has. Contains-append_right more asked r has in
    elim (words n x at) [
      | inl (l, same, is) ↦ inl (l, same, more_asked asked (more ++ asked) l.primary.book l.queues grows is)
      | inr (none, is) ↦ inr (none, more_asked_too asked (more ++ asked) x.book grows is)
    ]

-- what comes out of a keeper says nothing of them
after_out : (w : ProcessWorld) (keeper : ℕ) (out : Out) → AreWorded w.asked w.led → AreWorded (with_out w keeper out).asked (with_out w keeper out).led
after_out w keeper Nothing words = words
after_out w keeper (Says p) words = words
after_out w keeper (Hands term bytes) words = words

-- ---- a primary that goes live

module _ (w v : ProcessWorld) (is : IsTied w) (is_v : IsTied v) (l : LeaderView) (led : v.led ≡ w.led ++ led_as l ∷ []) (words : AreWorded w.asked w.led) where
  -- no hart of its machine was given more words than there are
  limit_from : ComesFrom v l.primary.opening.parent l.primary.book → l.primary.opening.parent < l.primary.opening.term → (hart : ℕ) →
      sequence_of (slice_get l.primary.book.start.harts hart) ≤ WORD_LIMIT
  limit_from (inl (boot, booted)) older hart = let none = booted.first hart in omega (arith, none)
  limit_from (inr (m, k, at, parent, behind)) older hart =
      elim (push_cases w.led (led_as l) m k (subst (λ (all : List Led). slice_get all m ≡ Some k) led at)) [
        | inl was ↦ begun_within w.asked k.book l.primary.book (its_words w is w.asked words m k was) behind hart
        | inr (last, same) ↦ absurd (let e = ap (λ (x : Led). x.opening.term) same ∙ parent in omega (arith, older, e))
      ]

  -- in its queues' words
  in_limit : AreInLimit l.primary.book.start
  in_limit hart h at =
      let last : slice_get v.led (length w.led) ≡ Some (led_as l) = ap (λ (all : List Led). slice_get all (length w.led)) led ∙ push_last w.led (led_as l) in
      let from = origin v is_v (length w.led) (led_as l) last in
      let most = limit_from from.2 from.0 hart in
      let first = ap sequence_of at in omega (arith, most, first)

-- ---- acknowledgements

-- only notes, the gate and what went out are others
hears_said_words : (asked : List Request) (old new : LeaderView) → OnlyHears old new →
    new.primary.book ≡ record old.primary.book { mode = record old.primary.book.mode { notes = new.primary.book.mode.notes } } → Knows asked old →
    Knows asked new
hears_said_words asked old new only rest is =
    subst (λ (queues : List QueueView). LeaderWords asked new.primary.book queues) (sym (ap (λ (l : LeaderView). l.queues) only))
    (renoted_words asked old.primary.book new.primary.book old.queues rest is)

-- ---- all events

-- whatever happens
pub stays_worded : (w v : ProcessWorld) → IsTied w → IsTied v → AreWorded w.asked w.led → Happens w v → AreWorded v.asked v.led
stays_worded w v is is_v words (AtKeeper keeper d e out at goes) = after_out (record w { disks = put w.disks keeper (Some e) }) keeper out words
stays_worded w v is is_v words (Loses keeper) = words
stays_worded w v is is_v words (Renews keeper term d given bytes at under granted before all) = words
stays_worded w v is is_v words (GoesLiveIn term quorum given l new keepers need handed live behind none) =
    push_worded w.asked w.led (led_as l) words
    (inl (l, refl, begun w.asked l.primary.book l.queues (no_limits w.image.harts) live.live.unused behind (in_limit w v is is_v l refl words)))
stays_worded w v is is_v words (HearsRequest n old new request what at asked hears) =
    set_worded w.asked w.led n (led_as new) words (inl (new, refl, hears_words w.asked old new request what asked hears (knows w.asked w.led n old at words)))
stays_worded w v is is_v words (LeadsRound n old new spacing steps at round) =
    set_worded w.asked w.led n (led_as new) words
    (inl (new, refl, round_words w.asked old new spacing steps (is.leaders n old at).led round.round (knows w.asked w.led n old at words)))
stays_worded w v is is_v words (Seals n old new frames at cut rest) =
    set_worded w.asked w.led n (led_as new) words (inl (new, refl, subst (Knows w.asked) (sym rest) (knows w.asked w.led n old at words)))
stays_worded w v is is_v words (HearsSaid n old new a at said (noted, notes, goes) only) =
    set_worded w.asked w.led n (led_as new) words
    (inl (new, refl, hears_said_words w.asked old new only goes.notes.rest (knows w.asked w.led n old at words)))
stays_worded w v is is_v words (LacksMemory n old new a at said (noted, notes, none) only) =
    set_worded w.asked w.led n (led_as new) words
    (inl (
      new,
      refl,
      hears_said_words w.asked old new only
          (none.book ∙ ap (λ (mode : RecordingView). let x : BookView RecordingView = record old.primary.book { mode = mode } in x) none.room.rest)
          (knows w.asked w.led n old at words),
    ))
stays_worded w v is is_v words (Tells n l r at has) = words
stays_worded w v is is_v words (Ends n l at) =
    set_worded w.asked w.led n (ended l) words
    (inr (refl, book_words w.asked l.primary.book l.queues (is.leaders n l at).led (knows w.asked w.led n l at words)))
stays_worded w v is is_v words (Joins t none) = words
stays_worded w v is is_v words (Wants r) = all_more w.asked (r ∷ []) w.led words
stays_worded w v is is_v words (Asks c t r at next) = all_more w.asked (r ∷ []) w.led words
stays_worded w v is is_v words (AsksAgain c t at) = all_more w.asked (asked_again t.asker) w.led words
stays_worded w v is is_v words (HearsAnswer c t a at told new) = words
stays_worded w v is is_v words (Prints c t word at had) = words
