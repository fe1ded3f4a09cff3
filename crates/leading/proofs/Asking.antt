-- The words of a hart, call by call.
use Rattle.std.proofs.Common.{◌≡◌, ◌≢◌, ◌⊎◌, ◌+◌, ◌<◌, ◌≤◌, ◌==◌, ℕ, zero, suc, Bool, List, [], ◌∷◌, ◌++◌, Option, None, Some, length, map, take, slice_get, inl, inr, refl, sym, ap, subst, ◌∙◌, append_assoc, append-nil, length-append, arith, eq-eqb, ne_eqb}
use Rattle.std.specs.Prelude.{if◌then◌else◌, nat_lt, slice_set}
use Rattle.std.specs.List.{AllByRecursion}
use Rattle.std.proofs.lemmas.List.{length-take-le, length-map, map-append}
use Rattle.interleaving.proofs.Put.{same_or_not}
use Rattle.input_log.specs.declared.Input.{Input}
use Rattle.input_log.specs.declared.Input.TheVariants as input
use Rattle.input_log.specs.Inputs.{inputs_of}
use Rattle.rv32_hart.specs.Hart.{Hart}
use Rattle.guest_image.specs.Machine.{MachineState}
use Rattle.book_modes.specs.Recordings.{RecordingView}
use Rattle.page_book.specs.Books.{BookView}
use Rattle.term_gate.specs.TermGates.{TermGateView}
use Rattle.primary.specs.declared.granted.Primary.{Primary}
use Rattle.wire.specs.declared.requests.Request.{Request}
use Rattle.wire.specs.declared.requests.Request.TheVariants.{Timer, Word, From}
use Rattle.requests.specs.Numbered.{Asked, AsksByNumber, Asks, EachAt, GoesOnAt, HandsOn, Happening, IsWordOf, Words, after, all_after, came_of, first_handed, taken, with_asked}
use Rattle.requests.specs.Queues.{IsQueueOf, QueueView, after_asked, comes_of, front, handed_on, with_input, words_in}
use Rattle.requests.specs.declared.queue.Came.{Came}
use Rattle.requests.specs.declared.queue.Came.TheVariants.{Taken, Repeat, Ahead, Full, Busy}
use Rattle.requests.proofs.Following.{asked_followed, begun_followed, hand_followed, timer_followed}
use Rattle.requests.proofs.Places.{each_front, stay_in_place}
use Rattle.word_sequences.specs.Sequences.{sequence_of, words_logged}
use Rattle.leading.specs.declared.heard.Heard.{Heard}
use Rattle.leading.specs.declared.heard.Heard.TheVariants as heard
use Rattle.leading.specs.declared.inputs.Spacing.{Spacing}
use Rattle.leading.specs.Leaders.{LeaderView, queue_at, words_of}
use Rattle.leading.specs.Hearing.{Hears, LetsGo, LetsNothingGo, put_as, with_queue}
use Rattle.leading.specs.Rounds.{Hands, IsRound, next_of}
use Rattle.leading.specs.Clients.{AreFrom, AreWordsOf, Begins, Calls, GaveWords, GivenWereHanded, GivesClientsWords, WordsFollow, asked_of, handed_of, NoCall, Hear, Acknowledge, Round, Seal}
use Rattle.leading.proofs.Counting.{gone_on_words, handed_words, next_front, none_offered, words_next}
use Rattle.leading.proofs.Given.{few_words}
use Rattle.leading.proofs.Queueing.{set_same, set_other}

abbrev word_of : Asked → ℕ
word_of asked = asked.word

after_more : (words : Words) (all more : List Happening) → all_after words (all ++ more) ≡ all_after (all_after words all) more
after_more words [] more = refl
after_more words (next ∷ all) more = after_more (after words next) all more

-- what was handed on and what the book was offered stays
stay : (old new : LeaderView) (hart : ℕ) (words now : Words) → IsQueueOf now (queue_at new.queues hart) → now.handed ≡ words.handed →
    new.primary.book.start ≡ old.primary.book.start → words_of new.primary.book hart ≡ words_of old.primary.book hart → AreWordsOf old hart words →
    AreWordsOf new hart now
stay old new hart words now queue handed start offered was = record {
  queue = queue;
  before = was.before;
  since = was.since;
  handed = handed ∙ was.handed;
  begun = was.begun ∙ ap (λ (m : MachineState). sequence_of (slice_get m.harts hart)) (sym start);
  offered = was.offered ∙ sym offered;
}

-- the same queues, the same start and the same words that were offered
stay_all : (old new : LeaderView) (hart : ℕ) (words : Words) → new.queues ≡ old.queues → new.primary.book.start ≡ old.primary.book.start →
    words_of new.primary.book hart ≡ words_of old.primary.book hart → AreWordsOf old hart words → AreWordsOf new hart words
stay_all old new hart words queues start offered was =
    stay old new hart words words (subst (λ (qs : List QueueView). IsQueueOf words (queue_at qs hart)) (sym queues) was.queue) refl start offered was

-- ---- requests

put_taken : (q : QueueView) (i : Input) (c : Came) → c ≡ Taken → put_as q i c ≡ with_input q i
put_taken q i Taken e = refl
put_taken q i Repeat e = absurd cc
put_taken q i Ahead e = absurd cc
put_taken q i Full e = absurd cc
put_taken q i Busy e = absurd cc

put_not : (q : QueueView) (i : Input) (c : Came) → (c ≡ Taken → ⊥) → put_as q i c ≡ q
put_not q i Taken not = absurd (not refl)
put_not q i Repeat not = refl
put_not q i Ahead not = refl
put_not q i Full not = refl
put_not q i Busy not = refl

with_handed : (words : Words) (a : Asked) (c : Came) → (with_asked words a c).handed ≡ words.handed
with_handed words a Taken = refl
with_handed words a Repeat = refl
with_handed words a Ahead = refl
with_handed words a Full = refl
with_handed words a Busy = refl

asked_handed : (words : Words) (a : Asked) (c : Came) → (after_asked words a c).handed ≡ words.handed
asked_handed words a Busy = refl
asked_handed words a Taken = with_handed words a (came_of (length (taken words)) a.number)
asked_handed words a Repeat = with_handed words a (came_of (length (taken words)) a.number)
asked_handed words a Ahead = with_handed words a (came_of (length (taken words)) a.number)
asked_handed words a Full = with_handed words a (came_of (length (taken words)) a.number)

-- what a request is to the words of its hart, and to those of another
module _ (hart other word : ℕ) (number : Option ℕ) (words : Words) where
  abbrev asks : Bool → Words
  asks b = all_after words (if b then Asks (record { word = word; number = number }) ∷ [] else [])

  asked_here : (c : Came) → other ≡ hart →
      all_after words (asked_of hart (Word other word number) (heard.Came c)) ≡ after_asked words (record { word = word; number = number }) c
  asked_here Busy e = refl
  asked_here Taken e = ap asks (eq-eqb other hart e)
  asked_here Repeat e = ap asks (eq-eqb other hart e)
  asked_here Ahead e = ap asks (eq-eqb other hart e)
  asked_here Full e = ap asks (eq-eqb other hart e)

  asked_there : (c : Came) → other ≢ hart → all_after words (asked_of hart (Word other word number) (heard.Came c)) ≡ words
  asked_there Busy ne = refl
  asked_there Taken ne = ap asks (ne_eqb other hart ne)
  asked_there Repeat ne = ap asks (ne_eqb other hart ne)
  asked_there Ahead ne = ap asks (ne_eqb other hart ne)
  asked_there Full ne = ap asks (ne_eqb other hart ne)

timer_put : (words : Words) (q : QueueView) (c : Came) → IsQueueOf words q → IsQueueOf words (put_as q input.Timer c)
timer_put words q Taken of = timer_followed words q of
timer_put words q Repeat of = of
timer_put words q Ahead of = of
timer_put words q Full of = of
timer_put words q Busy of = of

-- the queue of a hart is another now
module _ (old new : LeaderView) (hart other : ℕ) (p : QueueView) (inside : other < length old.queues) (same : new ≡ with_queue old other p) where
  put_here : (words now : Words) → other ≡ hart → (IsQueueOf words (queue_at old.queues other) → IsQueueOf now p) → now.handed ≡ words.handed →
      AreWordsOf old hart words → AreWordsOf new hart now
  put_here words now e of handed was =
      let queue : queue_at new.queues hart ≡ p =
      ap (λ (l : LeaderView). queue_at l.queues hart) same ∙ ap (λ (k : ℕ). queue_at (slice_set old.queues other p) k) (sym e)
      ∙ set_same old.queues other p inside in
      stay old new hart words now
      (subst (λ (q : QueueView). IsQueueOf now q) (sym queue) (of (subst (λ (k : ℕ). IsQueueOf words (queue_at old.queues k)) (sym e) was.queue))) handed
      (ap (λ (l : LeaderView). l.primary.book.start) same) (ap (λ (l : LeaderView). words_of l.primary.book hart) same) was

  put_there : (words : Words) → other ≢ hart → AreWordsOf old hart words → AreWordsOf new hart words
  put_there words ne was =
      let queue : queue_at new.queues hart ≡ queue_at old.queues hart =
      ap (λ (l : LeaderView). queue_at l.queues hart) same ∙ set_other old.queues other hart p (λ e. ne (sym e)) in
      stay old new hart words words (subst (λ (q : QueueView). IsQueueOf words q) (sym queue) was.queue) refl
      (ap (λ (l : LeaderView). l.primary.book.start) same) (ap (λ (l : LeaderView). words_of l.primary.book hart) same) was

heard_words : (old new : LeaderView) (hart : ℕ) (words : Words) (request : Request) (told : Heard) → Hears old request new told → AreWordsOf old hart words →
    AreWordsOf new hart (all_after words (asked_of hart request told))
heard_words old new hart words (Timer other) heard.NoHart (none, same) was = subst (λ (l : LeaderView). AreWordsOf l hart words) (sym same) was
heard_words old new hart words (Timer other) (heard.Came c) (inside, is, same) was =
    let q = queue_at old.queues other in
    elim (same_or_not other hart) [
      | inl e ↦ put_here old new hart other (put_as q input.Timer c) inside same words words e (λ of. timer_put words q c of) refl was
      | inr ne ↦ put_there old new hart other (put_as q input.Timer c) inside same words ne was
    ]
heard_words old new hart words (Timer other) (heard.Told answers) none was = absurd none
heard_words old new hart words (Word other word number) heard.NoHart (none, same) was = subst (λ (l : LeaderView). AreWordsOf l hart words) (sym same) was
heard_words old new hart words (Word other word number) (heard.Came c) (inside, is, same) was =
    let q = queue_at old.queues other in
    let a : Asked = record { word = word; number = number } in
    let p = put_as q (input.Word word) c in
    elim (same_or_not other hart) [
      | inl e ↦
          subst (λ (ws : Words). AreWordsOf new hart ws) (sym (asked_here hart other word number words c e))
          (put_here old new hart other p inside same words (after_asked words a c) e
          (λ of. asked_followed words q p a c is (λ t. put_taken q (input.Word word) c t) (λ not. put_not q (input.Word word) c not) of)
          (asked_handed words a c) was)
      | inr ne ↦ subst (λ (ws : Words). AreWordsOf new hart ws) (sym (asked_there hart other word number words c ne)) (put_there old new hart other p inside same words ne was)
    ]
heard_words old new hart words (Word other word number) (heard.Told answers) none was = absurd none
heard_words old new hart words (From other number) told (tells, same) was = subst (λ (l : LeaderView). AreWordsOf l hart words) (sym same) was

-- the start of the term stays
heard_start : (old new : LeaderView) (request : Request) (told : Heard) → Hears old request new told → new.primary.book.start ≡ old.primary.book.start
heard_start old new (Timer other) heard.NoHart (none, same) = ap (λ (l : LeaderView). l.primary.book.start) same
heard_start old new (Timer other) (heard.Came c) (inside, is, same) = ap (λ (l : LeaderView). l.primary.book.start) same
heard_start old new (Timer other) (heard.Told answers) none = absurd none
heard_start old new (Word other word number) heard.NoHart (none, same) = ap (λ (l : LeaderView). l.primary.book.start) same
heard_start old new (Word other word number) (heard.Came c) (inside, is, same) = ap (λ (l : LeaderView). l.primary.book.start) same
heard_start old new (Word other word number) (heard.Told answers) none = absurd none
heard_start old new (From other number) told (tells, same) = ap (λ (l : LeaderView). l.primary.book.start) same

-- ---- acknowledgements

only_notes : (b c : BookView RecordingView) → c ≡ record b { mode = record b.mode { notes = c.mode.notes } } →
    (c.start ≡ b.start) × ((hart : ℕ) → words_of c hart ≡ words_of b hart)
only_notes b c rest = (ap (λ (x : BookView RecordingView). x.start) rest, λ hart. ap (λ (x : BookView RecordingView). words_of x hart) rest)

noted_book : (old new : LeaderView) (noted : TermGateView) → LetsGo old noted new ⊎ LetsNothingGo old noted new →
    (new.primary.book.start ≡ old.primary.book.start) × ((hart : ℕ) → words_of new.primary.book hart ≡ words_of old.primary.book hart)
noted_book old new noted goes =
    only_notes old.primary.book new.primary.book
    (elim goes [
      | inl lets ↦ lets.notes.rest
      | inr stays ↦
          stays.book ∙ ap (λ (mode : RecordingView). let x : BookView RecordingView = record old.primary.book { mode = mode } in x) stays.room.rest
    ])

-- ---- rounds

-- a word more is handed on
handed_more : (before since handed waiting : List Asked) (w : ℕ) (ws : List ℕ) → handed ≡ before ++ since → w ∷ ws ≡ map word_of waiting →
    (more : List Asked) × ((first_handed handed waiting).handed ≡ before ++ more) × (map word_of more ≡ map word_of since ++ w ∷ [])
handed_more before since handed [] w ws e f = absurd cc
handed_more before since handed (a ∷ waiting) w ws e f =
    let head : w ≡ word_of a = cc in (
      since ++ a ∷ [],
      ap (λ (xs : List Asked). xs ++ a ∷ []) e ∙ append_assoc before since (a ∷ []),
      map-append word_of since (a ∷ []) ∙ ap (λ (v : ℕ). map word_of since ++ v ∷ []) (sym head),
    )

-- what the words of a hart are once this was handed on
record AreHanded (before since : List Asked) (n : Option Input) (q : QueueView) (now : Words) : Type 0 where
  queue : IsQueueOf now q
  more : List Asked
  handed : now.handed ≡ before ++ more
  words : map word_of more ≡ map word_of since ++ words_next n

one_handed : (before since : List Asked) (words : Words) (handed : ℕ) (waiting : List Input) (i : Input) → words.handed ≡ before ++ since →
    front waiting ≡ Some i → IsQueueOf words (record { handed = handed; waiting = waiting }) →
    AreHanded before since (Some i) (handed_on handed waiting) (all_after words (handed_of (Some i)))
one_handed before since words handed [] i parts e of = absurd cc
one_handed before since words handed (first ∷ inputs) i parts e of =
    subst (λ (x : Input). AreHanded before since (Some x) (handed_on handed (first ∷ inputs)) (all_after words (handed_of (Some x))))
    (let same : first ≡ i = cc in same) (by first of)
  where
    by : (first : Input) → IsQueueOf words (record { handed = handed; waiting = first ∷ inputs }) →
        AreHanded before since (Some first) (handed_on handed (first ∷ inputs)) (all_after words (handed_of (Some first)))
    by input.Timer of = record {
      queue = record { handed = of.handed; waiting = of.waiting };
      more = since;
      handed = parts;
      words = sym (append-nil (map word_of since));
    }
    by (input.Word w) of =
        let (more, now, words_are) = handed_more before since words.handed words.waiting w (words_in inputs) parts of.waiting in
        record {
          queue =
              elim (hand_followed words handed (input.Word w ∷ inputs) of) [
                | inl is ↦ absurd (let one = is.handed in let two = of.handed in omega (arith, one, two))
                | inr is ↦ is
              ];
          more = more;
          handed = now;
          words = words_are;
        }
    by (input.Bell source) of = record {
      queue = record { handed = of.handed; waiting = of.waiting };
      more = since;
      handed = parts;
      words = sym (append-nil (map word_of since));
    }

hands_asked : (d : Spacing) (n : Option Input) (hart at : ℕ) (old new : QueueView) (b c : RecordingView) (before since : List Asked) (words : Words) →
    ((i : Input) → n ≡ Some i → front old.waiting ≡ Some i) → Hands d n hart at old new b c → words.handed ≡ before ++ since → IsQueueOf words old →
    AreHanded before since n new (all_after words (handed_of n))
hands_asked d None hart at old new b c before since words fronts (queue, desk) parts of = record {
  queue = subst (λ (q : QueueView). IsQueueOf words q) (sym queue) of;
  more = since;
  handed = parts;
  words = sym (append-nil (map word_of since));
}
hands_asked d (Some i) hart at old new b c before since words fronts (queue, desk) parts of =
    subst (λ (q : QueueView). AreHanded before since (Some i) q (all_after words (handed_of (Some i)))) (sym queue)
    (one_handed before since words old.handed old.waiting i parts (fronts i refl) (record { handed = of.handed; waiting = of.waiting }))

round_words : (old new : LeaderView) (hart : ℕ) (words : Words) (spacing : Spacing) (steps : ℕ) (h : Hart) →
    slice_get old.primary.book.machine.harts hart ≡ Some h → IsRound spacing steps old new → AreWordsOf old hart words →
    AreWordsOf new hart (all_after words (handed_of (next_of h (queue_at old.queues hart))))
round_words old new hart words spacing steps h at r was =
    let b = old.primary.book in
    let q = queue_at old.queues hart in
    let p = queue_at new.queues hart in
    let n = next_of h q in
    let does = r.hands hart h at in
    let now =
    hands_asked spacing n hart h.count q p b.mode r.given.mode was.before was.since words (λ i is. next_front h q i is) does was.handed was.queue in
    let given : r.given.start ≡ b.start = ap (λ (x : BookView RecordingView). x.start) r.book in
    let start : new.primary.book.start ≡ b.start = r.on.on.start ∙ given in
    let offered : words_of new.primary.book hart ≡ words_of b hart ++ words_next n =
    gone_on_words r.given new.primary.book r.on.offered hart ∙ handed_words spacing b r.given n hart h.count q p r.book does in
    record {
      queue = now.queue;
      before = was.before;
      since = now.more;
      handed = now.handed;
      begun = was.begun ∙ ap (λ (m : MachineState). sequence_of (slice_get m.harts hart)) (sym start);
      offered = now.words ∙ ap (λ (ws : List ℕ). ws ++ words_next n) was.offered ∙ sym offered;
    }

-- ---- all calls

begun_words : (l : LeaderView) (hart : ℕ) (words : Words) (begins : Begins l hart) → begins.h.received.input_sequence ≤ length words.handed →
    AreWordsOf l hart (after words (GoesOnAt begins.h.received.input_sequence))
begun_words l hart words begins le =
    let given = begins.h.received.input_sequence in
    record {
      queue =
          subst (λ (q : QueueView). IsQueueOf (after words (GoesOnAt given)) q) (sym (begins.behind hart begins.h begins.there)) (begun_followed words given le);
      before = take given words.handed;
      since = [];
      handed = sym (append-nil (take given words.handed));
      begun = length-take-le given words.handed le ∙ sym (ap sequence_of begins.there);
      offered = sym (none_offered l.primary.book begins.limits begins.unused hart);
    }

follow : (hart : ℕ) (first now : LeaderView) (all : List Happening) (words : Words) → AreWordsOf first hart words → Calls hart first now all →
    AreWordsOf now hart (all_after words all)
follow hart first now all words was NoCall = was
follow hart first now all words was (Hear old new before request told calls hears) =
    subst (λ (ws : Words). AreWordsOf now hart ws) (sym (after_more words before (asked_of hart request told)))
    (heard_words old now hart (all_after words before) request told hears (follow hart first old before words was calls))
follow hart first now all words was (Acknowledge old new before a calls (noted, notes, goes) same) =
    let only = noted_book old now noted goes in
    stay_all old now hart (all_after words before) (ap (λ (l : LeaderView). l.queues) same) only.0 (only.1 hart) (follow hart first old before words was calls)
follow hart first now all words was (Round old new before spacing steps h calls at round) =
    subst (λ (ws : Words). AreWordsOf now hart ws) (sym (after_more words before (handed_of (next_of h (queue_at old.queues hart)))))
    (round_words old now hart (all_after words before) spacing steps h at round (follow hart first old before words was calls))
follow hart first now all words was (Seal old new before calls same) =
    stay_all old now hart (all_after words before) (ap (λ (l : LeaderView). l.queues) same) (ap (λ (l : LeaderView). l.primary.book.start) same)
    (ap (λ (l : LeaderView). words_of l.primary.book hart) same) (follow hart first old before words was calls)

kept_start : (hart : ℕ) (first now : LeaderView) (all : List Happening) → Calls hart first now all → now.primary.book.start ≡ first.primary.book.start
kept_start hart first now all NoCall = refl
kept_start hart first now all (Hear old new before request told calls hears) = heard_start old now request told hears ∙ kept_start hart first old before calls
kept_start hart first now all (Acknowledge old new before a calls (noted, notes, goes) same) =
    (noted_book old now noted goes).0 ∙ kept_start hart first old before calls
kept_start hart first now all (Round old new before spacing steps h calls at round) =
    round.on.on.start ∙ ap (λ (x : BookView RecordingView). x.start) round.book ∙ kept_start hart first old before calls
kept_start hart first now all (Seal old new before calls same) =
    ap (λ (l : LeaderView). l.primary.book.start) same ∙ kept_start hart first old before calls

pub words_follow : WordsFollow
words_follow hart first now all words begins le calls =
    follow hart first now all (after words (GoesOnAt begins.h.received.input_sequence)) (begun_words first hart words begins le) calls

pub given_were_handed : GivenWereHanded
given_were_handed now hart words cut are gave above below =
    let handed = ap length are.handed ∙ length-append are.before are.since in
    let since = sym (length-map are.since word_of) ∙ ap length are.offered in
    let first = ap length gave.first ∙ length-append (words_logged now.primary.book.mode.inputs hart) gave.later in
    let few = few_words (λ x. nat_lt x.0 (cut hart)) (inputs_of now.primary.book.mode.inputs hart) in
    let given = gave.below cut above below in
    omega (arith, handed, since, first, few, are.begun, given)

-- ---- clients

-- the clients' words of so many numbers, from this one on
numbered : (ℕ → ℕ) → ℕ → ℕ → List Asked
numbered clients number zero = []
numbered clients number (suc many) = record { word = clients number; number = Some number } ∷ numbered clients (suc number) many

as_many : (clients : ℕ → ℕ) (number many : ℕ) → length (numbered clients number many) ≡ many
unfolding numbered
as_many clients number zero = refl
as_many clients number (suc many) = ap suc (as_many clients (suc number) many)

each_numbered : (clients : ℕ → ℕ) (number many : ℕ) → EachAt (IsWordOf clients) number (numbered clients number many)
unfolding numbered
each_numbered clients number zero = tt
each_numbered clients number (suc many) = (refl, each_numbered clients (suc number) many)

each_behind : (P : ℕ → Asked → Type 0) (place : ℕ) (xs ys : List Asked) → EachAt P place (xs ++ ys) → EachAt P (place + length xs) ys
each_behind P place [] ys each = subst (λ (n : ℕ). EachAt P n ys) (omega arith) each
each_behind P place (x ∷ xs) ys each = subst (λ (n : ℕ). EachAt P n ys) (omega arith) (each_behind P (suc place) xs ys each.1)

are_from : (clients : ℕ → ℕ) (number : ℕ) (all : List Asked) → EachAt (IsWordOf clients) number all → AreFrom clients number (map word_of all)
are_from clients number [] each = tt
are_from clients number (a ∷ all) each = (each.0, are_from clients (suc number) all each.1)

from_front : (clients : ℕ → ℕ) (number : ℕ) (words more : List ℕ) → AreFrom clients number (words ++ more) → AreFrom clients number words
from_front clients number [] more from = tt
from_front clients number (w ∷ words) more from = (from.0, from_front clients (suc number) words more from.1)

pub gives_clients_words : GivesClientsWords
gives_clients_words clients hart first now all begins calls asks gave =
    let given = begins.h.received.input_sequence in
    let had : Words = record { handed = numbered clients 0 given; waiting = [] } in
    let many = as_many clients 0 given in
    let are = words_follow hart first now all had begins (omega (arith, many)) calls in
    let words = all_after (after had (GoesOnAt given)) all in
    let in_place : EachAt (IsWordOf clients) 0 (taken had) =
    subst (EachAt (IsWordOf clients) 0) (sym (append-nil (numbered clients 0 given))) (each_numbered clients 0 given) in
    let each = stay_in_place clients had (GoesOnAt given ∷ all) (tt, asks) in_place in
    let handed : EachAt (IsWordOf clients) 0 (are.before ++ are.since) =
    subst (EachAt (IsWordOf clients) 0) are.handed (each_front (IsWordOf clients) 0 words.handed words.waiting each) in
    let since = are_from clients (length are.before) are.since
    (subst (λ (n : ℕ). EachAt (IsWordOf clients) n are.since) (omega arith) (each_behind (IsWordOf clients) 0 are.before are.since handed)) in
    let begun : length are.before ≡ given =
    are.begun ∙ ap (λ (m : MachineState). sequence_of (slice_get m.harts hart)) (kept_start hart first now all calls) ∙ ap sequence_of begins.there in
    from_front clients given (words_logged now.primary.book.mode.inputs hart) gave.later
    (subst (AreFrom clients given) gave.first (subst (λ (n : ℕ). AreFrom clients n (words_of now.primary.book hart)) begun
    (subst (AreFrom clients (length are.before)) are.offered since)))
