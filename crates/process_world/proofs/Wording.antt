-- What is known of the words of a primary stays known, whatever it does.
use Rattle.std.proofs.Common.{◌≡◌, inl, inr, ℕ, ◌+◌, ◌<◌, ◌≤◌, Bool, true, false, List, [], ◌∷◌, ◌++◌, Option, Some, None, length, map, slice_set, Contains}
use Rattle.std.proofs.Common.{refl, sym, ap, subst, ◌∙◌, arith, append_assoc, append-nil, length-append}
use Rattle.std.specs.Prelude.{All, if◌then◌else◌, nat_lt, ◌==◌}
use Rattle.std.proofs.lemmas.Bool.{eqb-true, ltb-false, ltb-true}
use Rattle.std.proofs.lemmas.List.{map-append}
use Rattle.std.proofs.lemmas.List.Elements.{All-nil}
use Rattle.interleaving.proofs.Put.{same_or_not}
use Rattle.input_log.specs.declared.Input.{Input}
use Rattle.input_log.specs.declared.Input.TheVariants as input
use Rattle.input_log.specs.Inputs.{inputs_of}
use Rattle.input_log.specs.Offers.{all_offers, come, waiting}
use Rattle.input_log.specs.Waiting.{others_of}
use Rattle.rv32_hart.specs.Hart.{Hart}
use Rattle.hart_lease.specs.Runs.{counts_of}
use Rattle.book_modes.specs.Dues.{due_at}
use Rattle.book_modes.specs.Recordings.{IsUnused, RecordingView}
use Rattle.page_book.specs.Books.{BookView}
use Rattle.wire.specs.declared.requests.Request.{Request}
use Rattle.wire.specs.declared.requests.Request.TheVariants.{Timer, Word, From}
use Rattle.requests.specs.Numbered.{came_of, room_for}
use Rattle.requests.specs.Queues.{QueueView, at_room, came, comes_of, front, handed_on, with_input, words_in}
use Rattle.requests.specs.declared.queue.Came.{Came}
use Rattle.requests.specs.declared.queue.Came.TheVariants.{Taken, Repeat, Ahead, Full, Busy}
use Rattle.requests.specs.declared.queue.TheConstants.{WORD_LIMIT}
use Rattle.requests.proofs.Following.{words_in-append}
use Rattle.word_sequences.specs.Sequences.{words_below, words_logged}
use Rattle.leading.specs.Clients.{AreFrom}
use Rattle.leading.specs.Hearing.{Hears, put_as}
use Rattle.leading.specs.Leaders.{AreInLimit, BeginBehind, LeaderView, queue_at, words_of}
use Rattle.leading.specs.Rounds.{Hands, may_take, next_of}
use Rattle.leading.specs.declared.heard.Heard.{Heard}
use Rattle.leading.specs.declared.heard.Heard.TheVariants as heard
use Rattle.leading.specs.declared.inputs.Spacing.{Spacing}
use Rattle.leading.proofs.Counting.{begun_handed, input_of, none_offered, words_but_bells, words_next}
use Rattle.leading.proofs.Queueing.{set_same, set_other}
use Rattle.process_world.specs.Words.{AskByNumber}
use Rattle.process_world.specs.machinery.Worded.{BookWords, HartWords, LeaderWords}
use Rattle.process_world.proofs.Rows.{Row, IsFront, row_words, row_below, from_more, few_below}

-- ---- what a log gave, among what a book was offered

-- the inputs that were given, among offers
come_inputs : (given : Row) → map input_of (map (λ (x : ℕ × Input). come x.0 x.1) given) ≡ map (λ (x : ℕ × Input). x.1) given
come_inputs [] = refl
come_inputs (x ∷ given) = ap (λ (is : List Input). x.1 ∷ is) (come_inputs given)

-- the words that it was offered begin with those that its log gave
pub logged_first : (b : BookView RecordingView) (hart : ℕ) → IsFront (words_logged b.mode.inputs hart) (words_of b hart)
logged_first b hart =
    let given = inputs_of b.mode.inputs hart in
    let count = counts_of b.machine hart in
    let due = (due_at b.mode.due hart).inputs in
    let others = others_of b.mode.desk hart in
    let done = map (λ (x : ℕ × Input). come x.0 x.1) given in
    let rest = map (come count) due ++ map waiting others in (
      words_in (map input_of rest),
      words_but_bells (all_offers given count due others)
          ∙ ap words_in (map-append input_of done rest ∙ ap (λ (is : List Input). is ++ map input_of rest) (come_inputs given))
          ∙ words_in-append (map (λ (x : ℕ × Input). x.1) given) (map input_of rest),
    )

-- no more were given than it was offered
pub few_logged : (b : BookView RecordingView) (hart count : ℕ) → length (words_below b.mode.inputs hart count) ≤ length (words_of b hart)
few_logged b hart count =
    let (later, is) = logged_first b hart in
    let many = ap length is ∙ length-append (words_logged b.mode.inputs hart) later in
    let few = few_below (inputs_of b.mode.inputs hart) count in omega (arith, many, few)

-- ---- a primary that begins

-- it was offered nothing, and nothing waits
pub begun : (asked : List Request) (b : BookView RecordingView) (queues : List QueueView) (limits : List ℕ) → IsUnused b.mode b.start limits →
    BeginBehind b.start queues → AreInLimit b.start → LeaderWords asked b queues
begun asked b queues limits unused behind limit =
    record {
      from = λ hart.
          subst (λ (row : Row). All (λ x. counts_of b.start hart ≤ x.0) row) (sym (unused.inputs hart))
          (All-nil (λ (x : ℕ × Input). counts_of b.start hart ≤ x.0));
      harts = λ hart h at.
          let none = none_offered b limits unused hart in
          record {
            handed = begun_handed b queues limits unused behind limit hart h at;
            few = let e = ap length none in omega (arith, e);
            fronts = λ count. ([], ap row_words (unused.inputs hart) ∙ ap (λ (row : Row). row_below row count ++ []) (sym (unused.inputs hart)));
            clients = λ clients ask.
                subst (AreFrom clients h.received.input_sequence)
                (sym
                (ap (λ (ws : List ℕ). ws ++ words_in (queue_at queues hart).waiting) none ∙ ap (λ (q : QueueView). words_in q.waiting) (behind hart h at))) tt;
          };
    }

-- ---- more that is asked for

-- where all ask by number, those of them did who asked before
still_by_number : (asked more : List Request) → ((r : Request) → Contains asked r → Contains more r) → (hart : ℕ) (clients : ℕ → ℕ) →
    AskByNumber more hart clients → AskByNumber asked hart clients
still_by_number asked more grows hart clients ask word number has = ask word number (grows (Word hart word number) has)

-- so what is known of the words of a primary is known still
pub more_asked : (asked more : List Request) (b : BookView RecordingView) (queues : List QueueView) → ((r : Request) → Contains asked r → Contains more r) →
    LeaderWords asked b queues → LeaderWords more b queues
more_asked asked more b queues grows is =
    record {
      from = is.from;
      harts = λ hart h at.
          let was = is.harts hart h at in
          record {
            handed = was.handed;
            few = was.few;
            fronts = was.fronts;
            clients = λ clients ask. was.clients clients (still_by_number asked more grows hart clients ask);
          };
    }

-- and of a book
pub more_asked_too : (asked more : List Request) (b : BookView RecordingView) → ((r : Request) → Contains asked r → Contains more r) → BookWords asked b →
    BookWords more b
more_asked_too asked more b grows is =
    record {
      leads = is.leads;
      from = is.from;
      limit = is.limit;
      clients = λ hart clients ask. is.clients hart clients (still_by_number asked more grows hart clients ask);
    }

-- ---- acknowledgements

-- notes say nothing of words
pub renoted_words : (asked : List Request) (b c : BookView RecordingView) (queues : List QueueView) →
    c ≡ record b { mode = record b.mode { notes = c.mode.notes } } → LeaderWords asked b queues → LeaderWords asked c queues
renoted_words asked b c queues rest is =
    subst (λ (x : BookView RecordingView). LeaderWords asked x queues) (sym rest)
    (record {
      from = is.from;
      harts = λ hart h at.
          let was = is.harts hart h at in
          record {
            handed = record { handed = was.handed.handed; limit = was.handed.limit };
            few = was.few;
            fronts = was.fronts;
            clients = was.clients;
          };
    })

-- ---- requests

module _ (asked : List Request) (b : BookView RecordingView) (hart : ℕ) (h : Hart) where
  -- a queue with the same words
  requeued : (q p : QueueView) → p.handed ≡ q.handed → words_in p.waiting ≡ words_in q.waiting → HartWords asked b q hart h → HartWords asked b p hart h
  requeued q p handed words is =
      let many = ap length words in
      record {
        handed = record { handed = handed ∙ is.handed.handed; limit = (let most = is.handed.limit in omega (arith, most, handed, many)) };
        few = is.few;
        fronts = is.fronts;
        clients = λ clients ask.
            subst (λ (ws : List ℕ). AreFrom clients h.received.input_sequence (words_of b hart ++ ws)) (sym words) (is.clients clients ask);
      }

  -- the timer's interrupt waits too, or not
  timer_words : (q : QueueView) (c : Came) → HartWords asked b q hart h → HartWords asked b (put_as q input.Timer c) hart h
  timer_words q Taken is =
      requeued q (with_input q input.Timer) refl (words_in-append q.waiting (input.Timer ∷ []) ∙ append-nil (words_in q.waiting)) is
  timer_words q Repeat is = is
  timer_words q Ahead is = is
  timer_words q Full is = is
  timer_words q Busy is = is

  -- a word is taken that is the next one
  word_taken : (q : QueueView) (word : ℕ) (number : Option ℕ) → Contains asked (Word hart word number) → came q < WORD_LIMIT →
      ((n : ℕ) → number ≡ Some n → n ≡ came q) → HartWords asked b q hart h → HartWords asked b (with_input q (input.Word word)) hart h
  word_taken q word number has less next is =
      let more : words_in (q.waiting ++ input.Word word ∷ []) ≡ words_in q.waiting ++ word ∷ [] = words_in-append q.waiting (input.Word word ∷ []) in
      let many = ap length more ∙ length-append (words_in q.waiting) (word ∷ []) in
      let so_far = length-append (words_of b hart) (words_in q.waiting) in
      let own = is.handed.handed in
      record {
        handed = record { handed = own; limit = omega (arith, less, many) };
        few = is.few;
        fronts = is.fronts;
        clients = λ clients ask.
            let (n, some, it) = ask word number has in
            let place : n ≡ h.received.input_sequence + length (words_of b hart ++ words_in q.waiting) =
            (let e = next n some in omega (arith, e, own, so_far)) in
            subst (AreFrom clients h.received.input_sequence)
            (append_assoc (words_of b hart) (words_in q.waiting) (word ∷ []) ∙ ap (λ (ws : List ℕ). words_of b hart ++ ws) (sym more))
            (from_more clients h.received.input_sequence (words_of b hart ++ words_in q.waiting) (word ∷ []) (is.clients clients ask)
            (it ∙ ap clients place, tt));
      }

-- there is room for what is taken
room_taken : (n : ℕ) → room_for n ≡ Taken → n < WORD_LIMIT
room_taken n = by (nat_lt n WORD_LIMIT) refl
  where
    by : (b : Bool) → nat_lt n WORD_LIMIT ≡ b → (if b then Taken else Full) ≡ Taken → n < WORD_LIMIT
    by true e is = ltb-true n WORD_LIMIT e
    by false e is = absurd cc

-- a word with a number is in its place
in_place : (n many : ℕ) → came_of many (Some n) ≡ Taken → (n ≡ many) × (many < WORD_LIMIT)
in_place n many = by (nat_lt n many) (nat_lt many n) refl refl
  where
    by : (b c : Bool) → nat_lt n many ≡ b → nat_lt many n ≡ c → (if b then Repeat else (if c then Ahead else room_for many)) ≡ Taken →
        (n ≡ many) × (many < WORD_LIMIT)
    by true c e f is = absurd cc
    by false true e f is = absurd cc
    by false false e f is = (let no_less = ltb-false n many e in let no_more = ltb-false many n f in omega (arith, no_less, no_more), room_taken many is)

-- a word is the next one, where it has a number
is_next : (many : ℕ) (number : Option ℕ) → came_of many number ≡ Taken → (many < WORD_LIMIT) × ((n : ℕ) → number ≡ Some n → n ≡ many)
is_next many None is = (room_taken many is, λ n e. absurd cc)
is_next many (Some k) is =
    let (place, room) = in_place k many is in (room, λ n e. (let same : k ≡ n = cc in sym same ∙ place))

-- what is taken where there is room would be taken
at_room_taken : (waiting : ℕ) (c : Came) → at_room waiting c ≡ Taken → c ≡ Taken
at_room_taken waiting Taken is = refl
at_room_taken waiting Repeat is = is
at_room_taken waiting Ahead is = is
at_room_taken waiting Full is = is
at_room_taken waiting Busy is = is

-- a word waits too, or not
word_words : (asked : List Request) (b : BookView RecordingView) (hart : ℕ) (h : Hart) (q : QueueView) (word : ℕ) (number : Option ℕ) (c : Came) →
    Contains asked (Word hart word number) → c ≡ comes_of q number → HartWords asked b q hart h → HartWords asked b (put_as q (input.Word word) c) hart h
word_words asked b hart h q word number Taken has becomes is =
    let (less, next) = is_next (came q) number (at_room_taken (length q.waiting) (came_of (came q) number) (sym becomes)) in
    word_taken asked b hart h q word number has less next is
word_words asked b hart h q word number Repeat has becomes is = is
word_words asked b hart h q word number Ahead has becomes is = is
word_words asked b hart h q word number Full has becomes is = is
word_words asked b hart h q word number Busy has becomes is = is

-- the queue of one hart is another now
other_queue : (asked : List Request) (b : BookView RecordingView) (queues : List QueueView) (n : ℕ) (p : QueueView) → n < length queues →
    ((hart : ℕ) (h : Hart) → hart ≡ n → HartWords asked b (queue_at queues n) hart h → HartWords asked b p hart h) → LeaderWords asked b queues →
    LeaderWords asked b (slice_set queues n p)
other_queue asked b queues n p inside own is =
    record {
      from = is.from;
      harts = λ hart h at. elim (same_or_not hart n) [
        | inl e ↦
            let there : queue_at (slice_set queues n p) hart ≡ p = ap (λ (k : ℕ). queue_at (slice_set queues n p) k) e ∙ set_same queues n p inside in
            subst (λ (q : QueueView). HartWords asked b q hart h) (sym there)
            (own hart h e (subst (λ (k : ℕ). HartWords asked b (queue_at queues k) hart h) e (is.harts hart h at)))
        | inr ne ↦ subst (λ (q : QueueView). HartWords asked b q hart h) (sym (set_other queues n hart p ne)) (is.harts hart h at)
      ];
    }

-- what is known of the words of a primary
abbrev pub Knows : List Request → LeaderView → Type 0
Knows asked l = LeaderWords asked l.primary.book l.queues

-- a request is heard
pub hears_words : (asked : List Request) (old new : LeaderView) (request : Request) (told : Heard) → Contains asked request → Hears old request new told →
    Knows asked old → Knows asked new
hears_words asked old new (Timer n) heard.NoHart has (none, same) is = subst (Knows asked) (sym same) is
hears_words asked old new (Timer n) (heard.Came c) has (inside, becomes, same) is =
    let q = queue_at old.queues n in
    subst (Knows asked) (sym same)
    (other_queue asked old.primary.book old.queues n (put_as q input.Timer c) inside (λ hart h e was. timer_words asked old.primary.book hart h q c was) is)
hears_words asked old new (Timer n) (heard.Told answers) has never is = absurd never
hears_words asked old new (Word n word number) heard.NoHart has (none, same) is = subst (Knows asked) (sym same) is
hears_words asked old new (Word n word number) (heard.Came c) has (inside, becomes, same) is =
    let q = queue_at old.queues n in
    subst (Knows asked) (sym same)
    (other_queue asked old.primary.book old.queues n (put_as q (input.Word word) c) inside
    (λ hart h e was.
    word_words asked old.primary.book hart h q word number c (subst (λ (k : ℕ). Contains asked (Word k word number)) (sym e) has) becomes was) is)
hears_words asked old new (Word n word number) (heard.Told answers) has never is = absurd never
hears_words asked old new (From n number) told has (tells, same) is = subst (Knows asked) (sym same) is

-- ---- rounds

-- what is handed on waits no longer
passed : (handed : ℕ) (inputs : List Input) (i : Input) → front inputs ≡ Some i →
    words_in (i ∷ []) ++ words_in (handed_on handed inputs).waiting ≡ words_in inputs
passed handed [] i e = absurd cc
passed handed (first ∷ inputs) i e =
    subst (λ (x : Input). words_in (x ∷ []) ++ words_in (handed_on handed (first ∷ inputs)).waiting ≡ words_in (first ∷ inputs))
    (let same : first ≡ i = cc in same) (by first)
  where
    by : (first : Input) → words_in (first ∷ []) ++ words_in (handed_on handed (first ∷ inputs)).waiting ≡ words_in (first ∷ inputs)
    by input.Timer = refl
    by (input.Word w) = refl
    by (input.Bell source) = refl

-- so what is handed on and what waits then is what waited before
pub all_pass : (d : Spacing) (n : Option Input) (hart at : ℕ) (old new : QueueView) (b c : RecordingView) →
    ((i : Input) → n ≡ Some i → front old.waiting ≡ Some i) → Hands d n hart at old new b c → words_next n ++ words_in new.waiting ≡ words_in old.waiting
all_pass d None hart at old new b c fronts (queue, desk) = ap (λ (q : QueueView). words_in q.waiting) queue
all_pass d (Some i) hart at old new b c fronts (queue, desk) =
    ap (λ (q : QueueView). words_in (i ∷ []) ++ words_in q.waiting) queue ∙ passed old.handed old.waiting i (fronts i refl)

-- a hart is handed an input once it was given all words before
pub all_given : (h : Hart) (q : QueueView) (i : Input) → next_of h q ≡ Some i → h.received.input_sequence ≡ q.handed
all_given h q i = by (may_take h) (h.received.input_sequence == q.handed) refl
  where
    by : (b c : Bool) → (h.received.input_sequence == q.handed) ≡ c → (if b then (if c then front q.waiting else None) else None) ≡ Some i →
        h.received.input_sequence ≡ q.handed
    by true true e is = eqb-true h.received.input_sequence q.handed e
    by true false e is = absurd cc
    by false c e is = absurd cc

-- so of the words that were handed on one at the most was not given
pub one_at_most : (n : Option Input) (offered below given many : ℕ) → ((i : Input) → n ≡ Some i → offered ≤ below) → offered ≤ below + 1 →
    many ≡ offered + length (words_next n) → many ≤ below + 1
one_at_most None offered below given many all few is = omega (arith, few, is)
one_at_most (Some i) offered below given many all few is =
    let le = all i refl in let one = one_word i in omega (arith, le, one, is)
  where
    one_word : (i : Input) → length (words_in (i ∷ [])) ≤ 1
    one_word input.Timer = omega arith
    one_word (input.Word w) = omega arith
    one_word (input.Bell source) = omega arith
