-- The words that were handed on, as queues count them and as a book has them.
use Rattle.std.proofs.Common.{◌≡◌, ◌≢◌, ◌+◌, ◌<◌, ◌≤◌, ℕ, zero, suc, Bool, true, false, not, List, [], ◌∷◌, ◌++◌, Option, None, Some, length, map, filter, slice_get, replicate, inl, inr, refl, sym, ap, subst, ◌∙◌, length-append, append_assoc, append-nil, arith}
use Rattle.std.specs.Prelude.{if◌then◌else◌, slice_set, ◌==◌}
use Rattle.std.proofs.lemmas.List.{map-append}
use Rattle.interleaving.proofs.Put.{same_or_not}
use Rattle.ft_types.specs.declared.names.TheConstants.{HART_ROW}
use Rattle.input_log.specs.declared.Input.{Input}
use Rattle.input_log.specs.declared.Input.TheVariants.{Timer, Word, Bell}
use Rattle.input_log.specs.declared.WaitingInput.{WaitingInput}
use Rattle.input_log.specs.declared.offered.Offer.{Offer}
use Rattle.input_log.specs.Inputs.{is_bell, inputs_of}
use Rattle.input_log.specs.Offers.{AreKept, IsKept, all_offers, but_bells, come, waiting}
use Rattle.input_log.specs.Waiting.{others_of}
use Rattle.rv32_hart.specs.Hart.{Hart}
use Rattle.guest_image.specs.Machine.{MachineState}
use Rattle.hart_lease.specs.Runs.{counts_of}
use Rattle.book_modes.specs.Dues.{DueView, due_at, nothing_due}
use Rattle.book_modes.specs.Recordings.{IsUnused, RecordingView, offers_at}
use Rattle.page_book.specs.Books.{BookView}
use Rattle.lease_rounds.specs.Running.{KeepsOffered, offers}
use Rattle.requests.specs.Queues.{QueueView, came, front, handed_on, words_in}
use Rattle.requests.specs.declared.queue.TheConstants.{WORD_LIMIT}
use Rattle.requests.proofs.Following.{hand_came, words_in-append}
use Rattle.leading.specs.declared.inputs.Spacing.{Spacing}
use Rattle.leading.specs.Leaders.{AreHandedOn, AreInLimit, BeginBehind, IsHandedOn, queue_at, words_of}
use Rattle.leading.specs.Rounds.{Hands, may_take, next_of, spacing_of}
use Rattle.leading.proofs.Queueing.{set_same, set_other}

-- ---- the words among offers

abbrev pub input_of : Offer → Input
input_of o = o.input

first_and_rest : (i : Input) (is : List Input) → words_in (i ∷ is) ≡ words_in (i ∷ []) ++ words_in is
first_and_rest i is = words_in-append (i ∷ []) is

-- what is kept has the same words
pub kept_words : (old new : List Offer) → AreKept old new → words_in (map input_of new) ≡ words_in (map input_of old)
kept_words [] [] all = refl
kept_words [] (n ∷ new) all = absurd all
kept_words (o ∷ old) [] all = absurd all
kept_words (o ∷ old) (n ∷ new) (is, rest) =
    first_and_rest n.input (map input_of new)
    ∙ ap (λ (i : Input). words_in (i ∷ []) ++ words_in (map input_of new)) is.same
    ∙ ap (λ (ws : List ℕ). words_in (o.input ∷ []) ++ ws) (kept_words old new rest)
    ∙ sym (first_and_rest o.input (map input_of old))

-- a bell is no word
no_word : (i : Input) (is : List Input) → is_bell i ≡ true → words_in (i ∷ is) ≡ words_in is
no_word Timer is e = absurd cc
no_word (Word w) is e = absurd cc
no_word (Bell hart) is e = refl

pub words_but_bells : (os : List Offer) → words_in (map input_of (but_bells os)) ≡ words_in (map input_of os)
words_but_bells [] = refl
words_but_bells (o ∷ os) = by (is_bell o.input) refl (words_but_bells os)
  where
    by : (b : Bool) → is_bell o.input ≡ b → words_in (map input_of (but_bells os)) ≡ words_in (map input_of os) →
        words_in (map input_of (if not b then o ∷ but_bells os else but_bells os)) ≡ words_in (o.input ∷ map input_of os)
    by true e rest = rest ∙ sym (no_word o.input (map input_of os) e)
    by false e rest =
        first_and_rest o.input (map input_of (but_bells os))
        ∙ ap (λ (ws : List ℕ). words_in (o.input ∷ []) ++ ws) rest
        ∙ sym (first_and_rest o.input (map input_of os))

-- one input more that waits
one_more : (given : List (ℕ × Input)) (count : ℕ) (due : List Input) (others : List WaitingInput) (w : WaitingInput) →
    words_in (map input_of (but_bells (all_offers given count due (others ++ w ∷ [])))) ≡
    words_in (map input_of (but_bells (all_offers given count due others))) ++ words_in (w.input ∷ [])
one_more given count due others w =
    let done = map (λ (x : ℕ × Input). come x.0 x.1) given in
    let dues = map (come count) due in
    let all = all_offers given count due others in
    let more : all_offers given count due (others ++ w ∷ []) ≡ all ++ waiting w ∷ [] =
    ap (λ (os : List Offer). done ++ (dues ++ os)) (map-append waiting others (w ∷ []))
    ∙ ap (λ (os : List Offer). done ++ os) (sym (append_assoc dues (map waiting others) (waiting w ∷ [])))
    ∙ sym (append_assoc done (dues ++ map waiting others) (waiting w ∷ [])) in
    words_but_bells (all_offers given count due (others ++ w ∷ []))
    ∙ ap (λ (os : List Offer). words_in (map input_of os)) more
    ∙ ap words_in (map-append input_of all (waiting w ∷ []))
    ∙ words_in-append (map input_of all) (w.input ∷ [])
    ∙ ap (λ (ws : List ℕ). ws ++ words_in (w.input ∷ [])) (sym (words_but_bells all))

-- the same inputs have the same words
same_words : (given g : List (ℕ × Input)) (count : ℕ) (due d : List Input) (others o : List WaitingInput) → given ≡ g → due ≡ d → others ≡ o →
    words_in (map input_of (but_bells (all_offers given count due others))) ≡ words_in (map input_of (but_bells (all_offers g count d o)))
same_words given g count due d others o p q r =
    let words : List (ℕ × Input) → List Input → List WaitingInput → List ℕ =
    λ g d o. words_in (map input_of (but_bells (all_offers g count d o))) in
    ap (λ (x : List (ℕ × Input)). words x due others) p ∙ ap (λ (x : List Input). words g x others) q ∙ ap (λ (x : List WaitingInput). words g d x) r

-- ---- a primary that begins

nothing_there : (n hart : ℕ) → due_at (replicate n nothing_due) hart ≡ nothing_due
nothing_there zero hart = refl
nothing_there (suc n) zero = refl
nothing_there (suc n) (suc hart) = nothing_there n hart

-- nothing was offered yet
pub none_offered : (b : BookView RecordingView) (limits : List ℕ) → IsUnused b.mode b.start limits → (hart : ℕ) → words_of b hart ≡ []
none_offered b limits unused hart =
    let due : due_at b.mode.due hart ≡ nothing_due = ap (λ (due : List DueView). due_at due hart) unused.due ∙ nothing_there HART_ROW hart in
    same_words (inputs_of b.mode.inputs hart) [] (counts_of b.machine hart) (due_at b.mode.due hart).inputs [] (others_of b.mode.desk hart) []
    (unused.inputs hart) (ap (λ (d : DueView). d.inputs) due) (unused.others hart)

pub begun_handed : (b : BookView RecordingView) (queues : List QueueView) (limits : List ℕ) → IsUnused b.mode b.start limits → BeginBehind b.start queues →
    AreInLimit b.start → AreHandedOn b queues
begun_handed b queues limits unused behind limit = λ hart h at.
    let first = ap (λ (q : QueueView). q.handed) (behind hart h at) in
    let all : came (queue_at queues hart) ≡ h.received.input_sequence + 0 = ap (λ (q : QueueView). came q) (behind hart h at) in
    let many = ap length (none_offered b limits unused hart) in
    record { handed = omega (arith, first, many); limit = omega (arith, all, limit hart h at) }

-- ---- a queue that is another now

pub put_handed : (b : BookView RecordingView) (queues : List QueueView) (n : ℕ) (q : QueueView) → n < length queues → q.handed ≡ (queue_at queues n).handed →
    came q ≤ WORD_LIMIT → AreHandedOn b queues → AreHandedOn b (slice_set queues n q)
put_handed b queues n q lt same limit all = λ hart h at.
    elim (same_or_not hart n) [
      | inl e ↦
          let is : queue_at (slice_set queues n q) hart ≡ q = ap (λ (k : ℕ). queue_at (slice_set queues n q) k) e ∙ set_same queues n q lt in
          let before = ap (λ (k : ℕ). (queue_at queues k).handed) (sym e) ∙ (all hart h at).handed in
          subst (λ (x : QueueView). IsHandedOn b hart h x) (sym is) (record { handed = same ∙ before; limit = limit })
      | inr ne ↦ subst (λ (x : QueueView). IsHandedOn b hart h x) (sym (set_other queues n hart q ne)) (all hart h at)
    ]

-- ---- inputs that are handed on

pub next_front : (h : Hart) (q : QueueView) (i : Input) → next_of h q ≡ Some i → front q.waiting ≡ Some i
next_front h q i = by (may_take h) (h.received.input_sequence == q.handed)
  where
    by : (b c : Bool) → (if b then (if c then front q.waiting else None) else None) ≡ Some i → front q.waiting ≡ Some i
    by true true e = e
    by true false e = absurd cc
    by false c e = absurd cc

one_handed : (handed : ℕ) (inputs : List Input) (i : Input) → front inputs ≡ Some i → (handed_on handed inputs).handed ≡ handed + length (words_in (i ∷ []))
one_handed handed [] i e = absurd cc
one_handed handed (first ∷ inputs) i e = by first (let same : first ≡ i = cc in same)
  where
    by : (first : Input) → first ≡ i → (handed_on handed (first ∷ inputs)).handed ≡ handed + length (words_in (i ∷ []))
    by Timer same = subst (λ (x : Input). handed ≡ handed + length (words_in (x ∷ []))) same (omega arith)
    by (Word w) same = subst (λ (x : Input). handed + 1 ≡ handed + length (words_in (x ∷ []))) same refl
    by (Bell hart) same = subst (λ (x : Input). handed ≡ handed + length (words_in (x ∷ []))) same (omega arith)

-- the words of an input that is handed on, or of none
abbrev pub words_next : Option Input → List ℕ
words_next None = []
words_next (Some i) = words_in (i ∷ [])

-- they stand behind those that the book was offered before
pub hands_words : (d : Spacing) (n : Option Input) (hart at count : ℕ) (old new : QueueView) (b c : RecordingView) → c ≡ record b { desk = c.desk } →
    Hands d n hart at old new b c → words_in (map input_of (offers_at c hart count)) ≡ words_in (map input_of (offers_at b hart count)) ++ words_next n
hands_words d n hart at count old new b c rest hands = by n hands
  where
    given : inputs_of c.inputs hart ≡ inputs_of b.inputs hart
    given = ap (λ (x : RecordingView). inputs_of x.inputs hart) rest

    due : (due_at c.due hart).inputs ≡ (due_at b.due hart).inputs
    due = ap (λ (x : RecordingView). (due_at x.due hart).inputs) rest

    with_others : (others : List WaitingInput) → others_of c.desk hart ≡ others →
        words_in (map input_of (offers_at c hart count)) ≡
        words_in (map input_of (but_bells (all_offers (inputs_of b.inputs hart) count (due_at b.due hart).inputs others)))
    with_others others desk =
        same_words (inputs_of c.inputs hart) (inputs_of b.inputs hart) count (due_at c.due hart).inputs (due_at b.due hart).inputs
        (others_of c.desk hart) others given due desk

    by : (n : Option Input) → Hands d n hart at old new b c →
        words_in (map input_of (offers_at c hart count)) ≡ words_in (map input_of (offers_at b hart count)) ++ words_next n
    by None (queue, desk) = with_others (others_of b.desk hart) desk ∙ sym (append-nil (words_in (map input_of (offers_at b hart count))))
    by (Some i) (queue, desk) =
        let w : WaitingInput = record { not_before = at + spacing_of d; input = i } in
        with_others (others_of b.desk hart ++ w ∷ []) desk
        ∙ one_more (inputs_of b.inputs hart) count (due_at b.due hart).inputs (others_of b.desk hart) w

-- a hart's queue counts them
hand_counted : (d : Spacing) (n : Option Input) (hart at : ℕ) (old new : QueueView) (b c : RecordingView) →
    ((i : Input) → n ≡ Some i → front old.waiting ≡ Some i) → Hands d n hart at old new b c → new.handed ≡ old.handed + length (words_next n)
hand_counted d None hart at old new b c fronts (queue, desk) = let same = ap (λ (q : QueueView). q.handed) queue in omega (arith, same)
hand_counted d (Some i) hart at old new b c fronts (queue, desk) =
    ap (λ (q : QueueView). q.handed) queue ∙ one_handed old.handed old.waiting i (fronts i refl)

-- as many came as before
hand_stays : (d : Spacing) (n : Option Input) (hart at : ℕ) (old new : QueueView) (b c : RecordingView) → Hands d n hart at old new b c → came new ≡ came old
hand_stays d None hart at old new b c (queue, desk) = ap (λ (q : QueueView). came q) queue
hand_stays d (Some i) hart at old new b c (queue, desk) = ap (λ (q : QueueView). came q) queue ∙ hand_came old.handed old.waiting

there_too : (xs ys : List Hart) (n : ℕ) (h : Hart) → length ys ≡ length xs → slice_get xs n ≡ Some h → (k : Hart) × (slice_get ys n ≡ Some k)
there_too [] ys n h many at = absurd cc
there_too (x ∷ xs) [] n h many at = absurd (omega (arith, many))
there_too (x ∷ xs) (y ∷ ys) zero h many at = (y, refl)
there_too (x ∷ xs) (y ∷ ys) (suc n) h many at = there_too xs ys n h (omega (arith, many)) at

-- inputs went from the queues to the book, of which nothing else is another
abbrev pub Hand : Spacing → BookView RecordingView → BookView RecordingView → List QueueView → List QueueView → Type 0
Hand d b c old new =
    (hart : ℕ) (h : Hart) → slice_get b.machine.harts hart ≡ Some h →
    Hands d (next_of h (queue_at old hart)) hart h.count (queue_at old hart) (queue_at new hart) b.mode c.mode

pub handed_words : (d : Spacing) (b c : BookView RecordingView) (n : Option Input) (hart at : ℕ) (old new : QueueView) →
    c ≡ record b { mode = record b.mode { desk = c.mode.desk } } → Hands d n hart at old new b.mode c.mode → words_of c hart ≡ words_of b hart ++ words_next n
handed_words d b c n hart at old new rest hands =
    ap (λ (x : BookView RecordingView). words_in (map input_of (offers_at c.mode hart (counts_of x.machine hart)))) rest
    ∙ hands_words d n hart at (counts_of b.machine hart) old new b.mode c.mode (ap (λ (x : BookView RecordingView). x.mode) rest) hands

pub hands_handed : (d : Spacing) (b c : BookView RecordingView) (old new : List QueueView) → length b.machine.harts ≡ length b.start.harts →
    c ≡ record b { mode = record b.mode { desk = c.mode.desk } } → Hand d b c old new → AreHandedOn b old → AreHandedOn c new
hands_handed d b c old new many rest hands all = λ hart h at.
    let start : c.start ≡ b.start = ap (λ (x : BookView RecordingView). x.start) rest in
    let there : slice_get b.start.harts hart ≡ Some h = ap (λ (m : MachineState). slice_get m.harts hart) (sym start) ∙ at in
    let (k, now) = there_too b.start.harts b.machine.harts hart h many there in
    let n = next_of k (queue_at old hart) in
    let was = all hart h there in
    let does = hands hart k now in
    let more = handed_words d b c n hart k.count (queue_at old hart) (queue_at new hart) rest does in
    let counted = hand_counted d n hart k.count (queue_at old hart) (queue_at new hart) b.mode c.mode (λ i is. next_front k (queue_at old hart) i is) does in
    let as_many = ap length more ∙ length-append (words_of b hart) (words_next n) in
    record {
      handed = omega (arith, counted, as_many, was.handed);
      limit = omega (arith, hand_stays d n hart k.count (queue_at old hart) (queue_at new hart) b.mode c.mode does, was.limit);
    }

-- the book went on
pub gone_on_words : (b c : BookView RecordingView) → KeepsOffered b c → (hart : ℕ) → words_of c hart ≡ words_of b hart
gone_on_words b c kept hart = kept_words (offers b hart) (offers c hart) (kept hart)

pub gone_on_handed : (b c : BookView RecordingView) (queues : List QueueView) → c.start ≡ b.start → KeepsOffered b c → AreHandedOn b queues → AreHandedOn c queues
gone_on_handed b c queues start kept all = λ hart h at.
    let there : slice_get b.start.harts hart ≡ Some h = ap (λ (m : MachineState). slice_get m.harts hart) (sym start) ∙ at in
    let was = all hart h there in
    record {
      handed = was.handed ∙ ap (λ (ws : List ℕ). h.received.input_sequence + length ws) (sym (gone_on_words b c kept hart));
      limit = was.limit;
    }
