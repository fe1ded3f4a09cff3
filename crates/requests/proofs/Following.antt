-- A queue follows the words of its hart.
use Rattle.std.proofs.Common.{◌≡◌, ◌+◌, ◌<◌, ◌≤◌, ◌⊎◌, ℕ, Bool, true, List, [], ◌∷◌, ◌++◌, length, map, refl, sym, ap, subst, ◌∙◌, inl, inr, false, length-append, arith}
use Rattle.std.proofs.lemmas.List.{length-take-le, length-map, map-append, append-nil}
use Rattle.input_log.specs.declared.Input.{Input}
use Rattle.input_log.specs.declared.Input.TheVariants.{Timer, Word, Bell}
use Rattle.input_log.specs.Inputs.{is_bell}
use Rattle.requests.specs.declared.queue.Came.{Came}
use Rattle.requests.specs.declared.queue.Came.TheVariants.{Taken, Repeat, Ahead, Full, Busy}
use Rattle.requests.specs.Numbered.{Asked, Words, Asks, HandsOn, GoesOnAt, came_of, taken, with_asked, first_handed, after}
use Rattle.std.specs.Prelude.{if◌then◌else◌, nat_lt}
use Rattle.requests.specs.declared.queue.TheConstants.{QUEUE_ROOM}
use Rattle.requests.specs.Queues.{QueueView, words_in, came, comes_of, at_room, with_input, handed_on, AreNoBells, IsQueueOf, after_asked}

pub words_in-append : (inputs more : List Input) → words_in (inputs ++ more) ≡ words_in inputs ++ words_in more
words_in-append [] more = refl
words_in-append (Timer ∷ inputs) more = words_in-append inputs more
words_in-append (Word w ∷ inputs) more = ap (λ (ws : List ℕ). w ∷ ws) (words_in-append inputs more)
words_in-append (Bell hart ∷ inputs) more = words_in-append inputs more

-- a word more, and a timer's interrupt more
pub word_length : (inputs : List Input) (w : ℕ) → length (words_in (inputs ++ Word w ∷ [])) ≡ length (words_in inputs) + 1
word_length inputs w = ap length (words_in-append inputs (Word w ∷ [])) ∙ length-append (words_in inputs) (w ∷ [])

pub timer_length : (inputs : List Input) → length (words_in (inputs ++ Timer ∷ [])) ≡ length (words_in inputs)
timer_length inputs = ap length (words_in-append inputs (Timer ∷ [])) ∙ length-append (words_in inputs) [] ∙ omega arith

-- no bell
pub no_bell_more : (inputs : List Input) (input : Input) → is_bell input ≡ false → AreNoBells inputs → AreNoBells (inputs ++ input ∷ [])
no_bell_more [] input is all = (is, tt)
no_bell_more (first ∷ inputs) input is all = (all.0, no_bell_more inputs input is all.1)

-- one more has room
pub one_within : (inputs : List Input) (input : Input) (waiting : ℕ) → waiting ≡ length inputs → waiting < QUEUE_ROOM →
    length (inputs ++ input ∷ []) ≤ QUEUE_ROOM
one_within inputs input waiting so_many room = omega (arith, so_many, room, length-append inputs (input ∷ []))

-- as many words came as the hart's
came_is : (words : Words) (q : QueueView) → IsQueueOf words q → came q ≡ length (taken words)
came_is words q of = omega (
  arith,
  of.handed,
  ap length of.waiting,
  length-map words.waiting (λ (a : Asked). a.word),
  length-append words.handed words.waiting,
)

-- ---- who goes on

pub begun_followed : (words : Words) (given : ℕ) → given ≤ length words.handed →
    IsQueueOf (after words (GoesOnAt given)) (record { handed = given; waiting = [] })
begun_followed words given le = record { handed = sym (length-take-le given words.handed le); waiting = refl }

-- ---- a word that is asked for

with_followed : (words : Words) (q new : QueueView) (a : Asked) (c : Came) → (c ≡ Taken → new ≡ with_input q (Word a.word)) →
    ((c ≡ Taken → ⊥) → new ≡ q) → IsQueueOf words q → IsQueueOf (with_asked words a c) new
with_followed words q new a Taken put stays of =
    let word : Asked → ℕ = λ asked. asked.word in
    let is : IsQueueOf (with_asked words a Taken) (with_input q (Word a.word)) = record {
      handed = of.handed;
      waiting = words_in-append q.waiting (Word a.word ∷ []) ∙ ap (λ (ws : List ℕ). ws ++ a.word ∷ []) of.waiting
          ∙ sym (map-append word words.waiting (a ∷ []));
    } in
    subst (IsQueueOf (with_asked words a Taken)) (sym (put refl)) is
with_followed words q new a Repeat put stays of = subst (IsQueueOf words) (sym (stays (λ e. cc))) of
with_followed words q new a Ahead put stays of = subst (IsQueueOf words) (sym (stays (λ e. cc))) of
with_followed words q new a Full put stays of = subst (IsQueueOf words) (sym (stays (λ e. cc))) of
with_followed words q new a Busy put stays of = subst (IsQueueOf words) (sym (stays (λ e. cc))) of

-- where there was room, what becomes of a word is what its number says
by_number : (waiting : ℕ) (x c : Came) → c ≡ at_room waiting x → (c ≡ Busy → ⊥) → c ≡ x
by_number waiting Taken c is room = has_room (nat_lt waiting QUEUE_ROOM) is
  where
    has_room : (b : Bool) → c ≡ (if b then Taken else Busy) → c ≡ Taken
    has_room true is = is
    has_room false is = absurd (room is)
by_number waiting Repeat c is room = is
by_number waiting Ahead c is room = is
by_number waiting Full c is room = is
by_number waiting Busy c is room = is

pub asked_followed : (words : Words) (q new : QueueView) (a : Asked) (c : Came) → c ≡ comes_of q a.number →
    (c ≡ Taken → new ≡ with_input q (Word a.word)) → ((c ≡ Taken → ⊥) → new ≡ q) → IsQueueOf words q → IsQueueOf (after_asked words a c) new
asked_followed words q new a c is put stays of = by c is (with_followed words q new a c put stays of)
  where
    at : (c : Came) → c ≡ comes_of q a.number → (c ≡ Busy → ⊥) → IsQueueOf (with_asked words a c) new → IsQueueOf (after words (Asks a)) new
    at c is room of' =
        let numbered : c ≡ came_of (length (taken words)) a.number =
        by_number (length q.waiting) (came_of (came q) a.number) c is room ∙ ap (λ (n : ℕ). came_of n a.number) (came_is words q of) in
        subst (λ (d : Came). IsQueueOf (with_asked words a d) new) numbered of'

    by : (c : Came) → c ≡ comes_of q a.number → IsQueueOf (with_asked words a c) new → IsQueueOf (after_asked words a c) new
    by Busy is followed = followed
    by Taken is followed = at Taken is (λ e. cc) followed
    by Repeat is followed = at Repeat is (λ e. cc) followed
    by Ahead is followed = at Ahead is (λ e. cc) followed
    by Full is followed = at Full is (λ e. cc) followed

-- ---- the timer's interrupt

pub timer_followed : (words : Words) (q : QueueView) → IsQueueOf words q → IsQueueOf words (with_input q Timer)
timer_followed words q of = record {
  handed = of.handed;
  waiting = words_in-append q.waiting (Timer ∷ []) ∙ append-nil (words_in q.waiting) ∙ of.waiting;
}

-- ---- what is handed on

word_handed : (done behind : List Asked) (handed w : ℕ) (inputs : List Input) → handed ≡ length done →
    w ∷ words_in inputs ≡ map (λ asked. asked.word) behind →
    IsQueueOf (first_handed done behind) (record { handed = handed + 1; waiting = inputs })
word_handed done [] handed w inputs e f = absurd cc
word_handed done (a ∷ behind) handed w inputs e f = record { handed = omega (arith, e, length-append done (a ∷ [])); waiting = cc }

pub hand_followed : (words : Words) (handed : ℕ) (waiting : List Input) → IsQueueOf words (record { handed = handed; waiting = waiting }) →
    IsQueueOf words (handed_on handed waiting) ⊎ IsQueueOf (after words HandsOn) (handed_on handed waiting)
hand_followed words handed [] of = inl of
hand_followed words handed (Timer ∷ inputs) of = inl (record { handed = of.handed; waiting = of.waiting })
hand_followed words handed (Word w ∷ inputs) of = inr (word_handed words.handed words.waiting handed w inputs of.handed of.waiting)
hand_followed words handed (Bell hart ∷ inputs) of = inl (record { handed = of.handed; waiting = of.waiting })

-- as many words came as before
pub hand_came : (handed : ℕ) (waiting : List Input) → came (handed_on handed waiting) ≡ handed + length (words_in waiting)
hand_came handed [] = refl
hand_came handed (Timer ∷ inputs) = refl
hand_came handed (Word w ∷ inputs) = omega arith
hand_came handed (Bell hart ∷ inputs) = refl
