-- What a client does with what came, in the words of its talk's calls.
use Rattle.std.specs.Prelude.{◌≡◌, ◌≢◌, ◌+◌, ◌-◌, ◌==◌, ◌&&◌, ℕ, Bool, List, [], ◌∷◌, ◌++◌, Option, None, Some, if◌then◌else◌, nat_lt, length, map}
use Rattle.ft_types.specs.declared.names.TheConstants.{HART_LIMIT}
use Rattle.wire.specs.Answers.{SaysAnswer}
use Rattle.wire.specs.Requests.{SaysFull}
use Rattle.wire.specs.declared.answers.Answer.{Answer}
use Rattle.wire.specs.declared.requests.Request.{Request}
use Rattle.wire.specs.declared.requests.Request.TheVariants.{From}
use Rattle.requests.specs.Asking.{had, heard, first_open, with_answer, next_of, asked_again}
use Rattle.requests.specs.declared.asker.Heard.{Heard}
use Rattle.requests.specs.declared.asker.Heard.TheVariants.{New, Contradiction, Foreign}
use Rattle.asking.specs.Talks.{TalkView}
use Rattle.client_turns.specs.declared.deeds.ClientCame.{ClientCame}
use Rattle.client_turns.specs.declared.deeds.ClientCame.TheVariants.{Begin, Lines, Ended, Late}
use Rattle.client_turns.specs.declared.deeds.ClientDeed.{ClientDeed}
use Rattle.client_turns.specs.declared.deeds.ClientDeed.TheVariants.{Ask, Print, BePatient, End}
use Rattle.client_turns.specs.declared.deeds.ClientEnd.{ClientEnd}
use Rattle.client_turns.specs.declared.deeds.ClientEnd.TheVariants.{Done, Contradiction as Contradicted, Full, Unanswered}

pub record ClientView : Type 0 where
  pub talk : TalkView
  pub inputs : ℕ  -- how many inputs are not at their end

-- ---- what the talk gives

-- `tell` is called until it gives nothing: each answer that it gave is printed
pub data Tells : TalkView → TalkView → List ClientDeed → Type 0 where
  ToldAll : (t : TalkView) → had t.asker t.told ≡ None → Tells t t []
  Told : (t u : TalkView) (word : ℕ) (deeds : List ClientDeed) → had t.asker t.told ≡ Some word → Tells (record t { told = t.told + 1 }) u deeds →
      Tells t u (Print (record { number = t.told; word = word }) ∷ deeds)

-- something was told, and all that was asked for
abbrev pub has_told_all : TalkView → Bool
has_told_all t = nat_lt 0 t.told && (t.asker.sent == t.told)

-- that is said before the next word is asked for, and nothing where a word is open
abbrev pub has_read : TalkView → List ClientDeed
has_read t = if has_told_all t then Ask (From t.asker.hart t.told) ∷ [] else []

abbrev pub one_sent : TalkView → TalkView
one_sent t = record t { asker = record t.asker { sent = t.asker.sent + 1 } }

-- `ask` is called until it gives nothing: each request that it gave is made
pub data Asks : TalkView → TalkView → List ClientDeed → Type 0 where
  AskedAll : (t : TalkView) → next_of t.asker ≡ None → Asks t t []
  Asked : (t u : TalkView) (request : Request) (deeds : List ClientDeed) → next_of t.asker ≡ Some request → Asks (one_sent t) u deeds →
      Asks t u (has_read t ++ Ask request ∷ deeds)

-- the answers that are there are printed, and then as many words are asked for as may be open
pub record GoesOn (old new : TalkView) (deeds : List ClientDeed) : Type 0 where
  pub told : TalkView
  pub printed : List ClientDeed
  pub asked : List ClientDeed
  pub tells : Tells old told printed
  pub asks : Asks told new asked
  pub parts : deeds ≡ printed ++ asked

-- ---- lines that came

-- what `hear` answers of a line's text, and leaves
pub record Hears (old : TalkView) (text : List ℕ) (what : Heard) (new : TalkView) : Type 0 where
  pub answer : (a : Answer) → SaysAnswer HART_LIMIT text a → what ≡ heard old.asker a.output
  pub new_one : (a : Answer) → SaysAnswer HART_LIMIT text a → what ≡ New → new ≡ record old { asker = with_answer old.asker a.output }
  pub other : ((a : Answer) → SaysAnswer HART_LIMIT text a → ⊥) → what ≡ Foreign
  pub stays : (what ≡ New → ⊥) → new ≡ old

-- patience begins anew where an answer is new
abbrev pub anew : Heard → List ClientDeed
anew New = BePatient ∷ []
anew other = []

-- a line is taken, and the client goes on behind it, unless that ends it: the line says that its hart is full, or contradicts what was heard
pub data TakesLine (text : List ℕ) : TalkView → TalkView → List ClientDeed → Option ClientEnd → Type 0 where
  SaidFull : (t : TalkView) → SaysFull HART_LIMIT text 0 → TakesLine text t t [] (Some Full)
  SaidOther : (t : TalkView) → (SaysFull HART_LIMIT text 0 → ⊥) → Hears t text Contradiction t → TakesLine text t t [] (Some Contradicted)
  Said : (t heard u : TalkView) (what : Heard) (deeds : List ClientDeed) → (SaysFull HART_LIMIT text 0 → ⊥) → Hears t text what heard →
      what ≢ Contradiction → GoesOn heard u deeds → TakesLine text t u (anew what ++ deeds) None

-- lines are taken one behind the other, up to one that ends the client
pub data TakesLines : List (List ℕ) → TalkView → TalkView → List ClientDeed → Option ClientEnd → Type 0 where
  TookAll : (t : TalkView) → TakesLines [] t t [] None
  TookLast : (text : List ℕ) (lines : List (List ℕ)) (t u : TalkView) (deeds : List ClientDeed) (end : ClientEnd) →
      TakesLine text t u deeds (Some end) → TakesLines (text ∷ lines) t u deeds (Some end)
  TookOne : (text : List ℕ) (lines : List (List ℕ)) (t between u : TalkView) (deeds more : List ClientDeed) (end : Option ClientEnd) →
      TakesLine text t between deeds None → TakesLines lines between u more end → TakesLines (text ∷ lines) t u (deeds ++ more) end

-- ---- a turn

-- what came is taken, which may end the client
abbrev pub Takes : ClientCame → ClientView → ClientView → List ClientDeed → Option ClientEnd → Type 0
Takes Begin old new deeds end = GoesOn old.talk new.talk deeds × (new.inputs ≡ old.inputs) × (end ≡ None)
Takes (Lines lines) old new deeds end = TakesLines lines.items old.talk new.talk deeds end × (new.inputs ≡ old.inputs)
Takes Ended old new deeds end = (new ≡ record old { inputs = old.inputs - 1 }) × (deeds ≡ []) × (end ≡ None)
Takes Late old new deeds end = (new ≡ old) × (deeds ≡ map Ask (asked_again old.talk.asker) ++ BePatient ∷ []) × (end ≡ None)

-- a client is done where each word has its answer; where nothing more can come the next answer is missing
abbrev pub end_of : ClientView → Option ClientEnd
end_of c =
    if first_open c.talk.asker.answers == length c.talk.asker.words then Some Done
    else (if c.inputs == 0 then Some (Unanswered c.talk.told) else None)

-- what ends the client is its last deed
abbrev pub ending : Option ClientEnd → List ClientDeed
ending None = []
ending (Some end) = End end ∷ []

-- the client ends as what came ended it, or else as it stands then
abbrev pub end_behind : Option ClientEnd → ClientView → Option ClientEnd
end_behind (Some end) c = Some end
end_behind None c = end_of c

-- what came is taken, and the client ends where it is to
pub record Turns (came : ClientCame) (old new : ClientView) (deeds : List ClientDeed) : Type 0 where
  pub done : List ClientDeed
  pub end : Option ClientEnd
  pub takes : Takes came old new done end
  pub parts : deeds ≡ done ++ ending (end_behind end new)
