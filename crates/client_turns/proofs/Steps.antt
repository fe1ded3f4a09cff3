-- A client's talk that is led on: what was done so far, and what is still to come.
use Rattle.std.proofs.Common.{◌≡◌, ◌+◌, ◌<◌, ℕ, zero, suc, List, [], ◌∷◌, ◌++◌, Option, None, Some, length, get_or, drop, refl, sym, ap, subst, ◌∙◌, append_assoc, append-nil, arith}
use Rattle.std.proofs.lemmas.List.{drop_more}
use Rattle.wire.specs.declared.requests.Request.{Request}
use Rattle.asking.specs.Talks.{TalkView}
use Rattle.asking.specs.declared.talk.Told.{Told as Answered}
use Rattle.requests.specs.Asking.{had, next_of}
use Rattle.client_turns.specs.Turns.{Tells, ToldAll, Told, Asks, AskedAll, Asked, TakesLine, SaidFull, SaidOther, Said, TakesLines, TookOne, TookLast, TookAll, GoesOn, Hears, anew, has_read, one_sent}
use Rattle.client_turns.specs.declared.deeds.ClientDeed.{ClientDeed}
use Rattle.client_turns.specs.declared.deeds.ClientDeed.TheVariants.{Ask, Print}
use Rattle.client_turns.specs.declared.deeds.ClientEnd.{ClientEnd}
use Rattle.client_turns.specs.declared.deeds.ClientEnd.TheVariants.{Full, Contradiction as Contradicted}
use Rattle.requests.specs.declared.asker.Heard.{Heard}
use Rattle.requests.specs.declared.asker.Heard.TheVariants.{New, Contradiction}
use Rattle.wire.specs.Requests.{SaysFull}
use Rattle.ft_types.specs.declared.names.TheConstants.{HART_LIMIT}

-- what is added behind what was added
pub added_behind : (before items behind done more : List ClientDeed) → items ≡ before ++ done → behind ≡ items ++ more → behind ≡ before ++ (done ++ more)
added_behind before items behind done more was is = is ∙ ap (λ (ds : List ClientDeed). ds ++ more) was ∙ append_assoc before done more

-- ---- telling

-- these deeds were done on the way from one talk to another, and whatever is told from there on is told behind them
pub record HasTold (start now : TalkView) (before items : List ClientDeed) : Type 0 where
  pub done : List ClientDeed
  pub added : items ≡ before ++ done
  pub on : (u : TalkView) (more : List ClientDeed) → Tells now u more → Tells start u (done ++ more)

pub told_none : (t : TalkView) (items : List ClientDeed) → HasTold t t items items
told_none t items = record { done = []; added = sym (append-nil items); on = λ u more tells. tells }

told_first : (t u : TalkView) (told : Answered) (more : List ClientDeed) → told.number ≡ t.told → had t.asker t.told ≡ Some told.word →
    Tells (record t { told = t.told + 1 }) u more → Tells t u (Print told ∷ more)
told_first t u told more number is tells =
    subst (λ (n : ℕ). Tells t u (Print (record { number = n; word = told.word }) ∷ more)) (sym number) (Told t u told.word more is tells)

pub told_one : (start t new : TalkView) (before items behind : List ClientDeed) (told : Answered) → HasTold start t before items →
    told.number ≡ t.told → had t.asker t.told ≡ Some told.word → new ≡ record t { told = t.told + 1 } → behind ≡ items ++ Print told ∷ [] →
    HasTold start new before behind
told_one start t new before items behind told was number is next added = record {
  done = was.done ++ Print told ∷ [];
  added = added_behind before items behind was.done (Print told ∷ []) was.added added;
  on = λ u more tells. subst (λ (ds : List ClientDeed). Tells start u ds) (sym (append_assoc was.done (Print told ∷ []) more))
      (was.on u (Print told ∷ more) (told_first t u told more number is (subst (λ (v : TalkView). Tells v u more) next tells)));
}

pub told_all : (start t new : TalkView) (before items : List ClientDeed) → HasTold start t before items → had t.asker t.told ≡ None → new ≡ t →
    (done : List ClientDeed) × Tells start new done × (items ≡ before ++ done)
told_all start t new before items was none same = (
  was.done ++ [],
  was.on new [] (subst (λ (v : TalkView). Tells t v []) (sym same) (ToldAll t none)),
  was.added ∙ ap (λ (ds : List ClientDeed). before ++ ds) (sym (append-nil was.done)),
)

-- an answer that is there is that of a word
pub there : (answers : List (Option ℕ)) (number word : ℕ) → get_or answers number None ≡ Some word → number < length answers
there [] number word is = absurd cc
there (answer ∷ answers) zero word is = omega arith
there (answer ∷ answers) (suc number) word is = omega (arith, there answers number word is)

-- ---- asking

pub record HasAsked (start now : TalkView) (before items : List ClientDeed) : Type 0 where
  pub done : List ClientDeed
  pub added : items ≡ before ++ done
  pub on : (u : TalkView) (more : List ClientDeed) → Asks now u more → Asks start u (done ++ more)

pub asked_none : (t : TalkView) (items : List ClientDeed) → HasAsked t t items items
asked_none t items = record { done = []; added = sym (append-nil items); on = λ u more asks. asks }

asked_first : (start t u : TalkView) (request : Request) (done more : List ClientDeed) → next_of t.asker ≡ Some request →
    ((v : TalkView) (ds : List ClientDeed) → Asks t v ds → Asks start v (done ++ ds)) → Asks (one_sent t) u more →
    Asks start u ((done ++ (has_read t ++ Ask request ∷ [])) ++ more)
asked_first start t u request done more is on asks =
    subst (λ (ds : List ClientDeed). Asks start u ds)
    (ap (λ (ds : List ClientDeed). done ++ ds) (sym (append_assoc (has_read t) (Ask request ∷ []) more))
    ∙ sym (append_assoc done (has_read t ++ Ask request ∷ []) more))
    (on u (has_read t ++ Ask request ∷ more) (Asked t u request more is asks))

pub asked_one : (start t new : TalkView) (before items behind : List ClientDeed) (request : Request) → HasAsked start t before items →
    next_of t.asker ≡ Some request → new ≡ one_sent t → behind ≡ items ++ (has_read t ++ Ask request ∷ []) → HasAsked start new before behind
asked_one start t new before items behind request was is next added = record {
  done = was.done ++ (has_read t ++ Ask request ∷ []);
  added = added_behind before items behind was.done (has_read t ++ Ask request ∷ []) was.added added;
  on = λ u more asks. asked_first start t u request was.done more is was.on (subst (λ (v : TalkView). Asks v u more) next asks);
}

pub asked_all : (start t new : TalkView) (before items : List ClientDeed) → HasAsked start t before items → next_of t.asker ≡ None → new ≡ t →
    (done : List ClientDeed) × Asks start new done × (items ≡ before ++ done)
asked_all start t new before items was none same = (
  was.done ++ [],
  was.on new [] (subst (λ (v : TalkView). Asks t v []) (sym same) (AskedAll t none)),
  was.added ∙ ap (λ (ds : List ClientDeed). before ++ ds) (sym (append-nil was.done)),
)

-- ---- lines

-- these lines are still to come
pub record HasTaken (start now : TalkView) (before items : List ClientDeed) (lines rest : List (List ℕ)) : Type 0 where
  pub done : List ClientDeed
  pub added : items ≡ before ++ done
  pub on : (u : TalkView) (more : List ClientDeed) (end : Option ClientEnd) → TakesLines rest now u more end → TakesLines lines start u (done ++ more) end

pub taken_none : (t : TalkView) (items : List ClientDeed) (lines : List (List ℕ)) → HasTaken t t items items lines lines
taken_none t items lines = record { done = []; added = sym (append-nil items); on = λ u more end takes. takes }

pub taken_one : (start t new : TalkView) (before items behind deeds : List ClientDeed) (lines rest : List (List ℕ)) (text : List ℕ) →
    HasTaken start t before items lines (text ∷ rest) → TakesLine text t new deeds None → behind ≡ items ++ deeds →
    HasTaken start new before behind lines rest
taken_one start t new before items behind deeds lines rest text was takes added = record {
  done = was.done ++ deeds;
  added = added_behind before items behind was.done deeds was.added added;
  on = λ u more end others. subst (λ (ds : List ClientDeed). TakesLines lines start u ds end) (sym (append_assoc was.done deeds more))
      (was.on u (deeds ++ more) end (TookOne text rest t new u deeds more end takes others));
}

-- the last line that is taken
pub taken_last : (start t new : TalkView) (before items behind deeds : List ClientDeed) (lines rest : List (List ℕ)) (text : List ℕ) (end : ClientEnd) →
    HasTaken start t before items lines (text ∷ rest) → TakesLine text t new deeds (Some end) → behind ≡ items ++ deeds →
    (done : List ClientDeed) × TakesLines lines start new done (Some end) × (behind ≡ before ++ done)
taken_last start t new before items behind deeds lines rest text end was takes added = (
  was.done ++ deeds,
  was.on new deeds (Some end) (TookLast text rest t new deeds end takes),
  added_behind before items behind was.done deeds was.added added,
)

pub taken_all : (start t : TalkView) (before items : List ClientDeed) (lines : List (List ℕ)) → HasTaken start t before items lines [] →
    (done : List ClientDeed) × TakesLines lines start t done None × (items ≡ before ++ done)
taken_all start t before items lines was = (
  was.done ++ [],
  was.on t [] None (TookAll t),
  was.added ∙ ap (λ (ds : List ClientDeed). before ++ ds) (sym (append-nil was.done)),
)

-- this line is the next one
pub next_line : (lines : List (List ℕ)) (i : ℕ) (text line : List ℕ) → i < length lines → line ≡ get_or lines i line → text ≡ line →
    drop i lines ≡ text ∷ drop (i + 1) lines
next_line lines i text line less is same = drop_more lines i line less ∙ ap (λ (x : List ℕ). x ∷ drop (i + 1) lines) (sym (same ∙ is))

-- none was sent
pub unsent : (t : TalkView) → record t { asker = record t.asker { sent = t.asker.sent + 0 } } ≡ t
unsent t = ap (λ (n : ℕ). let v : TalkView = record t { asker = record t.asker { sent = n } } in v) (omega arith)

-- ---- a line

contradicts : (t new : TalkView) (text : List ℕ) (what : Heard) → (SaysFull HART_LIMIT text 0 → ⊥) → Hears t text what new → what ≡ Contradiction →
    TakesLine text t new [] (Some Contradicted)
contradicts t new text what other hears is =
    let same : new ≡ t = hears.stays (λ e. let no : Contradiction ≡ New = sym is ∙ e in absurd cc) in
    subst (λ (v : TalkView). TakesLine text t v [] (Some Contradicted)) (sym same)
    (SaidOther t other (subst (λ (v : TalkView). Hears t text Contradiction v) same (subst (λ (w : Heard). Hears t text w new) is hears)))

pub said_other : (t new : TalkView) (text : List ℕ) (before behind : List ClientDeed) (what : Heard) → (SaysFull HART_LIMIT text 0 → ⊥) →
    Hears t text what new → behind ≡ before ++ anew what → what ≡ Contradiction →
    (done : List ClientDeed) × TakesLine text t new done (Some Contradicted) × (behind ≡ before ++ done)
said_other t new text before behind what other hears added is = (
  [],
  contradicts t new text what other hears is,
  added ∙ ap (λ (w : Heard). before ++ anew w) is,
)

-- the client goes on behind a line that does not end it
pub said_line : (t heard new : TalkView) (text : List ℕ) (before middle behind : List ClientDeed) (what : Heard) → (SaysFull HART_LIMIT text 0 → ⊥) →
    Hears t text what heard → middle ≡ before ++ anew what → (what ≡ Contradiction → ⊥) →
    (done : List ClientDeed) × GoesOn heard new done × (behind ≡ middle ++ done) →
    (done : List ClientDeed) × TakesLine text t new done None × (behind ≡ before ++ done)
said_line t heard new text before middle behind what other hears added clean goes = (
  anew what ++ goes.0,
  Said t heard new what goes.0 other hears clean goes.1,
  added_behind before middle behind (anew what) goes.0 added goes.2,
)

pub full_said : (t : TalkView) (text : List ℕ) (items : List ClientDeed) → SaysFull HART_LIMIT text 0 →
    (done : List ClientDeed) × TakesLine text t t done (Some Full) × (items ≡ items ++ done)
full_said t text items full = ([], SaidFull t full, sym (append-nil items))
