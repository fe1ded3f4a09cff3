-- What a primary hears.
use Rattle.std.proofs.Common.{◌≡◌, ◌≤◌, List, Result, Ok, Err, IfOk, OnOk, OnErr, refl, sym, ap, subst, ◌∙◌}
use Rattle.input_log.specs.declared.Input.{Input}
use Rattle.requests.specs.Queues.{QueueView, with_input}
use Rattle.requests.specs.declared.queue.Came.{Came}
use Rattle.requests.specs.declared.queue.Came.TheVariants.{Taken, Repeat, Ahead, Full, Busy}
use Rattle.leading.specs.Hearing.{LetsGo, LetsNothingGo, put_as}
use Rattle.leading.specs.Leaders.{LeaderView}

-- ---- words

-- the queue is what this became of an input makes of it
pub put_is : {E : Type 0} (old new : QueueView) (input : Input) (r : Result Came E) → (r ≡ Ok Taken → new ≡ with_input old input) →
    ((r ≡ Ok Taken → ⊥) → new ≡ old) → IfOk r (λ came. new ≡ put_as old input came)
put_is old new input (Err e) taken stays = tt
put_is old new input (Ok Taken) taken stays = taken refl
put_is old new input (Ok Repeat) taken stays = stays (λ no. absurd cc)
put_is old new input (Ok Ahead) taken stays = stays (λ no. absurd cc)
put_is old new input (Ok Full) taken stays = stays (λ no. absurd cc)
put_is old new input (Ok Busy) taken stays = stays (λ no. absurd cc)

-- no word is handed on by that
pub put_keeps : {E : Type 0} (old new : QueueView) (input : Input) (r : Result Came E) → (r ≡ Ok Taken → new ≡ with_input old input) →
    ((r ≡ Ok Taken → ⊥) → new ≡ old) → new.handed ≡ old.handed
put_keeps old new input (Err e) taken stays = ap (λ (q : QueueView). q.handed) (stays (λ no. absurd cc))
put_keeps old new input (Ok Taken) taken stays = ap (λ (q : QueueView). q.handed) (taken refl)
put_keeps old new input (Ok Repeat) taken stays = ap (λ (q : QueueView). q.handed) (stays (λ no. absurd cc))
put_keeps old new input (Ok Ahead) taken stays = ap (λ (q : QueueView). q.handed) (stays (λ no. absurd cc))
put_keeps old new input (Ok Full) taken stays = ap (λ (q : QueueView). q.handed) (stays (λ no. absurd cc))
put_keeps old new input (Ok Busy) taken stays = ap (λ (q : QueueView). q.handed) (stays (λ no. absurd cc))

-- ---- acknowledgements

-- what a release does once an acknowledgement was noted
pub goes_from : {U E : Type 0} (old noted new : LeaderView) (r : Result U E) → noted ≡ record old { gate = noted.gate } →
    OnOk r (LetsGo noted noted.gate new) → OnOk r (LetsGo old noted.gate new)
goes_from old noted new (Err e) same goes = tt
goes_from old noted new (Ok u) same goes =
    let x = subst (λ (v : LeaderView). LetsGo v noted.gate new) same goes in record { lets = x.lets; out = x.out; notes = x.notes }

pub stays_from : {U E : Type 0} (old noted new : LeaderView) (r : Result U E) → noted ≡ record old { gate = noted.gate } →
    OnErr r (LetsNothingGo noted noted.gate new) → OnErr r (LetsNothingGo old noted.gate new)
stays_from old noted new (Ok u) same stays = tt
stays_from old noted new (Err e) same stays =
    let x = subst (λ (v : LeaderView). LetsNothingGo v noted.gate new) same stays in
    record { gate = x.gate; offered = x.offered; room = x.room; book = x.book; released = x.released }

pub rest_from : (old noted new : LeaderView) → noted ≡ record old { gate = noted.gate } →
    new ≡ record noted { primary = record noted.primary { book = new.primary.book }; gate = new.gate; released = new.released } →
    new ≡ record old { primary = record old.primary { book = new.primary.book }; gate = new.gate; released = new.released }
rest_from old noted new same rest =
    rest
    ∙ ap (λ (v : LeaderView). let x : LeaderView = record v { primary = record v.primary { book = new.primary.book }; gate = new.gate; released = new.released } in x)
    same

-- the fact of one that was noted, where it is known of an outcome
pub with_noted_ok : {U E : Type 0} {A : Type 0} (N P : A → Type 0) (r : Result U E) (g : A) → N g → OnOk r (P g) → OnOk r ((x : A) × N x × P x)
with_noted_ok N P (Ok u) g notes it = (g, notes, it)
with_noted_ok N P (Err e) g notes it = tt

pub with_noted_err : {U E : Type 0} {A : Type 0} (N P : A → Type 0) (r : Result U E) (g : A) → N g → OnErr r (P g) → OnErr r ((x : A) × N x × P x)
with_noted_err N P (Ok u) g notes it = tt
with_noted_err N P (Err e) g notes it = (g, notes, it)
