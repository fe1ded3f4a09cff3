-- What primaries do may happen in a world of processes.
use Rattle.std.proofs.Common.{◌≡◌, ◌++◌, ◌<◌, ◌≤◌, ℕ, List, [], ◌∷◌, Contains, slice_index_or, length, slice_get, slice_set, Some, Vec, Global, Result, Ok, Err, IfErr}
use Rattle.std.proofs.Common.{length-set, set-set, refl, sym, ap, subst, ◌∙◌, arith, append-nil}
use Rattle.std.specs.Prelude.{IsErrAnd}
use Rattle.std.proofs.lemmas.List.{set-get_or}
use Rattle.std.proofs.lemmas.Option.{slice_get_within, slice_get-get_or, get_or_from_slice_get}
use Rattle.fragment_codec.specs.declared.frame.Frame.{Frame}
use Rattle.log_pieces.specs.Pieces.{IsCut, book_log}
use Rattle.primary.specs.declared.released.Released.{Released}
use Rattle.leading.specs.Hearing.{Hears, LetsGo, LetsNothingGo, WithNoted}
use Rattle.leading.specs.Leaders.{LeaderView}
use Rattle.leading.specs.declared.heard.Heard.{Heard}
use Rattle.leading.specs.declared.heard.Heard.TheVariants as on
use Rattle.leading.specs.declared.inputs.Spacing.{Spacing}
use Rattle.wire.specs.declared.acknowledgements.Acknowledgement.{Acknowledgement}
use Rattle.wire.specs.declared.answers.Answer.{Answer}
use Rattle.wire.specs.declared.requests.Request.{Request}
use Rattle.wire.specs.declared.requests.Request.TheVariants.{Timer, Word, From}
use Rattle.process_world.specs.Worlds.{led_as}
use Rattle.process_world.specs.Happenings.{LeadsRound, Ends, Seals, HearsSaid, LacksMemory, HearsRequest, Tells, IsRoundOf, OnlyHears}
use Rattle.process_world.specs.Happenings.{led_by, ended, told_of, answer_of}
use Rattle.live_world.specs.declared.event.PrimaryEvent.TheVariants as event
use Rattle.live_world.specs.declared.fault.EventFault.{EventFault}
use Rattle.live_world.specs.declared.fault.EventFault.TheVariants.{Memory as NoMemory}
use Rattle.live_world.specs.declared.seat.Seat.{Seat}
use Rattle.live_world.specs.declared.seat.Seat.TheVariants.{Runs, Ended}
use Rattle.live_world.specs.Happenings.{AtSeat, HearsAsked, HearsSaidAt, SealsLog, TellsAt, EndsAt}
use Rattle.live_world.specs.Refusals.{PrimaryLeaves}
use Rattle.live_world.specs.Seats.{RunsNot}
use Rattle.live_world.specs.Views.{LiveView, GoesTo}
use Rattle.live_world.proofs.Following.{once, goes_nowhere}
use Rattle.live_world.proofs.Growing.{leads, contained, both_more, sent_more, led_on, seat_on}

-- ---- seats

-- with these seats, frames and answers
abbrev pub with_led : LiveView → List Seat → LiveView
with_led v led = record v { led = led }

abbrev pub with_sent : LiveView → List Frame → List Seat → LiveView
with_sent v frames led = record v { led = led; frames = frames }

abbrev pub with_told : LiveView → List Answer → List Seat → LiveView
with_told v told led = record v { led = led; told = told }

-- what is read at a place stands there
pub at_index : {A : Type 0} (xs : List A) (n : ℕ) (x : A) → n < length xs → x ≡ slice_index_or xs n x → slice_get xs n ≡ Some x
at_index xs n x less is = slice_get-get_or xs n x less ∙ ap Some (sym is)

-- the one fault that a growth which is refused becomes
pub lacks : {T : Type 0} (r : Result T EventFault) (P : EventFault → Type 0) → IsErrAnd r (λ e. e ≡ NoMemory) → P NoMemory → IfErr r P
lacks (Ok x) P has is = tt
lacks (Err e) P has is = subst P (sym has) is

-- no primary runs where there is no seat, or where its process is gone
pub none_there : (led : List Seat) (n : ℕ) → length led ≤ n → RunsNot led n
none_there led n past l there = let within = slice_get_within led n (Runs l) there in absurd (omega (arith, past, within))

pub is_gone : (led : List Seat) (n : ℕ) (s : Seat) (term : ℕ) → slice_get led n ≡ Some s → s ≡ Ended term → RunsNot led n
is_gone led n s term there gone l runs = let same : Some (Ended term) ≡ Some (Runs l) = sym (there ∙ ap Some gone) ∙ runs in absurd cc

-- the primary was taken from its seat, and another is put there
pub put_back : (led out now : List Seat) (n : ℕ) (s t : Seat) → out ≡ slice_set led n s → now ≡ slice_set out n t → now ≡ slice_set led n t
put_back led out now n s t taken put = put ∙ ap (λ (l : List Seat). slice_set l n t) taken ∙ set-set led n s t

-- the same one is put back
pub put_same : (led out now : List Seat) (n : ℕ) (s t : Seat) → slice_get led n ≡ Some t → out ≡ slice_set led n s → now ≡ slice_set out n t → now ≡ led
put_same led out now n s t there taken put =
    put_back led out now n s t taken put ∙ ap (slice_set led n) (sym (get_or_from_slice_get led n t t there)) ∙ set-get_or led n t

-- so it is where the one that is put back is as it was
pub as_it_was : (v : LiveView) (n : ℕ) (old new : LeaderView) (out now : List Seat) →
    (slice_get v.led n ≡ Some (Runs old)) × (out ≡ slice_set v.led n (Ended old.primary.opening.term)) → now ≡ slice_set out n (Runs new) → new ≡ old →
    now ≡ v.led
as_it_was v n old new out now taken put same =
    put_same v.led out now n (Ended old.primary.opening.term) (Runs old) taken.0 taken.1 (put ∙ ap (λ (l : LeaderView). slice_set out n (Runs l)) same)

-- its seat is there still
pub seat_there : (led out : List Seat) (n : ℕ) (s t : Seat) → slice_get led n ≡ Some t → out ≡ slice_set led n s → n < length out
seat_there led out n s t there taken =
    subst (λ many. n < many) (sym (ap (λ (l : List Seat). length l) taken ∙ length-set led n s)) (slice_get_within led n t there)

-- the primary was taken from its seat, did this, and is put back
pub at_seat : (v : LiveView) (n : ℕ) (Deed : LeaderView → LeaderView → Type 0) (u : LiveView) (old new : LeaderView) (out : List Seat) →
    (slice_get v.led n ≡ Some (Runs old)) × (out ≡ slice_set v.led n (Ended old.primary.opening.term)) → u.led ≡ slice_set out n (Runs new) → Deed old new →
    AtSeat v n Deed u
at_seat v n Deed u old new out taken put deed =
    record {
      before = old;
      there = taken.0;
      after = new;
      deed = deed;
      led = put_back v.led out u.led n (Ended old.primary.opening.term) (Runs new) taken.1 put;
    }

-- ---- what happened

-- its log is cut so
abbrev pub CutsLog : List Frame → LeaderView → LeaderView → Type 0
CutsLog frames old new =
    IsCut (book_log old.primary.opening.guest old.primary.opening.term old.primary.book) old.primary.opening.guest.harts old.primary.sealed frames
    new.primary.sealed × (new ≡ record old { primary = record old.primary { sealed = new.primary.sealed } })

-- its log was cut, and that is sent
pub cut_at : (v : LiveView) (n : ℕ) (frames all : List Frame) (old new : LeaderView) (out now : List Seat) →
    (slice_get v.led n ≡ Some (Runs old)) × (out ≡ slice_set v.led n (Ended old.primary.opening.term)) → now ≡ slice_set out n (Runs new) →
    CutsLog frames old new → all ≡ v.frames ++ frames → SealsLog v n (with_sent v all now)
cut_at v n frames all old new out now taken put cuts more =
    record {
      frames = frames;
      seals = at_seat v n (CutsLog frames) (with_sent v all now) old new out taken put cuts;
      rest = ap (λ (all : List Frame). with_sent v all now) more;
    }

-- what was cut is lost
pub uncut_at : (v : LiveView) (n : ℕ) (all : List Frame) (old new : LeaderView) (out now : List Seat) →
    (slice_get v.led n ≡ Some (Runs old)) × (out ≡ slice_set v.led n (Ended old.primary.opening.term)) → now ≡ slice_set out n (Runs new) →
    new ≡ record old { primary = record old.primary { sealed = new.primary.sealed } } → all ≡ v.frames →
    PrimaryLeaves v (event.Seal n) NoMemory (with_sent v all now)
uncut_at v n all old new out now taken put rest same = (
  at_seat v n (λ old new. new ≡ record old { primary = record old.primary { sealed = new.primary.sealed } }) (with_sent v all now) old new out taken put
      rest,
  ap (λ (all : List Frame). with_sent v all now) same,
)

-- it heard what a keeper said
pub heard_at : (v : LiveView) (n said : ℕ) (a : Acknowledgement) (old new : LeaderView) (out now : List Seat) → slice_get v.said said ≡ Some a →
    (slice_get v.led n ≡ Some (Runs old)) × (out ≡ slice_set v.led n (Ended old.primary.opening.term)) → now ≡ slice_set out n (Runs new) →
    WithNoted old a (λ noted. LetsGo old noted new) → OnlyHears old new → HearsSaidAt v n said (with_led v now)
heard_at v n said a old new out now there taken put lets only =
    record {
      acknowledgement = a;
      there = there;
      hears = at_seat v n (λ old new. WithNoted old a (λ noted. LetsGo old noted new) × OnlyHears old new) (with_led v now) old new out taken put (lets, only);
      rest = refl;
    }

-- it heard that, and lacked memory
pub lacked_at : (v : LiveView) (n said : ℕ) (a : Acknowledgement) (old new : LeaderView) (out now : List Seat) → slice_get v.said said ≡ Some a →
    (slice_get v.led n ≡ Some (Runs old)) × (out ≡ slice_set v.led n (Ended old.primary.opening.term)) → now ≡ slice_set out n (Runs new) →
    WithNoted old a (λ noted. LetsNothingGo old noted new) → OnlyHears old new → PrimaryLeaves v (event.Hear n said) NoMemory (with_led v now)
lacked_at v n said a old new out now there taken put lets only = (
  a,
  there,
  at_seat v n (λ old new. WithNoted old a (λ noted. LetsNothingGo old noted new) × OnlyHears old new) (with_led v now) old new out taken put (lets, only),
  refl,
)

-- it heard what was asked for, and what is told of that is told
pub asked_at : (v : LiveView) (n asked : ℕ) (request : Request) (what : Heard) (old new : LeaderView) (out now : List Seat) (told : List Answer) →
    slice_get v.asked asked ≡ Some request →
    (slice_get v.led n ≡ Some (Runs old)) × (out ≡ slice_set v.led n (Ended old.primary.opening.term)) → now ≡ slice_set out n (Runs new) →
    Hears old request new what → told ≡ v.told ++ told_of what → HearsAsked v n asked (with_told v told now)
asked_at v n asked request what old new out now told there taken put hears more =
    record {
      request = request;
      there = there;
      what = what;
      hears = at_seat v n (λ old new. Hears old request new what) (with_told v told now) old new out taken put hears;
      rest = ap (λ (told : List Answer). with_told v told now) more;
    }

-- an output that went out is told
pub told_at : (v : LiveView) (n number : ℕ) (s : Seat) (l : LeaderView) (out : List Released) (r : Released) (term : ℕ) (room told : List Answer) →
    slice_get v.led n ≡ Some s → s ≡ Runs l → out ≡ l.released → slice_get out number ≡ Some r → term ≡ l.primary.opening.term → room ≡ v.told →
    told ≡ room ++ record { term = term; output = r.output } ∷ [] → TellsAt v n number (with_told v told v.led)
told_at v n number s l out r term room told there runs all at own same more =
    record {
      leader = l;
      there = there ∙ ap Some runs;
      released = r;
      out = subst (λ (all : List Released). slice_get all number ≡ Some r) all at;
      rest = ap (λ (told : List Answer). with_told v told v.led)
          (more
          ∙ ap (λ (told : List Answer). told ++ record { term = term; output = r.output } ∷ []) same
          ∙ ap (λ term. v.told ++ record { term = term; output = r.output } ∷ []) own);
    }

-- ---- what may happen

-- it may where it leads to the same
goes_as : (v u t : LiveView) → u ≡ t → GoesTo v t → GoesTo v u
goes_as v u t same goes = subst (λ (l : LiveView). GoesTo v l) (sym same) goes

pub round_goes : (v u : LiveView) (n steps : ℕ) (spacing : Spacing) → AtSeat v n (IsRoundOf spacing steps) u → u ≡ with_led v u.led → GoesTo v u
round_goes v u n steps spacing at rest =
    goes_as v u (with_led v (slice_set v.led n (Runs at.after))) (rest ∙ ap (with_led v) at.led) (λ w comes is. (
      record w { led = led_by w n at.after },
      once (LeadsRound n at.before at.after spacing steps (leads v.led w.led n at.before is.led at.there) at.deed),
      seat_on v w n (Runs at.after) (led_as at.after) is refl,
    ))

pub end_goes : (v u : LiveView) (n : ℕ) → EndsAt v n u → GoesTo v u
end_goes v u n ends =
    goes_as v u (with_led v (slice_set v.led n (Ended ends.leader.primary.opening.term))) ends.rest (λ w comes is. (
      record w { led = slice_set w.led n (ended ends.leader) },
      once (Ends n ends.leader (leads v.led w.led n ends.leader is.led ends.there)),
      seat_on v w n (Ended ends.leader.primary.opening.term) (ended ends.leader) is (refl, refl),
    ))

-- frames that are cut may be lost
pub seal_goes : (v u : LiveView) (n : ℕ) (frames kept : List Frame) → AtSeat v n (CutsLog frames) u → ((f : Frame) → Contains kept f → Contains frames f) →
    u ≡ with_sent v (v.frames ++ kept) u.led → GoesTo v u
seal_goes v u n frames kept at sent rest =
    goes_as v u (with_sent v (v.frames ++ kept) (slice_set v.led n (Runs at.after))) (rest ∙ ap (with_sent v (v.frames ++ kept)) at.led) (λ w comes is. (
      record w { led = led_by w n at.after; frames = w.frames ++ frames },
      once (Seals n at.before at.after frames (leads v.led w.led n at.before is.led at.there) at.deed.0 at.deed.1),
      led_on v w (slice_set v.led n (Runs at.after)) (led_by w n at.after) (v.frames ++ kept) (w.frames ++ frames) v.told w.told is
          (seat_on v w n (Runs at.after) (led_as at.after) is refl).led (sent_more v.frames w.frames kept frames is.frames sent) is.told,
    ))

pub lost_goes : (v : LiveView) (n : ℕ) (frames all : List Frame) (old new : LeaderView) (out now : List Seat) →
    (slice_get v.led n ≡ Some (Runs old)) × (out ≡ slice_set v.led n (Ended old.primary.opening.term)) → now ≡ slice_set out n (Runs new) →
    CutsLog frames old new → all ≡ v.frames → GoesTo v (with_sent v all now)
lost_goes v n frames all old new out now taken put cuts same =
    seal_goes v (with_sent v all now) n frames [] (at_seat v n (CutsLog frames) (with_sent v all now) old new out taken put cuts)
    (λ f has. let below = has.1 in absurd (omega (arith, below))) (ap (λ (all : List Frame). with_sent v all now) (same ∙ sym (append-nil v.frames)))

pub hear_goes : (v u : LiveView) (n said : ℕ) → HearsSaidAt v n said u → GoesTo v u
hear_goes v u n said hears =
    let at = hears.hears in
    goes_as v u (with_led v (slice_set v.led n (Runs at.after))) (hears.rest ∙ ap (with_led v) at.led) (λ w comes is. (
      record w { led = led_by w n at.after },
      once (HearsSaid n at.before at.after hears.acknowledgement (leads v.led w.led n at.before is.led at.there)
          ((is.said hears.acknowledgement).0 (contained v.said said hears.acknowledgement hears.there)) at.deed.0 at.deed.1),
      seat_on v w n (Runs at.after) (led_as at.after) is refl,
    ))

pub lack_goes : (v u : LiveView) (n said : ℕ) → PrimaryLeaves v (event.Hear n said) NoMemory u → GoesTo v u
lack_goes v u n said left =
    let (a, there, at, rest) = left in
    goes_as v u (with_led v (slice_set v.led n (Runs at.after))) (rest ∙ ap (with_led v) at.led) (λ w comes is. (
      record w { led = led_by w n at.after },
      once (LacksMemory n at.before at.after a (leads v.led w.led n at.before is.led at.there) ((is.said a).0 (contained v.said said a there)) at.deed.0
          at.deed.1),
      seat_on v w n (Runs at.after) (led_as at.after) is refl,
    ))

pub request_goes : (v u : LiveView) (n asked : ℕ) → HearsAsked v n asked u → GoesTo v u
request_goes v u n asked hears =
    let at = hears.hears in
    let told = told_of hears.what in
    goes_as v u (with_told v (v.told ++ told) (slice_set v.led n (Runs at.after))) (hears.rest ∙ ap (with_told v (v.told ++ told)) at.led) (λ w comes is. (
      record w { led = led_by w n at.after; told = told ++ w.told },
      once (HearsRequest n at.before at.after hears.request hears.what (leads v.led w.led n at.before is.led at.there)
          ((is.asked hears.request).0 (contained v.asked asked hears.request hears.there)) at.deed),
      led_on v w (slice_set v.led n (Runs at.after)) (led_by w n at.after) v.frames w.frames (v.told ++ told) (told ++ w.told) is
          (seat_on v w n (Runs at.after) (led_as at.after) is refl).led is.frames (both_more v.told w.told told is.told),
    ))

pub tell_goes : (v u : LiveView) (n number : ℕ) → TellsAt v n number u → GoesTo v u
tell_goes v u n number tells =
    let one = answer_of tells.leader.primary.opening.term tells.released in
    goes_as v u (with_told v (v.told ++ one ∷ []) v.led) tells.rest (λ w comes is. (
      record w { told = one ∷ w.told },
      once (Tells n tells.leader tells.released (leads v.led w.led n tells.leader is.led tells.there)
          (contained tells.leader.released number tells.released tells.out)),
      led_on v w v.led w.led v.frames w.frames (v.told ++ one ∷ []) (one ∷ w.told) is is.led is.frames (both_more v.told w.told (one ∷ []) is.told),
    ))

-- ---- what leaves all as it was

-- nothing is at a seat that was not before
pub unmoved : (v : LiveView) (led : List Seat) → led ≡ v.led → GoesTo v (with_led v led)
unmoved v led same = goes_nowhere (ap (with_led v) same)

pub untold : (v : LiveView) (told : List Answer) (led : List Seat) → told ≡ v.told → led ≡ v.led → with_told v told led ≡ v
untold v told led same seats = ap (λ (told : List Answer). with_told v told led) same ∙ ap (with_told v v.told) seats

-- nothing is told where no answers are
pub nothing_told : (told : List Answer) (what : Heard) → ((answers : Vec Answer Global) → what ≡ on.Told answers → ⊥) → told ≡ told ++ told_of what
nothing_told told (on.Told answers) not = absurd (not answers refl)
nothing_told told on.NoHart not = sym (append-nil told)
nothing_told told (on.Came came) not = sym (append-nil told)

-- nothing of the primary is another where answers are told
abbrev pub StaysTold : LeaderView → LeaderView → Heard → Type 0
StaysTold old new (on.Told answers) = new ≡ old
StaysTold old new other = Unit {0}

pub told_same : (old new : LeaderView) (request : Request) (what : Heard) → Hears old request new what → StaysTold old new what
told_same old new (Timer hart) (on.Told answers) hears = absurd hears
told_same old new (Word hart word number) (on.Told answers) hears = absurd hears
told_same old new (From hart number) (on.Told answers) hears = hears.1
told_same old new request on.NoHart hears = tt
told_same old new request (on.Came came) hears = tt
