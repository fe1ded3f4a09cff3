-- Reading a stream piece by piece.
use Rattle.std.proofs.Common.{◌≡◌, ◌≢◌, ℕ, List, [], ◌∷◌, ◌++◌, Option, Some, None, Result, Ok, Err, refl, sym, ap, subst, ◌∙◌, append_assoc}
use Rattle.std.specs.Prelude.{OnOk, IfErr}
use Rattle.std.specs.List.{AllByRecursion}
use Rattle.std.specs.Io.KnownBytes.{Consumes, IsAtEnd}
use Rattle.std.proofs.lemmas.List.{append-nil}
use Rattle.ft_types.specs.Guests.{GuestParts}
use Rattle.fragment_codec.specs.declared.frame.Frame.{Frame as LogFrame}
use Rattle.fragment_codec.specs.declared.fault.FrameFault.{FrameFault}
use Rattle.fragment_codec.specs.declared.fault.FrameFault.TheVariants.{Magic, Version, Kind, Length, Digest, Body, Memory as NoMemory}
use Rattle.fragment_codec.specs.Streams.{Splits, Unread, Keeps, Follows}
use Rattle.fragment_codec.proofs.streams.Splits.{splits_none, splits_begin}
use Rattle.log_join.specs.Stores.{StoreView, IsJoin, alone}
use Rattle.log_join.specs.declared.answers.StoreFault.{StoreFault}
use Rattle.log_join.specs.declared.answers.StoreFault.TheVariants.{OtherGuest, Memory as NoRoom}
use Rattle.log_streams.specs.declared.faults.StreamsFault.{StreamsFault}
use Rattle.log_streams.specs.declared.faults.StreamsFault.TheVariants.{Read, Frame, Guest, Replay, Write, Memory}
use Rattle.log_streams.specs.Streams.{IsOf, Says, GoesOnWith}
use Rattle.log_join.specs.Coming.{Come}
use Rattle.log_streams.specs.Faults.{IsFaultOfStream, Fails}
use Rattle.log_streams.specs.Faults.{GaveRight}
use Rattle.fragment_codec.proofs.bytes.Heads.{partial_nothing}
use Rattle.log_streams.specs.machinery.Reading.{Takes, IsFaultOf, IsFaultAmong, fault_at, fault_in, IsPushFault, Told, Refused}
use Rattle.log_streams.proofs.Lists.{all_append, all_back}

pub on_ok : {A E P Q : Type 0} (r : Result A E) → (P → Q) → OnOk r P → OnOk r Q
on_ok (Ok x) f p = f p
on_ok (Err e) f p = p

pub if_err : {A E : Type 0} {P Q : E → Type 0} (r : Result A E) → ((e : E) → P e → Q e) → IfErr r P → IfErr r Q
if_err (Ok x) f p = p
if_err (Err e) f p = f e p

-- ---- faults among frames

regroup : (given before : List LogFrame) (frame : LogFrame) (after : List LogFrame) → given ++ (before ++ frame ∷ after) ≡ ((given ++ before) ++ frame ∷ []) ++
    after
regroup given before frame after = simp append_assoc

-- the frame that is at fault stands behind frames of the guest
goes_on : (guest : GuestParts) (text : List ℕ) (given frames before : List LogFrame) (frame : LogFrame) (after : List LogFrame) (rest : List ℕ) →
    Splits text (given ++ frames) rest → frames ≡ before ++ frame ∷ after → AllByRecursion (IsOf guest) given → AllByRecursion (IsOf guest) before →
    GoesOnWith guest text frame
goes_on guest text given frames before frame after rest s e own more =
    let same : given ++ frames ≡ ((given ++ before) ++ frame ∷ []) ++ after = ap (λ (x : List LogFrame). given ++ x) e ∙ regroup given before frame after in
    let begin = splits_begin text rest ((given ++ before) ++ frame ∷ []) after (subst (λ (x : List LogFrame). Splits text x rest) same s) in
    record {
      frames = given ++ before;
      rest = begin.0;
      splits = begin.1;
      own = all_append (IsOf guest) given before own more;
    }

among_push : (number : ℕ) (guest : GuestParts) (text : List ℕ) (given frames : List LogFrame) (feed : Unread) →
    Follows text (given ++ frames) feed → AllByRecursion (IsOf guest) given → (f : StoreFault) → IsFaultAmong guest frames f → IsPushFault number guest text
    (fault_at number f)
among_push number guest text given frames feed follows own OtherGuest h =
    (refl, (h.frame, goes_on guest text given frames h.before h.frame h.after follows.rest follows.splits h.parts own h.own, h.other))
among_push number guest text given frames feed follows own NoRoom h = tt

-- a frame behind frames of the guest is at fault
to_among : (guest : GuestParts) (frames before : List LogFrame) (frame : LogFrame) (after : List LogFrame) (f : StoreFault) → frames ≡ before ++ frame ∷ after →
    AllByRecursion (IsOf guest) before → IsFaultOf guest frame f → IsFaultAmong guest frames f
to_among guest frames before frame after OtherGuest parts own fault =
    record {
      before = before;
      frame = frame;
      after = after;
      parts = parts;
      own = own;
      other = fault;
    }
to_among guest frames before frame after NoRoom parts own fault = tt

-- frames that come one behind the other
pub come_more : (a b c : StoreView) (front back : List LogFrame) → Come a front b → Come b back c → Come a (front ++ back) c
come_more a b c [] back e h = subst (λ (x : StoreView). Come x back c) e h
come_more a b c (frame ∷ front) back k h = (k.0, k.1, come_more k.0 b c front back k.2 h)

-- and they are of the guest
pub same_guest_comes : (a b : StoreView) (frames : List LogFrame) → Come a frames b → b.guest ≡ a.guest
same_guest_comes a b [] e = ap (λ (x : StoreView). x.guest) e
same_guest_comes a b (frame ∷ frames) h = same_guest_comes h.0 b frames h.2 ∙ h.1.guest

-- none came
pub takes_none : (first : StoreView) → Takes first [] first
takes_none first = record { own = tt; come = refl }

-- one frame more came
pub takes_one : (first old new : StoreView) (given : List LogFrame) (frame : LogFrame) → Takes first given old → IsOf old.guest frame →
    IsJoin old (alone frame) new → Takes first (given ++ frame ∷ []) new
takes_one first old new given frame t own joined = record {
  own = all_append (IsOf first.guest) given (frame ∷ []) t.own (own ∙ same_guest_comes first old given t.come, tt);
  come = come_more first old new given (frame ∷ []) t.come (new, joined, refl);
}

-- a frame that is not taken behind those that were
pub taken_among : (first : StoreView) (given : List LogFrame) (store : StoreView) (frames before : List LogFrame) (frame : LogFrame) (after : List LogFrame)
    (f : StoreFault) →
    frames ≡ before ++ frame ∷ after → Takes first (given ++ before) store → IsFaultOf store.guest frame f → IsFaultAmong first.guest frames f
taken_among first given store frames before frame after f parts t fault =
    to_among first.guest frames before frame after f parts (all_back (IsOf first.guest) given before t.own)
    (subst (λ (g : GuestParts). IsFaultOf g frame f) (same_guest_comes first store (given ++ before) t.come) fault)

-- a feed's fault is the stream's
pub feed_fault : (number : ℕ) (guest : GuestParts) (text : List ℕ) (given : List LogFrame) (feed : Unread) (f : FrameFault) →
    Follows text given feed → feed.fault ≡ Some f → AllByRecursion (IsOf guest) given → IsPushFault number guest text (Frame number f)
feed_fault number guest text given feed f follows is own = (
  refl,
  record {
    frames = given;
    rest = follows.rest;
    splits = follows.splits;
    own = own;
    fault = subst (λ (o : Option FrameFault). Keeps follows.rest feed.rest o) is follows.keeps;
  },
)

pub feed_faults : (number : ℕ) (guest : GuestParts) (text : List ℕ) (given : List LogFrame) (feed : Unread) (f : FrameFault) →
    (f ≢ NoMemory → Follows text given feed) → (f ≢ NoMemory → feed.fault ≡ Some f) → AllByRecursion (IsOf guest) given → IsPushFault number guest text
    (fault_in number f)
feed_faults number guest text given feed Magic a b own = (let ne : Magic ≢ NoMemory = λ e. cc in feed_fault number guest text given feed Magic (a ne)
    (b ne) own)
feed_faults number guest text given feed Version a b own = (let ne : Version ≢ NoMemory = λ e. cc in feed_fault number guest text given feed Version (a ne)
    (b ne) own)
feed_faults number guest text given feed Kind a b own = (let ne : Kind ≢ NoMemory = λ e. cc in feed_fault number guest text given feed Kind (a ne) (b ne) own)
feed_faults number guest text given feed Length a b own = (let ne : Length ≢ NoMemory = λ e. cc in feed_fault number guest text given feed Length (a ne)
    (b ne) own)
feed_faults number guest text given feed Digest a b own = (let ne : Digest ≢ NoMemory = λ e. cc in feed_fault number guest text given feed Digest (a ne)
    (b ne) own)
feed_faults number guest text given feed Body a b own = (let ne : Body ≢ NoMemory = λ e. cc in feed_fault number guest text given feed Body (a ne) (b ne) own)
feed_faults number guest text given feed NoMemory a b own = tt

-- ---- the calls of one push

pub always : {A E P : Type 0} (r : Result A E) → P → OnOk r P
always (Ok x) p = p
always (Err e) p = tt

pub push_ok : (items : List LogFrame) (piece : List ℕ) (old new : Unread) (p q : StoreView) →
    ((first : StoreView) (given : List LogFrame) → Takes first given p → Takes first (given ++ items) q) →
    ((read : List ℕ) (given : List LogFrame) → Follows read given old → Follows (read ++ piece) (given ++ items) new) →
    (first : StoreView) (read : List ℕ) (given : List LogFrame) → Follows read given old → Takes first given p →
    (frames : List LogFrame) × Follows (read ++ piece) (given ++ frames) new × Takes first (given ++ frames) q
push_ok items piece old new p q took follows = λ first read given f h. (items, follows read given f, took first given h)

pub push_fault : (number : ℕ) (items : List LogFrame) (piece : List ℕ) (old new : Unread) (p : StoreView) (f : StoreFault) →
    ((first : StoreView) (given : List LogFrame) → Takes first given p → IsFaultAmong first.guest items f) →
    ((read : List ℕ) (given : List LogFrame) → Follows read given old → Follows (read ++ piece) (given ++ items) new) →
    (first : StoreView) (read : List ℕ) (given : List LogFrame) → Follows read given old → Takes first given p → IsPushFault number first.guest (read ++ piece)
    (fault_at number f)
push_fault number items piece old new p f failed follows = λ first read given g h.
    among_push number first.guest (read ++ piece) given items new (follows read given g) h.own f (failed first given h)

-- what a push may answer is the first fault
pub push_first : (number : ℕ) (guest : GuestParts) (text : List ℕ) (f : StreamsFault) → IsPushFault number guest text f → IsFaultOfStream number guest text f
push_first number guest text (Frame i g) h = h
push_first number guest text (Guest i) h = h
push_first number guest text Memory h = tt
push_first number guest text (Read i) h = absurd h
push_first number guest text (Replay r) h = absurd h
push_first number guest text Write h = absurd h

-- and the reader did not fail
pub push_fails : (number f g : ℕ) (guest : GuestParts) (text : List ℕ) (x : StreamsFault) → g ≡ f → IsPushFault number guest text x → Fails number f g x
push_fails number f g guest text (Frame i y) e h = e
push_fails number f g guest text (Guest i) e h = e
push_fails number f g guest text Memory e h = e
push_fails number f g guest text (Read i) e h = absurd h
push_fails number f g guest text (Replay r) e h = absurd h
push_fails number f g guest text Write e h = absurd h

-- ---- the reader

pub record IsReading (first : StoreView) (old now : Option (List ℕ)) (feed : Unread) (p : StoreView) : Type 0 where
  pub read : List ℕ
  pub given : List LogFrame
  pub consumed : Consumes old now read
  pub follows : Follows read given feed
  pub takes : Takes first given p

pub consumes_nothing : (o : Option (List ℕ)) → Consumes o o []
consumes_nothing None = tt
consumes_nothing (Some xs) = refl

pub consumes_more : (old now next : Option (List ℕ)) (read piece : List ℕ) → Consumes old now read → Consumes now next piece → Consumes old next (read ++ piece)
consumes_more None now next read piece a b = tt
consumes_more (Some xs) None next read piece a b = absurd a
consumes_more (Some xs) (Some ys) None read piece a b = absurd b
consumes_more (Some xs) (Some ys) (Some zs) read piece a b = a ∙ ap (λ (y : List ℕ). read ++ y) b ∙ sym (append_assoc read piece zs)

-- what one push on a reader's bytes makes of what was read

-- a push to this fault
abbrev pub Pushes : ℕ → Unread → StoreView → List ℕ → StreamsFault → Type 0
Pushes number feed p got f =
    (first : StoreView) (read : List ℕ) (given : List LogFrame) → Follows read given feed → Takes first given p → IsPushFault number first.guest (read ++ got) f

-- a push that went well, behind which stands no fault
abbrev pub Goes : Unread → Unread → StoreView → StoreView → List ℕ → Type 0
Goes feed later p q got =
    (first : StoreView) (read : List ℕ) (given : List LogFrame) → Follows read given feed → Takes first given p →
    (frames : List LogFrame) × Follows (read ++ got) (given ++ frames) later × Takes first (given ++ frames) q × Says first.guest (read ++ got) (given ++
    frames)

-- a push that may have left a fault behind its last frame
abbrev pub GoesAsFar : Unread → Unread → StoreView → StoreView → List ℕ → Type 0
GoesAsFar feed later p q got =
    (first : StoreView) (read : List ℕ) (given : List LogFrame) → Follows read given feed → Takes first given p →
    (frames : List LogFrame) × Follows (read ++ got) (given ++ frames) later × Takes first (given ++ frames) q

-- where the feed has met no fault, none stands there
pub goes_right : (feed later : Unread) (p q : StoreView) (got : List ℕ) → GoesAsFar feed later p q got → later.fault ≡ None → Goes feed later p q got
goes_right feed later p q got far none first read given follows takes =
    let t = far first read given follows takes in
    let kept : Keeps t.1.rest later.rest None = subst (λ (o : Option FrameFault). Keeps t.1.rest later.rest o) none t.1.keeps in
    (t.0, t.1, t.2, record { rest = t.1.rest; splits = t.1.splits; partial = kept.1; own = t.2.own })

-- else the fault is the stream's
pub fault_behind : (number : ℕ) (feed later : Unread) (p q : StoreView) (got : List ℕ) (f : FrameFault) → GoesAsFar feed later p q got →
    later.fault ≡ Some f → Pushes number feed p got (fault_in number f)
fault_behind number feed later p q got f far is first read given follows takes =
    let t = far first read given follows takes in
    feed_faults number first.guest (read ++ got) (given ++ t.0) later f (λ _. t.1) (λ _. is) t.2.own

pub push_refused : (number : ℕ) (first : StoreView) (old now next : Option (List ℕ)) (feed : Unread) (p : StoreView) (got whole : List ℕ) (f : StreamsFault) →
    got ≡ whole →
    IsReading first old now feed p → Consumes now next whole → Pushes number feed p got f → Refused number first.guest old next f
push_refused number first old now next feed p got whole f e r taken h =
    record {
      read = r.read ++ got;
      consumed = consumes_more old now next r.read got r.consumed (subst (λ (x : List ℕ). Consumes now next x) (sym e) taken);
      fault = push_first number first.guest (r.read ++ got) f (h first r.read r.given r.follows r.takes);
    }

pub push_failures : (number : ℕ) (first : StoreView) (old now : Option (List ℕ)) (feed : Unread) (p : StoreView) (got : List ℕ) (x : StreamsFault) (f g : ℕ) →
    IsReading first old now feed p → g ≡ f → Pushes number feed p got x → Fails number f g x
push_failures number first old now feed p got x f g r e h = push_fails number f g first.guest (r.read ++ got) x e (h first r.read r.given r.follows r.takes)

pub reading_more : (first : StoreView) (old now next : Option (List ℕ)) (feed later : Unread) (p q : StoreView) (got whole : List ℕ) → got ≡ whole →
    IsReading first old now feed p → Consumes now next whole → Goes feed later p q got → IsReading first old next later q
reading_more first old now next feed later p q got whole e r taken h =
    let t = h first r.read r.given r.follows r.takes in
    record {
      read = r.read ++ got;
      given = r.given ++ t.0;
      consumed = consumes_more old now next r.read got r.consumed (subst (λ (x : List ℕ). Consumes now next x) (sym e) taken);
      follows = t.1;
      takes = t.2;
    }

pub told : (first : StoreView) (old now next : Option (List ℕ)) (feed later : Unread) (p q : StoreView) (got whole : List ℕ) → got ≡ whole →
    IsReading first old now feed p → Consumes now next whole → IsAtEnd next → Goes feed later p q got → Told first old next q
told first old now next feed later p q got whole e r taken end h =
    let t = h first r.read r.given r.follows r.takes in
    record {
      read = r.read ++ got;
      frames = r.given ++ t.0;
      consumed = consumes_more old now next r.read got r.consumed (subst (λ (x : List ℕ). Consumes now next x) (sym e) taken);
      ended = end;
      says = t.3;
      takes = t.2;
    }

-- ---- what was given so far

pub nothing_wrong : (guest : GuestParts) (left : Option (List ℕ)) → GaveRight guest left left
nothing_wrong guest left =
    record {
      read = [];
      consumed = consumes_nothing left;
      frames = [];
      says = record { rest = []; splits = splits_none []; partial = partial_nothing; own = tt };
    }

pub still_right : (first : StoreView) (old now next : Option (List ℕ)) (feed later : Unread) (p q : StoreView) (got whole : List ℕ) → got ≡ whole →
    IsReading first old now feed p → Consumes now next whole → Goes feed later p q got → GaveRight first.guest old next
still_right first old now next feed later p q got whole e r taken h =
    let t = h first r.read r.given r.follows r.takes in
    record {
      read = r.read ++ got;
      consumed = consumes_more old now next r.read got r.consumed (subst (λ (x : List ℕ). Consumes now next x) (sym e) taken);
      frames = r.given ++ t.0;
      says = t.3;
    }

-- a push does not say that a reader failed
pub not_read : (number i : ℕ) (guest : GuestParts) (text : List ℕ) (f : StreamsFault) → IsPushFault number guest text f → f ≡ Read i → ⊥
not_read number i guest text (Frame j g) h e = cc
not_read number i guest text (Guest j) h e = cc
not_read number i guest text Memory h e = cc
not_read number i guest text (Read j) h e = h
not_read number i guest text (Replay r) h e = cc
not_read number i guest text Write h e = cc
