-- What was read of streams, and the whole streams.
use Rattle.std.proofs.Common.{◌≡◌, ◌≢◌, ℕ, suc, zero, ◌+◌, ◌<◌, ◌≤◌, List, [], ◌∷◌, ◌++◌, length, map, take, drop, slice_get, slice_set, Option, Some, None}
use Rattle.std.proofs.Common.{refl, sym, ap, subst, ◌∙◌, inl, inr, append_assoc, append-nil, add-one, arith}
use Rattle.std.specs.Io.KnownBytes.{Consumes, IsAtEnd}
use Rattle.std.proofs.lemmas.List.{map-append, length-take-le, take-append-drop, length-map}
use Rattle.std.proofs.lemmas.Bool.{cases_eq}
use Rattle.std.proofs.lemmas.Option.{get_or_from_slice_get}
use Rattle.std.proofs.Math.Seq.{drop-cons, take-suc}
use Rattle.interleaving.proofs.Lists.{get_set_same, get_set_other}
use Rattle.ft_types.specs.Guests.{GuestParts}
use Rattle.fragment_codec.specs.declared.frame.Frame.{Frame as LogFrame}
use Rattle.fragment_codec.specs.declared.fault.FrameFault.{FrameFault}
use Rattle.fragment_codec.specs.Streams.{HasFault}
use Rattle.fragment_codec.proofs.streams.Splits.{splits_more}
use Rattle.log_join.specs.Stores.{StoreView, nothing}
use Rattle.log_streams.specs.declared.faults.StreamsFault.{StreamsFault}
use Rattle.log_streams.specs.declared.faults.StreamsFault.TheVariants.{Read, Frame, Guest, Replay, Write, Memory}
use Rattle.log_streams.specs.Streams.{Says, SayAll, Breaks, GoesOnWith, OfStream, OfStreams, AreJoined}
use Rattle.log_streams.specs.Faults.{IsFaultOfStream, IsFirstFault, IsBehind, Fails, GaveRight}
use Rattle.log_streams.specs.machinery.Reading.{Takes, Told, Refused}
use Rattle.log_streams.proofs.StreamLemmas.{come_more, same_guest_comes}

-- a fault lasts, however the bytes go on
abbrev pub Lasts : Type 0
Lasts = (bytes more : List ℕ) (f : FrameFault) → HasFault bytes f → HasFault (bytes ++ more) f

breaks_longer : (guest : GuestParts) (stream more : List ℕ) (f : FrameFault) → Lasts → Breaks guest stream f → Breaks guest (stream ++ more) f
breaks_longer guest stream more f lasts b = record {
  frames = b.frames;
  rest = b.rest ++ more;
  splits = splits_more stream b.rest more b.frames b.splits;
  own = b.own;
  fault = lasts b.rest more f b.fault;
}

goes_longer : (guest : GuestParts) (stream more : List ℕ) (frame : LogFrame) → GoesOnWith guest stream frame → GoesOnWith guest (stream ++ more) frame
goes_longer guest stream more frame g = record {
  frames = g.frames;
  rest = g.rest ++ more;
  splits = splits_more stream g.rest more (g.frames ++ frame ∷ []) g.splits;
  own = g.own;
}

-- the first fault of a beginning of a stream is the stream's
fault_longer : (number : ℕ) (guest : GuestParts) (stream more : List ℕ) (f : StreamsFault) → Lasts → IsFaultOfStream number guest stream f →
    IsFaultOfStream number guest (stream ++ more) f
fault_longer number guest stream more (Frame i g) lasts h = (h.0, breaks_longer guest stream more g lasts h.1)
fault_longer number guest stream more (Guest i) lasts h = (h.0, (h.1.0, goes_longer guest stream more h.1.0 h.1.1, h.1.2))
fault_longer number guest stream more (Read i) lasts h = h
fault_longer number guest stream more Memory lasts h = tt
fault_longer number guest stream more (Replay r) lasts h = absurd h
fault_longer number guest stream more Write lasts h = absurd h

-- ---- the streams that readers have left

-- what holds of all that a reader gave, at its end
of_whole : (P : List ℕ → Type 0) (old new : Option (List ℕ)) (read : List ℕ) → Consumes old new read → IsAtEnd new → P read → OfStream old P
of_whole P None new read taken end p = (read, p)
of_whole P (Some xs) None read taken end p = absurd taken
of_whole P (Some xs) (Some ys) read taken end p =
    subst P (sym (taken ∙ ap (λ (y : List ℕ). read ++ y) end ∙ append-nil read)) p

-- and what holds of all that began with what it gave
of_begun : (P : List ℕ → Type 0) (old new : Option (List ℕ)) (read : List ℕ) → Consumes old new read → ((more : List ℕ) → P (read ++ more)) → OfStream old P
of_begun P None new read taken p = (read ++ [], p [])
of_begun P (Some xs) None read taken p = absurd taken
of_begun P (Some xs) (Some ys) read taken p = subst P (sym taken) (p ys)

stream_to : (P Q : List ℕ → Type 0) (left : Option (List ℕ)) → ((stream : List ℕ) → P stream → Q stream) → OfStream left P → OfStream left Q
stream_to P Q None f h = (h.0, f h.0 h.1)
stream_to P Q (Some stream) f h = f stream h

pub streams_to : (P Q : List (List ℕ) → Type 0) (lefts : List (Option (List ℕ))) → ((streams : List (List ℕ)) → P streams → Q streams) → OfStreams lefts P →
    OfStreams lefts Q
streams_to P Q [] f h = f [] h
streams_to P Q (left ∷ lefts) f h =
    stream_to (λ stream. OfStreams lefts (λ streams. P (stream ∷ streams))) (λ stream. OfStreams lefts (λ streams. Q (stream ∷ streams))) left
    (λ stream k. streams_to (λ streams. P (stream ∷ streams)) (λ streams. Q (stream ∷ streams)) lefts (λ streams. f (stream ∷ streams)) k) h

-- what holds of all streams
some_stream : (P : List ℕ → Type 0) (left : Option (List ℕ)) → ((stream : List ℕ) → P stream) → OfStream left P
some_stream P None f = ([], f [])
some_stream P (Some stream) f = f stream

pub some_streams : (P : List (List ℕ) → Type 0) (lefts : List (Option (List ℕ))) → ((streams : List (List ℕ)) → P streams) → OfStreams lefts P
some_streams P [] f = f []
some_streams P (left ∷ lefts) f =
    some_stream (λ stream. OfStreams lefts (λ streams. P (stream ∷ streams))) left (λ stream. some_streams (λ streams. P (stream ∷ streams)) lefts
    (λ streams. f (stream ∷ streams)))

-- what holds of none
never_stream : (left : Option (List ℕ)) (P : List ℕ → Type 0) → ((stream : List ℕ) → P stream → ⊥) → OfStream left P → ⊥
never_stream None P never h = never h.0 h.1
never_stream (Some stream) P never h = never stream h

pub never_streams : (P : List (List ℕ) → Type 0) (lefts : List (Option (List ℕ))) → ((streams : List (List ℕ)) → P streams → ⊥) → OfStreams lefts P → ⊥
never_streams P [] never h = never [] h
never_streams P (left ∷ lefts) never h =
    never_stream left (λ stream. OfStreams lefts (λ streams. P (stream ∷ streams)))
    (λ stream k. never_streams (λ streams. P (stream ∷ streams)) lefts (λ streams. never (stream ∷ streams)) k) h

-- streams behind others
streams_more : (P : List (List ℕ) → Type 0) (lefts others : List (Option (List ℕ))) → OfStreams lefts (λ front. OfStreams others (λ back. P (front ++ back))) →
    OfStreams (lefts ++ others) P
streams_more P [] others h = h
streams_more P (left ∷ lefts) others h =
    stream_to (λ stream. OfStreams lefts (λ front. OfStreams others (λ back. P (stream ∷ (front ++ back))))) (λ stream. OfStreams (lefts ++ others)
    (λ streams. P (stream ∷ streams))) left
    (λ stream k. streams_more (λ streams. P (stream ∷ streams)) lefts others k) h

-- there are as many as readers
streams_counted : (P : List (List ℕ) → Type 0) (lefts : List (Option (List ℕ))) → OfStreams lefts P →
    OfStreams lefts (λ streams. (length streams ≡ length lefts) × P streams)
streams_counted P [] h = (refl, h)
streams_counted P (left ∷ lefts) h =
    stream_to (λ stream. OfStreams lefts (λ streams. P (stream ∷ streams)))
    (λ stream. OfStreams lefts (λ streams. (length (stream ∷ streams) ≡ length (left ∷ lefts)) × P (stream ∷ streams))) left
    (λ stream k.
    streams_to (λ streams. (length streams ≡ length lefts) × P (stream ∷ streams)) (λ streams. (length (stream ∷ streams) ≡ length (left ∷ lefts)) ×
    P (stream ∷ streams)) lefts
    (λ streams p. (ap suc p.0, p.1)) (streams_counted (λ streams. P (stream ∷ streams)) lefts k)) h

-- where the readers tell
pub streams_known : (P : List (List ℕ) → Type 0) (streams : List (List ℕ)) → OfStreams (map Some streams) P → P streams
streams_known P [] h = h
streams_known P (stream ∷ streams) h = streams_known (λ others. P (stream ∷ others)) streams h

-- ---- one stream more

say_more : (guest : GuestParts) (streams : List (List ℕ)) (stream : List ℕ) (frames more : List LogFrame) → SayAll guest streams frames →
    Says guest stream more →
    SayAll guest (streams ++ stream ∷ []) (frames ++ more)
say_more guest [] stream frames more h s = (more, [], s, refl, ap (λ (x : List LogFrame). x ++ more) h ∙ sym (append-nil more))
say_more guest (first ∷ streams) stream frames more h s = (
  h.0,
  h.1 ++ more,
  h.2,
  say_more guest streams stream h.1 more h.3 s,
  ap (λ (x : List LogFrame). x ++ more) h.4 ∙ append_assoc h.0 h.1 more,
)

-- behind streams without a fault stands the first one
first_behind : (number i : ℕ) (guest : GuestParts) (streams : List (List ℕ)) (stream : List ℕ) (others : List (List ℕ)) (frames : List LogFrame)
    (f : StreamsFault) →
    SayAll guest streams frames → i ≡ number + length streams → IsFaultOfStream i guest stream f → IsFirstFault number guest (streams ++ stream ∷ others) f
first_behind number i guest [] stream others frames f h e fault =
    let same : i ≡ number = omega (arith, e) in inl (subst (λ (n : ℕ). IsFaultOfStream n guest stream f) same fault)
first_behind number i guest (first ∷ streams) stream others frames f h e fault =
    let same : i ≡ (number + 1) + length streams = omega (arith, e) in
    inr (h.0, h.2, first_behind (number + 1) i guest streams stream others h.1 f h.3 same fault)

-- ---- the readers

-- the first readers were read to their ends, and their frames came to the store
pub record IsRead {R : Type 0} (left : R → Option (List ℕ)) (failures : R → ℕ) (guest : GuestParts) (olds nows : List R) (i : ℕ) (store : StoreView) : Type 0
  where
    pub joined : OfStreams (map left (take i olds)) (λ streams. AreJoined guest streams store)
    pub own : store.guest ≡ guest
    pub count : length nows ≡ length olds
    pub same : (j : ℕ) → i ≤ j → slice_get nows j ≡ slice_get olds j
    pub kept : (j : ℕ) (reader later : R) → slice_get olds j ≡ Some reader → slice_get nows j ≡ Some later → failures later ≡ failures reader

-- nothing was read
pub none_read : {R : Type 0} (left : R → Option (List ℕ)) (failures : R → ℕ) (guest : GuestParts) (readers : List R) (store : StoreView) →
    store ≡ nothing guest →
    IsRead left failures guest readers readers 0 store
none_read left failures guest readers store is = record {
  joined = record { frames = []; say = refl; joined = is };
  own = ap (λ (s : StoreView). s.guest) is;
  count = refl;
  same = λ j le. refl;
  kept = λ j reader later a b. let e : reader ≡ later = cc in ap failures (sym e);
}

-- what a stream's frames add to the store
joined_more : (guest : GuestParts) (streams : List (List ℕ)) (stream : List ℕ) (old new : StoreView) (frames : List LogFrame) → old.guest ≡ guest →
    AreJoined guest streams old →
    Says old.guest stream frames → Takes old frames new → AreJoined guest (streams ++ stream ∷ []) new
joined_more guest streams stream old new frames own j says takes = record {
  frames = j.frames ++ frames;
  say = say_more guest streams stream j.frames frames j.say (subst (λ (g : GuestParts). Says g stream frames) own says);
  joined = come_more (nothing guest) old new j.frames frames j.joined takes.come;
}

count_set : {A : Type 0} (xs : List A) (i : ℕ) (x : A) → length (slice_set xs i x) ≡ length xs
count_set [] i x = refl
count_set (y ∷ xs) zero x = refl
count_set (y ∷ xs) (suc i) x = ap suc (count_set xs i x)

same_place : {A : Type 0} (xs : List A) (i j : ℕ) (x y : A) → slice_get xs i ≡ Some x → i ≡ j → slice_get xs j ≡ Some y → x ≡ y
same_place xs i j x y a e b = let s : Some x ≡ Some y = sym a ∙ ap (slice_get xs) e ∙ b in cc

module _ {R : Type 0} (left : R → Option (List ℕ)) (failures : R → ℕ) (guest : GuestParts) (olds nows : List R) (i : ℕ) (reader later : R) where
  split_here : slice_get olds i ≡ Some reader → i < length olds → map left olds ≡ map left (take i olds) ++ left reader ∷ map left (drop (suc i) olds)
  split_here is lt =
      let here : olds ≡ take i olds ++ reader ∷ drop (suc i) olds =
      sym (take-append-drop i olds) ∙ ap (λ (r : List R). take i olds ++ r) (drop-cons olds i reader lt ∙ ap (λ (y : R). y ∷ drop (suc i) olds)
      (get_or_from_slice_get olds i reader reader is)) in
      ap (map left) here ∙ map-append left (take i olds) (reader ∷ drop (suc i) olds)

  front_here : slice_get olds i ≡ Some reader → i < length olds → map left (take (i + 1) olds) ≡ map left (take i olds) ++ left reader ∷ []
  front_here is lt =
      let here : take (i + 1) olds ≡ take i olds ++ reader ∷ [] =
      rw (add-one, take-suc olds i reader lt) (ap (λ (y : R). take i olds ++ y ∷ []) (get_or_from_slice_get olds i reader reader is)) in
      ap (map left) here ∙ map-append left (take i olds) (reader ∷ [])

  -- the reader was read to its end
  pub read_more : (old new : StoreView) → i < length nows → slice_get nows i ≡ Some reader → IsRead left failures guest olds nows i old → Told old (left reader)
      (left later) new → failures later ≡ failures reader →
      IsRead left failures guest olds (slice_set nows i later) (i + 1) new
  read_more old new lt here r told kept =
      let is : slice_get olds i ≡ Some reader = sym (r.same i (omega arith)) ∙ here in
      let within : i < length olds = omega (arith, r.count) in
      record {
        joined = subst (λ lefts. OfStreams lefts (λ streams. AreJoined guest streams new)) (sym (front_here is within))
            (streams_more (λ streams. AreJoined guest streams new) (map left (take i olds)) (left reader ∷ [])
            (streams_to (λ streams. AreJoined guest streams old) (λ front. OfStreams (left reader ∷ []) (λ back. AreJoined guest (front ++ back) new))
            (map left (take i olds))
            (λ front j. of_whole (λ stream. AreJoined guest (front ++ stream ∷ []) new) (left reader) (left later) told.read told.consumed told.ended
            (joined_more guest front told.read old new told.frames r.own j told.says told.takes))
            r.joined));
        own = same_guest_comes old new told.frames told.takes.come ∙ r.own;
        count = count_set nows i later ∙ r.count;
        same = λ j le. let apart : i ≢ j = λ e. omega (arith, e) in get_set_other nows i j later apart ∙ r.same j (omega arith);
        kept = λ j before after a b. elim (cases_eq i j) [
          | inl e ↦
              let first : reader ≡ before = same_place olds i j reader before is e a in
              let second : later ≡ after = same_place (slice_set nows i later) i j later after (get_set_same nows i later lt) e b in
              ap failures (sym second) ∙ kept ∙ ap failures first
          | inr n ↦ r.kept j before after a (sym (get_set_other nows i j later n) ∙ b)
        ];
      }

  at_length : (front : List (List ℕ)) → length front ≡ i → i ≡ 0 + length front
  at_length front e = omega (arith, e)

  -- the reader was at fault
  pub first_of_streams : (store : StoreView) (f : StreamsFault) → Lasts → i < length nows → slice_get nows i ≡ Some reader →
      IsRead left failures guest olds nows i store →
      Refused i store.guest (left reader) (left later) f → OfStreams (map left olds) (λ streams. IsFirstFault 0 guest streams f)
  first_of_streams store f lasts lt here r refused =
      let is : slice_get olds i ≡ Some reader = sym (r.same i (omega arith)) ∙ here in
      let within : i < length olds = omega (arith, r.count) in
      let many : length (map left (take i olds)) ≡ i = length-map (take i olds) left ∙ length-take-le i olds (omega arith) in
      let Behind : List (List ℕ) → Type 0 = λ streams. IsFirstFault 0 guest streams f in
      subst (λ lefts. OfStreams lefts Behind) (sym (split_here is within))
      (streams_more Behind (map left (take i olds)) (left reader ∷ map left (drop (suc i) olds))
      (streams_to (λ streams. (length streams ≡ length (map left (take i olds))) × AreJoined guest streams store)
      (λ front. OfStreams (left reader ∷ map left (drop (suc i) olds)) (λ back. Behind (front ++ back))) (map left (take i olds))
      (λ front j. of_begun (λ stream. OfStreams (map left (drop (suc i) olds)) (λ others. Behind (front ++ stream ∷ others))) (left reader)
      (left later) refused.read refused.consumed
      (λ more. some_streams (λ others. Behind (front ++ (refused.read ++ more) ∷ others)) (map left (drop (suc i) olds))
      (λ others. first_behind 0 i guest front (refused.read ++ more) others j.1.frames f j.1.say (at_length front (j.0 ∙ many))
      (fault_longer i guest refused.read more f lasts (subst (λ (g : GuestParts). IsFaultOfStream i g refused.read f) r.own refused.fault)))))
      (streams_counted (λ streams. AreJoined guest streams store) (map left (take i olds)) r.joined)))

  -- those behind it are as they were
  pub behind_same : (store : StoreView) (f : StreamsFault) (g : GuestParts) → IsRead left failures guest olds nows i store → Refused i g (left reader)
      (left later) f →
      (j : ℕ) → IsBehind f j → slice_get (slice_set nows i later) j ≡ slice_get olds j
  behind_same store f g r refused j behind =
      let above : i < j = is_above f refused.fault j behind in
      let apart : i ≢ j = λ e. omega (arith, e) in
      get_set_other nows i j later apart ∙ r.same j (omega arith)
    where
      is_above : (f : StreamsFault) → IsFaultOfStream i g refused.read f → (j : ℕ) → IsBehind f j → i < j
      is_above (Read k) h j b = omega (arith, h)
      is_above (Frame k x) h j b = let e = h.0 in omega (arith, e)
      is_above (Guest k) h j b = let e = h.0 in omega (arith, e)
      is_above (Replay x) h j b = absurd b
      is_above Write h j b = absurd b
      is_above Memory h j b = absurd b

  others_fail : (f : StreamsFault) (g : GuestParts) (read : List ℕ) (j a b : ℕ) → IsFaultOfStream i g read f → i ≢ j → b ≡ a → Fails j a b f
  others_fail (Read k) g read j a b h n e = inr (λ m. n (sym h ∙ m), e)
  others_fail (Frame k x) g read j a b h n e = e
  others_fail (Guest k) g read j a b h n e = e
  others_fail (Replay x) g read j a b h n e = e
  others_fail Write g read j a b h n e = e
  others_fail Memory g read j a b h n e = e

  -- and the readers failed where the fault says so
  pub one_failed : (store : StoreView) (f : StreamsFault) (g : GuestParts) → i < length nows → slice_get nows i ≡ Some reader →
      IsRead left failures guest olds nows i store → Refused i g (left reader) (left later) f →
      Fails i (failures reader) (failures later) f →
      (j : ℕ) (before after : R) → slice_get olds j ≡ Some before → slice_get (slice_set nows i later) j ≡ Some after → Fails j (failures before)
      (failures after) f
  one_failed store f g lt here r refused fails j before after a b =
      let is : slice_get olds i ≡ Some reader = sym (r.same i (omega arith)) ∙ here in
      elim (cases_eq i j) [
        | inl e ↦
            let first : reader ≡ before = same_place olds i j reader before is e a in
            let second : later ≡ after = same_place (slice_set nows i later) i j later after (get_set_same nows i later lt) e b in
            subst (λ (n : ℕ). Fails n (failures before) (failures after) f) e
            (subst (λ (x : R). Fails i (failures x) (failures after) f) first (subst (λ (x : R). Fails i (failures reader) (failures x) f) second fails))
        | inr n ↦ others_fail f g refused.read j (failures before) (failures after) refused.fault n
            (r.kept j before after a (sym (get_set_other nows i j later n) ∙ b))
      ]

  -- and the one that failed had given no fault
  pub one_right : (store : StoreView) (f : StreamsFault) → i < length nows → slice_get nows i ≡ Some reader → IsRead left failures guest olds nows i store →
      Refused i store.guest (left reader) (left later) f → (f ≡ Read i → GaveRight store.guest (left reader) (left later)) →
      (j : ℕ) (before after : R) → f ≡ Read j → slice_get olds j ≡ Some before → slice_get (slice_set nows i later) j ≡ Some after →
      GaveRight guest (left before) (left after)
  one_right store f lt here r refused right j before after is_read a b =
      let same : j ≡ i = subst (λ (x : StreamsFault). IsFaultOfStream i store.guest refused.read x) is_read refused.fault in
      let is : slice_get olds i ≡ Some reader = sym (r.same i (omega arith)) ∙ here in
      let first : reader ≡ before = same_place olds i j reader before is (sym same) a in
      let second : later ≡ after = same_place (slice_set nows i later) i j later after (get_set_same nows i later lt) (sym same) b in
      subst (λ (x : R). GaveRight guest (left x) (left after)) first
      (subst (λ (y : R). GaveRight guest (left reader) (left y)) second
      (subst (λ (g : GuestParts). GaveRight g (left reader) (left later)) r.own (right (is_read ∙ ap (λ n. Read n) same))))
