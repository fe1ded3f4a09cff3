-- Frames come to a keeper, in pieces of their stream.
use Rattle.std.proofs.Common.{◌≡◌, ◌≢◌, ◌+◌, ◌<◌, ◌++◌, ℕ, false, List, [], ◌∷◌, length, take, drop, get_or, Option, None, Some, Result, Ok, Err, refl, sym, ap, subst, ◌∙◌, append_assoc, append-nil, inl, inr}
use Rattle.std.specs.List.{flat_map}
use Rattle.std.specs.Prelude.{is_err}
use Rattle.std.proofs.lemmas.List.{take_at, take_more, take-append-drop}
use Rattle.std.proofs.lemmas.List.Concat.{flat_map-append}
use Rattle.ft_types.specs.Devices.{Writes}
use Rattle.fragment_codec.specs.declared.fault.FrameFault.{FrameFault}
use Rattle.fragment_codec.specs.declared.fault.FrameFault.TheVariants as of_frame
use Rattle.fragment_codec.specs.declared.frame.Frame.{Frame}
use Rattle.fragment_codec.specs.Streams.{spelling, Follows, HasFault, Splits, Unread}
use Rattle.fragment_codec.proofs.bytes.Heads.{partial_nothing}
use Rattle.fragment_codec.proofs.streams.Faults.{fault_more}
use Rattle.fragment_codec.proofs.streams.HasReading.{has_reading}
use Rattle.fragment_codec.proofs.streams.Readings.{one_feed, one_stream}
use Rattle.fragment_codec.proofs.streams.Splits.{splits_more, splits_on}
use Rattle.log_join.specs.Answers.{answer_to}
use Rattle.log_join.specs.Stores.{IsJoin, alone}
use Rattle.log_join.specs.declared.answers.Put.{Put}
use Rattle.log_join.specs.declared.answers.Put.TheVariants.{New, Same, Clash, OtherGuest}
use Rattle.stations.specs.Stations.{StationView}
use Rattle.live_world.specs.declared.fault.EventFault.{EventFault}
use Rattle.live_world.specs.declared.fault.EventFault.TheVariants as fault
use Rattle.live_world.specs.declared.site.Site.{Site}
use Rattle.live_world.specs.Calls.{TakesAll, TakesNot, TakesOne}

-- ---- one frame

-- a keeper that has joined a frame to its store, and has its bytes to add
new_station : (st new : StationView) (bytes : List ℕ) → new.fresh ≡ bytes → new.seen ≡ st.seen → new.keeper ≡ st.keeper →
    new ≡ record st { store = new.store; fresh = bytes }
new_station st new bytes fresh seen keeper =
    ap (λ (k : ℕ). record new { keeper = k }) keeper
    ∙ ap (λ (f : List ℕ). record new { keeper = st.keeper; fresh = f }) fresh
    ∙ ap (λ (n : ℕ). record new { keeper = st.keeper; fresh = bytes; seen = n }) seen

abbrev pub with_station : Site → StationView → Site
with_station s st = record s { station = Some st }

-- the keeper's call took it
pub takes_one : (frame : Frame) (s : Site) (st new : StationView) (put : Put) → s.station ≡ Some st → put ≡ answer_to st.store frame →
    (put ≡ New → IsJoin st.store (alone frame) new.store) → (put ≡ New → new.fresh ≡ st.fresh ++ spelling frame) →
    (put ≡ New → Splits (spelling frame) (frame ∷ []) []) → (put ≢ New → new ≡ st) → new.seen ≡ st.seen → new.keeper ≡ st.keeper →
    TakesOne frame s (with_station s new)
takes_one frame s st new New there answer joined fresh one stays seen keeper =
    let is = new_station st new (st.fresh ++ spelling frame) (fresh refl) seen keeper in
    (st, there, inl (sym answer, new.store, joined refl, one refl, ap (with_station s) is))
takes_one frame s st new Same there answer joined fresh one stays seen keeper =
    (st, there, inr ((λ e. let k = answer ∙ e in cc), ap (with_station s) (stays (λ e. cc)) ∙ ap (λ (o : Option StationView). record s { station = o }) (sym there)))
takes_one frame s st new Clash there answer joined fresh one stays seen keeper =
    (st, there, inr ((λ e. let k = answer ∙ e in cc), ap (with_station s) (stays (λ e. cc)) ∙ ap (λ (o : Option StationView). record s { station = o }) (sym there)))
takes_one frame s st new OtherGuest there answer joined fresh one stays seen keeper =
    (st, there, inr ((λ e. let k = answer ∙ e in cc), ap (with_station s) (stays (λ e. cc)) ∙ ap (λ (o : Option StationView). record s { station = o }) (sym there)))

-- it runs behind that
runs : (frame : Frame) (s t : Site) → TakesOne frame s t → t.station ≡ None → ⊥
runs frame s t (st, there, inl (answer, store, joined, one, is)) none =
    let k = sym none ∙ ap (λ (x : Site). x.station) is in cc
runs frame s t (st, there, inr (answer, is)) none =
    let k = sym none ∙ ap (λ (x : Site). x.station) is ∙ there in cc

-- ---- one behind the other

pub takes_then : (fs gs : List Frame) (s mid t : Site) → TakesAll fs s mid → TakesAll gs mid t → TakesAll (fs ++ gs) s t
takes_then [] gs s mid t is more = subst (λ (x : Site). TakesAll gs x t) is more
takes_then (f ∷ fs) gs s mid t (next, one, others) more = (next, one, takes_then fs gs next mid t others more)

pub takes_more : (fs : List Frame) (f : Frame) (s mid t : Site) → TakesAll fs s mid → TakesOne f mid t → TakesAll (fs ++ f ∷ []) s t
takes_more fs f s mid t all one = takes_then fs (f ∷ []) s mid t all (t, one, refl)

-- where it does not run behind frames, there were none
takes_rests : (fs : List Frame) (s t : Site) → TakesAll fs s t → t.station ≡ None → (s.station ≡ None) × (t ≡ s)
takes_rests [] s t is none = (ap (λ (x : Site). x.station) (sym is) ∙ none, is)
takes_rests (f ∷ fs) s t (next, one, others) none = absurd (runs f s next one (takes_rests fs next t others none).0)

pub rests : (frames fs : List Frame) (s t : Site) → TakesAll fs s t → t.station ≡ None → TakesNot frames s fault.Rests t
rests frames fs s t all none = takes_rests fs s t all none

-- memory was refused behind a beginning of the frames
pub no_memory : (frames fs gs : List Frame) (s t : Site) → frames ≡ fs ++ gs → TakesAll fs s t → TakesNot frames s fault.Memory t
no_memory frames fs gs s t parts all =
    let front : take (length fs) frames ≡ fs = ap (take (length fs)) parts ∙ take_at fs gs (length fs) refl in
    (length fs, subst (λ (x : List Frame). TakesAll x s t) (sym front) all)

-- some of them were taken, and not those behind them
pub not_then : (frames fs gs hs : List Frame) (s mid t : Site) (f : EventFault) → frames ≡ (fs ++ gs) ++ hs → TakesAll fs s mid → TakesNot gs mid f t →
    TakesNot frames s f t
not_then frames fs gs hs s mid t fault.Rests parts all (none, is) =
    let r = takes_rests fs s mid all none in (r.0, is ∙ r.1)
not_then frames fs gs hs s mid t fault.Memory parts all (many, others) =
    let both : fs ++ gs ≡ (fs ++ take many gs) ++ drop many gs =
    ap (λ (x : List Frame). fs ++ x) (sym (take-append-drop many gs)) ∙ sym (append_assoc fs (take many gs) (drop many gs)) in
    no_memory frames (fs ++ take many gs) (drop many gs ++ hs) s t
    (parts ∙ ap (λ (x : List Frame). x ++ hs) both ∙ append_assoc (fs ++ take many gs) (drop many gs) hs)
    (takes_then fs (take many gs) s mid t all others)
not_then frames fs gs hs s mid t other parts all not = absurd not

-- ---- streams of whole frames

-- a sink that did not fail took all
pub wrote : {A E : Type 0} (r : Result A E) (old new : List ℕ) (f g : ℕ) (text : List ℕ) → is_err r ≡ false →
    Writes r (Some old) (Some new) f g text → new ≡ old ++ text
wrote (Ok x) old new f g text ok writes = writes.0
wrote (Err e) old new f g text ok writes = absurd cc

-- these bytes are the first so many frames, and no others
abbrev IsStreamOf : List Frame → ℕ → List ℕ → Type 0
IsStreamOf frames i bytes = (bytes ≡ flat_map spelling (take i frames)) × Splits bytes (take i frames) []

pub one_more : (frames : List Frame) (i : ℕ) (frame : Frame) (old new : List ℕ) → i < length frames → frame ≡ get_or frames i frame →
    new ≡ old ++ spelling frame → Splits (spelling frame) (frame ∷ []) [] → IsStreamOf frames i old → IsStreamOf frames (i + 1) new
one_more frames i frame old new within is written again (bytes, splits) =
    let front : take (i + 1) frames ≡ take i frames ++ frame ∷ [] =
    take_more frames i frame within ∙ ap (λ (f : Frame). take i frames ++ f ∷ []) (sym is) in
    let text : flat_map spelling (take (i + 1) frames) ≡ flat_map spelling (take i frames) ++ spelling frame =
    ap (flat_map spelling) front ∙ flat_map-append spelling (take i frames) (frame ∷ [])
    ∙ ap (λ (x : List ℕ). flat_map spelling (take i frames) ++ x) (append-nil (spelling frame)) in
    let more : Splits new (take i frames ++ frame ∷ []) [] =
    subst (λ (x : List ℕ). Splits x (take i frames ++ frame ∷ []) []) (sym written)
    (splits_on (old ++ spelling frame) (spelling frame) [] (take i frames) (frame ∷ [])
    (splits_more old [] (spelling frame) (take i frames) splits) again) in
    (written ∙ ap (λ (x : List ℕ). x ++ spelling frame) bytes ∙ sym text, subst (λ (fs : List Frame). Splits new fs []) (sym front) more)

abbrev end : Option FrameFault → Unread
end fault = record { rest = []; fault = fault }

module _ (whole : List ℕ) (frames : List Frame) (all : Splits whole frames []) where
  at_end : Follows whole frames (end None)
  at_end = record { rest = []; splits = all; keeps = (refl, partial_nothing) }

  -- behind those that a feed gave of a beginning come others
  pub to_come : (front more : List ℕ) (given : List Frame) (feed : Unread) → whole ≡ front ++ more → Follows front given feed →
      (others : List Frame) × (frames ≡ given ++ others)
  to_come front more given feed parts f =
      let (others, last, split, stuck) = has_reading (f.rest ++ more) in
      let both : Splits whole (given ++ others) last =
      subst (λ (x : List ℕ). Splits x (given ++ others) last) (sym parts)
      (splits_on (front ++ more) (f.rest ++ more) last given others (splits_more front f.rest more given f.splits) split) in
      (others, (one_stream whole frames (given ++ others) [] last all both (inl partial_nothing) stuck).0)

  -- of all of it a feed gave all
  pub all_come : (given : List Frame) (feed : Unread) → Follows whole given feed → given ≡ frames
  all_come given feed f = (one_feed whole given frames feed (end None) f at_end).0

  -- no fault stands in it
  pub no_fault : (front more : List ℕ) (given : List Frame) (rest : List ℕ) (f : FrameFault) → whole ≡ front ++ more → Splits front given rest →
      HasFault rest f → ⊥
  no_fault front more given rest f parts split has =
      let at : Follows whole given (end (Some f)) = record {
        rest = rest ++ more;
        splits = subst (λ (x : List ℕ). Splits x given (rest ++ more)) (sym parts) (splits_more front rest more given split);
        keeps = fault_more rest more f has;
      } in
      let same : Some f ≡ None = (one_feed whole given frames (end (Some f)) (end None) at at_end).1 in
      cc

-- a feed of a stream without a fault fails for want of memory
pub push_fails : (frames given others : List Frame) (s t : Site) (f : FrameFault) (e : EventFault) → frames ≡ given ++ others → TakesAll given s t →
    (f ≡ of_frame.Memory → e ≡ fault.Memory) → (f ≢ of_frame.Memory → ⊥) → TakesNot frames s e t
push_fails frames given others s t of_frame.Memory e parts taken memory none =
    subst (λ (x : EventFault). TakesNot frames s x t) (sym (memory refl)) (no_memory frames given others s t parts taken)
push_fails frames given others s t f e parts taken memory none = absurd (none (λ same. cc))
