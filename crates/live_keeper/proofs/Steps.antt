-- Frames and events that are taken, one behind the other.
use Rattle.std.proofs.Common.{◌≡◌, ◌⊎◌, inl, inr, ◌≢◌, ◌||◌, ℕ, Bool, true, false, List, [], ◌∷◌, ◌++◌, refl, sym, ap, subst, ◌∙◌, append_assoc, append-nil}
use Rattle.std.specs.List.{AllByRecursion}
use Rattle.fragment_codec.specs.declared.frame.Frame.{Frame}
use Rattle.fragment_codec.specs.Streams.{spelling}
use Rattle.log_join.specs.Answers.{answer_to}
use Rattle.log_join.specs.Stores.{StoreView, IsJoin, alone}
use Rattle.log_join.specs.declared.answers.Put.{Put}
use Rattle.log_join.specs.declared.answers.Put.TheVariants.{New, Same, OtherGuest, Clash}
use Rattle.stations.specs.Stations.{StationView, IsFar}
use Rattle.live_keeper.specs.Turns.{KeepingView, TakesFrames, TookAll, TookNew, TookOther, PassedOver, with_new, TakesEvent, TakesEvents, NoEvent, OneEvent, is_logged, are_logged, passed_of, passes, IsPass}
use Rattle.live_keeper.specs.declared.events.Event.{Event}
use Rattle.live_keeper.specs.declared.events.Event.TheVariants.{Begin, Frames, Ended, Passed, Failed}
use Rattle.live_keeper.specs.declared.events.KeeperDeed.{KeeperDeed}
use Rattle.live_keeper.specs.declared.events.KeeperDeed.TheVariants.{Say, Pass}

-- ---- frames

pub took_more : (s t u : StationView) (frames more : List Frame) → TakesFrames s frames t → TakesFrames t more u → TakesFrames s (frames ++ more) u
took_more s t u frames more (TookAll same) others = others
took_more s t u frames more (TookNew from to frame rest store near is join takes) others =
    TookNew s u frame (rest ++ more) store near is join (took_more (with_new s frame store) t u rest more takes others)
took_more s t u frames more (TookOther from to frame rest other clean takes) others =
    TookOther s u frame (rest ++ more) other clean (took_more s t u rest more takes others)
took_more s t u frames more (PassedOver from to frame rest far takes) others =
    PassedOver s u frame (rest ++ more) far (took_more s t u rest more takes others)

-- a station with a new frame is known by its parts
with_is : (s t : StationView) (frame : Frame) → t.fresh ≡ s.fresh ++ spelling frame → t.seen ≡ s.seen → t.keeper ≡ s.keeper → with_new s frame t.store ≡ t
with_is s t frame fresh seen keeper =
    ap (λ (bytes : List ℕ). let v : StationView = record { keeper = s.keeper; store = t.store; fresh = bytes; seen = s.seen } in v) (sym fresh)
    ∙ ap (λ (fence : ℕ). let v : StationView = record { keeper = s.keeper; store = t.store; fresh = t.fresh; seen = fence } in v) (sym seen)
    ∙ ap (λ (number : ℕ). let v : StationView = record { keeper = number; store = t.store; fresh = t.fresh; seen = t.seen } in v) (sym keeper)

-- what `take` says of a frame that is new
took_new : (s t : StationView) (frame : Frame) → (IsFar s frame → ⊥) → answer_to s.store frame ≡ New → IsJoin s.store (alone frame) t.store →
    t.fresh ≡ s.fresh ++ spelling frame → t.seen ≡ s.seen → t.keeper ≡ s.keeper → TakesFrames s (frame ∷ []) t
took_new s t frame near is join fresh seen keeper = TookNew s t frame [] t.store near is join
    (subst (λ (v : StationView). TakesFrames v [] t) (sym (with_is s t frame fresh seen keeper)) (TookAll t))

took_other : (s t : StationView) (frame : Frame) (put : Put) → put ≡ answer_to s.store frame → (put ≡ New → ⊥) → (put ≡ Clash → ⊥) → t ≡ s →
    TakesFrames s (frame ∷ []) t
took_other s t frame put is other clean same = subst (λ (v : StationView). TakesFrames s (frame ∷ []) v) (sym same)
    (TookOther s s frame [] (λ e. other (is ∙ e)) (λ e. clean (is ∙ e)) (TookAll s))

is_other : (put one other : Put) → put ≡ one → (one ≡ other → ⊥) → put ≡ other → ⊥
is_other put one other is differs e = differs (sym is ∙ e)

-- a frame that is far changes nothing
pub passed_over : (s : StationView) (frame : Frame) → IsFar s frame → TakesFrames s (frame ∷ []) s
passed_over s frame far = PassedOver s s frame [] far (TookAll s)

-- what `take` says of a frame that is not, and does not clash
pub took : (s t : StationView) (frame : Frame) (put : Put) → (IsFar s frame → ⊥) → put ≡ answer_to s.store frame →
    (put ≡ New) ⊎ ((put ≡ Same) ⊎ (put ≡ OtherGuest)) → (put ≡ New → IsJoin s.store (alone frame) t.store) →
    (put ≡ New → t.fresh ≡ s.fresh ++ spelling frame) → ((put ≡ New → ⊥) → t ≡ s) → t.seen ≡ s.seen → t.keeper ≡ s.keeper →
    TakesFrames s (frame ∷ []) t
took s t frame put near is (inl new) join fresh stays seen keeper = took_new s t frame near (sym is ∙ new) (join new) (fresh new) seen keeper
took s t frame put near is (inr (inl same)) join fresh stays seen keeper =
    let other : put ≡ New → ⊥ = is_other put Same New same (λ e. absurd cc) in
    took_other s t frame put is other (is_other put Same Clash same (λ e. absurd cc)) (stays other)
took s t frame put near is (inr (inr foreign)) join fresh stays seen keeper =
    let other : put ≡ New → ⊥ = is_other put OtherGuest New foreign (λ e. absurd cc) in
    took_other s t frame put is other (is_other put OtherGuest Clash foreign (λ e. absurd cc)) (stays other)

-- ---- events

pub one_more : (k t u : KeepingView) (events : List Event) (event : Event) → TakesEvents k events t → TakesEvent event t u →
    TakesEvents k (events ++ event ∷ []) u
one_more k t u events event (NoEvent same) takes = OneEvent k u u event [] takes (NoEvent u)
one_more k t u events event (OneEvent from between to first rest took others) takes =
    OneEvent k between u first (rest ++ event ∷ []) took (one_more between t u rest event others takes)

or_assoc : (a b c : Bool) → (a || (b || c)) ≡ ((a || b) || c)
or_assoc true b c = refl
or_assoc false b c = refl

or_false : (b : Bool) → (b || false) ≡ b
or_false true = refl
or_false false = refl

logged_more : (events : List Event) (event : Event) → are_logged (events ++ event ∷ []) ≡ (are_logged events || is_logged event)
logged_more [] event = or_false (is_logged event)
logged_more (first ∷ events) event = ap (λ (b : Bool). is_logged first || b) (logged_more events event) ∙ or_assoc (is_logged first) (are_logged events) (is_logged event)

-- one that was to be logged before is still to be
pub logged_before : (events : List Event) (event : Event) (logged : Bool) → logged ≡ are_logged events → logged ≡ true →
    logged ≡ are_logged (events ++ event ∷ [])
logged_before events event logged was is =
    is ∙ sym (ap (λ (b : Bool). b || is_logged event) (sym was ∙ is)) ∙ sym (logged_more events event)

-- and where none was, the next one decides
pub logged_now : (events : List Event) (event : Event) (logged asked : Bool) → logged ≡ are_logged events → logged ≡ false → asked ≡ is_logged event →
    asked ≡ are_logged (events ++ event ∷ [])
logged_now events event logged asked was is next =
    next ∙ sym (ap (λ (b : Bool). b || is_logged event) (sym was ∙ is)) ∙ sym (logged_more events event)

passes_more : (events : List Event) (event : Event) → passes (events ++ event ∷ []) ≡ passes events ++ passed_of event
passes_more [] event = append-nil (passed_of event)
passes_more (first ∷ events) event =
    ap (λ (ds : List KeeperDeed). passed_of first ++ ds) (passes_more events event) ∙ sym (append_assoc (passed_of first) (passes events) (passed_of event))

pub passed_on : (events : List Event) (event : Event) (before middle behind : List KeeperDeed) → middle ≡ before ++ passes events →
    behind ≡ middle ++ passed_of event → behind ≡ before ++ passes (events ++ event ∷ [])
passed_on events event before middle behind was is =
    is ∙ ap (λ (ds : List KeeperDeed). ds ++ passed_of event) was ∙ append_assoc before (passes events) (passed_of event)
    ∙ ap (λ (ds : List KeeperDeed). before ++ ds) (sym (passes_more events event))

-- ---- deeds that say nothing

all_pass : (ds es : List KeeperDeed) → AllByRecursion IsPass ds → AllByRecursion IsPass es → AllByRecursion IsPass (ds ++ es)
all_pass [] es p q = q
all_pass (d ∷ ds) es p q = (p.0, all_pass ds es p.1 q)

one_passes : (event : Event) → AllByRecursion IsPass (passed_of event)
one_passes Begin = tt
one_passes (Frames input frames) = tt
one_passes Ended = tt
one_passes (Passed fault) = (tt, tt)
one_passes (Failed fault) = tt

all_passes : (events : List Event) → AllByRecursion IsPass (passes events)
all_passes [] = tt
all_passes (event ∷ events) = all_pass (passed_of event) (passes events) (one_passes event) (all_passes events)

-- behind deeds that say nothing, faults that are passed over say nothing
pub silent_still : (before behind : List KeeperDeed) (events : List Event) → behind ≡ before ++ passes events → AllByRecursion IsPass before →
    AllByRecursion IsPass behind
silent_still before behind events is silent =
    subst (λ (ds : List KeeperDeed). AllByRecursion IsPass ds) (sym is) (all_pass before (passes events) silent (all_passes events))
