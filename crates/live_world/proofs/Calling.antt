-- A keeper's call over files that tell what was done.
use Rattle.std.proofs.Common.{◌≡◌, ◌++◌, max, ℕ, Bool, true, false, List, [], ◌∷◌, Option, None, Some, if◌then◌else◌, refl, sym, ap, subst, ◌∙◌, append_assoc, append-nil, inl, inr}
use Rattle.std.specs.Prelude.{is_some}
use Rattle.ft_types.specs.Guests.{GuestParts}
use Rattle.stations.specs.Acts.{Act, SawLog, Added, Synced, Failed, Does}
use Rattle.stations.specs.Stations.{StationView, AnswersAs, IsBegun, IsNoKeepers, IsNotLogged, logging}
use Rattle.stations.specs.declared.faults.FilesFault.{FilesFault}
use Rattle.stations.specs.declared.faults.LogFault.{LogFault}
use Rattle.stations.specs.declared.faults.LogFault.TheVariants.{Files, Frame as FrameAt, OtherGuest, Clash}
use Rattle.keeper_disks.specs.Disks.{logged}
use Rattle.wire.specs.declared.acknowledgements.Acknowledgement.{Acknowledgement}
use Rattle.live_world.specs.declared.fault.EventFault.TheVariants as fault
use Rattle.live_world.specs.declared.site.Site.{Site}
use Rattle.live_world.specs.Calls.{AreAll, BeginsNot, HasBegun, HasLogged, Leaves, LogsNot}
use Rattle.live_world.specs.Passages.{Passes, Begins, ThenDid, ThenBeside}
use Rattle.live_world.specs.Shelves.{ShelfView}
use Rattle.live_world.specs.machinery.Passing.{Tells}
use Rattle.live_world.proofs.Telling.{passed}

-- ---- what passed

passes_then : {s t u : ShelfView} (xs ys : List Act) → Passes s xs t → Passes t ys u → Passes s (xs ++ ys) u
passes_then {s} {t} xs _ first Begins = subst (λ (acts : List Act). Passes s acts t) (sym (append-nil xs)) first
passes_then {s} xs _ first (ThenDid {acts} {t = v} {u} later act done) =
    subst (λ (all : List Act). Passes s all u) (append_assoc xs acts (act ∷ [])) (ThenDid (passes_then xs acts first later) act done)
passes_then xs ys first (ThenBeside later beside) = ThenBeside (passes_then xs ys first later) beside

abbrev pub at_end : ShelfView → ShelfView
at_end files = record files { crashed = false }

abbrev pub with_files : ShelfView → Option StationView → Site
with_files files station = record { files = files; station = station }

-- with the files of the one, and the process of the other
abbrev over : Site → ShelfView → Site
over s files = record s { files = files }

-- the acts of a call, and what happened behind them
leaves_then : {s mid t : Site} {acts : List Act} {station : Option StationView} → Passes s.files acts mid.files → Leaves mid [] station t →
    Leaves s acts station t
leaves_then {s} {mid} {t} {acts} passes leaves = record {
  files = leaves.files;
  passes = subst (λ (all : List Act). Passes s.files all leaves.files) (append-nil acts) (passes_then acts [] passes leaves.passes);
  rest = leaves.rest;
}

-- its process is gone where the machine crashed
pub at_rest : (crashed : Bool) (files : ShelfView) (station left : Option StationView) → files.crashed ≡ crashed →
    left ≡ (if crashed then None else station) → with_files (at_end files) left ≡ with_files (at_end files) (if files.crashed then None else station)
at_rest crashed files station left is process =
    ap (with_files (at_end files)) (process ∙ ap (λ (b : Bool). if b then None else station) (sym is))

-- ---- a keeper begins

all : (acts : List Act) → Does (AreAll []) (AreAll acts) acts
all acts = λ done none. ap (λ (x : List Act). x ++ acts) none

no_keepers : (guest : GuestParts) (a b : ShelfView) (why : LogFault) → IsNoKeepers guest (Tells a) (Tells b) why →
    (acts : List Act) × IsNoKeepers guest (AreAll []) (AreAll acts) why × Passes a acts b
no_keepers guest a b (Files f) (inl (inl does)) = (Failed f ∷ [], inl (inl (all (Failed f ∷ []))), passed does)
no_keepers guest a b (Files f) (inl (inr (log, memory, does))) = (SawLog log ∷ [], inl (inr (log, memory, all (SawLog log ∷ []))), passed does)
no_keepers guest a b (Files f) (inr (log, does)) = (SawLog log ∷ Failed f ∷ [], inr (log, all (SawLog log ∷ Failed f ∷ [])), passed does)
no_keepers guest a b (FrameAt f) (log, frames, size, does, front) =
    (SawLog log ∷ [], (log, frames, size, all (SawLog log ∷ []), front), passed does)
no_keepers guest a b OtherGuest (log, frames, size, does, front, met) =
    (SawLog log ∷ [], (log, frames, size, all (SawLog log ∷ []), front, met), passed does)
no_keepers guest a b Clash (log, frames, size, does, front, met) =
    (SawLog log ∷ [], (log, frames, size, all (SawLog log ∷ []), front, met), passed does)

pub is_away : (station : Option StationView) → is_some station ≡ false → station ≡ None
is_away None rests = refl
is_away (Some st) rests = absurd cc

pub is_there : (station : Option StationView) → is_some station ≡ true → (st : StationView) × (station ≡ Some st)
is_there None runs = absurd cc
is_there (Some st) runs = (st, refl)

pub begun : (guest : GuestParts) (keeper : ℕ) (s t : Site) (mid : ShelfView) (station : StationView) → s.station ≡ None →
    IsBegun guest keeper (Tells s.files) (Tells mid) station → Leaves (over s mid) [] (Some station) t → HasBegun guest keeper s t
begun guest keeper s t mid station away b leaves = record {
  away = away;
  log = b.log;
  frames = b.frames;
  size = b.size;
  front = b.front;
  station = station;
  own = b.own;
  same_guest = b.same_guest;
  on_log = b.on_log;
  nothing_fresh = b.nothing_fresh;
  nothing_seen = b.nothing_seen;
  leaves = leaves_then (passed b.acts) leaves;
}

pub begins_not : (guest : GuestParts) (s t : Site) (mid : ShelfView) (why : LogFault) → s.station ≡ None →
    IsNoKeepers guest (Tells s.files) (Tells mid) why → Leaves (over s mid) [] None t → BeginsNot guest s (fault.Log why) t
begins_not guest s t mid why away not leaves =
    let (acts, none, passes) = no_keepers guest s.files mid why not in
    (away, acts, none, leaves_then passes leaves)

-- ---- a keeper logs

not_logged : (fresh : List ℕ) (a b : ShelfView) (why : FilesFault) → IsNotLogged fresh (Tells a) (Tells b) why →
    (acts : List Act) × IsNotLogged fresh (AreAll []) (AreAll acts) why × Passes a acts b
not_logged fresh a b why (inl (front, rest, parts, does)) =
    (Added front ∷ Failed why ∷ [], inl (front, rest, parts, all (Added front ∷ Failed why ∷ [])), passed does)
not_logged fresh a b why (inr (inl does)) =
    (Added fresh ∷ Failed why ∷ [], inr (inl (all (Added fresh ∷ Failed why ∷ []))), passed does)
not_logged fresh a b why (inr (inr does)) =
    (Added fresh ∷ Synced ∷ Failed why ∷ [], inr (inr (all (Added fresh ∷ Synced ∷ Failed why ∷ []))), passed does)

-- the keeper behind its call
abbrev behind : StationView → ℕ → StationView
behind st seen = record { keeper = st.keeper; store = st.store; fresh = []; seen = seen }

pub has_logged : (s mid t : Site) (st new : StationView) (said : Option Acknowledgement) (fence : ℕ) → s.station ≡ Some st →
    Does (Tells s.files) (Tells mid.files) (logging st.fresh fence) → new.seen ≡ max st.seen fence → new ≡ behind st new.seen →
    AnswersAs st.keeper st.store new.seen said → Leaves mid [] (Some new) t → HasLogged s said t
has_logged s mid t st new said fence runs does seen is says leaves =
    let same : new ≡ logged st fence = is ∙ ap (behind st) seen in
    record {
      station = st;
      runs = runs;
      fence = fence;
      leaves = leaves_then (passed does) (subst (λ (x : StationView). Leaves mid [] (Some x) t) same leaves);
      says = subst (λ (n : ℕ). AnswersAs st.keeper st.store n said) seen says;
    }

pub logs_not : (s mid t : Site) (st : StationView) (why : FilesFault) → s.station ≡ Some st →
    IsNotLogged st.fresh (Tells s.files) (Tells mid.files) why → Leaves mid [] None t → LogsNot s (fault.Files why) t
logs_not s mid t st why runs not leaves =
    let (acts, none, passes) = not_logged st.fresh s.files mid.files why not in
    (st, runs, acts, none, leaves_then passes leaves)
