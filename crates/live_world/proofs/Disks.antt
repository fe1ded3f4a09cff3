-- What goes on at one keeper's disk while a call lasts, as events of the world of processes.
use Rattle.std.proofs.Common.{◌≡◌, ◌≤◌, ◌++◌, max, ℕ, Bool, true, false, cond, List, [], ◌∷◌, Contains, Option, None, Some, option_map, ◌⊎◌}
use Rattle.std.proofs.Common.{inl, inr, refl, sym, ap, subst, ◌∙◌, append-nil, arith}
use Rattle.std.specs.Option.{option_to_list}
use Rattle.std.proofs.lemmas.List.Elements.{Contains-append_right}
use Rattle.interleaving.proofs.Cuts.{here}
use Rattle.ft_types.specs.Guests.{GuestParts}
use Rattle.ft_types.specs.declared.position.Position.{Position}
use Rattle.fragment_codec.specs.declared.frame.Frame.{Frame}
use Rattle.fragment_codec.specs.Streams.{spelling}
use Rattle.fragment_codec.proofs.streams.Splits.{splits_frames}
use Rattle.guest_image.specs.Image.{ImageContents, guest_of}
use Rattle.stations.specs.Acts.{Act, SawLog, CutTo, Added, Synced as WasSynced, SawFence, Failed}
use Rattle.stations.specs.Handshake.{Files}
use Rattle.stations.specs.Stations.{StationView, Answers, IsNoKeepers, IsNotLogged, logging, said_of}
use Rattle.stations.specs.declared.faults.FilesFault.{FilesFault}
use Rattle.stations.specs.declared.faults.LogFault.{LogFault}
use Rattle.stations.specs.declared.faults.LogFault.TheVariants.{Files as FilesOfLog, Frame as FrameAt, OtherGuest, Clash}
use Rattle.keeper_disks.specs.Disks.{Phase, Away, HasRead, Rests, Adding, Synced, Nothing, Keeps, Reads, Begins, Adds, Syncs, Looks, Acknowledges}
use Rattle.keeper_disks.specs.Disks.{Takes, KeeperEnds, logged}
use Rattle.process_world.specs.Worlds.{ProcessWorld}
use Rattle.process_world.specs.Happenings.{Comes}
use Rattle.wire.specs.declared.acknowledgements.Acknowledgement.{Acknowledgement}
use Rattle.live_world.specs.declared.fault.EventFault.{EventFault}
use Rattle.live_world.specs.declared.fault.EventFault.TheVariants as fault
use Rattle.live_world.specs.declared.event.HandAct.{HandAct}
use Rattle.live_world.specs.declared.event.HandAct.TheVariants as hands
use Rattle.live_world.specs.declared.site.Site.{Site}
use Rattle.live_world.specs.Calls.{AreAll, BeginsNot, CrashesAt, HasBegun, HasLogged, Leaves, LogsNot, TakesAll, TakesOne}
use Rattle.live_world.specs.Passages.{IsDone}
use Rattle.live_world.specs.Shelves.{ShelfView, Besides, HandDoes}
use Rattle.live_world.specs.Sites.{IsAtRest, disk_of, phase_of}
pub use Rattle.live_world.proofs.AtDisks.{GoesAt, ReadIn}
use Rattle.live_world.proofs.AtDisks.{still_read, still_there, as_disk, quiet, with_lists}
use Rattle.live_world.proofs.Steps.{Stands, as_disk_of, hand_step, crash_step, besides, step, fails, acknowledges, ends}
use Rattle.live_world.proofs.Through.{through}

-- a call led to this machine, and what was read of its log meanwhile was handed over there
abbrev pub GoesTill : ProcessWorld → ℕ → Site → List Acknowledgement → Type 0
GoesTill w keeper t said = (x : ProcessWorld) × GoesAt w keeper (disk_of t) said x × ReadIn x keeper t.files.read

-- behind a crash there is no keeper
its_phase : (crashed : Bool) (station : Option StationView) → cond crashed Away (phase_of station) ≡ phase_of (cond crashed None station)
its_phase true station = refl
its_phase false station = refl

none_left : (crashed : Bool) → cond crashed Away Away ≡ Away
none_left true = refl
none_left false = refl

-- whoever hands a log over crashes no machine
hand_lives : (act : HandAct) (s t : ShelfView) → HandDoes act s t → t.crashed ≡ s.crashed
hand_lives hands.Looks s t (nobody, rest) = ap (λ (t : ShelfView). t.crashed) rest
hand_lives (hands.Fences term) s t (last, saw, less, near, rest) = ap (λ (t : ShelfView). t.crashed) rest
hand_lives hands.Reads s t (term, fenced, rest) = ap (λ (t : ShelfView). t.crashed) rest
hand_lives hands.Ends s t rest = ap (λ (t : ShelfView). t.crashed) rest

-- the acts of a keeper that does not begin: the log failed, or was read, or was read and then memory was refused
abbrev BeganNot : List Act → Type 0
BeganNot acts =
    ((f : FilesFault) × (Failed f ∷ [] ≡ acts)) ⊎
    (((log : List ℕ) × (SawLog log ∷ [] ≡ acts)) ⊎ ((log : List ℕ) × (f : FilesFault) × (SawLog log ∷ Failed f ∷ [] ≡ acts)))

began_not : (guest : GuestParts) (acts : List Act) (why : LogFault) → IsNoKeepers guest (AreAll []) (AreAll acts) why → BeganNot acts
began_not guest acts (FilesOfLog f) (inl (inl does)) = inl (f, does [] refl)
began_not guest acts (FilesOfLog f) (inl (inr (log, memory, does))) = inr (inl (log, does [] refl))
began_not guest acts (FilesOfLog f) (inr (log, does)) = inr (inr (log, f, does [] refl))
began_not guest acts (FrameAt f) (log, frames, size, does, front) = inr (inl (log, does [] refl))
began_not guest acts OtherGuest (log, frames, size, does, front, met) = inr (inl (log, does [] refl))
began_not guest acts Clash (log, frames, size, does, front, met) = inr (inl (log, does [] refl))

-- what a call leaves of the machine
left : {w : ProcessWorld} {keeper : ℕ} {p : Phase} {said : List Acknowledgement} (files : ShelfView) (station : Option StationView) →
    cond files.crashed Away p ≡ phase_of station → Stands w keeper files p said →
    GoesTill w keeper (record { files = record files { crashed = false }; station = station }) said
left files station same (x, is) = (
  x,
  as_disk (ap (λ (p : Phase). record { files = files.files; keeper = p; hand = files.hand }) same) is.goes,
  is.read,
)

-- a keeper sees what the log has
sees : (guest : GuestParts) (files : Files) (log : List ℕ) → log ≡ files.log → Keeps guest files Away (SawLog log) (HasRead log) Nothing
sees guest files log seen = subst (λ (log : List ℕ). Keeps guest files Away (SawLog log) (HasRead log) Nothing) (sym seen) Reads

-- a frame that was sent came to the keeper
take_one : {w : ProcessWorld} {keeper : ℕ} (s t : Site) (frame : Frame) → Contains w.frames frame → GoesTill w keeper s [] → TakesOne frame s t →
    GoesTill w keeper t []
take_one {w} {keeper} s t frame sent (x, goes, read) (st, runs, inl (new, store, join, splits, rest)) =
    let now : Site = record s { station = Some (record st { store = store; fresh = st.fresh ++ spelling frame }) } in
    let y : ProcessWorld = with_lists x keeper (disk_of now) [] [] in
    subst (λ (t : Site). GoesTill w keeper t []) (sym rest) (
      y,
      quiet goes (Takes st frame store (ap phase_of runs) sent (splits_frames (spelling frame) [] (frame ∷ []) splits).0 join),
      still_read x y keeper s.files.read (λ h has. has) read,
    )
take_one {w} {keeper} s t frame sent goes (st, runs, inr (old, rest)) = subst (λ (t : Site). GoesTill w keeper t []) (sym rest) goes

take_all : {w : ProcessWorld} {keeper : ℕ} (s t : Site) (frames : List Frame) → ((f : Frame) → Contains frames f → Contains w.frames f) →
    GoesTill w keeper s [] → TakesAll frames s t → GoesTill w keeper t []
take_all {w} {keeper} s t [] sent goes same = subst (λ (t : Site). GoesTill w keeper t []) (sym same) goes
take_all s t (frame ∷ frames) sent goes (mid, one, others) =
    take_all mid t frames (λ f has. sent f (Contains-append_right (frame ∷ []) frames f has))
    (take_one s mid frame (sent frame (here frame frames)) goes one) others

module _ {image : ImageContents} {keepers need : ℕ} {w : ProcessWorld} (comes : Comes image keepers need w) {keeper : ℕ} {s : Site}
    (at : w.disks keeper ≡ Some (disk_of s)) (rests : IsAtRest keeper s) where
  -- how the machine stands when the call begins
  none_read : ReadIn w keeper s.files.read
  none_read = subst (ReadIn w keeper) (sym rests.handed) tt

  stays : GoesTill w keeper s []
  stays = (w, still_there at, none_read)

  begins : (p : Phase) → phase_of s.station ≡ p → Stands w keeper s.files p []
  begins p same =
      subst (λ (p : Phase). Stands w keeper s.files p []) same (
        w,
        record {
          goes = as_disk (sym (as_disk_of s.files (phase_of s.station) rests.lives)) (still_there at);
          read = none_read;
        },
      )

  -- behind a call that did these acts
  leaves : (acts : List Act) (station : Option StationView) (t : Site) (said : List Acknowledgement) (l : Leaves s acts station t) →
      Stands w keeper l.files (phase_of station) said → GoesTill w keeper t said
  leaves acts station t said l is =
      subst (λ (t : Site). GoesTill w keeper t said) (sym l.rest)
      (left l.files (cond l.files.crashed None station) (its_phase l.files.crashed station) is)

  -- and that left no keeper
  leaves_none : {p : Phase} (acts : List Act) (t : Site) (l : Leaves s acts None t) → Stands w keeper l.files p [] → GoesTill w keeper t []
  leaves_none acts t l is = leaves acts None t [] l (ends comes is)

  -- ---- a keeper begins

  pub begun_goes : {t : Site} → HasBegun (guest_of w.image) keeper s t → GoesTill w keeper t []
  begun_goes {t} has =
      let l = has.leaves in
      let (m, u, before, did, (n, v, between, cut, behind)) = through s.files l.files (SawLog has.log ∷ CutTo has.size ∷ []) l.passes in
      let read = step comes (SawLog has.log) (HasRead has.log) (begins Away (ap phase_of has.away)) before did
      (sees (guest_of w.image) m.files has.log did.seen) in
      let begun = step comes (CutTo has.size) (Rests has.station) read between cut
      (Begins has.log has.frames has.size has.station has.front has.on_log has.same_guest has.nothing_fresh) in
      leaves (SawLog has.log ∷ CutTo has.size ∷ []) (Some has.station) t [] l (besides comes begun behind)

  not_read : (t : Site) (f : FilesFault) → s.station ≡ None → Leaves s (Failed f ∷ []) None t → GoesTill w keeper t []
  not_read t f away l =
      let (m, u, before, did, behind) = through s.files l.files (Failed f ∷ []) l.passes in
      leaves_none (Failed f ∷ []) t l (besides comes (fails comes f (begins Away (ap phase_of away)) before did) behind)

  was_read : (t : Site) (log : List ℕ) → s.station ≡ None → Leaves s (SawLog log ∷ []) None t → GoesTill w keeper t []
  was_read t log away l =
      let (m, u, before, did, behind) = through s.files l.files (SawLog log ∷ []) l.passes in
      let read = step comes (SawLog log) (HasRead log) (begins Away (ap phase_of away)) before did (sees (guest_of w.image) m.files log did.seen) in
      leaves_none (SawLog log ∷ []) t l (besides comes read behind)

  not_cut : (t : Site) (log : List ℕ) (f : FilesFault) → s.station ≡ None → Leaves s (SawLog log ∷ Failed f ∷ []) None t → GoesTill w keeper t []
  not_cut t log f away l =
      let (m, u, before, did, (n, v, between, failed, behind)) = through s.files l.files (SawLog log ∷ Failed f ∷ []) l.passes in
      let read = step comes (SawLog log) (HasRead log) (begins Away (ap phase_of away)) before did (sees (guest_of w.image) m.files log did.seen) in
      leaves_none (SawLog log ∷ Failed f ∷ []) t l (besides comes (fails comes f read between failed) behind)

  pub begun_not_goes : (f : EventFault) (t : Site) → BeginsNot (guest_of w.image) s f t → GoesTill w keeper t []
  begun_not_goes fault.Runs t (runs, same) = subst (λ (t : Site). GoesTill w keeper t []) (sym same) stays
  begun_not_goes (fault.Log why) t (away, acts, no_keepers, l) =
      elim (began_not (guest_of w.image) acts why no_keepers) [
        | inl (f, same) ↦ not_read t f away (subst (λ (acts : List Act). Leaves s acts None t) (sym same) l)
        | inr (inl (log, same)) ↦ was_read t log away (subst (λ (acts : List Act). Leaves s acts None t) (sym same) l)
        | inr (inr (log, f, same)) ↦ not_cut t log f away (subst (λ (acts : List Act). Leaves s acts None t) (sym same) l)
      ]
  begun_not_goes other t not = absurd not

  -- ---- a keeper logs and acknowledges

  -- what is fresh is added
  adds : (st : StationView) (front rest : List ℕ) {m u : ShelfView} → s.station ≡ Some st → st.fresh ≡ front ++ rest → Besides s.files m →
      IsDone m (Added front) u → Stands w keeper u (Adding st rest) []
  adds st front rest runs parts before did = step comes (Added front) (Adding st rest) (begins (Rests st) (ap phase_of runs)) before did (Adds st front rest parts)

  -- and is on disk
  syncs : (st : StationView) {m u n v : ShelfView} → s.station ≡ Some st → Besides s.files m → IsDone m (Added st.fresh) u → Besides u n →
      IsDone n WasSynced v → Stands w keeper v (Synced st) []
  syncs st runs before did between synced =
      step comes WasSynced (Synced st) (adds st st.fresh [] runs (sym (append-nil st.fresh)) before did) between synced (Syncs st)

  -- and behind the fence it says what it has
  answers : (st : StationView) (fence : ℕ) (position : Option Position) {v o q : ShelfView} → Answers st.store (max st.seen fence) position →
      Stands w keeper v (Synced st) [] → Besides v o → IsDone o (SawFence fence) q →
      Stands w keeper q (Rests (logged st fence)) (option_to_list (option_map (said_of keeper) position))
  answers st fence None {o = o} may is between saw =
      let le : o.files.fence ≤ fence = (let seen : fence ≡ o.files.fence = saw.seen in omega arith) in
      step comes (SawFence fence) (Rests (logged st fence)) is between saw (Looks st fence le)
  answers st fence (Some p) {o = o} may is between saw =
      let le : o.files.fence ≤ fence = (let seen : fence ≡ o.files.fence = saw.seen in omega arith) in
      acknowledges comes fence (Rests (logged st fence)) p is between saw (Acknowledges st fence p le may)

  pub logged_goes : {said : Option Acknowledgement} {t : Site} → HasLogged s said t → GoesTill w keeper t (option_to_list said)
  logged_goes {said} {t} has =
      let st = has.station in
      let l = has.leaves in
      let (m, u, before, added, (n, v, between, synced, (o, q, later, saw, behind))) = through s.files l.files (logging st.fresh has.fence) l.passes in
      let (position, may, is) = has.says in
      let same : option_map (said_of keeper) position ≡ said =
      ap (λ (number : ℕ). option_map (said_of number) position) (sym (rests.own st has.runs)) ∙ sym is in
      let stands = answers st has.fence position may (syncs st has.runs before added between synced) later saw in
      subst (λ (said : Option Acknowledgement). GoesTill w keeper t (option_to_list said)) same
      (leaves (logging st.fresh has.fence) (Some (logged st has.fence)) t (option_to_list (option_map (said_of keeper) position)) l
      (besides comes stands behind))

  not_added : (t : Site) (st : StationView) (front rest : List ℕ) (f : FilesFault) → s.station ≡ Some st → st.fresh ≡ front ++ rest →
      Leaves s (Added front ∷ Failed f ∷ []) None t → GoesTill w keeper t []
  not_added t st front rest f runs parts l =
      let (m, u, before, did, (n, v, between, failed, behind)) = through s.files l.files (Added front ∷ Failed f ∷ []) l.passes in
      leaves_none (Added front ∷ Failed f ∷ []) t l
      (besides comes (fails comes f (adds st front rest runs parts before did) between failed) behind)

  not_seen : (t : Site) (st : StationView) (f : FilesFault) → s.station ≡ Some st → Leaves s (Added st.fresh ∷ WasSynced ∷ Failed f ∷ []) None t →
      GoesTill w keeper t []
  not_seen t st f runs l =
      let (m, u, before, did, (n, v, between, synced, (o, q, later, failed, behind))) =
      through s.files l.files (Added st.fresh ∷ WasSynced ∷ Failed f ∷ []) l.passes in
      leaves_none (Added st.fresh ∷ WasSynced ∷ Failed f ∷ []) t l
      (besides comes (fails comes f (syncs st runs before did between synced) later failed) behind)

  not_logged : (t : Site) (st : StationView) (f : FilesFault) (acts : List Act) → s.station ≡ Some st →
      IsNotLogged st.fresh (AreAll []) (AreAll acts) f → Leaves s acts None t → GoesTill w keeper t []
  not_logged t st f acts runs (inl (front, rest, parts, does)) l =
      not_added t st front rest f runs parts (subst (λ (acts : List Act). Leaves s acts None t) (sym (does [] refl)) l)
  not_logged t st f acts runs (inr (inl does)) l =
      not_added t st st.fresh [] f runs (sym (append-nil st.fresh)) (subst (λ (acts : List Act). Leaves s acts None t) (sym (does [] refl)) l)
  not_logged t st f acts runs (inr (inr does)) l =
      not_seen t st f runs (subst (λ (acts : List Act). Leaves s acts None t) (sym (does [] refl)) l)

  pub logged_not_goes : (f : EventFault) (t : Site) → LogsNot s f t → GoesTill w keeper t []
  logged_not_goes fault.Rests t (away, same) = subst (λ (t : Site). GoesTill w keeper t []) (sym same) stays
  logged_not_goes (fault.Files why) t (st, runs, acts, none, l) = not_logged t st why acts runs none l
  logged_not_goes other t not = absurd not

  -- ---- crashes, and ends

  pub crash_goes : {t : Site} → CrashesAt s t → GoesTill w keeper t []
  crash_goes (files, crashes, rest) =
      let stands = ends comes (crash_step (begins (phase_of s.station) refl).1 comes crashes) in
      subst (λ (t : Site). GoesTill w keeper t []) (sym rest) (left files None (none_left files.crashed) stands)

  pub end_goes : GoesTill w keeper (record s { station = None }) []
  end_goes =
      let gone : Site = record s { station = None } in
      let y : ProcessWorld = with_lists w keeper (disk_of gone) [] [] in
      (y, quiet (still_there at) KeeperEnds, still_read w y keeper s.files.read (λ h has. has) none_read)

  -- ---- whoever hands the log over

  pub hand_goes : (act : HandAct) (t : Site) → HandDoes act s.files t.files → t.station ≡ s.station → GoesTill w keeper t []
  hand_goes act t does same =
      let (x, is) = hand_step (begins (phase_of s.station) refl).1 act does in
      let lives : t.files.crashed ≡ false = hand_lives act s.files t.files does ∙ rests.lives in
      let phase : phase_of s.station ≡ phase_of t.station = ap phase_of (sym same) in
      let disk = as_disk_of t.files (phase_of s.station) lives
      ∙ ap (λ (p : Phase). record { files = t.files.files; keeper = p; hand = t.files.hand }) phase in
      (x, as_disk disk is.goes, is.read)

  -- ---- frames that were sent came to the keeper

  pub take_goes : (t : Site) (frames : List Frame) → ((f : Frame) → Contains frames f → Contains w.frames f) → TakesAll frames s t → GoesTill w keeper t []
  take_goes t frames sent takes = take_all s t frames sent stays takes
