-- What calls at a keeper's machine lead to.
use Rattle.std.proofs.Common.{◌≡◌, inl, inr, ◌<◌, ◌++◌, ℕ, Bool, true, false, List, [], ◌∷◌, Contains, drop, take, Option, None, Some, option_to_list, option_map, if◌then◌else◌, refl, sym, ap, subst, ◌∙◌}
use Rattle.std.proofs.lemmas.List.{take-append-drop}
use Rattle.std.proofs.lemmas.List.Elements.{Contains-append_left, Contains-append_right}
use Rattle.ft_types.specs.Guests.{GuestParts}
use Rattle.ft_types.specs.declared.names.TheConstants.{KEEPER_LIMIT}
use Rattle.guest_image.specs.Image.{ImageContents, guest_of}
use Rattle.fragment_codec.specs.declared.frame.Frame.{Frame}
use Rattle.fragment_codec.specs.Streams.{spelling}
use Rattle.fenced_theory.proofs.Growing.{some_same}
use Rattle.stations.specs.Acts.{Act, SawLog, CutTo}
use Rattle.stations.specs.Handing.{IsHandedTo}
use Rattle.stations.specs.Stations.{StationView, logging}
use Rattle.keeper_disks.specs.Disks.{Disk, logged}
use Rattle.process_world.specs.Worlds.{Handed, ProcessWorld}
use Rattle.process_world.specs.Happenings.{Comes}
use Rattle.process_world.proofs.Lists.{none_in, only_one}
use Rattle.wire.specs.declared.acknowledgements.Acknowledgement.{Acknowledgement}
use Rattle.live_world.specs.declared.event.HandAct.{HandAct}
use Rattle.live_world.specs.declared.event.HandAct.TheVariants as hands
use Rattle.live_world.specs.declared.fault.EventFault.{EventFault}
use Rattle.live_world.specs.declared.fault.EventFault.TheVariants as fault
use Rattle.live_world.specs.declared.hand.HandedTo.{HandedTo}
use Rattle.live_world.specs.declared.site.Site.{Site}
use Rattle.live_world.specs.Calls.{BeginsNot, CrashesAt, HandsRead, HasBegun, HasLogged, Leaves, LogsNot, TakesAll, TakesOne}
use Rattle.live_world.specs.Shelves.{HandDoes, ShelfView}
use Rattle.live_world.specs.Sites.{IsAtRest, disk_of, site_at}
use Rattle.live_world.specs.Views.{GoesTo, IsHandedIn, IsWorldOf, LiveView}
use Rattle.live_world.proofs.AtSites.{at_site, moved}
use Rattle.live_world.proofs.Disks.{GoesAt, GoesTill, ReadIn, begun_goes, begun_not_goes, crash_goes, end_goes, hand_goes, logged_goes, logged_not_goes, take_goes}

-- the machine, where nothing that was read is to be handed over any more
abbrev pub unread : Site → Site
unread t = record t { files = record t.files { read = None } }

-- what stands in a part of a list stands in it
pub in_range : {A : Type 0} (n m : ℕ) (xs : List A) (x : A) → Contains (take n (drop m xs)) x → Contains xs x
in_range {A} n m xs x has =
    let behind : Contains (drop m xs) x =
    subst (λ (all : List A). Contains all x) (take-append-drop n (drop m xs)) (Contains-append_left (take n (drop m xs)) (drop n (drop m xs)) x has) in
    subst (λ (all : List A). Contains all x) (take-append-drop m xs) (Contains-append_right (take m xs) (drop m xs) x behind)

-- ---- what was read is handed over

-- what is handed over, by its parts
abbrev handed_by : ℕ → ℕ → List ℕ → Handed
handed_by keeper term bytes = record { keeper = keeper; term = term; bytes = bytes }

-- what is handed over was read there
pub hands_in : (guest : GuestParts) (x : ProcessWorld) (keeper : ℕ) (t : Site) → guest_of x.image ≡ guest → keeper < KEEPER_LIMIT →
    ReadIn x keeper t.files.read → (one : Option HandedTo) → HandsRead guest keeper t one → (h : HandedTo) → Contains (option_to_list one) h → IsHandedIn x h
hands_in guest x keeper t same named read None has h at = none_in [] h refl at
hands_in guest x keeper t same named read (Some handed) (seen, is, has) h at =
    let there : Contains x.handed (handed_by keeper seen.term has.bytes) =
    subst (ReadIn x keeper) is read has.bytes has.rest has.frames has.parts has.splits has.partial in
    subst (IsHandedIn x) (only_one handed h at) (record {
      bytes = has.bytes;
      there = subst (λ (n : ℕ). Contains x.handed (handed_by n handed.term has.bytes)) (sym has.of_keeper)
          (subst (λ (n : ℕ). Contains x.handed (handed_by keeper n has.bytes)) (sym has.of_term) there);
      line = subst (λ (g : GuestParts). IsHandedTo g handed.keeper handed.term has.bytes handed.bytes.items) (sym same)
          (subst (λ (n : ℕ). IsHandedTo guest n handed.term has.bytes handed.bytes.items) (sym has.of_keeper)
          (subst (λ (n : ℕ). IsHandedTo guest keeper n has.bytes handed.bytes.items) (sym has.of_term) has.line));
      named = subst (λ (n : ℕ). n < KEEPER_LIMIT) (sym has.of_keeper) named;
    })

-- ---- machines at rest

-- a process is there only where the machine did not crash
stays_there : (b : Bool) (station : Option StationView) (st : StationView) → (if b then None else station) ≡ Some st → station ≡ Some st
stays_there true station st is = absurd cc
stays_there false station st is = is

-- a call leaves a machine at rest
leaves_rests : (keeper : ℕ) (s : Site) (acts : List Act) (station : Option StationView) (t : Site) → Leaves s acts station t →
    ((st : StationView) → station ≡ Some st → st.keeper ≡ keeper) → IsAtRest keeper (unread t)
leaves_rests keeper s acts station t leaves own = record {
  handed = refl;
  lives = ap (λ (u : Site). u.files.crashed) leaves.rest;
  own = λ st is. own st (stays_there leaves.files.crashed station st (sym (ap (λ (u : Site). u.station) leaves.rest) ∙ is));
}

-- a machine at rest is so where nothing is read
unread_rests : (keeper : ℕ) (s : Site) → IsAtRest keeper s → IsAtRest keeper (unread s)
unread_rests keeper s rests = record { handed = refl; lives = rests.lives; own = rests.own }

-- so does a frame that comes
takes_one_rests : (keeper : ℕ) (frame : Frame) (s t : Site) → TakesOne frame s t → IsAtRest keeper s → IsAtRest keeper t
takes_one_rests keeper frame s t (st, runs, inl new) rests = record {
  handed = ap (λ (u : Site). u.files.read) new.4 ∙ rests.handed;
  lives = ap (λ (u : Site). u.files.crashed) new.4 ∙ rests.lives;
  own = λ u is.
      let more : StationView = record st { store = new.1; fresh = st.fresh ++ spelling frame } in
      let same : more ≡ u = some_same (ap (λ (z : Site). z.station) new.4) is in
      sym (ap (λ (z : StationView). z.keeper) same) ∙ rests.own st runs;
}
takes_one_rests keeper frame s t (st, runs, inr old) rests = subst (IsAtRest keeper) (sym old.1) rests

-- one frame behind the other
pub takes_rests : (keeper : ℕ) (frames : List Frame) (s t : Site) → TakesAll frames s t → IsAtRest keeper s → IsAtRest keeper t
takes_rests keeper [] s t takes rests = subst (IsAtRest keeper) (sym takes) rests
takes_rests keeper (frame ∷ frames) s t (mid, one, all) rests = takes_rests keeper frames mid t all (takes_one_rests keeper frame s mid one rests)

-- a keeper that did not begin, or did not log, leaves it so
begins_not_rests : (guest : GuestParts) (keeper : ℕ) (s : Site) (f : EventFault) (t : Site) → BeginsNot guest s f t → IsAtRest keeper s →
    IsAtRest keeper (unread t)
begins_not_rests guest keeper s fault.Runs t (runs, same) rests = unread_rests keeper t (subst (IsAtRest keeper) (sym same) rests)
begins_not_rests guest keeper s (fault.Log why) t (away, acts, why_not, leaves) rests = leaves_rests keeper s acts None t leaves (λ st same. absurd cc)
begins_not_rests guest keeper s _ t not rests = absurd not

-- the same of a log
logs_not_rests : (keeper : ℕ) (s : Site) (f : EventFault) (t : Site) → LogsNot s f t → IsAtRest keeper s → IsAtRest keeper (unread t)
logs_not_rests keeper s fault.Rests t (away, same) rests = unread_rests keeper t (subst (IsAtRest keeper) (sym same) rests)
logs_not_rests keeper s (fault.Files why) t (st, runs, acts, why_not, leaves) rests = leaves_rests keeper s acts None t leaves (λ st same. absurd cc)
logs_not_rests keeper s _ t not rests = absurd not

-- whoever hands a log over is no keeper, and crashes no machine
hand_lives : (act : HandAct) (old new : ShelfView) → HandDoes act old new → new.crashed ≡ old.crashed
hand_lives hands.Looks old new does = ap (λ (f : ShelfView). f.crashed) does.1
hand_lives (hands.Fences term) old new does = ap (λ (f : ShelfView). f.crashed) does.4
hand_lives hands.Reads old new does = ap (λ (f : ShelfView). f.crashed) does.2
hand_lives hands.Ends old new does = ap (λ (f : ShelfView). f.crashed) does

-- so a machine stays at rest
hand_rests : (keeper : ℕ) (act : HandAct) (s t : Site) → HandDoes act s.files t.files → t.station ≡ s.station → IsAtRest keeper s → IsAtRest keeper (unread t)
hand_rests keeper act s t does same rests = record {
  handed = refl;
  lives = hand_lives act s.files t.files does ∙ rests.lives;
  own = λ st is. rests.own st (sym same ∙ is);
}

-- so it is behind a crash
crash_rests : (keeper : ℕ) (s t : Site) → CrashesAt s t → IsAtRest keeper s → IsAtRest keeper t
crash_rests keeper s t (files, crashed, same) rests = record {
  handed = ap (λ (u : Site). u.files.read) same ∙ (ap (λ (f : ShelfView). f.read) crashed.rest ∙ rests.handed);
  lives = ap (λ (u : Site). u.files.crashed) same;
  own = λ st is. let none : None ≡ Some st = sym (ap (λ (u : Site). u.station) same) ∙ is in absurd cc;
}

-- ---- calls

-- whatever world it was, a call led to one where the machine stands so, and the other is at rest behind that
abbrev pub LeadsTo : LiveView → ℕ → Site → Site → List Acknowledgement → Type 0
LeadsTo v keeper mid t said =
    (w : ProcessWorld) → Comes v.image v.quorum.keepers v.quorum.need w → IsWorldOf v w → GoesTill w keeper mid said × IsAtRest keeper t

module _ {v : LiveView} {keeper : ℕ} {s : Site} (there : site_at v.sites keeper ≡ Some s) where
  -- what was read of its log is handed over
  pub goes_handing : (mid : Site) (said : List Acknowledgement) (one : Option HandedTo) (u : LiveView) → keeper < KEEPER_LIMIT →
      LeadsTo v keeper mid (unread mid) said → HandsRead (guest_of v.image) keeper mid one → u ≡ moved v keeper (unread mid) said (option_to_list one) →
      GoesTo v u
  goes_handing mid said one u named leads has same w comes is =
      let ((x, goes, read), rests) = leads w comes is in
      let guest : guest_of x.image ≡ guest_of v.image = ap guest_of (goes.image ∙ is.image) in (
        x,
        goes.follows,
        subst (λ (u : LiveView). IsWorldOf u x) (sym same)
            (at_site {t = unread mid} (option_to_list one) is there goes rests (hands_in (guest_of v.image) x keeper mid guest named read one has)),
      )

  -- nothing is
  pub goes_plain : (mid t : Site) (said : List Acknowledgement) (u : LiveView) → disk_of mid ≡ disk_of t → LeadsTo v keeper mid t said →
      u ≡ moved v keeper t said [] → GoesTo v u
  goes_plain mid t said u disk leads same w comes is =
      let ((x, goes, read), rests) = leads w comes is in (
        x,
        goes.follows,
        subst (λ (u : LiveView). IsWorldOf u x) (sym same)
            (at_site [] is there (subst (λ (d : Disk). GoesAt w keeper d said x) disk goes) rests (λ h at. none_in [] h refl at)),
      )

  -- the machine is one of the world
  at_disk : {w : ProcessWorld} → IsWorldOf v w → w.disks keeper ≡ Some (disk_of s)
  at_disk is = is.disks keeper ∙ ap (option_map disk_of) there

  -- a keeper began
  pub begun_leads : (t : Site) → HasBegun (guest_of v.image) keeper s t → LeadsTo v keeper t (unread t) []
  begun_leads t has w comes is = (
    begun_goes comes (at_disk is) (is.at_rest keeper s there) (subst (λ (image : ImageContents). HasBegun (guest_of image) keeper s t) (sym is.image) has),
    leaves_rests keeper s (SawLog has.log ∷ CutTo has.size ∷ []) (Some has.station) t has.leaves
        (λ st same. sym (ap (λ (z : StationView). z.keeper) (some_same refl same)) ∙ has.own),
  )

  -- a keeper did not begin
  pub begun_not_leads : (f : EventFault) (t : Site) → BeginsNot (guest_of v.image) s f t → LeadsTo v keeper t (unread t) []
  begun_not_leads f t not w comes is =
      let rests = is.at_rest keeper s there in (
        begun_not_goes comes (at_disk is) rests f t (subst (λ (image : ImageContents). BeginsNot (guest_of image) s f t) (sym is.image) not),
        begins_not_rests (guest_of v.image) keeper s f t not rests,
      )

  -- a keeper logged
  pub logged_leads : (said : Option Acknowledgement) (t : Site) → HasLogged s said t → LeadsTo v keeper t (unread t) (option_to_list said)
  logged_leads said t has w comes is =
      let rests = is.at_rest keeper s there in (
        logged_goes comes (at_disk is) rests has,
        leaves_rests keeper s (logging has.station.fresh has.fence) (Some (logged has.station has.fence)) t has.leaves
            (λ st same. sym (ap (λ (z : StationView). z.keeper) (some_same refl same)) ∙ rests.own has.station has.runs),
      )

  -- a keeper did not log
  pub logged_not_leads : (f : EventFault) (t : Site) → LogsNot s f t → LeadsTo v keeper t (unread t) []
  logged_not_leads f t not w comes is =
      let rests = is.at_rest keeper s there in (logged_not_goes comes (at_disk is) rests f t not, logs_not_rests keeper s f t not rests)

  -- whoever hands its log over did this
  pub hand_leads : (act : HandAct) (t : Site) → HandDoes act s.files t.files → t.station ≡ s.station → LeadsTo v keeper t (unread t) []
  hand_leads act t does same w comes is =
      let rests = is.at_rest keeper s there in (hand_goes comes (at_disk is) rests act t does same, hand_rests keeper act s t does same rests)

  -- its machine crashed
  pub crash_leads : (t : Site) → CrashesAt s t → LeadsTo v keeper t t []
  crash_leads t crashes w comes is =
      let rests = is.at_rest keeper s there in (crash_goes comes (at_disk is) rests crashes, crash_rests keeper s t crashes rests)

  -- its process ended
  pub end_leads : LeadsTo v keeper (record s { station = None }) (record s { station = None }) []
  end_leads w comes is =
      let rests = is.at_rest keeper s there in (
        end_goes comes (at_disk is) rests,
        record { handed = rests.handed; lives = rests.lives; own = λ st same. absurd cc },
      )

  -- frames that were sent came to it
  pub take_leads : (frames : List Frame) (t : Site) → ((f : Frame) → Contains frames f → Contains v.frames f) → TakesAll frames s t →
      LeadsTo v keeper t t []
  take_leads frames t sent takes w comes is =
      let rests = is.at_rest keeper s there in (
        take_goes comes (at_disk is) rests t frames (λ f has. is.frames f (sent f has)) takes,
        takes_rests keeper frames s t takes rests,
      )
