-- What events at a keeper's machine do, and what refused ones leave.
use Rattle.std.proofs.Common.{◌≡◌, ◌⊎◌, inl, inr, ◌-◌, ◌++◌, ℕ, List, [], drop, slice_set, take, true, false, is_some, Option, None, Some, Result, Ok, Err, MatchResult, OnOk, IfOk, IfErr, Vec, Global, option_to_list, sym, ap, subst, refl, ◌∙◌}
use Rattle.std.proofs.lemmas.List.{append-nil, set-set}
use Rattle.interleaving.specs.Lists.{put}
use Rattle.fenced_theory.proofs.Growing.{some_none}
use Rattle.guest_image.specs.Image.{guest_of}
use Rattle.fragment_codec.specs.declared.frame.Frame.{Frame}
use Rattle.stations.specs.Stations.{StationView}
use Rattle.process_world.specs.Happenings.{Loses}
use Rattle.process_world.proofs.Lists.{none_in}
use Rattle.stations.specs.declared.faults.LogFault.{LogFault}
use Rattle.wire.specs.declared.acknowledgements.Acknowledgement.{Acknowledgement}
use Rattle.live_world.specs.declared.event.HandAct.{HandAct}
use Rattle.live_world.specs.declared.event.HandAct.TheVariants as hands
use Rattle.live_world.specs.declared.event.KeeperEvent.TheVariants as k
use Rattle.live_world.specs.declared.event.Planned.{Planned}
use Rattle.live_world.specs.declared.fault.EventFault.{EventFault}
use Rattle.live_world.specs.declared.fault.EventFault.TheVariants as fault
use Rattle.live_world.specs.declared.hand.HandedTo.{HandedTo}
use Rattle.live_world.specs.declared.site.Site.{Site}
use Rattle.live_world.specs.Calls.{BeginsNot, CrashesAt, HandsRead, HasBegun, HasLogged, IsNotHandedOver, LogsNot, TakesAll, TakesNot}
use Rattle.live_world.specs.Happenings.{AtSite, HandActs, KeeperHappens, ThenHands}
use Rattle.live_world.specs.Refusals.{KeeperLeaves, KeeperRefuses, RunsAt, ThenMayHand}
use Rattle.live_world.specs.Shelves.{HandDoes, IsNoTurn}
use Rattle.live_world.specs.Sites.{site_at}
use Rattle.live_world.specs.Views.{GoesTo, IsWorldOf, LiveView, Same, Then}
use Rattle.live_world.specs.declared.parts.LiveParts.TheInside.{Inside}
use Rattle.live_world.proofs.Following.{goes_nowhere}
use Rattle.live_world.proofs.AtSites.{at_lost, moved, site_back}
use Rattle.live_world.proofs.SiteCalls.{LeadsTo, begun_leads, begun_not_leads, in_range, logged_leads, logged_not_leads, take_leads, unread}

-- a machine was taken out, and one put back
pub put_back : (sites gone back : List (Option Site)) (k : ℕ) (t : Site) → gone ≡ slice_set sites k None → back ≡ slice_set gone k (Some t) →
    back ≡ slice_set sites k (Some t)
put_back sites gone back k t out is = is ∙ (ap (λ (all : List (Option Site)). slice_set all k (Some t)) out ∙ set-set sites k None (Some t))

-- where these are another
pub moved_as : (v : LiveView) (keeper : ℕ) (t : Site) (said : List Acknowledgement) (handed : List HandedTo) (sites : List (Option Site))
    (all_said : List Acknowledgement) (all_handed : List HandedTo) → sites ≡ slice_set v.sites keeper (Some t) → all_said ≡ v.said ++ said →
    all_handed ≡ v.handed ++ handed → record v { sites = sites; said = all_said; handed = all_handed } ≡ moved v keeper t said handed
moved_as v keeper t said handed sites all_said all_handed is says hands = cc

-- what is known of the fields of the processes' struct
abbrev pub shown : Inside → LiveView
shown i = record {
  image = i.image;
  quorum = i.quorum;
  sites = i.sites.items;
  frames = i.frames.items;
  said = i.said.items;
  handed = i.handed.items;
  led = i.led.items;
  told = i.told.items;
  asked = i.asked.items;
  clients = i.clients.items;
}

-- all is as it was
pub all_still : (v : LiveView) (sites : List (Option Site)) (said : List Acknowledgement) (handed : List HandedTo) → sites ≡ v.sites →
    said ≡ v.said → handed ≡ v.handed → record v { sites = sites; said = said; handed = handed } ≡ v
all_still v sites said handed same says hands =
    ap (λ (x : List (Option Site)). let y : LiveView = record v { sites = x; said = said; handed = handed } in y) same ∙
    (ap (λ (x : List Acknowledgement). let y : LiveView = record v { said = x; handed = handed } in y) says ∙
    ap (λ (x : List HandedTo). let y : LiveView = record v { handed = x } in y) hands)

-- so nothing happened
pub nothing_goes : (v : LiveView) (sites : List (Option Site)) (said : List Acknowledgement) (handed : List HandedTo) → sites ≡ v.sites →
    said ≡ v.said → handed ≡ v.handed → GoesTo v (record v { sites = sites; said = said; handed = handed })
nothing_goes v sites said handed same says hands = goes_nowhere (all_still v sites said handed same says hands)

-- a machine was taken out, and another put in
pub swapped : (v : LiveView) (keeper : ℕ) (t : Site) (gone back : List (Option Site)) → gone ≡ slice_set v.sites keeper None →
    back ≡ slice_set gone keeper (Some t) → record v { sites = back } ≡ moved v keeper t [] []
swapped v keeper t gone back out is =
    moved_as v keeper t [] [] back v.said v.handed (put_back v.sites gone back keeper t out is) (sym (append-nil v.said)) (sym (append-nil v.handed))

-- a machine was taken out, and put back where what it read is handed over
pub swapped_unread : (v : LiveView) (keeper : ℕ) (mid t : Site) (said : List Acknowledgement) (handed : List HandedTo) (gone back : List (Option Site))
    (all_said : List Acknowledgement) (all_handed : List HandedTo) → gone ≡ slice_set v.sites keeper None → back ≡ slice_set gone keeper (Some t) →
    t ≡ unread mid → all_said ≡ v.said ++ said → all_handed ≡ v.handed ++ handed →
    record v { sites = back; said = all_said; handed = all_handed } ≡ moved v keeper (unread mid) said handed
swapped_unread v keeper mid t said handed gone back all_said all_handed out is same says hands =
    let there : back ≡ slice_set v.sites keeper (Some (unread mid)) =
    put_back v.sites gone back keeper t out is ∙ ap (λ (x : Site). slice_set v.sites keeper (Some x)) same in
    moved_as v keeper (unread mid) said handed back all_said all_handed there says hands

-- the same machine was put back
pub put_same_back : (v : LiveView) (keeper : ℕ) (s : Site) (gone back : List (Option Site)) → site_at v.sites keeper ≡ Some s →
    gone ≡ slice_set v.sites keeper None → back ≡ slice_set gone keeper (Some s) → back ≡ v.sites
put_same_back v keeper s gone back there out is = put_back v.sites gone back keeper s out is ∙ site_back v.sites keeper there

-- what is handed over is behind what was, and nothing else but a machine is another
hands_more : (v u : LiveView) (keeper : ℕ) (t : Site) (handed : List HandedTo) → u ≡ moved v keeper t [] handed →
    u ≡ record v { sites = u.sites; handed = v.handed ++ handed }
hands_more v u keeper t handed same =
    let last : moved v keeper t [] handed ≡ record (moved v keeper t [] handed) { said = v.said } =
    ap (λ (said : List Acknowledgement). record (moved v keeper t [] handed) { said = said }) (append-nil v.said) in
    subst (λ (z : LiveView). z ≡ record v { sites = z.sites; handed = v.handed ++ handed }) (sym same) last

-- the same, behind what is said
says_more : (v u : LiveView) (keeper : ℕ) (t : Site) (said : List Acknowledgement) (handed : List HandedTo) → u ≡ moved v keeper t said handed →
    u ≡ record v { sites = u.sites; said = v.said ++ said; handed = v.handed ++ handed }
says_more v u keeper t said handed same =
    subst (λ (z : LiveView). z ≡ record v { sites = z.sites; said = v.said ++ said; handed = v.handed ++ handed }) (sym same) refl

-- a machine is another, and nothing else
pub moves_alone : (v u : LiveView) (keeper : ℕ) (t : Site) → u ≡ moved v keeper t [] [] → u ≡ record v { sites = u.sites }
moves_alone v u keeper t same =
    let more : record v { sites = u.sites; handed = v.handed ++ [] } ≡ record v { sites = u.sites } =
    ap (λ (handed : List HandedTo). record v { sites = u.sites; handed = handed }) (append-nil v.handed) in
    hands_more v u keeper t [] same ∙ more

-- the machine is as it was, and so is all
pub moves_nothing : (v u : LiveView) (keeper : ℕ) (s : Site) → site_at v.sites keeper ≡ Some s → u ≡ moved v keeper s [] [] → u ≡ v
moves_nothing v u keeper s there same =
    let back : u.sites ≡ v.sites = ap (λ (z : LiveView). z.sites) same ∙ site_back v.sites keeper there in
    moves_alone v u keeper s same ∙ ap (λ (sites : List (Option Site)). record v { sites = sites }) back

-- what is not handed over is no log that is
pub unhanded_refuses : (v : LiveView) (s : Site) (f : EventFault) → IsNotHandedOver (guest_of v.image) s f → (why : LogFault) × (f ≡ fault.Log why)
unhanded_refuses v s (fault.Log why) not = (why, refl)
unhanded_refuses v s _ not = absurd not

-- what a keeper said, if anything, and whether it logged
abbrev pub IsParted : Result (Option Acknowledgement) EventFault → Option Acknowledgement → Result (Unit {0}) EventFault → Type 0
IsParted (Ok a) said done = (said ≡ a) × (done ≡ Ok tt)
IsParted (Err f) said done = (said ≡ None) × (done ≡ Err f)

-- so it is by what `parted` says
pub parted_is : (r : Result (Option Acknowledgement) EventFault) (said : Option Acknowledgement) (done : Result (Unit {0}) EventFault) →
    MatchResult r (λ a. (said ≡ a) × (done ≡ Ok tt)) (λ f. (said ≡ None) × (done ≡ Err f)) → IsParted r said done
parted_is (Ok a) said done is = is
parted_is (Err f) said done is = is

-- a keeper that runs is one that does
pub runs_at : (v : LiveView) (keeper : ℕ) (s : Site) → site_at v.sites keeper ≡ Some s → is_some s.station ≡ true → RunsAt v keeper
runs_at v keeper s there runs = let (st, is) = there_is s.station runs in (s, st, there, is)
  where
    there_is : (o : Option StationView) → is_some o ≡ true → (st : StationView) × (o ≡ Some st)
    there_is None runs = absurd cc
    there_is (Some st) runs = (st, refl)

-- there is none
pub none_is : {A : Type 0} (o : Option A) → is_some o ≡ false → o ≡ None
none_is None not = refl
none_is (Some x) not = absurd cc

-- there is one
pub some_is : {A : Type 0} (o : Option A) → is_some o ≡ true → o ≡ None → ⊥
some_is None is = λ e. absurd cc
some_is (Some x) is = λ e. absurd cc

module _ (v : LiveView) (keeper : ℕ) (s : Site) (there : site_at v.sites keeper ≡ Some s) (mid : Site) where
  -- what was read is handed over
  then_hands : (Deed : Site → Site → Type 0) (said : List Acknowledgement) (one : Option HandedTo) (u : LiveView) → Deed s mid →
      HandsRead (guest_of v.image) keeper mid one → u ≡ moved v keeper (unread mid) said (option_to_list one) →
      AtSite v keeper (ThenHands v keeper Deed (option_to_list one)) u
  then_hands Deed said one u deed has same = record {
    before = s;
    there = there;
    after = unread mid;
    deed = (mid, deed, (one, has, refl), refl);
    sites = ap (λ (z : LiveView). z.sites) same;
  }

  -- or may be
  then_may : (Deed : Site → Site → Type 0) (said : List Acknowledgement) (one : Option HandedTo) (u : LiveView) → Deed s mid →
      HandsRead (guest_of v.image) keeper mid one → u ≡ moved v keeper (unread mid) said (option_to_list one) →
      AtSite v keeper (ThenMayHand v keeper Deed (option_to_list one)) u
  then_may Deed said one u deed has same = record {
    before = s;
    there = there;
    after = unread mid;
    deed = (mid, deed, inl (one, has, refl), refl);
    sites = ap (λ (z : LiveView). z.sites) same;
  }

  -- what was read is no log that is handed over
  then_not : (Deed : Site → Site → Type 0) (said : List Acknowledgement) (f : EventFault) (u : LiveView) → Deed s mid →
      IsNotHandedOver (guest_of v.image) mid f → u ≡ moved v keeper (unread mid) said [] →
      AtSite v keeper (ThenMayHand v keeper Deed []) u
  then_not Deed said f u deed not same = record {
    before = s;
    there = there;
    after = unread mid;
    deed = (mid, deed, inr (refl, f, not), refl);
    sites = ap (λ (z : LiveView). z.sites) same;
  }

  -- ---- a keeper begins

  module _ (plan : Vec Planned Global) where
    -- it began, or did not
    abbrev Began : Site → Site → Type 0
    Began a b = HasBegun (guest_of v.image) keeper a b ⊎ ((f : EventFault) × BeginsNot (guest_of v.image) a f b)

    began : {A : Type 0} (r : Result A EventFault) → OnOk r (HasBegun (guest_of v.image) keeper s mid) → IfErr r (λ f. BeginsNot (guest_of v.image) s f mid) → Began s mid
    began (Ok a) has not = inl has
    began (Err f) has not = inr (f, not)

    -- it began, and what was read meanwhile was handed over
    pub begin_happens : {A : Type 0} (r : Result A EventFault) → OnOk r (HasBegun (guest_of v.image) keeper s mid) → (one : Option HandedTo) (u : LiveView) →
        HandsRead (guest_of v.image) keeper mid one → u ≡ moved v keeper (unread mid) [] (option_to_list one) →
        OnOk r (KeeperHappens v (k.Begin keeper plan) u)
    begin_happens (Ok a) has one u hands same = (
      option_to_list one,
      then_hands (HasBegun (guest_of v.image) keeper) [] one u has hands same,
      hands_more v u keeper (unread mid) (option_to_list one) same,
    )
    begin_happens (Err f) has one u hands same = tt

    -- why it did not
    pub begin_refused : {A : Type 0} (r : Result A EventFault) → IfErr r (λ f. BeginsNot (guest_of v.image) s f mid) → IfErr r (KeeperRefuses v (k.Begin keeper plan))
    begin_refused (Ok a) not = tt
    begin_refused (Err fault.Runs) ((st, runs), same) = (s, st, there, runs)
    begin_refused (Err (fault.Log why)) not = tt
    begin_refused (Err _) not = absurd not

    -- what that left
    pub begin_left : {A : Type 0} (r : Result A EventFault) → s.station ≡ None → IfErr r (λ f. BeginsNot (guest_of v.image) s f mid) → (one : Option HandedTo)
        (u : LiveView) → HandsRead (guest_of v.image) keeper mid one → u ≡ moved v keeper (unread mid) [] (option_to_list one) →
        IfErr r (λ f. KeeperLeaves v (k.Begin keeper plan) f u)
    begin_left (Ok a) away not one u hands same = tt
    begin_left (Err fault.Runs) away ((st, runs), still) one u hands same = some_none runs away
    begin_left (Err (fault.Log why)) away not one u hands same = (
      option_to_list one,
      then_may Began [] one u (inr (fault.Log why, not)) hands same,
      hands_more v u keeper (unread mid) (option_to_list one) same,
    )
    begin_left (Err _) away not one u hands same = absurd not

    -- what is left where what was read is not handed over
    pub begin_not_handed : {A : Type 0} (r : Result A EventFault) → OnOk r (HasBegun (guest_of v.image) keeper s mid) → IfErr r (λ f. BeginsNot (guest_of v.image) s f mid) →
        (f : EventFault) (u : LiveView) → IsNotHandedOver (guest_of v.image) mid f → u ≡ moved v keeper (unread mid) [] [] →
        KeeperLeaves v (k.Begin keeper plan) f u
    begin_not_handed r has not (fault.Log why) u fails same = (
      [],
      then_not Began [] (fault.Log why) u (began r has not) fails same,
      hands_more v u keeper (unread mid) [] same,
    )
    begin_not_handed r has not _ u fails same = absurd fails

    -- either way it is what may happen
    pub begin_leads : {A : Type 0} (r : Result A EventFault) → OnOk r (HasBegun (guest_of v.image) keeper s mid) → IfErr r (λ f. BeginsNot (guest_of v.image) s f mid) →
        LeadsTo v keeper mid (unread mid) []
    begin_leads (Ok a) has not = begun_leads there mid has
    begin_leads (Err f) has not = begun_not_leads there f mid not

  -- ---- a keeper logs

  module _ (plan : Vec Planned Global) where
    -- it logged and said this, or did not log
    abbrev Logged : Option Acknowledgement → Site → Site → Type 0
    Logged said a b = HasLogged a said b ⊎ ((said ≡ None) × (f : EventFault) × LogsNot a f b)

    -- it logged
    did_log : (said : Option Acknowledgement) → HasLogged s said mid → (one : Option HandedTo) (u : LiveView) →
        HandsRead (guest_of v.image) keeper mid one → u ≡ moved v keeper (unread mid) (option_to_list said) (option_to_list one) →
        KeeperHappens v (k.Log keeper plan) u
    did_log said has one u hands same = (
      option_to_list one,
      said,
      then_hands (λ a b. HasLogged a said b) (option_to_list said) one u has hands same,
      says_more v u keeper (unread mid) (option_to_list said) (option_to_list one) same,
    )

    -- its files failed
    did_not_log : (f : EventFault) → (s.station ≡ None → ⊥) → LogsNot s f mid → (one : Option HandedTo) (u : LiveView) →
        HandsRead (guest_of v.image) keeper mid one → u ≡ moved v keeper (unread mid) [] (option_to_list one) → KeeperLeaves v (k.Log keeper plan) f u
    did_not_log fault.Rests runs (away, still) one u hands same = absurd (runs away)
    did_not_log (fault.Files why) runs not one u hands same = (
      option_to_list one,
      then_may (λ a b. LogsNot a (fault.Files why) b) [] one u not hands same,
      hands_more v u keeper (unread mid) (option_to_list one) same,
    )
    did_not_log _ runs not one u hands same = absurd not

    -- why it did not log
    refused_log : (f : EventFault) → LogsNot s f mid → KeeperRefuses v (k.Log keeper plan) f
    refused_log fault.Rests (away, same) = (s, there, away)
    refused_log (fault.Files why) (st, runs, acts, not, leaves) = (s, st, there, runs)
    refused_log _ not = absurd not

    -- the same of what the call gave back, in its two parts
    pub log_happens : (r : Result (Option Acknowledgement) EventFault) (said : Option Acknowledgement) (done : Result (Unit {0}) EventFault) →
        IsParted r said done → IfOk r (λ said. HasLogged s said mid) → (one : Option HandedTo) (u : LiveView) →
        HandsRead (guest_of v.image) keeper mid one → u ≡ moved v keeper (unread mid) (option_to_list said) (option_to_list one) →
        OnOk done (KeeperHappens v (k.Log keeper plan) u)
    log_happens (Ok a) said done (same, ok) has one u hands is =
        subst (λ (d : Result (Unit {0}) EventFault). OnOk d (KeeperHappens v (k.Log keeper plan) u)) (sym ok)
        (did_log said (subst (λ (x : Option Acknowledgement). HasLogged s x mid) (sym same) has) one u hands is)
    log_happens (Err f) said done (none, err) has one u hands is =
        subst (λ (d : Result (Unit {0}) EventFault). OnOk d (KeeperHappens v (k.Log keeper plan) u)) (sym err) tt

    -- why that is an error
    pub log_refused : (r : Result (Option Acknowledgement) EventFault) (said : Option Acknowledgement) (done : Result (Unit {0}) EventFault) →
        IsParted r said done → IfErr r (λ f. LogsNot s f mid) → IfErr done (KeeperRefuses v (k.Log keeper plan))
    log_refused (Ok a) said done (same, ok) not =
        subst (λ (d : Result (Unit {0}) EventFault). IfErr d (KeeperRefuses v (k.Log keeper plan))) (sym ok) tt
    log_refused (Err f) said done (none, err) not =
        subst (λ (d : Result (Unit {0}) EventFault). IfErr d (KeeperRefuses v (k.Log keeper plan))) (sym err) (refused_log f not)

    -- what that left
    pub log_left : (r : Result (Option Acknowledgement) EventFault) (said : Option Acknowledgement) (done : Result (Unit {0}) EventFault) →
        IsParted r said done → (s.station ≡ None → ⊥) → IfErr r (λ f. LogsNot s f mid) → (one : Option HandedTo) (u : LiveView) →
        HandsRead (guest_of v.image) keeper mid one → u ≡ moved v keeper (unread mid) (option_to_list said) (option_to_list one) →
        IfErr done (λ f. KeeperLeaves v (k.Log keeper plan) f u)
    log_left (Ok a) said done (same, ok) runs not one u hands is =
        subst (λ (d : Result (Unit {0}) EventFault). IfErr d (λ f. KeeperLeaves v (k.Log keeper plan) f u)) (sym ok) tt
    log_left (Err f) said done (none, err) runs not one u hands is =
        subst (λ (d : Result (Unit {0}) EventFault). IfErr d (λ f. KeeperLeaves v (k.Log keeper plan) f u)) (sym err)
        (did_not_log f runs not one u hands
        (subst (λ (x : Option Acknowledgement). u ≡ moved v keeper (unread mid) (option_to_list x) (option_to_list one)) none is))

    -- what is left where what was read is not handed over
    pub log_not_handed : (r : Result (Option Acknowledgement) EventFault) (said : Option Acknowledgement) (done : Result (Unit {0}) EventFault) →
        IsParted r said done → IfOk r (λ said. HasLogged s said mid) → IfErr r (λ f. LogsNot s f mid) → (f : EventFault) (u : LiveView) →
        IsNotHandedOver (guest_of v.image) mid f → u ≡ moved v keeper (unread mid) (option_to_list said) [] → KeeperLeaves v (k.Log keeper plan) f u
    log_not_handed (Ok a) said done (same, ok) has not (fault.Log why) u fails is = (
      [],
      said,
      then_not (Logged said) (option_to_list said) (fault.Log why) u (inl (subst (λ (x : Option Acknowledgement). HasLogged s x mid) (sym same) has)) fails is,
      says_more v u keeper (unread mid) (option_to_list said) [] is,
    )
    log_not_handed (Err g) said done (none, err) has not (fault.Log why) u fails is = (
      [],
      said,
      then_not (Logged said) (option_to_list said) (fault.Log why) u (inr (none, g, not)) fails is,
      says_more v u keeper (unread mid) (option_to_list said) [] is,
    )
    log_not_handed r said done parted has not _ u fails is = absurd fails

    -- either way it is what may happen
    pub log_leads : (r : Result (Option Acknowledgement) EventFault) (said : Option Acknowledgement) (done : Result (Unit {0}) EventFault) →
        IsParted r said done → IfOk r (λ said. HasLogged s said mid) → IfErr r (λ f. LogsNot s f mid) →
        LeadsTo v keeper mid (unread mid) (option_to_list said)
    log_leads (Ok a) said done (same, ok) has not =
        subst (λ (x : Option Acknowledgement). LeadsTo v keeper mid (unread mid) (option_to_list x)) (sym same) (logged_leads there a mid has)
    log_leads (Err f) said done (none, err) has not =
        subst (λ (x : Option Acknowledgement). LeadsTo v keeper mid (unread mid) (option_to_list x)) (sym none) (logged_not_leads there f mid not)

  -- ---- whoever hands a log over goes on

  module _ (act : HandAct) (does : HandDoes act s.files mid.files) (still : mid.station ≡ s.station) where
    -- its act was done, and what it read, if anything, was handed over
    pub hand_happens : (one : Option HandedTo) (u : LiveView) → HandsRead (guest_of v.image) keeper mid one →
        u ≡ moved v keeper (unread mid) [] (option_to_list one) → KeeperHappens v (k.Hand keeper act) u
    hand_happens one u hands same = (
      option_to_list one,
      then_hands (HandActs (k.Hand keeper act)) [] one u (does, still) hands same,
      hands_more v u keeper (unread mid) (option_to_list one) same,
    )

    -- what is left where that is not handed over
    pub hand_not_handed : (f : EventFault) (u : LiveView) → IsNotHandedOver (guest_of v.image) mid f → u ≡ moved v keeper (unread mid) [] [] →
        KeeperLeaves v (k.Hand keeper act) f u
    hand_not_handed (fault.Log why) u fails same = (
      then_not (HandActs (k.Hand keeper act)) [] (fault.Log why) u (does, still) fails same,
      moves_alone v u keeper (unread mid) same,
    )
    hand_not_handed _ u fails same = absurd fails

  -- a refused act changes nothing
  pub stays_left : (act : HandAct) (f : EventFault) (u : LiveView) → IsNoTurn s.files act f → u ≡ v → KeeperLeaves v (k.Hand keeper act) f u
  stays_left act (fault.Log why) u not same = no_turn act not
    where
      no_turn : (act : HandAct) → IsNoTurn s.files act (fault.Log why) → KeeperLeaves v (k.Hand keeper act) (fault.Log why) u
      no_turn hands.Looks not = absurd not
      no_turn (hands.Fences term) not = absurd not
      no_turn hands.Reads not = absurd not
      no_turn hands.Ends not = absurd not
  stays_left act _ u not same = same

  -- why an act is refused
  pub hand_refused : (act : HandAct) (f : EventFault) → IsNoTurn s.files act f → KeeperRefuses v (k.Hand keeper act) f
  hand_refused act fault.NoTurn not = (s, there, not)
  hand_refused act (fault.Fenced last) not = (s, there, not)
  hand_refused act (fault.Far last) not = (s, there, not)
  hand_refused act fault.Memory not = tt
  hand_refused hands.Looks _ not = absurd not
  hand_refused (hands.Fences term) _ not = absurd not
  hand_refused hands.Reads _ not = absurd not
  hand_refused hands.Ends _ not = absurd not

  -- ---- frames come to a keeper

  module _ (from to piece : ℕ) where
    -- those of these numbers
    abbrev Frames : List Frame
    Frames = take (to - from) (drop from v.frames)

    -- all of them came
    pub take_happens : {A : Type 0} (r : Result A EventFault) (u : LiveView) → OnOk r (TakesAll Frames s mid) → u ≡ moved v keeper mid [] [] →
        OnOk r (KeeperHappens v (k.Take keeper from to piece) u)
    take_happens (Ok a) u takes same = (
      record { before = s; there = there; after = mid; deed = takes; sites = ap (λ (z : LiveView). z.sites) same },
      moves_alone v u keeper mid same,
    )
    take_happens (Err f) u takes same = tt

    -- why they did not
    pub take_refused : {A : Type 0} (r : Result A EventFault) → IfErr r (λ f. TakesNot Frames s f mid) →
        IfErr r (KeeperRefuses v (k.Take keeper from to piece))
    take_refused (Ok a) not = tt
    take_refused (Err fault.Rests) (away, same) = (s, there, away)
    take_refused (Err fault.Memory) not = tt
    take_refused (Err _) not = absurd not

    -- what that left
    pub take_left : {A : Type 0} (r : Result A EventFault) (u : LiveView) → IfErr r (λ f. TakesNot Frames s f mid) → u ≡ moved v keeper mid [] [] →
        IfErr r (λ f. KeeperLeaves v (k.Take keeper from to piece) f u)
    take_left (Ok a) u not same = tt
    take_left (Err fault.Rests) u (away, still) same =
        moves_nothing v u keeper s there (subst (λ (z : Site). u ≡ moved v keeper z [] []) still same)
    take_left (Err fault.Memory) u not same = (
      record { before = s; there = there; after = mid; deed = not; sites = ap (λ (z : LiveView). z.sites) same },
      moves_alone v u keeper mid same,
    )
    take_left (Err _) u not same = absurd not

    -- either way it is what may happen
    pub taken_leads : {A : Type 0} (r : Result A EventFault) → OnOk r (TakesAll Frames s mid) → IfErr r (λ f. TakesNot Frames s f mid) →
        LeadsTo v keeper mid mid []
    taken_leads (Ok a) takes not = take_leads there Frames mid (in_range (to - from) from v.frames) takes
    taken_leads (Err fault.Rests) takes (away, still) = take_leads there [] mid (λ f has. none_in [] f refl has) still
    taken_leads (Err fault.Memory) takes (many, some) =
        take_leads there (take many Frames) mid (λ f has. in_range (to - from) from v.frames f (in_range many 0 Frames f has)) some
    taken_leads (Err _) takes not = absurd not

  -- ---- a keeper's process, its machine, or all of it is gone

  -- its process is gone
  pub end_happens : (u : LiveView) → mid ≡ record s { station = None } → u ≡ moved v keeper mid [] [] → KeeperHappens v (k.KeeperEnds keeper) u
  end_happens u is same = (
    record { before = s; there = there; after = mid; deed = is; sites = ap (λ (z : LiveView). z.sites) same },
    moves_alone v u keeper mid same,
  )

  -- its machine crashed
  pub crash_happens : (left : ℕ) (u : LiveView) → CrashesAt s mid → u ≡ moved v keeper mid [] [] → KeeperHappens v (k.Crash keeper left) u
  crash_happens left u crashes same = (
    record { before = s; there = there; after = mid; deed = crashes; sites = ap (λ (z : LiveView). z.sites) same },
    moves_alone v u keeper mid same,
  )

-- a keeper is lost
pub lost_goes : (v : LiveView) (keeper : ℕ) (s : Site) (u : LiveView) → site_at v.sites keeper ≡ Some s →
    u ≡ record v { sites = slice_set v.sites keeper None } → GoesTo v u
lost_goes v keeper s u there same w comes is = (
  record w { disks = put w.disks keeper None },
  Then Same (Loses keeper),
  subst (λ (u : LiveView). IsWorldOf u (record w { disks = put w.disks keeper None })) (sym same) (at_lost keeper is there),
)
