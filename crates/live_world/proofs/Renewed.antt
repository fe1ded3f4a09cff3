-- A keeper's number that goes to a new log, as an event of the world of processes.
use Rattle.std.proofs.Common.{◌≡◌, ◌≢◌, ◌⊎◌, inl, inr, ℕ, ◌<◌, ◌≤◌, List, [], ◌∷◌, ◌++◌, All, Contains, Vec, Global, Result, Ok, Err, IfErr, OnOk, OnErr, length, drop, take, map, slice_get, slice_set, Option, None, Some, option_map, refl, sym, ap, subst, ◌∙◌, append-nil, arith}
use Rattle.std.proofs.lemmas.Bool.{cases_lt}
use Rattle.std.proofs.lemmas.List.{take-append-drop}
use Rattle.std.proofs.lemmas.List.Elements.{All-cons, All-nil, Contains-append_cases}
use Rattle.std.proofs.lemmas.Option.{slice_get_read}
use Rattle.interleaving.specs.Lists.{put}
use Rattle.interleaving.proofs.Put.{put_same, put_other}
use Rattle.ft_types.specs.Guests.{GuestParts}
use Rattle.ft_types.specs.declared.quorum.Quorum.{Quorum}
use Rattle.guest_image.specs.Image.{ImageContents, guest_of}
use Rattle.fragment_codec.specs.declared.fault.FrameFault.{FrameFault}
use Rattle.fragment_codec.specs.declared.frame.Frame.{Frame}
use Rattle.fragment_codec.specs.Streams.{IsStuck, Splits}
use Rattle.fragment_codec.proofs.streams.Readings.{one_stream}
use Rattle.fragment_codec.proofs.streams.Splits.{splits_more}
use Rattle.log_join.specs.Coming.{Come, IsJoinOf}
use Rattle.log_join.specs.Stores.{StoreView, IsJoin, alone, nothing}
use Rattle.log_join.proofs.Told.{openings_told, fragments_told}
use Rattle.log_join.proofs.Cells.{cells_join}
use Rattle.log_join.proofs.Joins.{associates, joined_is, unit_of_stores}
use Rattle.go_live.specs.Joined.{AreJoinedTo}
use Rattle.go_live.specs.Quorums.{AreEnough}
use Rattle.stations.specs.Handing.{IsHandedTo}
use Rattle.stations.specs.Logs.{IsFrontOf, StandsBehind}
use Rattle.log_mending.specs.Mending.{AreFrontOf, AreFronts, IsWholeLog}
use Rattle.fenced_live.specs.declared.given.Given.{Given}
use Rattle.keeper_disks.proofs.Frames.{stuck_nothing, whole_one}
use Rattle.leading.specs.Beginning.{givers_in, stores_in}
use Rattle.leading.specs.Handed.{IsWhole}
use Rattle.leading.specs.declared.handed.HandedLog.{HandedLog}
use Rattle.wire.specs.declared.acknowledgements.Acknowledgement.{Acknowledgement}
use Rattle.process_world.specs.Worlds.{Handed, ProcessWorld}
use Rattle.process_world.specs.Happenings.{Happens, HasAllHanded, Renews, WasHanded, made_with}
use Rattle.process_world.specs.machinery.Tied.{IsTied}
use Rattle.process_world.proofs.All.{tied}
use Rattle.process_world.proofs.Lists.{none_in}
use Rattle.live_world.specs.declared.event.KeeperEvent.TheVariants as k
use Rattle.live_world.specs.declared.fault.EventFault.{EventFault}
use Rattle.live_world.specs.declared.fault.EventFault.TheVariants as fault
use Rattle.live_world.specs.declared.hand.HandedTo.{HandedTo}
use Rattle.live_world.specs.declared.site.Site.{Site}
use Rattle.live_world.specs.Happenings.{KeeperHappens}
use Rattle.live_world.specs.Refusals.{KeeperRefuses}
use Rattle.live_world.specs.Renewals.{AreGifts, Gift, HasSaidSince, IsHandedBy, IsNewLog, IsNoNewLog, IsNoOthers, IsNotHandedBy, IsNotRenewed, IsNotReplaced, IsRenewed, IsReplaced, givers_of, made_shelf}
use Rattle.live_world.specs.Shelves.{ShelfView}
use Rattle.live_world.specs.Sites.{IsAtRest, disk_of, site_at}
use Rattle.live_world.specs.Views.{GoesTo, IsHandedIn, IsWorldOf, LiveView, Same, Then}
use Rattle.live_world.proofs.AtDisks.{GoesAt}
use Rattle.live_world.proofs.AtSites.{at_site, moved}
use Rattle.live_world.proofs.Following.{goes_nowhere, once}
use Rattle.live_world.proofs.Gifts.{logs_of}
use Rattle.live_world.proofs.Growing.{contained}
use Rattle.live_world.proofs.SiteEvents.{moved_as}

-- ---- why there is no new log

pub no_others : (guest : GuestParts) (keeper term : ℕ) (h : HandedTo) (log : HandedLog) (f : EventFault) → IsWhole guest h.bytes.items log →
    IsNoOthers log keeper term f → IsNotHandedBy guest keeper term h f
no_others guest keeper term h log fault.OtherTerm whole not = (log, whole, not)
no_others guest keeper term h log fault.OwnLog whole not = (log, whole, not)
no_others guest keeper term h log _ whole not = absurd not

pub no_gift : (guest : GuestParts) (quorum : Quorum) (keeper term : ℕ) (handed : List HandedTo) (numbers : List ℕ) (n : ℕ) (h : HandedTo) →
    Contains numbers n → slice_get handed n ≡ Some h → (f : EventFault) → IsNotHandedBy guest keeper term h f →
    IsNoNewLog guest quorum keeper term handed numbers f
no_gift guest quorum keeper term handed numbers n h within there (fault.Handed why) not = inr (n, h, within, there, not)
no_gift guest quorum keeper term handed numbers n h within there fault.OtherTerm not = inr (n, h, within, there, not)
no_gift guest quorum keeper term handed numbers n h within there fault.OwnLog not = inr (n, h, within, there, not)
no_gift guest quorum keeper term handed numbers n h within there fault.Memory not = inl refl
no_gift guest quorum keeper term handed numbers n h within there _ (log, whole, not) = absurd not

-- ---- joins of frames are joins of stores

-- what came to a store is joined to another where it comes to that
joins_on : (old mid grown : StoreView) (frames : List Frame) (s new : StoreView) → IsJoin old mid grown → Come mid frames s → Come grown frames new →
    IsJoin old s new
joins_on old mid grown [] s new join one other = subst (λ (x : StoreView). IsJoin old x new) (sym one) (subst (IsJoin old mid) (sym other) join)
joins_on old mid grown (f ∷ frames) s new join (next, one, ones) (more, other, others) =
    let (both, joined) = joined_is old next in
    let same : more ≡ both =
    associates (cells_join openings_told) (cells_join fragments_told) old mid (alone f) grown next more both join other one joined in
    joins_on old next more frames s new (subst (IsJoin old next) (sym same) joined) ones others

pub joins : (guest : GuestParts) (old : StoreView) (frames : List Frame) (s new : StoreView) → IsJoinOf guest frames s → Come old frames new → IsJoin old s new
joins guest old frames s new of_frames come =
    let (same, joined) = joined_is old (nothing guest) in
    joins_on old (nothing guest) old frames s new (subst (IsJoin old (nothing guest)) (unit_of_stores old same guest joined) joined) of_frames come

-- what comes behind others
come_apart : (old new : StoreView) (first more : List Frame) → Come old (first ++ more) new → (mid : StoreView) × Come old first mid × Come mid more new
come_apart old new [] more come = (old, refl, come)
come_apart old new (f ∷ first) more (next, one, others) =
    let (mid, front, back) = come_apart next new first more others in (mid, (next, one, front), back)

-- whole frames are all that stands at their front
stuck : (rest : List ℕ) (flaw : Option FrameFault) → StandsBehind rest flaw → IsStuck rest
stuck rest None behind = inl behind
stuck rest (Some f) behind = inr (f, behind)

front_is : (log : List ℕ) (frames first : List Frame) → Splits log frames [] → AreFrontOf log first → first ≡ frames
front_is log frames first whole (size, flaw, front) =
    let splits : Splits log first (drop size log) =
    subst (λ (x : List ℕ). Splits x first (drop size log)) (take-append-drop size log) (splits_more (take size log) [] (drop size log) first front.splits) in
    (one_stream log first frames (drop size log) [] splits whole (stuck (drop size log) flaw front.behind) stuck_nothing).0

-- ---- what others handed over

-- it was handed over there: frames that were sent, and their join
record GiftIn (w : ProcessWorld) (term : ℕ) (g : Gift) : Type 0 where
  pub given : Given
  pub was : WasHanded w term given
  pub by : given.keeper ≡ g.giver
  pub frames : List Frame
  pub splits : Splits g.log frames []
  pub join : IsJoinOf (guest_of w.image) frames given.store.now
  pub sent : (f : Frame) → Contains frames f → Contains w.frames f

-- so were all of them
record GiftsIn (w : ProcessWorld) (term : ℕ) (gifts : List Gift) : Type 0 where
  pub given : List Given
  pub was : All (WasHanded w term) given
  pub by : givers_in given ≡ givers_of gifts
  pub joined : (old new : StoreView) (frames : List Frame) → AreFronts (logs_of gifts) frames → Come old frames new → AreJoinedTo old (stores_in given) new
  pub sent : (frames : List Frame) → AreFronts (logs_of gifts) frames → (f : Frame) → Contains frames f → Contains w.frames f

module _ {v : LiveView} {w : ProcessWorld} (is : IsWorldOf v w) (ties : IsTied w) (keeper term : ℕ) where
  gift_in : (h : HandedTo) (g : Gift) → IsHandedIn w h → IsHandedBy (guest_of v.image) keeper term h g.giver g.log → GiftIn w term g
  gift_in h g in_w by =
      let guest : guest_of w.image ≡ guest_of v.image = ap (λ (image : ImageContents). guest_of image) is.image in
      let whole = by.whole in
      let line = subst (λ (guest : GuestParts). IsHandedTo guest h.keeper h.term in_w.bytes h.bytes.items) guest in_w.line in
      let (said, rest) = line.read in_w.named whole.handed whole.rest whole.has in
      let own : h.keeper ≡ g.giver = sym (ap (λ s. s.keeper) said) ∙ sym whole.keeper ∙ by.by in
      let to : h.term ≡ term = sym (ap (λ s. s.term) said) ∙ sym whole.term ∙ by.to in
      let bytes : in_w.bytes ≡ g.log = sym rest ∙ by.frames in
      let so : record { keeper = h.keeper; term = h.term; bytes = in_w.bytes } ≡ record { keeper = g.giver; term = term; bytes = g.log } =
      (λ i. record { keeper = own i; term = to i; bytes = bytes i }) in
      let there = subst (Contains w.handed) so in_w.there in
      let splits = subst (λ (bytes : List ℕ). Splits bytes whole.frames []) by.frames whole.splits in
      let join = subst (λ (guest : GuestParts). IsJoinOf guest whole.frames by.handed.store) (sym guest) whole.join in
      let has = (ties.handed (record { keeper = g.giver; term = term; bytes = g.log }) there).frames in
      record {
        given = record { keeper = g.giver; term = term; store = record { now = by.handed.store; ref_ptr = (0, 0) } };
        was = record { bytes = g.log; frames = whole.frames; there = there; splits = splits; join = join };
        by = refl;
        frames = whole.frames;
        splits = splits;
        join = join;
        sent = λ f at.
            subst (λ (frames : List Frame). Contains frames f) ties.sent
            (has.each f (subst (λ (frames : List Frame). Contains frames f) (whole_one g.log whole.frames has.frames splits has.splits) at));
      }

  gifts_in : (numbers : List ℕ) (gifts : List Gift) → AreGifts (guest_of v.image) keeper term v.handed numbers gifts → GiftsIn w term gifts
  gifts_in [] [] are = record {
    given = [];
    was = All-nil (WasHanded w term);
    by = refl;
    joined = λ old new frames fronts come. subst (λ (frames : List Frame). Come old frames new) fronts come;
    sent = λ frames fronts f at. none_in frames f fronts at;
  }
  gifts_in [] (g ∷ gifts) are = absurd are
  gifts_in (n ∷ numbers) [] are = absurd are
  gifts_in (n ∷ numbers) (g ∷ gifts) ((h, there, by), are) =
      let one = gift_in h g (is.handed h (contained v.handed n h there)) by in
      let all = gifts_in numbers gifts are in
      record {
        given = one.given ∷ all.given;
        was = All-cons (WasHanded w term) one.given all.given one.was all.was;
        by = ap (λ giver. giver ∷ givers_in all.given) one.by ∙ ap (λ givers. g.giver ∷ givers) all.by;
        joined = λ old new frames fronts come.
            let (first, more, parts, front, rest) = fronts in
            let (mid, ones, others) = come_apart old new first more (subst (λ (frames : List Frame). Come old frames new) parts come) in
            let own = subst (λ (frames : List Frame). Come old frames mid) (front_is g.log one.frames first one.splits front) ones in
            (mid, joins (guest_of w.image) old one.frames one.given.store.now mid one.join own, all.joined mid new more rest others);
        sent = λ frames fronts f at.
            let (first, more, parts, front, rest) = fronts in
            elim (Contains-append_cases first more f (subst (λ (frames : List Frame). Contains frames f) parts at)) [
              | inl here ↦ one.sent f (subst (λ (frames : List Frame). Contains frames f) (front_is g.log one.frames first one.splits front) here)
              | inr later ↦ all.sent more rest f later
            ];
      }

-- ---- the event

-- the machine over a new log
abbrev made_site : List ℕ → ℕ → Site
made_site bytes term = record { files = made_shelf bytes term; station = None }

-- there, nothing else of the world is another
made_at : (w : ProcessWorld) (keeper term : ℕ) (bytes : List ℕ) →
    Happens w (record w { disks = put w.disks keeper (Some (made_with bytes term)) }) →
    GoesAt w keeper (disk_of (made_site bytes term)) [] (record w { disks = put w.disks keeper (Some (made_with bytes term)) })
made_at w keeper term bytes event = record {
  follows = Then Same event;
  image = refl;
  keepers = refl;
  need = refl;
  disk = put_same w.disks keeper keeper (Some (made_with bytes term)) refl;
  others = λ k other. put_other w.disks keeper k (Some (made_with bytes term)) (λ same. other (sym same));
  frames = refl;
  said_more = refl;
  handed = λ h has. has;
  led = refl;
  told = refl;
  clients = refl;
  asked = refl;
}

pub renewed_goes : (v u : LiveView) (keeper term : ℕ) (numbers : List ℕ) → IsRenewed v keeper term numbers u → GoesTo v u
renewed_goes v u keeper term numbers renewed w comes is =
    let (logs, enough, bytes, whole_v, files) = renewed.new in
    let at = renewed.replaced in
    let gifts = gifts_in is (tied comes).0 keeper term numbers enough.gifts enough.are in
    let image : v.image ≡ w.image = sym is.image in
    let whole = subst (λ (image : ImageContents). IsWholeLog (guest_of image) logs bytes) image whole_v in
    let fronts = subst (λ (logs : List (List ℕ)). AreFronts logs whole.given) (sym enough.of_gifts) whole.fronts in
    let many : AreEnough w.keepers w.need (givers_in gifts.given) =
    subst (λ (givers : List ℕ). AreEnough w.keepers w.need givers) (sym gifts.by)
    (subst (λ (keepers : ℕ). AreEnough keepers w.need (givers_of enough.gifts)) (sym is.keepers)
    (subst (λ (need : ℕ). AreEnough v.quorum.keepers need (givers_of enough.gifts)) (sym is.need) enough.enough)) in
    let all : HasAllHanded w term gifts.given bytes = record {
      handed = gifts.was;
      enough = many;
      store = whole.store;
      joined = gifts.joined (nothing (guest_of w.image)) whole.store whole.given fronts whole.all;
      frames = whole.frames;
      splits = whole.splits;
      sent = λ f has. gifts.sent whole.given fronts f (whole.some f has);
      join = whole.same;
    } in
    let silent = λ (a : Acknowledgement) (has : Contains w.said a) (own : a.keeper ≡ keeper).
    before_term v.said keeper term renewed.silent a ((is.said a).1 has) own in
    let event = Renews keeper term (disk_of at.before) gifts.given bytes (is.disks keeper ∙ ap (option_map disk_of) at.there) at.under at.granted silent all in
    let there : u.sites ≡ slice_set v.sites keeper (Some (made_site bytes term)) =
    at.put ∙ ap (λ (f : ShelfView). slice_set v.sites keeper (Some (record { files = f; station = None }))) files in
    let same : u ≡ moved v keeper (made_site bytes term) [] [] =
    renewed.rest ∙ moved_as v keeper (made_site bytes term) [] [] u.sites v.said v.handed there (sym (append-nil v.said)) (sym (append-nil v.handed)) in (
      record w { disks = put w.disks keeper (Some (made_with bytes term)) },
      once event,
      subst (λ (u : LiveView). IsWorldOf u (record w { disks = put w.disks keeper (Some (made_with bytes term)) })) (sym same)
          (at_site {s = at.before} {t = made_site bytes term} [] is at.there (made_at w keeper term bytes event)
          (record { handed = refl; lives = refl; own = λ st runs. absurd cc }) (λ h has. none_in [] h refl has)),
    )
  where
    before_term : (said : List Acknowledgement) (keeper term : ℕ) → (HasSaidSince said keeper term → ⊥) → (a : Acknowledgement) → Contains said a →
        a.keeper ≡ keeper → a.term < term
    before_term said keeper term silent a (n, below, is) own =
        elim (cases_lt a.term term) [
          | inl less ↦ less
          | inr above ↦ absurd (silent (n, a, slice_get_read said (length said) n a refl below (sym is), own, above))
        ]

-- ---- the call

module _ (v : LiveView) (keeper term : ℕ) (handed : Vec ℕ Global) where
  -- there is no new log
  pub none_new : (f : EventFault) → IsNoNewLog (guest_of v.image) v.quorum keeper term v.handed handed.items f → KeeperRefuses v (k.Renew keeper term handed) f
  none_new fault.HasSaid (inl same) = absurd cc
  none_new fault.HasSaid (inr (n, h, within, there, not)) = absurd not.2
  none_new f not = inl not

  -- none is put in the place of the keeper's
  pub renew_refused : {A : Type 0} (r : Result A EventFault) → IfErr r (IsNotReplaced v.sites keeper term) → IfErr r (KeeperRefuses v (k.Renew keeper term handed))
  renew_refused (Ok a) not = tt
  renew_refused (Err fault.NoKeeper) not = inr not
  renew_refused (Err (fault.Fenced last)) not = inr not
  renew_refused (Err _) not = absurd not

  -- then all is as it was
  pub renew_left : {A : Type 0} (r : Result A EventFault) (sites : List (Option Site)) → OnErr r (sites ≡ v.sites) → IfErr r (λ f. record v { sites = sites } ≡ v)
  renew_left (Ok a) sites same = tt
  renew_left (Err f) sites same = ap (λ (sites : List (Option Site)). record v { sites = sites }) same

  module _ (files : ShelfView) (silent : HasSaidSince v.said keeper term → ⊥)
      (new : IsNewLog (guest_of v.image) v.quorum keeper term v.handed handed.items files) where
    pub renew_happens : {A : Type 0} (r : Result A EventFault) (sites : List (Option Site)) → OnOk r (IsReplaced v.sites keeper term files sites) →
        OnOk r (KeeperHappens v (k.Renew keeper term handed) (record v { sites = sites }))
    renew_happens (Ok a) sites is = record { silent = silent; files = files; new = new; replaced = is; rest = refl }
    renew_happens (Err f) sites is = tt

    pub renew_goes : {A : Type 0} (r : Result A EventFault) (sites : List (Option Site)) → OnOk r (IsReplaced v.sites keeper term files sites) →
        OnErr r (sites ≡ v.sites) → GoesTo v (record v { sites = sites })
    renew_goes (Ok a) sites is same =
        renewed_goes v (record v { sites = sites }) keeper term handed.items
        (record { silent = silent; files = files; new = new; replaced = is; rest = refl })
    renew_goes (Err f) sites is same = goes_nowhere (ap (λ (sites : List (Option Site)). let y : LiveView = record v { sites = sites } in y) same)
