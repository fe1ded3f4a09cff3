-- What is done with a keeper's disk keeps the world tied, and so does that a keeper is lost.
use Rattle.std.proofs.Common.{◌≡◌, inl, inr, ℕ, ◌≤◌, List, [], ◌∷◌, ◌++◌, Contains, Option, Some, None, refl, sym, ap, subst, ◌∙◌, arith, le_of_eq, le_trans}
use Rattle.std.proofs.lemmas.List.Elements.{Contains-append_left, Contains-append_right, Contains-append_cases}
use Rattle.interleaving.specs.Lists.{put}
use Rattle.interleaving.proofs.Cuts.{here}
use Rattle.interleaving.proofs.Put.{same_or_not, put_same, put_other}
use Rattle.ft_types.specs.Counts.{count_at}
use Rattle.ft_types.specs.Guests.{GuestParts}
use Rattle.ft_types.specs.declared.position.Position.{Position}
use Rattle.guest_image.specs.Image.{guest_of}
use Rattle.fragment_codec.specs.declared.frame.Frame.{Frame}
use Rattle.fenced_theory.specs.Recorders.{Recorder}
use Rattle.fenced_theory.specs.Worlds as theory
use Rattle.fenced_theory.proofs.Growing.{some_same, some_none}
use Rattle.stations.specs.Acts.{Act}
use Rattle.stations.specs.Handshake.{Files, Did, after}
use Rattle.keeper_disks.specs.Disks.{Phase, Keeps, Reads, Begins, Adds, AddsMore, Syncs, Looks, Acknowledges, Hand, HasFenced, Gives, Sees, Fences, HandsOver}
use Rattle.keeper_disks.specs.Disks.{Disk, Out, Nothing, Says, Hands, Goes, KeeperDoes, HandDoes, Takes, KeeperEnds, HandEnds, Crashes}
use Rattle.keeper_disks.specs.Standing.{nothing_there, KnowsFence, StandsOn, OnlyKeeper, LeadsTo, Same, Then, IsFollowed, IsTold as IsToldBy}
use Rattle.keeper_disks.proofs.Acts.{disks_go}
use Rattle.keeper_disks.proofs.Standings.{disks_stay}
use Rattle.wire.specs.declared.acknowledgements.Acknowledgement.{Acknowledgement}
use Rattle.failover_world.specs.machinery.Tied.{Books}
use Rattle.process_world.specs.Worlds.{Handed, ProcessWorld}
use Rattle.process_world.specs.Happenings.{with_out}
use Rattle.process_world.specs.machinery.Tied.{quorum_of, IsGiven, IsTold, IsTied}
use Rattle.process_world.proofs.Lists.{none_in, only_one}
use Rattle.process_world.proofs.Seats.{stays, given_stays, Theory, ComesIn}

-- ---- fences

-- the term that was fenced for
abbrev term_in : Hand → ℕ
term_in (HasFenced term) = term
term_in other = 0

-- the term that is handed over to
abbrev term_out : Out → ℕ
term_out (Hands term bytes) = term
term_out other = 0

module _ (guest : GuestParts) (files : Files) where
  -- a keeper puts no fence, and hands nothing over
  keeps_fence : (phase : Phase) (act : Act) (next : Phase) (out : Out) → Keeps guest files phase act next out → (after files (Did act)).fence ≡ files.fence
  keeps_fence phase act next out Reads = refl
  keeps_fence phase act next out (Begins log frames size st front on of_guest fresh) = refl
  keeps_fence phase act next out (Adds st front rest parts) = refl
  keeps_fence phase act next out (AddsMore st front rest) = refl
  keeps_fence phase act next out (Syncs st) = refl
  keeps_fence phase act next out (Looks st fence seen) = refl
  keeps_fence phase act next out (Acknowledges st fence p seen may) = refl

  -- and hands nothing over
  keeps_log : (phase : Phase) (act : Act) (next : Phase) (out : Out) (term : ℕ) (bytes : List ℕ) → Keeps guest files phase act next out →
      out ≡ Hands term bytes → ⊥
  keeps_log phase act next out term bytes Reads = λ e. cc
  keeps_log phase act next out term bytes (Begins log frames size st front on of_guest fresh) = λ e. cc
  keeps_log phase act next out term bytes (Adds st front rest parts) = λ e. cc
  keeps_log phase act next out term bytes (AddsMore st front rest) = λ e. cc
  keeps_log phase act next out term bytes (Syncs st) = λ e. cc
  keeps_log phase act next out term bytes (Looks st fence seen) = λ e. cc
  keeps_log phase act next out term bytes (Acknowledges st fence p seen may) = λ e. cc

  -- whoever hands the log over puts greater fences alone
  gives_on : (hand : Hand) (act : Act) (next : Hand) (out : Out) → Gives files hand act next out → KnowsFence files.fence hand → (term : ℕ) →
      term ≤ files.fence → (term ≤ (after files (Did act)).fence) × (next ≡ HasFenced term → ⊥)
  gives_on hand act next out (Sees fence seen) knows term le = (le, λ e. cc)
  gives_on hand act next out (Fences last new less) knows term le = (
    omega (arith, le),
    λ e. let same : new ≡ term = ap term_in e in absurd (omega (arith, knows, less, le, same)),
  )
  gives_on hand act next out (HandsOver new bytes rest frames log splits partial) knows term le = (le, λ e. cc)

  -- and hands over to the term of its fence
  gives_log : (hand : Hand) (act : Act) (next : Hand) (out : Out) (term : ℕ) (bytes : List ℕ) → Gives files hand act next out →
      KnowsFence files.fence hand → out ≡ Hands term bytes → (term ≤ (after files (Did act)).fence) × (next ≡ HasFenced term → ⊥)
  gives_log hand act next out term bytes (Sees fence seen) knows same = absurd cc
  gives_log hand act next out term bytes (Fences last new less) knows same = absurd cc
  gives_log hand act next out term bytes (HandsOver new all rest frames log splits partial) knows same =
      let is : new ≡ term = ap term_out same in
      let fence : files.fence ≡ new = knows.0 in
      (omega (arith, is, fence), λ e. cc)

-- a fence stays, and the term of an older one is not fenced for again
goes_on : (guest : GuestParts) (sent : List Frame) (d e : Disk) (out : Out) → Goes guest sent d e out → KnowsFence d.files.fence d.hand → (term : ℕ) →
    term ≤ d.files.fence → (d.hand ≡ HasFenced term → ⊥) → (term ≤ e.files.fence) × (e.hand ≡ HasFenced term → ⊥)
goes_on guest sent d e out (KeeperDoes act next told does) knows term le not =
    (let same = keeps_fence guest d.files d.keeper act next out does in omega (arith, le, same), not)
goes_on guest sent d e out (HandDoes act next told does) knows term le not = gives_on guest d.files d.hand act next out does knows term le
goes_on guest sent d e out (Takes st f store rests has rules joined) knows term le not = (le, not)
goes_on guest sent d e out KeeperEnds knows term le not = (le, not)
goes_on guest sent d e out HandEnds knows term le not = (le, λ e. cc)
goes_on guest sent d e out (Crashes left begins were) knows term le not = (le, not)

-- what is handed over goes to the term of the fence, once
goes_out : (guest : GuestParts) (sent : List Frame) (d e : Disk) (out : Out) (term : ℕ) (bytes : List ℕ) → Goes guest sent d e out →
    KnowsFence d.files.fence d.hand → out ≡ Hands term bytes → (term ≤ e.files.fence) × (e.hand ≡ HasFenced term → ⊥)
goes_out guest sent d e out term bytes (KeeperDoes act next told does) knows same =
    absurd (keeps_log guest d.files d.keeper act next out term bytes does same)
goes_out guest sent d e out term bytes (HandDoes act next told does) knows same =
    gives_log guest d.files d.hand act next out term bytes does knows same
goes_out guest sent d e out term bytes (Takes st f store rests has rules joined) knows same = absurd cc
goes_out guest sent d e out term bytes KeeperEnds knows same = absurd cc
goes_out guest sent d e out term bytes HandEnds knows same = absurd cc
goes_out guest sent d e out term bytes (Crashes left begins were) knows same = absurd cc

-- one position is said
one_position : (p q : Position) → Says p ≡ Says q → p ≡ q
one_position p q same = cc

-- what is handed over is not said
hands_nothing_said : (term : ℕ) (bytes : List ℕ) (p : Position) → Hands term bytes ≡ Says p → ⊥
hands_nothing_said term bytes p same = absurd cc

-- ---- events

-- what events lead to comes
comes_by : {Book Fact : Type 0} (recorder : Recorder Book Fact) (guest : GuestParts) (quorum : theory.Quorum) {w v : theory.World Book} →
    theory.Comes recorder guest quorum w → LeadsTo recorder guest quorum w v → theory.Comes recorder guest quorum v
comes_by recorder guest quorum comes Same = comes
comes_by recorder guest quorum comes (Then before next) = theory.Then (comes_by recorder guest quorum comes before) next

-- The keeper's disk is another, or gone: in the theory nothing but what there is of this keeper is another.
module _ (w : ProcessWorld) (is : IsTied w) (keeper : ℕ) (d : Disk) (now : Option Disk) (v : Theory w is) (only : OnlyKeeper is.world v keeper d) where
  -- the disks, with this one
  abbrev pub disks : ℕ → Option Disk
  disks = put w.disks keeper now

  -- this is the keeper's own
  its_own : (k : ℕ) (e : Disk) → keeper ≡ k → disks k ≡ Some e → now ≡ Some e
  its_own k e here there = sym (put_same w.disks keeper k now here) ∙ there

  -- and others' are as they were
  was_there : (k : ℕ) (e : Disk) → (keeper ≡ k → ⊥) → disks k ≡ Some e → w.disks k ≡ Some e
  was_there k e other there = sym (put_other w.disks keeper k now other) ∙ there

  -- no acknowledgement is forgotten
  more_acked : (u k hart : ℕ) → is.world.acked u k hart ≤ v.acked u k hart
  more_acked u k hart =
      elim (same_or_not keeper k) [
        | inl here ↦ subst (λ k. is.world.acked u k hart ≤ v.acked u k hart) here (only.acked u hart)
        | inr other ↦ le_of_eq (sym (ap (λ f. f hart) ((only.others k other).acked u)))
      ]

  -- and but for what is said there is no new one
  abbrev pub IsSilent : List Acknowledgement → Type 0
  IsSilent said =
      (u hart : ℕ) → ((a : Acknowledgement) → Contains said a → a.term ≡ u → a.keeper ≡ keeper → ⊥) → v.acked u keeper hart ≡ is.world.acked u keeper hart

  -- so nothing is acknowledged but what was said
  only_said_now : (said : List Acknowledgement) → IsSilent said → (u k hart : ℕ) →
      ((a : Acknowledgement) → Contains (said ++ w.said) a → a.term ≡ u → a.keeper ≡ k → ⊥) → v.acked u k hart ≡ 0
  only_said_now said silent u k hart none =
      let before : is.world.acked u k hart ≡ 0 = is.only_said u k hart (λ a has. none a (Contains-append_right said w.said a has)) in
      elim (same_or_not keeper k) [
        | inl here ↦
            subst (λ n. n ≡ 0) (ap (λ k. v.acked u k hart) here)
            (silent u hart (λ a has term own. none a (Contains-append_left said w.said a has) term (own ∙ here)) ∙ ap (λ k. is.world.acked u k hart) here ∙ before)
        | inr other ↦ ap (λ f. f hart) ((only.others k other).acked u) ∙ before
      ]

  -- and no frame
  still : (f : Frame) → Contains is.world.sent f → Contains v.sent f
  still f has = subst (λ fs. Contains fs f) (sym only.sent) has

  -- what this keeper handed over was given, and is given once
  abbrev pub IsGivenOnce : Handed → Type 0
  IsGivenOnce h =
      (v.given h.term h.keeper ≡ is.world.given h.term h.keeper) ×
      ((e : Disk) → now ≡ Some e → (h.term ≤ e.files.fence) × (e.hand ≡ HasFenced h.term → ⊥))

  -- so what was handed over is what was given
  given_still : (h : Handed) → (keeper ≡ h.keeper → IsGivenOnce h) → IsGiven is.world (guest_of w.image) w.disks h → IsGiven v (guest_of w.image) disks h
  given_still h own was =
      elim (same_or_not keeper h.keeper) [
        | inl here ↦
            given_stays is.world v (guest_of w.image) w.disks disks h (own here).0 still (λ e there. (own here).1 e (its_own h.keeper e here there)) was
        | inr other ↦
            given_stays is.world v (guest_of w.image) w.disks disks h ((only.others h.keeper other).given h.term) still
            (λ e there. was.once e (was_there h.keeper e other there)) was
      ]

  -- the world with what others learned of it
  pub with_lists : ComesIn w is v → ((e : Disk) → now ≡ Some e → StandsOn (guest_of w.image) v keeper e) →
      ((h : Handed) → Contains w.handed h → keeper ≡ h.keeper → IsGivenOnce h) → (said : List Acknowledgement) (handed : List Handed) →
      ((a : Acknowledgement) → Contains said a → (hart : ℕ) → count_at a.counts hart ≤ v.acked a.term a.keeper hart) → IsSilent said →
      ((h : Handed) → Contains handed h → IsGiven v (guest_of w.image) disks h) →
      IsTied (record w { disks = disks; said = said ++ w.said; handed = handed ++ w.handed })
  with_lists comes stands once said handed all_said silent all_handed =
      record {
        are_theory = is.are_theory;
        is_recorder = is.is_recorder;
        terms = is.terms;
        world = v;
        comes = comes;
        terms_are = only.terms ∙ is.terms_are;
        is_history = is.is_history;
        granted = is.granted;
        leaders = λ n l there.
            stays is.world v is.terms is.terms (guest_of w.image) w.keepers w.need l (is.leaders n l there) refl (more_acked l.primary.opening.term)
            (λ r has. subst (λ rs. Contains rs r) (sym only.released) has)
            (λ hart. ap (λ f. f l.primary.opening.term hart) only.notes) (λ hart. ap (λ f. f l.primary.opening.term hart) only.marks);
        sent = only.sent ∙ is.sent;
        standing = λ k e there. elim (same_or_not keeper k) [
          | inl here ↦ subst (λ k. StandsOn (guest_of w.image) v k e) here (stands e (its_own k e here there))
          | inr other ↦
              disks_stay (Books w.image.pages is.are_theory) (guest_of w.image) is.world v k e (is.standing k e (was_there k e other there))
              (only.others k other) still
        ];
        said = λ a has. elim (Contains-append_cases said w.said a has) [
          | inl new ↦ all_said a new
          | inr was ↦ λ hart. le_trans (is.said a was hart) (more_acked a.term a.keeper hart)
        ];
        only_said = only_said_now said silent;
        handed = λ h has. elim (Contains-append_cases handed w.handed h has) [
          | inl new ↦ all_handed h new
          | inr was ↦ given_still h (once h was) (is.handed h was)
        ];
        told = λ a has. subst (λ rs. IsTold rs a) (sym only.released) (is.told a has);
        heard = is.heard;
      }

module _ (w : ProcessWorld) (is : IsTied w) (keeper : ℕ) (d e : Disk) (out : Out) (at : w.disks keeper ≡ Some d)
    (goes : Goes (guest_of w.image) w.frames d e out) where
  -- the act is one in the theory's world
  goes_there : Goes (guest_of w.image) is.world.sent d e out
  goes_there = subst (λ sent. Goes (guest_of w.image) sent d e out) (sym is.sent) goes

  -- which follows it
  abbrev follows : IsFollowed is.is_recorder.recorder (guest_of w.image) (quorum_of w) is.world keeper d e out
  follows = disks_go is.is_recorder.recorder (guest_of w.image) (quorum_of w) is.world keeper d e out (is.standing keeper d at) goes_there

  -- whoever hands the log over knows its fence
  knows : KnowsFence d.files.fence d.hand
  knows = (is.standing keeper d at).hand

  -- what it handed over was given, and is given once
  given_once : (h : Handed) → Contains w.handed h → keeper ≡ h.keeper → IsGivenOnce w is keeper d (Some e) follows.world follows.only h
  given_once h has here =
      let (le, not) = (is.handed h has).once d (ap w.disks (sym here) ∙ at) in (
        subst (λ k. follows.world.given h.term k ≡ is.world.given h.term k) here (follows.only.given h.term le not),
        λ b same.
            subst (λ (b : Disk). (h.term ≤ b.files.fence) × (b.hand ≡ HasFenced h.term → ⊥)) (some_same refl same)
            (goes_on (guest_of w.image) is.world.sent d e out goes_there knows h.term le not),
      )

  -- the world with what others learned of the act
  abbrev WithLists : List Acknowledgement → List Handed → Type 0
  WithLists said handed = IsTied (record w { disks = put w.disks keeper (Some e); said = said ++ w.said; handed = handed ++ w.handed })

  -- it is tied where what they learned is so in the theory
  learned : (said : List Acknowledgement) (handed : List Handed) →
      ((a : Acknowledgement) → Contains said a → (hart : ℕ) → count_at a.counts hart ≤ follows.world.acked a.term a.keeper hart) →
      IsSilent w is keeper d (Some e) follows.world follows.only said →
      ((h : Handed) → Contains handed h → IsGiven follows.world (guest_of w.image) (put w.disks keeper (Some e)) h) → WithLists said handed
  learned =
      with_lists w is keeper d (Some e) follows.world follows.only
      (comes_by is.is_recorder.recorder (guest_of w.image) (quorum_of w) is.comes follows.events)
      (λ b same. subst (StandsOn (guest_of w.image) follows.world keeper) (some_same refl same) follows.stands) given_once

  -- no position is said
  not_said : ((p : Position) → out ≡ Says p → ⊥) → (said : List Acknowledgement) → IsSilent w is keeper d (Some e) follows.world follows.only said
  not_said never said u hart none = follows.silent u hart (λ p same term. never p same)

  -- nothing is told to others
  nothing_told : ((p : Position) → out ≡ Says p → ⊥) → WithLists [] []
  nothing_told never = learned [] [] (λ a has. none_in [] a refl has) (not_said never []) (λ h has. none_in [] h refl has)

  -- it is acknowledged up to a position
  says_so : (p : Position) → out ≡ Says p → WithLists (record { term = p.term; keeper = keeper; counts = p.counts } ∷ []) []
  says_so p same =
      let one : Acknowledgement = record { term = p.term; keeper = keeper; counts = p.counts } in
      learned (one ∷ []) []
      (λ a has.
      subst (λ (a : Acknowledgement). (hart : ℕ) → count_at a.counts hart ≤ follows.world.acked a.term a.keeper hart) (only_one one a has)
      (subst (IsToldBy (guest_of w.image) follows.world keeper) same follows.told))
      (λ u hart none. follows.silent u hart (λ q this term. none one (here one []) (ap (λ (q : Position). q.term) (one_position p q (sym same ∙ this)) ∙ term) refl))
      (λ h has. none_in [] h refl has)

  -- the log is handed over
  hands_over : (term : ℕ) (bytes : List ℕ) → out ≡ Hands term bytes → WithLists [] (record { keeper = keeper; term = term; bytes = bytes } ∷ [])
  hands_over term bytes same =
      let one : Handed = record { keeper = keeper; term = term; bytes = bytes } in
      let told : IsToldBy (guest_of w.image) follows.world keeper (Hands term bytes) =
      subst (IsToldBy (guest_of w.image) follows.world keeper) same follows.told in
      let disks = put w.disks keeper (Some e) in
      learned [] (one ∷ []) (λ a has. none_in [] a refl has) (not_said (λ p this. hands_nothing_said term bytes p (sym same ∙ this)) [])
      (λ h has.
      subst (IsGiven follows.world (guest_of w.image) disks) (only_one one h has)
      (record {
        store = told.0;
        given = told.1;
        frames = told.2;
        once = λ b there.
            subst (λ (b : Disk). (term ≤ b.files.fence) × (b.hand ≡ HasFenced term → ⊥)) (some_same (put_same w.disks keeper keeper (Some e) refl) there)
            (goes_out (guest_of w.image) is.world.sent d e out term bytes goes_there knows same);
      }))

-- an act on a keeper's disk
pub at_keeper : (w : ProcessWorld) → IsTied w → (keeper : ℕ) (d e : Disk) (out : Out) → w.disks keeper ≡ Some d → Goes (guest_of w.image) w.frames d e out →
    IsTied (with_out (record w { disks = put w.disks keeper (Some e) }) keeper out)
at_keeper w is keeper d e Nothing at goes = nothing_told w is keeper d e Nothing at goes (λ p same. absurd cc)
at_keeper w is keeper d e (Says p) at goes = says_so w is keeper d e (Says p) at goes p refl
at_keeper w is keeper d e (Hands term bytes) at goes = hands_over w is keeper d e (Hands term bytes) at goes term bytes refl

-- a keeper is lost
pub loses : (w : ProcessWorld) → IsTied w → (keeper : ℕ) → IsTied (record w { disks = put w.disks keeper None })
loses w is keeper =
    with_lists w is keeper nothing_there None (theory.lost is.world keeper) only (theory.Then is.comes (theory.Lose keeper))
    (λ b none. some_none none refl) (λ h has here. (refl, λ b none. some_none none refl)) [] [] (λ a has. none_in [] a refl has) (λ u hart none. refl)
    (λ h has. none_in [] h refl has)
  where
    -- nothing but its stores is another
    only : OnlyKeeper is.world (theory.lost is.world keeper) keeper nothing_there
    only =
        record {
          terms = refl;
          sent = refl;
          released = refl;
          notes = refl;
          marks = refl;
          others = λ k other. record {
            stores = put_other is.world.stores keeper k None other;
            saved = put_other is.world.saved keeper k None other;
            fence = refl;
            given = λ u. refl;
            acked = λ u. refl;
          };
          acked = λ u hart. omega arith;
          given = λ u le not. refl;
        }
