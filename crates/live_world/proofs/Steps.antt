-- What goes on at one keeper's disk while a call lasts, step by step: what happens beside its acts, and the acts.
use Rattle.std.proofs.Common.{◌≡◌, ◌++◌, ℕ, Bool, true, false, cond, List, [], ◌∷◌, Contains, None, Some, inl, inr, refl, sym, ap, subst, ◌∙◌}
use Rattle.std.proofs.Common.{append-nil, arith, ◌<◌}
use Rattle.std.proofs.lemmas.Bool.{cases_Bool}
use Rattle.guest_image.specs.Image.{ImageContents, guest_of}
use Rattle.interleaving.proofs.Cuts.{here}
use Rattle.fragment_codec.specs.declared.frame.Frame.{Frame}
use Rattle.fragment_codec.specs.Streams.{Splits}
use Rattle.fragment_codec.proofs.streams.Splits.{splits_more}
use Rattle.stations.specs.Acts.{Act, SawLog, CutTo, Added, Synced as WasSynced, SawFence, Fenced, Failed}
use Rattle.stations.specs.Handshake.{Files, Did, Crash, IsBeginning, after}
use Rattle.stations.specs.declared.faults.FilesFault.{FilesFault}
use Rattle.ft_types.specs.declared.position.Position.{Position}
use Rattle.keeper_disks.specs.Disks.{Phase, Away, Hand, Nobody, Saw, HasFenced, Disk, Nothing, Says, Hands, Keeps, Gives, Sees, Fences, HandsOver}
use Rattle.keeper_disks.specs.Disks.{WereSent, Goes, KeeperDoes, KeeperEnds, HandEnds, Crashes, HandDoes as HandDoesNext}
use Rattle.keeper_disks.proofs.Standings.{disks_crash}
use Rattle.process_world.specs.Worlds.{Handed, ProcessWorld}
use Rattle.process_world.specs.Happenings.{Comes}
use Rattle.process_world.proofs.All.{tied}
use Rattle.wire.specs.declared.acknowledgements.Acknowledgement.{Acknowledgement}
use Rattle.live_world.specs.declared.event.HandAct.{HandAct}
use Rattle.live_world.specs.declared.event.HandAct.TheVariants as hands
use Rattle.live_world.specs.Passages.{IsNothing, IsDone}
use Rattle.live_world.specs.Shelves.{ShelfView, HandDoes, HasCrashed, Beside, HandDid, Crashed, Besides, Still, Then}
use Rattle.live_world.proofs.AtDisks.{GoesAt, ReadIn, still_read, as_disk, quiet, says, hands as hand_over, with_lists}
use Rattle.live_world.proofs.Following.{comes_on}
use Rattle.live_world.proofs.Readings.{IsInFront, one_front, front}

-- the disk while a keeper's call lasts: behind a crash there is no keeper
abbrev pub disk_in : ShelfView → Phase → Disk
disk_in s p = record { files = s.files; keeper = cond s.crashed Away p; hand = s.hand }

-- the files stand so, and the keeper's process; and what was read was handed over
pub record StandsAt (w : ProcessWorld) (keeper : ℕ) (s : ShelfView) (p : Phase) (said : List Acknowledgement) (x : ProcessWorld) : Type 0 where
  pub goes : GoesAt w keeper (disk_in s p) said x
  pub read : ReadIn x keeper s.read

-- some world of processes stands so
abbrev pub Stands : ProcessWorld → ℕ → ShelfView → Phase → List Acknowledgement → Type 0
Stands w keeper s p said = (x : ProcessWorld) × StandsAt w keeper s p said x

pub as_disk_of : (s : ShelfView) (p : Phase) → s.crashed ≡ false → disk_in s p ≡ record { files = s.files; keeper = p; hand = s.hand }
as_disk_of s p lives = ap (λ (b : Bool). record { files = s.files; keeper = cond b Away p; hand = s.hand }) lives

as_gone : (s : ShelfView) (p : Phase) → s.crashed ≡ true → disk_in s p ≡ record { files = s.files; keeper = Away; hand = s.hand }
as_gone s p gone = ap (λ (b : Bool). record { files = s.files; keeper = cond b Away p; hand = s.hand }) gone

ends_so : (s : ShelfView) → disk_in s Away ≡ record { files = s.files; keeper = Away; hand = s.hand }
ends_so s = elim (cases_Bool s.crashed) [ inl gone ↦ as_gone s Away gone | inr lives ↦ as_disk_of s Away lives ]

-- what is on disk, as it was sent
were_sent : {image : ImageContents} {keepers need : ℕ} {x : ProcessWorld} {keeper : ℕ} (d : Disk) → Comes image keepers need x →
    x.disks keeper ≡ Some d → WereSent x.frames d.files.log
were_sent {x = x} {keeper = keeper} d comes at =
    let is = (tied comes).0 in
    subst (λ (sent : List Frame). WereSent sent d.files.log) is.sent
    (disks_crash _ (guest_of x.image) is.world keeper d (is.standing keeper d at)).0

begin_sent : (sent : List Frame) (left log : List ℕ) → IsBeginning left log → WereSent sent log → WereSent sent left
begin_sent sent left log (more, parts) were frames rest splits f has =
    were frames (rest ++ more) (subst (λ (x : List ℕ). Splits x frames (rest ++ more)) (sym parts) (splits_more left rest more frames splits)) f has

module _ {w : ProcessWorld} {keeper : ℕ} {s : ShelfView} {p : Phase} {said : List Acknowledgement} {x : ProcessWorld}
    (is : StandsAt w keeper s p said x) where
  -- an act that tells others nothing
  on_quiet : (t : ShelfView) (q : Phase) → t.read ≡ s.read → Goes (guest_of w.image) w.frames (disk_in s p) (disk_in t q) Nothing →
      Stands w keeper t q said
  on_quiet t q same act =
      let y : ProcessWorld = with_lists x keeper (disk_in t q) [] [] in
      let read : ReadIn y keeper s.read = still_read x y keeper s.read (λ h has. has) is.read in
      (y, record { goes = quiet is.goes act; read = subst (ReadIn y keeper) (sym same) read })

  -- ---- beside the keeper's acts

  looks : s.hand ≡ Nobody → Stands w keeper (record s { hand = Saw s.files.fence }) p said
  looks nobody =
      let sees : Gives s.files s.hand (SawFence s.files.fence) (Saw s.files.fence) Nothing =
      subst (λ (h : Hand). Gives s.files h (SawFence s.files.fence) (Saw s.files.fence) Nothing) (sym nobody) (Sees s.files.fence (omega arith)) in
      on_quiet (record s { hand = Saw s.files.fence }) p refl (HandDoesNext (SawFence s.files.fence) (Saw s.files.fence) Nothing sees)

  fences : (term last : ℕ) → s.hand ≡ Saw last → last < term →
      Stands w keeper (record s { files = after s.files (Did (Fenced term)); hand = HasFenced term }) p said
  fences term last saw less =
      let puts : Gives s.files s.hand (Fenced term) (HasFenced term) Nothing =
      subst (λ (h : Hand). Gives s.files h (Fenced term) (HasFenced term) Nothing) (sym saw) (Fences last term less) in
      on_quiet (record s { files = after s.files (Did (Fenced term)); hand = HasFenced term }) p refl
      (HandDoesNext (Fenced term) (HasFenced term) Nothing puts)

  -- the files behind a reading of the log
  abbrev has_read : ℕ → ShelfView
  has_read term = record s { hand = Nobody; read = Some (record { term = term; log = s.files.log }) }

  -- what stands in front of the log is handed over
  reads_front : (term : ℕ) (bytes rest : List ℕ) → s.hand ≡ HasFenced term → IsInFront s.files.log bytes rest → Stands w keeper (has_read term) p said
  reads_front term bytes rest fenced front =
      let d : Disk = disk_in (has_read term) p in
      let gives : Gives s.files s.hand (SawLog s.files.log) Nobody (Hands term bytes) =
      subst (λ (h : Hand). Gives s.files h (SawLog s.files.log) Nobody (Hands term bytes)) (sym fenced)
      (HandsOver term bytes rest front.frames front.parts front.splits front.partial) in
      let one : Handed = record { keeper = keeper; term = term; bytes = bytes } in (
        with_lists x keeper d [] (one ∷ []),
        record {
          goes = hand_over is.goes term bytes (HandDoesNext (SawLog s.files.log) Nobody (Hands term bytes) gives);
          read = λ others behind frames parts splits partial.
              let same : bytes ≡ others =
              one_front front (record { frames = frames; parts = parts; splits = splits; partial = partial }) in
              subst (λ (all : List ℕ). Contains (one ∷ x.handed) (record { keeper = keeper; term = term; bytes = all })) same (here one x.handed);
        },
      )

  -- and nothing where a fault stands there
  reads_none : (term : ℕ) → ((bytes rest : List ℕ) → IsInFront s.files.log bytes rest → ⊥) → Stands w keeper (has_read term) p said
  reads_none term none = (
    with_lists x keeper (disk_in (has_read term) p) [] [],
    record {
      goes = quiet is.goes HandEnds;
      read = λ bytes rest frames parts splits partial.
          absurd (none bytes rest (record { frames = frames; parts = parts; splits = splits; partial = partial }));
    },
  )

  reads : (term : ℕ) → s.hand ≡ HasFenced term → Stands w keeper (has_read term) p said
  reads term fenced =
      elim (front s.files.log) [
        | inl (bytes, rest, is_front) ↦ reads_front term bytes rest fenced is_front
        | inr none ↦ reads_none term none
      ]

  hand_ends : Stands w keeper (record s { hand = Nobody; read = None }) p said
  hand_ends =
      let t : ShelfView = record s { hand = Nobody; read = None } in
      (with_lists x keeper (disk_in t p) [] [], record { goes = quiet is.goes HandEnds; read = tt })

  -- whoever hands the log over did this
  pub hand_step : {t : ShelfView} (act : HandAct) → HandDoes act s t → Stands w keeper t p said
  hand_step hands.Looks (nobody, rest) = subst (λ (t : ShelfView). Stands w keeper t p said) (sym rest) (looks nobody)
  hand_step (hands.Fences term) (last, saw, less, near, rest) =
      subst (λ (t : ShelfView). Stands w keeper t p said) (sym rest) (fences term last saw less)
  hand_step hands.Reads (term, fenced, rest) = subst (λ (t : ShelfView). Stands w keeper t p said) (sym rest) (reads term fenced)
  hand_step hands.Ends rest = subst (λ (t : ShelfView). Stands w keeper t p said) (sym rest) hand_ends

  -- the machine crashed
  pub crash_step : {image : ImageContents} {keepers need : ℕ} {t : ShelfView} → Comes image keepers need w → HasCrashed s t → Stands w keeper t p said
  crash_step {image} {keepers} {need} {t} comes has =
      let here : Comes image keepers need x = comes_on comes is.goes.follows in
      let sent : WereSent w.frames has.left =
      subst (λ (sent : List Frame). WereSent sent has.left) is.goes.frames
      (begin_sent x.frames has.left s.files.log has.beginning (were_sent (disk_in s p) here is.goes.disk)) in
      let crashed : ShelfView = record s { files = after s.files (Crash has.left); crashed = true } in
      subst (λ (t : ShelfView). Stands w keeper t p said) (sym has.rest) (on_quiet crashed p refl (Crashes has.left has.safe sent))

  -- ---- the keeper's acts

  abbrev done_by : Act → ShelfView
  done_by act = record s { files = after s.files (Did act) }

  -- where it runs
  acts : (act : Act) (q : Phase) → s.crashed ≡ false → Keeps (guest_of w.image) s.files p act q Nothing → Stands w keeper (done_by act) q said
  acts act q lives keeps =
      let e : Disk = record { files = after s.files (Did act); keeper = q; hand = s.hand } in
      let y : ProcessWorld = with_lists x keeper e [] [] in
      let goes : GoesAt w keeper e said y = quiet (as_disk (as_disk_of s p lives) is.goes) (KeeperDoes act q Nothing keeps) in
      (y, record { goes = as_disk (sym (as_disk_of (done_by act) q lives)) goes; read = still_read x y keeper s.read (λ h has. has) is.read })

  says_so : (act : Act) (q : Phase) (position : Position) → s.crashed ≡ false → Keeps (guest_of w.image) s.files p act q (Says position) →
      Stands w keeper (done_by act) q (record { term = position.term; keeper = keeper; counts = position.counts } ∷ said)
  says_so act q position lives keeps =
      let e : Disk = record { files = after s.files (Did act); keeper = q; hand = s.hand } in
      let one : Acknowledgement = record { term = position.term; keeper = keeper; counts = position.counts } in
      let y : ProcessWorld = with_lists x keeper e (one ∷ []) [] in
      let goes : GoesAt w keeper e (one ∷ said) y =
      says (as_disk (as_disk_of s p lives) is.goes) position (KeeperDoes act q (Says position) keeps) in
      (y, record { goes = as_disk (sym (as_disk_of (done_by act) q lives)) goes; read = still_read x y keeper s.read (λ h has. has) is.read })

  -- behind a crash nothing is done
  gone : (q : Phase) → s.crashed ≡ true → Stands w keeper s q said
  gone q crashed = (x, record { goes = as_disk (as_gone s p crashed ∙ sym (as_gone s q crashed)) is.goes; read = is.read })

-- an act that leaves all as it is does so
still : (files : Files) (act : Act) → IsNothing act → after files (Did act) ≡ files
still files (Added bytes) none =
    ap (λ (log : List ℕ). record { log = log; safe = files.safe; fence = files.fence })
    (ap (λ (more : List ℕ). files.log ++ more) none ∙ append-nil files.log)
still files (Failed fault) none = refl
still files (SawLog bytes) none = absurd none
still files (CutTo size) none = absurd none
still files WasSynced none = absurd none
still files (SawFence fence) none = absurd none
still files (Fenced term) none = absurd none

module _ {image : ImageContents} {keepers need : ℕ} {w : ProcessWorld} (comes : Comes image keepers need w) {keeper : ℕ} {p : Phase}
    {said : List Acknowledgement} where
  -- what happens beside the keeper's acts
  pub besides : {s t : ShelfView} → Stands w keeper s p said → Besides s t → Stands w keeper t p said
  besides is Still = is
  besides is (Then before beside) = by (besides is before) beside
    where
      by : {s t : ShelfView} → Stands w keeper s p said → Beside s t → Stands w keeper t p said
      by (x, is) (HandDid act t does) = hand_step is act does
      by (x, is) (Crashed t has) = crash_step is comes has

  -- an act of the keeper's
  pub step : {s m t : ShelfView} (act : Act) (q : Phase) → Stands w keeper s p said → Besides s m → IsDone m act t →
      Keeps (guest_of w.image) m.files p act q Nothing → Stands w keeper t q said
  step {m = m} act q is beside done keeps =
      let (x, at) = besides is beside in
      subst (λ (t : ShelfView). Stands w keeper t q said) (sym done.rest) (elim (cases_Bool m.crashed) [
        | inl crashed ↦
            subst (λ (files : Files). Stands w keeper (record m { files = files }) q said) (sym (still m.files act (done.lives crashed)))
            (gone at q crashed)
        | inr lives ↦ acts at act q lives keeps
      ])

  -- what fails is nothing
  pub fails : {s m t : ShelfView} (fault : FilesFault) → Stands w keeper s p said → Besides s m → IsDone m (Failed fault) t → Stands w keeper t p said
  fails fault is beside done = subst (λ (t : ShelfView). Stands w keeper t p said) (sym done.rest) (besides is beside)

  -- the fence that it sees, and what it says behind that
  pub acknowledges : {s m t : ShelfView} (fence : ℕ) (q : Phase) (position : Position) → Stands w keeper s p said → Besides s m →
      IsDone m (SawFence fence) t → Keeps (guest_of w.image) m.files p (SawFence fence) q (Says position) →
      Stands w keeper t q (record { term = position.term; keeper = keeper; counts = position.counts } ∷ said)
  acknowledges {m = m} fence q position is beside done keeps =
      let (x, at) = besides is beside in
      subst
      (λ (t : ShelfView). Stands w keeper t q (record { term = position.term; keeper = keeper; counts = position.counts } ∷ said))
      (sym done.rest) (elim (cases_Bool m.crashed) [
        | inl crashed ↦ absurd (done.lives crashed)
        | inr lives ↦ says_so at (SawFence fence) q position lives keeps
      ])

  -- the keeper's process ends
  pub ends : {s : ShelfView} → Stands w keeper s p said → Stands w keeper s Away said
  ends {s} (x, is) =
      let e : Disk = record { files = s.files; keeper = Away; hand = s.hand } in
      let y : ProcessWorld = with_lists x keeper e [] [] in
      (y, record { goes = as_disk (sym (ends_so s)) (quiet is.goes KeeperEnds); read = still_read x y keeper s.read (λ h has. has) is.read })
