-- What may happen next: each is one call of a process, in the words of its contract, or a loss.
use Rattle.std.specs.Prelude.{◌≡◌, ◌<◌, ◌≤◌, ◌+◌, ℕ, List, [], ◌∷◌, ◌++◌, Contains, All, slice_get, slice_set, None, Some}
use Rattle.interleaving.specs.Lists.{put}
use Rattle.ft_types.specs.declared.quorum.Quorum.{Quorum}
use Rattle.guest_image.specs.Image.{ImageContents, guest_of}
use Rattle.fragment_codec.specs.declared.frame.Frame.{Frame}
use Rattle.fragment_codec.specs.declared.frame.Frame.TheVariants.{Opening}
use Rattle.fragment_codec.specs.Streams.{Splits}
use Rattle.log_pieces.specs.Pieces.{IsCut, book_log}
use Rattle.log_join.specs.Coming.{IsJoinOf}
use Rattle.log_join.specs.Stores.{StoreView}
use Rattle.go_live.specs.Joined.{AreJoined}
use Rattle.go_live.specs.Quorums.{AreEnough}
use Rattle.primary.specs.Gating.{AreAllOffered, OffersMore}
use Rattle.primary.specs.declared.released.Released.{Released}
use Rattle.fenced_live.specs.declared.given.Given.{Given}
use Rattle.keeper_disks.specs.Disks.{Away, Nobody, Disk, Out, Nothing, Says, Hands, Goes}
use Rattle.leading.specs.Beginning.{GoesLiveGiven, givers_in, stores_in}
use Rattle.leading.specs.Hearing.{Hears, LetsGo, LetsNothingGo, WithNoted}
use Rattle.leading.specs.Leaders.{LeaderView, BeginBehind}
use Rattle.leading.specs.Rounds.{IsRound}
use Rattle.leading.specs.declared.heard.Heard.{Heard}
use Rattle.leading.specs.declared.heard.Heard.TheVariants as on
use Rattle.leading.specs.declared.inputs.Spacing.{Spacing}
use Rattle.requests.specs.Asking.{next_of, asked_again, had, heard, with_answer}
use Rattle.requests.specs.declared.asker.Heard.TheVariants.{New as IsNew}
use Rattle.asking.specs.Talks.{TalkView}
use Rattle.wire.specs.declared.acknowledgements.Acknowledgement.{Acknowledgement}
use Rattle.wire.specs.declared.answers.Answer.{Answer}
use Rattle.wire.specs.declared.requests.Request.{Request}
use Rattle.process_world.specs.Worlds.{Led, ProcessWorld, Begins, IsNotGranted, Leads, led_as}

-- with what others learn of an act of a keeper's process, or of whoever hands its log over
abbrev pub with_out : ProcessWorld → ℕ → Out → ProcessWorld
with_out w keeper Nothing = w
with_out w keeper (Says p) = record w { said = record { term = p.term; keeper = keeper; counts = p.counts } ∷ w.said }
with_out w keeper (Hands term bytes) = record w { handed = record { keeper = keeper; term = term; bytes = bytes } ∷ w.handed }

-- what a primary was given was handed over to its term: the join of its frames
pub record WasHanded (w : ProcessWorld) (term : ℕ) (g : Given) : Type 0 where
  pub bytes : List ℕ
  pub frames : List Frame
  pub there : Contains w.handed (record { keeper = g.keeper; term = term; bytes = bytes })
  pub splits : Splits bytes frames []
  pub join : IsJoinOf (guest_of w.image) frames g.store.now

-- The bytes are frames that were sent, and their store is the join of all that enough keepers handed over to the term.
pub record HasAllHanded (w : ProcessWorld) (term : ℕ) (given : List Given) (bytes : List ℕ) : Type 0 where
  pub handed : All (WasHanded w term) given
  pub enough : AreEnough w.keepers w.need (givers_in given)
  pub store : StoreView
  pub joined : AreJoined (guest_of w.image) (stores_in given) store
  pub frames : List Frame
  pub splits : Splits bytes frames []
  pub sent : (f : Frame) → Contains frames f → Contains w.frames f
  pub join : IsJoinOf (guest_of w.image) frames store

-- a keeper's disk on which a log was made, with its fence
abbrev pub made_with : List ℕ → ℕ → Disk
made_with bytes fence = record { files = record { log = bytes; safe = bytes; fence = fence }; keeper = Away; hand = Nobody }

abbrev pub led_by : ProcessWorld → ℕ → LeaderView → List Led
led_by w n l = slice_set w.led n (led_as l)

-- a round changes nothing but the book and what waits for it, and offers all outputs at the gate
pub record IsRoundOf (spacing : Spacing) (steps : ℕ) (old new : LeaderView) : Type 0 where
  pub opening : new.primary.opening ≡ old.primary.opening
  pub round : IsRound spacing steps old new
  pub sealed : new.primary.sealed ≡ old.primary.sealed
  pub gate : OffersMore old.gate new.gate
  pub offered : AreAllOffered new.gate.gate new.primary.book.machine
  pub released : new.released ≡ old.released

-- what hearing an acknowledgement may change
abbrev pub OnlyHears : LeaderView → LeaderView → Type 0
OnlyHears old new =
    new ≡ record old { primary = record old.primary { book = new.primary.book }; gate = new.gate; released = new.released }

-- what is told of a request at once
abbrev pub told_of : Heard → List Answer
told_of (on.Told answers) = answers.items
told_of other = []

-- the primary, once its process is gone
abbrev pub ended : LeaderView → Led
ended l = record { opening = l.primary.opening; leader = None; book = l.primary.book }

-- an output that went out, as it is told in the term
abbrev pub answer_of : ℕ → Released → Answer
answer_of term r = record { term = term; output = r.output }

pub data Happens (w : ProcessWorld) : ProcessWorld → Type 0 where
  -- an act on a keeper's disk
  AtKeeper : (keeper : ℕ) (d e : Disk) (out : Out) → w.disks keeper ≡ Some d → Goes (guest_of w.image) w.frames d e out →
      Happens w (with_out (record w { disks = put w.disks keeper (Some e) }) keeper out)
  -- a keeper and all that it has on disk are gone for good
  Loses : (keeper : ℕ) → Happens w (record w { disks = put w.disks keeper None })
  -- What a keeper had on disk is gone, and its number goes to a new log, with all that enough keepers handed over to a term, which its fence is at. The old log
  -- acknowledged nothing in that term or a later one, and its fence is not above it.
  Renews : (keeper term : ℕ) (d : Disk) (given : List Given) (bytes : List ℕ) → w.disks keeper ≡ Some d → d.files.fence ≤ term → 0 < term →
      ((a : Acknowledgement) → Contains w.said a → a.keeper ≡ keeper → a.term < term) → HasAllHanded w term given bytes →
      Happens w (record w { disks = put w.disks keeper (Some (made_with bytes term)) })
  -- `Leader::go_live`, from logs that were handed over to the term, which is granted once
  GoesLiveIn : (term : ℕ) (quorum : Quorum) (given : List Given) (l : LeaderView) → IsNotGranted w term → quorum.keepers ≡ w.keepers →
      quorum.need ≡ w.need → All (WasHanded w term) given → GoesLiveGiven w.image quorum term given l.primary l.gate →
      BeginBehind l.primary.book.start l.queues → l.released ≡ [] →
      Happens w (record w { led = w.led ++ led_as l ∷ []; frames = w.frames ++ Opening l.primary.opening ∷ [] })
  -- `Leader::hear` of what was asked for, whenever and however often
  HearsRequest : (n : ℕ) (old new : LeaderView) (request : Request) (what : Heard) → Leads w n old → Contains w.asked request →
      Hears old request new what → Happens w (record w { led = led_by w n new; told = told_of what ++ w.told })
  -- `Leader::round`
  LeadsRound : (n : ℕ) (old new : LeaderView) (spacing : Spacing) (steps : ℕ) → Leads w n old → IsRoundOf spacing steps old new →
      Happens w (record w { led = led_by w n new })
  -- `Leader::seal`: the frames are sent to the keepers
  Seals : (n : ℕ) (old new : LeaderView) (frames : List Frame) → Leads w n old →
      IsCut (book_log old.primary.opening.guest old.primary.opening.term old.primary.book) old.primary.opening.guest.harts old.primary.sealed frames
      new.primary.sealed → new ≡ record old { primary = record old.primary { sealed = new.primary.sealed } } →
      Happens w (record w { led = led_by w n new; frames = w.frames ++ frames })
  -- `Leader::acknowledge` of one that was said, whenever and however often
  HearsSaid : (n : ℕ) (old new : LeaderView) (a : Acknowledgement) → Leads w n old → Contains w.said a →
      WithNoted old a (λ noted. LetsGo old noted new) → OnlyHears old new → Happens w (record w { led = led_by w n new })
  -- the same, where memory was refused
  LacksMemory : (n : ℕ) (old new : LeaderView) (a : Acknowledgement) → Leads w n old → Contains w.said a →
      WithNoted old a (λ noted. LetsNothingGo old noted new) → OnlyHears old new → Happens w (record w { led = led_by w n new })
  -- what went out is told, whenever and however often
  Tells : (n : ℕ) (l : LeaderView) (r : Released) → Leads w n l → Contains l.released r →
      Happens w (record w { told = answer_of l.primary.opening.term r ∷ w.told })
  -- a primary's process ends
  Ends : (n : ℕ) (l : LeaderView) → Leads w n l →
      Happens w (record w { led = slice_set w.led n (ended l) })
  -- a client comes, that has heard nothing
  Joins : (t : TalkView) → ((number : ℕ) → had t.asker number ≡ None) → Happens w (record w { clients = w.clients ++ t ∷ [] })
  -- whoever there is asks for something, by hand
  Wants : (r : Request) → Happens w (record w { asked = r ∷ w.asked })
  -- `Talk::ask`
  Asks : (c : ℕ) (t : TalkView) (r : Request) → slice_get w.clients c ≡ Some t → next_of t.asker ≡ Some r →
      Happens w (record w { clients = slice_set w.clients c (record t { asker = record t.asker { sent = t.asker.sent + 1 } }); asked = r ∷ w.asked })
  -- `Talk::ask_again`
  AsksAgain : (c : ℕ) (t : TalkView) → slice_get w.clients c ≡ Some t → Happens w (record w { asked = asked_again t.asker ++ w.asked })
  -- `Talk::hear`, of an answer that was told
  HearsAnswer : (c : ℕ) (t : TalkView) (a : Answer) → slice_get w.clients c ≡ Some t → Contains w.told a → heard t.asker a.output ≡ IsNew →
      Happens w (record w { clients = slice_set w.clients c (record t { asker = with_answer t.asker a.output }) })
  -- `Talk::tell`
  Prints : (c : ℕ) (t : TalkView) (word : ℕ) → slice_get w.clients c ≡ Some t → had t.asker t.told ≡ Some word →
      Happens w (record w { clients = slice_set w.clients c (record t { told = t.told + 1 }) })

-- what can have come of the first world
pub data Comes (image : ImageContents) (keepers need : ℕ) : ProcessWorld → Type 0 where
  First : (w : ProcessWorld) → Begins image keepers need w → Comes image keepers need w
  Then : {w v : ProcessWorld} → Comes image keepers need w → Happens w v → Comes image keepers need v
