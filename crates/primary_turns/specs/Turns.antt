-- What a primary that leads does with what is said to it, and in its rounds: calls of its leader, and the deeds that follow each.
use Rattle.std.specs.Prelude.{◌≡◌, ◌≢◌, ◌≤◌, ◌⊎◌, ◌++◌, ◌∷◌, [], ℕ, List, Option, Some, length, drop}
use Rattle.std.specs.List.{flat_map}
use Rattle.fragment_codec.specs.Streams.{spelling}
use Rattle.fragment_codec.specs.declared.frame.Frame.{Frame}
use Rattle.log_pieces.specs.Pieces.{IsCut, book_log}
use Rattle.output_gate.specs.Gates.{waiting_count}
use Rattle.primary.specs.Gating.{AreAllOffered, OffersMore}
use Rattle.requests.specs.declared.queue.Came.TheVariants.{Busy}
use Rattle.wire.specs.declared.acknowledgements.Acknowledgement.{Acknowledgement}
use Rattle.wire.specs.declared.requests.Request.{Request}
use Rattle.wire.specs.declared.requests.Request.TheVariants.{From}
use Rattle.leading.specs.Hearing.{Hears, LetsGo, WithNoted}
use Rattle.leading.specs.Leaders.{LeaderView}
use Rattle.leading.specs.Rounds.{IsRound}
use Rattle.leading.specs.declared.heard.Heard.{Heard}
use Rattle.leading.specs.declared.heard.Heard.TheVariants as heard
use Rattle.leading.specs.declared.inputs.Spacing.{Spacing}
use Rattle.primary_turns.specs.Deeds.{AreAnswersRead, AreFindings, AreRead, IsBehindLast, deeds_of, noted, sends, tells}
use Rattle.primary_turns.specs.declared.deeds.Deed.{Deed}
use Rattle.primary_turns.specs.declared.deeds.Deed.TheVariants.{Anew}
use Rattle.primary_turns.specs.declared.said.Said.{Said}
use Rattle.primary_turns.specs.declared.said.Said.TheVariants as said

pub record LeadershipView : Type 0 where
  pub leader : LeaderView
  pub told : List (Option ℕ)  -- for each hart the number of its answer that was told last
  pub ahead : ℕ  -- how many bytes of frames were sent that too few keepers are known to have

-- a leader, what was told last, and how far it is ahead of its keepers
abbrev pub seen : LeaderView → List (Option ℕ) → ℕ → LeadershipView
seen leader told ahead = record { leader = leader; told = told; ahead = ahead }

-- ---- what is said

-- `Leader::hear` of the request, whose hart had room for it
pub record HearsRequest (old : LeaderView) (request : Request) (new : LeaderView) (deeds : List Deed) : Type 0 where
  pub what : Heard
  pub hears : Hears old request new what
  pub room : what ≢ heard.Came Busy
  pub added : deeds ≡ deeds_of request what

-- Its client has the answer before the ones that it wants, the last one of the hart that was told: nothing is done.
abbrev pub IsKnown : List (Option ℕ) → Request → List Deed → Type 0
IsKnown told (From hart number) deeds = IsBehindLast told hart number × AreAnswersRead deeds
IsKnown told other deeds = ⊥

-- `Leader::acknowledge`: each output that goes out is told in the term, once and in order
pub record HearsSaid (old : LeaderView) (a : Acknowledgement) (new : LeaderView) (deeds : List Deed) : Type 0 where
  pub lets : WithNoted old a (λ g. LetsGo old g new)
  pub rest : new ≡ record old { primary = record old.primary { book = new.primary.book }; gate = new.gate; released = new.released }
  pub read : List Deed
  pub own : AreRead a.keeper read
  pub added : deeds ≡ read ++ tells old.primary.opening.term (drop (length old.released) new.released)

-- what becomes of the leader by what is said, and what is to be done
abbrev pub Becomes : LeadershipView → Said → LeaderView → List Deed → Type 0
Becomes old (said.Request request) new deeds = HearsRequest old.leader request new deeds ⊎ ((new ≡ old.leader) × IsKnown old.told request deeds)
Becomes old (said.Acknowledgement a) new deeds = HearsSaid old.leader a new deeds
Becomes old (said.Again keeper) new deeds = (new ≡ old.leader) × (deeds ≡ Anew keeper ∷ [])
Becomes old said.Tick new deeds = (new ≡ old.leader) × AreFindings deeds

-- An acknowledgement may lower what is ahead of keepers; all else leaves it.
abbrev pub IsAhead : ℕ → Said → ℕ → Type 0
IsAhead old (said.Acknowledgement a) new = new ≤ old
IsAhead old other new = new ≡ old

pub record Takes (old : LeadershipView) (what : Said) (new : LeadershipView) (deeds : List Deed) : Type 0 where
  pub becomes : Becomes old what new.leader deeds
  pub told : new.told ≡ noted old.told deeds
  pub ahead : IsAhead old.ahead what new.ahead

-- all that is said is taken, one behind the other
abbrev pub TakesAll : LeadershipView → List Said → LeadershipView → List Deed → Type 0
TakesAll old [] new deeds = (new ≡ old) × (deeds ≡ [])
TakesAll old (what ∷ more) new deeds =
    (mid : LeadershipView) × (first : List Deed) × (rest : List Deed) × Takes old what mid first × TakesAll mid more new rest × (deeds ≡ first ++ rest)

-- the request's hart has no room for it
abbrev pub IsBusy : LeaderView → Request → Type 0
IsBusy leader request = (new : LeaderView) × Hears leader request new (heard.Came Busy)

-- what is said is a request that is to come again
abbrev pub ComesAgain : LeaderView → Option Said → Type 0
ComesAgain leader (Some (said.Request request)) = IsBusy leader request
ComesAgain leader other = ⊥

-- ---- rounds

-- `Leader::round`
pub record GoesRound (old new : LeaderView) : Type 0 where
  pub spacing : Spacing
  pub steps : ℕ
  pub round : IsRound spacing steps old new
  pub opening : new.primary.opening ≡ old.primary.opening
  pub sealed : new.primary.sealed ≡ old.primary.sealed
  pub gate : OffersMore old.gate new.gate
  pub offered : AreAllOffered new.gate.gate new.primary.book.machine
  pub released : new.released ≡ old.released

-- once, or more often
pub data Rounds (old : LeaderView) : LeaderView → Type 0 where
  One : (new : LeaderView) → GoesRound old new → Rounds old new
  More : (mid new : LeaderView) → Rounds old mid → GoesRound mid new → Rounds old new

-- `Leader::seal`: the bytes of all frames that are cut are sent
pub record Cuts (old new : LeaderView) (deeds : List Deed) : Type 0 where
  pub frames : List Frame
  pub cut : IsCut (book_log old.primary.opening.guest old.primary.opening.term old.primary.book) old.primary.opening.guest.harts old.primary.sealed frames
      new.primary.sealed
  pub rest : new ≡ record old { primary = record old.primary { sealed = new.primary.sealed } }
  pub added : deeds ≡ sends (flat_map spelling frames)

-- nothing is cut, nor sent, and no output waits for it
pub record CutsNone (old new : LeaderView) (deeds : List Deed) : Type 0 where
  pub waits : waiting_count old.gate.gate.lines ≡ 0
  pub same : new ≡ old
  pub added : deeds ≡ []

-- rounds, and then what is new of the log is cut and sent, unless no output waits for that
abbrev pub Leads : LeaderView → LeaderView → List Deed → Type 0
Leads old new deeds = (mid : LeaderView) × Rounds old mid × (Cuts mid new deeds ⊎ CutsNone mid new deeds)
