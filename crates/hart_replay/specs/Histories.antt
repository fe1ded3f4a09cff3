-- Histories: what happened in each term, and frames that tell of it.
use Rattle.std.specs.Prelude.{ℕ, ◌≡◌, ◌⊎◌, ◌<◌, ◌≤◌, List, Contains, Option, Some, None}
use Rattle.ft_types.specs.Counts.{count_at}
use Rattle.interleaving.specs.Machine.{Machine, System, Turn, at}
use Rattle.interleaving.specs.Log.{Log, IsHonest, IsCut}
use Rattle.input_log.specs.declared.Input.{Input}
use Rattle.input_log.specs.Inputs.{inputs_at}
use Rattle.fragment_codec.specs.declared.frame.Frame.{Frame}
use Rattle.fragment_codec.specs.Rules.{FragmentParts}
use Rattle.log_join.specs.Stores.{StoreView}
use Rattle.log_join.specs.Families.{Past, Family, HasPieces, OfFamily, HonestStore}
use Rattle.closed_cut.specs.Telling.{TellsEdges}
use Rattle.hart_replay.specs.Facts.{inputs_among}

-- what happened in a term: with which machine it began, how its harts were interleaved, and what is kept of that
pub record TermHistory (Hart Page : Type 0) : Type 0 where
  pub start : Machine Hart Page
  pub turns : List (Turn (List Input))
  pub log : Log (List Input)

-- the terms that were granted, each with its opening, its pieces, and what happened
abbrev pub History : Type 0 → Type 0 → Type 0
History Hart Page = Family (TermHistory Hart Page)

-- the piece has exactly the log's facts of the hart in its range
pub record TellsOf (log : Log (List Input)) (hart : ℕ) (piece : FragmentParts) : Type 0 where
  pub edges : TellsEdges log.edges (log.end hart) hart piece
  pub inputs : (count : ℕ) → piece.from ≤ count → count < piece.to → inputs_at (inputs_among piece.records) count ≡ log.inputs hart count

-- what holds of the term's history: the term was granted, and this is so of it
abbrev pub InTerm : {Hart Page : Type 0} → History Hart Page → ℕ → (TermHistory Hart Page → Type 0) → Type 0
InTerm {Hart} {Page} history term P = (past : Past (TermHistory Hart Page)) × (history term ≡ Some past) × P past.told

-- the counts are those of boot, or a closed cut of the term's log
abbrev pub IsPlace : {Hart Page : Type 0} → History Hart Page → ℕ → (ℕ → ℕ) → Type 0
IsPlace history term cut = (term ≡ 0) ⊎ InTerm history term (λ t. IsCut t.log cut)

module _ {Hart Page : Type 0} (system : System Hart Page (List Input)) (boot : Machine Hart Page) where
  -- the machine at a cut of a term; that of boot where there is no such term
  abbrev pub machine_in : Option (Past (TermHistory Hart Page)) → (ℕ → ℕ) → Machine Hart Page
  machine_in None cut = boot
  machine_in (Some past) cut = at system past.told.start past.told.turns cut

  abbrev pub machine_at : History Hart Page → ℕ → (ℕ → ℕ) → Machine Hart Page
  machine_at history term cut = machine_in (history term) cut

  -- the term began with the machine at a place of an older one, its log is honest, and its frames tell of it
  pub record IsTerm (history : History Hart Page) (number : ℕ) (past : Past (TermHistory Hart Page)) : Type 0 where
    pub older : past.opening.parent < number
    pub base : (hart : ℕ) → count_at past.opening.base hart ≡ past.told.log.start hart
    pub start : past.told.start ≡ machine_at history past.opening.parent past.told.log.start
    pub place : IsPlace history past.opening.parent past.told.log.start
    pub honest : IsHonest system past.told.log past.told.start past.told.turns
    pub pieces : HasPieces (λ told. TellsOf told.log) past

  -- each term is such a term, and none has number 0, which stands for boot
  pub record IsHistory (history : History Hart Page) : Type 0 where
    pub none : history 0 ≡ None
    pub terms : (number : ℕ) (past : Past (TermHistory Hart Page)) → history number ≡ Some past → IsTerm history number past

  -- the frames are the history's
  pub record AreHonest (history : History Hart Page) (frames : List Frame) : Type 0 where
    pub is_history : IsHistory history
    pub of_family : (frame : Frame) → Contains frames frame → OfFamily history frame

  -- what came is of the history
  pub record IsHonestStore (history : History Hart Page) (store : StoreView) : Type 0 where
    pub is_history : IsHistory history
    pub honest : HonestStore history store
