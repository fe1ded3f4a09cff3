-- Books of the theory's machines: a run, with an honest log of it.
use Rattle.std.specs.Prelude.{ℕ, ◌≡◌, ◌≤◌, ◌<◌, ◌⊎◌, false, List, [], ◌∷◌, ◌++◌, Contains}
use Rattle.interleaving.specs.Lists.{Each, EachPair}
use Rattle.interleaving.specs.Machine.{Machine, System, Turn, counts, run, at}
use Rattle.interleaving.specs.Log.{Edge, Log, IsHonest}
use Rattle.fenced_theory.specs.Recorders.{Output, Change, Booted, Went, Revived, Recorder}

-- what a hart has put out: a step adds at most one output, at its own number
pub record Outs {Hart Page Input : Type 0} (system : System Hart Page Input) : Type 0 where
  pub outputs : Hart → List Output
  pub adds : (hart : Hart) (input : Input) (pages : ℕ → Page) → system.halted hart ≡ false →
      (outputs (system.effect hart input pages).hart ≡ outputs hart) ⊎
      ((o : Output) × (o.step ≡ system.count hart) × (outputs (system.effect hart input pages).hart ≡ outputs hart ++ o ∷ []))

-- outputs stand in the order of their steps, which are below the count
pub record AreTidy (count : ℕ) (outputs : List Output) : Type 0 where
  pub rising : EachPair (λ o p. o.step < p.step) outputs
  pub below : Each (λ o. o.step < count) outputs

module _ {Hart Page Input : Type 0} (system : System Hart Page Input) (outs : Outs system) where
  -- a run from a machine with tidy outputs, and a log that is honest for it and names no step before it
  pub record Book : Type 0 where
    pub from : Machine Hart Page
    pub turns : List (Turn Input)
    pub log : Log Input
    pub honest : IsHonest system log from turns
    pub begins : (e : Edge) → Contains log.edges e → log.start e.hart ≤ e.step
    pub tidy : (hart : ℕ) → AreTidy (counts system from hart) (outs.outputs (from.harts hart))

  -- the second book goes on from the first: its run does, the edges of the first's steps are as they were, and new ones are of
  -- its counts or later
  pub record RunsOn (b c : Book) : Type 0 where
    pub from : c.from ≡ b.from
    pub turns : (more : List (Turn Input)) × (c.turns ≡ b.turns ++ more)
    pub old_edges : (e : Edge) → Contains b.log.edges e → e.step < b.log.end e.hart → Contains c.log.edges e
    pub new_edges : (e : Edge) → Contains c.log.edges e → Contains b.log.edges e ⊎ (b.log.end e.hart ≤ e.step)

  -- what may happen to these books: one begins at boot, goes on by a run, or lives on from the machine at a cut
  pub data BookFact (boot : Machine Hart Page) : Type 0 where
    AtBoot : (b : Book) → b.from ≡ boot → BookFact boot
    ByRun : (b c : Book) → RunsOn b c → BookFact boot
    AtCut : (b : Book) (cut : ℕ → ℕ) (c : Book) → c.from ≡ at system b.from b.turns cut → c.turns ≡ [] → BookFact boot

  abbrev pub told : {boot : Machine Hart Page} → BookFact boot → Change Book
  told (AtBoot b is) = Booted b
  told (ByRun b c on) = Went b c
  told (AtCut b cut c from none) = Revived b cut c

  -- these books are a recorder's, which begins at boot, goes on by runs, and lives on from the machine at a cut
  pub record IsRecorder (boot : Machine Hart Page) : Type 0 where
    pub recorder : Recorder Book (BookFact boot)
    pub start : (b : Book) → recorder.start b ≡ b.log.start
    pub counts_are : (b : Book) → recorder.counts b ≡ b.log.end
    pub edges : (b : Book) → recorder.edges b ≡ b.log.edges
    pub outputs : (b : Book) (hart : ℕ) → recorder.outputs b hart ≡ outs.outputs ((run system b.from b.turns).harts hart)
    pub tells : (f : BookFact boot) → recorder.tells f ≡ told f
