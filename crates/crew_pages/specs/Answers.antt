-- What `ask` answers.
use Rattle.std.specs.Prelude.{List, Bool}
use Rattle.smallvec.specs.SmallVec.{SmallVec}
use Rattle.edge_log.specs.declared.Edge.{Edge}
use Rattle.crew_pages.specs.declared.right.Ask.{Ask}
use Rattle.crew_pages.specs.declared.right.Ask.TheVariants.{HeldBy, Given}

-- a fact of the harts that hold the right, where the answer names some
abbrev pub IfHeldBy : Ask → (List Bool → Type 0) → Type 0
IfHeldBy (HeldBy harts) P = P harts
IfHeldBy (Given edges) P = Unit {0}

-- a fact of the edges, where the right is given
abbrev pub IfGiven : Ask → (SmallVec Edge → Type 0) → Type 0
IfGiven (HeldBy harts) P = Unit {0}
IfGiven (Given edges) P = P edges

abbrev pub OnHeldBy : Ask → Type 0 → Type 0
OnHeldBy answer P = IfHeldBy answer (λ harts. P)

abbrev pub OnGiven : Ask → Type 0 → Type 0
OnGiven answer P = IfGiven answer (λ edges. P)
