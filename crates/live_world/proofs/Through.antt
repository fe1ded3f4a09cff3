-- What passes while a keeper's call lasts, from its first act on.
use Rattle.std.proofs.Common.{◌++◌, List, [], ◌∷◌}
use Rattle.stations.specs.Acts.{Act}
use Rattle.live_world.specs.Shelves.{ShelfView, Beside, Besides, Still, Then}
use Rattle.live_world.specs.Passages.{IsDone, Passes, Begins, ThenDid, ThenBeside}

-- what happens before each act, the act, and what happens behind the last one
abbrev pub Through : ShelfView → List Act → ShelfView → Type 0
Through s [] t = Besides s t
Through s (act ∷ acts) t = (m : ShelfView) × (u : ShelfView) × Besides s m × IsDone m act u × Through u acts t

then_did : (s t u : ShelfView) (acts : List Act) (act : Act) → Through s acts t → IsDone t act u → Through s (acts ++ act ∷ []) u
then_did s t u [] act besides done = (t, u, besides, done, Still)
then_did s t u (first ∷ acts) act (m, v, besides, was, rest) done = (m, v, besides, was, then_did v t u acts act rest done)

then_beside : (s t u : ShelfView) (acts : List Act) → Through s acts t → Beside t u → Through s acts u
then_beside s t u [] besides beside = Then besides beside
then_beside s t u (first ∷ acts) (m, v, besides, was, rest) beside = (m, v, besides, was, then_beside v t u acts rest beside)

pub through : (s t : ShelfView) (acts : List Act) → Passes s acts t → Through s acts t
through s t acts Begins = Still
through s t acts (ThenDid {acts = before} {t = m} passes act done) = then_did s m t before act (through s m before passes) done
through s t acts (ThenBeside {t = m} passes beside) = then_beside s m t acts (through s m acts passes) beside
