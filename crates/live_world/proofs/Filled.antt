-- New files that are filled.
use Rattle.std.proofs.Common.{◌≡◌, ◌++◌, max, ℕ, List, [], ◌∷◌, refl, sym, ap, ◌∙◌, append-nil, arith}
use Rattle.stations.specs.Acts.{Act, Does, Failed, Added, Synced, Fenced}
use Rattle.stations.specs.Handshake.{Files, Did, after}
use Rattle.stations.specs.declared.faults.FilesFault.{FilesFault}
use Rattle.live_world.specs.Renewals.{made_shelf}
use Rattle.live_world.specs.Shelves.{ShelfView, empty_shelf}
use Rattle.live_world.specs.machinery.Filled.{TellsNew, behind}

-- some acts, and then others
behind_more : (f : Files) (done more : List Act) → behind f (done ++ more) ≡ behind (behind f done) more
behind_more f [] more = refl
behind_more f (act ∷ done) more = behind_more (after f (Did act)) done more

-- these were done next
pub tells_new : (a b : ShelfView) (acts : List Act) → b ≡ record a { files = behind a.files acts } → Does (TellsNew a) (TellsNew b) acts
tells_new a b acts is = λ done told.
    is
    ∙ ap (λ (s : ShelfView). record s { files = behind s.files acts }) told
    ∙ ap (λ (f : Files). record empty_shelf { files = f }) (sym (behind_more empty_shelf.files done acts))

-- nothing was added, since that failed
pub adds_none : (a b : ShelfView) (bytes : List ℕ) → b ≡ a → (fault : FilesFault) →
    (front : List ℕ) × (rest : List ℕ) × (bytes ≡ front ++ rest) × Does (TellsNew a) (TellsNew b) (Added front ∷ Failed fault ∷ [])
adds_none a b bytes same fault = (
  [],
  bytes,
  refl,
  tells_new a b (Added [] ∷ Failed fault ∷ [])
      (same ∙ ap (λ (log : List ℕ). record a { files = record a.files { log = log } }) (sym (append-nil a.files.log))),
)

-- files with which nothing was done have these bytes, and this fence
pub is_filled : (a b : ShelfView) (bytes : List ℕ) (term : ℕ) → a ≡ empty_shelf →
    Does (TellsNew a) (TellsNew b) (Added bytes ∷ Synced ∷ Fenced term ∷ []) → b ≡ made_shelf bytes term
is_filled a b bytes term new does =
    let fence : max 0 term ≡ term = omega arith in does [] new ∙ ap (λ (fence : ℕ). made_shelf bytes fence) fence
