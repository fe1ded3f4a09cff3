-- Rows of notes, and more of them.
use Rattle.std.proofs.Common.{◌≡◌, ◌≢◌, ℕ, zero, suc, List, [], ◌∷◌, ◌++◌, length, replicate, get_or, refl, ap}
use Rattle.input_log.specs.Notes.{NotesOfOne, nothing_noted}

-- rows of nothing behind the others tell nothing
pub nothing_more : (rows : List NotesOfOne) (many hart : ℕ) →
    get_or (rows ++ replicate many nothing_noted) hart nothing_noted ≡ get_or rows hart nothing_noted
nothing_more [] zero hart = refl
nothing_more [] (suc many) zero = refl
nothing_more [] (suc many) (suc hart) = nothing_more [] many hart
nothing_more (row ∷ rows) many zero = refl
nothing_more (row ∷ rows) many (suc hart) = nothing_more rows many hart

-- a row behind the others is of the next hart alone
pub one_more : (rows : List NotesOfOne) (row : NotesOfOne) (hart : ℕ) → hart ≢ length rows →
    get_or (rows ++ row ∷ []) hart nothing_noted ≡ get_or rows hart nothing_noted
one_more [] row zero other = absurd (other refl)
one_more [] row (suc hart) other = refl
one_more (first ∷ rows) row zero other = refl
one_more (first ∷ rows) row (suc hart) other = one_more rows row hart (λ same. other (ap (λ n. suc n) same))
