-- What a step changes in its hart.
use Rattle.std.specs.Prelude.{ℕ, ◌+◌, ◌*◌, ◌/◌, ◌%◌, ◌==◌, List, [], ◌∷◌, ◌++◌, Bool, cond, if◌then◌else◌, ◌&&◌, codes, decimal}
use Rattle.rv32_hart.specs.Hart.{Hart, mstatus}
use Rattle.step_lines.specs.Parts.{named, numbered}

-- nothing for a word that is the same as before
abbrev pub changed : List ℕ → ℕ → ℕ → List ℕ
changed name old new = cond (new == old) [] (named name new)

abbrev pub register_name : ℕ → List ℕ
register_name i = codes "x" ++ decimal i

-- by its place among the words of CSRs
abbrev pub csr_name : ℕ → List ℕ
csr_name i =
    if i == 0 then codes "mstatus" else if i == 1 then codes "mie" else if i == 2 then codes "mip" else if i == 3 then codes "mtvec"
    else if i == 4 then codes "mscratch" else if i == 5 then codes "mepc" else codes "mcause"

-- the words that are others than before, by their names, which are numbered from k on
abbrev pub changed_texts : (ℕ → List ℕ) → ℕ → List ℕ → List ℕ → List ℕ
changed_texts name k [] news = []
changed_texts name k (old ∷ olds) [] = []
changed_texts name k (old ∷ olds) (new ∷ news) = changed (name k) old new ++ changed_texts name (k + 1) olds news

-- the first count that is another one than before, by its number
abbrev pub ring_text : ℕ → List ℕ → List ℕ → List ℕ
ring_text k [] news = []
ring_text k (old ∷ olds) [] = []
ring_text k (old ∷ olds) (new ∷ news) = cond (new == old) (ring_text (k + 1) olds news) (numbered (codes "ring") k)

-- mstatus behind a trap's entry that found this word: MPIE is what MIE was, and MIE is 0
abbrev pub entered_status : ℕ → ℕ
entered_status status = 0x1800 + status / 8 % 2 * 128

-- the step entered a trap: its handler comes next, mepc is the step's pc, and mstatus is as behind an entry
abbrev pub has_entered : Hart → Hart → Bool
has_entered before after =
    (after.pc == before.csrs.mtvec) && (after.csrs.mepc == before.pc) && (mstatus after.csrs == entered_status (mstatus before.csrs))
