-- The text of a machine, line by line.
use Rattle.std.specs.Prelude.{ℕ, ◌+◌, ◌*◌, ◌==◌, List, [], ◌∷◌, ◌++◌, drop, Bool, true, false, cond, codes, decimal}
use Rattle.std.specs.List.{flat_map}
use Rattle.ft_types.specs.Text.{line, word}
use Rattle.rv32_hart.specs.Hart.{Hart, csr_words, device_words}
use Rattle.guest_image.specs.Machine.{MachineState, ram_words}

-- the texts of the elements, which are numbered from k on
abbrev pub numbered : {A : Type 0} → (ℕ → A → List ℕ) → ℕ → List A → List ℕ
numbered f k [] = []
numbered f k (x ∷ xs) = f k x ++ numbered f (k + 1) xs

abbrev pub status : Bool → List ℕ
status true = codes " halted"
status false = codes " running"

-- words, each behind a space
abbrev pub spaced : List ℕ → List ℕ
spaced ws = flat_map (λ w. codes " " ++ word w) ws

unfoldable pub hart_line : Hart → List ℕ
hart_line h =
    line (codes "hart " ++ decimal h.number ++ codes " count " ++ decimal h.count ++ codes " pc " ++ word h.pc ++ status h.halted)

unfoldable pub csr_line : Hart → List ℕ
csr_line h = line (codes "csr" ++ spaced (csr_words h))

unfoldable pub device_line : Hart → List ℕ
device_line h = line (codes "dev" ++ spaced (device_words h))

-- nothing for a register that is 0
unfoldable pub register_line : ℕ → ℕ → List ℕ
register_line i v = cond (v == 0) [] (line (codes "x" ++ decimal i ++ codes " " ++ word v))

-- an output is the count of its step and its word
unfoldable pub output_line : ℕ → ℕ × ℕ → List ℕ
output_line k o = line (codes "out " ++ decimal k ++ codes " step " ++ decimal o.0 ++ codes " word " ++ word o.1)

-- nothing for a count that is 0
unfoldable pub count_line : List ℕ → ℕ → ℕ → List ℕ
count_line name k n = cond (n == 0) [] (line (name ++ decimal k ++ codes " " ++ decimal n))

abbrev pub rung_name : List ℕ
rung_name = codes "rung "

abbrev pub heard_name : List ℕ
heard_name = codes "heard "

-- the lines that each hart has
unfoldable pub hart_lines : Hart → List ℕ
hart_lines h = hart_line h ++ (csr_line h ++ device_line h)

-- bells rung, by target, and heard, by source
unfoldable pub bell_lines : Hart → List ℕ
bell_lines h = numbered (count_line rung_name) 0 h.rung ++ numbered (count_line heard_name) 0 h.received.heard

-- registers from 1 on, outputs and bells
unfoldable pub hart_tables : Hart → List ℕ
hart_tables h = numbered register_line 1 (drop 1 h.registers) ++ (numbered output_line 0 h.outputs ++ bell_lines h)

unfoldable pub hart_text : Hart → List ℕ
hart_text h = hart_lines h ++ hart_tables h

-- word k of RAM, nothing for a word that is 0
unfoldable pub ram_line : ℕ → ℕ → List ℕ
ram_line k v = cond (v == 0) [] (line (word (0x80000000 + k * 4) ++ codes " " ++ word v))

-- each hart in order, then all of RAM
unfoldable pub machine_text : MachineState → List ℕ
machine_text m = flat_map hart_text m.harts ++ numbered ram_line 0 (ram_words m.pages)
