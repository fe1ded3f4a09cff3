-- Pages that are a machine's own or that others have too: private words.
use Rattle.std.specs.Prelude.{ℕ, List, map, Bool, true, false}
use Rattle.std.specs.Arc.{arc_value}
use Rattle.rv32_hart.specs.Ram.{Ram}
use Rattle.moments.specs.declared.ram.Part.{Part}
use Rattle.moments.specs.declared.ram.Part.TheVariants.{Own, Shared}

abbrev pub bytes_of : Part → List ℕ
bytes_of (Own page) = page
bytes_of (Shared page) = arc_value page

abbrev pub is_own : Part → Bool
is_own (Own page) = true
is_own (Shared page) = false

abbrev pub contents_of : List Part → List (List ℕ)
contents_of parts = map bytes_of parts

abbrev pub owned : List Part → List Bool
owned parts = map is_own parts

-- RAM of such pages: each may be read, and its own written
abbrev pub ram_of : List Part → Ram
ram_of parts = record { contents = contents_of parts; readable = map (λ part. true) parts; writable = owned parts }
