-- What a body says.
use Rattle.std.specs.Prelude.{ℕ, ◌+◌, ◌%◌, ◌==◌, Bool, true, false, if◌then◌else◌, List, [], ◌∷◌}

-- the bytes that a body says, read on behind a '}' or not
abbrev pub unescaped : Bool → List ℕ → List ℕ
unescaped _ [] = []
unescaped true (b ∷ bytes) = (b + 32) % 256 ∷ unescaped false bytes
unescaped false (b ∷ bytes) = if b == 125 then unescaped true bytes else b ∷ unescaped false bytes
