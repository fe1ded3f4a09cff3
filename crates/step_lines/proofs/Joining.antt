-- Pieces of a text, added one behind another.
use Rattle.std.proofs.Common.{◌≡◌, ℕ, List, ◌++◌, append_assoc}

-- the pieces of a line, added three times, stand behind the text as the line does
pub joined : (text front inputs used made trap told end b c d e : List ℕ) → b ≡ text ++ front → c ≡ b ++ inputs → d ≡ c ++ used ++ made ++ trap ++ told →
    e ≡ d ++ end → e ≡ text ++ (front ++ inputs ++ used ++ made ++ trap ++ told ++ end)
joined text front inputs used made trap told end b c d e p q r s = rw (s, r, q, p) (simp append_assoc)
