-- Lines of a stream that comes in pieces.
use Rattle.std.specs.Prelude.{◌≡◌, ℕ, List, [], ◌∷◌, ◌++◌, Bool, length, take, nat_lt}
use Rattle.std.specs.List.{filter}
use Rattle.wire.specs.Fences.{texts_of}
use Rattle.wire.specs.declared.line.TheConstants.{LINE_LIMIT}

-- with its line feed the text has at most LINE_LIMIT bytes
abbrev pub is_short : List ℕ → Bool
is_short text = nat_lt (length text) LINE_LIMIT

-- Of the stream so far these texts were given: each line's that is not too long. What is held is the beginning of the line under way.
pub record Follows (stream : List ℕ) (given : List (List ℕ)) (held : List ℕ) : Type 0 where
  pub texts : List (List ℕ)
  pub rest : List ℕ
  pub lines : texts_of stream ≡ texts ++ rest ∷ []
  pub given_are : given ≡ filter is_short texts
  pub held_is : held ≡ take LINE_LIMIT rest
