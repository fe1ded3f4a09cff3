-- What a client asks of a primary.
use Rattle.std.specs.Prelude.{◌≡◌, ℕ, ◌<◌, ◌^◌, List, [], ◌∷◌, Option, None, Some, IfSome, codes, decimal}
use Rattle.ft_types.specs.Counts.{IsCount}
use Rattle.ft_types.specs.Text.{word}
use Rattle.wire.specs.Fields.{spelling}
use Rattle.wire.specs.Values.{IsHart}
use Rattle.wire.specs.declared.requests.Request.{Request}
use Rattle.wire.specs.declared.requests.Request.TheVariants.{Timer, Word, From}

-- the hart of which something is asked
abbrev pub hart_of : Request → ℕ
hart_of (Timer hart) = hart
hart_of (Word hart w number) = hart
hart_of (From hart number) = hart

-- of a hart of a guest with so many harts
abbrev pub IsRequest : ℕ → Request → Type 0
IsRequest harts (Timer hart) = IsHart harts hart
IsRequest harts (Word hart w number) = IsHart harts hart × (w < 2 ^ 32) × IfSome number IsCount
IsRequest harts (From hart number) = IsHart harts hart × IsCount number

-- a number, where there is one
abbrev pub number_fields : Option ℕ → List (List ℕ)
number_fields None = []
number_fields (Some n) = decimal n ∷ []

-- H timer; H word V, or H word V N; H from N
abbrev pub request_fields : Request → List (List ℕ)
request_fields (Timer hart) = decimal hart ∷ codes "timer" ∷ []
request_fields (Word hart w number) = decimal hart ∷ codes "word" ∷ word w ∷ number_fields number
request_fields (From hart number) = decimal hart ∷ codes "from" ∷ decimal number ∷ []

-- the fields are this request
abbrev pub HasRequest : ℕ → List (List ℕ) → Request → Type 0
HasRequest harts fields r = IsRequest harts r × (fields ≡ request_fields r)

abbrev pub request_text : Request → List ℕ
request_text r = spelling (request_fields r)

abbrev pub SaysRequest : ℕ → List ℕ → Request → Type 0
SaysRequest harts text r = IsRequest harts r × (text ≡ request_text r)

-- ---- a hart that is given no more words

-- H full
abbrev pub full_fields : ℕ → List (List ℕ)
full_fields hart = decimal hart ∷ codes "full" ∷ []

-- the fields say it of this hart
abbrev pub HasFull : ℕ → List (List ℕ) → ℕ → Type 0
HasFull harts fields hart = IsHart harts hart × (fields ≡ full_fields hart)

abbrev pub full_text : ℕ → List ℕ
full_text hart = spelling (full_fields hart)

abbrev pub SaysFull : ℕ → List ℕ → ℕ → Type 0
SaysFull harts text hart = IsHart harts hart × (text ≡ full_text hart)
