-- The text of a line: fields, with one space between them.
use Rattle.std.specs.Prelude.{◌≡◌, ℕ, List, [], Option, None, Some, eqb}
use Rattle.std.specs.List.{AllByRecursion, join_with_byte, slice_split}

-- the byte stands nowhere in the text
abbrev pub HasNone : ℕ → List ℕ → Type 0
HasNone byte text = AllByRecursion (λ b. b ≡ byte → ⊥) text

-- fields, with one space between them
abbrev pub spelling : List (List ℕ) → List ℕ
spelling fields = join_with_byte 32 fields

-- the fields of a text: what stands between its spaces
abbrev pub fields_of : List ℕ → List (List ℕ)
fields_of text = slice_split (λ b. eqb b 32) text

-- the fields of what is left of a text: none of nothing
abbrev pub fields_left : Option (List ℕ) → List (List ℕ)
fields_left None = []
fields_left (Some text) = fields_of text

-- neither a space nor a line feed stands in the text
abbrev pub IsPlain : List ℕ → Type 0
IsPlain text = HasNone 32 text × HasNone 10 text

abbrev pub ArePlain : List (List ℕ) → Type 0
ArePlain fields = AllByRecursion IsPlain fields
