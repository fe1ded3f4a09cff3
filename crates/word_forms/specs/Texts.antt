-- Words that ask for a text in place of something that is done.
use Rattle.std.specs.Prelude.{◌≡◌, ◌⊎◌, ℕ, List, [], ◌∷◌, String, string_bytes, codes}

-- a word that asks for a text
abbrev pub AsksForText : List ℕ → Type 0
AsksForText word = (word ≡ codes "--help") ⊎ (word ≡ codes "-h") ⊎ (word ≡ codes "--version") ⊎ (word ≡ codes "-V")

-- such a word, alone or behind one other
abbrev pub AskForText : {A : Type 0} → List (String A) → Type 0
AskForText {A} [] = ⊥
AskForText {A} (word ∷ []) = AsksForText (string_bytes word)
AskForText {A} (form ∷ word ∷ []) = AsksForText (string_bytes word)
AskForText {A} (form ∷ word ∷ more ∷ words) = ⊥
