-- A client's side of a talk.
use Rattle.std.specs.Prelude.{ℕ, List, ◌++◌, codes, decimal}
use Rattle.ft_types.specs.Text.{line, word}
use Rattle.requests.specs.Asking.{AskerView}
use Rattle.asking.specs.declared.talk.Told.{Told}

pub record TalkView : Type 0 where
  pub asker : AskerView
  pub told : ℕ  -- how many answers were told, those of the first words

-- number N word V
abbrev pub told_text : Told → List ℕ
told_text t = codes "number " ++ decimal t.number ++ codes " word " ++ word t.word
