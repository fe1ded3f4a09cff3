use Rattle.std.proofs.Common.{◌≡◌, ◌-◌, ◌++◌, ◌∷◌, [], AllPairs, length, take, get_or, subst, sym, ap, ◌∙◌, arith}
use Rattle.input_log.specs.Notes.{greatest, IsNotedBefore}
use Rattle.input_log.proofs.Notings.{greatest_last, last_of}
use Rattle.input_log.proofs.note_row.last_number.Goals as goal

pub returns : goal.returns
returns c =
    let xs = c.args.notes.now in
    let last = get_or xs (length xs - 1) (0, 0) in
    let is : xs ≡ take (length xs - 1) xs ++ last ∷ [] = last_of xs (0, 0) (omega arith) in
    sym (ap greatest is ∙ greatest_last (take (length xs - 1) xs) last (subst (AllPairs IsNotedBefore) is c.requires.rising))
