use Rattle.std.proofs.Common.{List, subst}
use Rattle.ft_types.specs.declared.output.Output.{Output}
use Rattle.pair.specs.Released.{AreNotesOut}
use Rattle.pair.proofs.beside.released_of.Goals as goal

pub returns-clause-noted : goal.returns-clause-noted
returns-clause-noted c =
    subst (λ (xs : List Output). AreNotesOut c.args.book.now xs) c.deref.ensures.value (c.are_notes_out.ensures c.if-not-are_notes_out.false)
