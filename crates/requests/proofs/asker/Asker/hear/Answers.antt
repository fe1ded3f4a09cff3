use Rattle.std.proofs.Common.{arith}
use Rattle.requests.proofs.Opens.{open_raised}
use Rattle.requests.proofs.asker.Asker.hear.Goals as goal

pub first_from-self-inside-requires : goal.first_from-self-inside-requires
first_from-self-inside-requires c = rw c.deref.ensures.value (omega (
  arith,
  c.self.invariant.2,
  open_raised c.self.inside.answers.items c.args.answer.now.output.number c.args.answer.now.output.word,
))
