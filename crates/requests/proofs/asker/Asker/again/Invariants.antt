use Rattle.std.proofs.Common.{◌≡◌, ◌≤◌, ◌∷◌, max, take}
use Rattle.wire.specs.declared.requests.Request.TheVariants.{From}
use Rattle.requests.specs.Asking.{open_words}
use Rattle.requests.proofs.asker.Asker.again.Given as goal

abbrev pub invariant-loop-number : goal.invariant-loop-number
invariant-loop-number l = record {
  within : l.number ≤ max l.self-inside.first l.self-inside.sent;
  asked : l.requests.items ≡ From l.self-inside.hart l.self-inside.first
      ∷ open_words l.self-inside.hart 0 (take l.number l.self-inside.words.items) l.self-inside.answers.items;
}
