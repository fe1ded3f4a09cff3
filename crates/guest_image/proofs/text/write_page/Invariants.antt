use Rattle.std.proofs.Common.{◌+◌, ◌*◌, ◌≤◌, length}
use Rattle.guest_image.specs.Machine.{words_of}
use Rattle.guest_image.specs.Text.{numbered, ram_line}
use Rattle.guest_image.proofs.TextFacts.{LeftOf}
use Rattle.guest_image.proofs.text.write_page.Given as goal

abbrev pub invariant-loop-rest : goal.invariant-loop-rest
invariant-loop-rest g l =
    (l.place * 4 + length l.rest ≤ l.number * 4096 + 4096) ×
    LeftOf g.W.Sink.bytes g.W.Sink.failures l.fn.out l.out (numbered ram_line (l.number * 1024) (words_of l.bytes))
    (numbered ram_line l.place (words_of l.rest))

abbrev pub decreases-loop-rest : goal.decreases-loop-rest
decreases-loop-rest g l = length l.rest
