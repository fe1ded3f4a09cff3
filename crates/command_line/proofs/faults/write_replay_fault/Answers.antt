use Rattle.std.proofs.Common.{◌≡◌, ℕ, List, ◌++◌, subst}
use Rattle.std.specs.Prelude.{codes, decimal}
use Rattle.ft_types.specs.Text.{line}
use Rattle.guest_image.proofs.TextFacts.{WritesTo}
use Rattle.log_streams.specs.Stores.{numbers}
use Rattle.command_line.proofs.faults.write_replay_fault.Goals as goal

pub returns-in-Cyclic : goal.returns-in-Cyclic
returns-in-Cyclic g c =
    let written : List ℕ → Type 0 = λ counts. WritesTo g.W.Sink.bytes g.W.Sink.failures c.write_counts_line.result c.args.out.now c.write_counts_line.new.out
    (line (codes "fault replay 1 counts" ++ numbers counts))
    in
    rw c.in-Cyclic.is (subst written c.as_slice.ensures.value c.write_counts_line.ensures)

pub returns-in-HaltedInside : goal.returns-in-HaltedInside
returns-in-HaltedInside g c =
    let same : c.from-hart.result ≡ c.in-HaltedInside.hart = cc in
    let written : ℕ → Type 0 = λ hart. WritesTo g.W.Sink.bytes g.W.Sink.failures c.write_two.result c.args.out.now c.write_two.new.out
    (line (codes "fault replay 2 hart " ++ decimal hart ++ codes " count " ++ decimal c.in-HaltedInside.count))
    in
    rw c.in-HaltedInside.is (subst written same c.write_two.ensures)

pub returns-in-OtherGuest : goal.returns-in-OtherGuest
returns-in-OtherGuest g c = rw c.in-OtherGuest.is c.write_all.ensures

pub returns-in-Memory : goal.returns-in-Memory
returns-in-Memory g c = rw c.in-Memory.is c.write_all-in-Memory.ensures
