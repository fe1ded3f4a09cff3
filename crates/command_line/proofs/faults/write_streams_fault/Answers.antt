use Rattle.std.proofs.Common.{◌≡◌, ℕ, ◌++◌, subst}
use Rattle.std.specs.Prelude.{codes, decimal}
use Rattle.ft_types.specs.Text.{line}
use Rattle.guest_image.proofs.TextFacts.{WritesTo}
use Rattle.fragment_codec.specs.Faults.{fault_number}
use Rattle.command_line.proofs.faults.write_streams_fault.Goals as goal

pub returns-in-Read : goal.returns-in-Read
returns-in-Read g c = rw c.in-Read.is c.write_numbered.ensures

pub returns-in-Frame : goal.returns-in-Frame
returns-in-Frame g c =
    let same : c.from-fault.result ≡ fault_number c.in-Frame.fault = cc in
    let written : ℕ → Type 0 = λ number. WritesTo g.W.Sink.bytes g.W.Sink.failures c.write_two.result c.args.out.now c.write_two.new.out
    (line (codes "fault stream " ++ decimal c.in-Frame.stream ++ codes " frame " ++ decimal number))
    in
    rw c.in-Frame.is (subst written same c.write_two.ensures)

pub returns-in-Guest : goal.returns-in-Guest
returns-in-Guest g c = rw c.in-Guest.is c.write_numbered-in-Guest.ensures

pub returns-in-Write : goal.returns-in-Write
returns-in-Write g c = rw c.in-Write.is c.write_all.ensures

pub returns-in-Memory : goal.returns-in-Memory
returns-in-Memory g c = rw c.in-Memory.is c.write_all-in-Memory.ensures
