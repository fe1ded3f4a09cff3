use Rattle.std.proofs.Common.{◌≡◌, ℕ, ◌-◌, List, length, ap, ◌∙◌, arith}
use Rattle.std.proofs.lemmas.Bool.{iff_false}
use Rattle.gdb_packets.specs.Packets.{spelling}
use Rattle.gdb_packets.proofs.Escapes.{not_said}
use Rattle.gdb_packets.proofs.reading.read_packet.Goals as goal

pub returns-else-is-clause-none : goal.returns-else-is-clause-none
returns-else-is-clause-none c = λ bytes packet.
    not_said c.args.text.now c.in_ok-bytes.bytes.items bytes (length c.args.text.now - 3 - 1) (omega (arith, c.if-text-lt4.false)) c.in_ok-bytes.ensures
    (λ e.
    let same : c.as_slice.result.now ≡ c.args.text.now =
    c.as_slice.ensures.value ∙ (c.in_ok-spelled.ensures ∙ (ap (λ (t : List ℕ). spelling t) c.deref.ensures.value ∙ e)) in
    iff_false c.is.ensures c.if-is.false same)
    packet
