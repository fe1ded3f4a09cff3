use Rattle.std.proofs.Common.{arith, ◌+◌, ◌-◌, ◌*◌, length, take, drop}
use Rattle.std.proofs.lemmas.Result.{err_from_is_err_and}
use Rattle.guest_image.specs.Machine.{words_of}
use Rattle.guest_image.specs.Text.{numbered, ram_line}
use Rattle.guest_image.proofs.TextFacts.{goes_on, stops, page_at, behind}
use Rattle.guest_image.proofs.text.write_page.Goals as goal

pub returns-in_err-write_ram_word : goal.returns-in_err-write_ram_word
returns-in_err-write_ram_word g c =
    let p = err_from_is_err_and c.from_residual.result c.from_residual.ensures.1 in
    stops g.W.Sink.bytes g.W.Sink.failures c.from_residual.result p.0 c.args.out.now c.loop-rest.out
    c.write_ram_word.new.out (numbered ram_line (c.args.number * 1024) (words_of c.args.bytes.now))
    (numbered ram_line c.loop-rest.place (words_of c.loop-rest.rest.now))
    (ram_line c.loop-rest.place c.from_le_bytes-value.result)
    (numbered ram_line (c.loop-rest.place + 1) (words_of (take (length c.loop-rest.rest.now - 4) (drop 4 c.loop-rest.rest.now)))) p.1
    (page_at c.loop-rest.place c.from_le_bytes-value.result c.loop-rest.rest.now c.loop-rest-test.true c.from_le_bytes-value.ensures)
    c.loop-rest.invariant.1 c.in_err-write_ram_word.ensures

pub loop-rest-preserved : goal.loop-rest-preserved
loop-rest-preserved g c = (
  omega (arith, behind c.loop-rest.rest.now),
  goes_on g.W.Sink.bytes g.W.Sink.failures c.args.out.now c.loop-rest.out c.write_ram_word.new.out
      (numbered ram_line (c.args.number * 1024) (words_of c.args.bytes.now))
      (numbered ram_line c.loop-rest.place (words_of c.loop-rest.rest.now))
      (ram_line c.loop-rest.place c.from_le_bytes-value.result)
      (numbered ram_line (c.loop-rest.place + 1) (words_of (take (length c.loop-rest.rest.now - 4) (drop 4 c.loop-rest.rest.now))))
      (page_at c.loop-rest.place c.from_le_bytes-value.result c.loop-rest.rest.now c.loop-rest-test.true c.from_le_bytes-value.ensures)
      c.loop-rest.invariant.1 c.in_ok-write_ram_word.ensures,
)
