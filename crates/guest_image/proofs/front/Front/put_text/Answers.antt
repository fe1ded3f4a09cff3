use Rattle.std.proofs.Common.{drop, sym, ap, ◌∙◌, arith, drop-drop}
use Rattle.std.proofs.lemmas.List.{drop-append-le}
use Rattle.guest_image.proofs.front.Front.put_text.Goals as goal

pub returns-clause-written : goal.returns-clause-written
returns-clause-written c =
    let start = c.put_before-start.result in
    let from = c.args.self.now.from in
    let text = c.args.self.now.text in
    sym (drop-drop from start c.put_before-start.new.bytes)
    ∙ ap (drop from) c.put_before-start.ensures.written
    ∙ drop-append-le from text (drop c.args.end c.args.bytes.now) (omega arith)
