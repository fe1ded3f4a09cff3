use Rattle.std.proofs.Common.{◌++◌, ◌∙◌, ap, sym}
use Rattle.fragment_codec.specs.declared.types.Record.{Record}
use Rattle.fragment_codec.specs.Spelling.{record_bytes}
use Rattle.fragment_codec.proofs.bytes.Texts.{edge_text}
use Rattle.fragment_codec.proofs.writing.put_record.Goals as goal

pub returns-in-Edge-clause-items : goal.returns-in-Edge-clause-items
returns-in-Edge-clause-items c =
    edge_text c.args.version c.args.from c.args.out.now.items _ _ _ _ c.in-Edge.edge c.number.result c.put.ensures.items c.put_stand.ensures.items
    c.number.ensures.value c.put-in-Edge.ensures.items c.put_u64.ensures.items
    ∙ ap (λ (r : Record). c.args.out.now.items ++ record_bytes c.args.version c.args.from r) (sym c.in-Edge.is)
