use Rattle.std.proofs.Common.{◌++◌, refl, inl}
use Rattle.closed_cut.specs.Chain.{IsChain}
use Rattle.log_streams.specs.Stores.{chain_line, position_line}
use Rattle.log_streams.proofs.stores.write_cut.Goals as goal

pub returns-clause-written : goal.returns-clause-written
returns-clause-written g c =
    let terms = c.deref.result.now in
    let position = c.in_ok-position.position in
    let chain : IsChain c.args.store.now terms = rw c.deref.ensures.value c.in_ok-terms.ensures in
    inl (
      chain_line terms ++ position_line position,
      record {
        terms = terms;
        chain = chain;
        position = position;
        is_position = c.in_ok-position.ensures.position;
        harts = c.in_ok-position.ensures.harts;
        is = refl;
      },
      refl,
      c.in-Err.ensures,
    )
