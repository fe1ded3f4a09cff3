use Rattle.wire.proofs.Reading.{if_none}
use Rattle.live_primary.proofs.OnePair.{names_none}
use Rattle.live_primary.proofs.pairs.first_pair.Goals as goal

pub returns-in_err-read_pair-clause-none : goal.returns-in_err-read_pair-clause-none
returns-in_err-read_pair-clause-none c = if_none c.from_residual-in_err-read_pair.result _ (names_none c.args.guest.now c.args.bytes.now c.in_ok-text.text.now
    c.in_ok-text.rest.now c.in_ok-text.ensures.one c.in_ok-text.ensures.found c.in_err-read_pair.ensures.exact)
