use Rattle.scripts.proofs.Names.{next_number, with_next}
use Rattle.scripts.proofs.numbers.read_numbers.Goals as goal

pub returns-in_default-read_small-clause-none : goal.returns-in_default-read_small-clause-none
returns-in_default-read_small-clause-none c ns all same =
    let o = c.loop-rest.invariant.2 ns all same in
    let p = next_number (λ r. r.now) c.loop-rest.rest c.in-Some.fields c.cut.result.1 c.cut.result.0.now c.in-Some.is c.cut.ensures.one c.cut.ensures.some
    c.cut.ensures.none o.0 o.1 o.2 in
    c.in_default-read_small.ensures.none p.0 p.2 p.4

pub loop-rest-preserved : goal.loop-rest-preserved
loop-rest-preserved c = with_next (λ r. r.now) c.args.text.now c.loop-rest.rest c.in-Some.fields c.cut.result.1 c.cut.result.0.now c.loop-rest.numbers.items
    c.push.new.self.items c.in-Some-read_small.number c.in-Some.is c.cut.ensures.one c.cut.ensures.some c.cut.ensures.none
    c.in-Some-read_small.ensures.found.0 c.in-Some-read_small.ensures.found.1 c.in_ok-push.ensures.items c.loop-rest.invariant.0 c.loop-rest.invariant.1
    c.loop-rest.invariant.2
