use Rattle.std.proofs.Common.{◌≡◌, Some, None, arith}
use Rattle.debugging.proofs.Reporting.{hart_of_place, number_of_place}
use Rattle.debugging.proofs.monitor.read_place.Goals as goal

pub returns-in_err-hart : goal.returns-in_err-hart
returns-in_err-hart c = λ hart number place less.
    let e = hart_of_place c.args.words.now _ _ None c.cut.ensures.one c.cut.ensures.all c.in_err-hart.ensures.found c.in_err-hart.ensures.none hart number place in absurd cc

pub returns-then-hart-from : goal.returns-then-hart-from
returns-then-hart-from c = λ hart number place less.
    let e = hart_of_place c.args.words.now _ _ (Some c.in_ok-hart.hart) c.cut.ensures.one c.cut.ensures.all c.in_ok-hart.ensures.found c.in_ok-hart.ensures.none hart number place in
    let same : c.in_ok-hart.hart ≡ hart = cc in
    absurd (omega (arith, same, less, c.if-hart-from.true, c.from.ensures))

pub returns-in_err-read_number : goal.returns-in_err-read_number
returns-in_err-read_number c = λ hart number place less.
    let e = number_of_place c.args.words.now _ _ None c.cut.ensures.one c.cut.ensures.all c.in_err-read_number.ensures.found c.in_err-read_number.ensures.none hart number place in absurd cc

pub returns : goal.returns
returns c = λ hart number place less.
    let e = hart_of_place c.args.words.now _ _ (Some c.in_ok-hart.hart) c.cut.ensures.one c.cut.ensures.all c.in_ok-hart.ensures.found c.in_ok-hart.ensures.none hart number place in
    let f = number_of_place c.args.words.now _ _ (Some c.in_ok-read_number.field-0) c.cut.ensures.one c.cut.ensures.all c.in_ok-read_number.ensures.found c.in_ok-read_number.ensures.none
    hart number place in
    let g = c.new.ensures in cc
