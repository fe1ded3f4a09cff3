use Rattle.debugging.proofs.Digits.{first_is, second_is}
use Rattle.debugging.proofs.numbers.read_range.Goals as goal

pub returns-in_err-first : goal.returns-in_err-first
returns-in_err-first c = λ address many r.
    let e = c.in_err-first.ensures.number address (first_is c.args.text.now _ _ c.cut.ensures.one c.cut.ensures.all address many r) in cc

pub returns-in_err-length : goal.returns-in_err-length
returns-in_err-length c = λ address many r.
    let e = c.in_err-length.ensures.number many (second_is c.args.text.now _ _ c.cut.ensures.one c.cut.ensures.all address many r) in cc

pub returns : goal.returns
returns c = λ address many r.
    let e = c.in_ok-first.ensures.number address (first_is c.args.text.now _ _ c.cut.ensures.one c.cut.ensures.all address many r) in
    let f = c.in_ok-length.ensures.number many (second_is c.args.text.now _ _ c.cut.ensures.one c.cut.ensures.all address many r) in
    cc
