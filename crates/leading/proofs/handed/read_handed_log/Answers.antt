use Rattle.std.proofs.Common.{refl, sym, subst}
use Rattle.std.proofs.lemmas.Result.{err_from_is_err_and}
use Rattle.leading.specs.Handed.{IsNotWhole}
use Rattle.leading.proofs.Lines.{given_as, has_line, not_whole, says_none}
use Rattle.leading.proofs.handed.read_handed_log.Goals as goal

pub returns-in_default-read_handed-clause-fault : goal.returns-in_default-read_handed-clause-fault
returns-in_default-read_handed-clause-fault c =
    says_none c.args.guest c.args.bytes.now c.in-Some.text.now c.in-Some.rest.now c.read_handed.result c.in-Some.ensures.one c.in-Some.ensures.found
    c.read_handed.ensures.exact c.in_default-read_handed.is

pub returns-then-rest-handed-clause-fault : goal.returns-then-rest-handed-clause-fault
returns-then-rest-handed-clause-fault c =
    let handed = c.in-Some-read_handed.handed in (
      handed,
      c.in-Some.rest.now,
      has_line c.args.guest c.args.bytes.now c.in-Some.text.now c.in-Some.rest.now c.read_handed.result handed c.in-Some.ensures.one c.in-Some.ensures.found
          c.read_handed.ensures.exact c.in-Some-read_handed.is,
      c.if-rest-handed.true,
    )

pub returns-in_err-store-clause-fault : goal.returns-in_err-store-clause-fault
returns-in_err-store-clause-fault c =
    let handed = c.in-Some-read_handed.handed in
    let has = has_line c.args.guest c.args.bytes.now c.in-Some.text.now c.in-Some.rest.now c.read_handed.result handed c.in-Some.ensures.one
    c.in-Some.ensures.found c.read_handed.ensures.exact c.in-Some-read_handed.is in
    let e = err_from_is_err_and c.from_residual.result c.from_residual.ensures.1 in
    rw (e.1)
    (subst (λ f. IsNotWhole c.args.guest c.args.bytes.now f) (sym e.2)
    (not_whole c.args.guest c.args.bytes.now c.in-Some.rest.now handed c.in_err-store.field-0.0 has c.if-rest-handed.false c.in_err-store.ensures.fault))

pub returns-clause-whole : goal.returns-clause-whole
returns-clause-whole c =
    let handed = c.in-Some-read_handed.handed in
    let frames = c.in_ok-store.ensures.whole in
    record {
      handed = handed;
      rest = c.in-Some.rest.now;
      has = has_line c.args.guest c.args.bytes.now c.in-Some.text.now c.in-Some.rest.now c.read_handed.result handed c.in-Some.ensures.one c.in-Some.ensures.found
          c.read_handed.ensures.exact c.in-Some-read_handed.is;
      all = c.if-rest-handed.false;
      frames = frames.0;
      splits = frames.1;
      keeper = refl;
      term = refl;
      join = frames.2;
    }

pub returns-clause-given : goal.returns-clause-given
returns-clause-given c = given_as c.args.guest c.args.bytes.now _ (returns-clause-whole c)
