use Rattle.std.proofs.Common.{rules, refl}
use Rattle.live_primary.proofs.renewal.read_other.Goals as goal

pub returns-clause-handed : goal.returns-clause-handed
returns-clause-handed g c =
    let whole = c.in_ok-log.ensures in
    record {
      file = c.deref-2.result.now;
      behind = c.in_ok-pair.rest.now;
      of_pair = c.in_ok-pair.ensures.own;
      handed = c.in_ok-log.log;
      whole = whole;
      by = refl;
      other = c.in_ok-look.ensures.other;
      member = rw c.in_ok-pair.ensures.quorum c.in_ok-look.ensures.member;
      to = c.in_ok-look.ensures.term;
      frames = let is = c.in_ok-frames.ensures whole.has.text whole.rest whole.has.one whole.has.parts in search rules;
    }
