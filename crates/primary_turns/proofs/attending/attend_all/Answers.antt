use Rattle.std.proofs.Common.{◌<◌, ◌+◌, length, map, take, arith}
use Rattle.primary_turns.specs.declared.deeds.Deed.TheVariants.{Attend}
use Rattle.primary_turns.proofs.Adding.{one_more}
use Rattle.primary_turns.proofs.Taken.{taken_more}
use Rattle.primary_turns.proofs.attending.attend_all.Goals as goal

pub loop-finding-preserved : goal.loop-finding-preserved
loop-finding-preserved c =
    let findings = c.args.findings.now in
    let i = c.loop-finding.finding-index in
    let finding = c.finding-item.result in
    let within : i < length findings = omega arith in
    let more = taken_more Attend findings i finding within c.finding-item.is in
    one_more c.args.deeds.now.items c.loop-finding.deeds.items c.attend.new.deeds.items (take i (map Attend findings)) (take (i + 1) (map Attend findings))
    (Attend finding) c.loop-finding.invariant c.in_ok-attend.ensures more
