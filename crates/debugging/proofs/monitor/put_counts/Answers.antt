use Rattle.debugging.proofs.Reporting.{counts_begin, counts_on}
use Rattle.debugging.proofs.monitor.put_counts.Goals as goal

pub loop-number-init : goal.loop-number-init
loop-number-init c = counts_begin c.args.line.now.stands.machine c.args.text.now.items

pub loop-number-preserved : goal.loop-number-preserved
loop-number-preserved c = counts_on c.args.line.now.stands.machine c.loop-number.number c.new.result c.count_of.result c.args.text.now.items c.loop-number.text.items
    c.push.new.self.items c.put_number.new.text.items c.loop-number.invariant c.in_ok-push.ensures.items c.in_ok-put_number.ensures c.new.ensures c.count_of.ensures.value
