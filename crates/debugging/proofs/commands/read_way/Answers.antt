use Rattle.debugging.proofs.Asking.{short_asked, long_asked}
use Rattle.debugging.proofs.commands.read_way.Goals as goal

pub returns-in-Some : goal.returns-in-Some
returns-in-Some c = λ w t asks. short_asked c.args.packet.now w c.in-Some.way t c.short_way.result c.in-Some.is c.short_way.ensures.step c.short_way.ensures.on
    c.short_way.ensures.back c.short_way.ensures.back_on c.short_way.ensures.long asks

pub returns-in-None : goal.returns-in-None
returns-in-None c = λ w t asks. long_asked c.args.packet.now w t c.short_way.result c.read_long.result c.in-None.is c.short_way.ensures.step
    c.short_way.ensures.on c.short_way.ensures.back c.short_way.ensures.back_on c.read_long.ensures.step c.read_long.ensures.on asks
