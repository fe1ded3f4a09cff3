use Rattle.std.proofs.Common.{◌≡◌, ◌<◌, length, refl, ap, arith}
use Rattle.live_world.specs.Happenings.{TellsNext}
use Rattle.live_world.specs.Views.{LiveView}
use Rattle.live_world.proofs.Talking.{at_talk, tells_next}
use Rattle.live_world.proofs.parts.LiveParts.print.Goals as goal

pub returns-then-client-len-clause-refused : goal.returns-then-client-len-clause-refused
returns-then-client-len-clause-refused c =
    let same : length c.self.inside.clients.items ≡ length c.args.self.now.clients = ap (λ (v : LiveView). length v.clients) c.self.view_is in
    (c.args.client, refl, omega arith)

pub returns-clause-happens : goal.returns-clause-happens
returns-clause-happens c =
    let less : c.args.client < length c.self.inside.clients.items = omega arith in
    at_talk _ c.args.self.now c.self.view_is _ c.args.client c.index_mut.result.now c.tell-told.new.self TellsNext less c.index_mut.ensures.value
    (tells_next c.index_mut.result.now c.tell-told.new.self c.tell-told.result c.tell-told.ensures.next c.tell-told.ensures.none) refl
