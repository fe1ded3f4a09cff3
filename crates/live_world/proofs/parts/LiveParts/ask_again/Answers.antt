use Rattle.std.proofs.Common.{◌≡◌, ◌<◌, length, refl, ap, arith}
use Rattle.live_world.specs.Views.{LiveView}
use Rattle.live_world.proofs.Talking.{asks_again}
use Rattle.live_world.proofs.parts.LiveParts.ask_again.Goals as goal

pub returns-then-client-len-clause-refused : goal.returns-then-client-len-clause-refused
returns-then-client-len-clause-refused c =
    let same : length c.self.inside.clients.items ≡ length c.args.self.now.clients = ap (λ (v : LiveView). length v.clients) c.self.view_is in
    (c.args.client, refl, omega arith)

pub returns-clause-happens : goal.returns-clause-happens
returns-clause-happens c =
    let less : c.args.client < length c.self.inside.clients.items = omega arith in
    asks_again _ c.args.self.now c.self.view_is c.args.client c.index.result.now c.add_all.new.items.items c.in_ok-requests.requests.items less
    c.index.ensures c.in_ok-requests.ensures c.in_ok-add_all.ensures.ok
