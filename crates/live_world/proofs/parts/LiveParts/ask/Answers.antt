use Rattle.std.proofs.Common.{◌≡◌, ◌<◌, ◌++◌, ◌∷◌, ◌∙◌, [], List, Option, length, refl, sym, ap, arith}
use Rattle.std.specs.Option.{option_to_list}
use Rattle.std.proofs.lemmas.List.{append-nil}
use Rattle.asking.specs.Talks.{TalkView}
use Rattle.wire.specs.declared.requests.Request.{Request}
use Rattle.live_world.specs.Happenings.{AsksNext}
use Rattle.live_world.specs.Views.{LiveView}
use Rattle.live_world.proofs.Talking.{asks_more, asks_next}
use Rattle.live_world.proofs.parts.LiveParts.ask.Goals as goal
use Rattle.live_world.proofs.parts.LiveParts.ask.Goals.{in-Some, in_default}

pub returns-then-client-len-clause-refused : goal.returns-then-client-len-clause-refused
returns-then-client-len-clause-refused c =
    let same : length c.self.inside.clients.items ≡ length c.args.self.now.clients = ap (λ (v : LiveView). length v.clients) c.self.view_is in
    (c.args.client, refl, omega arith)

pub returns-clause-happens : goal.returns-clause-happens
returns-clause-happens c =
    let less : c.args.client < length c.self.inside.clients.items = omega arith in
    let t = c.index_mut.result.now in
    let s = c.ask.new.self in
    let same : c.make_room.new.items.items ≡ c.self.inside.asked.items = c.in_ok-make_room.ensures.same in
    elim c.match-ask.branch [
      | in-Some w ↦
          let more : List Request = w.in-Some.request ∷ [] in
          let all : more ≡ option_to_list c.ask.result = ap (λ (r : Option Request). option_to_list r) (sym w.in-Some.is) in
          let asked : w.push_reserved.new.self.items ≡ c.self.inside.asked.items ++ more =
          w.push_reserved.ensures.items ∙ ap (λ (l : List Request). l ++ more) same in
          let did = asks_more _ c.args.self.now c.self.view_is c.match-ask.self c.args.client t s w.push_reserved.new.self.items more (AsksNext more) less
          c.index_mut.ensures.value (asks_next t s c.ask.result more c.ask.ensures.request c.ask.ensures.sent all) asked w.self-is in (more, did.0, did.1)
      | in_default w ↦
          let all : [] ≡ option_to_list c.ask.result = ap (λ (r : Option Request). option_to_list r) (sym w.in_default.is) in
          let asked : c.make_room.new.items.items ≡ c.self.inside.asked.items ++ [] = same ∙ sym (append-nil c.self.inside.asked.items) in
          let did = asks_more _ c.args.self.now c.self.view_is c.match-ask.self c.args.client t s c.make_room.new.items.items [] (AsksNext []) less
          c.index_mut.ensures.value (asks_next t s c.ask.result [] c.ask.ensures.request c.ask.ensures.sent all) asked w.self-is in ([], did.0, did.1)
    ]
