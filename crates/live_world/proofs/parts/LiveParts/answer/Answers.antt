use Rattle.std.proofs.Common.{◌≡◌, ◌<◌, length, refl, ap, arith, ◌∙◌}
use Rattle.wire.specs.Answers.{answer_text}
use Rattle.live_world.specs.Happenings.{HearsOne}
use Rattle.live_world.specs.Views.{LiveView}
use Rattle.live_world.proofs.Lines.{IsKept, before_break, hears_one}
use Rattle.live_world.proofs.Talking.{hears_told}
use Rattle.live_world.proofs.parts.LiveParts.answer.Goals as goal

pub returns-then-client-len-clause-refused : goal.returns-then-client-len-clause-refused
returns-then-client-len-clause-refused c =
    let same : length c.self.inside.clients.items ≡ length c.args.self.now.clients = ap (λ (v : LiveView). length v.clients) c.self.view_is in
    (c.args.client, refl, omega arith)

pub returns-clause-happens : goal.returns-clause-happens
returns-clause-happens c =
    let less : c.args.client < length c.self.inside.clients.items = omega arith in
    let below : c.args.told < length c.self.inside.told.items = omega arith in
    let a = c.index.result.now in
    let t = c.index_mut.result.now in
    let s = c.hear-heard.new.self in
    let heard = c.hear-heard.ensures in
    let line = c.line_of-line.ensures in
    let kept : IsKept a = record { term = line.term; hart = line.hart; number = line.number; step = line.step; word_is = line.word_is } in
    let text : c.text_of-text.result.now ≡ answer_text a =
    c.text_of-text.ensures ∙ before_break (answer_text a) c.as_slice-bytes.result.now (c.as_slice-bytes.ensures.value ∙ line.text) in
    let deed : HearsOne a t s =
    hears_one a kept t s c.hear-heard.result c.text_of-text.result.now heard.answer heard.new heard.other heard.stays text in
    hears_told _ c.args.self.now c.self.view_is _ c.args.client t s c.args.told a less c.index_mut.ensures.value below c.index.ensures deed refl
