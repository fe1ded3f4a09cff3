use Rattle.std.proofs.Common.{sym, ap, ◌∙◌}
use Rattle.asking.specs.Talks.{TalkView}
use Rattle.client_turns.proofs.Steps.{asked_one, asked_all, unsent}
use Rattle.client_turns.proofs.talking.ask_all.Goals as goal

pub loop-request-preserved : goal.loop-request-preserved
loop-request-preserved c =
    let t = c.loop-request.talk in
    asked_one c.args.talk.now t c.ask.new.self c.args.deeds.now.items c.loop-request.deeds.items c.ask-in-Some.new.deeds.items c.in-Some.request
    c.loop-request.invariant (sym c.in-Some.ensures.request) c.in-Some.ensures.sent
    (c.in_ok-ask.ensures t (sym (c.told.ensures ∙ ap (λ (v : TalkView). v.told) c.in-Some.ensures.sent)) (sym c.in-Some.ensures.request))

pub returns : goal.returns
returns c =
    let t = c.loop-request.talk in
    asked_all c.args.talk.now t c.ask.new.self c.args.deeds.now.items c.loop-request.deeds.items c.loop-request.invariant
    (sym c.in_default.ensures.request) (c.in_default.ensures.sent ∙ unsent t)
