use Rattle.std.proofs.Common.{◌≡◌, ◌<◌, ◌++◌, length, refl, sym, ap, subst, ◌∙◌, arith}
use Rattle.leading.specs.declared.heard.Heard.{Heard}
use Rattle.process_world.specs.Happenings.{told_of}
use Rattle.live_world.specs.Happenings.{HearsAsked}
use Rattle.live_world.specs.Seats.{RunsNot}
use Rattle.live_world.specs.Views.{LiveView, GoesTo}
use Rattle.live_world.specs.contracts.parts.LiveParts.{the_view}
use Rattle.live_world.proofs.Following.{goes_nowhere}
use Rattle.live_world.proofs.Leading.{with_led, with_told, at_index, lacks, seat_there, unmoved, as_it_was, untold, nothing_told, told_same, StaysTold}
use Rattle.live_world.proofs.Leading.{asked_at, request_goes}
use Rattle.live_world.proofs.parts.LiveParts.request.Goals as goal

pub returns-then-asked-len-clause-goes : goal.returns-then-asked-len-clause-goes
returns-then-asked-len-clause-goes c = goes_nowhere refl

pub returns-in_default-clause-refused : goal.returns-in_default-clause-refused
returns-in_default-clause-refused c =
    (c.args.primary, refl, subst (λ (v : LiveView). RunsNot v.led c.args.primary) c.self.view_is c.in_default.ensures.none.1)

pub returns-in_default-clause-goes : goal.returns-in_default-clause-goes
returns-in_default-clause-goes c =
    let old = the_view c.self.inside in
    let new = with_led old c.take_leader.new.led.items in
    subst (λ (v : LiveView). GoesTo v new) c.self.view_is (unmoved old new.led c.in_default.ensures.none.0)

pub put_leader-requires : goal.put_leader-requires
put_leader-requires c =
    let taken = c.in-Some.ensures.some in
    seat_there (the_view c.self.inside).led c.take_leader.new.led.items c.args.primary _ _ taken.0 taken.1

pub returns-in_err-answers-clause-left : goal.returns-in_err-answers-clause-left
returns-in_err-answers-clause-left c =
    let old = the_view c.self.inside in
    let now = c.put_leader.new.led.items in
    let same = as_it_was old c.args.primary c.in-Some.leader c.hear-heard.new.self c.take_leader.new.led.items now c.in-Some.ensures.some c.put_leader.ensures
    c.in_err-answers.ensures.err in
    lacks c.from_residual.result _ c.from_residual.ensures.1 (untold old old.told now refl same ∙ c.self.view_is)

pub returns-in_err-answers-clause-goes : goal.returns-in_err-answers-clause-goes
returns-in_err-answers-clause-goes c =
    let old = the_view c.self.inside in
    let now = c.put_leader.new.led.items in
    let same = as_it_was old c.args.primary c.in-Some.leader c.hear-heard.new.self c.take_leader.new.led.items now c.in-Some.ensures.some c.put_leader.ensures
    c.in_err-answers.ensures.err in
    subst (λ (v : LiveView). GoesTo v (with_led old now)) c.self.view_is (unmoved old now same)

pub returns-in_err-add_all-in-Told-clause-left : goal.returns-in_err-add_all-in-Told-clause-left
returns-in_err-add_all-in-Told-clause-left c =
    let old = the_view c.self.inside in
    let now = c.put_leader.new.led.items in
    let told = c.add_all.new.items.items in
    let stays = subst (λ (h : Heard). StaysTold c.in-Some.leader c.hear-heard.new.self h) c.in-Told.is
    (told_same c.in-Some.leader c.hear-heard.new.self c.index.result.now c.in_ok-answers.field-0 c.in_ok-answers.ensures.hears) in
    let same = as_it_was old c.args.primary c.in-Some.leader c.hear-heard.new.self c.take_leader.new.led.items now c.in-Some.ensures.some c.put_leader.ensures
    stays in
    lacks c.from_residual-in_err-add_all-in-Told.result _ c.from_residual-in_err-add_all-in-Told.ensures.1
    (untold old told now c.in_err-add_all-in-Told.ensures.err same ∙ c.self.view_is)

pub returns-in_err-add_all-in-Told-clause-goes : goal.returns-in_err-add_all-in-Told-clause-goes
returns-in_err-add_all-in-Told-clause-goes c =
    let old = the_view c.self.inside in
    let now = c.put_leader.new.led.items in
    let told = c.add_all.new.items.items in
    let stays = subst (λ (h : Heard). StaysTold c.in-Some.leader c.hear-heard.new.self h) c.in-Told.is
    (told_same c.in-Some.leader c.hear-heard.new.self c.index.result.now c.in_ok-answers.field-0 c.in_ok-answers.ensures.hears) in
    let same = as_it_was old c.args.primary c.in-Some.leader c.hear-heard.new.self c.take_leader.new.led.items now c.in-Some.ensures.some c.put_leader.ensures
    stays in
    subst (λ (v : LiveView). GoesTo v (with_told old told now)) c.self.view_is
    (goes_nowhere (untold old told now c.in_err-add_all-in-Told.ensures.err same))

pub returns-in_ok-add_all-in-Told-clause-happens : goal.returns-in_ok-add_all-in-Told-clause-happens
returns-in_ok-add_all-in-Told-clause-happens c =
    let old = the_view c.self.inside in
    let now = c.put_leader.new.led.items in
    let told = c.add_all.new.items.items in
    let less : c.args.asked < length c.self.inside.asked.items =
    (let many = c.len.ensures in let below = c.if-asked-len.false in omega (arith, many, below)) in
    let there = at_index old.asked c.args.asked c.index.result.now less c.index.ensures in
    let more : told ≡ old.told ++ told_of c.in_ok-answers.field-0 =
    (c.in_ok-add_all-in-Told.ensures.ok ∙ ap (λ (h : Heard). old.told ++ told_of h) (sym c.in-Told.is)) in
    subst (λ (v : LiveView). HearsAsked v c.args.primary c.args.asked (with_told old told now)) c.self.view_is
    (asked_at old c.args.primary c.args.asked c.index.result.now c.in_ok-answers.field-0 c.in-Some.leader c.hear-heard.new.self c.take_leader.new.led.items
    now told there c.in-Some.ensures.some c.put_leader.ensures c.in_ok-answers.ensures.hears more)

pub returns-in_ok-add_all-in-Told-clause-goes : goal.returns-in_ok-add_all-in-Told-clause-goes
returns-in_ok-add_all-in-Told-clause-goes c =
    let old = the_view c.self.inside in
    let now = c.put_leader.new.led.items in
    let told = c.add_all.new.items.items in
    let less : c.args.asked < length c.self.inside.asked.items =
    (let many = c.len.ensures in let below = c.if-asked-len.false in omega (arith, many, below)) in
    let there = at_index old.asked c.args.asked c.index.result.now less c.index.ensures in
    let more : told ≡ old.told ++ told_of c.in_ok-answers.field-0 =
    (c.in_ok-add_all-in-Told.ensures.ok ∙ ap (λ (h : Heard). old.told ++ told_of h) (sym c.in-Told.is)) in
    subst (λ (v : LiveView). GoesTo v (with_told old told now)) c.self.view_is
    (request_goes old (with_told old told now) c.args.primary c.args.asked
    (asked_at old c.args.primary c.args.asked c.index.result.now c.in_ok-answers.field-0 c.in-Some.leader c.hear-heard.new.self c.take_leader.new.led.items
    now told there c.in-Some.ensures.some c.put_leader.ensures c.in_ok-answers.ensures.hears more))

pub returns-in_default-2 : goal.returns-in_default-2
returns-in_default-2 c =
    let old = the_view c.self.inside in
    let now = c.put_leader.new.led.items in
    let less : c.args.asked < length c.self.inside.asked.items =
    (let many = c.len.ensures in let below = c.if-asked-len.false in omega (arith, many, below)) in
    let there = at_index old.asked c.args.asked c.index.result.now less c.index.ensures in
    let hears = asked_at old c.args.primary c.args.asked c.index.result.now c.in_ok-answers.field-0 c.in-Some.leader c.hear-heard.new.self
    c.take_leader.new.led.items now old.told there c.in-Some.ensures.some c.put_leader.ensures c.in_ok-answers.ensures.hears
    (nothing_told old.told c.in_ok-answers.field-0 c.in_default-2.not-Told) in
    record {
      happens = subst (λ (v : LiveView). HearsAsked v c.args.primary c.args.asked (with_told old old.told now)) c.self.view_is hears;
      refused = tt;
      left = tt;
      goes = subst (λ (v : LiveView). GoesTo v (with_told old old.told now)) c.self.view_is
          (request_goes old (with_told old old.told now) c.args.primary c.args.asked hears);
    }
