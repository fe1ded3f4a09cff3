use Rattle.std.proofs.Common.{◌≡◌, ◌<◌, ◌≤◌, List, length, slice_get, slice_index_or, Some, refl, ap, subst, ◌∙◌, arith}
use Rattle.std.proofs.lemmas.Option.{slice_get-get_or}
use Rattle.primary.specs.declared.released.Released.{Released}
use Rattle.live_world.specs.declared.seat.Seat.TheVariants.{Runs}
use Rattle.live_world.specs.Happenings.{TellsAt}
use Rattle.live_world.specs.Seats.{RunsNot}
use Rattle.live_world.specs.Views.{LiveView, GoesTo}
use Rattle.live_world.specs.contracts.parts.LiveParts.{the_view}
use Rattle.live_world.proofs.Following.{goes_nowhere}
use Rattle.live_world.proofs.Leading.{with_told, at_index, none_there, is_gone, untold, told_at, tell_goes}
use Rattle.live_world.proofs.parts.LiveParts.tell.Goals as goal

pub returns-in_err-make_room-clause-goes : goal.returns-in_err-make_room-clause-goes
returns-in_err-make_room-clause-goes c =
    let old = the_view c.self.inside in
    let told = c.make_room.new.items.items in
    subst (λ (v : LiveView). GoesTo v (with_told old told old.led)) c.self.view_is (goes_nowhere (untold old told old.led c.make_room.ensures.same refl))

pub returns-then-primary-len-clause-refused : goal.returns-then-primary-len-clause-refused
returns-then-primary-len-clause-refused c =
    let past : length c.self.inside.led.items ≤ c.args.primary =
    (let many = c.len.ensures in let more = c.if-primary-len.true in omega (arith, many, more)) in (
      c.args.primary,
      refl,
      subst (λ (v : LiveView). RunsNot v.led c.args.primary) c.self.view_is (none_there c.self.inside.led.items c.args.primary past),
    )

pub returns-then-primary-len-clause-goes : goal.returns-then-primary-len-clause-goes
returns-then-primary-len-clause-goes c =
    let old = the_view c.self.inside in
    let told = c.make_room.new.items.items in
    subst (λ (v : LiveView). GoesTo v (with_told old told old.led)) c.self.view_is (goes_nowhere (untold old told old.led c.make_room.ensures.same refl))

pub returns-in_default-clause-refused : goal.returns-in_default-clause-refused
returns-in_default-clause-refused c =
    let old = the_view c.self.inside in
    let less : c.args.primary < length c.self.inside.led.items =
    (let many = c.len.ensures in let below = c.if-primary-len.false in omega (arith, many, below)) in
    let there = at_index old.led c.args.primary c.index.result.now less c.index.ensures in (
      c.args.primary,
      refl,
      subst (λ (v : LiveView). RunsNot v.led c.args.primary) c.self.view_is
          (is_gone old.led c.args.primary c.index.result.now c.in_default.field-0 there c.in_default.is),
    )

pub returns-in_default-clause-goes : goal.returns-in_default-clause-goes
returns-in_default-clause-goes c =
    let old = the_view c.self.inside in
    let told = c.make_room.new.items.items in
    subst (λ (v : LiveView). GoesTo v (with_told old told old.led)) c.self.view_is (goes_nowhere (untold old told old.led c.make_room.ensures.same refl))

pub returns-then-released-out-clause-refused : goal.returns-then-released-out-clause-refused
returns-then-released-out-clause-refused c =
    let old = the_view c.self.inside in
    let less : c.args.primary < length c.self.inside.led.items =
    (let many = c.len.ensures in let below = c.if-primary-len.false in omega (arith, many, below)) in
    let there = at_index old.led c.args.primary c.index.result.now less c.index.ensures in (
      c.in-Runs.leader,
      subst (λ (v : LiveView). slice_get v.led c.args.primary ≡ Some (Runs c.in-Runs.leader)) c.self.view_is (there ∙ ap Some c.in-Runs.is),
      subst (λ (all : List Released). length all ≤ c.args.released) c.released-out.ensures c.if-released-out.true,
    )

pub returns-then-released-out-clause-goes : goal.returns-then-released-out-clause-goes
returns-then-released-out-clause-goes c =
    let old = the_view c.self.inside in
    let told = c.make_room.new.items.items in
    subst (λ (v : LiveView). GoesTo v (with_told old told old.led)) c.self.view_is (goes_nowhere (untold old told old.led c.make_room.ensures.same refl))

pub returns-clause-happens : goal.returns-clause-happens
returns-clause-happens c =
    let old = the_view c.self.inside in
    let told = c.push_reserved.new.self.items in
    let less : c.args.primary < length c.self.inside.led.items =
    (let many = c.len.ensures in let below = c.if-primary-len.false in omega (arith, many, below)) in
    let there = at_index old.led c.args.primary c.index.result.now less c.index.ensures in
    let released = slice_index_or c.released-out.result.now c.args.released c.index-out-released.result in
    let out = slice_get-get_or c.released-out.result.now c.args.released c.index-out-released.result c.if-released-out.false in
    subst (λ (v : LiveView). TellsAt v c.args.primary c.args.released (with_told old told old.led)) c.self.view_is
    (told_at old c.args.primary c.args.released c.index.result.now c.in-Runs.leader c.released-out.result.now released c.term.result
    c.make_room.new.items.items told there c.in-Runs.is c.released-out.ensures out c.term.ensures c.make_room.ensures.same c.push_reserved.ensures.items)

pub returns-clause-goes : goal.returns-clause-goes
returns-clause-goes c =
    let old = the_view c.self.inside in
    let told = c.push_reserved.new.self.items in
    let less : c.args.primary < length c.self.inside.led.items =
    (let many = c.len.ensures in let below = c.if-primary-len.false in omega (arith, many, below)) in
    let there = at_index old.led c.args.primary c.index.result.now less c.index.ensures in
    let released = slice_index_or c.released-out.result.now c.args.released c.index-out-released.result in
    let out = slice_get-get_or c.released-out.result.now c.args.released c.index-out-released.result c.if-released-out.false in
    subst (λ (v : LiveView). GoesTo v (with_told old told old.led)) c.self.view_is
    (tell_goes old (with_told old told old.led) c.args.primary c.args.released
    (told_at old c.args.primary c.args.released c.index.result.now c.in-Runs.leader c.released-out.result.now released c.term.result
    c.make_room.new.items.items told there c.in-Runs.is c.released-out.ensures out c.term.ensures c.make_room.ensures.same c.push_reserved.ensures.items))
