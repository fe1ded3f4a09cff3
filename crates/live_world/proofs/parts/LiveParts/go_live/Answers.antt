use Rattle.std.proofs.Common.{◌≡◌, Bool, true, false, refl, sym, ap, subst, ◌∙◌}
use Rattle.std.proofs.lemmas.Result.{err_from_is_err_and}
use Rattle.live_world.specs.declared.event.PrimaryEvent.TheVariants as p
use Rattle.live_world.specs.declared.fault.EventFault.{EventFault}
use Rattle.live_world.specs.Refusals.{PrimaryRefuses}
use Rattle.live_world.proofs.Following.{goes_nowhere}
use Rattle.live_world.proofs.Grants.{call_goes, granted_there, refused_there, refuses_live, room_goes}
use Rattle.live_world.proofs.parts.LiveParts.go_live.Goals as goal

pub returns-then-is_granted-clause-refused : goal.returns-then-is_granted-clause-refused
returns-then-is_granted-clause-refused c =
    granted_there _ c.args.self.now c.self.view_is c.deref.result.now c.args.term c.deref.ensures.value (c.is_granted.ensures.0 c.if-is_granted.true)

pub returns-then-is_granted-clause-goes : goal.returns-then-is_granted-clause-goes
returns-then-is_granted-clause-goes c = goes_nowhere {v = c.args.self.now} {u = c.args.self.now} refl

pub returns-in_err-make_room-clause-goes : goal.returns-in_err-make_room-clause-goes
returns-in_err-make_room-clause-goes c =
    room_goes _ c.args.self.now c.self.view_is c.make_room.new.items.items c.self.inside.frames.items c.in_err-make_room.ensures.same refl

pub returns-in_err-make_room-2-clause-goes : goal.returns-in_err-make_room-2-clause-goes
returns-in_err-make_room-2-clause-goes c =
    room_goes _ c.args.self.now c.self.view_is c.make_room.new.items.items c.make_room-2.new.items.items c.in_ok-make_room.ensures.same
    c.in_err-make_room-2.ensures.same

pub returns-in_err-leader-clause-refused : goal.returns-in_err-leader-clause-refused
returns-in_err-leader-clause-refused c =
    let e = err_from_is_err_and c.from_residual-in_err-leader.result c.from_residual-in_err-leader.ensures.1 in
    let event = p.GoLive c.args.term c.args.numbers in
    rw (e.1)
    (subst (λ (f : EventFault). PrimaryRefuses c.args.self.now event f) (sym e.2)
    (refuses_live c.args.self.now event c.in_err-leader.field-0.0
    (refused_there _ c.args.self.now c.self.view_is c.deref-2.result.now c.args.term c.args.numbers.items c.deref-3.result.now c.in_err-leader.field-0.0
    c.deref-2.ensures.value c.deref-3.ensures.value c.in_err-leader.ensures.refused)))

pub returns-in_err-leader-clause-goes : goal.returns-in_err-leader-clause-goes
returns-in_err-leader-clause-goes c =
    room_goes _ c.args.self.now c.self.view_is c.make_room.new.items.items c.make_room-2.new.items.items c.in_ok-make_room.ensures.same
    c.in_ok-make_room-2.ensures.same

pub returns-clause-goes : goal.returns-clause-goes
returns-clause-goes c =
    let leader = c.in_ok-leader.leader in
    let live = c.in_ok-leader.ensures in
    call_goes _ c.args.self.now c.self.view_is c.args.term c.deref-2.result.now c.args.numbers.items c.deref-3.result.now leader c.in_ok-leader.opening
    c.deref.result.now c.make_room.new.items.items c.push_reserved-2.new.self.items c.make_room-2.new.items.items c.push_reserved.new.self.items
    c.deref-2.ensures.value c.deref-3.ensures.value c.deref.ensures.value (λ granted. let said : ◌≡◌ {A = Bool} false true = c.if-is_granted.ensures.1 granted in absurd cc)
    live.live live.opening live.queues live.released c.in_ok-make_room.ensures.same c.push_reserved-2.ensures.items c.in_ok-make_room-2.ensures.same
    c.push_reserved.ensures.items
