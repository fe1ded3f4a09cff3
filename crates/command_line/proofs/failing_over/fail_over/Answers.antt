use Rattle.std.proofs.Common.{List, refl, inl, subst}
use Rattle.std.specs.List.{flat_map}
use Rattle.std.proofs.lemmas.Result.{err_from_is_err_and}
use Rattle.guest_image.proofs.TextFacts.{WritesTo}
use Rattle.primary.specs.declared.released.Released.{Released}
use Rattle.command_line.specs.FailingOver.{Begins, released_line}
use Rattle.command_line.proofs.Applied.{begins_as, all_told, refused_told}
use Rattle.command_line.proofs.failing_over.fail_over.Goals as goal

pub returns-in_err-world : goal.returns-in_err-world
returns-in_err-world g c =
    let p = err_from_is_err_and c.from_residual.result c.from_residual.ensures.1 in
    rw (p.1, p.2) (record { written = inl (refl, refl) })

pub returns-in-Ok : goal.returns-in-Ok
returns-in-Ok g c =
    let new = c.in_ok-world.ensures in
    let begins : Begins c.args.image.now c.keepers.result c.need.result c.in_ok-world.world = record {
      image_is = new.image;
      quorum = new.quorum;
      primary = new.primary;
      runs = new.runs;
      sent = new.sent;
      stores = new.stores;
      gate = new.gate;
      released = new.released;
    } in
    rw c.written.ensures (record {
      written = all_told c.args.image.now c.args.quorum.keepers c.args.quorum.need c.args.events.items c.in_ok-world.world c.apply_all.new.world
          _ _ _ _ c.write_world.result (begins_as c.args.image.now c.keepers.result c.need.result c.args.quorum.keepers c.args.quorum.need c.in_ok-world.world
          c.keepers.ensures.value c.need.ensures.value begins) c.in-Ok.ensures c.write_world.ensures.promises c.write_world.ensures.written;
    })

pub returns : goal.returns
returns g c =
    let new = c.in_ok-world.ensures in
    let begins : Begins c.args.image.now c.keepers.result c.need.result c.in_ok-world.world = record {
      image_is = new.image;
      quorum = new.quorum;
      primary = new.primary;
      runs = new.runs;
      sent = new.sent;
      stores = new.stores;
      gate = new.gate;
      released = new.released;
    } in
    let told : List Released → Type 0 = λ all. WritesTo g.W.Sink.bytes g.W.Sink.failures c.write_released-told.result c.args.out.now c.write_released-told.new.out
    (flat_map released_line all)
    in
    let out = c.released.ensures in
    record {
      written = refused_told c.args.image.now c.args.quorum.keepers c.args.quorum.need c.args.events.items c.in_ok-world.world c.apply_all.new.world _ _ _ _
          c.in-Err.fault (begins_as c.args.image.now c.keepers.result c.need.result c.args.quorum.keepers c.args.quorum.need c.in_ok-world.world
          c.keepers.ensures.value c.need.ensures.value begins) c.in-Err.ensures
          (record { one = out.one; machine = out.machine; kept = out.kept; held = out.held; acknowledged = out.acknowledged; noted = out.noted; fresh = out.fresh })
          (c.write_released-told.result, subst told out.value c.write_released-told.ensures);
    }
