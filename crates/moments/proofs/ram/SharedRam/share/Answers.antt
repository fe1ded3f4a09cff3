use Rattle.std.proofs.Common.{◌∙◌}
use Rattle.moments.proofs.Parts.{put_same, same_ram}
use Rattle.moments.proofs.ram.SharedRam.share.Goals as goal

pub invariant_of-self : goal.invariant_of-self
invariant_of-self c =
    record {
      ram =
          same_ram c.loop-place.self.parts.items _
          (put_same c.loop-place.self.parts.items c.loop-place.place c.index_mut.result.now c.make_shared.new.part c.index_mut.ensures.value
          c.make_shared.ensures)
          c.loop-place.self.ram;
    }

pub returns-in_err-make_shared : goal.returns-in_err-make_shared
returns-in_err-make_shared c =
    put_same c.loop-place.self.parts.items c.loop-place.place c.index_mut.result.now c.make_shared.new.part c.index_mut.ensures.value c.make_shared.ensures
    ∙ c.loop-place.invariant

pub loop-place-preserved : goal.loop-place-preserved
loop-place-preserved c =
    put_same c.loop-place.self.parts.items c.loop-place.place c.index_mut.result.now c.make_shared.new.part c.index_mut.ensures.value c.make_shared.ensures
    ∙ c.loop-place.invariant
