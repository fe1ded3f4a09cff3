use Rattle.std.proofs.lemmas.Result.{on_ok_weaker}
use Rattle.moments.proofs.Parts.{put_same, put_own, same_ram}
use Rattle.moments.proofs.ram.SharedRam.own.Goals as goal

pub invariant_of-self : goal.invariant_of-self
invariant_of-self c =
    record {
      ram =
          same_ram c.args.self.now.parts.items _
          (put_same c.args.self.now.parts.items c.index.result c.index_mut.result.now c.make_own.new.part c.index_mut.ensures.value c.make_own.ensures.same)
          c.args.self.now.ram;
    }

pub returns-clause-contents : goal.returns-clause-contents
returns-clause-contents c =
    put_same c.args.self.now.parts.items c.index.result c.index_mut.result.now c.make_own.new.part c.index_mut.ensures.value c.make_own.ensures.same

pub returns-clause-owned : goal.returns-clause-owned
returns-clause-owned c =
    on_ok_weaker c.make_own.result (put_own c.args.self.now.parts.items c.index.result c.args.page c.make_own.new.part c.index.ensures.value)
    c.make_own.ensures.own
