use Rattle.std.proofs.Common.{sym, subst}
use Rattle.primary.specs.declared.granted.Primary.{Primary}
use Rattle.leading.specs.Leaders.{AreHandedOn}
use Rattle.leading.proofs.Sound.{sound_sealed}
use Rattle.leading.proofs.leader.Leader.seal.Goals as goal

pub invariant_of-self-2 : goal.invariant_of-self-2
invariant_of-self-2 c =
    let cut = rw c.deref_mut.ensures.value at c.in_ok-seal.ensures in (
      sound_sealed c.self.inside.primary.value c.seal.new.self c.self.inside.gate.value c.self.inside.queues.items cut.cut.0 cut.rest
          cut.cut.1 c.self.invariant.0,
      c.self.invariant.1,
      c.self.invariant.2,
      subst (λ (x : Primary). AreHandedOn x.book c.self.inside.queues.items) (sym cut.rest) c.self.invariant.3,
    )
