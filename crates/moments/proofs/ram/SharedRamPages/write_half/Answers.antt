use Rattle.std.proofs.Common.{ℕ, List}
use Rattle.std.specs.Int.{to_le_bytes, w16}
use Rattle.rv32_hart.specs.Ram.{put}
use Rattle.moments.specs.declared.ram.Part.TheVariants.{Own}
use Rattle.moments.proofs.Parts.{put_ram, written}
use Rattle.moments.proofs.ram.SharedRamPages.write_half.Goals as goal

pub invariant_of-self : goal.invariant_of-self
invariant_of-self c =
    record { ram = put_ram c.args.self.now.parts.items c.index.result (Own c.write_half.new.self) c.write_half.ensures.size c.args.self.now.ram }

pub returns : goal.returns
returns c =
    written c.args.self.now.parts.items c.index.result c.args.page c.index_mut.result.now c.in-Own.page c.write_half.new.self c.index.ensures.value
    c.requires.page c.index_mut.ensures.value c.in-Own.is (λ (b : List ℕ). put b c.args.offset (to_le_bytes w16 c.args.value)) c.write_half.ensures.value
