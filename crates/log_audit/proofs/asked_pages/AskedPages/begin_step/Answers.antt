use Rattle.ft_types.specs.declared.names.TheConstants.{PAGE_ROW}
use Rattle.log_audit.proofs.Wholes.{no_right}
use Rattle.log_audit.proofs.asked_pages.AskedPages.begin_step.Goals as goal

pub invariant_of-self : goal.invariant_of-self
invariant_of-self c =
    rw (c.no_flags-self-inside.ensures, c.no_flags-self-inside-2.ensures) (
    record {
      ram = record { pages = c.self.invariant.ram.pages; bytes = c.self.invariant.ram.bytes };
      both = λ page may. absurd (no_right PAGE_ROW page may);
    })
