use Rattle.ft_types.specs.declared.names.TheConstants.{PAGE_ROW}
use Rattle.log_audit.proofs.Wholes.{whole_pages, no_right}
use Rattle.log_audit.proofs.asked_pages.AskedPages.unasked.Goals as goal

pub invariant_of-result : goal.invariant_of-result
invariant_of-result c =
    rw (c.in_ok-pages.ensures, c.no_flags.ensures, c.no_flags-2.ensures) (
    record {
      ram = record { pages = c.pages-whole.ensures.whole.pages; bytes = whole_pages c.args.machine.now.pages c.pages-whole.ensures.whole.bytes };
      both = λ page may. absurd (no_right PAGE_ROW page may);
    })
