use Rattle.std.proofs.Common.{◌↔◌, ◌/◌, ℕ, IsTrue, not, nat_eq, bit_and, slice_index, sym, subst}
use Rattle.lease_rounds.proofs.Masks.{Member, page_tested}
use Rattle.lease_rounds.proofs.page_words.has_page.Goals as goal

pub returns : goal.returns
returns c =
    subst (λ (at : ℕ). IsTrue (not (nat_eq (bit_and (slice_index c.args.words (at / 64)) c.bit_of.result) 0)) ↔ Member c.args.words c.args.page)
    (sym c.index.ensures.value) (page_tested c.args.words c.args.page c.bit_of.result c.bit_of.ensures)
