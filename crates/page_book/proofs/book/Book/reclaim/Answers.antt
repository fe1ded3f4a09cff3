use Rattle.std.proofs.Common.{rules, ap, ◌∙◌, ◌≡◌, length}
use Rattle.ft_types.specs.declared.names.TheConstants.{HART_ROW}
use Rattle.page_book.specs.Reclaims.{closed}
use Rattle.page_book.proofs.Closing.{closes_more, closed_all}
use Rattle.page_book.proofs.book.Book.reclaim.Goals as goal

pub loop-number-preserved : goal.loop-number-preserved
loop-number-preserved g c =
    closes_more g.M.Mode.ends c.args.self.now c.loop-number.self c.close.new.self c.loop-number.number c.new.result c.new.ensures c.loop-number.invariant.0
    c.loop-number.invariant.1 c.close.ensures.rest c.close.ensures.mode

pub returns-clause-book : goal.returns-clause-book
returns-clause-book g c =
    let b = c.args.self.now in
    let at : c.loop-number.number ≡ HART_ROW = search rules in
    let rows : length b.leases ≡ HART_ROW = search rules in
    c.loop-number.invariant.0
    ∙ ap (λ ls. record { start = b.start; machine = b.machine; journal = b.journal; leases = ls; mode = c.loop-number.self.mode })
    (ap (λ n. closed n b.leases) at ∙ closed_all b.leases HART_ROW rows)
