use Rattle.std.proofs.Common.{rules, ap, ◌∙◌, ◌≡◌, arith, length}
use Rattle.ft_types.specs.declared.names.TheConstants.{HART_ROW}
use Rattle.page_book.specs.Reclaims.{closed}
use Rattle.page_book.proofs.Closing.{closed_known}
use Rattle.page_book.proofs.giving.close_all.Goals as goal

pub returns : goal.returns
returns c =
    let at : c.loop-place.place ≡ c.args.harts = omega arith in
    let rows : length c.args.leases.now ≡ HART_ROW = search rules in
    c.loop-place.invariant ∙
    (ap (λ n. closed n c.args.leases.now) at ∙ closed_known c.args.leases.now c.args.harts HART_ROW rows (omega arith) c.requires.known)
