use Rattle.std.proofs.Common.{rules, ◌≡◌, ◌∙◌, sym, false, true≢false}
use Rattle.page_book.proofs.book.Book.need_own.Goals as goal

pub returns-then-not-is_empty-clause-not_free : goal.returns-then-not-is_empty-clause-not_free
returns-then-not-is_empty-clause-not_free g c free =
    let empty = c.is_empty.ensures.none.1 (λ n member. free n (rw (← c.self.view_is, ← c.lease.view_is, ← c.deref_mut-own.ensures.value, ← c.asks-asked.ensures.value)
    (rw c.deref.ensures at ((c.holders-harts.ensures n).0 member)))) in
    let none : c.is_empty.result ≡ false = search rules in
    true≢false (sym empty ∙ none)
