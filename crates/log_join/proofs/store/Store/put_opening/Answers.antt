use Rattle.std.proofs.Common.{◌∙◌, sym, subst, ℕ}
use Rattle.std.specs.Ordering.{nat_cmp}
use Rattle.fragment_codec.specs.declared.frame.Frame.TheVariants.{Opening}
use Rattle.log_join.specs.Stores.{StoreView}
use Rattle.log_join.specs.Answers.{Puts}
use Rattle.log_join.specs.machinery.Contents.{view_of}
use Rattle.log_join.proofs.Told.{guests_told}
use Rattle.log_join.proofs.Stores.{IsTaken, puts_opening}
use Rattle.log_join.proofs.store.Store.put_opening.Goals as goal

pub returns : goal.returns
returns c =
    let s = c.self.inside.shelves in
    let n = c.put_at.new.shelf in
    let o = c.args.opening in
    let own = sym c.guest.ensures ∙ (guests_told _ _).0 (sym c.if-not-is_same_guest.ensures) in
    let h : IsTaken nat_cmp s.openings n o.term (Opening o) c.put_at.result =
    subst (λ (t : ℕ). IsTaken nat_cmp s.openings n t (Opening o) c.put_at.result) c.term-term.ensures
    (record { answers = c.put_at.ensures.answer; takes = c.put_at.ensures.taken; keeps = c.put_at.ensures.err; lacks = c.put_at.ensures.memory }) in
    subst (λ (v : StoreView). Puts v (Opening o) c.put_at.result (view_of c.self.inside.guest (record s { openings = n }))) c.self.view_is
    (puts_opening c.self.inside.guest s n o c.put_at.result c.self.invariant own h)
