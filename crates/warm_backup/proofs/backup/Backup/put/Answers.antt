use Rattle.std.proofs.Common.{Ok, ap, subst, ◌∙◌}
use Rattle.log_join.specs.Stores.{StoreView, IsStore}
use Rattle.warm_backup.proofs.Kept.{still_kept}
use Rattle.warm_backup.proofs.backup.Backup.put.Goals as goal

pub invariant_of-self-else-not-tells_on : goal.invariant_of-self-else-not-tells_on
invariant_of-self-else-not-tells_on c =
    let b = c.self.inside in
    still_kept b.image b.tracked c.put.new.self (subst (λ (s : StoreView). IsStore s) c.store.ensures c.guest-rules.ensures.rules) b.front.items b.stand
    b.position c.self.invariant c.args.frame c.is_piece-piece.result c.is_piece-piece.ensures c.in_ok-put.put (c.tells_on.ensures c.if-not-tells_on.false)
    c.in_ok-put.ensures.answer c.in_ok-put.ensures.joined (λ e. c.put.ensures.same (c.in_ok-put.was ∙ ap Ok e))
    (λ e. c.put.ensures.other_guest (c.in_ok-put.was ∙ ap Ok e))
