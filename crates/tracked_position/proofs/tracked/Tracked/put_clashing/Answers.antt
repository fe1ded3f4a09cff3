use Rattle.std.proofs.Common.{◌≡◌, ◌∙◌, sym, ap, subst}
use Rattle.log_join.specs.Answers.{answer_to}
use Rattle.log_join.specs.Stores.{StoreView}
use Rattle.tracked_position.specs.machinery.Keeping.{AreBeyond, IsTracked}
use Rattle.tracked_position.proofs.Clashes.{put_stays}
use Rattle.tracked_position.proofs.tracked.Tracked.put_clashing.Goals as goal

pub invariant_of-self : goal.invariant_of-self
invariant_of-self c =
    let is : c.put.new.self ≡ c.self.inside.store =
    put_stays c.self.inside.store c.put.new.self c.args.frame c.put.result (ap (λ s. answer_to s c.args.frame) c.self.view_is ∙ c.requires)
    (c.is_clash_at.ensures.0 c.if-is_clash_at.true) c.put.ensures.answer c.put.ensures.joined c.put.ensures.err in (
      subst (λ (s : StoreView). IsTracked s c.self.inside.position c.self.inside.cursors) (sym is) c.self.invariant.0,
      subst (λ (s : StoreView). AreBeyond s c.self.inside.beyond) (sym is) c.self.invariant.1,
    )
