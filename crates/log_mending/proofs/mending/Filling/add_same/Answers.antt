use Rattle.std.proofs.Common.{◌≡◌, Ok, sym, ap, ◌∙◌}
use Rattle.log_join.specs.Stores.{StoreView}
use Rattle.log_mending.proofs.Filled.{fills_same}
use Rattle.log_mending.proofs.mending.Filling.add_same.Goals as goal

pub returns : goal.returns
returns c = λ guest front own given f.
    let is = c.in_ok-put.ensures.answer ∙ c.requires in
    let same : c.put.new.self ≡ c.args.self.now.store = c.put.ensures.same (c.in_ok-put.was ∙ ap Ok is) in
    fills_same guest front own given c.args.self.now.fresh.items c.args.self.now.store c.put.new.self c.args.frame
    (c.in_ok-put.ensures.joined (λ e. (let k = sym is ∙ e in cc))) same f
