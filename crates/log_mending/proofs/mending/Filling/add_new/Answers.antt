use Rattle.std.proofs.Common.{◌≡◌, List, ℕ, ◌++◌, sym, ap, ◌∙◌}
use Rattle.log_mending.proofs.Filled.{fills_new}
use Rattle.log_mending.proofs.mending.Filling.add_new.Goals as goal

pub returns : goal.returns
returns c = λ guest front own given f.
    fills_new guest front own given c.args.self.now.fresh.items c.extend_from_slice.new.self.items c.args.self.now.store c.put.new.self c.args.frame
    (c.in_ok-put.ensures.joined (λ e. (let k = sym c.requires ∙ sym c.in_ok-put.ensures.answer ∙ e in cc)))
    (c.in_ok-extend_from_slice.ensures.items ∙
    ap (λ (x : List ℕ). c.args.self.now.fresh.items ++ x) (c.deref.ensures.value ∙ c.in_ok-bytes.ensures.bytes)) c.in_ok-bytes.ensures.one f
