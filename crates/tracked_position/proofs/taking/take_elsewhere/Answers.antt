use Rattle.std.proofs.Common.{◌∙◌, sym, subst}
use Rattle.log_join.specs.Stores.{StoreView}
use Rattle.tracked_position.specs.machinery.Keeping.{AreBeyond}
use Rattle.tracked_position.proofs.Growth.{HasOneMore, one_more}
use Rattle.tracked_position.proofs.Keeping.{tracked_elsewhere}
use Rattle.tracked_position.proofs.taking.take_elsewhere.Goals as goal

pub returns-clause-tracked : goal.returns-clause-tracked
returns-clause-tracked c =
    tracked_elsewhere c.args.store.now c.put_new.new.self c.args.fragment c.requires.tracked.rules c.guest-rules.ensures.rules
    (one_more c.args.store.now c.put_new.new.self c.args.fragment c.requires.new c.in_ok-put_new.ensures.joined) c.args.position.now c.args.cursors.now
    c.requires.elsewhere c.requires.tracked

pub returns-clause-beyond : goal.returns-clause-beyond
returns-clause-beyond c =
    let more : HasOneMore c.args.store.now c.put_new.new.self c.args.fragment =
    one_more c.args.store.now c.put_new.new.self c.args.fragment c.requires.new c.in_ok-put_new.ensures.joined in
    c.add.ensures.kept c.args.store.now c.put_new.new.self
    (λ k not. more.others k (λ is. not (is ∙ sym c.key-key.ensures))) c.requires.beyond

pub returns-in_err-put_new-clause-beyond : goal.returns-in_err-put_new-clause-beyond
returns-in_err-put_new-clause-beyond c =
    subst (λ (s : StoreView). AreBeyond s c.args.beyond.now) (sym c.in_err-put_new.ensures.err) c.requires.beyond
