use Rattle.std.proofs.Common.{◌≡◌, ◌<◌, ◌+◌, ◌++◌, ◌∷◌, [], ◌∙◌, true, length, take, ap, sym, arith}
use Rattle.std.proofs.lemmas.List.{take_more}
use Rattle.primary_turns.specs.Turns.{seen}
use Rattle.primary_turns.proofs.Turning.{adds_more}
use Rattle.primary_turns.proofs.leadership.Leadership.take.Goals as goal

pub loop-number-preserved : goal.loop-number-preserved
loop-number-preserved c =
    let all = c.args.all.now in
    let n = c.loop-number.number in
    let what = c.index-all-number.result in
    let within : n < length all = omega arith in
    let taken : c.in_ok-take_one.field-0 ≡ true = grind arith in
    adds_more c.args.self.now (take n all) (take (n + 1) all) (seen c.loop-number.self-inside.leader c.loop-number.self-inside.notes.told c.loop-number.self-inside.notes.flow.ahead) what
    (seen c.take_one.new.leader c.take_one.new.notes.told c.take_one.new.notes.flow.ahead) c.args.deeds.now.items c.loop-number.deeds.items c.take_one.new.deeds.items
    (take_more all n what within ∙ ap (λ y. take n all ++ y ∷ []) (sym c.index-all-number.is)) c.loop-number.invariant (c.in_ok-take_one.ensures.takes taken)
