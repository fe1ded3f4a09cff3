use Rattle.std.proofs.Common.{◌≡◌, ◌<◌, ◌≤◌, ◌+◌, ◌++◌, ℕ, List, length, map, take, drop, get_or, Vec, Global, sym, ap, subst, ◌∙◌, arith}
use Rattle.std.proofs.Math.ListN.{get_or-map}
use Rattle.std.proofs.lemmas.List.{length-map, length-take-le}
use Rattle.std.proofs.lemmas.Result.{err_from_is_err_and}
use Rattle.fragment_codec.specs.declared.frame.Frame.{Frame}
use Rattle.stations.specs.Logs.{IsFrontOf}
use Rattle.log_mending.specs.Mending.{AreFrontOf}
use Rattle.log_mending.proofs.Filled.{front_more, fronts_all, logs_fault, parts_at}
use Rattle.log_mending.proofs.mending.Filling.add_logs.Goals as goal

pub loop-number-preserved : goal.loop-number-preserved
loop-number-preserved c = λ guest front own f.
    let texts : List (List ℕ) = map (λ (log : Vec ℕ Global). log.items) c.args.others.now in
    let number = c.loop-number.number in
    let log : List ℕ = c.index-others-number.result.items in
    let read = c.in_ok-frames.field-0 in
    let lt : number < length texts = omega (arith, c.loop-number-test.true, length-map c.args.others.now (λ (l : Vec ℕ Global). l.items)) in
    let is : get_or texts number log ≡ log =
    get_or-map (λ (l : Vec ℕ Global). l.items) c.args.others.now number c.index-others-number.result ∙ ap (λ (l : Vec ℕ Global). l.items) (sym c.index-others-number.is) in
    let here : AreFrontOf log read.frames.items =
    (read.size, read.fault, subst (λ (bytes : List ℕ). IsFrontOf bytes read.frames.items read.size read.fault) c.deref.ensures.value c.in_ok-frames.ensures.front) in
    let g = c.loop-number.invariant guest front own f in
    (g.0 ++ read.frames.items, front_more texts number log g.0 read.frames.items lt is g.1 here, c.in_ok-add_frames.ensures.filled guest front own g.0 g.2)

pub returns-clause-filled : goal.returns-clause-filled
returns-clause-filled c = λ guest front own f.
    let texts : List (List ℕ) = map (λ (log : Vec ℕ Global). log.items) c.args.others.now in
    let le : length texts ≤ c.loop-number.number = omega (arith, c.loop-number-test.false, length-map c.args.others.now (λ (l : Vec ℕ Global). l.items)) in
    let g = c.loop-number.invariant guest front own f in
    (g.0, fronts_all texts c.loop-number.number g.0 le g.1, g.2)

pub returns-in_err-add_frames-clause-fault : goal.returns-in_err-add_frames-clause-fault
returns-in_err-add_frames-clause-fault c =
    let texts : List (List ℕ) = map (λ (log : Vec ℕ Global). log.items) c.args.others.now in
    let number = c.loop-number.number in
    let log : List ℕ = c.index-others-number.result.items in
    let read = c.in_ok-frames.field-0 in
    let lt : number < length texts = omega (arith, c.loop-number-test.true, length-map c.args.others.now (λ (l : Vec ℕ Global). l.items)) in
    let is : get_or texts number log ≡ log =
    get_or-map (λ (l : Vec ℕ Global). l.items) c.args.others.now number c.index-others-number.result ∙ ap (λ (l : Vec ℕ Global). l.items) (sym c.index-others-number.is) in
    let here : AreFrontOf log read.frames.items =
    (read.size, read.fault, subst (λ (bytes : List ℕ). IsFrontOf bytes read.frames.items read.size read.fault) c.deref.ensures.value c.in_ok-frames.ensures.front) in
    let many : length (take number texts) ≡ number = length-take-le number texts (omega (arith, lt)) in
    let p = err_from_is_err_and c.from_residual-in_err-add_frames.result c.from_residual-in_err-add_frames.ensures.1 in
    rw (p.1, p.2) (λ guest front own f.
    let g = c.loop-number.invariant guest front own f in
    logs_fault guest own g.0 read.frames.items (take number texts) (drop (number + 1) texts) texts log number c.in_err-add_frames.field-0.0
    (parts_at texts number log lt is) many g.1 here (c.in_err-add_frames.ensures.fault guest front own g.0 g.2))
