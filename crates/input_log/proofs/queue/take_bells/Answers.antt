use Rattle.std.proofs.Common.{◌≡◌, ◌≤◌, ◌<◌, ◌++◌, get_or, Some, [], ◌∷◌, length, map, ap, sym, ◌∙◌, append-nil, arith}
use Rattle.std.specs.Option.{option_to_list}
use Rattle.std.proofs.lemmas.List.{length_push}
use Rattle.ft_types.specs.declared.names.TheConstants.{INPUT_LIMIT}
use Rattle.input_log.specs.declared.WaitingBell.{WaitingBell}
use Rattle.input_log.specs.declared.Input.TheVariants.{Bell}
use Rattle.input_log.proofs.Taking.{moved, taken_first, left_behind}
use Rattle.input_log.proofs.queue.take_bells.Goals.{in-Some, in_default}
use Rattle.input_log.proofs.queue.take_bells.Goals as goal

pub loop-preserved : goal.loop-preserved
loop-preserved c =
    let k = c.loop.counter in
    let old = c.loop.bells.items in
    let new = c.pop_front.new.self.items in
    let out = c.loop.inputs.items in
    let next = c.match-pop_front.inputs.items in
    let r = c.pop_front.result in
    let value : (d : WaitingBell) → 0 < length old → r ≡ Some (get_or old 0 d) = λ d some. c.pop_front.ensures.value d (omega (arith, c.loop.bells.ok)) in
    let room : length out ≤ k = c.loop.invariant.room in
    let more = taken_first INPUT_LIMIT k c.loop-test.true new old r c.pop_front.ensures.items value in
    let stay = left_behind INPUT_LIMIT k c.loop-test.true new old r c.pop_front.ensures.items value ∙ c.loop.invariant.stay in
    elim c.match-pop_front.branch [
      | in-Some w ↦
          let one : next ≡ out ++ Bell w.in-Some.bell.source ∷ [] = ap (λ v. v.items) w.inputs-is ∙ w.push_reserved.ensures.items in
          let pushed : next ≡ out ++ map (λ b. Bell b.source) (option_to_list r) = rw w.in-Some.is one in
          record {
            room = rw one (omega (arith, length_push out (Bell w.in-Some.bell.source)));
            inline = ap (λ v. v.capacity) w.inputs-is ∙ (w.push_reserved.ensures.capacity ∙ c.loop.invariant.inline);
            taken = moved (λ b. Bell b.source) out next r _ _ more pushed ∙ c.loop.invariant.taken;
            stay = stay;
          }
      | in_default w ↦
          let same : next ≡ out = ap (λ v. v.items) w.inputs-is in
          let pushed : next ≡ out ++ map (λ b. Bell b.source) (option_to_list r) = rw w.in_default.is (same ∙ sym (append-nil out)) in
          record {
            room = rw same (omega arith);
            inline = ap (λ v. v.capacity) w.inputs-is ∙ c.loop.invariant.inline;
            taken = moved (λ b. Bell b.source) out next r _ _ more pushed ∙ c.loop.invariant.taken;
            stay = stay;
          }
    ]
