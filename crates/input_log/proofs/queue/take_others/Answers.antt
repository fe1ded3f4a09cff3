use Rattle.std.proofs.Common.{◌≡◌, ◌≤◌, ◌+◌, ◌-◌, ◌++◌, [], ◌∷◌, length, map, ap, sym, ◌∙◌, append-nil, arith}
use Rattle.std.specs.Option.{option_to_list}
use Rattle.std.proofs.lemmas.List.{length_push}
use Rattle.ft_types.specs.declared.names.TheConstants.{INPUT_LIMIT}
use Rattle.input_log.specs.Waiting.{others_going, others_staying}
use Rattle.input_log.proofs.Taking.{moved, steps_left}
use Rattle.input_log.proofs.queue.take_others.Goals.{in-Some, in_default}
use Rattle.input_log.proofs.queue.take_others.Goals as goal

pub loop-preserved : goal.loop-preserved
loop-preserved c =
    let n = c.args.count in
    let m = INPUT_LIMIT - c.len-room.result in
    let k = c.loop.counter in
    let old = c.loop.others.items in
    let new = c.pop_going.new.others.items in
    let out = c.loop.inputs.items in
    let next = c.match-pop_going.inputs.items in
    let r = c.pop_going.result in
    let room : length out ≤ length c.args.inputs.now.items + k = c.loop.invariant.room in
    let size = steps_left m k c.loop-test.true in
    let more : others_going n (m - k) old ≡ option_to_list r ++ others_going n (m - (k + 1)) new = rw size (c.pop_going.ensures.taken (m - (k + 1))) in
    let back : others_staying n (m - k) old ≡ others_staying n (m - (k + 1)) new = rw size (c.pop_going.ensures.stay (m - (k + 1))) in
    let stay = sym back ∙ c.loop.invariant.stay in
    elim c.match-pop_going.branch [
      | in-Some w ↦
          let one : next ≡ out ++ w.in-Some.first.input ∷ [] = ap (λ v. v.items) w.inputs-is ∙ w.push_reserved.ensures.items in
          let pushed : next ≡ out ++ map (λ w. w.input) (option_to_list r) = rw w.in-Some.is one in
          record {
            room = rw one (omega (arith, length_push out w.in-Some.first.input));
            inline = ap (λ v. v.capacity) w.inputs-is ∙ (w.push_reserved.ensures.capacity ∙ c.loop.invariant.inline);
            taken = moved (λ w. w.input) out next r _ _ more pushed ∙ c.loop.invariant.taken;
            stay = stay;
          }
      | in_default w ↦
          let same : next ≡ out = ap (λ v. v.items) w.inputs-is in
          let pushed : next ≡ out ++ map (λ w. w.input) (option_to_list r) = rw w.in_default.is (same ∙ sym (append-nil out)) in
          record {
            room = rw same (omega arith);
            inline = ap (λ v. v.capacity) w.inputs-is ∙ c.loop.invariant.inline;
            taken = moved (λ w. w.input) out next r _ _ more pushed ∙ c.loop.invariant.taken;
            stay = stay;
          }
    ]
