use Rattle.std.proofs.Common.{◌≡◌, arith, ap, subst, ◌∙◌}
use Rattle.std.proofs.lemmas.List.{get_or_past}
use Rattle.log_pieces.specs.declared.cutting.Origin.{Origin}
use Rattle.fragment_codec.specs.Facts.{told_by}
use Rattle.log_pieces.specs.Pieces.{hart_log}
use Rattle.log_pieces.specs.machinery.Cutting.{log_of_records, StandBetween}
use Rattle.log_pieces.proofs.cuts.Harts.{HartsCut, hart_cut, log_is, all_cut}
use Rattle.log_pieces.proofs.cutting.cut_logs.Goals as goal

pub cut_hart-requires-clause-may : goal.cut_hart-requires-clause-may
cut_hart-requires-clause-may c =
    let kept = ap (λ m. m.count) (c.loop-number.invariant.kept c.new-hart.result (omega (arith, c.new-hart.ensures))) in
    record {
      guest = c.harts-number-end.ensures.rules;
      own = omega (arith, c.new-hart.ensures);
      granted = c.requires.granted;
      fits = omega arith;
      end = c.get.ensures.limit;
      within = omega (arith, kept, c.requires.within c.new-hart.result, c.get.ensures.value);
      logged = rw c.deref.ensures.value (c.in_ok-records.ensures.logged c.args.guest.now.harts c.requires.edges c.requires.inputs);
      there = rw c.deref.ensures.value (subst (λ n. StandBetween n c.get.result c.in_ok-records.records.items) c.reached-from.ensures.value
          c.in_ok-records.ensures.there);
    }

pub loop-number-preserved : goal.loop-number-preserved
loop-number-preserved c =
    let logs = hart_log c.args.guest.now c.args.term c.args.edges.now c.args.inputs.now c.args.notes.now c.args.settled.now in
    let origin : Origin = record { guest = c.args.guest.now; term = c.args.term; hart = c.new-hart.result; settled = c.get.result } in
    hart_cut logs c.loop-number.number c.args.sealed.now c.loop-number.frames.items c.loop-number.next c.cut_hart.new.frames.items c.cut_hart.new.sealed
    (log_of_records origin c.deref.result.now) c.loop-number.invariant
    (log_is c.args.guest.now c.args.term c.args.edges.now c.args.inputs.now c.args.notes.now c.args.settled.now c.loop-number.next c.loop-number.number c.new-hart.result
    c.reached-from.result c.get.result
    c.deref.result.now c.new-hart.ensures c.reached-from.ensures.value c.get.ensures.value (ap told_by c.deref.ensures.value ∙ c.in_ok-records.ensures.told))
    c.new-hart.ensures c.in_ok-cut_hart.ensures

pub returns-clause-cut : goal.returns-clause-cut
returns-clause-cut c =
    let logs = hart_log c.args.guest.now c.args.term c.args.edges.now c.args.inputs.now c.args.notes.now c.args.settled.now in
    let number : c.loop-number.number ≡ c.args.guest.now.harts = omega arith in
    all_cut logs c.args.guest.now.harts c.args.sealed.now c.loop-number.frames.items c.loop-number.next
    (subst (λ n. HartsCut logs n c.args.sealed.now c.loop-number.frames.items c.loop-number.next) number c.loop-number.invariant) c.requires.sealed_harts
    (λ hart past. get_or_past c.args.settled.now hart 0 (let harts = c.requires.settled_harts in omega arith))
