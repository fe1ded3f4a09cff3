use Rattle.std.proofs.Common.{◌≡◌, ◌≤◌, ◌<◌, ◌+◌, ℕ, List, All, length, refl, sym, ap, subst, ◌∙◌, arith}
use Rattle.ft_types.specs.Counts.{count_at}
use Rattle.edge_log.specs.EdgeLog.{row_of}
use Rattle.input_log.specs.Inputs.{inputs_of}
use Rattle.log_join.specs.Cells.{One}
use Rattle.closed_cut.specs.Position.{pieces_of}
use Rattle.hart_replay.proofs.gathering.Pieces.{hart_is, harts_are, no_lower}
use Rattle.warm_backup.proofs.Cuts.{edges_before, inputs_before}
use Rattle.warm_backup.proofs.Growth.{begins_so_far, covers, covers_all, fits, grows_next, has_next, next_so_far, takes_up_to}
use Rattle.warm_backup.proofs.growing.take_facts.Goals as goal

-- where a list is empty, all of it is early
none_late : {A : Type 0} (P : A → Type 0) (xs : List A) → length xs ≡ 0 → All P xs
none_late P xs empty k d less = absurd (omega (arith, empty, less))

pub loop-cursor-init : goal.loop-cursor-init
loop-cursor-init c =
    let store = c.args.store.now in
    let was = c.args.leg.now in
    let rest = c.args.rest.now in
    let hart = c.args.hart in
    let from = count_at was.ends hart in
    let pieces = pieces_of store was.term hart in
    let cursor = c.args.cursor.now in
    let within = c.requires.walks.within in
    let up = c.requires.up in
    let early = edges_before store c.requires.rules was c.requires.facts.edges hart (rw c.of_hart-own.ensures.value at c.of_hart-own.ensures.own) in
    record {
      within = omega (arith, within, up);
      so_far =
          begins_so_far pieces (fits store c.requires.rules hart c.args.end (count_at c.args.now.now) was rest up) hart from c.args.end
          (count_at c.args.now.now) was rest up cursor.place cursor.end c.requires.walks.goes within
          (λ k d less. let lt = early k d less in omega (arith, lt)) (inputs_before store c.requires.rules was c.requires.facts.inputs hart)
          (none_late (λ e. e.at ≤ from) (row_of rest.edges hart) (ap length c.requires.rest_edges))
          (none_late (λ x. x.0 < from) (inputs_of rest.inputs hart) (ap length c.requires.rest_inputs));
    }

pub returns-in_default-clause-taken : goal.returns-in_default-clause-taken
returns-in_default-clause-taken c =
    let store = c.args.store.now in
    let was = c.args.leg.now in
    let so_far = c.loop-cursor.invariant.so_far in
    let avail = c.requires.facts.edges.avail in
    let (f, one, from) = has_next store c.requires.rules c.args.hart c.args.end (count_at c.args.now.now) was c.args.rest.now c.requires.up avail
    (c.requires.inside avail) c.loop-cursor.cursor.place c.loop-cursor.cursor.end so_far.goes c.loop-cursor-test.true in
    absurd
    (c.in_default.ensures.none f
    (subst (λ (t : ℕ). pieces_of store t c.args.hart c.loop-cursor.cursor.place ≡ One f) (sym so_far.taken.term) one) from)

pub add_facts-requires-clause-harts : goal.add_facts-requires-clause-harts
add_facts-requires-clause-harts c =
    let so_far = c.loop-cursor.invariant.so_far in
    let one = rw so_far.taken.term at c.in-Some.ensures.one in
    ap length so_far.taken.base ∙ (c.requires.facts.harts ∙
    sym (harts_are c.args.store.now c.requires.rules c.args.leg.now.term c.args.hart c.loop-cursor.cursor.place c.in-Some.piece.now one))

pub add_facts-requires-clause-from : goal.add_facts-requires-clause-from
add_facts-requires-clause-from c =
    let so_far = c.loop-cursor.invariant.so_far in
    let was = c.args.leg.now in
    let place = c.loop-cursor.cursor.place in
    let one = rw so_far.taken.term at c.in-Some.ensures.one in
    let low = no_lower c.args.store.now c.requires.rules was.term c.args.hart (count_at was.base c.args.hart) place c.loop-cursor.cursor.end so_far.goes in
    rw (so_far.taken.base, hart_is c.args.store.now c.requires.rules was.term c.args.hart place c.in-Some.piece.now one)
    (let begins = c.in-Some.ensures.from in omega (arith, low, begins))

pub add_facts-requires-clause-edges_end : goal.add_facts-requires-clause-edges_end
add_facts-requires-clause-edges_end c =
    let so_far = c.loop-cursor.invariant.so_far in
    let one = rw so_far.taken.term at c.in-Some.ensures.one in
    rw (
      hart_is c.args.store.now c.requires.rules c.args.leg.now.term c.args.hart c.loop-cursor.cursor.place c.in-Some.piece.now one,
      c.in-Some.ensures.from,
      c.get-from.ensures.value,
    ) so_far.edges_end

pub add_facts-requires-clause-inputs_end : goal.add_facts-requires-clause-inputs_end
add_facts-requires-clause-inputs_end c =
    let so_far = c.loop-cursor.invariant.so_far in
    let one = rw so_far.taken.term at c.in-Some.ensures.one in
    rw (
      hart_is c.args.store.now c.requires.rules c.args.leg.now.term c.args.hart c.loop-cursor.cursor.place c.in-Some.piece.now one,
      c.in-Some.ensures.from,
      c.get-from.ensures.value,
    ) so_far.inputs_end

pub add_facts-requires-clause-hart : goal.add_facts-requires-clause-hart
add_facts-requires-clause-hart c =
    let so_far = c.loop-cursor.invariant.so_far in
    let one = rw so_far.taken.term at c.in-Some.ensures.one in
    rw (hart_is c.args.store.now c.requires.rules c.args.leg.now.term c.args.hart c.loop-cursor.cursor.place c.in-Some.piece.now one)
    (omega (arith, c.requires.hart, so_far.taken.notes.many, c.requires.facts.marks.many))

pub returns-in_err-add_facts-clause-grows : goal.returns-in_err-add_facts-clause-grows
returns-in_err-add_facts-clause-grows c =
    let store = c.args.store.now in
    let was = c.args.leg.now in
    let so_far = c.loop-cursor.invariant.so_far in
    let place = c.loop-cursor.cursor.place in
    let f = c.in-Some.piece.now in
    let one = rw so_far.taken.term at c.in-Some.ensures.one in
    grows_next (pieces_of store was.term c.args.hart)
    (fits store c.requires.rules c.args.hart c.args.end (count_at c.args.now.now) was c.args.rest.now c.requires.up) c.args.hart (count_at was.ends c.args.hart)
    c.args.end (count_at c.args.now.now) was c.args.rest.now c.requires.up place c.loop-cursor.cursor.end c.loop-cursor.leg c.add_facts.new.leg
    c.loop-cursor.rest so_far f.key.hart c.get-from.result f.from (hart_is store c.requires.rules was.term c.args.hart place f one)
    c.get-from.ensures.value c.add_facts.ensures.grows

pub add_work-requires-clause-harts : goal.add_work-requires-clause-harts
add_work-requires-clause-harts c =
    let so_far = c.loop-cursor.invariant.so_far in
    let one = rw so_far.taken.term at c.in-Some.ensures.one in
    ap length so_far.work.edges.start ∙ (c.requires.rest_harts ∙
    sym (harts_are c.args.store.now c.requires.rules c.args.leg.now.term c.args.hart c.loop-cursor.cursor.place c.in-Some.piece.now one))

pub add_work-requires-clause-from : goal.add_work-requires-clause-from
add_work-requires-clause-from c =
    let so_far = c.loop-cursor.invariant.so_far in
    let one = rw so_far.taken.term at c.in-Some.ensures.one in
    rw (hart_is c.args.store.now c.requires.rules c.args.leg.now.term c.args.hart c.loop-cursor.cursor.place c.in-Some.piece.now one)
    (let is = c.requires.from in let at = c.get-from.ensures.value in omega (arith, is, at))

pub add_work-requires-clause-edges_end : goal.add_work-requires-clause-edges_end
add_work-requires-clause-edges_end c =
    let so_far = c.loop-cursor.invariant.so_far in
    let one = rw so_far.taken.term at c.in-Some.ensures.one in
    rw (
      hart_is c.args.store.now c.requires.rules c.args.leg.now.term c.args.hart c.loop-cursor.cursor.place c.in-Some.piece.now one,
      c.in-Some.ensures.from,
      c.get-from.ensures.value,
    ) so_far.rest_edges_end

pub add_work-requires-clause-inputs_end : goal.add_work-requires-clause-inputs_end
add_work-requires-clause-inputs_end c =
    let so_far = c.loop-cursor.invariant.so_far in
    let one = rw so_far.taken.term at c.in-Some.ensures.one in
    rw (
      hart_is c.args.store.now c.requires.rules c.args.leg.now.term c.args.hart c.loop-cursor.cursor.place c.in-Some.piece.now one,
      c.in-Some.ensures.from,
      c.get-from.ensures.value,
    ) so_far.rest_inputs_end

pub returns-in_err-add_work-clause-grows : goal.returns-in_err-add_work-clause-grows
returns-in_err-add_work-clause-grows c =
    let store = c.args.store.now in
    let was = c.args.leg.now in
    let so_far = c.loop-cursor.invariant.so_far in
    let place = c.loop-cursor.cursor.place in
    let f = c.in-Some.piece.now in
    let one = rw so_far.taken.term at c.in-Some.ensures.one in
    grows_next (pieces_of store was.term c.args.hart)
    (fits store c.requires.rules c.args.hart c.args.end (count_at c.args.now.now) was c.args.rest.now c.requires.up) c.args.hart (count_at was.ends c.args.hart)
    c.args.end (count_at c.args.now.now) was c.args.rest.now c.requires.up place c.loop-cursor.cursor.end c.loop-cursor.leg c.add_facts.new.leg
    c.loop-cursor.rest so_far f.key.hart c.get-from.result f.from (hart_is store c.requires.rules was.term c.args.hart place f one)
    c.get-from.ensures.value c.add_facts.ensures.grows

pub returns-then-end-to-clause-taken : goal.returns-then-end-to-clause-taken
returns-then-end-to-clause-taken c =
    let store = c.args.store.now in
    let was = c.args.leg.now in
    let before = c.args.rest.now in
    let hart = c.args.hart in
    let end = c.args.end in
    let now = count_at c.args.now.now in
    let rules = c.requires.rules in
    let up = c.requires.up in
    let so_far = c.loop-cursor.invariant.so_far in
    let cursor = c.loop-cursor.cursor in
    let f = c.in-Some.piece.now in
    let one = rw so_far.taken.term at c.in-Some.ensures.one in
    let next =
    next_so_far (pieces_of store was.term hart) (fits store rules hart end now was before up) hart (count_at was.ends hart) end now was before up cursor.place
    cursor.end c.loop-cursor.leg c.add_facts.new.leg c.loop-cursor.rest c.add_work.new.rest so_far f one c.in-Some.ensures.from f.key.hart c.get-from.result refl
    (hart_is store rules was.term hart cursor.place f one) c.get-from.ensures.value c.in_ok-add_facts.ensures.taken c.in_ok-add_work.ensures.taken
    c.add_facts.ensures.ends c.add_work.ensures.ends c.add_facts.ensures.grows c.in_ok-add_facts.ensures.edges_end c.in_ok-add_facts.ensures.inputs_end
    c.in_ok-add_work.ensures.edges_end c.in_ok-add_work.ensures.inputs_end in
    let past = c.if-end-to.true in
    let to = c.to.ensures in
    takes_up_to store rules hart end now was before up (cursor.place + 1) f.to c.add_facts.new.leg c.add_work.new.rest next (omega (arith, past, to))
    (covers store rules hart end now was before up cursor.place cursor.end so_far.goes c.loop-cursor-test.true)

pub returns-then-end-to-clause-grows : goal.returns-then-end-to-clause-grows
returns-then-end-to-clause-grows c =
    let store = c.args.store.now in
    let was = c.args.leg.now in
    let so_far = c.loop-cursor.invariant.so_far in
    let place = c.loop-cursor.cursor.place in
    let f = c.in-Some.piece.now in
    let one = rw so_far.taken.term at c.in-Some.ensures.one in
    grows_next (pieces_of store was.term c.args.hart)
    (fits store c.requires.rules c.args.hart c.args.end (count_at c.args.now.now) was c.args.rest.now c.requires.up) c.args.hart (count_at was.ends c.args.hart)
    c.args.end (count_at c.args.now.now) was c.args.rest.now c.requires.up place c.loop-cursor.cursor.end c.loop-cursor.leg c.add_facts.new.leg
    c.loop-cursor.rest so_far f.key.hart c.get-from.result f.from (hart_is store c.requires.rules was.term c.args.hart place f one)
    c.get-from.ensures.value c.add_facts.ensures.grows

pub loop-cursor-smaller : goal.loop-cursor-smaller
loop-cursor-smaller c =
    let store = c.args.store.now in
    let was = c.args.leg.now in
    let so_far = c.loop-cursor.invariant.so_far in
    let f = c.in-Some.piece.now in
    let one = rw so_far.taken.term at c.in-Some.ensures.one in
    let some = (fits store c.requires.rules c.args.hart c.args.end (count_at c.args.now.now) was c.args.rest.now c.requires.up c.loop-cursor.cursor.place f one).some in
    let to = c.to-in-loop-cursor.ensures in
    let begins = c.in-Some.ensures.from in
    let less = c.loop-cursor-test.true in
    omega (arith, some, to, begins, less)

pub loop-cursor-preserved : goal.loop-cursor-preserved
loop-cursor-preserved c =
    let store = c.args.store.now in
    let was = c.args.leg.now in
    let before = c.args.rest.now in
    let hart = c.args.hart in
    let end = c.args.end in
    let now = count_at c.args.now.now in
    let rules = c.requires.rules in
    let up = c.requires.up in
    let so_far = c.loop-cursor.invariant.so_far in
    let cursor = c.loop-cursor.cursor in
    let f = c.in-Some.piece.now in
    let one = rw so_far.taken.term at c.in-Some.ensures.one in
    let next =
    next_so_far (pieces_of store was.term hart) (fits store rules hart end now was before up) hart (count_at was.ends hart) end now was before up cursor.place
    cursor.end c.loop-cursor.leg c.add_facts.new.leg c.loop-cursor.rest c.add_work.new.rest so_far f one c.in-Some.ensures.from f.key.hart c.get-from.result refl
    (hart_is store rules was.term hart cursor.place f one) c.get-from.ensures.value c.in_ok-add_facts.ensures.taken c.in_ok-add_work.ensures.taken
    c.add_facts.ensures.ends c.add_work.ensures.ends c.add_facts.ensures.grows c.in_ok-add_facts.ensures.edges_end c.in_ok-add_facts.ensures.inputs_end
    c.in_ok-add_work.ensures.edges_end c.in_ok-add_work.ensures.inputs_end in
    let to = c.to-in-loop-cursor.ensures in
    let upto = c.if-end-to.false in
    let was_to = c.to.ensures in
    record { within = omega (arith, to, upto, was_to); so_far = rw to next }

pub returns-clause-taken : goal.returns-clause-taken
returns-clause-taken c =
    let store = c.args.store.now in
    let was = c.args.leg.now in
    let before = c.args.rest.now in
    let hart = c.args.hart in
    let end = c.args.end in
    let now = count_at c.args.now.now in
    let rules = c.requires.rules in
    let up = c.requires.up in
    let so_far = c.loop-cursor.invariant.so_far in
    let cursor = c.loop-cursor.cursor in
    let within = c.loop-cursor.invariant.within in
    let over = c.loop-cursor-test.false in
    let is : cursor.end ≡ end = omega (arith, within, over) in
    takes_up_to store rules hart end now was before up cursor.place cursor.end c.loop-cursor.leg c.loop-cursor.rest so_far over
    (covers_all store rules hart end now was before up cursor.place cursor.end so_far.goes is)
