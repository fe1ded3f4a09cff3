use Rattle.std.proofs.Common.{rules, ◌≡◌, ◌<◌, ◌≤◌, ℕ, Some, length, slice_get, refl, sym, ap, subst, ◌∙◌, arith}
use Rattle.std.proofs.lemmas.Option.{slice_get_within}
use Rattle.ft_types.specs.declared.names.TheConstants.{HART_LIMIT}
use Rattle.input_log.specs.Waiting.{others_of}
use Rattle.guest_image.specs.Machine.{MachineState}
use Rattle.book_modes.specs.Recordings.{RecordingView}
use Rattle.page_book.specs.Books.{BookView}
use Rattle.primary.specs.declared.granted.Primary.{Primary}
use Rattle.leading.specs.Leaders.{queue_at}
use Rattle.leading.specs.Rounds.{Hands, next_of}
use Rattle.leading.proofs.Handing.{hands_more}
use Rattle.leading.proofs.Onward.{goes_nowhere, goes_further}
use Rattle.leading.proofs.Queueing.{queue_there, set_other}
use Rattle.leading.proofs.inputs.hand_all.Goals as goal

pub loop-number-init : goal.loop-number-init
loop-number-init c = record {
  goes_on = goes_nowhere c.args.primary.now.book c.tell_primary.ensures.primary c.tell_primary.ensures.leads;
  rest = refl;
  limits = refl;
  waiting = refl;
  bells = λ hart. refl;
  many = refl;
  done = λ hart h lt at. absurd (omega (arith, lt));
  queues = λ hart le. refl;
  desk = λ hart le. refl;
}

few : (m n : MachineState) (number end queues : ℕ) → n ≡ m → length n.harts ≤ HART_LIMIT → queues ≡ length m.harts → end ≡ queues → number < end →
    number < HART_LIMIT
few m n number end queues same limit as_many is less =
    let harts = ap (λ (x : MachineState). length x.harts) same in omega (arith, harts, limit, as_many, is, less)

pub new-requires : goal.new-requires
new-requires c =
    few c.args.primary.now.book.machine c.machine.result.now c.loop-number.number c.len-number-end.result (length c.args.queues.now.items)
    c.machine.ensures.value c.harts-harts.ensures.whole.harts c.requires.harts (c.len-number-end.ensures ∙ c.args.queues.now.ok.0) c.loop-number-test.true

pub overflow_cast-number : goal.overflow_cast-number
overflow_cast-number c =
    let less : c.loop-number.number < HART_LIMIT =
    few c.args.primary.now.book.machine c.machine.result.now c.loop-number.number c.len-number-end.result (length c.args.queues.now.items)
    c.machine.ensures.value c.harts-harts.ensures.whole.harts c.requires.harts (c.len-number-end.ensures ∙ c.args.queues.now.ok.0)
    c.loop-number-test.true in
    omega (arith, less)

pub returns-in_err-hand_one-clause-goes_on : goal.returns-in_err-hand_one-clause-goes_on
returns-in_err-hand_one-clause-goes_on c =
    goes_further c.args.primary.now.book c.loop-number.primary.book c.hand_one.new.primary.book c.loop-number.invariant.goes_on
    c.in_err-hand_one.ensures.goes_on

pub loop-number-preserved : goal.loop-number-preserved
loop-number-preserved c =
    let n = c.loop-number.number in
    let qs = c.loop-number.queues.items in
    let olds = c.args.queues.now.items in
    let was = c.loop-number.invariant in
    let one = c.in_ok-hand_one.ensures in
    let b = c.args.primary.now.book in
    let l = c.loop-number.primary.book in
    let e = c.hand_one.new.primary.book in
    let machine : l.machine ≡ b.machine = ap (λ (x : Primary). x.book.machine) was.rest in
    let hart : c.new.result ≡ n = c.new.ensures in
    let inside : n < length qs = omega (arith, c.loop-number-test.true, c.len-number-end.ensures, c.args.queues.now.ok.0, was.many) in
    record {
      goes_on = goes_further b l e was.goes_on one.goes_on;
      rest = one.rest ∙ ap (λ (x : Primary). let y : Primary = record x { book = record x.book { mode = e.mode } } in y) was.rest;
      limits = one.limits ∙ was.limits;
      waiting = one.waiting ∙ ap (λ (x : RecordingView). let y : RecordingView = record x { desk = e.mode.desk } in y) was.waiting;
      bells = λ other. one.bells other ∙ was.bells other;
      many = search rules;
      done = hands_more c.args.spacing b.machine.harts n olds qs c.index_mut.result.now c.hand_one.new.queue b.mode l.mode e.mode inside
          (queue_there qs n c.index_mut.result.now inside c.index_mut.ensures.value) was.done
          was.queues was.desk
          (λ h at.
          subst (λ k. Hands c.args.spacing (next_of h c.index_mut.result.now) k h.count c.index_mut.result.now c.hand_one.new.queue l.mode e.mode) hart
          (one.hands h
          (subst (λ (m : MachineState). slice_get m.harts c.new.result ≡ Some h) (sym machine)
          (subst (λ k. slice_get b.machine.harts k ≡ Some h) (sym hart) at))))
          (λ other ne. one.others other (λ same. ne (same ∙ hart)));
      queues = λ k le. set_other qs n k c.hand_one.new.queue (λ same. absurd (omega (arith, le, same))) ∙ was.queues k (omega (arith, le));
      desk = λ k le. one.others k (λ same. absurd (omega (arith, le, same, hart))) ∙ was.desk k (omega (arith, le));
    }

pub returns-clause-hands : goal.returns-clause-hands
returns-clause-hands c = λ hart h at.
    let within = slice_get_within c.args.primary.now.book.machine.harts hart h at in
    c.loop-number.invariant.done hart h
    (omega (arith, within, c.requires.harts, c.len-number-end.ensures, c.args.queues.now.ok.0, c.loop-number-test.false)) at
