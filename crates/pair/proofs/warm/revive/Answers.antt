use Rattle.std.proofs.Common.{◌≡◌, ◌<◌, ◌+◌, ◌-◌, ◌∷◌, ℕ, List, Err, length, map, sym, ap, subst, ◌∙◌, arith}
use Rattle.std.specs.List.{range_with_len}
use Rattle.std.proofs.lemmas.Result.{err_from_is_err_and}
use Rattle.ft_types.specs.declared.quorum.Quorum.{Quorum}
use Rattle.log_join.specs.Stores.{StoreView}
use Rattle.guest_image.specs.Image.{ImageContents, guest_of}
use Rattle.go_live.specs.Joined.{AreJoined}
use Rattle.go_live.specs.Lives.{IsAtPosition}
use Rattle.go_live.specs.declared.fault.LiveFault.{LiveFault}
use Rattle.go_live.specs.Faults.{live_fault_of}
use Rattle.go_live.specs.Quorums.{distinct_below}
use Rattle.pair.specs.Warm.{IsRefused}
use Rattle.pair.proofs.Refusing.{refused_memory, refused_keep, refused_all}
use Rattle.pair.proofs.warm.revive.Goals as goal

pub returns-clause-live : goal.returns-clause-live
returns-clause-live c =
    let live = c.in_ok-live.live in
    let backup = c.keep_up.new.backup in
    let image : backup.image ≡ c.args.image.now = c.keep_up.ensures.image ∙ c.in-Some.ensures.image in
    let held : backup.store ∷ map (λ s. s.1.now) c.as_slice.result.now ≡ c.args.held.items =
    ap (λ (s : StoreView). s ∷ map (λ s. s.1.now) c.as_slice.result.now) c.keep_up.ensures.store
    ∙ ap (λ (ss : List StoreView). c.in-Some.backup.store ∷ ss)
    (ap (λ xs. map (λ s. s.1.now) xs) c.as_slice.ensures.value ∙ c.in_ok-stores.ensures.stores ∙ c.deref.ensures.value) ∙ sym c.in-Some.ensures.held in
    record {
      position = subst (λ (i : ImageContents). IsAtPosition i c.args.held.items 2 live.book.start live.opening live.marks) image
          (subst (λ (ss : List StoreView). IsAtPosition backup.image ss 2 live.book.start live.opening live.marks) held c.in_ok-live.ensures.position);
      book = c.in_ok-live.ensures.book;
      outputs = c.in_ok-live.ensures.outputs;
    }

pub returns-clause-steps : goal.returns-clause-steps
returns-clause-steps c =
    let stood = c.keep_up.new.backup in
    let gone = c.go_live_warm.new.backup in
    let image : stood.image ≡ c.args.image.now = c.keep_up.ensures.image ∙ c.in-Some.ensures.image in
    let held : stood.store ∷ map (λ s. s.1.now) c.as_slice.result.now ≡ c.args.held.items =
    ap (λ (s : StoreView). s ∷ map (λ s. s.1.now) c.as_slice.result.now) c.keep_up.ensures.store
    ∙ ap (λ (ss : List StoreView). c.in-Some.backup.store ∷ ss)
    (ap (λ xs. map (λ s. s.1.now) xs) c.as_slice.ensures.value ∙ c.in_ok-stores.ensures.stores ∙ c.deref.ensures.value) ∙ sym c.in-Some.ensures.held in
    record {
      first = stood.store;
      others = map (λ s. s.1.now) c.as_slice.result.now;
      are_stores = sym held;
      stood = stood.position;
      had = stood.legs;
      first_planned = c.in_ok-keep_up.ensures.planned;
      joined = gone.store;
      are_joined = subst (λ (i : ImageContents). AreJoined (guest_of i) c.args.held.items gone.store) image
          (subst (λ (ss : List StoreView). AreJoined (guest_of stood.image) ss gone.store) held c.in_ok-live.ensures.joined);
      position = gone.position;
      legs = gone.legs;
      all_planned = record { is_position = c.in_ok-live.ensures.reached; planned = c.in_ok-live.ensures.planned };
      begins_there = c.in_ok-live.ensures.here.1;
      steps_on = λ on. c.last_steps.ensures ∙ c.in_ok-live.ensures.steps_on on;
      steps_anew = λ anew. c.last_steps.ensures ∙ c.in_ok-live.ensures.steps_anew anew;
    }

pub stores_of-requires : goal.stores_of-requires
stores_of-requires c =
    let all = ap length c.in-Some.ensures.held in
    let others = ap length c.deref.ensures.value in
    omega (arith, all, others, c.requires, c.args.orders.now.quorum.sized.2)

pub returns-in_err-keep_up-clause-refused : goal.returns-in_err-keep_up-clause-refused
returns-in_err-keep_up-clause-refused c =
    let p = err_from_is_err_and c.from_residual.result c.from_residual.ensures.1 in
    let why = c.in_err-keep_up.field-0.0 in
    let backup = c.in-Some.backup in
    rw (p.1, p.2)
    (subst (λ (i : ImageContents). IsRefused i c.args.held.items (live_fault_of why)) c.in-Some.ensures.image
    (subst (λ (ss : List StoreView). IsRefused backup.image ss (live_fault_of why)) (sym c.in-Some.ensures.held)
    (refused_keep backup.image backup.store c.in-Some.others.items why c.in_err-keep_up.ensures.fault)))

pub returns-in_err-stores-clause-refused : goal.returns-in_err-stores-clause-refused
returns-in_err-stores-clause-refused c =
    let p = err_from_is_err_and c.from_residual-in_err-stores.result c.from_residual-in_err-stores.ensures.1 in
    rw (p.1, p.2) (refused_memory c.args.image.now c.args.held.items)

pub returns-in_err-live-clause-refused : goal.returns-in_err-live-clause-refused
returns-in_err-live-clause-refused c =
    let p = err_from_is_err_and c.from_residual-in_err-live.result c.from_residual-in_err-live.ensures.1 in
    let said = c.in_err-live.ensures in
    let fault = c.in_err-live.field-0.0 in
    let backup = c.keep_up.new.backup in
    let image : backup.image ≡ c.args.image.now = c.keep_up.ensures.image ∙ c.in-Some.ensures.image in
    let held : backup.store ∷ map (λ s. s.1.now) c.as_slice.result.now ≡ c.args.held.items =
    ap (λ (s : StoreView). s ∷ map (λ s. s.1.now) c.as_slice.result.now) c.keep_up.ensures.store
    ∙ ap (λ (ss : List StoreView). c.in-Some.backup.store ∷ ss)
    (ap (λ xs. map (λ s. s.1.now) xs) c.as_slice.ensures.value ∙ c.in_ok-stores.ensures.stores ∙ c.deref.ensures.value) ∙ sym c.in-Some.ensures.held in
    let numbers = map (λ s. s.0) c.as_slice.result.now in
    let n = length c.deref.result.now in
    let are : numbers ≡ range_with_len 1 n = ap (λ xs. map (λ s. s.0) xs) c.as_slice.ensures.value ∙ c.in_ok-stores.ensures.numbers in
    let all = ap length c.in-Some.ensures.held in
    let others = ap length c.deref.ensures.value in
    let quorum = c.quorum.result in
    let many : n + 1 ≡ quorum.keepers = omega (arith, all, others, c.requires, ap (λ (q : Quorum). q.keepers) c.quorum.ensures) in
    rw (p.1, p.2)
    (subst (λ (i : ImageContents). IsRefused i c.args.held.items fault) image
    (subst (λ (ss : List StoreView). IsRefused backup.image ss fault) held
    (refused_all backup.image (backup.store ∷ map (λ s. s.1.now) c.as_slice.result.now) numbers n quorum.keepers quorum.need fault are many
    quorum.sized.2 quorum.sized.0
    (λ e. subst (λ (k : ℕ). distinct_below quorum.keepers (k ∷ numbers) < quorum.keepers - quorum.need + 1) c.new.ensures (said.too_few.0 (ap (λ (f : LiveFault). Err f) e)))
    (λ e. (said.not_new.0 (ap (λ (f : LiveFault). Err f) e)).1)
    (λ e. (said.other_guest.0 (ap (λ (f : LiveFault). Err f) e)).2)
    said.replay)))
