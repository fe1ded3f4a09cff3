use Rattle.std.proofs.Common.{◌≡◌, ◌<◌, ℕ, ◌+◌, List, [], ◌∷◌, ◌++◌, Result, IfOk, length, length-append, ap, sym, subst, append_assoc, ◌∙◌}
use Rattle.std.specs.List.{Contains}
use Rattle.std.specs.Vec.Iter.{into_iter_items}
use Rattle.ft_types.specs.declared.errors.Memory.{Memory}
use Rattle.log_join.specs.Stores.{StoreView}
use Rattle.ack_core.specs.declared.seats.GateSeat.{GateSeat}
use Rattle.ack_core.specs.declared.seats.KeeperSeat.{KeeperSeat}
use Rattle.ack_core.specs.Lists.{StartsWith}
use Rattle.ack_core.specs.Seats.{harts_of, heard, keeper_of, published, term_of}
use Rattle.pair.specs.Serving.{AreHad, AreServed, Had, IsServed}
use Rattle.pair.proofs.Places.{at_place, more_at}
use Rattle.pair.proofs.Served.{heard_had}
use Rattle.pair.proofs.settling.stores_of.Goals as goal

pub loop-one-preserved : goal.loop-one-preserved
loop-one-preserved c =
    let board = c.args.board.now in
    let gate = c.args.gate in
    let at = c.loop-one in
    let one = c.in-Some.one in
    let rest = into_iter_items c.next.new.self in
    let steps : into_iter_items at.one-iterator ≡ one ∷ rest = c.in-Some.ensures.steps.0 in
    let parts : c.args.served.items ≡ at.yielded ++ one ∷ rest =
    sym (ap (λ (xs : List (Result (KeeperSeat × StoreView) Memory)). at.yielded ++ xs) (sym steps) ∙ at.invariant.rest ∙ c.into_iter-one-iterator.ensures.into_iter_gives.0) in
    let n = length at.yielded in
    let s : KeeperSeat × StoreView = (c.in_ok-seat.seat, c.in_ok-seat.store) in
    let own : IfOk one (IsServed board n) = at_place (λ k r. IfOk r (IsServed board k)) at.yielded one rest
    (subst (λ (xs : List (Result (KeeperSeat × StoreView) Memory)). AreServed board xs) parts c.requires.served).1 in
    let is : IsServed board n s = subst (λ (r : Result (KeeperSeat × StoreView) Memory). IfOk r (IsServed board n)) c.in_ok-seat.was own in
    let begins : (hart : ℕ) → hart < harts_of board → StartsWith (published s.0 hart) (heard gate (keeper_of s.0) hart) =
    subst (λ (g : GateSeat). (hart : ℕ) → hart < harts_of board → StartsWith (published s.0 hart) (heard g (keeper_of s.0) hart)) at.invariant.gate
    c.beside-last.ensures.published in
    let holds : ℕ → StoreView → Type 0 =
    λ k store. (hart count : ℕ) → hart < harts_of board → Contains (heard gate k hart) count → Had store (term_of board) hart count in
    let items : c.push.new.self.items ≡ at.stores.items ++ s.1 ∷ [] = c.in_ok-push.ensures.items in
    record {
      gate = c.beside-last.ensures.same_gate ∙ at.invariant.gate;
      count = ap length items ∙ length-append at.stores.items (s.1 ∷ []) ∙ ap (λ (k : ℕ). k + 1) at.invariant.count ∙ sym (length-append at.yielded (one ∷ []));
      had = subst (λ (xs : List StoreView). AreHad board gate xs) (sym items)
          (more_at holds at.stores.items s.1 at.invariant.had
          (subst (λ (k : ℕ). holds k s.1) (sym at.invariant.count) (heard_had board gate n s is begins)));
      rest = append_assoc at.yielded (one ∷ []) _ ∙ rw (← steps) at.invariant.rest;
    }
