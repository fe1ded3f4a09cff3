-- What the gate's seat has heard of, when outputs go out and later.
use Rattle.std.proofs.Common.{◌≡◌, ◌<◌, ◌≤◌, ⊎_elim, ℕ, zero, suc, ◌+◌, Bool, true, false, cond, nat_lt, List, [], ◌∷◌, ◌++◌, map, get_or}
use Rattle.std.proofs.Common.{refl, sym, subst, arith}
use Rattle.std.specs.List.{AllByRecursion, fold}
use Rattle.std.proofs.lemmas.Bool.{cases_lt, ltb-true}
use Rattle.ft_types.specs.Counts.{count_at}
use Rattle.ack_core.specs.declared.board.Board.{Board}
use Rattle.ack_core.specs.declared.seats.GateSeat.{GateSeat}
use Rattle.ack_core.specs.Seats.{harts_of, heard}
use Rattle.ft_types.specs.declared.output.Output.{Output}
use Rattle.output_gate.specs.Gates.{GateView, noted_at}
use Rattle.output_gate.specs.Looks.{IsSeen, IsInside}
use Rattle.output_gate.proofs.Alls.{all_so, all_join}
use Rattle.pair.specs.Exits.{AreLonger}
use Rattle.pair.specs.Serving.{IsHeard}
use Rattle.pair.proofs.Served.{in_longer}

-- of each whether it passes: as many as pass
count_passed : {X : Type 0} (p : X → Bool) (n : ℕ) (xs : List X) →
    fold (λ a b. a + cond b 1 0) n (map p xs) ≡ fold (λ a x. a + cond (p x) 1 0) n xs
count_passed p n [] = refl
count_passed p n (x ∷ xs) = count_passed p (n + cond (p x) 1 0) xs

passes_at : {X : Type 0} (p : X → Bool) (xs : List X) (k : ℕ) (other : X) → get_or (map p xs) k false ≡ true → p (get_or xs k other) ≡ true
passes_at p [] k other is = absurd (cc)
passes_at p (x ∷ xs) zero other is = is
passes_at p (x ∷ xs) (suc k) other is = passes_at p xs k other is

-- what goes out at a look was heard of
is_heard : (board : Board) (gate : GateView) (seat : GateSeat) → IsSeen board gate seat → (o : Output) → IsInside board gate seat o →
    IsHeard board seat gate.need o
is_heard board gate seat sees o is =
    let passes : List ℕ → Bool = λ row. nat_lt o.step (count_at row o.hart) in record {
      by = map passes gate.noted;
      enough = subst (λ (n : ℕ). gate.need ≤ n) (sym (count_passed passes 0 gate.noted)) is.enough;
      beyond = λ k chosen.
          let above : o.step < noted_at gate k o.hart = ltb-true o.step (noted_at gate k o.hart) (passes_at passes gate.noted k [] chosen) in
          let beyond = is.inside k above in
          let within : o.hart < harts_of board = ⊎_elim (λ (lt : o.hart < harts_of board). lt)
          (λ (over : harts_of board ≤ o.hart). let none : noted_at gate k o.hart ≡ 0 = sees.no_hart k o.hart over in absurd (omega (arith, none, above)))
          (cases_lt o.hart (harts_of board)) in record {
            of_board = (beyond.of_board, within);
            count = beyond.count;
            told = beyond.published;
            beyond = beyond.beyond;
          };
    }

-- and is later
still_heard : (board : Board) (seat later : GateSeat) → AreLonger board seat later → (need : ℕ) (o : Output) → IsHeard board seat need o →
    IsHeard board later need o
still_heard board seat later longer need o is = record {
  by = is.by;
  enough = is.enough;
  beyond = λ k chosen.
      let beyond = is.beyond k chosen in record {
        of_board = beyond.of_board;
        count = beyond.count;
        told = in_longer (heard later k o.hart) (heard seat k o.hart) beyond.count (longer k o.hart beyond.of_board.0 beyond.of_board.1) beyond.told;
        beyond = beyond.beyond;
      };
}

-- a look: what had gone out, and what goes out then
pub heard_all : (board : Board) (gate : GateView) (seat later : GateSeat) (need : ℕ) (before given after : List Output) → IsSeen board gate later →
    gate.need ≡ need → AreLonger board seat later → AllByRecursion (IsHeard board seat need) before → AllByRecursion (IsInside board gate later) given →
    after ≡ before ++ given → AllByRecursion (IsHeard board later need) after
heard_all board gate seat later need before given after sees same longer had now is =
    subst (AllByRecursion (IsHeard board later need)) (sym is)
    (all_join (IsHeard board later need) before given (all_so (IsHeard board seat need) (IsHeard board later need) (still_heard board seat later longer need) before had)
    (subst (λ (n : ℕ). AllByRecursion (IsHeard board later n) given) same
    (all_so (IsInside board gate later) (IsHeard board later gate.need) (is_heard board gate later sees) given now)))
