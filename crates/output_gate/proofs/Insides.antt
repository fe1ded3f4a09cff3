-- Outputs that are held lie inside positions that were published.
use Rattle.std.proofs.Common.{◌≡◌, ⊎_elim, ℕ, ◌<◌, true, List, [], ◌∷◌, refl, sym, subst, arith}
use Rattle.std.specs.List.{AllByRecursion, Contains}
use Rattle.std.proofs.lemmas.Bool.{leb-true}
use mathlib.Core.Logic.{dite}
use native.Mathlib.Decide.{dec_lt}
use Rattle.ack_core.specs.declared.board.Board.{Board}
use Rattle.ack_core.specs.declared.seats.GateSeat.{GateSeat}
use Rattle.ack_core.specs.Seats.{keepers_of, harts_of, heard, seen}
use Rattle.ack_core.proofs.Counts.{last_is_in}
use Rattle.ft_types.specs.declared.output.Output.{Output}
use Rattle.output_gate.specs.Gates.{LineView, GateView, noted_at, holder_count, is_held, held_outputs}
use Rattle.output_gate.specs.Looks.{IsSeen, PublishedBeyond, IsInside}
use Rattle.output_gate.proofs.Alls.{all_so, all_join, kept_pass}

-- what is given is held
pub all_held : (need : ℕ) (noted : List (List ℕ)) (lines : List LineView) → AllByRecursion (λ o. is_held need noted o ≡ true) (held_outputs need noted lines)
all_held need noted [] = tt
all_held need noted (line ∷ lines) = all_join (λ o. is_held need noted o ≡ true) _ _ (kept_pass (is_held need noted) line.waiting) (all_held need noted lines)

beyond : (board : Board) (seat : GateSeat) (keeper hart step : ℕ) → keeper < keepers_of board → step < seen seat keeper hart →
    PublishedBeyond board seat keeper hart step
beyond board seat keeper hart step within above = ⊎_elim
    (λ (none : seen seat keeper hart ≡ 0). absurd (omega arith))
    (λ (there : Contains (heard seat keeper hart) (seen seat keeper hart)). record {
      of_board = within;
      count = seen seat keeper hart;
      published = there;
      beyond = above;
    })
    (last_is_in (seen seat keeper hart) (heard seat keeper hart) refl)

-- where the notes are what the seat has seen, an output that is held is inside
is_inside : (board : Board) (gate : GateView) (seat : GateSeat) → IsSeen board gate seat → (o : Output) → is_held gate.need gate.noted o ≡ true →
    IsInside board gate seat o
is_inside board gate seat sees o held =
    let of_board : (keeper : ℕ) → o.step < noted_at gate keeper o.hart → keeper < keepers_of board
    = λ keeper above. dite (dec_lt keeper (keepers_of board)) (λ lt. lt) (λ (ge : keeper < keepers_of board → ⊥). let none = sees.no_keeper keeper o.hart
    (omega arith) in absurd (omega arith)) in
    let of_hart : (keeper : ℕ) → o.step < noted_at gate keeper o.hart → o.hart < harts_of board
    = λ keeper above. dite (dec_lt o.hart (harts_of board)) (λ lt. lt) (λ (ge : o.hart < harts_of board → ⊥). let none = sees.no_hart keeper o.hart
    (omega arith) in absurd (omega arith)) in record {
      enough = leb-true gate.need (holder_count gate.noted o.hart o.step) held;
      inside = λ keeper above. beyond board seat keeper o.hart o.step (of_board keeper above) (let le = sees.below keeper o.hart (of_board keeper above)
          (of_hart keeper above) in omega arith);
    }

all_inside : (board : Board) (gate : GateView) (seat : GateSeat) (lines : List LineView) (given : List Output) → IsSeen board gate seat →
    given ≡ held_outputs gate.need gate.noted lines → AllByRecursion (IsInside board gate seat) given
all_inside board gate seat lines given sees is = subst (AllByRecursion (IsInside board gate seat)) (sym is)
    (all_so (λ o. is_held gate.need gate.noted o ≡ true) (IsInside board gate seat) (is_inside board gate seat sees) (held_outputs gate.need gate.noted lines)
    (all_held gate.need gate.noted lines))

-- the same, once the lines of the gate changed
pub inside_after : (board : Board) (old new : GateView) (lines : List LineView) (seat : GateSeat) (given : List Output) → IsSeen board old seat →
    new ≡ record old { lines = lines } → given ≡ held_outputs old.need old.noted old.lines → AllByRecursion (IsInside board new seat) given
inside_after board old new lines seat given sees same is = subst (λ (v : GateView). AllByRecursion (IsInside board v seat) given) (sym same)
    (all_inside board (record old { lines = lines }) seat old.lines given record { below = sees.below; no_keeper = sees.no_keeper; no_hart = sees.no_hart } is)
