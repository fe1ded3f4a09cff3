-- What went out is held.
use Rattle.std.proofs.Common.{◌≡◌, ◌<◌, ℕ, Bool, true, false, ◌||◌, List, [], ◌∷◌, filter, length, refl, subst, arith, Result, Ok, Err, IfOk}
use Rattle.std.specs.List.{AllByRecursion}
use Rattle.log_join.specs.Stores.{StoreView}
use Rattle.ack_core.specs.declared.board.Board.{Board}
use Rattle.ack_core.specs.declared.seats.GateSeat.{GateSeat}
use Rattle.ack_core.specs.Seats.{keepers_of, term_of}
use Rattle.ft_types.specs.declared.output.Output.{Output}
use Rattle.output_gate.proofs.Alls.{all_so, kept_pass}
use Rattle.pair.specs.Released.{is_same, is_among}
use Rattle.pair.specs.Serving.{Had, AreHad, IsHeard, IsHeldOnTheWay}
use Rattle.pair.proofs.Places.{stands_at}

same_output : (x y : Output) → is_same x y ≡ true → x ≡ y
same_output x y is = grind arith

one_or_more : (P : Output → Type 0) (x o : Output) (b c : Bool) → is_same x o ≡ b → P x → (c ≡ true → P o) → (b || c) ≡ true → P o
one_or_more P x o true c same own others is = subst P (same_output x o same) own
one_or_more P x o false c same own others is = others is

-- what holds of each holds of each that is among them
all_among : (P : Output → Type 0) (given : List Output) → AllByRecursion P given → (o : Output) → is_among given o ≡ true → P o
all_among P [] all o is = absurd (cc)
all_among P (x ∷ xs) all o is = one_or_more P x o (is_same x o) (is_among xs o) refl all.0 (λ e. all_among P xs all.1 o e) is

held_one : (board : Board) (seat : GateSeat) (stores : List StoreView) (term need : ℕ) → AreHad board seat stores → length stores ≡ keepers_of board →
    term_of board ≡ term → (o : Output) → IsHeard board seat need o → IsHeldOnTheWay stores term need o
held_one board seat stores term need had count of_term o is = record {
  by = is.by;
  enough = is.enough;
  inside = λ k chosen.
      let beyond = is.beyond k chosen in
      let within : k < keepers_of board = beyond.of_board.0 in
      let below : k < length stores = omega (arith, within, count) in
      let there = stands_at stores k below in record {
        store = there.0;
        there = there.1;
        count = beyond.count;
        had = subst (λ (t : ℕ). Had there.0 t o.hart beyond.count) of_term (subst (λ (s : StoreView). Had s (term_of board) o.hart beyond.count) there.2
            (had k there.0 below o.hart beyond.count beyond.of_board.1 beyond.told));
        inside = beyond.beyond;
      };
}

-- the outputs among those that the gate gave
pub all_held : (board : Board) (seat : GateSeat) (stores : List StoreView) (term need : ℕ) (given outputs : List Output) →
    AllByRecursion (IsHeard board seat need) given → AreHad board seat stores → length stores ≡ keepers_of board → term_of board ≡ term →
    AllByRecursion (IsHeldOnTheWay stores term need) (filter (is_among given) outputs)
all_held board seat stores term need given outputs are had count of_term =
    all_so (λ o. is_among given o ≡ true) (IsHeldOnTheWay stores term need)
    (λ o is. held_one board seat stores term need had count of_term o (all_among (IsHeard board seat need) given are o is))
    (filter (is_among given) outputs) (kept_pass (is_among given) outputs)

-- what follows where a result is one
pub if_ok : {X E : Type 0} (r : Result X E) {A B C : X → Type 0} (Q : X → Type 0) → IfOk r A → IfOk r B → IfOk r C →
    ((x : X) → A x → B x → C x → Q x) → IfOk r Q
if_ok (Ok x) Q a b c follows = follows x a b c
if_ok (Err e) Q a b c follows = tt
