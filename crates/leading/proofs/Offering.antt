-- What was offered of a machine was offered of one that it has become.
use Rattle.std.proofs.Common.{◌≡◌, ℕ, zero, suc, ◌+◌, ◌≤◌, List, [], ◌∷◌, ◌++◌, length, map, take, sym, refl, ap, ◌∙◌, arith}
use Rattle.std.specs.List.{enumerate_from}
use Rattle.ft_types.specs.declared.output.Output.{Output}
use Rattle.output_gate.specs.Gates.{GateView, offered_of}
use Rattle.guest_image.specs.Machine.{MachineState}
use Rattle.primary.specs.Outputs.{numbered, said_at}
use Rattle.primary.specs.Gating.{AreOffered, AreRising}
use Rattle.primary.proofs.Offers.{numbered_many}
use Rattle.leading.specs.Leaders.{AreTidy}
use Rattle.leading.proofs.Saying.{AreLater}

abbrev numbers : ℕ → ℕ → List (ℕ × ℕ) → List Output
numbers hart n said = map (λ o. record { hart = hart; number = o.0; step = o.1.0; word = o.1.1 }) (enumerate_from n said)

front : (hart n k : ℕ) (said more : List (ℕ × ℕ)) → k ≤ length said → take k (numbers hart n said) ≡ take k (numbers hart n (said ++ more))
front hart n zero said more le = refl
front hart n (suc k) [] more le = absurd (omega (arith, le))
front hart n (suc k) (o ∷ said) more le =
    ap (λ os. let x : Output = record { hart = hart; number = n; step = o.0; word = o.1 } in x ∷ os) (front hart (n + 1) k said more (omega (arith, le)))

take_short : {A : Type 0} (k : ℕ) (xs : List A) → length (take k xs) ≤ length xs
take_short zero xs = omega arith
take_short (suc k) [] = omega arith
take_short (suc k) (x ∷ xs) = let rest = take_short k xs in omega (arith, rest)

pub offered_later : (g : GateView) (m n : MachineState) → AreLater m n → AreOffered g m → AreOffered g n
offered_later g m n later offered hart =
    let short = take_short (length (offered_of g hart)) (numbered hart (said_at m hart)) in
    let same = ap length (offered hart) in
    let many = numbered_many hart (said_at m hart) in
    let more = (later hart).more in
    offered hart
    ∙ front hart 0 (length (offered_of g hart)) (said_at m hart) more.0 (omega (arith, short, same, many))
    ∙ ap (λ said. take (length (offered_of g hart)) (numbered hart said)) (sym more.1)

pub rising : (m : MachineState) → AreTidy m → AreRising m
rising m tidy hart = (tidy hart).rising
