-- A machine that goes on has what it had put out.
use Rattle.std.proofs.Common.{◌≡◌, ℕ, zero, suc, ◌+◌, ◌≤◌, true, List, [], ◌∷◌, length, map, take, slice_get, Option, Some, None, refl, sym, ap, ◌∙◌, arith}
use Rattle.std.specs.List.{enumerate_from}
use Rattle.rv32_hart.specs.Hart.{Hart}
use Rattle.guest_image.specs.Machine.{MachineState}
use Rattle.hart_lease.specs.Runs.{LeadsTo}
use Rattle.book_modes.specs.Recordings.{RecordingView, heard_by}
use Rattle.page_book.specs.Books.{BookView}
use Rattle.ft_types.specs.declared.output.Output.{Output}
use Rattle.output_gate.specs.Gates.{GateView, offered_of}
use Rattle.primary.specs.Outputs.{numbered, said_by, said_at}
use Rattle.fenced_theory.specs.Recorders.{Output as TheoryOutput}
use Rattle.fenced_theory.specs.Machines.{ByRun}
use Rattle.book_recorder.specs.TermBooks.{ComesOf, outputs_of}
use Rattle.hart_replay.specs.Primaries.{IsPrimary}
use Rattle.failover_world.specs.Worlds.{WorldView}
use Rattle.primary.specs.Gating.{AreOffered}
use Rattle.failover_world.specs.machinery.Tied.{IsTied}
use Rattle.primary.proofs.Offers.{numbered_many}
use Rattle.failover_world.proofs.Ties.{new_book}
use Rattle.failover_world.proofs.Releasing.{in_theory, book_outputs}

-- the second list has what the first one has
abbrev Extends : List (ℕ × ℕ) → List (ℕ × ℕ) → Type 0
Extends xs ys = (n : ℕ) (o : ℕ × ℕ) → slice_get xs n ≡ Some o → slice_get ys n ≡ Some o

abbrev numbers : ℕ → ℕ → List (ℕ × ℕ) → List Output
numbers hart n said = map (λ o. record { hart = hart; number = o.0; step = o.1.0; word = o.1.1 }) (enumerate_from n said)

first_same : (hart n k : ℕ) (xs ys : List (ℕ × ℕ)) → k ≤ length xs → Extends xs ys → take k (numbers hart n xs) ≡ take k (numbers hart n ys)
first_same hart n zero xs ys le more = refl
first_same hart n (suc k) [] ys le more = absurd (omega (arith, le))
first_same hart n (suc k) (x ∷ xs) [] le more = let no : None ≡ Some x = more 0 x refl in cc
first_same hart n (suc k) (x ∷ xs) (y ∷ ys) le more =
    let head : y ≡ x = let e : Some y ≡ Some x = more 0 x refl in cc in
    ap (λ (z : ℕ × ℕ). let o : Output = record { hart = hart; number = n; step = z.0; word = z.1 } in o ∷ take k (numbers hart (n + 1) xs)) (sym head)
    ∙ ap (λ os. let o : Output = record { hart = hart; number = n; step = y.0; word = y.1 } in o ∷ os)
    (first_same hart (n + 1) k xs ys (omega (arith, le)) (λ m o at. more (suc m) o at))

take_short : {A : Type 0} (k : ℕ) (xs : List A) → length (take k xs) ≤ length xs
take_short zero xs = omega arith
take_short (suc k) [] = omega arith
take_short (suc k) (x ∷ xs) = let rest = take_short k xs in omega (arith, rest)

-- what was offered of a machine was offered of each that has what it has
pub offered_on : (g : GateView) (m n : MachineState) → AreOffered g m → ((hart : ℕ) → Extends (said_at m hart) (said_at n hart)) → AreOffered g n
offered_on g m n offered more hart =
    let short = take_short (length (offered_of g hart)) (numbered hart (said_at m hart)) in
    let same = ap length (offered hart) in
    let many = numbered_many hart (said_at m hart) in
    offered hart
    ∙ first_same hart 0 (length (offered_of g hart)) (said_at m hart) (said_at n hart) (omega (arith, short, same, many)) (more hart)

unmapped : {A B : Type 0} (f : A → B) (xs : List A) (n : ℕ) (y : B) → slice_get (map f xs) n ≡ Some y → (x : A) × (slice_get xs n ≡ Some x) × (f x ≡ y)
unmapped f [] n y is = absurd cc
unmapped f (x ∷ xs) zero y is = (x, refl, let e : f x ≡ y = cc in e)
unmapped f (x ∷ xs) (suc n) y is = unmapped f xs n y is

pub from_theory : (h : Option Hart) (n : ℕ) (o : ℕ × ℕ) → slice_get (outputs_of h) n ≡ Some (record { step = o.0; word = o.1 }) →
    slice_get (said_by h) n ≡ Some o
from_theory None n o is = absurd cc
from_theory (Some h) n o is =
    let (x, at, same) = unmapped (λ x. record { step = x.0; word = x.1 }) h.outputs n (record { step = o.0; word = o.1 }) is in
    let e : x ≡ o = (λ i. ((ap (λ (t : TheoryOutput). t.step) same) i, (ap (λ (t : TheoryOutput). t.word) same) i)) in
    at ∙ ap Some e

module _ (v : WorldView) (is : IsTied v) (c : BookView RecordingView) (runs : v.runs ≡ true) (on : ComesOf v.primary.book c) (primary : IsPrimary c)
    (before : LeadsTo (heard_by v.primary.book.mode) v.primary.book.start v.primary.book.journal v.primary.book.machine)
    (after : LeadsTo (heard_by c.mode) c.start c.journal c.machine) where
  pub more_said : (hart : ℕ) → Extends (said_at v.primary.book.machine hart) (said_at c.machine hart)
  more_said hart n o at =
      let b = is.are_theory.book v.primary.book is.is_book in
      let d = is.are_theory.book c (new_book v is c runs on primary) in
      let fact = ByRun b d (is.are_theory.on v.primary.book c is.is_book (new_book v is c runs on primary) on) in
      let was = in_theory v is before hart n o.0 o.1 at in
      let now = is.is_recorder.recorder.old_outputs b d fact (is.is_recorder.tells fact) hart n (record { step = o.0; word = o.1 }) was in
      from_theory (slice_get c.machine.harts hart) n o
      (ap (λ os. slice_get os n) (sym (book_outputs v.image is.are_theory is.is_recorder c (new_book v is c runs on primary) after hart)) ∙ now)
