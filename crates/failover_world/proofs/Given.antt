-- What goes out at a gate to which all outputs of a machine were offered: whatever of a hart has a lower number is out, or below the mark.
use Rattle.std.proofs.Common.{◌≡◌, ◌⊎◌, inl, inr, ℕ, zero, suc, ◌+◌, ◌<◌, ◌≤◌, true, false, List, [], ◌∷◌, ◌++◌, length, map, filter, take, slice_get, slice_index_or, Contains, Some, refl, sym, ap, subst, ◌∙◌, arith}
use Rattle.std.specs.List.{AllByRecursion, enumerate_from}
use Rattle.std.proofs.lemmas.List.Elements.{All-contains, All-from_recursion, Contains-append_left, Contains-append_right, Contains-append_cases}
use Rattle.interleaving.specs.Lists.{Each, EachPair}
use Rattle.interleaving.proofs.Cuts.{here_or_later}
use Rattle.ft_types.specs.declared.names.TheConstants.{HART_LIMIT, HART_ROW}
use Rattle.ft_types.specs.declared.output.Output.{Output}
use Rattle.guest_image.specs.Machine.{MachineState}
use Rattle.output_gate.specs.Gates.{LineView, GateView, fresh_line, line_of, mark_at, passed_of, gone_of, waiting_of, offered_of, is_held, held_outputs, after_release}
use Rattle.output_gate.specs.Orders.{AreAbove, ArePassedBelow}
use Rattle.term_gate.specs.TermGates.{TermGateView}
use Rattle.fenced_theory.proofs.Stores.{see_bool}
use Rattle.primary.specs.Outputs.{numbered, said_at}
use Rattle.primary.specs.Gating.{AreRising, AreOffered, AreAllOffered, OffersMore}
use Rattle.primary.specs.Noting.{last_of}
use Rattle.primary.proofs.Offers.{numbered_at}
use Rattle.primary.proofs.Said.{IsSaid, waiting_said}
use Rattle.primary.proofs.Last.{last_is}
use Rattle.primary.proofs.Waiting.{held_back}
use Rattle.failover_world.proofs.Keeping.{contained}
use Rattle.failover_world.proofs.Noting.{in_filter, to_filter}

-- ---- what is so of each

each_at : {A : Type 0} (P : A → Type 0) (xs : List A) (x : A) → Each P xs → Contains xs x → P x
each_at P [] x all (k, below, same) = absurd (omega (arith, below))
each_at P (y ∷ xs) x (first, rest) has =
    elim (here_or_later y xs x has) [ inl same ↦ subst P same first | inr later ↦ each_at P xs x rest later ]

pub each_of : {A : Type 0} (P Q : A → Type 0) (xs : List A) → ((x : A) → P x → Q x) → AllByRecursion P xs → Each Q xs
each_of P Q [] f all = tt
each_of P Q (x ∷ xs) f (first, rest) = (f x first, each_of P Q xs f rest)

-- ---- the outputs of a hart, by number

abbrev output : ℕ → ℕ → ℕ × ℕ → Output
output hart number a = record { hart = hart; number = number; step = a.0; word = a.1 }

abbrev numbers : ℕ → ℕ → List (ℕ × ℕ) → List Output
numbers hart n said = map (λ o. record { hart = hart; number = o.0; step = o.1.0; word = o.1.1 }) (enumerate_from n said)

its_own : (hart n : ℕ) (said : List (ℕ × ℕ)) → Each (λ o. o.hart ≡ hart) (numbers hart n said)
its_own hart n [] = tt
its_own hart n (a ∷ said) = (refl, its_own hart (n + 1) said)

lower : {A : Type 0} (xs : List A) (k n : ℕ) (x : A) → slice_get xs n ≡ Some x → k ≤ n → (y : A) × (slice_get xs k ≡ Some y)
lower [] k n x is le = absurd cc
lower (y ∷ xs) zero n x is le = (y, refl)
lower (y ∷ xs) (suc k) zero x is le = absurd (omega (arith, le))
lower (y ∷ xs) (suc k) (suc n) x is le = lower xs k n x is (omega (arith, le))

-- no later one has an earlier step
rises : (said : List (ℕ × ℕ)) (k n : ℕ) (a b : ℕ × ℕ) → EachPair (λ x y. x.0 < y.0) said → slice_get said k ≡ Some a → slice_get said n ≡ Some b → k ≤ n →
    a.0 ≤ b.0
rises [] k n a b all first second le = absurd cc
rises (x ∷ said) zero zero a b all first second le =
    let one : x ≡ a = cc in
    let two : x ≡ b = cc in
    let same : a.0 ≡ b.0 = ap (λ (y : ℕ × ℕ). y.0) (sym one ∙ two) in omega (arith, same)
rises (x ∷ said) zero (suc n) a b (later, rest) first second le =
    let one : x ≡ a = cc in
    let same : x.0 ≡ a.0 = ap (λ (y : ℕ × ℕ). y.0) one in
    let less : x.0 < b.0 = each_at (λ (y : ℕ × ℕ). x.0 < y.0) said b later (contained said n b second) in omega (arith, same, less)
rises (x ∷ said) (suc k) zero a b all first second le = absurd (omega (arith, le))
rises (x ∷ said) (suc k) (suc n) a b (later, rest) first second le = rises said k n a b rest first second (omega (arith, le))

-- ---- what is held, line by line

from_line : (need : ℕ) (noted : List (List ℕ)) (lines : List LineView) (o : Output) → Contains (held_outputs need noted lines) o →
    (hart : ℕ) × (hart < length lines) × Contains (filter (is_held need noted) (slice_index_or lines hart (fresh_line 0)).waiting) o
from_line need noted [] o (k, below, same) = absurd (omega (arith, below))
from_line need noted (line ∷ lines) o has =
    elim (Contains-append_cases (filter (is_held need noted) line.waiting) (held_outputs need noted lines) o has) [
      | inl here ↦ (0, omega arith, here)
      | inr later ↦ let (hart, less, there) = from_line need noted lines o later in (suc hart, omega (arith, less), there)
    ]

into_lines : (need : ℕ) (noted : List (List ℕ)) (lines : List LineView) (hart : ℕ) (o : Output) →
    Contains (filter (is_held need noted) (slice_index_or lines hart (fresh_line 0)).waiting) o → Contains (held_outputs need noted lines) o
into_lines need noted [] hart o (k, below, same) = absurd (omega (arith, below))
into_lines need noted (line ∷ lines) zero o has =
    Contains-append_left (filter (is_held need noted) line.waiting) (held_outputs need noted lines) o has
into_lines need noted (line ∷ lines) (suc hart) o has =
    Contains-append_right (filter (is_held need noted) line.waiting) (held_outputs need noted lines) o (into_lines need noted lines hart o has)

module _ (need : ℕ) (noted : List (List ℕ)) (g h : GateView) (m : MachineState)
    (lines : (hart : ℕ) → line_of h hart ≡ after_release need noted (line_of g hart)) where
  abbrev given : List Output
  given = held_outputs need noted g.lines

  gone_now : (hart : ℕ) → gone_of h hart ≡ gone_of g hart ++ filter (is_held need noted) (waiting_of g hart)
  gone_now hart = ap (λ (l : LineView). l.gone) (lines hart)

  pub marks_stay : (hart : ℕ) → mark_at h hart ≡ mark_at g hart
  marks_stay hart = ap (λ (l : LineView). l.mark) (lines hart)

  -- what was offered of a hart is its own
  offered_own : AreOffered g m → (hart : ℕ) → Each (λ o. o.hart ≡ hart) (offered_of g hart)
  offered_own offered hart =
      subst (Each (λ (o : Output). o.hart ≡ hart)) (sym (offered hart))
      (first_ones (λ (o : Output). o.hart ≡ hart) (length (offered_of g hart)) (numbered hart (said_at m hart)) (its_own hart 0 (said_at m hart)))
    where
      first_ones : (P : Output → Type 0) (n : ℕ) (xs : List Output) → Each P xs → Each P (take n xs)
      first_ones P zero xs all = tt
      first_ones P (suc n) [] all = tt
      first_ones P (suc n) (x ∷ xs) (first, rest) = (first, first_ones P n xs rest)

  waits : (hart : ℕ) (o : Output) → Contains (waiting_of g hart) o → Contains (offered_of g hart) o
  waits hart o has =
      Contains-append_right (passed_of g hart) (gone_of g hart ++ waiting_of g hart) o (Contains-append_right (gone_of g hart) (waiting_of g hart) o has)

  -- what is gone was so before, or goes now
  pub goes_now : AreOffered g m → (hart : ℕ) (o : Output) → Contains (gone_of h hart) o → Contains (gone_of g hart) o ⊎ (Contains given o × (o.hart ≡ hart))
  goes_now offered hart o has =
      elim (Contains-append_cases (gone_of g hart) (filter (is_held need noted) (waiting_of g hart)) o
      (subst (λ (os : List Output). Contains os o) (gone_now hart) has)) [
        | inl was ↦ inl was
        | inr new ↦
            inr (
              into_lines need noted g.lines hart o new,
              each_at (λ (x : Output). x.hart ≡ hart) (offered_of g hart) o (offered_own offered hart)
                  (waits hart o (in_filter (is_held need noted) (waiting_of g hart) o new).0),
            )
      ]

  -- it goes at its hart's line
  at_line : AreOffered g m → (o : Output) → Contains given o → (o.hart < length g.lines) × Contains (waiting_of g o.hart) o × (is_held need noted o ≡ true)
  at_line offered o has =
      let (other, few, there) = from_line need noted g.lines o has in
      let (waiting, held) = in_filter (is_held need noted) (waiting_of g other) o there in
      let its : o.hart ≡ other = each_at (λ (x : Output). x.hart ≡ other) (offered_of g other) o (offered_own offered other) (waits other o waiting) in (
        omega (arith, few, its),
        subst (λ n. Contains (waiting_of g n) o) (sym its) waiting,
        held,
      )

  pub of_a_hart : AreOffered g m → length g.lines ≡ HART_ROW → (hart last : ℕ) → last_of hart given ≡ Some last → hart < HART_LIMIT
  of_a_hart offered many hart last some =
      let (o, has, own, number) = last_is hart given last some in let (few, waiting, held) = at_line offered o has in omega (arith, few, many, own)

  -- whatever of a hart has no greater number than its last that goes is out, or below the mark
  pub all_out : AreRising m → AreOffered g m → AreAllOffered g m → ArePassedBelow g → length g.lines ≡ HART_ROW →
      (hart last : ℕ) → last_of hart given ≡ Some last → (k : ℕ) → k < last + 1 →
      (k < mark_at g hart) ⊎ ((p : Output) × Contains (gone_of h hart) p × (p.number ≡ k))
  all_out rising offered all passed many hart last some k less =
      let (o, has, own, number) = last_is hart given last some in
      let (few, waiting, held) = at_line offered o has in
      let said : slice_get (said_at m o.hart) o.number ≡ Some (o.step, o.word) =
      each_at (IsSaid m) (waiting_of g o.hart) o (waiting_said g m offered o.hart) waiting in
      let said_last : slice_get (said_at m hart) last ≡ Some (o.step, o.word) =
      subst (λ n. slice_get (said_at m hart) n ≡ Some (o.step, o.word)) number (subst (λ n. slice_get (said_at m n) o.number ≡ Some (o.step, o.word)) own said) in
      let (a, at) = lower (said_at m hart) k last (o.step, o.word) said_last (omega (arith, less)) in
      let p : Output = output hart k a in
      let no_later : a.0 ≤ o.step = rises (said_at m hart) k last a (o.step, o.word) (rising hart) at said_last (omega (arith, less)) in
      let is_offered : Contains (offered_of g hart) p =
      subst (λ (os : List Output). Contains os p) (sym (all hart))
      (contained (numbered hart (said_at m hart)) k p (numbered_at hart k (said_at m hart) a at)) in
      let small : hart < HART_LIMIT = omega (arith, few, many, own) in
      elim (Contains-append_cases (passed_of g hart) (gone_of g hart ++ waiting_of g hart) p is_offered) [
        | inl over ↦
            inl (All-contains (λ (x : Output). x.number < mark_at g hart) (passed_of g hart) p
            (All-from_recursion (λ (x : Output). x.number < mark_at g hart) (passed_of g hart) (passed hart small)) over)
        | inr rest ↦
            inr (
              p,
              subst (λ (os : List Output). Contains os p) (sym (gone_now hart))
                  (elim (Contains-append_cases (gone_of g hart) (waiting_of g hart) p rest) [
                    | inl gone ↦ Contains-append_left (gone_of g hart) (filter (is_held need noted) (waiting_of g hart)) p gone
                    | inr still ↦
                        Contains-append_right (gone_of g hart) (filter (is_held need noted) (waiting_of g hart)) p
                        (to_filter (is_held need noted) (waiting_of g hart) p still
                        (too p o (own, no_later) held))
                  ]),
              refl,
            )
      ]
    where
      -- what comes before one that is held is held
      too : (p o : Output) → (o.hart ≡ p.hart) × (p.step ≤ o.step) → is_held need noted o ≡ true → is_held need noted p ≡ true
      too p o follows held =
          elim (see_bool (is_held need noted p)) [
            | inl is ↦ is
            | inr none ↦ let no_way : true ≡ false = sym held ∙ held_back need noted p o follows none in cc
          ]

-- none of a hart's that goes is below the mark that it had before more was offered
pub above_before : (g h : TermGateView) (os : List Output) → OffersMore g h → AreAbove h.gate os → Each (λ o. mark_at g.gate o.hart ≤ o.number) os
above_before g h os more above =
    each_of (λ (o : Output). mark_at h.gate o.hart ≤ o.number) (λ (o : Output). mark_at g.gate o.hart ≤ o.number) os
    (λ o is. subst (λ n. n ≤ o.number) ((more.lines o.hart).mark) is) above
