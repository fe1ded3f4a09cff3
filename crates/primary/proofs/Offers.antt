-- Outputs that are offered one after the other.
use Rattle.std.proofs.Common.{◌≡◌, ◌≢◌, inl, inr, ℕ, zero, suc, ◌+◌, ◌<◌, ◌≤◌, List, [], ◌∷◌, ◌++◌, append_assoc, append-nil, length, length-append, map, take, slice_get, Some, None, refl, sym, ap, subst, ◌∙◌, arith}
use Rattle.std.specs.List.{enumerate_from}
use Rattle.interleaving.proofs.Put.{same_or_not}
use Rattle.ft_types.specs.declared.output.Output.{Output}
use Rattle.output_gate.specs.Gates.{LineView, offered_in, with_offer, line_of, offered_of}
use Rattle.term_gate.specs.TermGates.{TermGateView}
use Rattle.primary.specs.Outputs.{numbered, said_by, said_at}
use Rattle.guest_image.specs.Machine.{MachineState}
use Rattle.std.proofs.lemmas.Bool.{cases_lt, lt-ltb, le-ltb}
use Rattle.primary.specs.Gating.{HasMore, OffersMore, AreOffered, AreAllOffered}
use Rattle.primary.proofs.Rows.{take_all, take_next}

-- the first outputs of the hart were offered, up to this number, and nothing else was done
pub record AtNumber (g h : TermGateView) (hart : ℕ) (outputs : List (ℕ × ℕ)) (number : ℕ) : Type 0 where
  pub more : OffersMore g h
  pub many : length (offered_of h.gate hart) ≡ number
  pub offered : offered_of h.gate hart ≡ take number (numbered hart outputs)
  pub others : (other : ℕ) → other ≢ hart → line_of h.gate other ≡ line_of g.gate other

none_more : (line : LineView) → HasMore line line
none_more line = record { mark = refl; gone = refl; passed = ([], sym (append-nil line.passed)); waiting = ([], sym (append-nil line.waiting)) }

-- one output more
one_more : (line : LineView) (o : Output) → HasMore line (with_offer line o)
one_more line o = elim (cases_lt o.number line.mark) [
  | inl below ↦
      rw (lt-ltb o.number line.mark below)
      (record { mark = refl; gone = refl; passed = (o ∷ [], refl); waiting = ([], sym (append-nil line.waiting)) })
  | inr above ↦
      rw (le-ltb o.number line.mark above)
      (record { mark = refl; gone = refl; passed = ([], sym (append-nil line.passed)); waiting = (o ∷ [], refl) })
]

longer : (a b c : List Output) → (more : List Output) × (b ≡ a ++ more) → (more : List Output) × (c ≡ b ++ more) → (more : List Output) × (c ≡ a ++ more)
longer a b c (first, p) (second, q) = (first ++ second, q ∙ ap (λ (xs : List Output). xs ++ second) p ∙ append_assoc a first second)

more_on : (a b c : LineView) → HasMore a b → HasMore b c → HasMore a c
more_on a b c p q =
    record {
      mark = q.mark ∙ p.mark;
      gone = q.gone ∙ p.gone;
      passed = longer a.passed b.passed c.passed p.passed q.passed;
      waiting = longer a.waiting b.waiting c.waiting p.waiting q.waiting;
    }

-- a line that is as it was
more_same : (a b c : LineView) → c ≡ b → HasMore a b → HasMore a c
more_same a b c same p = subst (HasMore a) (sym same) p

pub offers_none : (g : TermGateView) → OffersMore g g
offers_none g = record { rest = refl; lines = λ hart. none_more (line_of g.gate hart) }

abbrev numbers : ℕ → ℕ → List (ℕ × ℕ) → List Output
numbers hart n said = map (λ o. record { hart = hart; number = o.0; step = o.1.0; word = o.1.1 }) (enumerate_from n said)

numbers_many : (hart n : ℕ) (said : List (ℕ × ℕ)) → length (numbers hart n said) ≡ length said
numbers_many hart n [] = refl
numbers_many hart n (o ∷ said) = ap suc (numbers_many hart (n + 1) said)

pub numbered_many : (hart : ℕ) (said : List (ℕ × ℕ)) → length (numbered hart said) ≡ length said
numbered_many hart said = numbers_many hart 0 said

numbers_at : (hart n k : ℕ) (said : List (ℕ × ℕ)) (o : ℕ × ℕ) → slice_get said k ≡ Some o →
    slice_get (numbers hart n said) k ≡ Some (record { hart = hart; number = n + k; step = o.0; word = o.1 })
numbers_at hart n k [] o is = absurd cc
numbers_at hart n zero (x ∷ said) o is =
    let e : x ≡ o = cc in
    ap (λ (y : ℕ × ℕ). let z : Output = record { hart = hart; number = n; step = y.0; word = y.1 } in Some z) e
    ∙ ap (λ (m : ℕ). let z : Output = record { hart = hart; number = m; step = o.0; word = o.1 } in Some z) (omega arith)
numbers_at hart n (suc k) (x ∷ said) o is =
    numbers_at hart (n + 1) k said o is
    ∙ ap (λ (m : ℕ). let z : Output = record { hart = hart; number = m; step = o.0; word = o.1 } in Some z) (omega arith)

pub numbered_at : (hart k : ℕ) (said : List (ℕ × ℕ)) (o : ℕ × ℕ) → slice_get said k ≡ Some o →
    slice_get (numbered hart said) k ≡ Some (record { hart = hart; number = k; step = o.0; word = o.1 })
numbered_at hart k said o is =
    numbers_at hart 0 k said o is
    ∙ ap (λ (m : ℕ). let z : Output = record { hart = hart; number = m; step = o.0; word = o.1 } in Some z) (let e : 0 + k ≡ k = omega arith in e)

-- one more is offered
pub next_number : (g h i : TermGateView) (hart number : ℕ) (outputs : List (ℕ × ℕ)) (o : ℕ × ℕ) → AtNumber g h hart outputs number →
    slice_get outputs number ≡ Some o →
    line_of i.gate hart ≡ with_offer (line_of h.gate hart) (record { hart = hart; number = number; step = o.0; word = o.1 }) →
    offered_of i.gate hart ≡ offered_of h.gate hart ++ record { hart = hart; number = number; step = o.0; word = o.1 } ∷ [] →
    ((other : ℕ) → other ≢ hart → line_of i.gate other ≡ line_of h.gate other) →
    i ≡ record h { gate = record h.gate { lines = i.gate.lines } } →
    AtNumber g i hart outputs (number + 1)
next_number g h i hart number outputs o at is line offered others rest =
    let out : Output = record { hart = hart; number = number; step = o.0; word = o.1 } in
    let longer = length-append (offered_of h.gate hart) (out ∷ []) in
    record {
      more = record {
        rest = rest ∙ ap (λ (x : TermGateView). let y : TermGateView = record x { gate = record x.gate { lines = i.gate.lines } } in y) at.more.rest;
        lines = λ other. elim (same_or_not other hart) [
          | inl same ↦
              subst (λ k. HasMore (line_of g.gate k) (line_of i.gate k)) (sym same)
              (more_same (line_of g.gate hart) (with_offer (line_of h.gate hart) out) (line_of i.gate hart) line
              (more_on (line_of g.gate hart) (line_of h.gate hart) (with_offer (line_of h.gate hart) out) (at.more.lines hart) (one_more (line_of h.gate hart) out)))
          | inr ne ↦ more_same (line_of g.gate other) (line_of h.gate other) (line_of i.gate other) (others other ne) (at.more.lines other)
        ];
      };
      many = let was = at.many in let e = ap length offered in omega (arith, was, e, longer);
      offered = offered ∙ ap (λ xs. xs ++ out ∷ []) at.offered ∙ sym (take_next (numbered hart outputs) number out (numbered_at hart number outputs o is))
          ∙ ap (λ n. take n (numbered hart outputs)) (let e : suc number ≡ number + 1 = omega arith in e);
      others = λ other ne. others other ne ∙ at.others other ne;
    }

-- of the first harts all outputs were offered, and of each hart its first ones
pub record AreOfferedTo (g h : TermGateView) (machine : MachineState) (number : ℕ) : Type 0 where
  pub more : OffersMore g h
  pub first : AreOffered h.gate machine
  pub all : (hart : ℕ) → hart < number → offered_of h.gate hart ≡ numbered hart (said_at machine hart)

pub offers_on : (g h i : TermGateView) → OffersMore g h → OffersMore h i → OffersMore g i
offers_on g h i one two =
    record {
      rest = two.rest ∙ ap (λ (x : TermGateView). let y : TermGateView = record x { gate = record x.gate { lines = i.gate.lines } } in y) one.rest;
      lines = λ hart. more_on (line_of g.gate hart) (line_of h.gate hart) (line_of i.gate hart) (one.lines hart) (two.lines hart);
    }

line_stays : (h i : TermGateView) (hart : ℕ) → line_of i.gate hart ≡ line_of h.gate hart → offered_of i.gate hart ≡ offered_of h.gate hart
line_stays h i hart same = ap offered_in same

-- the outputs of one more hart were offered
pub next_hart : (g h i : TermGateView) (machine : MachineState) (number : ℕ) → AreOfferedTo g h machine number → OffersMore h i →
    offered_of i.gate number ≡ numbered number (said_at machine number) →
    ((other : ℕ) → other ≢ number → line_of i.gate other ≡ line_of h.gate other) → AreOfferedTo g i machine (number + 1)
next_hart g h i machine number at more all others =
    record {
      more = offers_on g h i at.more more;
      first = λ hart. elim (same_or_not hart number) [
        | inl same ↦
            subst (λ k. offered_of i.gate k ≡ take (length (offered_of i.gate k)) (numbered k (said_at machine k))) (sym same)
            (all ∙ sym (take_all (numbered number (said_at machine number)) (length (offered_of i.gate number))
            (let many = ap length all in omega (arith, many))))
        | inr other ↦
            let stays = line_stays h i hart (others hart other) in
            stays ∙ at.first hart ∙ ap (λ xs. take (length xs) (numbered hart (said_at machine hart))) (sym stays)
      ];
      all = λ hart lt. elim (same_or_not hart number) [
        | inl same ↦ subst (λ k. offered_of i.gate k ≡ numbered k (said_at machine k)) (sym same) all
        | inr other ↦ line_stays h i hart (others hart other) ∙ at.all hart (omega (arith, lt, other))
      ];
    }

-- where nothing was done for the hart but its first outputs offered
pub first_still : (h i : TermGateView) (machine : MachineState) (number : ℕ) → AreOffered h.gate machine →
    offered_of i.gate number ≡ take (length (offered_of i.gate number)) (numbered number (said_at machine number)) →
    ((other : ℕ) → other ≢ number → line_of i.gate other ≡ line_of h.gate other) → AreOffered i.gate machine
first_still h i machine number first own others hart =
    elim (same_or_not hart number) [
      | inl same ↦ subst (λ k. offered_of i.gate k ≡ take (length (offered_of i.gate k)) (numbered k (said_at machine k))) (sym same) own
      | inr other ↦
          let stays = line_stays h i hart (others hart other) in
          stays ∙ first hart ∙ ap (λ xs. take (length xs) (numbered hart (said_at machine hart))) (sym stays)
    ]

pub not_there : {A : Type 0} (xs : List A) (k : ℕ) → length xs ≤ k → slice_get xs k ≡ None
not_there [] k le = refl
not_there (x ∷ xs) zero le = absurd (omega (arith, le))
not_there (x ∷ xs) (suc k) le = not_there xs k (omega (arith, le))

take_none : {A : Type 0} (k : ℕ) → take {A = A} k [] ≡ []
take_none zero = refl
take_none (suc k) = refl

-- a hart that is not there has put out nothing
pub all_offered : (g h : TermGateView) (machine : MachineState) (number : ℕ) → AreOfferedTo g h machine number → length machine.harts ≤ number →
    AreAllOffered h.gate machine
all_offered g h machine number at past hart =
    elim (cases_lt hart number) [
      | inl less ↦ at.all hart less
      | inr over ↦
          let none : numbered hart (said_at machine hart) ≡ [] = ap (λ o. numbered hart (said_by o)) (not_there machine.harts hart (omega (arith, past, over))) in
          at.first hart ∙ ap (take (length (offered_of h.gate hart))) none ∙ take_none (length (offered_of h.gate hart)) ∙ sym none
    ]
