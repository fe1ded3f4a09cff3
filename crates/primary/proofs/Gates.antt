-- A gate to which more is offered, and what it then gives.
use Rattle.std.proofs.Common.{◌≡◌, ◌⊎◌, inl, inr, ℕ, zero, suc, ◌+◌, ◌<◌, ◌≤◌, ◌∷◌, [], List, Bool, true, false, cond, length, length-append, filter, get_or, slice_index_or, Result, Ok, Err, OnOk, OnErr, refl, sym, ap, subst, ◌∙◌, arith}
use Rattle.std.specs.Result.{is_err}
use Rattle.std.proofs.lemmas.Bool.{cases_lt}
use Rattle.std.proofs.lemmas.List.Sums.{sum_by-cons}
use Rattle.ft_types.specs.declared.names.TheConstants.{HART_LIMIT, HART_ROW}
use Rattle.guest_image.specs.Machine.{MachineState}
use Rattle.output_gate.specs.Gates.{LineView, GateView, fresh_line, line_of, offered_of, is_held, held_outputs, after_release, kept_count}
use Rattle.term_gate.specs.TermGates.{TermGateView, AreAcked}
use Rattle.primary.specs.Gating.{AreOffered, HasMore, OffersMore, IsAsItWas}
use Rattle.primary.proofs.Waiting.{released_offered}

-- as offers leave it
pub offers_rest : (g h : TermGateView) → OffersMore g h → h ≡ record g { gate = record g.gate { noted = h.gate.noted; lines = h.gate.lines } }
offers_rest g h more =
    more.rest
    ∙ ap (λ (noted : List (List ℕ)). let x : TermGateView = record g { gate = record g.gate { noted = noted; lines = h.gate.lines } } in x)
    (sym (ap (λ (x : TermGateView). x.gate.noted) more.rest))

-- one change after another
pub rest_after : (g h i : TermGateView) → OffersMore g h →
    i ≡ record h { gate = record h.gate { noted = i.gate.noted; lines = i.gate.lines } } →
    i ≡ record g { gate = record g.gate { noted = i.gate.noted; lines = i.gate.lines } }
rest_after g h i more rest =
    rest
    ∙ ap (λ (x : TermGateView). let y : TermGateView = record x { gate = record x.gate { noted = i.gate.noted; lines = i.gate.lines } } in y) more.rest

-- what was acknowledged at a gate to which more was offered
pub acked_before : (g h : TermGateView) (noted : List (List ℕ)) → OffersMore g h → AreAcked h noted → AreAcked g noted
acked_before g h noted more are =
    let x = subst (λ (y : TermGateView). AreAcked y noted) more.rest are in
    record { acked = x.acked; no_keeper = x.no_keeper; no_hart = x.no_hart }

-- where only more was offered, and maybe what was acknowledged is noted
pub was_offered : (g h i : TermGateView) → OffersMore g h →
    i ≡ record h { gate = record h.gate { noted = i.gate.noted; lines = i.gate.lines } } → i.gate.lines ≡ h.gate.lines →
    (i.gate.noted ≡ h.gate.noted) ⊎ AreAcked h i.gate.noted → IsAsItWas g i
was_offered g h i more rest same noted =
    record {
      rest = rest_after g h i more rest;
      noted = elim noted [
        | inl none ↦ inl (none ∙ ap (λ (x : TermGateView). x.gate.noted) more.rest)
        | inr acked ↦ inr (acked_before g h i.gate.noted more acked)
      ];
      lines = λ hart.
          subst (λ lines. HasMore (line_of g.gate hart) (slice_index_or lines hart (fresh_line 0))) (sym same) (more.lines hart);
    }

pub same_lines : (h i : GateView) (m : MachineState) → i.lines ≡ h.lines → AreOffered h m → AreOffered i m
same_lines h i m same offered hart =
    released_offered h i m offered (λ k. ap (λ lines. let x : GateView = record h { lines = lines } in offered_of x k) same) hart

none_past : {A : Type 0} (xs : List A) (k : ℕ) (d : A) → length xs ≤ k → get_or xs k d ≡ d
none_past [] k d le = refl
none_past (x ∷ xs) zero d le = absurd (omega (arith, le))
none_past (x ∷ xs) (suc k) d le = none_past xs k d (omega (arith, le))

-- a line that is not there is as it was
pub every_line : (need : ℕ) (noted : List (List ℕ)) (h i : GateView) → length h.lines ≡ HART_ROW → length i.lines ≡ HART_ROW →
    ((hart : ℕ) → hart < HART_LIMIT → line_of i hart ≡ after_release need noted (line_of h hart)) → (hart : ℕ) →
    line_of i hart ≡ after_release need noted (line_of h hart)
every_line need noted h i many too lines hart =
    elim (cases_lt hart HART_ROW) [
      | inl less ↦ lines hart less
      | inr over ↦
          none_past i.lines hart (fresh_line 0) (omega (arith, too, over))
          ∙ ap (after_release need noted) (sym (none_past h.lines hart (fresh_line 0) (omega (arith, many, over))))
    ]

one_shorter : {A : Type 0} (x : A) (ys xs : List A) (b : Bool) → length ys ≤ length xs → length (cond b (x ∷ ys) ys) ≤ suc (length xs)
one_shorter x ys xs true le = omega (arith, le)
one_shorter x ys xs false le = omega (arith, le)

shorter : {A : Type 0} (f : A → Bool) (xs : List A) → length (filter f xs) ≤ length xs
shorter f [] = omega arith
shorter f (x ∷ xs) = one_shorter x (filter f xs) xs (f x) (shorter f xs)

-- no more go out than wait
pub few_held : (need : ℕ) (noted : List (List ℕ)) (lines : List LineView) → length (held_outputs need noted lines) ≤ kept_count lines
few_held need noted [] = omega arith
few_held need noted (line ∷ lines) =
    let rest = few_held need noted lines in
    let own = shorter (is_held need noted) line.waiting in
    let many = length-append (filter (is_held need noted) line.waiting) (held_outputs need noted lines) in
    let sum : kept_count (line ∷ lines) ≡ (length line.passed + length line.waiting) + kept_count lines =
    sum_by-cons (λ (l : LineView). length l.passed + length l.waiting) line lines in
    omega (arith, rest, own, many, sum)

pub on_ok : {A E : Type 0} (r : Result A E) (P : Type 0) → is_err r ≡ false → OnOk r P → P
on_ok (Ok x) P is p = p
on_ok (Err e) P is p = let both : true ≡ false = is in cc

pub left_if : {A E : Type 0} (r : Result A E) (P : Type 0) → P → OnErr r P
left_if (Ok x) P p = tt
left_if (Err e) P p = p
