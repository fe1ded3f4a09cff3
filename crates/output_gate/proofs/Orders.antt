-- The order of what is given, and of what waits then.
use Rattle.std.proofs.Common.{◌≡◌, inl, ℕ, suc, ◌+◌, ◌<◌, ◌≤◌, Bool, true, false, cond, not, List, [], ◌∷◌, ◌++◌, length, slice_index_or, Result, Ok, Err}
use Rattle.std.proofs.Common.{IfOk, OnOk, ap, sym, ◌∙◌, subst, arith, true≢false}
use Rattle.std.specs.List.{AllByRecursion, filter}
use Rattle.std.proofs.lemmas.Bool.{leb-true, le-leb}
use mathlib.Core.Logic.{dite}
use native.Mathlib.Decide.{dec_lt}
use Rattle.ft_types.specs.declared.output.Output.{Output}
use Rattle.ft_types.specs.declared.names.TheConstants.{HART_LIMIT, HART_ROW}
use Rattle.output_gate.specs.Gates.{LineView, GateView, fresh_line, offered_in, line_of, waiting_of, holder_count, is_held, is_not_held, after_release, held_outputs}
use Rattle.output_gate.specs.Orders.{IsLineOf, IsBefore, RiseByHart, AreLaterThan, AreEarlier}
use Rattle.output_gate.proofs.Alls.{all_so, all_both, all_join, all_back, all_filter, kept_pass}
use Rattle.output_gate.proofs.Fronts.{holder_count-earlier}
use Rattle.output_gate.proofs.Insides.{all_held}

-- both clauses of an Ok
pub of_both : {X Y : Type 0} (r : Result X Y) (P : X → Type 0) (Q : Type 0) (R : X → Type 0) → ((x : X) → P x → Q → R x) → IfOk r P → OnOk r Q → IfOk r R
of_both (Ok x) P Q R f p q = f x p q
of_both (Err e) P Q R f p q = tt

earlier_is_held : (need : ℕ) (noted : List (List ℕ)) (early late : Output) → early.hart ≡ late.hart → early.step ≤ late.step → is_held need noted late ≡ true →
    is_held need noted early ≡ true
earlier_is_held need noted early late same le held =
    let more : holder_count noted early.hart late.step ≤ holder_count noted early.hart early.step = holder_count-earlier noted early.hart early.step late.step
    le in
    let enough : need ≤ holder_count noted late.hart late.step = leb-true need (holder_count noted late.hart late.step) held in
    let enough_here : need ≤ holder_count noted early.hart late.step = subst (λ (h : ℕ). need ≤ holder_count noted h late.step) (sym same) enough in
    le-leb need (holder_count noted early.hart early.step) (omega arith)

later : (need : ℕ) (noted : List (List ℕ)) (given o : Output) → is_held need noted given ≡ true → is_not_held need noted o ≡ true → o.hart ≡ given.hart →
    given.step < o.step
later need noted given o held waits same = dite (dec_lt given.step o.step) (λ lt. lt)
    (λ (ge : given.step < o.step → ⊥). absurd (true≢false (sym waits ∙ ap not (earlier_is_held need noted o given same (omega arith) held))))

-- what is given has earlier steps than what then waits
pub earlier : (need : ℕ) (noted : List (List ℕ)) (old new : GateView) (given : List Output) → given ≡ held_outputs need noted old.lines
    → ((hart : ℕ) → hart < HART_LIMIT → line_of new hart ≡ after_release need noted (line_of old hart)) → AreEarlier given new
earlier need noted old new given is lines = λ hart below.
    let waits : waiting_of new hart ≡ filter (is_not_held need noted) (waiting_of old hart) = ap (λ (l : LineView). l.waiting) (lines hart below) in
    subst (λ (g : List Output). AllByRecursion (λ o. AreLaterThan o (waiting_of new hart)) g) (sym is)
    (subst (λ (w : List Output). AllByRecursion (λ o. AreLaterThan o w) (held_outputs need noted old.lines)) (sym waits)
    (all_so (λ o. is_held need noted o ≡ true) (λ given. AreLaterThan given (filter (is_not_held need noted) (waiting_of old hart)))
    (λ given held. all_so (λ o. is_not_held need noted o ≡ true) (λ o. o.hart ≡ given.hart → given.step < o.step) (λ o no. later need noted given o held no) _
    (kept_pass (is_not_held need noted) (waiting_of old hart)))
    (held_outputs need noted old.lines) (all_held need noted old.lines)))

passed : (x : Output) (rest : List Output) (b : Bool) → AllByRecursion (IsBefore x) rest → RiseByHart rest → RiseByHart (cond b (x ∷ rest) rest)
passed x rest true before rise = (before, rise)
passed x rest false before rise = rise

pub rise-filter : (p : Output → Bool) (xs : List Output) → RiseByHart xs → RiseByHart (filter p xs)
rise-filter p [] rise = tt
rise-filter p (x ∷ xs) rise = passed x (filter p xs) (p x) (all_filter (IsBefore x) p xs rise.0) (rise-filter p xs rise.1)

pub rise_join : (xs ys : List Output) → RiseByHart xs → RiseByHart ys → AllByRecursion (λ x. AllByRecursion (IsBefore x) ys) xs → RiseByHart (xs ++ ys)
rise_join [] ys a b before = b
rise_join (x ∷ xs) ys a b before = (all_join (IsBefore x) xs ys a.0 before.0, rise_join xs ys a.1 b before.1)

abbrev no_line : LineView
no_line = fresh_line 0

-- the lines are those of the harts from n on
abbrev AreLinesFrom : ℕ → List LineView → Type 0
AreLinesFrom n [] = Unit {0}
AreLinesFrom n (line ∷ lines) = IsLineOf n line × AreLinesFrom (suc n) lines

lines_from : (n : ℕ) (lines : List LineView) → ((i : ℕ) → i < length lines → IsLineOf (n + i) (slice_index_or lines i no_line)) → AreLinesFrom n lines
lines_from n [] each = tt
lines_from n (line ∷ lines) each = (
  subst (λ (h : ℕ). IsLineOf h line) (let e : n + 0 ≡ n = omega arith in e) (each 0 (omega arith)),
  lines_from (suc n) lines (λ i below. subst (λ (h : ℕ). IsLineOf h (slice_index_or lines i no_line)) (let e : n + suc i ≡ suc n + i = omega arith in e)
      (each (suc i) (omega arith))),
)

-- what is held of a line is of its hart
its_hart : (p : Output → Bool) (n : ℕ) (line : LineView) → IsLineOf n line → AllByRecursion (λ o. o.hart ≡ n) (filter p line.waiting)
its_hart p n line is = all_filter (λ o. o.hart ≡ n) p line.waiting (all_back (λ o. o.hart ≡ n) line.gone line.waiting
    (all_back (λ o. o.hart ≡ n) line.passed (line.gone ++ line.waiting)
    (all_so (λ o. (o.hart ≡ n) × (o.number < length (offered_in line))) (λ o. o.hart ≡ n) (λ o h. h.0) (offered_in line) is.of_hart)))

-- and not below its mark
its_mark : (p : Output → Bool) (n : ℕ) (line : LineView) → IsLineOf n line → AllByRecursion (λ o. line.mark ≤ o.number) (filter p line.waiting)
its_mark p n line is = all_filter (λ o. line.mark ≤ o.number) p line.waiting (all_back (λ o. line.mark ≤ o.number) line.gone line.waiting is.others)

harts_from : (need : ℕ) (noted : List (List ℕ)) (n : ℕ) (lines : List LineView) → AreLinesFrom n lines → AllByRecursion (λ o. n ≤ o.hart)
    (held_outputs need noted lines)
harts_from need noted n [] each = tt
harts_from need noted n (line ∷ lines) each = all_join (λ o. n ≤ o.hart) (filter (is_held need noted) line.waiting) (held_outputs need noted lines)
    (all_so (λ o. o.hart ≡ n) (λ o. n ≤ o.hart) (λ o e. omega arith) (filter (is_held need noted) line.waiting) (its_hart (is_held need noted) n line each.0))
    (all_so (λ o. suc n ≤ o.hart) (λ o. n ≤ o.hart) (λ o le. omega arith) (held_outputs need noted lines) (harts_from need noted (suc n) lines each.1))

held_rise : (need : ℕ) (noted : List (List ℕ)) (n : ℕ) (lines : List LineView) → AreLinesFrom n lines → RiseByHart (held_outputs need noted lines)
held_rise need noted n [] each = tt
held_rise need noted n (line ∷ lines) each = let p : Output → Bool = is_held need noted in
    rise_join (filter p line.waiting) (held_outputs need noted lines)
    (rise-filter p line.waiting each.0.by_number)
    (held_rise need noted (suc n) lines each.1)
    (all_so (λ o. o.hart ≡ n) (λ o. AllByRecursion (IsBefore o) (held_outputs need noted lines))
    (λ o e. all_so (λ later. suc n ≤ later.hart) (IsBefore o) (λ later le. inl (omega arith)) (held_outputs need noted lines)
    (harts_from need noted (suc n) lines each.1))
    (filter p line.waiting) (its_hart p n line each.0))

-- what is given rises by hart, then number
pub given_rises : (need : ℕ) (noted : List (List ℕ)) (lines : List LineView) (given : List Output) → length lines ≡ HART_ROW → ((hart : ℕ) (other : LineView) →
    hart < HART_LIMIT → IsLineOf hart (slice_index_or lines hart other))
    → given ≡ held_outputs need noted lines → RiseByHart given
given_rises need noted lines given many each is = subst RiseByHart (sym is)
    (held_rise need noted 0 lines (lines_from 0 lines (λ i below. subst (λ (h : ℕ). IsLineOf h (slice_index_or lines i no_line))
    (let e : i ≡ 0 + i = omega arith in e) (each i no_line (omega arith)))))

-- what is given of these lines is not below their marks
above_from : (need : ℕ) (noted : List (List ℕ)) (marks : ℕ → ℕ) (n : ℕ) (lines : List LineView) → AreLinesFrom n lines →
    ((i : ℕ) → i < length lines → (slice_index_or lines i no_line).mark ≡ marks (n + i)) →
    AllByRecursion (λ o. marks o.hart ≤ o.number) (held_outputs need noted lines)
above_from need noted marks n [] each are = tt
above_from need noted marks n (line ∷ lines) each are =
    let p : Output → Bool = is_held need noted in
    let mark : line.mark ≡ marks n = are 0 (omega arith) ∙ ap marks (let e : n + 0 ≡ n = omega arith in e) in
    all_join (λ o. marks o.hart ≤ o.number) (filter p line.waiting) (held_outputs need noted lines)
    (all_so (λ o. (o.hart ≡ n) × (line.mark ≤ o.number)) (λ o. marks o.hart ≤ o.number)
    (λ o h. subst (λ (m : ℕ). m ≤ o.number) (mark ∙ ap marks (sym h.0)) h.1) (filter p line.waiting)
    (all_both (λ o. o.hart ≡ n) (λ o. line.mark ≤ o.number) (filter p line.waiting) (its_hart p n line each.0) (its_mark p n line each.0)))
    (above_from need noted marks (suc n) lines each.1
    (λ i below. are (suc i) (omega (arith, below)) ∙ ap marks (let e : n + suc i ≡ suc n + i = omega arith in e)))

pub given_above : (need : ℕ) (noted : List (List ℕ)) (lines : List LineView) (given : List Output) → length lines ≡ HART_ROW →
    ((hart : ℕ) (other : LineView) → hart < HART_LIMIT → IsLineOf hart (slice_index_or lines hart other)) → given ≡ held_outputs need noted lines →
    AllByRecursion (λ o. (slice_index_or lines o.hart no_line).mark ≤ o.number) given
given_above need noted lines given many each is =
    subst (AllByRecursion (λ o. (slice_index_or lines o.hart no_line).mark ≤ o.number)) (sym is)
    (above_from need noted (λ hart. (slice_index_or lines hart no_line).mark) 0 lines
    (lines_from 0 lines (λ i below. subst (λ (h : ℕ). IsLineOf h (slice_index_or lines i no_line))
    (let e : i ≡ 0 + i = omega arith in e) (each i no_line (omega arith))))
    (λ i below. ap (λ (h : ℕ). (slice_index_or lines h no_line).mark) (let e : i ≡ 0 + i = omega arith in e)))
