-- What waits at a gate, and what goes out there, is among the machine's outputs.
use Rattle.std.proofs.Common.{◌≡◌, ℕ, zero, suc, ◌+◌, ◌<◌, Bool, true, false, cond, List, [], ◌∷◌, ◌++◌, length, length-append, filter, take, slice_get, slice_index_or, All, Some, refl, sym, ap, subst, ◌∙◌, arith}
use Rattle.std.specs.List.{AllByRecursion, flat_map}
use Rattle.std.proofs.lemmas.List.Elements.{All-from_recursion}
use Rattle.interleaving.specs.Lists.{Each}
use Rattle.guest_image.specs.Machine.{MachineState}
use Rattle.ft_types.specs.declared.output.Output.{Output}
use Rattle.output_gate.specs.Gates.{LineView, GateView, fresh_line, offered_in, line_of, waiting_of, offered_of, is_held, held_outputs}
use Rattle.primary.specs.Outputs.{numbered, numbered_from, said_at}
use Rattle.primary.specs.Gating.{AreOffered}

-- the machine has the output, at its number
abbrev pub IsSaid : MachineState → Output → Type 0
IsSaid m o = slice_get (said_at m o.hart) o.number ≡ Some (o.step, o.word)

each_append : {A : Type 0} (P : A → Type 0) (xs ys : List A) → Each P (xs ++ ys) → Each P xs × Each P ys
each_append P [] ys all = (tt, all)
each_append P (x ∷ xs) ys (first, rest) = let both = each_append P xs ys rest in ((first, both.0), both.1)

pub each_both : {A : Type 0} (P : A → Type 0) (xs ys : List A) → Each P xs → Each P ys → Each P (xs ++ ys)
each_both P [] ys one two = two
each_both P (x ∷ xs) ys (first, rest) two = (first, each_both P xs ys rest two)

each_take : {A : Type 0} (P : A → Type 0) (n : ℕ) (xs : List A) → Each P xs → Each P (take n xs)
each_take P zero xs all = tt
each_take P (suc n) [] all = tt
each_take P (suc n) (x ∷ xs) (first, rest) = (first, each_take P n xs rest)

filtered : {A : Type 0} (P : A → Type 0) (f : A → Bool) (x : A) (rest : List A) (b : Bool) → f x ≡ b → P x → Each (λ x. P x × (f x ≡ true)) rest →
    Each (λ x. P x × (f x ≡ true)) (cond b (x ∷ rest) rest)
filtered P f x rest true is first all = ((first, is), all)
filtered P f x rest false is first all = all

pub each_filter : {A : Type 0} (P : A → Type 0) (f : A → Bool) (xs : List A) → Each P xs → Each (λ x. P x × (f x ≡ true)) (filter f xs)
each_filter P f [] all = tt
each_filter P f (x ∷ xs) (first, rest) = filtered P f x (filter f xs) (f x) refl first (each_filter P f xs rest)

-- numbered from a place on, in a list that has others before
said_from : (m : MachineState) (hart : ℕ) (before said : List (ℕ × ℕ)) → said_at m hart ≡ before ++ said →
    Each (IsSaid m) (numbered_from hart (length before) said)
said_from m hart before [] is = tt
said_from m hart before (x ∷ said) is = (
  ap (λ xs. slice_get xs (length before)) is ∙ at_end before x said,
  subst (λ n. Each (IsSaid m) (numbered_from hart n said)) (one_more before x) (said_from m hart (before ++ x ∷ []) said (is ∙ sym (regroup before x said))),
)
  where
    at_end : (xs : List (ℕ × ℕ)) (x : ℕ × ℕ) (ys : List (ℕ × ℕ)) → slice_get (xs ++ x ∷ ys) (length xs) ≡ Some x
    at_end [] x ys = refl
    at_end (y ∷ xs) x ys = at_end xs x ys

    one_more : (xs : List (ℕ × ℕ)) (x : ℕ × ℕ) → length (xs ++ x ∷ []) ≡ length xs + 1
    one_more xs x = length-append xs (x ∷ [])

    regroup : (xs : List (ℕ × ℕ)) (x : ℕ × ℕ) (ys : List (ℕ × ℕ)) → (xs ++ x ∷ []) ++ ys ≡ xs ++ x ∷ ys
    regroup [] x ys = refl
    regroup (y ∷ xs) x ys = ap (λ zs. y ∷ zs) (regroup xs x ys)

pub all_said : (m : MachineState) (hart : ℕ) → Each (IsSaid m) (numbered hart (said_at m hart))
all_said m hart = said_from m hart [] (said_at m hart) refl

-- what waits at the gate is the machine's
pub waiting_said : (g : GateView) (m : MachineState) → AreOffered g m → (hart : ℕ) → Each (IsSaid m) (waiting_of g hart)
waiting_said g m offered hart =
    let line : LineView = line_of g hart in
    let all : Each (IsSaid m) (offered_in line) =
    subst (Each (IsSaid m)) (sym (offered hart)) (each_take (IsSaid m) (length (offered_of g hart)) (numbered hart (said_at m hart)) (all_said m hart)) in
    (each_append (IsSaid m) line.gone line.waiting (each_append (IsSaid m) line.passed (line.gone ++ line.waiting) all).1).1

-- of what is held of each line
pub each_held : (P : Output → Type 0) (f : Output → Bool) (lines : List LineView) →
    ((hart : ℕ) → Each P (filter f (slice_index_or lines hart (fresh_line 0)).waiting)) →
    Each P (flat_map (λ line. filter f line.waiting) lines)
each_held P f [] each = tt
each_held P f (line ∷ lines) each =
    each_both P (filter f line.waiting) (flat_map (λ line. filter f line.waiting) lines) (each 0) (each_held P f lines (λ hart. each (suc hart)))

inside : {A : Type 0} (xs : List A) (n : ℕ) (x : A) → slice_get xs n ≡ Some x → n < length xs
inside [] n x is = absurd cc
inside (y ∷ xs) zero x is = omega arith
inside (y ∷ xs) (suc n) x is = let less = inside xs n x is in omega (arith, less)

-- the output's number is below how many its hart has
abbrev pub IsNumbered : MachineState → Output → Type 0
IsNumbered m o = o.number < length (said_at m o.hart)

by_recursion : (m : MachineState) (f : Output → Bool) (os : List Output) → Each (λ o. IsSaid m o × (f o ≡ true)) os → Each (IsNumbered m) os
by_recursion m f [] all = tt
by_recursion m f (o ∷ os) (first, rest) = (inside (said_at m o.hart) o.number (o.step, o.word) first.0, by_recursion m f os rest)

recursive : {A : Type 0} (P : A → Type 0) (xs : List A) → Each P xs → AllByRecursion P xs
recursive P [] all = tt
recursive P (x ∷ xs) (first, rest) = (first, recursive P xs rest)

-- what goes out has numbers below how many outputs its hart has
pub held_said : (need : ℕ) (noted : List (List ℕ)) (g : GateView) (m : MachineState) → AreOffered g m →
    All (λ o. o.number < length (said_at m o.hart)) (held_outputs need noted g.lines)
held_said need noted g m offered =
    All-from_recursion (λ (o : Output). o.number < length (said_at m o.hart)) (held_outputs need noted g.lines)
    (recursive (IsNumbered m) (held_outputs need noted g.lines)
    (each_held (IsNumbered m) (is_held need noted) g.lines
    (λ hart.
    by_recursion m (is_held need noted) (filter (is_held need noted) (waiting_of g hart))
    (each_filter (IsSaid m) (is_held need noted) (waiting_of g hart) (waiting_said g m offered hart)))))
