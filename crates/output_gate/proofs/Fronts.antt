-- The outputs of a line that are held are its first.
use Rattle.std.proofs.Common.{◌≡◌, ℕ, zero, suc, ◌+◌, ◌<◌, ◌≤◌, Bool, true, false, not, cond, nat_lt, nat_le, List, [], ◌∷◌, ◌++◌, length, take, drop, get_or}
use Rattle.std.proofs.Common.{filter, refl, ap, sym, ◌∙◌, subst, arith}
use Rattle.std.specs.List.{AllByRecursion}
use Rattle.std.proofs.lemmas.List.Sums.{sum_by-cons}
use Rattle.std.proofs.Math.Seq.{take-append_seam, drop-append_seam}
use Rattle.std.proofs.lemmas.Bool.{lt-leb, leb-false}
use Rattle.std.proofs.lemmas.Bool.Decides.{leb_tells}
use Rattle.ft_types.specs.Counts.{count_at}
use Rattle.ft_types.specs.declared.output.Output.{Output}
use Rattle.output_gate.specs.Gates.{holder_count, is_held, is_not_held}
use Rattle.output_gate.specs.Orders.{ComesAfter, AreInLine}
use Rattle.output_gate.specs.machinery.Lines.{IsFront}
use Rattle.output_gate.proofs.Alls.{all_so}

above_earlier : (n early late : ℕ) → early ≤ late → cond (nat_lt late n) 1 0 ≤ cond (nat_lt early n) 1 0
above_earlier n early late le = grind (arith, leb_tells)

-- no fewer keepers hold an earlier step
pub holder_count-earlier : (noted : List (List ℕ)) (hart early late : ℕ) → early ≤ late → holder_count noted hart late ≤ holder_count noted hart early
holder_count-earlier [] hart early late le = omega arith
holder_count-earlier (row ∷ noted) hart early late le = let rest = holder_count-earlier noted hart early late le in let this = above_earlier
    (count_at row hart) early late le in
    let f : ℕ → List ℕ → ℕ = λ step row. cond (nat_lt step (count_at row hart)) 1 0 in
    let a : holder_count (row ∷ noted) hart late ≡ f late row + holder_count noted hart late = sum_by-cons (f late) row noted in
    let b : holder_count (row ∷ noted) hart early ≡ f early row + holder_count noted hart early = sum_by-cons (f early) row noted in omega arith

not_enough : (need a b : ℕ) → nat_le need a ≡ false → b ≤ a → nat_le need b ≡ false
not_enough need a b short le = lt-leb need b (let less = leb-false need a short in omega arith)

later_not_held : (need : ℕ) (noted : List (List ℕ)) (o later : Output) → ComesAfter o later → is_held need noted o ≡ false → is_held need noted later ≡ false
later_not_held need noted o later after short = not_enough need (holder_count noted o.hart o.step) (holder_count noted later.hart later.step) short
    (subst (λ (h : ℕ). holder_count noted h later.step ≤ holder_count noted o.hart o.step) (sym after.hart) (holder_count-earlier noted o.hart o.step later.step
    after.step))

all_kept : (p : Output → Bool) (xs : List Output) → AllByRecursion (λ o. p o ≡ true) xs → filter p xs ≡ xs
all_kept p [] h = refl
all_kept p (x ∷ xs) h = ap (λ (b : Bool). cond b (x ∷ filter p xs) (filter p xs)) h.0 ∙ ap (λ (l : List Output). x ∷ l) (all_kept p xs h.1)

none_kept : (p : Output → Bool) (xs : List Output) → AllByRecursion (λ o. p o ≡ false) xs → filter p xs ≡ []
none_kept p [] h = refl
none_kept p (x ∷ xs) h = ap (λ (b : Bool). cond b (x ∷ filter p xs) (filter p xs)) h.0 ∙ none_kept p xs h.1

-- the first n pass, and the next does not
front : (p : Output → Bool) → ((o later : Output) → ComesAfter o later → p o ≡ false → p later ≡ false) → (n : ℕ) (xs : List Output) → AreInLine xs
    → AllByRecursion (λ o. p o ≡ true) (take n xs) → (n < length xs → (d : Output) → p (get_or xs n d) ≡ false)
    → (filter p xs ≡ take n xs) × (filter (λ o. not (p o)) xs ≡ drop n xs)
front p later zero [] line held stop = (refl, refl)
front p later zero (x ∷ xs) line held stop = let stopped : p x ≡ false = stop (omega arith) x in
    let rest : AllByRecursion (λ o. p o ≡ false) xs = all_so (ComesAfter x) (λ o. p o ≡ false) (λ o after. later x o after stopped) xs line.0 in (
      ap (λ (b : Bool). cond b (x ∷ filter p xs) (filter p xs)) stopped ∙ none_kept p xs rest,
      ap (λ (b : Bool). cond (not b) (x ∷ filter (λ o. not (p o)) xs) (filter (λ o. not (p o)) xs)) stopped
          ∙ ap (λ (l : List Output). x ∷ l) (all_kept (λ o. not (p o)) xs (all_so (λ o. p o ≡ false) (λ o. not (p o) ≡ true) (λ o e. ap not e) xs rest)),
    )
front p later (suc n) [] line held stop = (refl, refl)
front p later (suc n) (x ∷ xs) line held stop = let r = front p later n xs line.1 held.1 (λ lt. stop (omega arith)) in (
  ap (λ (b : Bool). cond b (x ∷ filter p xs) (filter p xs)) held.0 ∙ ap (λ (l : List Output). x ∷ l) r.0,
  ap (λ (b : Bool). cond (not b) (x ∷ filter (λ o. not (p o)) xs) (filter (λ o. not (p o)) xs)) held.0 ∙ r.1,
)

-- outputs in line of which the first n are held, and the next is not
pub is_front : (need : ℕ) (noted : List (List ℕ)) (n : ℕ) (waiting : List Output) → n ≤ length waiting → AreInLine waiting →
    AllByRecursion (λ o. is_held need noted o ≡ true) (take n waiting)
    → (n < length waiting → (d : Output) → is_held need noted (get_or waiting n d) ≡ false) → IsFront need noted n waiting
is_front need noted n waiting within line held stop = let f = front (is_held need noted) (later_not_held need noted) n waiting line held stop in
    record { within = within; held = f.0; rest = f.1 }

-- where none that passes stands behind one that does not, those that pass and those that do not are the list
in_order : (p : Output → Bool) → ((o later : Output) → ComesAfter o later → p o ≡ false → p later ≡ false) → (xs : List Output) → AreInLine xs →
    filter p xs ++ filter (λ o. not (p o)) xs ≡ xs
in_order p later [] line = refl
in_order p later (x ∷ xs) line =
    elim (p x) as (λ b. p x ≡ b → cond b (x ∷ filter p xs) (filter p xs) ++ cond (not b) (x ∷ filter (λ o. not (p o)) xs) (filter (λ o. not (p o)) xs)
    ≡ x ∷ xs) [
      | true ↦ λ e. ap (λ (l : List Output). x ∷ l) (in_order p later xs line.1)
      | false ↦ λ e.
          let rest : AllByRecursion (λ o. p o ≡ false) xs = all_so (ComesAfter x) (λ o. p o ≡ false) (λ o after. later x o after e) xs line.0 in
          ap (λ (l : List Output). l ++ (x ∷ filter (λ o. not (p o)) xs)) (none_kept p xs rest)
          ∙ ap (λ (l : List Output). x ∷ l) (all_kept (λ o. not (p o)) xs (all_so (λ o. p o ≡ false) (λ o. not (p o) ≡ true) (λ o e. ap not e) xs rest))
    ] refl

-- of outputs in line, those that are held are the first
pub held_first : (need : ℕ) (noted : List (List ℕ)) (waiting : List Output) → AreInLine waiting →
    filter (is_held need noted) waiting ++ filter (is_not_held need noted) waiting ≡ waiting
held_first need noted waiting line = in_order (is_held need noted) (later_not_held need noted) waiting line

-- so many as these are
pub first_are_held : (need : ℕ) (noted : List (List ℕ)) (waiting : List Output) (held : ℕ) → AreInLine waiting →
    held ≡ length (filter (is_held need noted) waiting) →
    (take held waiting ≡ filter (is_held need noted) waiting) × (drop held waiting ≡ filter (is_not_held need noted) waiting)
first_are_held need noted waiting held line many =
    let front : List Output = filter (is_held need noted) waiting in
    let back : List Output = filter (is_not_held need noted) waiting in
    let whole : front ++ back ≡ waiting = held_first need noted waiting line in
    subst (λ (n : ℕ). (take n waiting ≡ front) × (drop n waiting ≡ back)) (sym many)
    (subst (λ (l : List Output). (take (length front) l ≡ front) × (drop (length front) l ≡ back)) whole (take-append_seam front back, drop-append_seam front back))
