-- Outputs of a line that are looked at one by one.
use Rattle.std.proofs.Common.{◌≡◌, ℕ, zero, suc, ◌+◌, ◌-◌, ◌<◌, ◌≤◌, Bool, true, false, cond, not, List, [], ◌∷◌, ◌++◌, length, take, drop, get_or, filter}
use Rattle.std.proofs.Common.{refl, ap, sym, ◌∙◌, subst, arith, add-one, append_assoc, length-append}
use Rattle.std.proofs.Math.Seq.{drop-cons, take-append_seam, drop-append_seam, take-append-add, drop-append-add}
use Rattle.std.specs.List.{slice_rotate_right}
use borrow.Rule.Slice.PartMut.{mid_of, put_mid}
use Rattle.std.specs.Prelude.{Some, slice_get}
use Rattle.std.proofs.lemmas.List.{length-take-le, get_or-drop, get_or-append_right, append-nil}
use Rattle.std.proofs.lemmas.Option.{slice_get_within, get_or_from_slice_get}
use Rattle.std.proofs.lemmas.List.Elements.{filter_more}
use Rattle.std.proofs.lemmas.List.Filters.{length-filter_both}
use Rattle.ft_types.specs.declared.output.Output.{Output}
use Rattle.output_gate.specs.Orders.{AreInLine, AreUpTo}

-- none of those in line has a later step than the last
pub up_to_last : (n : ℕ) (xs : List Output) (last : Output) (k : ℕ) → AreInLine xs → suc k ≡ length xs → get_or xs k last ≡ last → last.step ≤ n → AreUpTo n xs
up_to_last n [] last k line is at le = tt
up_to_last n (x ∷ []) last zero line is at le = (subst (λ (o : Output). o.step ≤ n) (sym at) le, tt)
up_to_last n (x ∷ []) last (suc k) line is at le = absurd (omega arith)
up_to_last n (x ∷ (y ∷ ys)) last zero line is at le = absurd (omega arith)
up_to_last n (x ∷ (y ∷ ys)) last (suc k) line is at le =
    let rest : AreUpTo n (y ∷ ys) = up_to_last n (y ∷ ys) last k line.1 (omega arith) at le in
    let before : x.step ≤ y.step = line.0.0.step in
    let this : y.step ≤ n = rest.0 in
    (omega arith, rest)

-- the last as a slice gives it
pub up_to : (n : ℕ) (xs : List Output) (last : Output) → AreInLine xs → Some last ≡ slice_get xs (length xs - 1) → last.step ≤ n → AreUpTo n xs
up_to n xs last line at le =
    let within : length xs - 1 < length xs = slice_get_within xs (length xs - 1) last (sym at) in
    up_to_last n xs last (length xs - 1) line (omega arith) (get_or_from_slice_get xs (length xs - 1) last last (sym at)) le

-- ---- one moves before others

turned_before : (before between rest : List Output) (o : Output) (k : ℕ) (xs ys : List Output) → xs ≡ before ++ (between ++ o ∷ rest) →
    k ≡ length between + 1 → ys ≡ slice_rotate_right (mid_of (length before) k xs) 1 → put_mid (length before) k xs ys ≡ before ++ (o ∷ (between ++ rest))
turned_before before between rest o k xs ys is many turned =
    let mid : take k (drop (length before) xs) ≡ between ++ o ∷ []
    = ap (λ (l : List Output). take k (drop (length before) l)) is ∙ ap (take k) (drop-append_seam before (between ++ o ∷ rest))
    ∙ ap (λ n. take n (between ++ o ∷ rest)) many ∙ take-append-add between (o ∷ rest) 1 in
    let short : length (between ++ o ∷ []) - 1 ≡ length between = (let l = length-append between (o ∷ []) in omega arith) in
    let now : ys ≡ o ∷ between
    = turned ∙ ap (λ (l : List Output). drop (length l - 1) l ++ take (length l - 1) l) mid
    ∙ ap (λ n. drop n (between ++ o ∷ []) ++ take n (between ++ o ∷ [])) short
    ∙ ap (λ (l : List Output). l ++ take (length between) (between ++ o ∷ [])) (drop-append_seam between (o ∷ []))
    ∙ ap (λ (l : List Output). (o ∷ []) ++ l) (take-append_seam between (o ∷ [])) in
    let past : drop k (drop (length before) xs) ≡ rest
    = ap (λ (l : List Output). drop k (drop (length before) l)) is ∙ ap (drop k) (drop-append_seam before (between ++ o ∷ rest))
    ∙ ap (λ n. drop n (between ++ o ∷ rest)) many ∙ drop-append-add between (o ∷ rest) 1 in
    let front : take (length before) xs ≡ before = ap (take (length before)) is ∙ take-append_seam before (between ++ o ∷ rest) in
    ap (λ (l : List Output). l ++ (ys ++ drop k (drop (length before) xs))) front
    ∙ ap (λ (l : List Output). before ++ (l ++ drop k (drop (length before) xs))) now
    ∙ ap (λ (l : List Output). before ++ ((o ∷ between) ++ l)) past

pub turned : (front place : ℕ) (xs ys before between rest : List Output) (o : Output) →
    ys ≡ slice_rotate_right (mid_of front (place + 1 - front) xs) 1 → xs ≡ before ++ (between ++ o ∷ rest) → length before ≡ front →
    front + length between ≡ place → put_mid front (place + 1 - front) xs ys ≡ before ++ (o ∷ (between ++ rest))
turned front place xs ys before between rest o turns is fits many =
    subst (λ (a : ℕ). ys ≡ slice_rotate_right (mid_of a (place + 1 - a) xs) 1 → a + length between ≡ place →
    put_mid a (place + 1 - a) xs ys ≡ before ++ (o ∷ (between ++ rest))) fits
    (λ turns many. turned_before before between rest o (place + 1 - length before) xs ys is (omega arith) turns) turns many

-- ---- one more is looked at

pub passes_more : (p : Output → Bool) (xs : List Output) (i : ℕ) (o : Output) → i < length xs → o ≡ get_or xs i o → p o ≡ true →
    filter p (take (i + 1) xs) ≡ filter p (take i xs) ++ o ∷ []
passes_more p xs i o below is passes =
    filter_more p xs i o below ∙ ap (λ (x : Output). filter p (take i xs) ++ cond (p x) (x ∷ []) []) (sym is)
    ∙ ap (λ b. filter p (take i xs) ++ cond b (o ∷ []) []) passes

pub stops_more : (p : Output → Bool) (xs : List Output) (i : ℕ) (o : Output) → i < length xs → o ≡ get_or xs i o → p o ≡ false →
    filter p (take (i + 1) xs) ≡ filter p (take i xs)
stops_more p xs i o below is stops =
    filter_more p xs i o below ∙ ap (λ (x : Output). filter p (take i xs) ++ cond (p x) (x ∷ []) []) (sym is)
    ∙ ap (λ b. filter p (take i xs) ++ cond b (o ∷ []) []) stops ∙ append-nil (filter p (take i xs))

-- so the list of those that passed is longer by it
pub one_added : (p : Output → Bool) (xs : List Output) (i : ℕ) (o : Output) (start now : List Output) → i < length xs → o ≡ get_or xs i o → p o ≡ true →
    now ≡ start ++ filter p (take i xs) → now ++ o ∷ [] ≡ start ++ filter p (take (i + 1) xs)
one_added p xs i o start now below is passes so_far =
    ap (λ (l : List Output). l ++ o ∷ []) so_far ∙ append_assoc start (filter p (take i xs)) (o ∷ [])
    ∙ ap (λ (l : List Output). start ++ l) (sym (passes_more p xs i o below is passes))

module _ (p : Output → Bool) (xs : List Output) (i : ℕ) (below : i < length xs) where
  abbrev other : Output → Bool
  other o = not (p o)

  abbrev front : List Output
  front = filter p (take i xs)

  abbrev back : List Output
  back = filter other (take i xs)

  many : length front + length back ≡ i
  many = length-filter_both p other (λ _. refl) (take i xs) ∙ length-take-le i xs (omega arith)

  cut : (o : Output) → o ≡ get_or xs i o → drop i xs ≡ o ∷ drop (i + 1) xs
  cut o is = drop-cons xs i o below ∙ ap (λ (x : Output). x ∷ drop (suc i) xs) (sym is) ∙ ap (λ n. o ∷ drop n xs) (sym (add-one i))

  -- the next one is that of the list
  pub same_next : (now : List Output) (o : Output) → now ≡ (front ++ back) ++ drop i xs → o ≡ get_or now i o → o ≡ get_or xs i o
  same_next now o order at =
      let long : length (front ++ back) ≡ i = length-append front back ∙ many in
      at ∙ ap (λ (l : List Output). get_or l i o) order
      ∙ get_or-append_right (front ++ back) (drop i xs) i i o long (omega arith)
      ∙ ap (λ n. get_or (drop i xs) n o) none ∙ get_or-drop i xs 0 o ∙ ap (λ n. get_or xs n o) plus
    where
      none : i - i ≡ 0
      none = omega arith

      plus : i + 0 ≡ i
      plus = omega arith

  -- it passes, and was moved before those that do not
  pub moved : (now new : List Output) (o : Output) → now ≡ (front ++ back) ++ drop i xs → o ≡ get_or xs i o → p o ≡ true →
      ((before between rest : List Output) (x : Output) → now ≡ before ++ (between ++ x ∷ rest) → length before ≡ length front →
      length front + length between ≡ i → new ≡ before ++ (x ∷ (between ++ rest))) →
      new ≡ (filter p (take (i + 1) xs) ++ filter other (take (i + 1) xs)) ++ drop (i + 1) xs
  moved now new o order is passes moves =
      let rest : List Output = drop (i + 1) xs in
      let one : filter p (take (i + 1) xs) ≡ front ++ o ∷ [] = passes_more p xs i o below is passes in
      let none : filter other (take (i + 1) xs) ≡ back = stops_more other xs i o below is (ap not passes) in
      moves front back rest o (order ∙ ap (λ (l : List Output). (front ++ back) ++ l) (cut o is) ∙ append_assoc front back (o ∷ rest)) refl many
      ∙ sym (append_assoc front (o ∷ []) (back ++ rest)) ∙ sym (append_assoc (front ++ o ∷ []) back rest)
      ∙ ap (λ (l : List Output). (l ++ back) ++ rest) (sym one) ∙ ap (λ (l : List Output). (filter p (take (i + 1) xs) ++ l) ++ rest) (sym none)

  -- it does not, and stays
  pub stayed : (now : List Output) (o : Output) → now ≡ (front ++ back) ++ drop i xs → o ≡ get_or xs i o → p o ≡ false →
      now ≡ (filter p (take (i + 1) xs) ++ filter other (take (i + 1) xs)) ++ drop (i + 1) xs
  stayed now o order is stops =
      let rest : List Output = drop (i + 1) xs in
      let none : filter p (take (i + 1) xs) ≡ front = stops_more p xs i o below is stops in
      let one : filter other (take (i + 1) xs) ≡ back ++ o ∷ [] = passes_more other xs i o below is (ap not stops) in
      order ∙ ap (λ (l : List Output). (front ++ back) ++ l) (cut o is) ∙ sym (append_assoc (front ++ back) (o ∷ []) rest)
      ∙ ap (λ (l : List Output). l ++ rest) (append_assoc front back (o ∷ []))
      ∙ ap (λ (l : List Output). (l ++ (back ++ o ∷ [])) ++ rest) (sym none) ∙ ap (λ (l : List Output). (filter p (take (i + 1) xs) ++ l) ++ rest) (sym one)
