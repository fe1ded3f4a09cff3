-- What a release leaves of the outputs that were offered.
use Rattle.std.proofs.Common.{◌≡◌, ◌⊎◌, inl, inr, ℕ, zero, suc, ◌+◌, ◌<◌, ◌≤◌, Bool, true, false, not, cond, List, [], ◌∷◌, ◌++◌, append_assoc, length, map, filter, take, refl, sym, ap, subst, ◌∙◌, arith}
use Rattle.std.specs.List.{enumerate_from}
use Rattle.std.proofs.lemmas.Bool.{leb-true, le-leb}
use Rattle.interleaving.specs.Lists.{Each, EachPair}
use Rattle.guest_image.specs.Machine.{MachineState}
use Rattle.ft_types.specs.declared.output.Output.{Output}
use Rattle.output_gate.specs.Gates.{LineView, GateView, offered_in, line_of, offered_of, holder_count, is_held, is_not_held, after_release}
use Rattle.output_gate.proofs.Fronts.{holder_count-earlier}
use Rattle.primary.specs.Outputs.{said_at, numbered}
use Rattle.primary.specs.Gating.{AreRising, AreOffered, AreAllOffered}
use Rattle.primary.proofs.Rows.{take_all}

pub see_bool : (b : Bool) → (b ≡ true) ⊎ (b ≡ false)
see_bool true = inl refl
see_bool false = inr refl

-- of one hart, and no earlier
abbrev pub Follows : Output → Output → Type 0
Follows a b = (b.hart ≡ a.hart) × (a.step ≤ b.step)

each_take : (P : Output → Type 0) (n : ℕ) (xs : List Output) → Each P xs → Each P (take n xs)
each_take P zero xs all = tt
each_take P (suc n) [] all = tt
each_take P (suc n) (x ∷ xs) (first, rest) = (first, each_take P n xs rest)

pairs_take : (n : ℕ) (xs : List Output) → EachPair Follows xs → EachPair Follows (take n xs)
pairs_take zero xs all = tt
pairs_take (suc n) [] all = tt
pairs_take (suc n) (x ∷ xs) (first, rest) = (each_take (Follows x) n xs first, pairs_take n xs rest)

pairs_right : (xs ys : List Output) → EachPair Follows (xs ++ ys) → EachPair Follows ys
pairs_right [] ys all = all
pairs_right (x ∷ xs) ys (first, rest) = pairs_right xs ys rest

abbrev numbers : ℕ → ℕ → List (ℕ × ℕ) → List Output
numbers hart n said = map (λ o. record { hart = hart; number = o.0; step = o.1.0; word = o.1.1 }) (enumerate_from n said)

later_ones : (hart n m : ℕ) (o : ℕ × ℕ) (said : List (ℕ × ℕ)) → Each (λ b. o.0 < b.0) said →
    Each (Follows (record { hart = hart; number = m; step = o.0; word = o.1 })) (numbers hart n said)
later_ones hart n m o [] all = tt
later_ones hart n m o (x ∷ said) (first, rest) = ((refl, omega (arith, first)), later_ones hart (n + 1) m o said rest)

numbers_follow : (hart n : ℕ) (said : List (ℕ × ℕ)) → EachPair (λ a b. a.0 < b.0) said → EachPair Follows (numbers hart n said)
numbers_follow hart n [] all = tt
numbers_follow hart n (o ∷ said) (first, rest) = (later_ones hart (n + 1) n o said first, numbers_follow hart (n + 1) said rest)

module _ (need : ℕ) (noted : List (List ℕ)) where
  -- what is not held holds back whatever follows it
  pub held_back : (a b : Output) → Follows a b → is_held need noted a ≡ false → is_held need noted b ≡ false
  held_back a b (hart, step) none =
      elim (see_bool (is_held need noted b)) [
        | inl held ↦
            let enough : need ≤ holder_count noted b.hart b.step = leb-true need (holder_count noted b.hart b.step) held in
            let fewer : holder_count noted b.hart b.step ≤ holder_count noted b.hart a.step = holder_count-earlier noted b.hart a.step b.step step in
            let same : holder_count noted b.hart a.step ≡ holder_count noted a.hart a.step = ap (λ h. holder_count noted h a.step) hart in
            let is : is_held need noted a ≡ true = le-leb need (holder_count noted a.hart a.step) (omega (arith, enough, fewer, same)) in
            let no_way : true ≡ false = sym is ∙ none in cc
        | inr is ↦ is
      ]

  all_back : (a : Output) (xs : List Output) → Each (Follows a) xs → is_held need noted a ≡ false →
      (filter (is_held need noted) xs ≡ []) × (filter (is_not_held need noted) xs ≡ xs)
  all_back a [] all none = (refl, refl)
  all_back a (x ∷ xs) (first, rest) none =
      let rec = all_back a xs rest none in
      let is = held_back a x first none in (
        ap (λ b. cond b (x ∷ filter (is_held need noted) xs) (filter (is_held need noted) xs)) is ∙ rec.0,
        ap (λ b. cond (not b) (x ∷ filter (is_not_held need noted) xs) (filter (is_not_held need noted) xs)) is ∙ ap (λ ys. x ∷ ys) rec.1,
      )

  -- those that go out are the first
  in_front : (xs : List Output) → EachPair Follows xs → filter (is_held need noted) xs ++ filter (is_not_held need noted) xs ≡ xs
  in_front [] all = refl
  in_front (x ∷ xs) (first, rest) = by (in_front xs rest) (is_held need noted x) refl
    where
      by : filter (is_held need noted) xs ++ filter (is_not_held need noted) xs ≡ xs → (b : Bool) → is_held need noted x ≡ b →
          cond b (x ∷ filter (is_held need noted) xs) (filter (is_held need noted) xs) ++
          cond (not b) (x ∷ filter (is_not_held need noted) xs) (filter (is_not_held need noted) xs) ≡ x ∷ xs
      by rec true is = ap (λ ys. x ∷ ys) rec
      by rec false is =
          let both = all_back x xs first is in
          ap (λ ys. ys ++ x ∷ filter (is_not_held need noted) xs) both.0 ∙ ap (λ ys. x ∷ ys) both.1

  -- the outputs that were offered are the same after a release
  pub still_offered : (g h : GateView) (m : MachineState) → AreRising m → AreOffered g m →
      ((hart : ℕ) → line_of h hart ≡ after_release need noted (line_of g hart)) → (hart : ℕ) → offered_of h hart ≡ offered_of g hart
  still_offered g h m rising offered lines hart =
      let follow : EachPair Follows (offered_of g hart) =
      subst (EachPair Follows) (sym (offered hart))
      (pairs_take (length (offered_of g hart)) (numbered hart (said_at m hart)) (numbers_follow hart 0 (said_at m hart) (rising hart))) in
      let line : LineView = line_of g hart in
      let waits : EachPair Follows line.waiting =
      pairs_right line.gone line.waiting (pairs_right line.passed (line.gone ++ line.waiting) follow) in
      ap offered_in (lines hart)
      ∙ ap (λ ws. line.passed ++ ws)
      (append_assoc line.gone (filter (is_held need noted) line.waiting) (filter (is_not_held need noted) line.waiting)
      ∙ ap (λ ws. line.gone ++ ws) (in_front line.waiting waits))

-- so they are still the machine's first
pub released_offered : (g h : GateView) (m : MachineState) → AreOffered g m → ((hart : ℕ) → offered_of h hart ≡ offered_of g hart) → AreOffered h m
released_offered g h m offered same hart =
    same hart ∙ offered hart ∙ ap (λ os. take (length os) (numbered hart (said_at m hart))) (sym (same hart))

-- where all were offered, the first were
pub all_stay : (g : GateView) (m : MachineState) → AreAllOffered g m → AreOffered g m
all_stay g m all hart =
    let many = ap length (all hart) in
    all hart ∙ sym (take_all (numbered hart (said_at m hart)) (length (offered_of g hart)) (omega (arith, many)))
