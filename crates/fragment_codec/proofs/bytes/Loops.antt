-- Reading things one after the other, as a loop does.
use Rattle.std.proofs.Common.{◌≡◌, ℕ, suc, ◌-◌, ◌+◌, ◌≤◌, ◌<◌, List, [], ◌∷◌, ◌++◌, Option, Some, None, refl, sym, ap, ◌∙◌, subst, append_assoc, arith}
use Rattle.std.proofs.lemmas.List.{append-nil}
use Rattle.fragment_codec.specs.declared.reading.BodyError.{BodyError}
use Rattle.fragment_codec.specs.declared.reading.BodyError.TheVariants.{Memory, Broken}
use Rattle.fragment_codec.specs.machinery.Reading.{◌>>=◌, Fails, behind, many}

module _ {X : Type 0} where
  -- what was read before, and what is still read
  abbrev pub with_front : List X → Option (List X × List ℕ) → Option (List X × List ℕ)
  with_front front read = read >>= λ x. Some (front ++ x.0, x.1)

  regroup : (front : List X) (n : X) (read : Option (List X × List ℕ)) → with_front front (read >>= λ x. Some (n ∷ x.0, x.1)) ≡ with_front (front ++
      n ∷ []) read
  regroup front n (Some x) = ap (λ (ns : List X). Some (ns, x.1)) (simp append_assoc)
  regroup front n None = refl

  pub goes_on : (item : List ℕ → Option (X × List ℕ)) (front : List X) (count i : ℕ) (bytes : List ℕ) (n : X) (after : List ℕ)
      (total : Option (List X × List ℕ)) → i < count → item bytes ≡ Some (n, after)
      → with_front front (many item (count - i) bytes) ≡ total → with_front (front ++ n ∷ []) (many item (count - (i + 1)) after) ≡ total
  unfolding many
  goes_on item front count i bytes n after total lt h so_far =
      let k : count - i ≡ suc (count - (i + 1)) = omega arith in
      let one : with_front front (many item (count - i) bytes) ≡ with_front (front ++ n ∷ []) (many item (count - (i + 1)) after) = rw (k, h)
      (regroup front n (many item (count - (i + 1)) after)) in
      sym one ∙ so_far

  -- the same where what was read stands behind what was read before
  pub goes_behind : (item : List ℕ → Option (X × List ℕ)) (front : List X) (count i : ℕ) (bytes : List ℕ) (ns : List X) (after : List ℕ)
      (total : Option (List X × List ℕ)) → i < count → behind front (item bytes) ≡ Some (ns, after)
      → with_front front (many item (count - i) bytes) ≡ total → with_front ns (many item (count - (i + 1)) after) ≡ total
  goes_behind item front count i bytes ns after total lt h so_far = by (item bytes) refl h
    where
      by : (read : Option (X × List ℕ)) → item bytes ≡ read → behind front read ≡ Some (ns, after) →
          with_front ns (many item (count - (i + 1)) after) ≡ total
      by (Some x) is e =
          let p : (front ++ x.0 ∷ [], x.1) ≡ (ns, after) = cc e in
          subst (λ (q : List X × List ℕ). with_front q.0 (many item (count - (i + 1)) q.1) ≡ total) p
          (goes_on item front count i bytes x.0 x.1 total lt is so_far)
      by None is e = cc e

  -- where nothing stands behind it nothing was read
  pub fails_behind : (e : BodyError) (front : List X) (read : Option (X × List ℕ)) → Fails e (behind front read) → Fails e read
  fails_behind Memory front read h = tt
  fails_behind Broken front (Some x) h = cc h
  fails_behind Broken front None h = refl

  pub ends : (item : List ℕ → Option (X × List ℕ)) (e : BodyError) (front : List X) (count i : ℕ) (bytes : List ℕ) (total : Option (List X × List ℕ)) →
      i < count → Fails e (item bytes)
      → with_front front (many item (count - i) bytes) ≡ total → Fails e total
  unfolding many
  ends item Memory front count i bytes total lt h so_far = tt
  ends item Broken front count i bytes total lt h so_far =
      let k : count - i ≡ suc (count - (i + 1)) = omega arith in
      let one : with_front front (many item (count - i) bytes) ≡ None = rw (k, h) refl in
      sym so_far ∙ one

  pub is_done : (item : List ℕ → Option (X × List ℕ)) (front : List X) (count i : ℕ) (bytes : List ℕ) (total : Option (List X × List ℕ)) → count ≤ i →
      with_front front (many item (count - i) bytes) ≡ total → total ≡ Some (front, bytes)
  unfolding many
  is_done item front count i bytes total le so_far =
      let k : count - i ≡ 0 = omega arith in
      let one : with_front front (many item (count - i) bytes) ≡ Some (front, bytes) = rw k (ap (λ (ns : List X). Some (ns, bytes)) (append-nil front)) in
      sym so_far ∙ one
