-- Rows that begin as another, with more behind it.
use Rattle.std.proofs.Common.{◌≡◌, ◌≤◌, ◌<◌, ◌+◌, ◌++◌, ℕ, List, All, length, map, zip, take, drop, get_or, sym, ap, ◌∙◌, arith, take-append-drop}
use Rattle.std.proofs.Common.{length-append, length-drop}
use Rattle.std.proofs.Math.Seq.{take-append_seam, drop-append_seam}
use Rattle.std.proofs.lemmas.List.{map-append, get_or-drop}
use Rattle.std.proofs.lemmas.List.Elements.{All-map}
use Rattle.std.proofs.lemmas.Slice.Zip.{firsts-zip, seconds-zip, get_or-zip}
use Rattle.input_log.specs.declared.Input.{Input}
use Rattle.input_log.specs.Inputs.{HearsMore}
use Rattle.input_log.proofs.Rows.{length_zip, zip_take}

-- the counts and the inputs go on so
pub record GoOn (n : List ℕ) (b : List Input) (count : ℕ) (m : List ℕ) (a : List Input) : Type 0 where
  pub many : length n ≤ length m
  pub counts : take (length n) m ≡ n
  pub inputs : take (length n) a ≡ b
  pub later : All (λ k. count ≤ k) (drop (length n) m)

module _ (n : List ℕ) (b : List Input) (count : ℕ) (m : List ℕ) (a : List Input) (was : length b ≡ length n) (is : length a ≡ length m) where
  pub go_on : HearsMore (zip n b) count (zip m a) → GoOn n b count m a
  go_on (more, same, from) =
      let firsts = map (λ (x : ℕ × Input). x.0) more in
      let seconds = map (λ (x : ℕ × Input). x.1) more in
      let counts : m ≡ n ++ firsts =
      sym (firsts-zip m a is) ∙ ap (map (λ (x : ℕ × Input). x.0)) same ∙ map-append (λ (x : ℕ × Input). x.0) (zip n b) more
      ∙ ap (λ (l : List ℕ). l ++ firsts) (firsts-zip n b was) in
      let inputs : a ≡ b ++ seconds =
      sym (seconds-zip m a is) ∙ ap (map (λ (x : ℕ × Input). x.1)) same ∙ map-append (λ (x : ℕ × Input). x.1) (zip n b) more
      ∙ ap (λ (l : List Input). l ++ seconds) (seconds-zip n b was) in
      record {
        many = let long : length m ≡ length (n ++ firsts) = ap length counts in omega (arith, length-append n firsts);
        counts = ap (take (length n)) counts ∙ take-append_seam n firsts;
        inputs = ap (take (length n)) inputs ∙ ap (λ (k : ℕ). take k (b ++ seconds)) (sym was) ∙ take-append_seam b seconds;
        later = rw (counts, drop-append_seam n firsts) (All-map (λ (k : ℕ). count ≤ k) (λ (x : ℕ × Input). x.0) more from);
      }

  pub hears_more : GoOn n b count m a → HearsMore (zip n b) count (zip m a)
  hears_more on = (
    drop (length n) (zip m a),
    sym (take-append-drop (length n) (zip m a))
        ∙ ap (λ (l : List (ℕ × Input)). l ++ drop (length n) (zip m a))
        (sym (zip_take (length n) m a is) ∙ ap (λ (l : List ℕ). zip l (take (length n) a)) on.counts ∙ ap (λ (l : List Input). zip n l) on.inputs),
    λ k d below.
        let small : length n + k < length m = omega (arith, length-drop (length n) (zip m a), length_zip m a is) in
        let from : count ≤ get_or (drop (length n) m) k d.0 = on.later k d.0 (omega (arith, length-drop (length n) m)) in
        rw (get_or-drop (length n) (zip m a) k d, get_or-zip m a (length n + k) d small (omega arith)) (rw (get_or-drop (length n) m k d.0) at from),
  )
