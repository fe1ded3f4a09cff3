-- Outputs of a machine that are among others.
use Rattle.std.proofs.Common.{◌≡◌, ℕ, ◌+◌, ◌<◌, ◌≤◌, Bool, true, false, List, [], ◌∷◌, ◌++◌, filter, if◌then◌else◌, length, get_or, take}
use Rattle.std.proofs.Common.{ap, ◌∙◌, append-nil, length-append, arith}
use Rattle.std.proofs.lemmas.List.Elements.{filter-append}
use Rattle.std.proofs.lemmas.List.Sums.{count_by-le-length, length-filter}
use Rattle.std.specs.List.{enumerate_from, flat_map}
use Rattle.ft_types.specs.declared.output.Output.{Output}
use Rattle.rv32_hart.specs.Hart.{Hart}
use Rattle.primary.specs.Outputs.{numbered}
use Rattle.pair.specs.Released.{output_at}
use Rattle.primary.proofs.Offers.{numbered_many}
use Rattle.primary.proofs.Told.{numbered_more, since_more}

-- the outputs of these harts
abbrev pub outputs_of : List Hart → List Output
outputs_of harts = flat_map (λ h. numbered h.0 h.1.outputs) (enumerate_from 0 harts)

one_more : (hart : ℕ) (said : List (ℕ × ℕ)) (i : ℕ) → i < length said →
    numbered hart (take (i + 1) said) ≡ numbered hart (take i said) ++ output_at hart said i ∷ []
one_more hart said i within =
    numbered_more hart 0 said i (0, 0) within
    ∙ ap (λ (k : ℕ). numbered hart (take i said) ++ record { hart = hart; number = k; step = (get_or said i (0, 0)).0; word = (get_or said i (0, 0)).1 } ∷ [])
    (omega arith)

-- one output more, which is kept
pub kept_more : (p : Output → Bool) (hart : ℕ) (said : List (ℕ × ℕ)) (i : ℕ) → i < length said → p (output_at hart said i) ≡ true →
    filter p (numbered hart (take (i + 1) said)) ≡ filter p (numbered hart (take i said)) ++ output_at hart said i ∷ []
kept_more p hart said i within is =
    ap (filter p) (one_more hart said i within)
    ∙ filter-append p (numbered hart (take i said)) (output_at hart said i ∷ [])
    ∙ ap (λ (b : Bool). filter p (numbered hart (take i said)) ++ (if b then output_at hart said i ∷ [] else [])) is

-- one output more, which is left out
pub left_more : (p : Output → Bool) (hart : ℕ) (said : List (ℕ × ℕ)) (i : ℕ) → i < length said → p (output_at hart said i) ≡ false →
    filter p (numbered hart (take (i + 1) said)) ≡ filter p (numbered hart (take i said))
left_more p hart said i within is =
    ap (filter p) (one_more hart said i within)
    ∙ filter-append p (numbered hart (take i said)) (output_at hart said i ∷ [])
    ∙ ap (λ (b : Bool). filter p (numbered hart (take i said)) ++ (if b then output_at hart said i ∷ [] else [])) is
    ∙ append-nil (filter p (numbered hart (take i said)))

-- one hart more
pub outputs_more : (harts : List Hart) (i : ℕ) (h : Hart) → i < length harts → h ≡ get_or harts i h →
    outputs_of (take (i + 1) harts) ≡ outputs_of (take i harts) ++ numbered i h.outputs
outputs_more harts i h within is = since_more [] harts i h within is

-- how many they are
pub count_more : (harts : List Hart) (i : ℕ) (h : Hart) → i < length harts → h ≡ get_or harts i h →
    length (outputs_of (take (i + 1) harts)) ≡ length (outputs_of (take i harts)) + length h.outputs
count_more harts i h within is =
    ap length (outputs_more harts i h within is)
    ∙ length-append (outputs_of (take i harts)) (numbered i h.outputs)
    ∙ ap (λ (n : ℕ). length (outputs_of (take i harts)) + n) (numbered_many i h.outputs)

-- no more are left of outputs than there were
pub no_more : (p : Output → Bool) (xs : List Output) → length (filter p xs) ≤ length xs
no_more p xs = let few = count_by-le-length p xs in let kept = length-filter p xs in omega (arith, few, kept)
