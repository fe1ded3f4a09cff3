-- Outputs, hart by hart and one by one.
use Rattle.std.proofs.Common.{◌≡◌, ℕ, ◌+◌, ◌<◌, List, [], ◌∷◌, ◌++◌, map, length, get_or, take, drop, slice_index, sym, ap, ◌∙◌, arith}
use Rattle.std.proofs.lemmas.List.{take_more, map-append, append-nil, length-take-le}
use Rattle.std.proofs.lemmas.Grind.{flat_map-append}
use Rattle.std.specs.List.{enumerate_from, flat_map}
use Rattle.std.proofs.Math.Path.{fun_ext}
use Rattle.ft_types.specs.declared.output.Output.{Output}
use Rattle.rv32_hart.specs.Hart.{Hart}
use Rattle.guest_image.specs.Machine.{MachineState}
use Rattle.primary.specs.Outputs.{numbered_from, outputs_in, outputs_since}

enumerate_more : {X : Type 0} (n : ℕ) (xs : List X) (x : X) → enumerate_from n (xs ++ x ∷ []) ≡ enumerate_from n xs ++ (n + length xs, x) ∷ []
enumerate_more n [] x = ap (λ (k : ℕ). (k, x) ∷ []) (omega arith)
enumerate_more {X} n (y ∷ xs) x =
    ap (λ (es : List (ℕ × X)). (n, y) ∷ es)
    (enumerate_more (n + 1) xs x ∙ ap (λ (k : ℕ). enumerate_from (n + 1) xs ++ (k, x) ∷ []) (omega arith))

enumerate_taken : {X : Type 0} (n : ℕ) (xs : List X) (i : ℕ) (d : X) → i < length xs →
    enumerate_from n (take (i + 1) xs) ≡ enumerate_from n (take i xs) ++ (n + i, get_or xs i d) ∷ []
enumerate_taken {X} n xs i d within =
    ap (enumerate_from n) (take_more xs i d within)
    ∙ enumerate_more n (take i xs) (get_or xs i d)
    ∙ ap (λ (k : ℕ). enumerate_from n (take i xs) ++ (k, get_or xs i d) ∷ [])
    (let l : length (take i xs) ≡ i = length-take-le i xs (omega arith) in omega (arith, l))

pub numbered_more : (hart first : ℕ) (said : List (ℕ × ℕ)) (i : ℕ) (d : ℕ × ℕ) → i < length said →
    numbered_from hart first (take (i + 1) said) ≡
    numbered_from hart first (take i said) ++ record { hart = hart; number = first + i; step = (get_or said i d).0; word = (get_or said i d).1 } ∷ []
numbered_more hart first said i d within =
    let make : ℕ × (ℕ × ℕ) → Output = λ o. record { hart = hart; number = o.0; step = o.1.0; word = o.1.1 } in
    ap (map make) (enumerate_taken first said i d within) ∙ map-append make (enumerate_from first (take i said)) ((first + i, get_or said i d) ∷ [])

enumerate_first : {X : Type 0} (xs : List X) (i : ℕ) (d : X) → i < length xs →
    enumerate_from 0 (take (i + 1) xs) ≡ enumerate_from 0 (take i xs) ++ (i, get_or xs i d) ∷ []
enumerate_first {X} xs i d within =
    enumerate_taken 0 xs i d within ∙ ap (λ (k : ℕ). enumerate_from 0 (take i xs) ++ (k, get_or xs i d) ∷ []) (omega arith)

pub since_more : (told : List ℕ) (harts : List Hart) (i : ℕ) (h : Hart) → i < length harts → h ≡ get_or harts i h →
    flat_map (λ x. numbered_from x.0 (slice_index told x.0) (drop (slice_index told x.0) x.1.outputs)) (enumerate_from 0 (take (i + 1) harts)) ≡
    flat_map (λ x. numbered_from x.0 (slice_index told x.0) (drop (slice_index told x.0) x.1.outputs)) (enumerate_from 0 (take i harts))
    ++ numbered_from i (slice_index told i) (drop (slice_index told i) h.outputs)
since_more told harts i h within is =
    let make : ℕ × Hart → List Output = λ x. numbered_from x.0 (slice_index told x.0) (drop (slice_index told x.0) x.1.outputs) in
    ap (flat_map make) (enumerate_first harts i h within ∙ ap (λ (x : Hart). enumerate_from 0 (take i harts) ++ (i, x) ∷ []) (sym is))
    ∙ flat_map-append make (enumerate_from 0 (take i harts)) ((i, h) ∷ [])
    ∙ ap (λ (last : List Output). flat_map make (enumerate_from 0 (take i harts)) ++ last) (append-nil (numbered_from i (slice_index told i) (drop (slice_index told i) h.outputs)))

-- where none were told they are all outputs
pub since_none : (told : List ℕ) (machine : MachineState) → ((hart : ℕ) → slice_index told hart ≡ 0) → outputs_since told machine ≡ outputs_in machine
since_none told machine none =
    ap (λ (f : ℕ × Hart → List Output). flat_map f (enumerate_from 0 machine.harts))
    (fun_ext (λ (h : ℕ × Hart). ap (λ (n : ℕ). numbered_from h.0 n (drop n h.1.outputs)) (none h.0)))
