-- A set that has the keepers noted above a step has as many members as there are.
use Rattle.std.proofs.Common.{◌≡◌, ◌↔◌, ℕ, suc, ◌+◌, ◌<◌, Bool, cond, nat_lt, List, [], ◌∷◌, get_or, count_by, refl, ap, ◌∙◌, zero-le, arith}
use Rattle.std.proofs.lemmas.Bool.{le-ltb, ltb_from_iff}
use Rattle.std.proofs.lemmas.List.Sums.{sum_by-cons}
use Rattle.ft_types.specs.Counts.{count_at}
use Rattle.ft_types.specs.Sets.{IsMember}
use Rattle.output_gate.specs.Gates.{holder_count}

pub members_counted : (flags : List Bool) (noted : List (List ℕ)) (hart step : ℕ) → ((k : ℕ) → IsMember flags k ↔ (step < count_at (get_or noted k []) hart))
    → count_by (λ (member : Bool). member) flags ≡ holder_count noted hart step
members_counted [] [] hart step same = refl
members_counted [] (row ∷ noted) hart step same =
    let f : List ℕ → ℕ = λ row. cond (nat_lt step (count_at row hart)) 1 0 in
    let this : 0 ≡ f row = ap (λ (b : Bool). cond b 1 0) (ltb_from_iff (same 0)) in
    let rest : 0 ≡ holder_count noted hart step = members_counted [] noted hart step (λ k. same (suc k)) in
    let all : holder_count (row ∷ noted) hart step ≡ f row + holder_count noted hart step = sum_by-cons f row noted in omega arith
members_counted (b ∷ flags) [] hart step same =
    let g : Bool → ℕ = λ b. cond b 1 0 in
    let this : g b ≡ 0 = ap g (ltb_from_iff (same 0) ∙ le-ltb step 0 zero-le) in
    let rest : count_by (λ (member : Bool). member) flags ≡ 0 = members_counted flags [] hart step (λ k. same (suc k)) in
    let all : count_by (λ (member : Bool). member) (b ∷ flags) ≡ g b + count_by (λ (member : Bool). member) flags = sum_by-cons g b flags in omega arith
members_counted (b ∷ flags) (row ∷ noted) hart step same =
    let f : List ℕ → ℕ = λ row. cond (nat_lt step (count_at row hart)) 1 0 in let g : Bool → ℕ = λ b. cond b 1 0 in
    let this : g b ≡ f row = ap g (ltb_from_iff (same 0)) in
    let rest = members_counted flags noted hart step (λ k. same (suc k)) in
    let members : count_by (λ (member : Bool). member) (b ∷ flags) ≡ g b + count_by (λ (member : Bool). member) flags = sum_by-cons g b flags in
    let all : holder_count (row ∷ noted) hart step ≡ f row + holder_count noted hart step = sum_by-cons f row noted in omega arith
