-- Points that packets name.
use Rattle.std.proofs.Common.{◌≡◌, ◌⊎◌, inl, inr, ℕ, List, [], ◌∷◌, ◌++◌, Option, None, Some, refl, sym, ap, subst, ◌∙◌}
use Rattle.std.specs.Prelude.{codes}
use Rattle.plan_lines.specs.declared.access.Bytes.{Bytes}
use Rattle.moments.specs.declared.points.Point.{Point}
use Rattle.moments.specs.declared.points.Point.TheVariants.{Break, Watch}
use Rattle.moments.specs.declared.points.Watched.TheVariants as watched
use Rattle.debugging.specs.Asked.{IsRange, HasNone}
use Rattle.debugging.specs.Points.{watched_kind, IsPoint}

-- the kind and bytes of a point
abbrev pub Makes : ℕ → Bytes → Point → Type 0
Makes kind bytes (Break address) = ((kind ≡ 48) ⊎ (kind ≡ 49)) × (bytes.first ≡ address)
Makes kind bytes (Watch way those) = (kind ≡ watched_kind way) × (bytes ≡ those)

-- something is not nothing
pub is_none : {T : Type 0} (x : T) → None ≡ Some x → ⊥
is_none x e = absurd cc

-- the bytes of the point that a text names are read behind its first byte
pub bytes_read : (text : List ℕ) (kind : ℕ) (rest : List ℕ) (point : Point) (read : Option Bytes) → text ≡ kind ∷ rest →
    ((range : List ℕ) (address many : ℕ) → rest ≡ 44 ∷ range → HasNone 59 range → IsRange range address many → read ≡ Some (record { first = address; length = many })) →
    IsPoint text point → (bytes : Bytes) × (read ≡ Some bytes) × Makes kind bytes point
bytes_read text kind rest (Break address) read there reads (range, many, inl is, one, r) =
    let first : kind ≡ 48 = cc in let behind : rest ≡ 44 ∷ range = cc in
    (record { first = address; length = many }, reads range address many behind one r, (inl first, refl))
bytes_read text kind rest (Break address) read there reads (range, many, inr is, one, r) =
    let first : kind ≡ 49 = cc in let behind : rest ≡ 44 ∷ range = cc in
    (record { first = address; length = many }, reads range address many behind one r, (inr first, refl))
bytes_read text kind rest (Watch way bytes) read there reads (range, is, one, r) =
    let first : kind ≡ watched_kind way = cc in let behind : rest ≡ 44 ∷ range = cc in
    (bytes, reads range bytes.first bytes.length behind one r, (first, refl))

-- and make it
pub makes_point : (kind : ℕ) (bytes those : Bytes) (point : Point) (made : Option Point) → Some bytes ≡ Some those →
    (((kind ≡ 48) ⊎ (kind ≡ 49)) → made ≡ Some (Break those.first)) → (kind ≡ 50 → made ≡ Some (Watch watched.Write those)) →
    (kind ≡ 51 → made ≡ Some (Watch watched.Read those)) → (kind ≡ 52 → made ≡ Some (Watch watched.Access those)) → Makes kind bytes point → made ≡ Some point
makes_point kind bytes those (Break address) made same breaks writes reads accesses m =
    let e = breaks m.0 in let first = m.1 in let b : bytes ≡ those = cc in let f = ap (λ (x : Bytes). x.first) b in e ∙ ap (λ (a : ℕ). Some (Break a)) (sym f ∙ first)
makes_point kind bytes those (Watch watched.Write given) made same breaks writes reads accesses m = let e = writes m.0 in let b = m.1 in cc
makes_point kind bytes those (Watch watched.Read given) made same breaks writes reads accesses m = let e = reads m.0 in let b = m.1 in cc
makes_point kind bytes those (Watch watched.Access given) made same breaks writes reads accesses m = let e = accesses m.0 in let b = m.1 in cc
