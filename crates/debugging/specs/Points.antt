-- Points that a session has.
use Rattle.std.specs.Prelude.{◌≡◌, ◌⊎◌, ℕ, ◌==◌, ◌&&◌, nat_lt, Bool, true, false, not, filter, if◌then◌else◌, List, [], ◌∷◌, ◌++◌, length, codes}
use Rattle.moments.specs.declared.points.Point.{Point}
use Rattle.moments.specs.declared.points.Point.TheVariants.{Break, Watch}
use Rattle.moments.specs.declared.points.Watched.{Watched}
use Rattle.moments.specs.declared.points.Watched.TheVariants.{Read, Write, Access}
use Rattle.debugging.specs.Asked.{IsRange, HasNone}
use Rattle.debugging.specs.declared.points.TheConstants.{POINT_LIMIT}

-- `2`, `3` or `4`
abbrev pub watched_kind : Watched → ℕ
watched_kind Write = 50
watched_kind Read = 51
watched_kind Access = 52

abbrev pub is_same_point : Point → Point → Bool
is_same_point (Break address) (Break other) = address == other
is_same_point (Watch watched bytes) (Watch other others) =
    (watched_kind watched == watched_kind other) && (bytes.first == others.first) && (bytes.length == others.length)
is_same_point _ _ = false

abbrev pub points_without : Point → List Point → List Point
points_without point points = filter (λ other. not (is_same_point other point)) points

-- fewer than the limit are others
abbrev pub has_room : Point → List Point → Bool
has_room point points = nat_lt (length (points_without point points)) POINT_LIMIT

-- the point behind the others, where there is room
abbrev pub points_with : Point → List Point → List Point
points_with point points = if has_room point points then points_without point points ++ point ∷ [] else points_without point points

-- `0,A,K` and `1,A,K` for a breakpoint, `2,A,L` to `4,A,L` for bytes that are watched
abbrev pub IsPoint : List ℕ → Point → Type 0
IsPoint text (Break address) = (range : List ℕ) × (many : ℕ) ×
    ((text ≡ codes "0," ++ range) ⊎ (text ≡ codes "1," ++ range)) × HasNone 59 range × IsRange range address many
IsPoint text (Watch watched bytes) = (range : List ℕ) ×
    (text ≡ watched_kind watched ∷ 44 ∷ range) × HasNone 59 range × IsRange range bytes.first bytes.length
