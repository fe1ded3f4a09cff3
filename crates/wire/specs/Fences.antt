-- Fences, and the last one of a file of fences.
use Rattle.std.specs.Prelude.{◌≡◌, ◌⊎◌, ℕ, ◌≤◌, List, [], ◌∷◌, codes, decimal, eqb}
use Rattle.std.specs.List.{AllByRecursion, slice_split}
use Rattle.ft_types.specs.Guests.{GuestParts}
use Rattle.ft_types.specs.Text.{line}
use Rattle.wire.specs.Fields.{spelling}
use Rattle.wire.specs.Seals.{sealed}
use Rattle.wire.specs.Values.{IsTerm}

-- fence T S
abbrev pub fence_text : GuestParts → ℕ → List ℕ
fence_text guest t = sealed guest (spelling (codes "fence" ∷ decimal t ∷ []))

abbrev pub SaysFence : GuestParts → List ℕ → ℕ → Type 0
SaysFence guest text t = IsTerm t × (text ≡ fence_text guest t)

-- what is added to a file of fences: a line feed, which ends what a writer that died has left, and the fence's line
abbrev pub added_fence : GuestParts → ℕ → List ℕ
added_fence guest t = 10 ∷ line (fence_text guest t)

-- what stands between the line feeds of bytes: the texts of their lines, and what stands behind the last line feed
abbrev pub texts_of : List ℕ → List (List ℕ)
texts_of bytes = slice_split (λ b. eqb b 10) bytes

-- none of the texts is a fence of a greater term
abbrev pub NoneAbove : GuestParts → ℕ → List (List ℕ) → Type 0
NoneAbove guest last texts = AllByRecursion (λ text. (t : ℕ) → SaysFence guest text t → t ≤ last) texts

-- one of the texts is the fence of this term
abbrev pub HasFence : GuestParts → ℕ → List (List ℕ) → Type 0
HasFence guest t [] = ⊥
HasFence guest t (text ∷ texts) = SaysFence guest text t ⊎ HasFence guest t texts

-- the greatest term of the fences among the texts, or 0 where none of them is one
pub record IsGreatest (guest : GuestParts) (last : ℕ) (texts : List (List ℕ)) : Type 0 where
  pub above : NoneAbove guest last texts
  pub one : (last ≡ 0) ⊎ HasFence guest last texts

-- The last fence of a file of fences. What stands behind the last line feed counts too: it is a fence as soon as a line feed is added.
abbrev pub IsLastFence : GuestParts → List ℕ → ℕ → Type 0
IsLastFence guest bytes last = IsGreatest guest last (texts_of bytes)
