-- What packets ask for.
use Rattle.std.specs.Prelude.{◌≡◌, ◌⊎◌, ℕ, ◌+◌, ◌-◌, ◌<◌, ◌≤◌, ◌^◌, List, [], ◌∷◌, ◌++◌, length, replicate, codes, Contains}
use Rattle.std.specs.List.{AllByRecursion}
use Rattle.ft_types.specs.Text.{word}
use Rattle.debugging.specs.declared.numbers.Thread.{Thread}
use Rattle.debugging.specs.declared.numbers.Thread.TheVariants.{Any, Number, Wrong}
use Rattle.debugging.specs.declared.commands.Way.{Way}
use Rattle.debugging.specs.declared.commands.Way.TheVariants.{Step, Continue, StepBack, ContinueBack}

-- the byte stands nowhere in the text
abbrev pub HasNone : ℕ → List ℕ → Type 0
HasNone byte text = AllByRecursion (λ b. b ≡ byte → ⊥) text

-- the text is this number: one to eight digits to the base 16
pub record IsHex (text : List ℕ) (n : ℕ) : Type 0 where
  pub some : 0 < length text
  pub few : length text ≤ 8
  pub digits : replicate (8 - length text) 48 ++ text ≡ word n
  pub below : n < 2 ^ 32

-- the text names the thread: by a number from 1 on; by 0, `-1` or nothing it names any, or every one
abbrev pub IsThread : List ℕ → Thread → Type 0
IsThread text Any = (text ≡ []) ⊎ IsHex text 0 ⊎ (text ≡ codes "-1")
IsThread text (Number n) = (0 < n) × IsHex text n
IsThread text Wrong = ⊥

-- the thread is that of the hart, of so many harts
abbrev pub IsOfHart : ℕ → Thread → ℕ → Type 0
IsOfHart harts (Number n) hart = (n ≡ hart + 1) × (hart < harts)
IsOfHart harts _ hart = ⊥

-- it is that of none of them
abbrev pub IsOfNone : ℕ → Thread → Type 0
IsOfNone harts thread = (hart : ℕ) → IsOfHart harts thread hart → ⊥

-- `G`, `P`, `M` and `X`: the past would be another
abbrev pub AsksForAnother : List ℕ → Type 0
AsksForAnother packet = (kind : ℕ) × (rest : List ℕ) × Contains (codes "GPMX") kind × (packet ≡ kind ∷ rest)

-- `p N`
abbrev pub AsksForRegister : List ℕ → ℕ → Type 0
AsksForRegister packet n = (number : List ℕ) × (packet ≡ 112 ∷ number) × IsHex number n

-- `A,L`: an address and a length
pub record IsRange (text : List ℕ) (address many : ℕ) : Type 0 where
  pub first : List ℕ
  pub behind : List ℕ
  pub one : HasNone 44 first
  pub is : text ≡ first ++ 44 ∷ behind
  pub address_is : IsHex first address
  pub many_is : IsHex behind many

-- `m A,L`
abbrev pub AsksForMemory : List ℕ → ℕ → ℕ → Type 0
AsksForMemory packet address many = (range : List ℕ) × (packet ≡ 109 ∷ range) × IsRange range address many

-- ---- ways

-- the first of the actions, which stand one behind another with `;` between them
abbrev pub IsFirstAction : List ℕ → List ℕ → Type 0
IsFirstAction actions action = HasNone 59 action × ((actions ≡ action) ⊎ ((rest : List ℕ) × (actions ≡ action ++ 59 ∷ rest)))

-- `K` or `K:T`: an action and its thread
abbrev pub IsAction : List ℕ → ℕ → List ℕ → Type 0
IsAction action kind thread = ((action ≡ kind ∷ []) × (thread ≡ [])) ⊎ (action ≡ kind ∷ 58 ∷ thread)

-- `vCont;A..`, and the first action is of this kind
abbrev pub AsksForAction : List ℕ → ℕ → List ℕ → Type 0
AsksForAction packet kind thread =
    (actions : List ℕ) × (action : List ℕ) × (packet ≡ codes "vCont;" ++ actions) × IsFirstAction actions action × IsAction action kind thread

-- `s`, `c`, `bs`, `bc`, and the actions `s` and `c`: a way, and the thread whose steps are taken
abbrev pub AsksToGo : List ℕ → Way → Thread → Type 0
AsksToGo packet Step thread = ((packet ≡ codes "s") × (thread ≡ Any)) ⊎ ((named : List ℕ) × AsksForAction packet 115 named × IsThread named thread)
AsksToGo packet Continue thread = ((packet ≡ codes "c") ⊎ ((named : List ℕ) × AsksForAction packet 99 named)) × (thread ≡ Any)
AsksToGo packet StepBack thread = (packet ≡ codes "bs") × (thread ≡ Any)
AsksToGo packet ContinueBack thread = (packet ≡ codes "bc") × (thread ≡ Any)
