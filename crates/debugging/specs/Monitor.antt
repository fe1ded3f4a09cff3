-- What `monitor` tells, and where it goes.
use Rattle.std.specs.Prelude.{◌≡◌, ◌⊎◌, ℕ, zero, suc, List, [], ◌∷◌, ◌++◌, ◌<◌, length, Option, Some, None, codes, decimal}
use Rattle.ft_types.specs.Text.{IsNumber}
use Rattle.guest_image.specs.Machine.{MachineState}
use Rattle.hart_lease.specs.Runs.{counts_of}
use Rattle.plan_lines.specs.Line.{LineView, InLeg, steps_of}
use Rattle.moments.specs.Stops.{HasStoppedBack}
use Rattle.plan_lines.specs.declared.access.Bytes.{Bytes}
use Rattle.moments.specs.declared.points.Point.{Point}
use Rattle.moments.specs.declared.points.Point.TheVariants.{Watch}
use Rattle.moments.specs.declared.points.Watched.TheVariants.{Write}
use Rattle.moments.specs.declared.points.Stop.TheVariants.{At, Begin}
use Rattle.debugging.specs.Asked.{HasNone, IsHex}
use Rattle.debugging.specs.Sessions.{SessionView, IsFirstWith, IsOfLine}
use Rattle.debugging.specs.Ways.{NoMomentWith, IsNextOr}

-- a step, by its hart and count, and what is said of it
abbrev pub step_text : List ℕ → ℕ → ℕ → List ℕ
step_text verb hart count = verb ++ codes " hart " ++ decimal hart ++ codes " step " ++ decimal count ++ 10 ∷ []

-- ---- the last step that a point watches

-- going back from the first, the second stands before the last step that the point watches, this one of the hart; or at the beginning, where there is none
abbrev pub IsLastTouch : Point → LineView → LineView → Option (ℕ × ℕ) → Type 0
IsLastTouch point b c (Some (hart, count)) =
    ((number : ℕ) × HasStoppedBack (point ∷ []) b c (At number)) × IsNextOr c hart 0 × (count ≡ counts_of c.stands.machine hart)
IsLastTouch point b c None = HasStoppedBack (point ∷ []) b c Begin

-- what is said of the step that wrote a word last
abbrev pub writer_text : Option (ℕ × ℕ) → List ℕ
writer_text (Some (hart, count)) = step_text (codes "written by") hart count
writer_text None = codes "not written\n"

-- the text says who wrote the word last
abbrev pub TellsWriter : LineView → Bytes → List ℕ → Type 0
TellsWriter b word text = (c : LineView) × (found : Option (ℕ × ℕ)) × IsOfLine b c × IsLastTouch (Watch Write word) b c found × (text ≡ writer_text found)

-- the text behind the first one is one of which P holds
abbrev pub IsPutBehind : List ℕ → List ℕ → (List ℕ → Type 0) → Type 0
IsPutBehind before after P = (text : List ℕ) × (after ≡ before ++ text) × P text

-- ---- where it stands

-- the counts of the first harts, so many
unfoldable pub counts_text : MachineState → ℕ → List ℕ
counts_text m zero = []
counts_text m (suc hart) = counts_text m hart ++ 32 ∷ decimal (counts_of m hart)

-- the moment, and how many there are
abbrev pub moment_text : LineView → List ℕ
moment_text t = codes " moment " ++ decimal t.stands.moment ++ codes " of " ++ decimal (steps_of t.legs)

-- the term, the moment, how many there are, and each hart's count
abbrev pub place_text : ℕ → LineView → List ℕ
place_text term t =
    codes "term " ++ decimal term ++ moment_text t ++ codes " counts" ++ counts_text t.stands.machine (length t.stands.machine.harts) ++ 10 ∷ []

-- where the line stands
abbrev pub TellsPlace : LineView → List ℕ → Type 0
TellsPlace t text = (term : ℕ) × InLeg t (λ leg. term ≡ leg.term) × (text ≡ place_text term t)

-- ---- where it goes

-- it stands where it did, and more is asked of the same hart
abbrev pub HasStayed : SessionView → SessionView → Type 0
HasStayed s t = IsOfLine s.line t.line × (t.line.stands.moment ≡ s.line.stands.moment) × (t.shown ≡ s.shown)

-- at no moment the hart has so many steps, where a number is given
abbrev pub HasNoStep : LineView → ℕ → Option ℕ → Type 0
HasNoStep b hart None = Unit {0}
HasNoStep b hart (Some count) = NoMomentWith b hart count

-- it goes to the first moment at which the hart has so many steps, of which more is asked then; or it stands at this moment, since there is none
abbrev pub HasGoneTo : ℕ → Option ℕ → ℕ → SessionView → SessionView → List ℕ → Type 0
HasGoneTo hart asked now s t text =
    ((count : ℕ) × (asked ≡ Some count) × IsFirstWith t.line hart count × (t.shown ≡ hart) × TellsPlace t.line text) ⊎
    (HasNoStep s.line hart asked × (t.line.stands.moment ≡ now) × (t.shown ≡ s.shown) × (text ≡ codes "no such step\n"))

-- ---- commands

-- what a command asks for, of those that go to a place or tell of one
pub data Told : Type 0 where
  Where : Told
  GoTo : (hart count : ℕ) → Told
  Who : (address : ℕ) → Told

-- `H N`: two numbers with a space between them
pub record IsPlace (text : List ℕ) (hart number : ℕ) : Type 0 where
  pub first : List ℕ
  pub second : List ℕ
  pub one : HasNone 32 first
  pub is : text ≡ first ++ 32 ∷ second
  pub hart_is : IsNumber first hart
  pub number_is : IsNumber second number

-- digits to the base 16, with `0x` before them or without
abbrev pub IsAddress : List ℕ → ℕ → Type 0
IsAddress text address = (digits : List ℕ) × IsHex digits address × ((text ≡ codes "0x" ++ digits) ⊎ ((text ≡ digits) × HasNone 120 digits))

-- `goto H N` and `who ADDRESS`, on a machine with so many harts
abbrev pub IsNamed : ℕ → List ℕ → List ℕ → Told → Type 0
IsNamed harts name words Where = ⊥
IsNamed harts name words (GoTo hart count) = (name ≡ codes "goto") × (hart < harts) × IsPlace words hart count
IsNamed harts name words (Who address) = (name ≡ codes "who") × IsAddress words address

-- the command asks for this
abbrev pub AsksToTell : ℕ → List ℕ → Told → Type 0
AsksToTell harts command told =
    ((command ≡ codes "where") × (told ≡ Where)) ⊎
    ((name : List ℕ) × (words : List ℕ) × HasNone 32 name × (command ≡ name ++ 32 ∷ words) × IsNamed harts name words told)

-- what is said, and the session before and behind it
abbrev pub Tells : Told → SessionView → SessionView → List ℕ → Type 0
Tells Where s t said = (t ≡ s) × TellsPlace s.line said
Tells (GoTo hart count) s t said = HasGoneTo hart (Some count) s.line.stands.moment s t said
Tells (Who address) s t said = HasStayed s t × TellsWriter s.line (record { first = address; length = 4 }) said
