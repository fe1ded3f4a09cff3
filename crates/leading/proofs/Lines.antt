-- The line that hands a log over is the first one.
use Rattle.std.proofs.Common.{◌≡◌, ◌≢◌, ◌<◌, ℕ, List, [], ◌++◌, length, None, Some, Option, sym, ap, subst, ◌∙◌}
use Rattle.std.proofs.Common.{◌↔◌}
use Rattle.std.specs.List.{AllByRecursion}
use Rattle.ft_types.specs.Guests.{GuestParts}
use Rattle.ft_types.specs.Text.{line}
use Rattle.ft_types.specs.declared.names.TheConstants.{KEEPER_LIMIT}
use Rattle.wire.specs.Handed.{SaysHanded}
use Rattle.wire.specs.declared.handed.Handed.{Handed}
use Rattle.fragment_codec.specs.Streams.{Splits}
use Rattle.stations.specs.Handing.{HasLine, IsHandedTo}
use Rattle.stations.proofs.HandedLines.{one_line}
use Rattle.leading.specs.Handed.{IsGiven, IsWhole, IsNotWhole, IsStoreFault}
use Rattle.leading.specs.declared.handed.HandedLog.{HandedLog}
use Rattle.leading.specs.declared.handed.HandedFault.{HandedFault}
use Rattle.leading.specs.declared.handed.HandedFault.TheVariants.{Line, Length, Torn, Frame as FrameAt, OtherGuest, Clash, Memory}

abbrev IsOne : List ℕ → Type 0
IsOne text = AllByRecursion (λ b. b ≡ 10 → ⊥) text

-- a first line that is read as none says nothing
pub says_none : (guest : GuestParts) (bytes text rest : List ℕ) (r : Option Handed) → IsOne text → bytes ≡ line text ++ rest →
    ((h : Handed) → (r ≡ Some h) ↔ SaysHanded guest text h) → r ≡ None → IsNotWhole guest bytes Line
says_none guest bytes text rest r one parts exact none handed behind has =
    let same = one_line text has.text rest behind one has.one (sym parts ∙ has.parts) in
    let some : r ≡ Some handed = (exact handed).1 (subst (λ t. SaysHanded guest t handed) (sym same.0) has.says) in
    let no : None ≡ Some handed = sym none ∙ some in cc

pub has_line : (guest : GuestParts) (bytes text rest : List ℕ) (r : Option Handed) (handed : Handed) → IsOne text → bytes ≡ line text ++ rest →
    ((h : Handed) → (r ≡ Some h) ↔ SaysHanded guest text h) → r ≡ Some handed → HasLine guest bytes handed rest
has_line guest bytes text rest r handed one parts exact some =
    record { text = text; one = one; says = (exact handed).0 some; parts = parts }

-- what was handed over is read as it is
pub given_as : (guest : GuestParts) (bytes : List ℕ) (log : HandedLog) → IsWhole guest bytes log → (keeper term : ℕ) (sent : List ℕ) →
    keeper < KEEPER_LIMIT → IsHandedTo guest keeper term sent bytes → IsGiven guest keeper term sent log
given_as guest bytes log whole keeper term sent small to =
    let is = to.read small whole.handed whole.rest whole.has in
    record {
      frames = whole.frames;
      by = whole.keeper ∙ ap (λ (h : Handed). h.keeper) is.0;
      to = whole.term ∙ ap (λ (h : Handed). h.term) is.0;
      splits = subst (λ (rest : List ℕ). Splits rest whole.frames []) is.1 whole.splits;
      join = whole.join;
    }

-- why the rest has no store
pub not_whole : (guest : GuestParts) (bytes rest : List ℕ) (handed : Handed) (fault : HandedFault) → HasLine guest bytes handed rest →
    length rest ≡ handed.length → IsStoreFault guest rest fault → IsNotWhole guest bytes fault
not_whole guest bytes rest handed Line has all why = absurd cc
not_whole guest bytes rest handed Length has all why = absurd cc
not_whole guest bytes rest handed Torn has all why = (handed, rest, has, all, why)
not_whole guest bytes rest handed (FrameAt fault) has all why = (handed, rest, has, all, why)
not_whole guest bytes rest handed OtherGuest has all why = (handed, rest, has, all, why)
not_whole guest bytes rest handed Clash has all why = (handed, rest, has, all, why)
not_whole guest bytes rest handed Memory has all why = tt
