-- What packets ask for: actions, points, and the kinds of packets.
use Rattle.std.proofs.Common.{◌≡◌, ◌⊎◌, inl, inr, ℕ, ◌<◌, ◌==◌, ◌||◌, Bool, true, false, Option, None, Some, List, [], ◌∷◌, ◌++◌, refl, sym, ap, subst, ◌∙◌, arith}
use Rattle.std.specs.Prelude.{codes}
use Rattle.debugging.specs.declared.commands.Command.{Command}
use Rattle.debugging.specs.declared.commands.Command.TheVariants as command
use Rattle.debugging.specs.declared.commands.Other.{Other}
use Rattle.debugging.specs.declared.commands.Other.TheVariants as other
use Rattle.debugging.specs.declared.commands.Show.TheVariants as show
use Rattle.debugging.specs.declared.commands.Note.TheVariants as note
use Rattle.debugging.specs.declared.commands.Way.TheVariants as way
use Rattle.debugging.specs.declared.commands.Note.{Note}
use Rattle.debugging.specs.declared.numbers.Thread.{Thread}
use Rattle.debugging.specs.declared.numbers.Thread.TheVariants as thread
use Rattle.debugging.specs.declared.commands.Way.{Way}
use Rattle.debugging.specs.Asked.{HasNone, IsHex, IsRange, IsThread, IsFirstAction, IsAction, AsksForAction, AsksToGo}
use Rattle.moments.specs.declared.points.Point.{Point}
use Rattle.debugging.specs.Points.{IsPoint}
use Rattle.debugging.specs.Notes.{AsksToNote}
use Rattle.debugging.specs.declared.commands.Kind.{Kind}
use Rattle.debugging.specs.declared.commands.Kind.TheVariants as kinds
use Rattle.debugging.specs.Commands.{kind_of, AsksFor}
use Rattle.debugging.proofs.Changes.{changing}
use Rattle.debugging.proofs.Digits.{cut_is, uncut_is}

-- what stands before the first `;` is the first action
pub first_action : (text front behind action : List ℕ) → HasNone 59 front → (text ≡ front ++ 59 ∷ behind) ⊎ ((text ≡ front) × (behind ≡ [])) →
    IsFirstAction text action → front ≡ action
first_action text front behind action p cut (none, inl whole) =
    (uncut_is 59 text front behind (subst (λ (t : List ℕ). HasNone 59 t) (sym whole) none) cut).0 ∙ whole
first_action text front behind action p cut (none, inr (rest, is)) = (cut_is 59 text front behind action rest p cut none is).0

-- what stands before the first `:` of an action is its kind, and behind it stands the thread
pub action_parts : (kind : ℕ) (action front behind named : List ℕ) → (kind ≡ 58 → ⊥) → HasNone 58 front →
    (action ≡ front ++ 58 ∷ behind) ⊎ ((action ≡ front) × (behind ≡ [])) → IsAction action kind named → (front ≡ kind ∷ []) × (behind ≡ named)
action_parts kind action front behind named other p cut (inl is) =
    let whole = uncut_is 58 action front behind (subst (λ (t : List ℕ). HasNone 58 t) (sym is.0) (other, tt)) cut in
    (whole.0 ∙ is.0, whole.1 ∙ sym is.1)
action_parts kind action front behind named other p cut (inr is) = cut_is 58 action front behind (kind ∷ []) named p cut (other, tt) is

-- behind `vCont` stand the actions
pub long_parts : (packet front behind : List ℕ) (kind : ℕ) (named : List ℕ) → HasNone 59 front →
    (packet ≡ front ++ 59 ∷ behind) ⊎ ((packet ≡ front) × (behind ≡ [])) → AsksForAction packet kind named →
    (front ≡ codes "vCont") × ((action : List ℕ) × IsFirstAction behind action × IsAction action kind named)
long_parts packet front behind kind named p cut (actions, action, is, first, there) =
    let none : HasNone 59 (codes "vCont") = (
      λ (e : 118 ≡ 59). omega (arith, e),
      (
        λ (e : 67 ≡ 59). omega (arith, e),
        (
          λ (e : 111 ≡ 59). omega (arith, e),
          (λ (e : 110 ≡ 59). omega (arith, e), (λ (e : 116 ≡ 59). omega (arith, e), tt)),
        ),
      ),
    ) in
    let parts = cut_is 59 packet front behind (codes "vCont") actions p cut none is in
    (parts.0, (action, subst (λ (t : List ℕ). IsFirstAction t action) (sym parts.1) first, there))

-- ---- kinds of packets

-- the kind of packets that ask for the command
abbrev class : Command → Kind
class (command.Show shown) = kinds.Shows
class command.Change = kinds.Changes
class (command.Note noted) = kinds.Notes
class (command.Go w t) = kinds.Goes
class (command.Other other.Unknown) = kinds.Nothing
class (command.Other another) = kinds.Asks

-- a packet that asks for the command, by its first byte
abbrev HasOpening : List ℕ → Command → Type 0
HasOpening packet c = (first : ℕ) × (rest : List ℕ) × (packet ≡ first ∷ rest) × (kind_of first ≡ class c)

opened : (packet : List ℕ) (c : Command) → AsksFor packet c → HasOpening packet c
opened packet (command.Show show.Why) asks = (63, [], asks, refl)
opened packet (command.Show show.Registers) asks = (103, [], asks, refl)
opened packet (command.Show (show.Register n)) asks = (112, asks.0, asks.1, refl)
opened packet (command.Show (show.Memory range)) asks = (109, asks.0, asks.1, refl)
opened packet command.Change asks = (asks.0, asks.1, asks.3, changing asks.0 asks.2)
opened packet (command.Note (note.Choose kind t)) asks = (72, kind ∷ asks.0, asks.1, refl)
opened packet (command.Note (note.IsThere t)) asks = (84, asks.0, asks.1, refl)
opened packet (command.Note (note.Insert point)) asks = (90, asks.0, asks.1, refl)
opened packet (command.Note (note.Remove point)) asks = (122, asks.0, asks.1, refl)
opened packet (command.Go way.Step t) (inl asks) = (115, [], asks.0, refl)
opened packet (command.Go way.Step t) (inr asks) = (118, _, asks.1.2, refl)
opened packet (command.Go way.Continue t) (inl asks, none) = (99, [], asks, refl)
opened packet (command.Go way.Continue t) (inr asks, none) = (118, _, asks.1.2, refl)
opened packet (command.Go way.StepBack t) asks = (98, _, asks.0, refl)
opened packet (command.Go way.ContinueBack t) asks = (98, _, asks.0, refl)
opened packet (command.Other other.Query) (kind, rest, inl is, asks) = (kind, rest, asks, subst (λ (k : ℕ). kind_of k ≡ kinds.Asks) (sym is) refl)
opened packet (command.Other other.Query) (kind, rest, inr is, asks) = (kind, rest, asks, subst (λ (k : ℕ). kind_of k ≡ kinds.Asks) (sym is) refl)
opened packet (command.Other other.Detach) asks = (68, [], asks, refl)
opened packet (command.Other other.Kill) asks = (107, [], asks, refl)
opened packet (command.Other other.Wrong) asks = absurd asks
opened packet (command.Other other.Unknown) (first, rest, unknown, asks) = (first, rest, asks, unknown)

-- so is the kind of this one
opens : (packet : List ℕ) (first : ℕ) (rest : List ℕ) (c : Command) → packet ≡ first ∷ rest → AsksFor packet c → kind_of first ≡ class c
opens packet first rest c is asks =
    let o = opened packet c asks in
    let same : o.0 ≡ first = cc in
    subst (λ (k : ℕ). kind_of k ≡ class c) same o.3

-- what would change the past asks for that alone
pub change_asked : (packet : List ℕ) (kind : ℕ) (rest : List ℕ) (c : Command) → packet ≡ kind ∷ rest →
    kind_of kind ≡ kinds.Changes → AsksFor packet c → command.Change ≡ c
change_asked packet kind rest command.Change is changes asks = refl
change_asked packet kind rest (command.Show shown) is changes asks =
    let o = opens packet kind rest (command.Show shown) is asks in absurd cc
change_asked packet kind rest (command.Note noted) is changes asks =
    let o = opens packet kind rest (command.Note noted) is asks in absurd cc
change_asked packet kind rest (command.Go w t) is changes asks =
    let o = opens packet kind rest (command.Go w t) is asks in absurd cc
change_asked packet kind rest (command.Other other.Query) is changes asks =
    let o = opens packet kind rest (command.Other other.Query) is asks in absurd cc
change_asked packet kind rest (command.Other other.Detach) is changes asks =
    let o = opens packet kind rest (command.Other other.Detach) is asks in absurd cc
change_asked packet kind rest (command.Other other.Kill) is changes asks =
    let o = opens packet kind rest (command.Other other.Kill) is asks in absurd cc
change_asked packet kind rest (command.Other other.Unknown) is changes asks =
    let o = opens packet kind rest (command.Other other.Unknown) is asks in absurd cc
change_asked packet kind rest (command.Other other.Wrong) is changes asks = absurd asks

-- what shows registers or memory is read behind its first byte
pub show_asked : (packet : List ℕ) (kind : ℕ) (rest : List ℕ) (c d : Command) → packet ≡ kind ∷ rest → kind_of kind ≡ kinds.Shows →
    (kind ≡ 63 → rest ≡ [] → d ≡ command.Show show.Why) → (kind ≡ 103 → rest ≡ [] → d ≡ command.Show show.Registers) → ((n : ℕ) → kind ≡ 112 → IsHex rest n → d ≡ command.Show (show.Register n)) →
    ((address many : ℕ) → kind ≡ 109 → IsRange rest address many → d ≡ command.Show (show.Memory (record { first = address; length = many }))) →
    AsksFor packet c → d ≡ c
show_asked packet kind rest (command.Show show.Why) d is shows why registers register memory asks =
    let first : kind ≡ 63 = cc in let behind : rest ≡ [] = cc in why first behind
show_asked packet kind rest (command.Show show.Registers) d is shows why registers register memory asks =
    let first : kind ≡ 103 = cc in let behind : rest ≡ [] = cc in registers first behind
show_asked packet kind rest (command.Show (show.Register n)) d is shows why registers register memory (number, asks, hex) =
    let first : kind ≡ 112 = cc in let behind : number ≡ rest = cc in register n first (subst (λ (t : List ℕ). IsHex t n) behind hex)
show_asked packet kind rest (command.Show (show.Memory range)) d is shows why registers register memory (text, asks, there) =
    let first : kind ≡ 109 = cc in let behind : text ≡ rest = cc in
    memory range.first range.length first (subst (λ (t : List ℕ). IsRange t range.first range.length) behind there)
show_asked packet kind rest command.Change d is shows why registers register memory asks =
    let o = opens packet kind rest command.Change is asks in absurd cc
show_asked packet kind rest (command.Note noted) d is shows why registers register memory asks =
    let o = opens packet kind rest (command.Note noted) is asks in absurd cc
show_asked packet kind rest (command.Go w t) d is shows why registers register memory asks =
    let o = opens packet kind rest (command.Go w t) is asks in absurd cc
show_asked packet kind rest (command.Other other.Query) d is shows why registers register memory asks =
    let o = opens packet kind rest (command.Other other.Query) is asks in absurd cc
show_asked packet kind rest (command.Other other.Detach) d is shows why registers register memory asks =
    let o = opens packet kind rest (command.Other other.Detach) is asks in absurd cc
show_asked packet kind rest (command.Other other.Kill) d is shows why registers register memory asks =
    let o = opens packet kind rest (command.Other other.Kill) is asks in absurd cc
show_asked packet kind rest (command.Other other.Unknown) d is shows why registers register memory asks =
    let o = opens packet kind rest (command.Other other.Unknown) is asks in absurd cc
show_asked packet kind rest (command.Other other.Wrong) d is shows why registers register memory asks = absurd asks

-- what is noted is read behind the first byte
pub note_asked : (packet : List ℕ) (kind : ℕ) (rest : List ℕ) (c d : Command) → packet ≡ kind ∷ rest →
    kind_of kind ≡ kinds.Notes →
    ((k : ℕ) (named : List ℕ) (t : Thread) → kind ≡ 72 → rest ≡ k ∷ named → IsThread named t → d ≡ command.Note (note.Choose k t)) →
    ((t : Thread) → kind ≡ 84 → IsThread rest t → d ≡ command.Note (note.IsThere t)) →
    ((point : Point) → kind ≡ 90 → IsPoint rest point → d ≡ command.Note (note.Insert point)) →
    ((point : Point) → kind ≡ 122 → IsPoint rest point → d ≡ command.Note (note.Remove point)) → AsksFor packet c → d ≡ c
note_asked packet kind rest (command.Show shown) d is notes choose there insert remove asks =
    let o = opens packet kind rest (command.Show shown) is asks in absurd cc
note_asked packet kind rest command.Change d is notes choose there insert remove asks =
    let o = opens packet kind rest command.Change is asks in absurd cc
note_asked packet kind rest (command.Note (note.Choose k t)) d is notes choose there insert remove (named, asks, names) =
    let first : kind ≡ 72 = cc in let behind : rest ≡ k ∷ named = cc in choose k named t first behind names
note_asked packet kind rest (command.Note (note.IsThere t)) d is notes choose there insert remove (named, asks, names) =
    let first : kind ≡ 84 = cc in let behind : named ≡ rest = cc in there t first (subst (λ (x : List ℕ). IsThread x t) behind names)
note_asked packet kind rest (command.Note (note.Insert point)) d is notes choose there insert remove (text, asks, names) =
    let first : kind ≡ 90 = cc in let behind : text ≡ rest = cc in insert point first (subst (λ (x : List ℕ). IsPoint x point) behind names)
note_asked packet kind rest (command.Note (note.Remove point)) d is notes choose there insert remove (text, asks, names) =
    let first : kind ≡ 122 = cc in let behind : text ≡ rest = cc in remove point first (subst (λ (x : List ℕ). IsPoint x point) behind names)
note_asked packet kind rest (command.Go w t) d is notes choose there insert remove asks =
    let o = opens packet kind rest (command.Go w t) is asks in absurd cc
note_asked packet kind rest (command.Other other.Query) d is notes choose there insert remove asks =
    let o = opens packet kind rest (command.Other other.Query) is asks in absurd cc
note_asked packet kind rest (command.Other other.Detach) d is notes choose there insert remove asks =
    let o = opens packet kind rest (command.Other other.Detach) is asks in absurd cc
note_asked packet kind rest (command.Other other.Kill) d is notes choose there insert remove asks =
    let o = opens packet kind rest (command.Other other.Kill) is asks in absurd cc
note_asked packet kind rest (command.Other other.Unknown) d is notes choose there insert remove asks =
    let o = opens packet kind rest (command.Other other.Unknown) is asks in absurd cc
note_asked packet kind rest (command.Other other.Wrong) d is notes choose there insert remove asks = absurd asks

-- what is a query or ends the session asks for that
pub other_asked : (packet : List ℕ) (kind : ℕ) (rest : List ℕ) (c : Command) (d : Other) → packet ≡ kind ∷ rest →
    kind_of kind ≡ kinds.Asks → ((kind ≡ 113) ⊎ (kind ≡ 81) → d ≡ other.Query) → (kind ≡ 68 → d ≡ other.Detach) →
    (kind ≡ 107 → d ≡ other.Kill) → AsksFor packet c → command.Other d ≡ c
other_asked packet kind rest (command.Other other.Query) d is others query detach kill (first, behind, which, asks) =
    let same : first ≡ kind = cc in ap command.Other (query (subst (λ (k : ℕ). (k ≡ 113) ⊎ (k ≡ 81)) same which))
other_asked packet kind rest (command.Other other.Detach) d is others query detach kill asks = let first : kind ≡ 68 = cc in ap command.Other (detach first)
other_asked packet kind rest (command.Other other.Kill) d is others query detach kill asks = let first : kind ≡ 107 = cc in ap command.Other (kill first)
other_asked packet kind rest (command.Other other.Wrong) d is others query detach kill asks = absurd asks
other_asked packet kind rest (command.Other other.Unknown) d is others query detach kill asks =
    let o = opens packet kind rest (command.Other other.Unknown) is asks in absurd cc
other_asked packet kind rest command.Change d is others query detach kill asks =
    let o = opens packet kind rest command.Change is asks in absurd cc
other_asked packet kind rest (command.Show shown) d is others query detach kill asks =
    let o = opens packet kind rest (command.Show shown) is asks in absurd cc
other_asked packet kind rest (command.Note noted) d is others query detach kill asks =
    let o = opens packet kind rest (command.Note noted) is asks in absurd cc
other_asked packet kind rest (command.Go w t) d is others query detach kill asks =
    let o = opens packet kind rest (command.Go w t) is asks in absurd cc

-- what goes somewhere asks for that
pub way_asked : (packet : List ℕ) (kind : ℕ) (rest : List ℕ) (c d : Command) → packet ≡ kind ∷ rest → kind_of kind ≡ kinds.Goes →
    ((w : Way) (t : Thread) → AsksToGo packet w t → d ≡ command.Go w t) → AsksFor packet c → d ≡ c
way_asked packet kind rest (command.Go w t) d is ways goes asks = goes w t asks
way_asked packet kind rest (command.Show shown) d is ways goes asks =
    let o = opens packet kind rest (command.Show shown) is asks in absurd cc
way_asked packet kind rest command.Change d is ways goes asks =
    let o = opens packet kind rest command.Change is asks in absurd cc
way_asked packet kind rest (command.Note noted) d is ways goes asks =
    let o = opens packet kind rest (command.Note noted) is asks in absurd cc
way_asked packet kind rest (command.Other other.Query) d is ways goes asks =
    let o = opens packet kind rest (command.Other other.Query) is asks in absurd cc
way_asked packet kind rest (command.Other other.Detach) d is ways goes asks =
    let o = opens packet kind rest (command.Other other.Detach) is asks in absurd cc
way_asked packet kind rest (command.Other other.Kill) d is ways goes asks =
    let o = opens packet kind rest (command.Other other.Kill) is asks in absurd cc
way_asked packet kind rest (command.Other other.Unknown) d is ways goes asks =
    let o = opens packet kind rest (command.Other other.Unknown) is asks in absurd cc
way_asked packet kind rest (command.Other other.Wrong) d is ways goes asks = absurd asks

-- and what is not known asks for nothing
pub unknown_asked : (packet : List ℕ) (kind : ℕ) (rest : List ℕ) (c : Command) → packet ≡ kind ∷ rest → kind_of kind ≡ kinds.Nothing → AsksFor packet c →
    command.Other other.Unknown ≡ c
unknown_asked packet kind rest (command.Other other.Unknown) is unknown asks = refl
unknown_asked packet kind rest (command.Show shown) is unknown asks =
    let o = opens packet kind rest (command.Show shown) is asks in absurd cc
unknown_asked packet kind rest command.Change is unknown asks =
    let o = opens packet kind rest command.Change is asks in absurd cc
unknown_asked packet kind rest (command.Note noted) is unknown asks =
    let o = opens packet kind rest (command.Note noted) is asks in absurd cc
unknown_asked packet kind rest (command.Go w t) is unknown asks =
    let o = opens packet kind rest (command.Go w t) is asks in absurd cc
unknown_asked packet kind rest (command.Other other.Query) is unknown asks =
    let o = opens packet kind rest (command.Other other.Query) is asks in absurd cc
unknown_asked packet kind rest (command.Other other.Detach) is unknown asks =
    let o = opens packet kind rest (command.Other other.Detach) is asks in absurd cc
unknown_asked packet kind rest (command.Other other.Kill) is unknown asks =
    let o = opens packet kind rest (command.Other other.Kill) is asks in absurd cc
unknown_asked packet kind rest (command.Other other.Wrong) is unknown asks = absurd asks

-- ---- ways

-- a way of a short name, of any thread
pub short_asked : (packet : List ℕ) (w v : Way) (t : Thread) (short : Option Way) → short ≡ Some v → (packet ≡ codes "s" → short ≡ Some way.Step) →
    (packet ≡ codes "c" → short ≡ Some way.Continue) → (packet ≡ codes "bs" → short ≡ Some way.StepBack) →
    (packet ≡ codes "bc" → short ≡ Some way.ContinueBack) → ((rest : List ℕ) → packet ≡ 118 ∷ rest → short ≡ None) → AsksToGo packet w t →
    command.Go v thread.Any ≡ command.Go w t
short_asked packet way.Step v t short there step on back back_on long (inl asks) = let e = step asks.0 in let any = asks.1 in cc
short_asked packet way.Step v t short there step on back back_on long (inr asks) = let e = long _ asks.1.2 in absurd cc
short_asked packet way.Continue v t short there step on back back_on long (inl asks, any) = let e = on asks in cc
short_asked packet way.Continue v t short there step on back back_on long (inr asks, any) = let e = long _ asks.1.2 in absurd cc
short_asked packet way.StepBack v t short there step on back back_on long asks = let e = back asks.0 in let any = asks.1 in cc
short_asked packet way.ContinueBack v t short there step on back back_on long asks = let e = back_on asks.0 in let any = asks.1 in cc

-- and one that an action of `vCont` names
pub long_asked : (packet : List ℕ) (w : Way) (t : Thread) (short : Option Way) (d : Command) → short ≡ None → (packet ≡ codes "s" → short ≡ Some way.Step) →
    (packet ≡ codes "c" → short ≡ Some way.Continue) → (packet ≡ codes "bs" → short ≡ Some way.StepBack) →
    (packet ≡ codes "bc" → short ≡ Some way.ContinueBack) →
    ((named : List ℕ) (t : Thread) → AsksForAction packet 115 named → IsThread named t → d ≡ command.Go way.Step t) →
    ((named : List ℕ) → AsksForAction packet 99 named → d ≡ command.Go way.Continue thread.Any) → AsksToGo packet w t → d ≡ command.Go w t
long_asked packet way.Step t short d none step on back back_on steps goes (inl asks) = let e = step asks.0 in absurd cc
long_asked packet way.Step t short d none step on back back_on steps goes (inr asks) = steps asks.0 t asks.1 asks.2
long_asked packet way.Continue t short d none step on back back_on steps goes (inl asks, any) = let e = on asks in absurd cc
long_asked packet way.Continue t short d none step on back back_on steps goes (inr asks, any) = let e = goes asks.0 asks.1 in cc
long_asked packet way.StepBack t short d none step on back back_on steps goes asks = let e = back asks.0 in absurd cc
long_asked packet way.ContinueBack t short d none step on back back_on steps goes asks = let e = back_on asks.0 in absurd cc
