-- What `monitor` tells, and where it goes.
use Rattle.std.proofs.Common.{◌≡◌, ◌⊎◌, inl, inr, ℕ, suc, ◌+◌, ◌<◌, List, [], ◌∷◌, ◌++◌, slice_index, Option, None, Some, IfSome, IfNone, Result, Ok, Err, OnOk, refl, sym, ap, subst, ◌∙◌, arith, append_assoc, append-nil}
use Rattle.std.specs.Prelude.{codes, decimal}
use Rattle.guest_image.specs.Machine.{MachineState}
use Rattle.hart_lease.specs.Runs.{counts_of}
use Rattle.plan_lines.specs.Line.{LineView}
use Rattle.moments.specs.Stops.{HasStoppedBack}
use Rattle.moments.specs.declared.points.Point.{Point}
use Rattle.moments.specs.declared.points.Stop.{Stop}
use Rattle.moments.specs.declared.points.Stop.TheVariants.{At, End, Begin}
use Rattle.debugging.specs.Sessions.{SessionView, IsFirstWith}
use Rattle.std.proofs.lemmas.Fmt.{decimal_injective}
use Rattle.ft_types.specs.Text.{IsNumber}
use Rattle.debugging.specs.Asked.{HasNone}
use Rattle.plan_lines.specs.declared.access.Bytes.{Bytes}
use Rattle.debugging.specs.Notes.{harts_of}
use Rattle.debugging.specs.Monitor.{HasGoneTo, HasNoStep, HasStayed, IsPutBehind, TellsPlace, TellsWriter, Tells, counts_text, IsPlace, IsAddress, IsNamed, AsksToTell, Told, Where, GoTo, Who}
use Rattle.debugging.proofs.Digits.{cut_is, uncut_is}

-- where it went back to no point, it is at the beginning
pub at_begin : (points : List Point) (b c : LineView) (stop : Stop) → (stop ≡ Begin) ⊎ (stop ≡ End) → HasStoppedBack points b c stop → HasStoppedBack points b c Begin
at_begin points b c (At number) (inl e) stopped = absurd cc
at_begin points b c (At number) (inr e) stopped = absurd cc
at_begin points b c End is stopped = absurd stopped
at_begin points b c Begin is stopped = stopped

-- it stands where it did, since there is no such step
pub stayed : {U E : Type 0} (r : Result U E) (hart : ℕ) (asked : Option ℕ) (now : ℕ) (s t : SessionView) (before after : List ℕ) → HasNoStep s.line hart asked →
    OnOk r ((t.line.stands.moment ≡ now) × (t.shown ≡ s.shown)) → OnOk r (after ≡ before ++ codes "no such step\n") →
    OnOk r (IsPutBehind before after (HasGoneTo hart asked now s t))
stayed (Ok u) hart asked now s t before after none there told = (codes "no such step\n", told, inr (none, there.0, there.1, refl))
stayed (Err e) hart asked now s t before after none there told = tt

-- ---- counts

-- no count is put yet
pub counts_begin : (m : MachineState) (text : List ℕ) → text ≡ text ++ counts_text m 0
unfolding counts_text
counts_begin m text = sym (append-nil text)

-- one more is put
pub counts_on : (m : MachineState) (hart given count : ℕ) (before text pushed after : List ℕ) → text ≡ before ++ counts_text m hart → pushed ≡ text ++ 32 ∷ [] →
    after ≡ pushed ++ decimal count → given ≡ hart → count ≡ counts_of m given → after ≡ before ++ counts_text m (hart + 1)
unfolding counts_text
counts_on m hart given count before text pushed after p q r e f =
    let one : hart + 1 ≡ suc hart = omega arith in
    let n : count ≡ counts_of m hart = f ∙ ap (counts_of m) e in
    rw (one, r, q, p, n) (append_assoc (before ++ counts_text m hart) (32 ∷ []) (decimal (counts_of m hart)) ∙ append_assoc before (counts_text m hart) (32 ∷ decimal (counts_of m hart)))

-- ---- commands

-- the number that is read is the one that the text is
pub number_read : (text : List ℕ) (read : Option ℕ) → IfSome read (IsNumber text) → IfNone read ((n : ℕ) → IsNumber text n → ⊥) → (n : ℕ) → IsNumber text n → read ≡ Some n
number_read text (Some m) is none n number = ap Some (decimal_injective m n (omega (arith, is.0)) (omega (arith, number.0)) (sym is.1 ∙ number.1))
number_read text None is none n number = absurd (none n number)

-- the first number of a place stands before the space
pub hart_of_place : (text front behind : List ℕ) (read : Option ℕ) → HasNone 32 front → (text ≡ front ++ 32 ∷ behind) ⊎ ((text ≡ front) × (behind ≡ [])) →
    IfSome read (IsNumber front) → IfNone read ((n : ℕ) → IsNumber front n → ⊥) → (hart number : ℕ) → IsPlace text hart number → read ≡ Some hart
hart_of_place text front behind read p cut is none hart number place =
    let same = cut_is 32 text front behind place.first place.second p cut place.one place.is in
    number_read front read is none hart (subst (λ (x : List ℕ). IsNumber x hart) (sym same.0) place.hart_is)

-- and the second behind it
pub number_of_place : (text front behind : List ℕ) (read : Option ℕ) → HasNone 32 front → (text ≡ front ++ 32 ∷ behind) ⊎ ((text ≡ front) × (behind ≡ [])) →
    IfSome read (IsNumber behind) → IfNone read ((n : ℕ) → IsNumber behind n → ⊥) → (hart number : ℕ) → IsPlace text hart number → read ≡ Some number
number_of_place text front behind read p cut is none hart number place =
    let same = cut_is 32 text front behind place.first place.second p cut place.one place.is in
    number_read behind read is none number (subst (λ (x : List ℕ). IsNumber x number) (sym same.1) place.number_is)

-- a command with this name and these words
pub named_so : (harts : ℕ) (command name words front behind : List ℕ) (told : Told) → HasNone 32 front → (command ≡ front ++ 32 ∷ behind) ⊎ ((command ≡ front) × (behind ≡ [])) →
    HasNone 32 name → command ≡ name ++ 32 ∷ words → IsNamed harts name words told → IsNamed harts front behind told
named_so harts command name words front behind told p cut q is named =
    let same = cut_is 32 command front behind name words p cut q is in
    subst (λ (x : List ℕ). IsNamed harts x behind told) (sym same.0) (subst (λ (x : List ℕ). IsNamed harts name x told) (sym same.1) named)

none_in_where : HasNone 32 (codes "where")
none_in_where = ((λ e. absurd cc), ((λ e. absurd cc), ((λ e. absurd cc), ((λ e. absurd cc), ((λ e. absurd cc), tt)))))

-- what is asked by the command is `where`, or is named so
pub asked_so : (harts : ℕ) (command front behind : List ℕ) (told : Told) → HasNone 32 front → (command ≡ front ++ 32 ∷ behind) ⊎ ((command ≡ front) × (behind ≡ [])) →
    AsksToTell harts command told → ((front ≡ codes "where") × (told ≡ Where)) ⊎ IsNamed harts front behind told
asked_so harts command front behind told p cut (inl (is, e)) =
    let none : HasNone 32 command = subst (λ (x : List ℕ). HasNone 32 x) (sym is) none_in_where in inl ((uncut_is 32 command front behind none cut).0 ∙ is, e)
asked_so harts command front behind told p cut (inr (name, words, q, is, named)) = inr (named_so harts command name words front behind told p cut q is named)

-- neither `goto` nor `who` has this name
pub not_named : (harts : ℕ) (name words : List ℕ) (told : Told) → (name ≡ codes "goto" → ⊥) → (name ≡ codes "who" → ⊥) → IsNamed harts name words told → ⊥
not_named harts name words Where p q named = absurd named
not_named harts name words (GoTo hart count) p q named = p named.0
not_named harts name words (Who address) p q named = q named.0

-- ---- what comes of them

abbrev first_of : Option (ℕ × ℕ) → ℕ
first_of None = 0
first_of (Some pair) = pair.0

abbrev second_of : Option (ℕ × ℕ) → ℕ
second_of None = 0
second_of (Some pair) = pair.1

-- it goes to the place that is read
pub went_there : {U E : Type 0} (r : Result U E) (words before after : List ℕ) (harts given number led asked now : ℕ) (s t : SessionView) (read : Option (ℕ × ℕ)) →
    read ≡ Some (given, number) → ((h n : ℕ) → IsPlace words h n → h < harts → read ≡ Some (h, n)) → harts ≡ harts_of s → now ≡ s.line.stands.moment →
    OnOk r (IsPutBehind before after (HasGoneTo led (Some asked) now s t)) → led ≡ given → asked ≡ number →
    OnOk r ((hart count : ℕ) → hart < harts_of s → IsPlace words hart count → IsPutBehind before after (HasGoneTo hart (Some count) s.line.stands.moment s t))
went_there (Ok u) words before after harts given number led asked now s t read is reads e f went p q = λ hart count less place.
    let same = sym is ∙ reads hart count place (subst (λ (n : ℕ). hart < n) (sym e) less) in
    let g : led ≡ hart = p ∙ ap first_of same in
    let n : asked ≡ count = q ∙ ap second_of same in
    subst (λ (h : ℕ). IsPutBehind before after (HasGoneTo h (Some count) s.line.stands.moment s t)) g
    (subst (λ (k : ℕ). IsPutBehind before after (HasGoneTo led (Some k) s.line.stands.moment s t)) n
    (subst (λ (m : ℕ). IsPutBehind before after (HasGoneTo led (Some asked) m s t)) f went))
went_there (Err x) words before after harts given number led asked now s t read is reads e f went p q = tt

-- it tells who wrote the word whose address is read
pub told_who : {U E : Type 0} (r : Result U E) (words before after : List ℕ) (word : Bytes) (s t : SessionView) (read : Option Bytes) →
    read ≡ Some word → ((a : ℕ) → IsAddress words a → read ≡ Some (record { first = a; length = 4 })) → OnOk r (HasStayed s t) →
    OnOk r (IsPutBehind before after (TellsWriter s.line word)) → OnOk r ((address : ℕ) → IsAddress words address → IsPutBehind before after (Tells (Who address) s t))
told_who (Ok u) words before after word s t read is reads stays put = λ address named.
    let same = sym is ∙ reads address named in
    let w : word ≡ record { first = address; length = 4 } = cc in
    (put.0, put.1, (stays, subst (λ (x : Bytes). TellsWriter s.line x put.0) w put.2))
told_who (Err x) words before after word s t read is reads stays put = tt

goto_told : (name words before after : List ℕ) (s t : SessionView) → name ≡ codes "goto" →
    ((hart count : ℕ) → hart < harts_of s → IsPlace words hart count → IsPutBehind before after (HasGoneTo hart (Some count) s.line.stands.moment s t)) →
    (told : Told) → IsNamed (harts_of s) name words told → IsPutBehind before after (Tells told s t)
goto_told name words before after s t is went Where named = absurd named
goto_told name words before after s t is went (GoTo hart count) named = went hart count named.1 named.2
goto_told name words before after s t is went (Who address) named = let e = sym is ∙ named.0 in absurd cc

who_told : (name words before after : List ℕ) (s t : SessionView) → name ≡ codes "who" →
    ((address : ℕ) → IsAddress words address → IsPutBehind before after (Tells (Who address) s t)) →
    (told : Told) → IsNamed (harts_of s) name words told → IsPutBehind before after (Tells told s t)
who_told name words before after s t is said Where named = absurd named
who_told name words before after s t is said (GoTo hart count) named = let e = sym is ∙ named.0 in absurd cc
who_told name words before after s t is said (Who address) named = said address named.1

-- by their names
pub goes_named : {U E : Type 0} (r : Result U E) (name words before after : List ℕ) (s t : SessionView) → name ≡ codes "goto" →
    OnOk r ((hart count : ℕ) → hart < harts_of s → IsPlace words hart count → IsPutBehind before after (HasGoneTo hart (Some count) s.line.stands.moment s t)) →
    OnOk r ((told : Told) → IsNamed (harts_of s) name words told → IsPutBehind before after (Tells told s t))
goes_named (Ok u) name words before after s t is went = λ told named. goto_told name words before after s t is went told named
goes_named (Err x) name words before after s t is went = tt

pub who_named : {U E : Type 0} (r : Result U E) (name words before after : List ℕ) (s t : SessionView) → name ≡ codes "who" →
    OnOk r ((address : ℕ) → IsAddress words address → IsPutBehind before after (Tells (Who address) s t)) →
    OnOk r ((told : Told) → IsNamed (harts_of s) name words told → IsPutBehind before after (Tells told s t))
who_named (Ok u) name words before after s t is said = λ told named. who_told name words before after s t is said told named
who_named (Err x) name words before after s t is said = tt

pub other_named : {U E : Type 0} (r : Result U E) (name words before after : List ℕ) (s t : SessionView) → (name ≡ codes "goto" → ⊥) → (name ≡ codes "who" → ⊥) →
    OnOk r ((told : Told) → IsNamed (harts_of s) name words told → IsPutBehind before after (Tells told s t))
other_named (Ok u) name words before after s t p q = λ told named. absurd (not_named (harts_of s) name words told p q named)
other_named (Err x) name words before after s t p q = tt

where_of : (harts : ℕ) (front behind before after : List ℕ) (s : SessionView) → front ≡ codes "where" → IsPutBehind before after (TellsPlace s.line) →
    (told : Told) → ((front ≡ codes "where") × (told ≡ Where)) ⊎ IsNamed harts front behind told → IsPutBehind before after (Tells told s s)
where_of harts front behind before after s is put told (inl (w, e)) = subst (λ (x : Told). IsPutBehind before after (Tells x s s)) (sym e) (put.0, put.1, (refl, put.2))
where_of harts front behind before after s is put told (inr named) =
    absurd (not_named harts front behind told (λ g. let e = sym is ∙ g in absurd cc) (λ g. let e = sym is ∙ g in absurd cc) named)

none_of : (harts : ℕ) (front behind : List ℕ) (told : Told) → front ≡ codes "edges" → ((front ≡ codes "where") × (told ≡ Where)) ⊎ IsNamed harts front behind told → ⊥
none_of harts front behind told is (inl (w, e)) = let f : 101 ≡ 119 = ap (λ (x : List ℕ). slice_index x 0) (sym is ∙ w) in absurd (omega (arith, f))
none_of harts front behind told is (inr named) = not_named harts front behind told (λ g. let e = sym is ∙ g in absurd cc) (λ g. let e = sym is ∙ g in absurd cc) named

by_name : (harts : ℕ) (front behind : List ℕ) (P : Told → Type 0) → (front ≡ codes "where" → ⊥) → ((told : Told) → IsNamed harts front behind told → P told) →
    (told : Told) → ((front ≡ codes "where") × (told ≡ Where)) ⊎ IsNamed harts front behind told → P told
by_name harts front behind P other said told (inl (w, e)) = absurd (other w)
by_name harts front behind P other said told (inr named) = said told named

-- `where` tells where it stands
pub where_told : (harts : ℕ) (command front behind before after : List ℕ) (s : SessionView) → HasNone 32 front →
    (command ≡ front ++ 32 ∷ behind) ⊎ ((command ≡ front) × (behind ≡ [])) → front ≡ codes "where" → IsPutBehind before after (TellsPlace s.line) →
    (told : Told) → AsksToTell harts command told → IsPutBehind before after (Tells told s s)
where_told harts command front behind before after s p cut is put told asks =
    where_of harts front behind before after s is put told (asked_so harts command front behind told p cut asks)

-- what has neither of these names asks for none of it
pub none_told : (harts : ℕ) (command front behind : List ℕ) (told : Told) → HasNone 32 front → (command ≡ front ++ 32 ∷ behind) ⊎ ((command ≡ front) × (behind ≡ [])) →
    front ≡ codes "edges" → AsksToTell harts command told → ⊥
none_told harts command front behind told p cut is asks = none_of harts front behind told is (asked_so harts command front behind told p cut asks)

-- what is not `where` is asked by its name
pub named_told : {U E : Type 0} (r : Result U E) (harts : ℕ) (command front behind : List ℕ) (P : Told → Type 0) → HasNone 32 front →
    (command ≡ front ++ 32 ∷ behind) ⊎ ((command ≡ front) × (behind ≡ [])) → (front ≡ codes "where" → ⊥) →
    OnOk r ((told : Told) → IsNamed harts front behind told → P told) → OnOk r ((told : Told) → AsksToTell harts command told → P told)
named_told (Ok u) harts command front behind P p cut other said = λ told asks. by_name harts front behind P other said told (asked_so harts command front behind told p cut asks)
named_told (Err x) harts command front behind P p cut other said = tt
