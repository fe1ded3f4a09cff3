-- Words stand at their places.
use Rattle.std.proofs.Common.{◌≡◌, ◌+◌, ◌<◌, ◌≤◌, ℕ, zero, suc, Bool, true, false, List, [], ◌∷◌, ◌++◌, Option, None, Some, length, take, ltb, inl, inr, refl, sym, ap, subst, ◌∙◌, append_assoc, append-nil, length-append, arith}
use Rattle.std.specs.Prelude.{IfSome, if◌then◌else◌}
use Rattle.std.specs.List.{AllByRecursion}
use Rattle.std.proofs.lemmas.Bool.{ltb-false, le-ltb, lt-ltb, cases_lt}
use Rattle.requests.specs.declared.queue.TheConstants.{WORD_LIMIT}
use Rattle.requests.specs.declared.queue.Came.{Came}
use Rattle.requests.specs.declared.queue.Came.TheVariants.{Taken, Repeat, Ahead, Full, Busy}
use Rattle.requests.specs.Numbered.{Asked, Words, Happening, Asks, HandsOn, GoesOnAt, room_for, came_of, taken, none, with_asked, first_handed, after, all_after}
use Rattle.requests.specs.Numbered.{EachAt, IsInPlace, AllInPlace, AsksByNumber, IsWordOf, ExactlyOnce, NoneIsMissing}

-- ---- each at its place

each_append : (P : ℕ → Asked → Type 0) (place : ℕ) (xs : List Asked) (a : Asked) → EachAt P place xs → P (place + length xs) a → EachAt P place (xs ++ a ∷ [])
each_append P place [] a each is = (subst (λ (n : ℕ). P n a) (omega arith) is, tt)
each_append P place (x ∷ xs) a each is = (each.0, each_append P (suc place) xs a each.1 (subst (λ (n : ℕ). P n a) (omega arith) is))

pub each_front : (P : ℕ → Asked → Type 0) (place : ℕ) (xs ys : List Asked) → EachAt P place (xs ++ ys) → EachAt P place xs
each_front P place [] ys each = tt
each_front P place (x ∷ xs) ys each = (each.0, each_front P (suc place) xs ys each.1)

each_take : (P : ℕ → Asked → Type 0) (place many : ℕ) (xs : List Asked) → EachAt P place xs → EachAt P place (take many xs)
each_take P place zero xs each = tt
each_take P place (suc many) [] each = tt
each_take P place (suc many) (x ∷ xs) each = (each.0, each_take P (suc place) many xs each.1)

-- ---- which words are taken

-- of three outcomes the last one
last_of : (b c : Bool) (r : Came) → (if b then Repeat else (if c then Ahead else r)) ≡ Taken → (b ≡ false) × (c ≡ false) × (r ≡ Taken)
last_of true c r e = absurd cc
last_of false true r e = absurd cc
last_of false false r e = (refl, refl, e)

-- a word is taken at its number
pub taken_at : (came : ℕ) (number : Option ℕ) → came_of came number ≡ Taken → IfSome number (λ n. n ≡ came)
taken_at came None e = tt
taken_at came (Some n) e =
    let is = last_of (ltb n came) (ltb came n) (room_for came) e in
    let above : came ≤ n = ltb-false n came is.0 in
    let below : n ≤ came = ltb-false came n is.1 in
    omega arith

-- ---- what stays

with_stays : (P : ℕ → Asked → Type 0) (words : Words) (a : Asked) (c : Came) → (c ≡ Taken → P (length (taken words)) a) → EachAt P 0 (taken words) →
    EachAt P 0 (taken (with_asked words a c))
with_stays P words a Taken is each =
    subst (EachAt P 0) (append_assoc words.handed words.waiting (a ∷ [])) (each_append P 0 (taken words) a each (subst (λ (n : ℕ). P n a) (omega arith) (is refl)))
with_stays P words a Repeat is each = each
with_stays P words a Ahead is each = each
with_stays P words a Full is each = each
with_stays P words a Busy is each = each

handed_stays : (P : ℕ → Asked → Type 0) (handed waiting : List Asked) → EachAt P 0 (handed ++ waiting) → EachAt P 0 (taken (first_handed handed waiting))
handed_stays P handed [] each = each
handed_stays P handed (a ∷ waiting) each = subst (EachAt P 0) (sym (append_assoc handed (a ∷ []) waiting)) each

-- what holds of each that is taken
abbrev Takes : (ℕ → Asked → Type 0) → Happening → Type 0
Takes P (Asks a) = (came : ℕ) → came_of came a.number ≡ Taken → P came a
Takes P HandsOn = Unit {0}
Takes P (GoesOnAt given) = Unit {0}

each_stays : (P : ℕ → Asked → Type 0) (words : Words) (next : Happening) → Takes P next → EachAt P 0 (taken words) → EachAt P 0 (taken (after words next))
each_stays P words (Asks a) takes each = with_stays P words a (came_of (length (taken words)) a.number) (takes (length (taken words))) each
each_stays P words HandsOn takes each = handed_stays P words.handed words.waiting each
each_stays P words (GoesOnAt given) takes each = subst (EachAt P 0) (sym (append-nil (take given words.handed)))
    (each_take P 0 given words.handed (each_front P 0 words.handed words.waiting each))

all_stay : (P : ℕ → Asked → Type 0) (words : Words) (all : List Happening) → AllByRecursion (Takes P) all → EachAt P 0 (taken words) →
    EachAt P 0 (taken (all_after words all))
all_stay P words [] takes each = each
all_stay P words (next ∷ all) takes each = all_stay P (after words next) all takes.1 (each_stays P words next takes.0 each)

-- ---- the laws

in_place : (all : List Happening) → AllByRecursion (Takes IsInPlace) all
in_place [] = tt
in_place (Asks a ∷ all) = ((λ came e. taken_at came a.number e), in_place all)
in_place (HandsOn ∷ all) = (tt, in_place all)
in_place (GoesOnAt given ∷ all) = (tt, in_place all)

pub all_in_place : AllInPlace
all_in_place all = all_stay IsInPlace none all (in_place all) tt

word_of : (words : ℕ → ℕ) (a : Asked) → AsksByNumber words (Asks a) → (came : ℕ) → came_of came a.number ≡ Taken → IsWordOf words came a
word_of words a asks came e =
    let number : a.number ≡ Some asks.0 = ap (λ (b : Asked). b.number) asks.1 in
    let at : asks.0 ≡ came = subst (λ (o : Option ℕ). IfSome o (λ n. n ≡ came)) number (taken_at came a.number e) in
    ap (λ (b : Asked). b.word) asks.1 ∙ ap words at

words_of : (words : ℕ → ℕ) (all : List Happening) → AllByRecursion (AsksByNumber words) all → AllByRecursion (Takes (IsWordOf words)) all
words_of words [] asks = tt
words_of words (Asks a ∷ all) asks = (word_of words a asks.0, words_of words all asks.1)
words_of words (HandsOn ∷ all) asks = (tt, words_of words all asks.1)
words_of words (GoesOnAt given ∷ all) asks = (tt, words_of words all asks.1)

-- whatever was there, where each of it stands at its place
pub stay_in_place : (words : ℕ → ℕ) (had : Words) (all : List Happening) → AllByRecursion (AsksByNumber words) all → EachAt (IsWordOf words) 0 (taken had) →
    EachAt (IsWordOf words) 0 (taken (all_after had all))
stay_in_place words had all asks each = all_stay (IsWordOf words) had all (words_of words all asks) each

pub exactly_once : ExactlyOnce
exactly_once words all asks = stay_in_place words none all asks tt

-- ---- asked once more

with_grows : (words : Words) (a : Asked) (c : Came) → length (taken words) ≤ length (taken (with_asked words a c))
with_grows words a Taken = omega (
  arith,
  length-append words.handed words.waiting,
  length-append words.handed (words.waiting ++ a ∷ []),
  length-append words.waiting (a ∷ []),
)
with_grows words a Repeat = omega arith
with_grows words a Ahead = omega arith
with_grows words a Full = omega arith
with_grows words a Busy = omega arith

with_one : (words : Words) (a : Asked) (c : Came) → c ≡ Taken → suc (length (taken words)) ≤ length (taken (with_asked words a c))
with_one words a Taken e = omega (
  arith,
  length-append words.handed words.waiting,
  length-append words.handed (words.waiting ++ a ∷ []),
  length-append words.waiting (a ∷ []),
)
with_one words a Repeat e = absurd cc
with_one words a Ahead e = absurd cc
with_one words a Full e = absurd cc
with_one words a Busy e = absurd cc

-- the next number is taken
next_taken : (came n : ℕ) → n ≤ came → came ≤ n → n < WORD_LIMIT → came_of came (Some n) ≡ Taken
next_taken came n le ge room =
    let one : ltb n came ≡ false = le-ltb n came ge in
    let other : ltb came n ≡ false = le-ltb came n le in
    let below : ltb came WORD_LIMIT ≡ true = lt-ltb came WORD_LIMIT (omega arith) in
    rw (one, other, below) refl

-- a number of which none before it is missing came then
one_came : (words : Words) (a : Asked) (n : ℕ) → n ≤ length (taken words) → n < WORD_LIMIT →
    suc n ≤ length (taken (with_asked words a (came_of (length (taken words)) (Some n))))
one_came words a n le room = elim (cases_lt n (length (taken words))) [
  | inl lt ↦ omega (arith, with_grows words a (came_of (length (taken words)) (Some n)))
  | inr ge ↦ omega (arith, with_one words a (came_of (length (taken words)) (Some n)) (next_taken (length (taken words)) n le ge room))
]

pub none_is_missing : NoneIsMissing
none_is_missing words had number zero le room = omega arith
none_is_missing words had number (suc many) le room =
    let asked : Asked = record { word = words number; number = Some number } in
    let one = one_came had asked number le (omega arith) in
    let all = none_is_missing words (after had (Asks asked)) (suc number) many one (omega arith) in
    omega (arith, all)
