-- A request's fields are one request's.
use Rattle.std.proofs.Common.{◌≡◌, ℕ, List, [], ◌∷◌, Option, None, Some, get_or, refl, sym, ap, arith}
use Rattle.std.specs.Prelude.{decimal, codes, IfSome}
use Rattle.std.proofs.lemmas.Fmt.{decimal_injective}
use Rattle.ft_types.specs.Counts.{IsCount}
use Rattle.ft_types.specs.Text.{word}
use Rattle.ft_types.proofs.Texts.{word_same}
use Rattle.wire.specs.Fields.{ArePlain, spelling, fields_of}
use Rattle.wire.specs.Values.{IsHart}
use Rattle.wire.specs.Requests.{IsRequest, full_fields, number_fields, request_fields}
use Rattle.wire.specs.declared.requests.Request.{Request}
use Rattle.wire.specs.declared.requests.Request.TheVariants.{Timer, Word, From}
use Rattle.wire.proofs.Plain.{decimal_plain, word_plain, name_plain}
use Rattle.wire.proofs.Reading.{spelled}

-- ---- names

word≢timer : codes "word" ≡ codes "timer" → ⊥
word≢timer e = omega (arith, ap (λ (t : List ℕ). get_or t 0 0) e)

word≢from : codes "word" ≡ codes "from" → ⊥
word≢from e = omega (arith, ap (λ (t : List ℕ). get_or t 0 0) e)

timer≢from : codes "timer" ≡ codes "from" → ⊥
timer≢from e = omega (arith, ap (λ (t : List ℕ). get_or t 0 0) e)

-- two fields, and what stands behind them
names_are : (h k name : List ℕ) (other : List ℕ) (fs gs : List (List ℕ)) → h ∷ name ∷ fs ≡ k ∷ other ∷ gs → (h ≡ k) × (name ≡ other) × (fs ≡ gs)
names_are h k name other fs gs e = (cc, cc, cc)

-- ---- one request

number_plain : (n : Option ℕ) → IfSome n IsCount → ArePlain (number_fields n)
number_plain None p = tt
number_plain (Some n) p = (decimal_plain n (omega (arith, p)), tt)

pub request_back : (harts : ℕ) (r : Request) → IsRequest harts r → fields_of (spelling (request_fields r)) ≡ request_fields r
request_back harts (Timer k) p = spelled (decimal k) (codes "timer" ∷ []) (decimal_plain k (omega (arith, p.1))) (name_plain (codes "timer") refl, tt)
request_back harts (Word k w n) p = spelled (decimal k) (codes "word" ∷ word w ∷ number_fields n) (decimal_plain k (omega (arith, p.0.1)))
    (name_plain (codes "word") refl, (word_plain w, number_plain n p.2))
request_back harts (From k n) p = spelled (decimal k) (codes "from" ∷ decimal n ∷ []) (decimal_plain k (omega (arith, p.0.1)))
    (name_plain (codes "from") refl, (decimal_plain n (omega (arith, p.1)), tt))

number_same : (m n : Option ℕ) → IfSome m IsCount → IfSome n IsCount → number_fields m ≡ number_fields n → m ≡ n
number_same None None p q e = refl
number_same None (Some n) p q e = absurd cc
number_same (Some m) None p q e = absurd cc
number_same (Some m) (Some n) p q e = let texts : decimal m ≡ decimal n = cc in
    ap Some (decimal_injective m n (omega (arith, p)) (omega (arith, q)) texts)

hart_same : (harts h k : ℕ) → IsHart harts h → IsHart harts k → decimal h ≡ decimal k → h ≡ k
hart_same harts h k p q e = decimal_injective h k (omega (arith, p.1)) (omega (arith, q.1)) e

pub request_same : (harts : ℕ) (r s : Request) → IsRequest harts r → IsRequest harts s → request_fields r ≡ request_fields s → r ≡ s
request_same harts (Timer h) (Timer k) p q e = ap Timer (hart_same harts h k p q (names_are _ _ _ _ _ _ e).0)
request_same harts (Timer h) (Word k w n) p q e = absurd (word≢timer (sym (names_are _ _ _ _ _ _ e).1))
request_same harts (Timer h) (From k n) p q e = absurd (timer≢from (names_are _ _ _ _ _ _ e).1)
request_same harts (Word h v m) (Timer k) p q e = absurd (word≢timer (names_are _ _ _ _ _ _ e).1)
request_same harts (Word h v m) (Word k w n) p q e =
    let parts = names_are _ _ _ _ _ _ e in
    let rest : word v ∷ number_fields m ≡ word w ∷ number_fields n = parts.2 in
    let texts : word v ≡ word w = cc in
    let tails : number_fields m ≡ number_fields n = cc in
    let hart : h ≡ k = hart_same harts h k p.0 q.0 parts.0 in
    let value : v ≡ w = word_same v w p.1 q.1 texts in
    let number : m ≡ n = number_same m n p.2 q.2 tails in
    rw (hart, value, number) refl
request_same harts (Word h v m) (From k n) p q e = absurd (word≢from (names_are _ _ _ _ _ _ e).1)
request_same harts (From h m) (Timer k) p q e = absurd (timer≢from (sym (names_are _ _ _ _ _ _ e).1))
request_same harts (From h m) (Word k w n) p q e = absurd (word≢from (sym (names_are _ _ _ _ _ _ e).1))
request_same harts (From h m) (From k n) p q e =
    let parts = names_are _ _ _ _ _ _ e in
    let rest : ◌≡◌ {A = List (List ℕ)} (decimal m ∷ []) (decimal n ∷ []) = parts.2 in
    let texts : decimal m ≡ decimal n = cc in
    let hart : h ≡ k = hart_same harts h k p.0 q.0 parts.0 in
    let number : m ≡ n = decimal_injective m n (omega (arith, p.1)) (omega (arith, q.1)) texts in
    rw (hart, number) refl

-- ---- a hart that is given no more words

pub full_back : (harts h : ℕ) → IsHart harts h → fields_of (spelling (full_fields h)) ≡ full_fields h
full_back harts h p = spelled (decimal h) (codes "full" ∷ []) (decimal_plain h (omega (arith, p.1))) (name_plain (codes "full") refl, tt)

pub full_same : (harts h k : ℕ) → IsHart harts h → IsHart harts k → full_fields h ≡ full_fields k → h ≡ k
full_same harts h k p q e = hart_same harts h k p q (names_are _ _ _ _ _ _ e).0
