-- A line of a script has one hart, one count and one input.
use Rattle.std.proofs.Common.{◌≡◌, ◌⊎◌, inl, inr, ℕ, ◌^◌, ◌<◌, ◌≤◌, List, [], ◌∷◌, ◌++◌, length, get_or, Result, refl, ap, sym, ◌∙◌, arith}
use Rattle.std.specs.Prelude.{decimal, codes, IfOk, IfErr, MatchResult}
use Rattle.std.proofs.lemmas.Fmt.{decimal_injective}
use Rattle.ft_types.specs.Text.{line, word}
use Rattle.ft_types.proofs.Texts.{word_same}
use Rattle.input_log.specs.declared.Input.{Input}
use Rattle.input_log.specs.declared.Input.TheVariants as input
use Rattle.scripts.specs.declared.fault.ScriptFault.{ScriptFault}
use Rattle.scripts.specs.declared.fault.ScriptFault.TheVariants.{BadLine, Memory}
use Rattle.scripts.specs.declared.script.Offered.{Offered}
use Rattle.scripts.specs.Script.{HasNone, IsWaited, IsHart, MayBeOffered, AreOffered, input_text, offered_text, script_text, LacksLine, IsFault}
use Rattle.scripts.proofs.Plain.{has_none-append, number_has_none, word_has_none}
use Rattle.scripts.proofs.Cuts.{no_first, one_first, hart_small}
use Rattle.scripts.proofs.Lines as lines

-- ---- the fields of a line

input_no_break : (i : Input) → IsWaited i → HasNone 10 (input_text i)
input_no_break input.Timer p =
    ((λ e. omega arith), ((λ e. omega arith), ((λ e. omega arith), ((λ e. omega arith), ((λ e. omega arith), tt)))))
input_no_break (input.Word w) p = has_none-append 10 (codes "word ") (word w)
    ((λ e. omega arith), ((λ e. omega arith), ((λ e. omega arith), ((λ e. omega arith), ((λ e. omega arith), tt)))))
    (word_has_none 10 w (omega arith))
input_no_break (input.Bell source) p = absurd p

hart_field : (c harts : ℕ) (o : Offered) → c ≤ 32 → MayBeOffered harts o → HasNone c (decimal o.hart)
hart_field c harts o small p = number_has_none c o.hart small (hart_small harts o.hart p.hart)

count_field : (c harts : ℕ) (o : Offered) → c ≤ 32 → MayBeOffered harts o → HasNone c (decimal o.not_before)
count_field c harts o small p = number_has_none c o.not_before small p.count

offered_no_break : (harts : ℕ) (o : Offered) → MayBeOffered harts o → HasNone 10 (offered_text o)
offered_no_break harts o p =
    has_none-append 10 (decimal o.hart) (32 ∷ (decimal o.not_before ++ 32 ∷ input_text o.input)) (hart_field 10 harts o (omega arith) p) (
      (λ e. omega arith),
      has_none-append 10 (decimal o.not_before) (32 ∷ input_text o.input) (count_field 10 harts o (omega arith) p)
          ((λ e. omega arith), input_no_break o.input p.input),
    )

one_hart_field : (harts : ℕ) (o : Offered) (hart behind : List ℕ) → MayBeOffered harts o → HasNone 32 hart →
    hart ++ 32 ∷ behind ≡ offered_text o →
    (hart ≡ decimal o.hart) × (behind ≡ decimal o.not_before ++ 32 ∷ input_text o.input)
one_hart_field harts o hart behind p one e = one_first 32 hart (decimal o.hart) behind
    (decimal o.not_before ++ 32 ∷ input_text o.input) one (hart_field 32 harts o (omega arith) p) e

one_count_field : (harts : ℕ) (o : Offered) (count behind : List ℕ) → MayBeOffered harts o → HasNone 32 count →
    count ++ 32 ∷ behind ≡ decimal o.not_before ++ 32 ∷ input_text o.input →
    (count ≡ decimal o.not_before) × (behind ≡ input_text o.input)
one_count_field harts o count behind p one e = one_first 32 count (decimal o.not_before) behind
    (input_text o.input) one (count_field 32 harts o (omega arith) p) e

-- ---- what is not there

abbrev NoOffered : ℕ → List ℕ → Type 0
NoOffered harts text = (o : Offered) → MayBeOffered harts o → text ≡ offered_text o → ⊥

pub no_hart_field : (harts : ℕ) (text : List ℕ) → HasNone 32 text → NoOffered harts text
no_hart_field harts text none o p e = no_first 32 text (decimal o.hart)
    (decimal o.not_before ++ 32 ∷ input_text o.input) none e

pub no_count_field : (harts : ℕ) (text hart behind : List ℕ) → HasNone 32 hart → text ≡ hart ++ 32 ∷ behind →
    HasNone 32 behind → NoOffered harts text
no_count_field harts text hart behind one is none o p e =
    let f = one_hart_field harts o hart behind p one (sym is ∙ e) in
    no_first 32 behind (decimal o.not_before) (input_text o.input) none f.1

pub no_hart : (harts : ℕ) (text hart behind : List ℕ) → HasNone 32 hart → text ≡ hart ++ 32 ∷ behind →
    ((h : ℕ) → IsHart harts h → hart ≡ decimal h → ⊥) → NoOffered harts text
no_hart harts text hart behind one is none o p e =
    none o.hart p.hart (one_hart_field harts o hart behind p one (sym is ∙ e)).0

pub no_count : (harts : ℕ) (text hart behind count rest : List ℕ) → HasNone 32 hart → text ≡ hart ++ 32 ∷ behind →
    HasNone 32 count → behind ≡ count ++ 32 ∷ rest → ((n : ℕ) → n < 2 ^ 48 → count ≡ decimal n → ⊥) →
    NoOffered harts text
no_count harts text hart behind count rest one is two then none o p e =
    let f = one_hart_field harts o hart behind p one (sym is ∙ e) in
    none o.not_before p.count (one_count_field harts o count rest p two (sym then ∙ f.1)).0

pub no_input : (harts : ℕ) (text hart behind count rest : List ℕ) → HasNone 32 hart → text ≡ hart ++ 32 ∷ behind →
    HasNone 32 count → behind ≡ count ++ 32 ∷ rest → ((i : Input) → IsWaited i → rest ≡ input_text i → ⊥) →
    NoOffered harts text
no_input harts text hart behind count rest one is two then none o p e =
    let f = one_hart_field harts o hart behind p one (sym is ∙ e) in
    none o.input p.input (one_count_field harts o count rest p two (sym then ∙ f.1)).1

pub lacks_by_text : (harts : ℕ) (bytes text rest : List ℕ) → HasNone 10 text → bytes ≡ line text ++ rest → NoOffered harts text → LacksLine harts bytes
lacks_by_text harts = lines.lacks_by_text (MayBeOffered harts) offered_text (offered_no_break harts)

-- ---- a line offers one thing

same_front : (a x y : List ℕ) → a ++ x ≡ a ++ y → x ≡ y
same_front [] x y e = e
same_front (b ∷ bs) x y e = let tails : bs ++ x ≡ bs ++ y = cc in same_front bs x y tails

input_same : (i j : Input) → IsWaited i → IsWaited j → input_text i ≡ input_text j → i ≡ j
input_same input.Timer input.Timer p q e = refl
input_same input.Timer (input.Word v) p q e = absurd (omega (arith, ap (λ (t : List ℕ). get_or t 0 0) e))
input_same (input.Word w) input.Timer p q e = absurd (omega (arith, ap (λ (t : List ℕ). get_or t 0 0) e))
input_same (input.Word w) (input.Word v) p q e =
    ap input.Word (word_same w v p q (same_front (codes "word ") (word w) (word v) e))
input_same (input.Bell s) j p q e = absurd p
input_same i (input.Bell s) p q e = absurd q

abbrev offer_of : ℕ → ℕ → Input → Offered
offer_of h n i = record { hart = h; not_before = n; input = i }

offered_same : (harts : ℕ) (o r : Offered) → MayBeOffered harts o → MayBeOffered harts r →
    offered_text o ≡ offered_text r → o ≡ r
offered_same harts o r p q e =
    let f = one_hart_field harts r (decimal o.hart) (decimal o.not_before ++ 32 ∷ input_text o.input) q
    (hart_field 32 harts o (omega arith) p) e in
    let g = one_count_field harts r (decimal o.not_before) (input_text o.input) q (count_field 32 harts o (omega arith) p) f.1 in
    let hart : o.hart ≡ r.hart = decimal_injective o.hart r.hart (omega (arith, p.hart.1)) (omega (arith, q.hart.1)) f.0 in
    let count : o.not_before ≡ r.not_before = decimal_injective o.not_before r.not_before (omega (arith, p.count))
    (omega (arith, q.count)) g.0 in
    let input : o.input ≡ r.input = input_same o.input r.input p.input q.input g.1 in
    ap (λ (h : ℕ). offer_of h o.not_before o.input) hart ∙ ap (λ (n : ℕ). offer_of r.hart n o.input) count
    ∙ ap (λ (i : Input). offer_of r.hart r.not_before i) input

-- ---- a script has one reading

more_same : (harts : ℕ) (o r : Offered) (os ps : List Offered) → MayBeOffered harts o → MayBeOffered harts r → offered_text o ≡ offered_text r → os ≡ ps →
    o ∷ os ≡ r ∷ ps
more_same harts o r os ps p q e rest = rw (offered_same harts o r p q e, rest) refl

which : (f : ScriptFault) → (f ≡ Memory) ⊎ ((k : ℕ) × (f ≡ BadLine k))
which Memory = inl refl
which (BadLine k) = inr (k, refl)

pub only_script : {A : Type 0} (items : A → List Offered) (harts : ℕ) (bytes : List ℕ) (r : Result A ScriptFault) →
    IfOk r (λ a. AreOffered harts (items a) × (bytes ≡ script_text (items a))) →
    IfErr r (λ e. IsFault harts bytes e) → (os : List Offered) → AreOffered harts os → bytes ≡ script_text os →
    MatchResult r (λ a. items a ≡ os) (λ e. e ≡ Memory)
only_script items harts = lines.only_reading (MayBeOffered harts) offered_text (offered_no_break harts) (λ os ps. os ≡ ps) refl (more_same harts)
    (λ os ps e. ap length e) Memory BadLine (IsFault harts) which (λ bytes k bad. bad) items

pub only_fault : {A : Type 0} (items : A → List Offered) (harts : ℕ) (bytes : List ℕ) (r : Result A ScriptFault) →
    IfOk r (λ a. AreOffered harts (items a) × (bytes ≡ script_text (items a))) →
    IfErr r (λ e. IsFault harts bytes e) → (k : ℕ) → IsFault harts bytes (BadLine k) →
    MatchResult r (λ _. ⊥) (λ e. (e ≡ Memory) ⊎ (e ≡ BadLine k))
only_fault items harts = lines.only_fault (MayBeOffered harts) offered_text (offered_no_break harts) (λ os ps. os ≡ ps) refl (more_same harts)
    (λ os ps e. ap length e) Memory BadLine (IsFault harts) which (λ bytes k bad. bad) items
