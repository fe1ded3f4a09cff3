-- A line has one name, and one list of numbers and words behind it.
use Rattle.std.proofs.Common.{◌≡◌, ℕ, ◌^◌, ◌<◌, ◌≤◌, List, [], ◌∷◌, ◌++◌, Option, None, Some, get_or, refl, ap, sym, ◌∙◌, arith, append_assoc}
use Rattle.std.specs.Prelude.{decimal, codes, IfNone, IfSome}
use Rattle.std.proofs.lemmas.Grind.{common_steps}
use Rattle.std.proofs.lemmas.Fmt.{decimal_injective}
use Rattle.ft_types.specs.Text.{line, word, IsWord}
use Rattle.input_log.specs.declared.Input.TheVariants as input
use Rattle.scripts.specs.Script.{HasNone, IsHart}
use Rattle.scripts.proofs.Plain.{has_none-append, number_has_none, word_has_none, tested_has_none}
use Rattle.scripts.proofs.Cuts.{IsTail, one_cut, one_first, no_first, hart_small}
use Rattle.scripts.proofs.Lines as lines
use Rattle.scripts.specs.declared.event.Event.{Event}
use Rattle.scripts.specs.declared.event.Event.TheVariants.{Step, Offer, Seal, Deliver, Join, Acknowledge, Release, Stop, Lose, Grant}
use Rattle.scripts.specs.Events.{name_of, numbers_of, words_of, spaced_numbers, spaced_words, event_text, AreNumbers, MayHappen, LacksLine}
use Rattle.scripts.specs.machinery.Reading.{SaysNothing}

-- ---- names

pub name_plain : (c : ℕ) → c ≤ 32 → (harts : ℕ) (e : Event) → MayHappen harts e → HasNone c (name_of e)
name_plain c small harts (Step h) m = tested_has_none c (codes "step") small refl
name_plain c small harts (Offer h input.Timer) m = tested_has_none c (codes "timer") small refl
name_plain c small harts (Offer h (input.Word w)) m = tested_has_none c (codes "word") small refl
name_plain c small harts Seal m = tested_has_none c (codes "seal") small refl
name_plain c small harts (Deliver k f) m = tested_has_none c (codes "deliver") small refl
name_plain c small harts (Join k o) m = tested_has_none c (codes "join") small refl
name_plain c small harts (Acknowledge k) m = tested_has_none c (codes "ack") small refl
name_plain c small harts Release m = tested_has_none c (codes "release") small refl
name_plain c small harts Stop m = tested_has_none c (codes "stop") small refl
name_plain c small harts (Lose k) m = tested_has_none c (codes "lose") small refl
name_plain c small harts (Grant t ks) m = tested_has_none c (codes "grant") small refl
name_plain c small harts (Offer h (input.Bell s)) m = absurd m.1

-- ---- what stands behind a name

pub spaced_tail : (ns ws : List ℕ) → IsTail 32 (spaced_numbers ns ++ spaced_words ws)
spaced_tail [] [] = tt
spaced_tail [] (w ∷ ws) = refl
spaced_tail (n ∷ ns) ws = refl

numbers_tail : (ns : List ℕ) → IsTail 32 (spaced_numbers ns)
numbers_tail [] = tt
numbers_tail (n ∷ ns) = refl

pub text_cut : (harts : ℕ) (e : Event) (name tail : List ℕ) → MayHappen harts e → HasNone 32 name → IsTail 32 tail → name ++ tail ≡ event_text e →
    (name ≡ name_of e) × (tail ≡ spaced_numbers (numbers_of e) ++ spaced_words (words_of e))
text_cut harts e name tail m none is same = one_cut 32 name (name_of e) tail (spaced_numbers (numbers_of e) ++ spaced_words (words_of e)) none
    (name_plain 32 (omega arith) harts e m) is (spaced_tail (numbers_of e) (words_of e)) same

-- ---- numbers

-- the first of several numbers
pub first_number : (field tail ns : List ℕ) → HasNone 32 field → IsTail 32 tail → AreNumbers ns → 32 ∷ (field ++ tail) ≡ spaced_numbers ns →
    (k : ℕ) × (ks : List ℕ) × (k < 2 ^ 48) × AreNumbers ks × (field ≡ decimal k) × (tail ≡ spaced_numbers ks)
first_number field tail [] none is all e = absurd cc
first_number field tail (k ∷ ks) none is all e =
    let tails : field ++ tail ≡ decimal k ++ spaced_numbers ks = cc in
    let r = one_cut 32 field (decimal k) tail (spaced_numbers ks) none (number_has_none 32 k (omega arith) all.0) is (numbers_tail ks) tails in
    (k, ks, all.0, all.1, r.0, r.1)

-- numbers are spelled in one way
pub numbers_same : (ms ns : List ℕ) → AreNumbers ms → AreNumbers ns → spaced_numbers ms ≡ spaced_numbers ns → ms ≡ ns
numbers_same [] [] p q e = refl
numbers_same [] (n ∷ ns) p q e = absurd cc
numbers_same (m ∷ ms) [] p q e = absurd cc
numbers_same (m ∷ ms) (n ∷ ns) p q e =
    let tails : decimal m ++ spaced_numbers ms ≡ decimal n ++ spaced_numbers ns = cc in
    let r = one_cut 32 (decimal m) (decimal n) (spaced_numbers ms) (spaced_numbers ns) (number_has_none 32 m (omega arith) p.0) (number_has_none 32 n (omega arith) q.0)
    (numbers_tail ms) (numbers_tail ns) tails in
    let heads : m ≡ n = decimal_injective m n (omega (arith, p.0)) (omega (arith, q.0)) r.0 in
    rw (heads, numbers_same ms ns p.1 q.1 r.1) refl

pub are_numbers : (harts : ℕ) (e : Event) → MayHappen harts e → AreNumbers (numbers_of e)
are_numbers harts (Step h) m = ((omega (arith, m.1)), tt)
are_numbers harts (Offer h input.Timer) m = ((omega (arith, m.0.1)), tt)
are_numbers harts (Offer h (input.Word w)) m = ((omega (arith, m.0.1)), tt)
are_numbers harts Seal m = tt
are_numbers harts (Deliver k f) m = (m.0, (m.1, tt))
are_numbers harts (Join k o) m = (m.0, (m.1, tt))
are_numbers harts (Acknowledge k) m = (m, tt)
are_numbers harts Release m = tt
are_numbers harts Stop m = tt
are_numbers harts (Lose k) m = (m, tt)
are_numbers harts (Grant t ks) m = ((omega (arith, m.0)), m.1)
are_numbers harts (Offer h (input.Bell s)) m = absurd m.1

-- ---- words

-- only the offer of a word has one
pub no_words : (harts : ℕ) (e : Event) → MayHappen harts e → (codes "word" ≡ name_of e → ⊥) → words_of e ≡ []
no_words harts (Step h) m other = refl
no_words harts (Offer h input.Timer) m other = refl
no_words harts (Offer h (input.Word w)) m other = absurd (other refl)
no_words harts Seal m other = refl
no_words harts (Deliver k f) m other = refl
no_words harts (Join k o) m other = refl
no_words harts (Acknowledge k) m other = refl
no_words harts Release m other = refl
no_words harts Stop m other = refl
no_words harts (Lose k) m other = refl
no_words harts (Grant t ks) m other = refl
no_words harts (Offer h (input.Bell s)) m other = absurd m.1

pub offer_only : (harts : ℕ) (e : Event) → MayHappen harts e → codes "word" ≡ name_of e →
    (h : ℕ) × (w : ℕ) × IsHart harts h × (w < 2 ^ 32) × (numbers_of e ≡ h ∷ []) × (words_of e ≡ w ∷ [])
offer_only harts (Step h) m e = absurd (omega (arith, ap (λ (t : List ℕ). get_or t 0 0) e))
offer_only harts (Offer h input.Timer) m e = absurd (omega (arith, ap (λ (t : List ℕ). get_or t 0 0) e))
offer_only harts (Offer h (input.Word w)) m e = (h, w, m.0, m.1, refl, refl)
offer_only harts Seal m e = absurd (omega (arith, ap (λ (t : List ℕ). get_or t 0 0) e))
offer_only harts (Deliver k f) m e = absurd (omega (arith, ap (λ (t : List ℕ). get_or t 0 0) e))
offer_only harts (Join k o) m e = absurd (omega (arith, ap (λ (t : List ℕ). get_or t 0 0) e))
offer_only harts (Acknowledge k) m e = absurd (omega (arith, ap (λ (t : List ℕ). get_or t 0 0) e))
offer_only harts Release m e = absurd (omega (arith, ap (λ (t : List ℕ). get_or t 0 0) e))
offer_only harts Stop m e = absurd (omega (arith, ap (λ (t : List ℕ). get_or t 0 0) e))
offer_only harts (Lose k) m e = absurd (omega (arith, ap (λ (t : List ℕ). get_or t 0 0) e))
offer_only harts (Grant t ks) m e = absurd (omega (arith, ap (λ (t : List ℕ). get_or t 0 0) e))
offer_only harts (Offer h (input.Bell s)) m e = absurd m.1

-- ---- what is not there

-- what stands behind a field, with its space
abbrev pub behind : {A : Type 0} → (A → List ℕ) → Option A → List ℕ
behind now None = []
behind now (Some rest) = 32 ∷ now rest

behind_tail : {A : Type 0} (now : A → List ℕ) (r : Option A) → IsTail 32 (behind now r)
behind_tail now None = tt
behind_tail now (Some rest) = refl

-- the text is the field, and what stands behind it
cut_is : {A : Type 0} (now : A → List ℕ) (r : Option A) (text field : List ℕ) → IfSome r (λ b. text ≡ field ++ 32 ∷ now b) → IfNone r (text ≡ field) →
    text ≡ field ++ behind now r
cut_is now None text field p q = q ∙ grind (arith, common_steps)
cut_is now (Some b) text field p q = p

abbrev pub NoEvent : ℕ → List ℕ → Type 0
NoEvent harts text = (e : Event) → MayHappen harts e → text ≡ event_text e → ⊥

pub offer_end : (h w : ℕ) (text : List ℕ) → 32 ∷ text ≡ spaced_numbers (h ∷ []) ++ spaced_words (w ∷ []) → text ≡ decimal h ++ 32 ∷ word w
offer_end h w text e =
    let tails : text ≡ (decimal h ++ []) ++ (32 ∷ (word w ++ [])) = cc in tails ∙ grind (arith, common_steps)

word_offer : (harts : ℕ) (text : List ℕ) (e : Event) → MayHappen harts e → codes "word" ++ 32 ∷ text ≡ event_text e →
    (h : ℕ) × (w : ℕ) × IsHart harts h × (w < 2 ^ 32) × (text ≡ decimal h ++ 32 ∷ word w)
word_offer harts text e m same =
    let r = text_cut harts e (codes "word") (32 ∷ text) m (tested_has_none 32 (codes "word") (omega arith) refl) refl same in
    let o = offer_only harts e m r.0 in
    let spaced : 32 ∷ text ≡ spaced_numbers (o.0 ∷ []) ++ spaced_words (o.1 ∷ []) =
    r.1 ∙ ap (λ (ns : List ℕ). spaced_numbers ns ++ spaced_words (words_of e)) o.4 ∙ ap (λ (ws : List ℕ). spaced_numbers (o.0 ∷ []) ++ spaced_words ws) o.5 in
    (o.0, o.1, o.2, o.3, offer_end o.0 o.1 text spaced)

-- the two fields of an offer's text
offer_fields : (harts : ℕ) (text number rest : List ℕ) → HasNone 32 number → text ≡ number ++ 32 ∷ rest → (e : Event) → MayHappen harts e →
    codes "word" ++ 32 ∷ text ≡ event_text e → (h : ℕ) × (w : ℕ) × IsHart harts h × (w < 2 ^ 32) × (number ≡ decimal h) × (rest ≡ word w)
offer_fields harts text number rest none is e m same =
    let o = word_offer harts text e m same in
    let p = one_first 32 number (decimal o.0) rest (word o.1) none (number_has_none 32 o.0 (omega arith) (hart_small harts o.0 o.2)) (sym is ∙ o.4) in
    (o.0, o.1, o.2, o.3, p.0, p.1)

pub no_field : (harts : ℕ) (text : List ℕ) → HasNone 32 text → NoEvent harts (codes "word" ++ 32 ∷ text)
no_field harts text none e m same = let o = word_offer harts text e m same in no_first 32 text (decimal o.0) (word o.1) none o.4

pub no_hart : (harts : ℕ) (text number rest : List ℕ) → HasNone 32 number → text ≡ number ++ 32 ∷ rest →
    ((h : ℕ) → IsHart harts h → number ≡ decimal h → ⊥) → NoEvent harts (codes "word" ++ 32 ∷ text)
no_hart harts text number rest none is lacks e m same = let o = offer_fields harts text number rest none is e m same in lacks o.0 o.2 o.4

pub no_word : (harts : ℕ) (text number rest : List ℕ) → HasNone 32 number → text ≡ number ++ 32 ∷ rest →
    ((w : ℕ) → IsWord rest w → ⊥) → NoEvent harts (codes "word" ++ 32 ∷ text)
no_word harts text number rest none is lacks e m same = let o = offer_fields harts text number rest none is e m same in lacks o.1 (o.3, o.5)

-- the text has a name, and something behind a space
spaced_event : (harts : ℕ) (text name rest : List ℕ) → HasNone 32 name → text ≡ name ++ 32 ∷ rest → (name ≡ codes "word" → ⊥) →
    (e : Event) → MayHappen harts e → text ≡ event_text e → (name ≡ name_of e) × (words_of e ≡ []) × (32 ∷ rest ≡ spaced_numbers (numbers_of e))
spaced_event harts text name rest none is other e m same =
    let r = text_cut harts e name (32 ∷ rest) m none refl (sym is ∙ same) in
    let words : words_of e ≡ [] = no_words harts e m (λ w. other (r.0 ∙ sym w)) in
    let spaced : 32 ∷ rest ≡ spaced_numbers (numbers_of e) ++ spaced_words [] =
    r.1 ∙ ap (λ (ws : List ℕ). spaced_numbers (numbers_of e) ++ spaced_words ws) words in
    (r.0, words, spaced ∙ grind (arith, common_steps))

pub no_numbers : (harts : ℕ) (text name rest : List ℕ) → HasNone 32 name → text ≡ name ++ 32 ∷ rest → (name ≡ codes "word" → ⊥) →
    ((ns : List ℕ) → AreNumbers ns → 32 ∷ rest ≡ spaced_numbers ns → ⊥) → NoEvent harts text
no_numbers harts text name rest none is other lacks e m same =
    let r = spaced_event harts text name rest none is other e m same in
    lacks (numbers_of e) (are_numbers harts e m) r.2

pub says_nothing : (harts : ℕ) (text name rest ns : List ℕ) → HasNone 32 name → text ≡ name ++ 32 ∷ rest → (name ≡ codes "word" → ⊥) →
    AreNumbers ns → 32 ∷ rest ≡ spaced_numbers ns → SaysNothing harts name ns → NoEvent harts text
says_nothing harts text name rest ns none is other all spaced lacks e m same =
    let r = spaced_event harts text name rest none is other e m same in
    lacks e (m, r.0, numbers_same ns (numbers_of e) all (are_numbers harts e m) (sym spaced ∙ r.2), r.1)

-- ---- one number more

pub next_number : {A : Type 0} (now : A → List ℕ) (rest : Option A) (fields : A) (r : Option A) (field : List ℕ) → rest ≡ Some fields → HasNone 32 field →
    IfSome r (λ b. now fields ≡ field ++ 32 ∷ now b) → IfNone r (now fields ≡ field) → (ks : List ℕ) → AreNumbers ks → behind now rest ≡ spaced_numbers ks →
    (k : ℕ) × (js : List ℕ) × (k < 2 ^ 48) × AreNumbers js × (field ≡ decimal k) × (behind now r ≡ spaced_numbers js)
next_number now None fields r field is none some without ks all e = absurd cc
next_number now (Some f) fields r field is none some without ks all e =
    let same : f ≡ fields = cc in
    let parts : 32 ∷ (field ++ behind now r) ≡ spaced_numbers ks = ap (λ (t : List ℕ). 32 ∷ t) (sym (cut_is now r (now fields) field some without))
    ∙ ap (λ (t : List ℕ). 32 ∷ t) (ap now (sym same)) ∙ e in
    first_number field (behind now r) ks none (behind_tail now r) all parts

numbers_append : (ns : List ℕ) (n : ℕ) → AreNumbers ns → n < 2 ^ 48 → AreNumbers (ns ++ n ∷ [])
numbers_append [] n p h = (h, tt)
numbers_append (m ∷ ms) n p h = (p.0, numbers_append ms n p.1 h)

spaced_append : (ns : List ℕ) (n : ℕ) (text : List ℕ) → spaced_numbers (ns ++ n ∷ []) ++ text ≡ spaced_numbers ns ++ 32 ∷ (decimal n ++ text)
spaced_append [] n text = grind (arith, common_steps)
spaced_append (m ∷ ms) n text = append_assoc (32 ∷ decimal m) (spaced_numbers (ms ++ n ∷ [])) text
    ∙ ap (λ (t : List ℕ). (32 ∷ decimal m) ++ t) (spaced_append ms n text)
    ∙ sym (append_assoc (32 ∷ decimal m) (spaced_numbers ms) (32 ∷ (decimal n ++ text)))

behind_is : {A : Type 0} (now : A → List ℕ) (rest : Option A) (fields : A) → rest ≡ Some fields → behind now rest ≡ 32 ∷ now fields
behind_is now None fields is = absurd cc
behind_is now (Some f) fields is = let same : f ≡ fields = cc in ap (λ (t : List ℕ). 32 ∷ t) (ap now same)

pub with_next : {A : Type 0} (now : A → List ℕ) (text : List ℕ) (rest : Option A) (fields : A) (r : Option A) (field items more : List ℕ) (n : ℕ) →
    rest ≡ Some fields → HasNone 32 field → IfSome r (λ b. now fields ≡ field ++ 32 ∷ now b) → IfNone r (now fields ≡ field) →
    n < 2 ^ 48 → field ≡ decimal n → more ≡ items ++ n ∷ [] → AreNumbers items → 32 ∷ text ≡ spaced_numbers items ++ behind now rest →
    ((ns : List ℕ) → AreNumbers ns → 32 ∷ text ≡ spaced_numbers ns → (ks : List ℕ) × AreNumbers ks × (behind now rest ≡ spaced_numbers ks)) →
    AreNumbers more × (32 ∷ text ≡ spaced_numbers more ++ behind now r) ×
    ((ns : List ℕ) → AreNumbers ns → 32 ∷ text ≡ spaced_numbers ns → (ks : List ℕ) × AreNumbers ks × (behind now r ≡ spaced_numbers ks))
with_next now text rest fields r field items more n is none some without small spelled pushed all e only = (
  rw pushed (numbers_append items n all small),
  e ∙ ap (λ (t : List ℕ). spaced_numbers items ++ t) (behind_is now rest fields is)
      ∙ ap (λ (t : List ℕ). spaced_numbers items ++ 32 ∷ t) (cut_is now r (now fields) field some without)
      ∙ ap (λ (t : List ℕ). spaced_numbers items ++ 32 ∷ (t ++ behind now r)) spelled
      ∙ sym (spaced_append items n (behind now r))
      ∙ ap (λ (t : List ℕ). spaced_numbers t ++ behind now r) (sym pushed),
  λ ns numbers same.
      let o = only ns numbers same in
      let p = next_number now rest fields r field is none some without o.0 o.1 o.2 in
      (p.1, p.3, p.5),
)

-- ---- lines

numbers_no_break : (ns : List ℕ) → AreNumbers ns → HasNone 10 (spaced_numbers ns)
numbers_no_break [] p = tt
numbers_no_break (n ∷ ns) p = ((λ e. omega arith), has_none-append 10 (decimal n) (spaced_numbers ns) (number_has_none 10 n (omega arith) p.0) (numbers_no_break ns p.1))

words_no_break : (harts : ℕ) (e : Event) → MayHappen harts e → HasNone 10 (spaced_words (words_of e))
words_no_break harts (Step h) m = tt
words_no_break harts (Offer h input.Timer) m = tt
words_no_break harts (Offer h (input.Word w)) m = ((λ e. omega arith), has_none-append 10 (word w) [] (word_has_none 10 w (omega arith)) tt)
words_no_break harts (Offer h (input.Bell s)) m = absurd m.1
words_no_break harts Seal m = tt
words_no_break harts (Deliver k f) m = tt
words_no_break harts (Join k o) m = tt
words_no_break harts (Acknowledge k) m = tt
words_no_break harts Release m = tt
words_no_break harts Stop m = tt
words_no_break harts (Lose k) m = tt
words_no_break harts (Grant t ks) m = tt

pub event_no_break : (harts : ℕ) (e : Event) → MayHappen harts e → HasNone 10 (event_text e)
event_no_break harts e m = has_none-append 10 (name_of e) (spaced_numbers (numbers_of e) ++ spaced_words (words_of e)) (name_plain 10 (omega arith) harts e m)
    (has_none-append 10 (spaced_numbers (numbers_of e)) (spaced_words (words_of e)) (numbers_no_break (numbers_of e) (are_numbers harts e m))
    (words_no_break harts e m))

pub lacks_by_text : (harts : ℕ) (bytes text rest : List ℕ) → HasNone 10 text → bytes ≡ line text ++ rest → NoEvent harts text → LacksLine harts bytes
lacks_by_text harts = lines.lacks_by_text (MayHappen harts) event_text (event_no_break harts)
