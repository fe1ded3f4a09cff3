-- A text has one list of fields, and one text before its seal.
use Rattle.std.proofs.Common.{◌≡◌, ℕ, ◌<◌, List, [], ◌∷◌, ◌++◌, length, take, drop, get_or, Option, None, Some, refl, sym, ap, ◌∙◌, subst, arith, length-append, append_assoc}
use Rattle.std.specs.Prelude.{IfSome, IfNone, ◌↔◌, option_map, is_some, Bool, true, false, not}
use Rattle.std.specs.Int.{w32, from_be_bytes}
use Rattle.std.proofs.lemmas.List.{take-append-drop}
use Rattle.std.proofs.lemmas.List.Splits.{join_with_byte-slice_split}
use Rattle.sha2.specs.Sha256.{sha256}
use Rattle.sha2.proofs.Facts256.{length-sha256}
use Rattle.ft_types.specs.Guests.{GuestParts}
use Rattle.ft_types.specs.Text.{word}
use Rattle.ft_types.proofs.Texts.{word_length}
use Rattle.wire.specs.Fields.{HasNone, IsPlain, ArePlain, spelling, fields_of, fields_left}
use Rattle.wire.specs.Seals.{seal, sealed}
use Rattle.wire.proofs.Splits.{some_part, cut_none, cut_first, cut_joined}
use Rattle.wire.proofs.Plain.{no_spaces}

-- ---- fields

pub spelled : (f : List ℕ) (fs : List (List ℕ)) → IsPlain f → ArePlain fs → fields_of (spelling (f ∷ fs)) ≡ f ∷ fs
spelled f fs p ps = cut_joined 32 f fs p.0 (no_spaces fs ps)

pub respelled : (text : List ℕ) → spelling (fields_of text) ≡ text
respelled text = join_with_byte-slice_split 32 text

-- what the first cut of a text gives
pub first_field : {A : Type 0} (now : A → List ℕ) (behind : Option A) (text field : List ℕ) → HasNone 32 field →
    IfSome behind (λ rest. text ≡ field ++ 32 ∷ now rest) → IfNone behind (text ≡ field) → fields_of text ≡ field ∷ fields_left (option_map now behind)
first_field now None text field one some none = rw none (cut_none 32 field one)
first_field now (Some rest) text field one some none = rw some (cut_first 32 field (now rest) one)

-- no field is left exactly where nothing is
pub none_left : {A : Type 0} (now : A → List ℕ) (rest : Option A) (b : Bool) → is_some rest ≡ not b → (b ≡ true) ↔ (fields_left (option_map now rest) ≡ [])
none_left now None true e = ((λ t. refl), (λ t. refl))
none_left now None false e = absurd cc
none_left now (Some text) true e = absurd cc
none_left now (Some text) false e = ((λ t. absurd cc), (λ t. absurd (some_part 32 (now text) t)))

-- another field goes to the end
pub spelling_more : (f : List ℕ) (fs : List (List ℕ)) (g : List ℕ) → spelling ((f ∷ fs) ++ g ∷ []) ≡ spelling (f ∷ fs) ++ 32 ∷ g
spelling_more f [] g = refl
spelling_more f (h ∷ fs) g = ap (λ (t : List ℕ). f ++ 32 ∷ t) (spelling_more h fs g) ∙ sym (append_assoc f (32 ∷ spelling (h ∷ fs)) (32 ∷ g))

-- what stands behind the first of several fields
pub tails : (all rest more : List (List ℕ)) (f g : List ℕ) → all ≡ f ∷ rest → all ≡ g ∷ more → rest ≡ more
tails all rest more f g d e = let same : f ∷ rest ≡ g ∷ more = sym d ∙ e in cc

pub heads : (all rest more : List (List ℕ)) (f g : List ℕ) → all ≡ f ∷ rest → all ≡ g ∷ more → f ≡ g
heads all rest more f g d e = let same : f ∷ rest ≡ g ∷ more = sym d ∙ e in cc

-- ---- seals

-- two ends of one length stand behind one front
pub same_parts : (x y a b : List ℕ) → length a ≡ length b → x ++ a ≡ y ++ b → (x ≡ y) × (a ≡ b)
same_parts [] [] a b l e = (refl, e)
same_parts [] (d ∷ y) a b l e = absurd (omega (arith, ap length e, length-append y b))
same_parts (c ∷ x) [] a b l e = absurd (omega (arith, ap length e, length-append x a))
same_parts (c ∷ x) (d ∷ y) a b l e =
    let heads : c ≡ d = cc in
    let tails : x ++ a ≡ y ++ b = cc in
    let r = same_parts x y a b l tails in
    (rw (heads, r.0) refl, r.1)

pub seal_length : (guest : GuestParts) (text : List ℕ) → length (32 ∷ word (seal guest text)) ≡ 9
seal_length guest text = omega (arith, word_length (seal guest text))

pub sealed_same : (guest : GuestParts) (x y : List ℕ) → sealed guest x ≡ sealed guest y → x ≡ y
sealed_same guest x y e = (same_parts x y (32 ∷ word (seal guest x)) (32 ∷ word (seal guest y)) (seal_length guest x ∙ sym (seal_length guest y)) e).0

-- the end of nine bytes is the seal of what stands before it
pub end_is_seal : (guest : GuestParts) (bytes front end text : List ℕ) → bytes ≡ front ++ end → length end ≡ 9 → bytes ≡ sealed guest text →
    (front ≡ text) × (end ≡ 32 ∷ word (seal guest text))
end_is_seal guest bytes front end text parts nine e =
    same_parts front text end (32 ∷ word (seal guest text)) (nine ∙ sym (seal_length guest text)) (sym parts ∙ e)

pub cut_parts : (bytes front end : List ℕ) (n : ℕ) → front ≡ take n bytes → end ≡ drop n bytes → bytes ≡ front ++ end
cut_parts bytes front end n f e = sym (ap (λ (x : List ℕ). x ++ end) f ∙ ap (λ (x : List ℕ). take n bytes ++ x) e ∙ take-append-drop n bytes)

pub no_seal : (guest : GuestParts) (bytes text : List ℕ) → length bytes < 9 → bytes ≡ sealed guest text → ⊥
no_seal guest bytes text short e = omega (arith, short, ap length e, length-append text (32 ∷ word (seal guest text)), seal_length guest text)

four : (xs : List ℕ) → length xs ≡ 32 → get_or xs 0 0 ∷ get_or xs 1 0 ∷ get_or xs 2 0 ∷ get_or xs 3 0 ∷ [] ≡ take 4 xs
four [] l = absurd (omega arith)
four (a ∷ []) l = absurd (omega arith)
four (a ∷ b ∷ []) l = absurd (omega arith)
four (a ∷ b ∷ c ∷ []) l = absurd (omega arith)
four (a ∷ b ∷ c ∷ d ∷ xs) l = refl

pub seal_is : (guest : GuestParts) (text slice digest : List ℕ) (n : ℕ) → digest ≡ sha256 (slice ++ text) → slice ≡ guest.digest →
    n ≡ from_be_bytes w32 (get_or digest 0 0 ∷ get_or digest 1 0 ∷ get_or digest 2 0 ∷ get_or digest 3 0 ∷ []) → n ≡ seal guest text
unfolding seal
seal_is guest text slice digest n d s is =
    is ∙ ap (from_be_bytes w32) (four digest (ap length d ∙ length-sha256 (slice ++ text)))
    ∙ ap (λ (x : List ℕ). from_be_bytes w32 (take 4 x)) (d ∙ ap (λ (x : List ℕ). sha256 (x ++ text)) s)

-- ---- a name and a seal

abbrev pub SealedAs : GuestParts → List ℕ → List ℕ → List (List ℕ) → Type 0
SealedAs guest text name fields = text ≡ sealed guest (spelling (name ∷ fields))

pub opened : (guest : GuestParts) (bytes text name : List ℕ) (fields : List (List ℕ)) → bytes ≡ sealed guest text → fields_of text ≡ name ∷ fields →
    SealedAs guest bytes name fields
opened guest bytes text name fields is cut = is ∙ ap (sealed guest) (sym (respelled text) ∙ ap spelling cut)

-- the fields of the text before the seal are those that are spelled there
pub opened_as : (guest : GuestParts) (bytes text name : List ℕ) (others : List (List ℕ)) → bytes ≡ sealed guest text → IsPlain name → ArePlain others →
    SealedAs guest bytes name others → fields_of text ≡ name ∷ others
opened_as guest bytes text name others is p ps e =
    ap fields_of (sealed_same guest text (spelling (name ∷ others)) (sym is ∙ e)) ∙ spelled name others p ps

pub opened_one : (guest : GuestParts) (bytes text name : List ℕ) (fields others : List (List ℕ)) → bytes ≡ sealed guest text →
    fields_of text ≡ name ∷ fields → IsPlain name → ArePlain others → SealedAs guest bytes name others → fields ≡ others
opened_one guest bytes text name fields others is cut p ps e =
    let same : name ∷ fields ≡ name ∷ others = sym cut ∙ opened_as guest bytes text name others is p ps e in
    cc

-- ---- exactness

pub if_none : {A : Type 0} (r : Option A) (P : Type 0) → P → IfNone r P
if_none None P p = p
if_none (Some a) P p = tt

-- what is found is so, and nothing is only where nothing else is so
pub exact_of : {A : Type 0} (r : Option A) (P : A → Type 0) → IfSome r P → IfNone r ((a : A) → P a → ⊥) → ((a b : A) → P a → P b → a ≡ b) →
    (a : A) → (r ≡ Some a) ↔ P a
exact_of None P found none one a = ((λ e. absurd cc), (λ p. absurd (none a p)))
exact_of (Some b) P found none one a = ((λ e. let same : b ≡ a = cc in subst P same found), (λ p. ap Some (one b a found p)))

pub exact_none : {A : Type 0} (r : Option A) (P : A → Type 0) → r ≡ None → ((a : A) → P a → ⊥) → (a : A) → (r ≡ Some a) ↔ P a
exact_none {A = A} r P is none a = ((λ e. let never : ◌≡◌ {A = Option A} None (Some a) = sym is ∙ e in absurd cc), (λ p. absurd (none a p)))

if_some_map : {A : Type 0} (r : Option A) (P Q : A → Type 0) → ((a : A) → P a → Q a) → IfSome r P → IfSome r Q
if_some_map None P Q f p = tt
if_some_map (Some a) P Q f p = f a p

if_none_map : {A : Type 0} (r : Option A) (P Q : Type 0) → (P → Q) → IfNone r P → IfNone r Q
if_none_map None P Q f p = f p
if_none_map (Some a) P Q f p = tt

-- A line under a name and a seal is read exactly, where its fields are.
pub exact_sealed : {A : Type 0} (guest : GuestParts) (text name : List ℕ) (fields : List (List ℕ)) (Is : A → Type 0) (shown : A → List (List ℕ))
    (r : Option A) → SealedAs guest text name fields → ((others : List (List ℕ)) → ArePlain others → SealedAs guest text name others → fields ≡ others) →
    ((a : A) → Is a → ArePlain (shown a)) → ((a b : A) → Is a → Is b → shown a ≡ shown b → a ≡ b) →
    IfSome r (λ a. Is a × (fields ≡ shown a)) → IfNone r ((a : A) → Is a × (fields ≡ shown a) → ⊥) →
    (a : A) → (r ≡ Some a) ↔ (Is a × SealedAs guest text name (shown a))
exact_sealed guest text name fields Is shown r is one plain same found none a = exact_of r (λ b. Is b × SealedAs guest text name (shown b))
    (if_some_map r (λ b. Is b × (fields ≡ shown b)) (λ b. Is b × SealedAs guest text name (shown b))
    (λ b p. (p.0, subst (λ (fs : List (List ℕ)). SealedAs guest text name fs) p.1 is)) found)
    (if_none_map r _ _ (λ lacks b p. lacks b (p.0, one (shown b) (plain b p.0) p.1)) none)
    (λ b d p q. same b d p.0 q.0 (sym (one (shown b) (plain b p.0) p.1) ∙ one (shown d) (plain d q.0) q.1)) a

-- a text that has not the name and the seal is no line of this name
pub exact_unsealed : {A : Type 0} (guest : GuestParts) (text name : List ℕ) (Is : A → Type 0) (shown : A → List (List ℕ)) (r : Option A) → r ≡ None →
    ((others : List (List ℕ)) → ArePlain others → SealedAs guest text name others → ⊥) → ((a : A) → Is a → ArePlain (shown a)) →
    (a : A) → (r ≡ Some a) ↔ (Is a × SealedAs guest text name (shown a))
exact_unsealed guest text name Is shown r is lacks plain = exact_none r (λ a. Is a × SealedAs guest text name (shown a)) is
    (λ a p. lacks (shown a) (plain a p.0) p.1)

-- a line without a seal is read exactly, where its fields are
pub exact_spelled : {A : Type 0} (text : List ℕ) (Is : A → Type 0) (shown : A → List (List ℕ)) (r : Option A) →
    ((a : A) → Is a → fields_of (spelling (shown a)) ≡ shown a) → ((a b : A) → Is a → Is b → shown a ≡ shown b → a ≡ b) →
    IfSome r (λ a. Is a × (fields_of text ≡ shown a)) → IfNone r ((a : A) → Is a × (fields_of text ≡ shown a) → ⊥) →
    (a : A) → (r ≡ Some a) ↔ (Is a × (text ≡ spelling (shown a)))
exact_spelled text Is shown r back same found none a = exact_of r (λ b. Is b × (text ≡ spelling (shown b)))
    (if_some_map r (λ b. Is b × (fields_of text ≡ shown b)) (λ b. Is b × (text ≡ spelling (shown b)))
    (λ b p. (p.0, sym (respelled text) ∙ ap spelling p.1)) found)
    (if_none_map r _ _ (λ lacks b p. lacks b (p.0, ap fields_of p.1 ∙ back b p.0)) none)
    (λ b d p q. same b d p.0 q.0 (sym (back b p.0) ∙ ap fields_of (sym p.1 ∙ q.1) ∙ back d q.0)) a
