-- A file has one reading: the image that it spells, or one fault.
use Rattle.std.proofs.Common.{◌≡◌, ℕ, ◌+◌, ◌^◌, ◌<◌, ◌≤◌, List, [], ◌∷◌, ◌++◌, length, Result, Ok, Err, refl, ap, subst, sym, ◌∙◌, arith}
use Rattle.std.proofs.Common.{inl, inr, append_assoc, length-append}
use Rattle.std.specs.Prelude.{decimal, ◌⊎◌, IfOk, IfErr, MatchResult}
use Rattle.std.proofs.lemmas.Grind.{common_steps, flat_map-append}
use Rattle.std.proofs.lemmas.Fmt.{decimal_injective}
use Rattle.ft_types.specs.Text.{word}
use Rattle.ft_types.specs.declared.names.TheConstants.{PAGE_LIMIT}
use Rattle.ft_types.proofs.Texts.{word_same}
use Rattle.guest_image.specs.declared.fault.ImageFault.{ImageFault}
use Rattle.guest_image.specs.declared.fault.ImageFault.TheVariants.{BadLine, TooLarge, NoHarts, Memory}
use Rattle.guest_image.specs.Image.{ImageContents, Fits, image_text, setting, harts_name, pages_name, word_line, word_lines, AreWords, Sets, LacksWord}
use Rattle.guest_image.specs.Image.{WordsThen, AfterHarts, AfterPages, IsWordFault, IsPagesFault, IsHartsFault, IsFault}
use Rattle.guest_image.proofs.LineFacts.{NoBreak, line_unique, no_break-append, decimal_no_break, word_no_break, same_front, are_words-append}

harts_plain : NoBreak harts_name
harts_plain =
    ((λ e. omega arith), ((λ e. omega arith), ((λ e. omega arith), ((λ e. omega arith), ((λ e. omega arith), ((λ e. omega arith), tt))))))

-- ---- settings

same_sets : (bytes name : List ℕ) (n m : ℕ) (r s : List ℕ) → NoBreak name → Sets bytes name n r →
    Sets bytes name m s → (n ≡ m) × (r ≡ s)
same_sets bytes name n m r s p a b =
    let q = line_unique (name ++ decimal n) (name ++ decimal m) r s
    (no_break-append name (decimal n) p (decimal_no_break n a.1))
    (no_break-append name (decimal m) p (decimal_no_break m b.1)) (sym a.2 ∙ b.2) in
    (decimal_injective n m (omega (arith, a.1)) (omega (arith, b.1)) (same_front name (decimal n) (decimal m) q.0), q.1)

-- ---- words

same_start : (w v : ℕ) (r s : List ℕ) → w < 2 ^ 32 → v < 2 ^ 32 → word_line w ++ r ≡ word_line v ++ s →
    (w ≡ v) × (r ≡ s)
same_start w v r s p q e =
    let u = line_unique (word w) (word v) r s (word_no_break w) (word_no_break v) e in
    (word_same w v p q u.0, u.1)

-- not more words can be read than stand before a rest that is not a word
fewer : (us vs x s : List ℕ) → AreWords us → AreWords vs → LacksWord s → word_lines us ++ x ≡ word_lines vs ++ s →
    length us ≤ length vs
fewer [] vs x s p q none e = omega arith
fewer (u ∷ us) [] x s p q none e = absurd
    (none u (word_lines us ++ x) (p.0, sym e ∙ append_assoc (word_line u) (word_lines us) x))
fewer (u ∷ us) (v ∷ vs) x s p q none e =
    let r = same_start u v (word_lines us ++ x) (word_lines vs ++ s) p.0 q.0
    (sym (append_assoc (word_line u) (word_lines us) x) ∙ e ∙ append_assoc (word_line v) (word_lines vs) s) in
    omega (arith, fewer us vs x s p.1 q.1 none r.1)

-- the words before a rest that is not a word are the same
same_words : (us vs x s : List ℕ) → AreWords us → AreWords vs → LacksWord x → LacksWord s →
    word_lines us ++ x ≡ word_lines vs ++ s → (us ≡ vs) × (x ≡ s)
same_words [] [] x s p q apart none e = (refl, e)
same_words [] (v ∷ vs) x s p q apart none e = absurd
    (apart v (word_lines vs ++ s) (q.0, e ∙ append_assoc (word_line v) (word_lines vs) s))
same_words (u ∷ us) [] x s p q apart none e = absurd
    (none u (word_lines us ++ x) (p.0, sym e ∙ append_assoc (word_line u) (word_lines us) x))
same_words (u ∷ us) (v ∷ vs) x s p q apart none e =
    let r = same_start u v (word_lines us ++ x) (word_lines vs ++ s) p.0 q.0
    (sym (append_assoc (word_line u) (word_lines us) x) ∙ e ∙ append_assoc (word_line v) (word_lines vs) s) in
    let t = same_words us vs x s p.1 q.1 apart none r.1 in
    (rw (r.0, t.0) refl, t.1)

pages_plain : NoBreak pages_name
pages_plain =
    ((λ e. omega arith), ((λ e. omega arith), ((λ e. omega arith), ((λ e. omega arith), ((λ e. omega arith), ((λ e. omega arith), tt))))))

empty_lacks : LacksWord []
empty_lacks w rest p = omega
    (arith, ap length p.1, length-append (word_line w) rest, length-append (word w) (10 ∷ []))

-- ---- one fault

harts_ends : (bytes behind : List ℕ) (e : ImageFault) → IsHartsFault bytes e → AfterHarts bytes behind → ⊥
harts_ends bytes behind (BadLine k) p a = p
harts_ends bytes behind TooLarge p a = let q = same_sets bytes harts_name p.0 a.0 p.1 behind harts_plain p.3 a.2 in
    omega (arith, p.2, a.1, q.0)
harts_ends bytes behind NoHarts p a = p a.0 behind a.2
harts_ends bytes behind Memory p a = p

harts_one : (bytes : List ℕ) (e f : ImageFault) → IsHartsFault bytes e → IsHartsFault bytes f → e ≡ f
harts_one bytes TooLarge TooLarge p q = refl
harts_one bytes NoHarts NoHarts p q = refl
harts_one bytes TooLarge NoHarts p q = absurd (q p.0 p.1 p.3)
harts_one bytes NoHarts TooLarge p q = absurd (p q.0 q.1 q.3)
harts_one bytes (BadLine k) f p q = absurd p
harts_one bytes Memory f p q = absurd p
harts_one bytes TooLarge (BadLine k) p q = absurd q
harts_one bytes TooLarge Memory p q = absurd q
harts_one bytes NoHarts (BadLine k) p q = absurd q
harts_one bytes NoHarts Memory p q = absurd q

pages_ends : (bytes behind : List ℕ) (n : ℕ) (e : ImageFault) → IsPagesFault bytes e → n ≤ PAGE_LIMIT →
    Sets bytes pages_name n behind → ⊥
pages_ends bytes behind n (BadLine k) p small a = p.1 n behind a
pages_ends bytes behind n TooLarge p small a = let q = same_sets bytes pages_name p.0 n p.1 behind pages_plain p.3 a
    in omega (arith, p.2, q.0)
pages_ends bytes behind n NoHarts p small a = p
pages_ends bytes behind n Memory p small a = p

pages_one : (bytes : List ℕ) (e f : ImageFault) → IsPagesFault bytes e → IsPagesFault bytes f → e ≡ f
pages_one bytes TooLarge TooLarge p q = refl
pages_one bytes (BadLine k) (BadLine j) p q = ap BadLine (p.0 ∙ sym q.0)
pages_one bytes TooLarge (BadLine j) p q = absurd (q.1 p.0 p.1 p.3)
pages_one bytes (BadLine k) TooLarge p q = absurd (p.1 q.0 q.1 q.3)
pages_one bytes NoHarts f p q = absurd p
pages_one bytes Memory f p q = absurd p
pages_one bytes TooLarge NoHarts p q = absurd q
pages_one bytes TooLarge Memory p q = absurd q
pages_one bytes (BadLine k) NoHarts p q = absurd q
pages_one bytes (BadLine k) Memory p q = absurd q

-- a word too many doesn't stand where all words that can be read have room
too_many : (pages : ℕ) (bytes vs s : List ℕ) → IsWordFault pages bytes TooLarge → WordsThen pages bytes vs s →
    LacksWord s → ⊥
too_many pages bytes vs s p q none =
    let w = p.2 in
    let all : bytes ≡ word_lines (p.0 ++ w ∷ []) ++ p.3 = p.4.2
    ∙ rw p.6.1 (sym (rw (flat_map-append word_line p.0 (w ∷ [])) (simp append_assoc))) in
    omega
    (arith, fewer (p.0 ++ w ∷ []) vs p.3 s (are_words-append p.0 (w ∷ []) p.4.0 (p.6.0, tt)) q.0 none (sym all ∙ q.2), length-append p.0 (w ∷ []), p.5, q.1)

words_ends : (pages : ℕ) (bytes vs : List ℕ) (e : ImageFault) → (e ≡ Memory → ⊥) → IsWordFault pages bytes e →
    WordsThen pages bytes vs [] → ⊥
words_ends pages bytes vs (BadLine k) apart p q =
    let r = same_words p.0 vs p.1 [] p.2.0 q.0 p.4 empty_lacks (sym p.2.2 ∙ q.2) in
    omega (arith, p.3, ap length r.1)
words_ends pages bytes vs TooLarge apart p q = too_many pages bytes vs [] p q empty_lacks
words_ends pages bytes vs NoHarts apart p q = p
words_ends pages bytes vs Memory apart p q = apart refl

words_one : (pages : ℕ) (bytes : List ℕ) (e f : ImageFault) → (f ≡ Memory → ⊥) → IsWordFault pages bytes e →
    IsWordFault pages bytes f → (e ≡ Memory) ⊎ (e ≡ f)
words_one pages bytes Memory f apart p q = inl refl
words_one pages bytes e Memory apart p q = absurd (apart refl)
words_one pages bytes NoHarts f apart p q = absurd p
words_one pages bytes e NoHarts apart p q = absurd q
words_one pages bytes TooLarge TooLarge apart p q = inr refl
words_one pages bytes TooLarge (BadLine j) apart p q = absurd (too_many pages bytes q.0 q.1 p q.2 q.4)
words_one pages bytes (BadLine k) TooLarge apart p q = absurd (too_many pages bytes p.0 p.1 q p.2 p.4)
words_one pages bytes (BadLine k) (BadLine j) apart p q =
    let r = same_words p.0 q.0 p.1 q.1 p.2.0 q.2.0 p.4 q.4 (sym p.2.2 ∙ q.2.2) in
    inr (ap BadLine (p.5 ∙ ap (λ (t : List ℕ). length t + 3) r.0 ∙ sym q.5))

same_after_harts : (bytes r s : List ℕ) → AfterHarts bytes r → AfterHarts bytes s → r ≡ s
same_after_harts bytes r s a b = (same_sets bytes harts_name a.0 b.0 r s harts_plain a.2 b.2).1

same_after_pages : (bytes : List ℕ) (n m : ℕ) (r s : List ℕ) → AfterPages bytes n r → AfterPages bytes m s →
    (n ≡ m) × (r ≡ s)
same_after_pages bytes n m r s a b =
    let e = same_after_harts bytes a.0 b.0 a.1 b.1 in
    let P : List ℕ → Type 0 = λ t. Sets t pages_name n r in
    same_sets b.0 pages_name n m r s pages_plain (subst P e a.3) b.3

pages_then_ends : (bytes x y : List ℕ) (n : ℕ) (e : ImageFault) → AfterHarts bytes x → IsPagesFault x e →
    AfterPages bytes n y → ⊥
pages_then_ends bytes x y n e a p b =
    let P : List ℕ → Type 0 = λ t. IsPagesFault t e in
    pages_ends b.0 y n e (subst P (same_after_harts bytes x b.0 a b.1) p) b.2 b.3

one_fault : (bytes : List ℕ) (e f : ImageFault) → (f ≡ Memory → ⊥) → IsFault bytes e → IsFault bytes f →
    (e ≡ Memory) ⊎ (e ≡ f)
one_fault bytes e f apart (inl p) (inl q) = inr (harts_one bytes e f p q)
one_fault bytes e f apart (inl p) (inr (inl q)) = absurd (harts_ends bytes q.0 e p q.1)
one_fault bytes e f apart (inl p) (inr (inr q)) = absurd (harts_ends bytes q.2.0 e p q.2.1)
one_fault bytes e f apart (inr (inl p)) (inl q) = absurd (harts_ends bytes p.0 f q p.1)
one_fault bytes e f apart (inr (inl p)) (inr (inl q)) =
    let P : List ℕ → Type 0 = λ t. IsPagesFault t e in
    inr (pages_one q.0 e f (subst P (same_after_harts bytes p.0 q.0 p.1 q.1) p.2) q.2)
one_fault bytes e f apart (inr (inl p)) (inr (inr q)) = absurd (pages_then_ends bytes p.0 q.1 q.0 e p.1 p.2 q.2)
one_fault bytes e f apart (inr (inr p)) (inl q) = absurd (harts_ends bytes p.2.0 f q p.2.1)
one_fault bytes e f apart (inr (inr p)) (inr (inl q)) = absurd (pages_then_ends bytes q.0 p.1 p.0 f q.1 q.2 p.2)
one_fault bytes e f apart (inr (inr p)) (inr (inr q)) =
    let s = same_after_pages bytes p.0 q.0 p.1 q.1 p.2 q.2 in
    let P : ℕ → Type 0 = λ n. IsWordFault n p.1 e in
    let Q : List ℕ → Type 0 = λ t. IsWordFault q.0 t e in
    words_one q.0 q.1 e f apart (subst Q s.1 (subst P s.0 p.3)) q.3

-- ---- an image has no fault

image_starts : (bytes : List ℕ) (i : ImageContents) → Fits i → bytes ≡ image_text i →
    AfterHarts bytes (setting pages_name i.pages ++ word_lines i.words)
image_starts bytes i fits e = (i.harts, fits.harts, (fits.some_harts, omega (arith, fits.harts), e))

image_pages : (bytes : List ℕ) (i : ImageContents) → Fits i → bytes ≡ image_text i →
    AfterPages bytes i.pages (word_lines i.words)
image_pages bytes i fits e =
    (setting pages_name i.pages ++ word_lines i.words, image_starts bytes i fits e, fits.pages, (fits.some_pages, omega (arith, fits.pages), refl))

image_words : (i : ImageContents) → Fits i → WordsThen i.pages (word_lines i.words) i.words []
image_words i fits = (fits.words, fits.room, sym (grind (arith, common_steps)))

faultless : (bytes : List ℕ) (i : ImageContents) (e : ImageFault) → Fits i → bytes ≡ image_text i → (e ≡ Memory → ⊥) →
    IsFault bytes e → ⊥
faultless bytes i e fits is apart (inl p) = harts_ends bytes (setting pages_name i.pages ++ word_lines i.words) e p
    (image_starts bytes i fits is)
faultless bytes i e fits is apart (inr (inl p)) = pages_then_ends bytes p.0 (word_lines i.words) i.pages e p.1 p.2
    (image_pages bytes i fits is)
faultless bytes i e fits is apart (inr (inr p)) =
    let s = same_after_pages bytes p.0 i.pages p.1 (word_lines i.words) p.2 (image_pages bytes i fits is) in
    let P : ℕ → Type 0 = λ n. IsWordFault n p.1 e in
    let Q : List ℕ → Type 0 = λ t. IsWordFault i.pages t e in
    words_ends i.pages (word_lines i.words) i.words e apart (subst Q s.1 (subst P s.0 p.3)) (image_words i fits)

only_memory : (bytes : List ℕ) (i : ImageContents) (e : ImageFault) → Fits i → bytes ≡ image_text i →
    IsFault bytes e → e ≡ Memory
only_memory bytes i Memory fits is p = refl
only_memory bytes i NoHarts fits is p = absurd (faultless bytes i NoHarts fits is (λ h. cc) p)
only_memory bytes i TooLarge fits is p = absurd (faultless bytes i TooLarge fits is (λ h. cc) p)
only_memory bytes i (BadLine k) fits is p = absurd (faultless bytes i (BadLine k) fits is (λ h. cc) p)

abbrev boot_of : ℕ → ℕ → List ℕ → ImageContents
boot_of h p ws = record { harts = h; pages = p; words = ws }

image_same : (i j : ImageContents) → Fits i → Fits j → image_text i ≡ image_text j → i ≡ j
image_same i j a b e =
    let t = same_sets (image_text j) harts_name i.harts j.harts (setting pages_name i.pages ++ word_lines i.words)
    (setting pages_name j.pages ++ word_lines j.words) harts_plain (a.some_harts, omega (arith, a.harts), sym e)
    (b.some_harts, omega (arith, b.harts), refl) in
    let s = same_after_pages (image_text j) i.pages j.pages (word_lines i.words) (word_lines j.words)
    (image_pages (image_text j) i a (sym e)) (image_pages (image_text j) j b refl) in
    let w = same_words i.words j.words [] [] a.words b.words empty_lacks empty_lacks
    (ap (λ (x : List ℕ). x ++ []) s.1) in
    ap (λ (h : ℕ). boot_of h i.pages i.words) t.0 ∙ ap (λ (p : ℕ). boot_of j.harts p i.words) s.0
    ∙ ap (λ (x : List ℕ). boot_of j.harts j.pages x) w.0

pub only_image : (bytes : List ℕ) (r : Result ImageContents ImageFault) →
    IfOk r (λ i. Fits i × (bytes ≡ image_text i)) → IfErr r (λ e. IsFault bytes e) → (i : ImageContents) → Fits i →
    bytes ≡ image_text i → MatchResult r (λ j. j ≡ i) (λ e. e ≡ Memory)
only_image bytes (Ok j) p q i fits is = image_same j i p.0 fits (sym p.1 ∙ is)
only_image bytes (Err e) p q i fits is = only_memory bytes i e fits is q

pub only_fault : (bytes : List ℕ) (r : Result ImageContents ImageFault) →
    IfOk r (λ i. Fits i × (bytes ≡ image_text i)) → IfErr r (λ e. IsFault bytes e) → (f : ImageFault) →
    (f ≡ Memory → ⊥) → IsFault bytes f → MatchResult r (λ j. ⊥) (λ e. (e ≡ Memory) ⊎ (e ≡ f))
only_fault bytes (Ok j) p q f apart is = faultless bytes j f p.0 p.1 apart is
only_fault bytes (Err e) p q f apart is = one_fault bytes e f apart q is
