-- Texts that are written piece by piece.
use Rattle.std.proofs.Common.{◌≡◌, ℕ, zero, suc, ◌+◌, ◌-◌, ◌*◌, ◌%◌, ◌^◌, ◌<◌, ◌≤◌, List, [], ◌∷◌, ◌++◌, length, get_or, take, drop, Option, Result, Ok, Err}
use Rattle.std.proofs.Common.{refl, ap, subst, sym, ◌∙◌, arith, append_assoc, add-one, drop-cons, length-drop, length-take, drop-drop, set, length-set}
use Rattle.std.proofs.lemmas.List.{take-append-drop, take_all, drop-set}
use Rattle.ft_types.proofs.Texts.{two_put}
use Rattle.std.specs.Int.{from_le_bytes, w32}
use Rattle.std.specs.Io.KnownBytes.{Appends}
use Rattle.std.specs.List.{flat_map}
use Rattle.std.proofs.lemmas.Grind.{common_steps, flat_map-append}
use Rattle.ft_types.specs.Devices.{Writes, IsOneMore}
use Rattle.ft_types.proofs.Writings.{IsLeft, left_step, left_fails, appends_then}
use Rattle.guest_image.specs.Machine.{words_of, ram_words}
use Rattle.guest_image.specs.Text.{numbered, ram_line}

module _ {Writer : Type 0} (bytes : Writer → Option (List ℕ)) (failures : Writer → ℕ) where
  -- a call wrote the whole text
  abbrev pub Wrote : Writer → Writer → List ℕ → Type 0
  Wrote old new text = Appends (bytes old) (bytes new) text × (failures new ≡ failures old)

  -- a call failed, and had written a beginning of the text
  abbrev pub Stopped : Writer → Writer → List ℕ → Type 0
  Stopped old new text =
      IsOneMore (failures old) (failures new) ×
      ((front : List ℕ) × (rest : List ℕ) × (text ≡ front ++ rest) × Appends (bytes old) (bytes new) front)

  abbrev pub WritesTo : {A E : Type 0} → Result A E → Writer → Writer → List ℕ → Type 0
  WritesTo r old new text = Writes r (bytes old) (bytes new) (failures old) (failures new) text

  -- the rest is left to write of the whole text
  abbrev pub LeftOf : Writer → Writer → List ℕ → List ℕ → Type 0
  LeftOf old now all rest = IsLeft (bytes old) (bytes now) (failures old) (failures now) all rest

  -- a text was written, and then another
  pub then_writes : {A E : Type 0} (r : Result A E) (a b c : Writer) (x y : List ℕ) → Wrote a b x → WritesTo r b c y →
      WritesTo r a c (x ++ y)
  then_writes (Ok u) a b c x y p q = (appends_then (bytes a) (bytes b) (bytes c) x y p.0 q.0, q.1 ∙ p.1)
  then_writes (Err e) a b c x y p q = (
    q.0 ∙ ap (λ (k : ℕ). (k + 1) % 2 ^ 64) p.1,
    (
      x ++ q.1.0,
      q.1.1,
      ap (λ (t : List ℕ). x ++ t) q.1.2 ∙ sym (append_assoc x q.1.0 q.1.1),
      appends_then (bytes a) (bytes b) (bytes c) x q.1.0 p.0 q.1.3,
    ),
  )

  -- a text was not written whole, nor what comes after it
  pub then_stops : {A E : Type 0} (r : Result A E) (e : E) (a b : Writer) (x y : List ℕ) → r ≡ Err e → Stopped a b x →
      WritesTo r a b (x ++ y)
  then_stops r e a b x y is p = rw is (p.0, (p.1.0, p.1.1 ++ y, rw p.1.2 (append_assoc p.1.0 p.1.1 y), p.1.3))

  -- a loop's turn that wrote what came first of the rest
  pub goes_on : (old now new : Writer) (all rest more later : List ℕ) → rest ≡ more ++ later →
      LeftOf old now all rest → Wrote now new more → LeftOf old new all later
  goes_on old now new all rest more later e p q =
      let P : List ℕ → Type 0 = λ s. LeftOf old now all s in
      left_step (bytes old) (bytes now) (bytes new) (failures old) (failures now) (failures new) all later more
      (subst P e p) q.0 q.1

  -- a loop's turn that failed at it
  pub stops : {A E : Type 0} (r : Result A E) (e : E) (old now new : Writer) (all rest more later : List ℕ) →
      r ≡ Err e → rest ≡ more ++ later → LeftOf old now all rest → Stopped now new more → WritesTo r old new all
  stops r e old now new all rest more later is f p q =
      let P : List ℕ → Type 0 = λ s. LeftOf old now all s in
      left_fails r e (bytes old) (bytes now) (bytes new) (failures old) (failures now)
      (failures new) all later more q.1.0 q.1.1 is (subst P f p) q.0 q.1.2 q.1.3

-- ---- what comes first of a rest

front_at : {A : Type 0} (i : ℕ) (xs : List A) (d : A) → i < length xs → drop i xs ≡ get_or xs i d ∷ drop (i + 1) xs
front_at i xs d h = rw add-one (drop-cons xs i d h)

pub numbered_at : {A : Type 0} (t : ℕ → A → List ℕ) (k j i : ℕ) (xs : List A) (d : A) → j ≡ k + 1 → i < length xs →
    numbered t k (drop i xs) ≡ t k (get_or xs i d) ++ numbered t j (drop (i + 1) xs)
numbered_at {A = A} t k j i xs d e h = rw e (ap (λ (ys : List A). numbered t k ys) (front_at i xs d h))

pub flat_at : {A : Type 0} (t : A → List ℕ) (i : ℕ) (xs : List A) (x : A) → x ≡ get_or xs i x → i < length xs →
    flat_map t (drop i xs) ≡ t x ++ flat_map t (drop (i + 1) xs)
flat_at {A = A} t i xs x is h = ap (λ (ys : List A). flat_map t ys)
    (front_at i xs x h ∙ ap (λ (y : A). y ∷ drop (i + 1) xs) (sym is))

pub numbered-append : {A : Type 0} (t : ℕ → A → List ℕ) (k : ℕ) (xs ys : List A) →
    numbered t k (xs ++ ys) ≡ numbered t k xs ++ numbered t (k + length xs) ys
numbered-append t k [] ys = ap (λ (j : ℕ). numbered t j ys) (omega arith)
numbered-append t k (x ∷ xs) ys =
    let place : k + 1 + length xs ≡ k + suc (length xs) = omega arith in
    ap (λ (s : List ℕ). t k x ++ s)
    (numbered-append t (k + 1) xs ys ∙ ap (λ (j : ℕ). numbered t (k + 1) xs ++ numbered t j ys) place)
    ∙ sym (append_assoc (t k x) (numbered t (k + 1) xs) (numbered t (k + suc (length xs)) ys))

-- the first word of at least four bytes
pub words_at : (bytes : List ℕ) → 4 ≤ length bytes → words_of bytes
    ≡ from_le_bytes w32 (get_or bytes 0 0 ∷ get_or bytes 1 0 ∷ get_or bytes 2 0 ∷ get_or bytes 3 0 ∷ []) ∷ words_of
    (drop 4 bytes)
words_at [] h = absurd (omega arith)
words_at (a ∷ []) h = absurd (omega arith)
words_at (a ∷ b ∷ []) h = absurd (omega arith)
words_at (a ∷ b ∷ c ∷ []) h = absurd (omega arith)
words_at (a ∷ b ∷ c ∷ d ∷ rest) h = refl

pub behind : (rest : List ℕ) → length (take (length rest - 4) (drop 4 rest)) ≤ length rest - 4
behind rest = grind (arith, common_steps)

-- the line of the first word comes first of those from it on
pub page_at : (k v : ℕ) (rest : List ℕ) → 4 ≤ length rest →
    v ≡ from_le_bytes w32 (get_or rest 0 0 ∷ get_or rest 1 0 ∷ get_or rest 2 0 ∷ get_or rest 3 0 ∷ []) →
    numbered ram_line k (words_of rest) ≡ ram_line k v ++ numbered ram_line (k + 1)
    (words_of (take (length rest - 4) (drop 4 rest)))
page_at k v rest h e =
    let same : take (length rest - 4) (drop 4 rest) ≡ drop 4 rest = grind (arith, common_steps) in
    let first : words_of rest ≡ v ∷ words_of (drop 4 rest) = words_at rest h
    ∙ ap (λ (w : ℕ). w ∷ words_of (drop 4 rest)) (sym e) in
    rw same (ap (λ (ws : List ℕ). numbered ram_line k ws) first)

-- three bytes or fewer have no word
pub words_end : (bytes : List ℕ) → length bytes < 4 → words_of bytes ≡ []
words_end [] h = refl
words_end (a ∷ []) h = refl
words_end (a ∷ b ∷ []) h = refl
words_end (a ∷ b ∷ c ∷ []) h = refl
words_end (a ∷ b ∷ c ∷ d ∷ rest) h = absurd (omega arith)

pub words_size : (n : ℕ) (bytes : List ℕ) → length bytes ≡ n * 4 → length (words_of bytes) ≡ n
words_size zero bytes h = rw (words_end bytes (omega arith)) refl
words_size (suc n) bytes h = rw (words_at bytes (omega arith))
    (ap suc (words_size n (drop 4 bytes) (omega (arith, length-drop 4 bytes))))

-- the lines of a page come first of those of the pages from it on
pub ram_at : (i : ℕ) (pages : List (List ℕ)) (page d : List ℕ) → i < length pages → page ≡ get_or pages i d →
    length page ≡ 4096 →
    numbered ram_line (i * 1024) (ram_words (drop i pages)) ≡ numbered ram_line (i * 1024) (words_of page)
    ++ numbered ram_line ((i + 1) * 1024) (ram_words (drop (i + 1) pages))
ram_at i pages page d h is size =
    let place : i * 1024 + length (words_of page) ≡ (i + 1) * 1024 = omega (arith, words_size 1024 page size) in
    ap (λ (ps : List (List ℕ)). numbered ram_line (i * 1024) (ram_words ps))
    (front_at i pages d h ∙ ap (λ (p : List ℕ). p ∷ drop (i + 1) pages) (sym is))
    ∙ numbered-append ram_line (i * 1024) (words_of page) (ram_words (drop (i + 1) pages))
    ∙ ap
    (λ (k : ℕ). numbered ram_line (i * 1024) (words_of page) ++ numbered ram_line k (ram_words (drop (i + 1) pages)))
    place

-- the text of the first n of a rest comes first of the rest's
pub first_parts : {A : Type 0} (all behind : List A → List ℕ) (i n : ℕ) (xs : List A) (text : List ℕ) →
    ((front rest : List A) → length front ≡ n → all (front ++ rest) ≡ all front ++ behind rest) → i + n ≤ length xs →
    text ≡ all (take (i + n - i) (drop i xs)) → all (drop i xs) ≡ text ++ behind (drop (i + n) xs)
first_parts {A = A} all behind i n xs text parts h is =
    let count : i + n - i ≡ n = omega arith in
    let first : text ≡ all (take n (drop i xs)) = is ∙ ap (λ (k : ℕ). all (take k (drop i xs))) count in
    let some : length (take n (drop i xs)) ≡ n = omega (arith, length-drop i xs, length-take n (drop i xs)) in
    ap all (sym (take-append-drop n (drop i xs)))
    ∙ parts (take n (drop i xs)) (drop n (drop i xs)) some
    ∙ rw (first, drop-drop) refl

-- lines that are numbered from i on
pub numbered_parts : {A : Type 0} (t : ℕ → A → List ℕ) (i n : ℕ) (xs : List A) (text : List ℕ) → i + n ≤ length xs →
    text ≡ numbered t i (take (i + n - i) (drop i xs)) → numbered t i (drop i xs) ≡ text ++ numbered t (i + n) (drop (i + n) xs)
numbered_parts {A = A} t i n xs text = first_parts (numbered t i) (numbered t (i + n)) i n xs text
    (λ front rest some. numbered-append t i front rest ∙ ap (λ (k : ℕ). numbered t i front ++ numbered t (i + k) rest) some)

-- lines that are not
pub flat_parts : {A : Type 0} (t : A → List ℕ) (i n : ℕ) (xs : List A) (text : List ℕ) → i + n ≤ length xs →
    text ≡ flat_map t (take (i + n - i) (drop i xs)) → flat_map t (drop i xs) ≡ text ++ flat_map t (drop (i + n) xs)
flat_parts t i n xs text = first_parts (flat_map t) (flat_map t) i n xs text (λ front rest some. flat_map-append t front rest)

-- what is taken whole
pub taken_whole : (n start : ℕ) (block text : List ℕ) → length block ≤ n → drop start block ≡ text → take (n - start) (drop start block) ≡ text
taken_whole n start block text h is = take_all (n - start) (drop start block) (omega (arith, length-drop start block)) ∙ is

-- three bytes that are put at a place
pub three_put : (bytes : List ℕ) (at next last end a b c : ℕ) → next ≡ at + 1 → last ≡ at + 2 → end ≡ at + 3 → end ≤ length bytes →
    drop at (set (set (set bytes next b) last c) at a) ≡ a ∷ b ∷ c ∷ drop end bytes
three_put bytes at next last end a b c n l e h =
    let behind = set (set bytes next b) last c in
    let two : drop next behind ≡ b ∷ c ∷ drop end bytes = two_put bytes next last end b c (omega arith) (omega arith) h in
    drop-set behind at a (omega (arith, length-set (set bytes next b) last c, length-set bytes next b))
    ∙ ap (λ (rest : List ℕ). a ∷ rest) (subst (λ (k : ℕ). drop k behind ≡ b ∷ c ∷ drop end bytes) n two)
