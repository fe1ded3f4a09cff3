-- Words of 64 bits, pairs, and whose files they are: each has one text.
use Rattle.std.proofs.Common.{◌≡◌, ℕ, ◌+◌, ◌*◌, ◌/◌, ◌%◌, ◌^◌, ◌<◌, ◌≤◌, List, [], ◌∷◌, ◌++◌, length, take, drop, Option, None, Some, refl, sym, ap, ◌∙◌, arith, rules, length-append, append_assoc}
use Rattle.std.specs.Prelude.{codes, decimal, IfNone, IsSome}
use Rattle.std.specs.Coded.{le_prop}
use Rattle.std.proofs.lemmas.Fmt.{decimal_injective}
use mathlib.Core.HLevel.{is_prop→PathP}
use Rattle.ft_types.specs.Text.{word}
use Rattle.ft_types.specs.declared.names.TheConstants.{KEEPER_LIMIT}
use Rattle.ft_types.specs.declared.quorum.Quorum.{Quorum}
use Rattle.ft_types.proofs.Texts.{word_length, word_same}
use Rattle.wire.specs.Fields.{IsPlain, ArePlain, spelling}
use Rattle.wire.specs.Pairs.{long_word, IsLongWord, IsPair, pair_fields, IsInode, inode_fields, IsKeeps, keeps_fields}
use Rattle.wire.specs.declared.pairs.Pair.{Pair}
use Rattle.wire.specs.declared.keeps.Inode.{Inode}
use Rattle.wire.specs.declared.keeps.Keeps.{Keeps}
use Rattle.wire.proofs.Plain.{word_plain, decimal_plain, none-append}
use Rattle.wire.proofs.Reading.{same_parts, cut_parts}

-- ---- words of 64 bits

pub long_word_length : (w : ℕ) → length (long_word w) ≡ 16
long_word_length w = omega (arith, length-append (word (w / 2 ^ 32)) (word (w % 2 ^ 32)), word_length (w / 2 ^ 32), word_length (w % 2 ^ 32))

pub long_word_plain : (w : ℕ) → IsPlain (long_word w)
long_word_plain w =
    let upper = word_plain (w / 2 ^ 32) in
    let lower = word_plain (w % 2 ^ 32) in
    (none-append 32 (word (w / 2 ^ 32)) (word (w % 2 ^ 32)) upper.0 lower.0, none-append 10 (word (w / 2 ^ 32)) (word (w % 2 ^ 32)) upper.1 lower.1)

pub long_word_same : (w v : ℕ) → w < 2 ^ 64 → v < 2 ^ 64 → long_word w ≡ long_word v → w ≡ v
long_word_same w v p q e =
    let halves = same_parts (word (w / 2 ^ 32)) (word (v / 2 ^ 32)) (word (w % 2 ^ 32)) (word (v % 2 ^ 32))
    (word_length (w % 2 ^ 32) ∙ sym (word_length (v % 2 ^ 32))) e in
    let upper : w / 2 ^ 32 ≡ v / 2 ^ 32 = word_same (w / 2 ^ 32) (v / 2 ^ 32) (omega arith) (omega arith) halves.0 in
    let lower : w % 2 ^ 32 ≡ v % 2 ^ 32 = word_same (w % 2 ^ 32) (v % 2 ^ 32) (omega arith) (omega arith) halves.1 in
    omega (arith, upper, lower)

-- the halves of a text that is such a word are words
pub halves : (text front back : List ℕ) (w : ℕ) → front ≡ take 8 text → back ≡ drop 8 text → length back ≡ 8 → IsLongWord text w →
    (front ≡ word (w / 2 ^ 32)) × (back ≡ word (w % 2 ^ 32))
halves text front back w f b eight is =
    same_parts front (word (w / 2 ^ 32)) back (word (w % 2 ^ 32)) (eight ∙ sym (word_length (w % 2 ^ 32))) (sym (cut_parts text front back 8 f b) ∙ is.1)

-- ---- pairs

pub none_unless : {A : Type 0} (r : Option A) (P : Type 0) → ((IsSome r → ⊥) → P) → IfNone r P
none_unless None P f = f (λ s. absurd cc)
none_unless (Some a) P f = tt

pub quorum_same : (a b : Quorum) → a.keepers ≡ b.keepers → a.need ≡ b.need → a ≡ b
quorum_same a b keepers need = λ i. record {
  keepers = keepers i;
  need = need i;
  sized = is_prop→PathP (λ j. (0 < need j) × (need j ≤ keepers j) × (keepers j ≤ KEEPER_LIMIT)) (λ j. hlevel le_prop) a.sized b.sized i;
}

pub pair_plain : (p : Pair) → IsPair p → ArePlain (pair_fields p)
pair_plain p is = (
  decimal_plain p.quorum.keepers (omega (arith, p.quorum.sized)),
  (decimal_plain p.quorum.need (omega (arith, p.quorum.sized)), (long_word_plain p.name, tt)),
)

abbrev pair : Quorum → ℕ → Pair
pair quorum name = record { quorum = quorum; name = name }

pub pair_same : (a b : Pair) → IsPair a → IsPair b → pair_fields a ≡ pair_fields b → a ≡ b
pair_same a b p q e =
    let keepers_text : decimal a.quorum.keepers ≡ decimal b.quorum.keepers = cc in
    let need_text : decimal a.quorum.need ≡ decimal b.quorum.need = cc in
    let name_text : long_word a.name ≡ long_word b.name = cc in
    let keepers : a.quorum.keepers ≡ b.quorum.keepers =
    decimal_injective a.quorum.keepers b.quorum.keepers (omega (arith, a.quorum.sized)) (omega (arith, b.quorum.sized)) keepers_text in
    let need : a.quorum.need ≡ b.quorum.need =
    decimal_injective a.quorum.need b.quorum.need (omega (arith, a.quorum.sized)) (omega (arith, b.quorum.sized)) need_text in
    ap (λ (x : Quorum). pair x a.name) (quorum_same a.quorum b.quorum keepers need)
    ∙ ap (λ (n : ℕ). pair b.quorum n) (long_word_same a.name b.name p q name_text)

-- ---- files

inode_plain : (i : Inode) → ArePlain (inode_fields i)
inode_plain i = (long_word_plain i.number, (long_word_plain i.born, tt))

abbrev inode : ℕ → ℕ → Inode
inode number born = record { number = number; born = born }

inode_same : (a b : Inode) → IsInode a → IsInode b → inode_fields a ≡ inode_fields b → a ≡ b
inode_same a b p q e =
    let numbers : long_word a.number ≡ long_word b.number = cc in
    let borns : long_word a.born ≡ long_word b.born = cc in
    ap (λ (n : ℕ). inode n a.born) (long_word_same a.number b.number p.0 q.0 numbers)
    ∙ ap (λ (n : ℕ). inode b.number n) (long_word_same a.born b.born p.1 q.1 borns)

pub keeps_plain : (k : Keeps) → IsKeeps k → ArePlain (keeps_fields k)
keeps_plain k is =
    let pair = pair_plain k.pair is.pair in
    let log = inode_plain k.log in
    (decimal_plain k.keeper (omega (arith, is.keeper, k.pair.quorum.sized)), (pair.0, (pair.1.0, (pair.1.1.0, (log.0, (log.1.0, inode_plain k.fences))))))

abbrev keeps : ℕ → Pair → Inode → Inode → Keeps
keeps keeper pair log fences = record { keeper = keeper; pair = pair; log = log; fences = fences }

pub keeps_same : (a b : Keeps) → IsKeeps a → IsKeeps b → keeps_fields a ≡ keeps_fields b → a ≡ b
keeps_same a b p q e =
    let keepers : decimal a.keeper ≡ decimal b.keeper = cc in
    let pairs : pair_fields a.pair ≡ pair_fields b.pair = cc in
    let logs : inode_fields a.log ≡ inode_fields b.log = cc in
    let fences : inode_fields a.fences ≡ inode_fields b.fences = cc in
    let keeper : a.keeper ≡ b.keeper = decimal_injective a.keeper b.keeper (omega (arith, p.keeper, a.pair.quorum.sized))
    (omega (arith, q.keeper, b.pair.quorum.sized)) keepers in
    ap (λ (x : ℕ). keeps x a.pair a.log a.fences) keeper ∙ ap (λ (x : Pair). keeps b.keeper x a.log a.fences) (pair_same a.pair b.pair p.pair q.pair pairs)
    ∙ ap (λ (x : Inode). keeps b.keeper b.pair x a.fences) (inode_same a.log b.log p.log q.log logs)
    ∙ ap (λ (x : Inode). keeps b.keeper b.pair b.log x) (inode_same a.fences b.fences p.fences q.fences fences)

-- fields that were taken one behind the other are those of whatever is said by all
pub keeps_parts : (all f1 f2 f3 f4 : List (List ℕ)) (n : ℕ) (p : Pair) (l f : Inode) (k : Keeps) → all ≡ decimal n ∷ f1 → f1 ≡ pair_fields p ++ f2 →
    f2 ≡ inode_fields l ++ f3 → f3 ≡ inode_fields f ++ f4 → all ≡ keeps_fields k →
    (decimal n ≡ decimal k.keeper) × (decimal p.quorum.keepers ≡ decimal k.pair.quorum.keepers) × (f4 ≡ [])
keeps_parts all f1 f2 f3 f4 n p l f k a b c d e =
    let behind : f1 ≡ pair_fields p ++ inode_fields l ++ inode_fields f ++ f4 =
    b ∙ ap (λ (t : List (List ℕ)). pair_fields p ++ t) (c ∙ ap (λ (t : List (List ℕ)). inode_fields l ++ t) d) in
    let same : decimal n ∷ (pair_fields p ++ inode_fields l ++ inode_fields f ++ f4) ≡ keeps_fields k =
    sym (a ∙ ap (λ (t : List (List ℕ)). decimal n ∷ t) behind) ∙ e in
    (cc, cc, cc)

-- ---- how they are written

spelling_append : (f : List ℕ) (fs : List (List ℕ)) (g : List ℕ) (gs : List (List ℕ)) →
    spelling ((f ∷ fs) ++ g ∷ gs) ≡ spelling (f ∷ fs) ++ 32 ∷ spelling (g ∷ gs)
spelling_append f [] g gs = refl
spelling_append f (h ∷ fs) g gs =
    ap (λ (t : List ℕ). f ++ 32 ∷ t) (spelling_append h fs g gs) ∙ sym (append_assoc f (32 ∷ spelling (h ∷ fs)) (32 ∷ spelling (g ∷ gs)))

pub keeps_spelled : (k : Keeps) (a b c d e : List ℕ) → a ≡ codes "keeps" → b ≡ a ++ 32 ∷ decimal k.keeper → c ≡ b ++ 32 ∷ spelling (pair_fields k.pair) →
    d ≡ c ++ 32 ∷ spelling (inode_fields k.log) → e ≡ d ++ 32 ∷ spelling (inode_fields k.fences) → e ≡ spelling (codes "keeps" ∷ keeps_fields k)
keeps_spelled k a b c d e name number pair log fences =
    let p = k.pair in
    let w = decimal k.keeper ∷ [] in
    let two : b ≡ spelling (codes "keeps" ∷ w) = number ∙ ap (λ (t : List ℕ). t ++ 32 ∷ decimal k.keeper) name in
    let three : c ≡ spelling (codes "keeps" ∷ (w ++ pair_fields p)) = pair ∙ ap (λ (t : List ℕ). t ++ 32 ∷ spelling (pair_fields p)) two
    ∙ sym (spelling_append (codes "keeps") w (decimal p.quorum.keepers) (decimal p.quorum.need ∷ long_word p.name ∷ [])) in
    let four : d ≡ spelling (codes "keeps" ∷ (w ++ pair_fields p ++ inode_fields k.log)) = log ∙ ap (λ (t : List ℕ). t ++ 32 ∷ spelling (inode_fields k.log)) three
    ∙ sym (spelling_append (codes "keeps") (w ++ pair_fields p) (long_word k.log.number) (long_word k.log.born ∷ [])) in
    fences ∙ ap (λ (t : List ℕ). t ++ 32 ∷ spelling (inode_fields k.fences)) four
    ∙ sym (spelling_append (codes "keeps") (w ++ pair_fields p ++ inode_fields k.log) (long_word k.fences.number) (long_word k.fences.born ∷ []))
