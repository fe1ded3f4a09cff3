-- How a machine starts.
use Rattle.std.proofs.Common.{◌≡◌, ℕ, suc, ◌+◌, ◌-◌, ◌*◌, ◌<◌, ◌≤◌, List, [], ◌∷◌, ◌++◌, length, get_or, take, drop, map, replicate, refl, ap, subst, sym, ◌∙◌}
use Rattle.std.proofs.Common.{arith, append_assoc, zero-add, length-drop}
use Rattle.std.specs.Prelude.{◌⊎◌}
use Rattle.std.proofs.Common.{inl, inr}
use Rattle.std.specs.List.{flat_map, range_with_len}
use Rattle.std.proofs.lemmas.Grind.{common_steps, flat_map-append}
use Rattle.std.proofs.lemmas.List.{take_more, take-append-drop, drop-drop, drop-replicate}
use Rattle.std.proofs.lemmas.List.FromFn.{map-range_with_len_more}
use Rattle.rv32_hart.specs.Hart.{Hart, boot_hart}
use Rattle.guest_image.specs.Machine.{word_bytes, page_with, pages_with}

whole : (n : ℕ) (xs : List ℕ) → length xs ≤ n → take n xs ≡ xs
whole n xs h = grind (arith, common_steps)

past : (n : ℕ) (xs : List ℕ) → length xs ≤ n → drop n xs ≡ []
past n xs h = grind (arith, common_steps)

ends : (ws : List ℕ) (n : ℕ) → length ws ≤ n → (take (length ws) ws ≡ take n ws) × (drop (length ws) ws ≡ drop n ws)
ends ws n h =
    (whole (length ws) ws (omega arith) ∙ sym (whole n ws h), grind (arith, common_steps) ∙ sym (past n ws h))

here_is : (ws : List ℕ) (here : ℕ) → (here ≡ 1024) ⊎ ((here ≡ length ws) × (length ws ≤ 1024)) →
    (take here ws ≡ take 1024 ws) × (drop here ws ≡ drop 1024 ws)
here_is ws here (inl e) = rw e (refl, refl)
here_is ws here (inr p) =
    let e : here ≡ length ws = p.0 in
    let small : length ws ≤ 1024 = p.1 in
    rw e (ends ws 1024 small)

ends_empty : (xs : List (List ℕ)) → xs ++ [] ≡ xs
ends_empty [] = refl
ends_empty (x ∷ xs) = ap (λ (t : List (List ℕ)). x ∷ t) (ends_empty xs)

pub harts_go_on : (harts n : ℕ) (old new : List Hart) (h : Hart) → old ≡ map (boot_hart harts) (range_with_len 0 n) →
    h ≡ boot_hart harts n → new ≡ old ++ h ∷ [] → new ≡ map (boot_hart harts) (range_with_len 0 (n + 1))
harts_go_on harts n old new h p q e = e ∙ rw (p, q)
    (sym (map-range_with_len_more (boot_hart harts) 0 n n (zero-add n)))

-- the page has the first i of the words, and zeros behind them
pub record HasWords (ws : List ℕ) (i : ℕ) (bytes : List ℕ) : Type 0 where
  pub size : length bytes ≡ 4096
  pub front : take (i * 4) bytes ≡ flat_map word_bytes (take i ws)
  pub rest : drop (i * 4) bytes ≡ replicate (4096 - i * 4) 0

pub page_goes_on : (ws old new : List ℕ) (i : ℕ) → i < length ws →
    take (i * 4 + 4) new ≡ take (i * 4) old ++ word_bytes (get_or ws i 0) →
    drop (i * 4 + 4) new ≡ drop (i * 4 + 4) old → length new ≡ length old → HasWords ws i old →
    HasWords ws (i + 1) new
page_goes_on ws old new i h front rest size p =
    let four : (i + 1) * 4 ≡ i * 4 + 4 = omega arith in
    let more : take (i + 1) ws ≡ take i ws ++ get_or ws i 0 ∷ [] = take_more ws i 0 h in
    record {
      size = size ∙ p.size;
      front = ap (λ (k : ℕ). take k new) four ∙ front ∙ rw (p.front, more)
          (sym (flat_map-append word_bytes (take i ws) (get_or ws i 0 ∷ [])));
      rest = ap (λ (k : ℕ). drop k new) four ∙ rest ∙ sym (drop-drop 4 (i * 4) old)
          ∙ ap (λ (t : List ℕ). drop 4 t) p.rest ∙ drop-replicate 4 (4096 - i * 4) 0
          ∙ ap (λ (k : ℕ). replicate k 0) (omega arith);
    }

pub page_is : (ws bytes : List ℕ) (i : ℕ) → length ws ≤ i → i ≤ length ws → HasWords ws i bytes → bytes ≡ page_with ws
unfolding page_with
page_is ws bytes i le ge p =
    let same : i ≡ length ws = omega arith in
    let all : take i ws ≡ ws = whole i ws le in
    let many : 4096 - i * 4 ≡ 4096 - 4 * length ws = omega arith in
    sym (take-append-drop (i * 4) bytes) ∙ rw (p.front, p.rest, all, many) refl

abbrev pub PagesLeft : ℕ → List ℕ → ℕ → List (List ℕ) → List ℕ → Type 0
PagesLeft count words i pages rest = pages ++ pages_with (count - i) rest ≡ pages_with count words

pub pages_go_on : (count : ℕ) (words : List ℕ) (i here : ℕ) (old new : List (List ℕ)) (rest after page : List ℕ) →
    i < count → (here ≡ 1024) ⊎ ((here ≡ length rest) × (length rest ≤ 1024)) → page ≡ page_with (take here rest) →
    after ≡ drop here rest → new ≡ old ++ page ∷ [] → PagesLeft count words i old rest →
    PagesLeft count words (i + 1) new after
unfolding pages_with
pages_go_on count words i here old new rest after page l h p a n q =
    let s : count - i ≡ suc (count - (i + 1)) = omega arith in
    let H = here_is rest here h in
    rw (n, p, a, H.0, H.1)
    (append_assoc old (page_with (take 1024 rest) ∷ []) (pages_with (count - (i + 1)) (drop 1024 rest)) ∙ (rw s at q))

pub pages_end : (count : ℕ) (words : List ℕ) (i : ℕ) (pages : List (List ℕ)) (rest : List ℕ) → count ≤ i →
    PagesLeft count words i pages rest → pages ≡ pages_with count words
unfolding pages_with
pages_end count words i pages rest h p =
    let e : count - i ≡ 0 = omega arith in
    let P : ℕ → Type 0 = λ k. pages ++ pages_with k rest ≡ pages_with count words in
    sym (ends_empty pages) ∙ subst P e p

pub behind_taken : (here : ℕ) (xs : List ℕ) → take (length xs - here) (drop here xs) ≡ drop here xs
behind_taken here xs = whole (length xs - here) (drop here xs) (omega (arith, length-drop here xs))

pub pages_go_on_at : (count : ℕ) (words : List ℕ) (i here : ℕ) (old new : List (List ℕ)) (rest page : List ℕ) →
    i < count → (here ≡ 1024) ⊎ ((here ≡ length rest) × (length rest ≤ 1024)) → page ≡ page_with (take here rest) →
    new ≡ old ++ page ∷ [] → PagesLeft count words i old rest →
    PagesLeft count words (i + 1) new (take (length rest - here) (drop here rest))
pages_go_on_at count words i here old new rest page l h p n q = pages_go_on count words i here old new rest
    (take (length rest - here) (drop here rest)) page l h p (behind_taken here rest) n q
