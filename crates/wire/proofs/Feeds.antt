-- A feed's line under way, from byte to byte.
use Rattle.std.proofs.Common.{◌≡◌, ℕ, zero, suc, inl, inr, ◌+◌, ◌<◌, List, [], ◌∷◌, ◌++◌, Bool, true, false, cond, Option, None, Some, length, take, get_or, refl, sym, ap, ◌∙◌, subst, arith}
use Rattle.std.proofs.Common.{append_assoc}
use Rattle.std.specs.List.{filter}
use Rattle.std.specs.Option.{option_to_list}
use Rattle.std.proofs.lemmas.Bool.{lt-ltb, le-ltb, cases_lt, cases_eq}
use Rattle.std.proofs.lemmas.List.{length-take, take_all, take_more, append-nil}
use Rattle.wire.specs.Feeds.{is_short, Follows}
use Rattle.wire.specs.declared.line.TheConstants.{LINE_LIMIT}
use Rattle.wire.proofs.Splits.{cut_append, cut_more}

pub follows_none : Follows [] [] []
follows_none = record { texts = []; rest = []; lines = refl; given_are = refl; held_is = refl }

take_longer : (n : ℕ) (xs ys : List ℕ) → take n (take n xs ++ ys) ≡ take n (xs ++ ys)
take_longer zero xs ys = refl
take_longer (suc n) [] ys = refl
take_longer (suc n) (x ∷ xs) ys = ap (λ (t : List ℕ). x ∷ t) (take_longer n xs ys)

filter_append : (p : List ℕ → Bool) (xs ys : List (List ℕ)) → filter p (xs ++ ys) ≡ filter p xs ++ filter p ys
filter_append p [] ys = refl
filter_append p (x ∷ xs) ys = rw (filter_append p xs ys) (kept (p x) x (filter p xs) (filter p ys))
  where
    kept : (b : Bool) (x : List ℕ) (xs ys : List (List ℕ)) → cond b (x ∷ (xs ++ ys)) (xs ++ ys) ≡ cond b (x ∷ xs) xs ++ ys
    kept true x xs ys = refl
    kept false x xs ys = refl

-- the beginning of a line is given where the line is not too long, and then it is the whole
abbrev shown : List ℕ → Option (List ℕ)
shown held = cond (is_short held) (Some held) None

shown_is : (rest : List ℕ) → option_to_list (shown (take LINE_LIMIT rest)) ≡ filter is_short (rest ∷ [])
shown_is rest =
    elim (cases_lt (length rest) LINE_LIMIT) [
      | inl lt ↦
          let all : take LINE_LIMIT rest ≡ rest = take_all LINE_LIMIT rest (omega arith) in
          rw (all, lt-ltb (length rest) LINE_LIMIT lt) refl
      | inr le ↦
          let full : length (take LINE_LIMIT rest) ≡ LINE_LIMIT = length-take LINE_LIMIT rest ∙ omega arith in
          rw (full, le-ltb (length rest) LINE_LIMIT le) refl
    ]

-- a line feed
pub follows_end : (stream : List ℕ) (given : List (List ℕ)) (held : List ℕ) → Follows stream given held →
    Follows (stream ++ 10 ∷ []) (given ++ option_to_list (shown held)) []
follows_end stream given held f = record {
  texts = f.texts ++ f.rest ∷ [];
  rest = [];
  lines = cut_append 10 stream [] ∙ ap (λ (ts : List (List ℕ)). ts ++ [] ∷ []) f.lines;
  given_are =
      ap (λ (gs : List (List ℕ)). gs ++ option_to_list (shown held)) f.given_are
      ∙ ap (λ (h : List ℕ). filter is_short f.texts ++ option_to_list (shown h)) f.held_is
      ∙ ap (λ (gs : List (List ℕ)). filter is_short f.texts ++ gs) (shown_is f.rest)
      ∙ sym (filter_append is_short f.texts (f.rest ∷ []));
  held_is = refl;
}

-- another byte
pub follows_byte : (stream : List ℕ) (given : List (List ℕ)) (held : List ℕ) (b : ℕ) → (b ≡ 10 → ⊥) → Follows stream given held →
    Follows (stream ++ b ∷ []) given (take LINE_LIMIT (held ++ b ∷ []))
follows_byte stream given held b other f = record {
  texts = f.texts;
  rest = f.rest ++ b ∷ [];
  lines = cut_more 10 b stream f.texts f.rest other f.lines;
  given_are = f.given_are;
  held_is = ap (λ (h : List ℕ). take LINE_LIMIT (h ++ b ∷ [])) f.held_is ∙ take_longer LINE_LIMIT f.rest (b ∷ []);
}

-- what the taking of a byte gives and leaves
pub follows_take : (stream : List ℕ) (given : List (List ℕ)) (held after : List ℕ) (b : ℕ) (r : Option (List ℕ)) →
    (b ≡ 10 → (after ≡ []) × (r ≡ shown held)) → ((b ≡ 10 → ⊥) → (after ≡ take LINE_LIMIT (held ++ b ∷ [])) × (r ≡ None)) → Follows stream given held →
    Follows (stream ++ b ∷ []) (given ++ option_to_list r) after
follows_take stream given held after b r ends goes_on f =
    elim (cases_eq b 10) [
      | inl is ↦ let e = ends is in rw (e.0, e.1, is) (follows_end stream given held f)
      | inr other ↦
          let e = goes_on other in
          let none : given ++ [] ≡ given = append-nil given in
          rw (e.0, e.1, none) (follows_byte stream given held b other f)
    ]

-- the loop's turn
pub follows_more : (stream piece : List ℕ) (given lines more : List (List ℕ)) (held after : List ℕ) (i : ℕ) (r : Option (List ℕ)) → i < length piece →
    (get_or piece i 0 ≡ 10 → (after ≡ []) × (r ≡ shown held)) →
    ((get_or piece i 0 ≡ 10 → ⊥) → (after ≡ take LINE_LIMIT (held ++ get_or piece i 0 ∷ [])) × (r ≡ None)) →
    more ≡ lines ++ option_to_list r → Follows (stream ++ take i piece) (given ++ lines) held →
    Follows (stream ++ take (i + 1) piece) (given ++ more) after
follows_more stream piece given lines more held after i r h ends goes_on is f =
    let b = get_or piece i 0 in
    let bytes : (stream ++ take i piece) ++ b ∷ [] ≡ stream ++ take (i + 1) piece =
    append_assoc stream (take i piece) (b ∷ []) ∙ ap (λ (t : List ℕ). stream ++ t) (sym (take_more piece i 0 h)) in
    let texts : (given ++ lines) ++ option_to_list r ≡ given ++ more =
    append_assoc given lines (option_to_list r) ∙ ap (λ (t : List (List ℕ)). given ++ t) (sym is) in
    subst (λ (t : List ℕ). Follows t (given ++ more) after) bytes
    (subst (λ (t : List (List ℕ)). Follows ((stream ++ take i piece) ++ b ∷ []) t after) texts
    (follows_take (stream ++ take i piece) (given ++ lines) held after b r ends goes_on f))
