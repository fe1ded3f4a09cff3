-- A stream is one list of items, and one text under way.
use Rattle.std.proofs.Common.{◌≡◌, ◌≢◌, ℕ, ◌⊎◌, inl, inr, List, [], ◌∷◌, ◌++◌, length, refl, sym, ap, ◌∙◌, append_assoc, arith, length-append, false}
use Rattle.std.proofs.lemmas.Bool.{cases_eq, ne_eqb}
use Rattle.std.specs.List.{flat_map, AllByRecursion}
use Rattle.gdb_packets.specs.declared.event.Event.{Event}
use Rattle.gdb_packets.specs.declared.feed.Place.{Place}
use Rattle.gdb_packets.specs.declared.feed.Place.TheVariants.{Between, Body, Sum, LastDigit}
use Rattle.gdb_packets.specs.Packets.{escape, body, sum_text, spelling}
use Rattle.gdb_packets.specs.Streams.{Item, Byte, Packet, Broken, IsItem, IsBody, Unread, Follows, begun, text_of, events_of, framed}
use Rattle.gdb_packets.specs.machinery.Unescaped.{unescaped}
use Rattle.gdb_packets.proofs.Escapes.{said_of_body, sum_length}

pub same_said : (a b : List ℕ) → body a ≡ body b → a ≡ b
same_said a b e = sym (said_of_body a) ∙ ap (λ (t : List ℕ). unescaped false t) e ∙ said_of_body b

-- ---- bodies

all_append : (P : ℕ → Type 0) (xs ys : List ℕ) → AllByRecursion P xs → AllByRecursion P ys → AllByRecursion P (xs ++ ys)
all_append P [] ys a b = b
all_append P (x ∷ xs) ys a b = (a.0, all_append P xs ys a.1 b)

escape_plain : (b : ℕ) → (b ≡ 35) ⊎ (b ≡ 35 → ⊥) → (b ≡ 36) ⊎ (b ≡ 36 → ⊥) → (b ≡ 42) ⊎ (b ≡ 42 → ⊥) → (b ≡ 125) ⊎ (b ≡ 125 → ⊥) → IsBody (escape b)
escape_plain b (inl is) _ _ _ = rw is (omega arith, (omega arith, tt))
escape_plain b (inr hash) (inl is) _ _ = rw is (omega arith, (omega arith, tt))
escape_plain b (inr hash) (inr dollar) (inl is) _ = rw is (omega arith, (omega arith, tt))
escape_plain b (inr hash) (inr dollar) (inr star) (inl is) = rw is (omega arith, (omega arith, tt))
escape_plain b (inr hash) (inr dollar) (inr star) (inr brace) =
    rw (ne_eqb b 35 hash, ne_eqb b 36 dollar, ne_eqb b 42 star, ne_eqb b 125 brace) (hash, tt)

-- no '#' stands in the body of a packet
body_plain : (bytes : List ℕ) → IsBody (body bytes)
body_plain [] = tt
body_plain (b ∷ bytes) = all_append (λ c. c ≢ 35) (escape b) (body bytes) (escape_plain b (cases_eq b 35) (cases_eq b 36) (cases_eq b 42) (cases_eq b 125)) (body_plain bytes)

-- a '#' cuts in one way behind a body
one_cut : (a b x y : List ℕ) → IsBody a → IsBody b → a ++ 35 ∷ x ≡ b ++ 35 ∷ y → (a ≡ b) × (x ≡ y)
one_cut [] [] x y p q e = (refl, cc)
one_cut [] (b ∷ bs) x y p q e = absurd (q.0 (cc))
one_cut (a ∷ us) [] x y p q e = absurd (p.0 (cc))
one_cut (a ∷ us) (b ∷ bs) x y p q e =
    let heads : a ≡ b = cc in
    let tails : us ++ 35 ∷ x ≡ bs ++ 35 ∷ y = cc in
    let r = one_cut us bs x y p.1 q.1 tails in
    (rw (heads, r.0) refl, r.1)

-- and not within one
no_cut : (a b x : List ℕ) → IsBody a → a ≡ b ++ 35 ∷ x → ⊥
no_cut [] [] x p e = absurd cc
no_cut [] (b ∷ bs) x p e = absurd cc
no_cut (a ∷ us) [] x p e = p.0 (cc)
no_cut (a ∷ us) (b ∷ bs) x p e =
    let tails : us ≡ bs ++ 35 ∷ x = cc in no_cut us bs x p.1 tails

-- ---- texts

behind_dollar : (xs ys : List ℕ) → 36 ∷ xs ≡ 36 ∷ ys → xs ≡ ys
behind_dollar xs ys e = cc

two_same : (c d x y : List ℕ) → length c ≡ 2 → length d ≡ 2 → c ++ x ≡ d ++ y → (c ≡ d) × (x ≡ y)
two_same (a ∷ b ∷ []) (c ∷ d ∷ []) x y l m e = (cc, cc)
two_same [] d x y l m e = absurd (omega (arith, l))
two_same (a ∷ []) d x y l m e = absurd (omega (arith, l))
two_same (a ∷ b ∷ c ∷ cs) d x y l m e = absurd (omega (arith, l))
two_same (a ∷ b ∷ []) [] x y l m e = absurd (omega (arith, m))
two_same (a ∷ b ∷ []) (c ∷ []) x y l m e = absurd (omega (arith, m))
two_same (a ∷ b ∷ []) (c ∷ d ∷ f ∷ fs) x y l m e = absurd (omega (arith, m))

-- texts that begin a stream are one
same_texts : (b c : List ℕ) (d f x y : List ℕ) → IsBody b → IsBody c → length d ≡ 2 → length f ≡ 2 → framed b d ++ x ≡ framed c f ++ y →
    (b ≡ c) × (d ≡ f) × (x ≡ y)
same_texts b c d f x y p q l m e =
    let whole : b ++ 35 ∷ (d ++ x) ≡ c ++ 35 ∷ (f ++ y) =
    sym (append_assoc b (35 ∷ d) x) ∙ behind_dollar ((b ++ 35 ∷ d) ++ x) ((c ++ 35 ∷ f) ++ y) e ∙ append_assoc c (35 ∷ f) y in
    let r = one_cut b c (d ++ x) (f ++ y) p q whole in
    let s = two_same d f x y l m r.1 in
    (r.0, s.0, s.1)

-- ---- items

same_items : (i j : Item) (x y : List ℕ) → IsItem i → IsItem j → text_of i ++ x ≡ text_of j ++ y → (i ≡ j) × (x ≡ y)
same_items (Byte a) (Byte b) x y p q e = let same : a ≡ b = cc in (rw same refl, cc)
same_items (Byte a) (Packet b) x y p q e = absurd (p cc)
same_items (Byte a) (Broken b d) x y p q e = absurd (p cc)
same_items (Packet a) (Byte b) x y p q e = absurd (q cc)
same_items (Broken a d) (Byte b) x y p q e = absurd (q cc)
same_items (Packet a) (Packet b) x y p q e =
    let r = same_texts (body a) (body b) (sum_text (body a)) (sum_text (body b)) x y (body_plain a) (body_plain b) (sum_length (body a)) (sum_length (body b)) e in
    (ap (λ (t : List ℕ). Packet t) (same_said a b r.0), r.2)
same_items (Packet a) (Broken b d) x y p q e =
    let r = same_texts (body a) b (sum_text (body a)) d x y (body_plain a) q.0 (sum_length (body a)) q.1 e in
    absurd (q.2 a (rw (← r.0, ← r.1) p))
same_items (Broken a d) (Packet b) x y p q e =
    let r = same_texts (body b) a (sum_text (body b)) d y x (body_plain b) p.0 (sum_length (body b)) p.1 (sym e) in
    absurd (p.2 b (rw (← r.0, ← r.1) q))
same_items (Broken a d) (Broken b f) x y p q e =
    let r = same_texts a b d f x y p.0 q.0 p.1 q.1 e in
    (rw (r.0, r.1) refl, r.2)

-- ---- texts under way

-- '$', a body, '#' and two bytes are more than a text under way
no_text : (b d x rest c : List ℕ) (place : Place) → IsBody b → length d ≡ 2 → begun place c rest → IsBody c → rest ≡ framed b d ++ x → ⊥
no_text b d x rest c Between p l is q e = absurd (omega (arith, ap length (sym is ∙ e)))
no_text b d x rest c Body p l is q e =
    let whole : c ≡ b ++ 35 ∷ (d ++ x) = behind_dollar c ((b ++ 35 ∷ d) ++ x) (sym is ∙ e) ∙ append_assoc b (35 ∷ d) x in
    no_cut c b (d ++ x) q whole
no_text b d x rest c Sum p l is q e =
    let whole : c ++ 35 ∷ [] ≡ b ++ 35 ∷ (d ++ x) = behind_dollar (c ++ 35 ∷ []) ((b ++ 35 ∷ d) ++ x) (sym is ∙ e) ∙ append_assoc b (35 ∷ d) x in
    let r = one_cut c b [] (d ++ x) q p whole in
    omega (arith, ap length r.1, length-append d x, l)
no_text b d x rest c LastDigit p l is q e =
    let whole : c ++ 35 ∷ is.0 ∷ [] ≡ b ++ 35 ∷ (d ++ x) =
    behind_dollar (c ++ 35 ∷ is.0 ∷ []) ((b ++ 35 ∷ d) ++ x) (sym is.1 ∙ e) ∙ append_assoc b (35 ∷ d) x in
    let r = one_cut c b (is.0 ∷ []) (d ++ x) q p whole in
    omega (arith, ap length r.1, length-append d x, l)

-- no item stands there
no_item : (i : Item) (x rest c : List ℕ) (place : Place) → IsItem i → begun place c rest → IsBody c → rest ≡ text_of i ++ x → ⊥
no_item (Byte b) x rest c Between p is q e = absurd (omega (arith, ap length (sym is ∙ e)))
no_item (Byte b) x rest c Body p is q e = let whole : 36 ∷ c ≡ b ∷ x = sym is ∙ e in p cc
no_item (Byte b) x rest c Sum p is q e = let whole : 36 ∷ c ++ 35 ∷ [] ≡ b ∷ x = sym is ∙ e in p cc
no_item (Byte b) x rest c LastDigit p is q e = let whole : 36 ∷ c ++ 35 ∷ is.0 ∷ [] ≡ b ∷ x = sym is.1 ∙ e in p cc
no_item (Packet b) x rest c place p is q e = no_text (body b) (sum_text (body b)) x rest c place (body_plain b) (sum_length (body b)) is q e
no_item (Broken b d) x rest c place p is q e = no_text b d x rest c place p.0 p.1 is q e

-- ---- streams

same_lists : (is js : List Item) (r q b c : List ℕ) (place other : Place) → AllByRecursion IsItem is → AllByRecursion IsItem js →
    begun place b r → IsBody b → begun other c q → IsBody c → flat_map text_of is ++ r ≡ flat_map text_of js ++ q → is ≡ js
same_lists [] [] r q b c place other all each f p g s e = refl
same_lists [] (j ∷ js) r q b c place other all each f p g s e =
    absurd (no_item j (flat_map text_of js ++ q) r b place each.0 f p (e ∙ append_assoc (text_of j) (flat_map text_of js) q))
same_lists (i ∷ is) [] r q b c place other all each f p g s e =
    absurd (no_item i (flat_map text_of is ++ r) q c other all.0 g s (sym e ∙ append_assoc (text_of i) (flat_map text_of is) r))
same_lists (i ∷ is) (j ∷ js) r q b c place other all each f p g s e =
    let firsts = same_items i j (flat_map text_of is ++ r) (flat_map text_of js ++ q) all.0 each.0
    (sym (append_assoc (text_of i) (flat_map text_of is) r) ∙ e ∙ append_assoc (text_of j) (flat_map text_of js) q) in
    let rest : is ≡ js = same_lists is js r q b c place other all.1 each.1 f p g s firsts.1 in
    rw (firsts.0, rest) refl

pub same_events : (stream : List ℕ) (es fs : List Event) (a b : Unread) → Follows stream es a → Follows stream fs b → es ≡ fs
same_events stream es fs a b f g =
    f.given_are
    ∙ ap (λ (is : List Item). flat_map events_of is)
    (same_lists f.items g.items f.rest g.rest f.body g.body a.place b.place f.each g.each f.begun_is f.plain g.begun_is g.plain (sym f.stream_is ∙ g.stream_is))
    ∙ sym g.given_are

pub same_packets : (a b : List ℕ) → spelling a ≡ spelling b → a ≡ b
same_packets a b e =
    let same : framed (body a) (sum_text (body a)) ++ [] ≡ framed (body b) (sum_text (body b)) ++ [] = ap (λ (t : List ℕ). t ++ []) e in
    same_said a b (same_texts (body a) (body b) (sum_text (body a)) (sum_text (body b)) [] [] (body_plain a) (body_plain b)
    (sum_length (body a)) (sum_length (body b)) same).0
