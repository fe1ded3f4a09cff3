-- What is put together, piece by piece.
use Rattle.std.proofs.Common.{◌≡◌, ◌≢◌, ℕ, ◌+◌, ◌-◌, ◌≤◌, ◌<◌, eqb, inl, inr, List, [], ◌∷◌, ◌++◌, length, take, get_or, refl, sym, ap, ◌∙◌, append_assoc, length-append, arith}
use Rattle.std.proofs.lemmas.Bool.{cases_Bool, eqb-true}
use Rattle.std.proofs.lemmas.List.{append-nil, take_more}
use Rattle.std.proofs.lemmas.List.Concat.{flat_map-append}
use Rattle.std.specs.Int.{w16, w32, w64}
use Rattle.edge_log.specs.declared.Edge.{Edge}
use Rattle.ft_types.specs.Guests.{GuestParts}
use Rattle.fragment_codec.specs.declared.types.Key.{Key}
use Rattle.std.specs.List.{flat_map}
use Rattle.input_log.specs.declared.Input.{Input as HartInput}
use Rattle.input_log.specs.declared.Input.TheVariants.{Timer, Word, Bell}
use Rattle.fragment_codec.specs.declared.types.Record.{Record}
use Rattle.fragment_codec.specs.declared.types.Record.TheVariants.{Edge as EdgeRecord, Input as InputRecord, Note as NoteRecord}
use Rattle.fragment_codec.specs.Rules.{FragmentParts, OpeningParts}
use Rattle.fragment_codec.specs.Spelling.{number, input_bytes, stand_bytes, record_bytes, log_body, opening_body}

pub four_parts : (out a b : List ℕ) (k o : ℕ) → (((out ++ k ∷ []) ++ a) ++ o ∷ []) ++ b ≡ out ++ (k ∷ (a ++ (o ∷ b)))
four_parts out a b k o = simp append_assoc

pub length_number : (n : ℕ) → (length (number w16 n) ≡ 2) × (length (number w32 n) ≡ 4) × (length (number w64 n) ≡ 8)
unfolding number
length_number n = (refl, refl, refl)

pub length_input : (i : HartInput) → length (input_bytes i) ≡ 5
unfolding input_bytes
length_input Timer = omega (arith, length_number 0)
length_input (Word w) = omega (arith, length_number w)
length_input (Bell source) = omega (arith, length_number source)

-- a count takes 8 bytes in the first version, and 4 in the second
pub length_stand : (version from at : ℕ) → (length (stand_bytes version from at) ≤ 8) × (version ≢ 1 → length (stand_bytes version from at) ≡ 4)
unfolding stand_bytes
length_stand version from at =
    elim (cases_Bool (eqb version 1)) [
      | inl e ↦ rw e (omega (arith, length_number at), λ ne. absurd (ne (eqb-true version 1 e)))
      | inr e ↦ rw e (omega (arith, length_number (at - from)), λ ne. omega (arith, length_number (at - from)))
    ]

-- and a record 10 bytes more at the most
pub length_record : (version from : ℕ) (r : Record) → (length (record_bytes version from r) ≤ 18) × (version ≢ 1 → length (record_bytes version from r) ≤ 14)
unfolding record_bytes
length_record version from (EdgeRecord e) =
    let l = length-append (stand_bytes version from e.at) (e.other ∷ number w64 e.after) in
    let s = length_stand version from e.at in
    (omega (arith, length_number e.after, l, s.0), λ ne. omega (arith, length_number e.after, l, s.1 ne))
length_record version from (InputRecord at input) =
    let l = length-append (stand_bytes version from at) (input_bytes input) in
    let s = length_stand version from at in
    (omega (arith, length_input input, l, s.0), λ ne. omega (arith, length_input input, l, s.1 ne))
length_record version from (NoteRecord at number1) =
    let l = length-append (stand_bytes version from at) (number w64 number1) in
    let s = length_stand version from at in
    (omega (arith, length_number number1, l, s.0), λ ne. omega (arith, length_number number1, l, s.1 ne))

-- a log body with this text in the place of the records
abbrev pub log_front : FragmentParts → List ℕ → List ℕ
log_front f text =
    f.guest.digest ++ (f.guest.harts ∷ f.key.hart ∷ (number w32 f.key.term ++ (number w32 f.key.place
    ++ (number w64 f.from ++ (number w64 f.to ++ (number w16 (length f.records) ++ text))))))

pub log_front-append : (f : FragmentParts) (a b : List ℕ) → log_front f a ++ b ≡ log_front f (a ++ b)
log_front-append f a b = simp append_assoc

pub log_front-records : (version : ℕ) (f : FragmentParts) → log_front f (flat_map (record_bytes version f.from) f.records) ≡ log_body version f
unfolding log_body
log_front-records version f = refl

abbrev pub opening_front : OpeningParts → List ℕ → List ℕ
opening_front o text = o.guest.digest ++ (o.guest.harts ∷ (number w32 o.term ++ (number w32 o.parent ++ text)))

pub opening_front-append : (o : OpeningParts) (a b : List ℕ) → opening_front o a ++ b ≡ opening_front o (a ++ b)
opening_front-append o a b = simp append_assoc

pub opening_front-base : (o : OpeningParts) → opening_front o (flat_map (number w64) o.base) ≡ opening_body o
unfolding opening_body
opening_front-base o = refl

pub edge_text : (version from : ℕ) (o0 o1 o2 o3 o4 : List ℕ) (e : Edge) (other : ℕ) → o1 ≡ o0 ++ 1 ∷ [] → o2 ≡ o1 ++ stand_bytes version from e.at →
    other ≡ e.other → o3 ≡ o2 ++ other ∷ [] → o4 ≡ o3 ++ number w64 e.after → o4 ≡ o0 ++ record_bytes version from (EdgeRecord e)
unfolding record_bytes
edge_text version from o0 o1 o2 o3 o4 e other e1 e2 same e3 e4 =
    rw (e4, e3, same, e2, e1) (four_parts o0 (stand_bytes version from e.at) (number w64 e.after) 1 e.other)

five_parts : (d t p f e c : List ℕ) (h k : ℕ) → ((([] ++ (d ++ (h ∷ k ∷ (t ++ p)))) ++ f) ++ e) ++ c ≡ d ++ (h ∷ k ∷ (t ++ (p ++ (f ++ (e ++ (c ++ []))))))
five_parts d t p f e c h k = simp (append_assoc, append-nil)

-- what is written before the records
pub log_start : (f : FragmentParts) →
    ((([] ++ (f.guest.digest ++ (f.guest.harts ∷ f.key.hart ∷ (number w32 f.key.term ++ number w32 f.key.place)))) ++ number w64 f.from) ++ number w64 f.to) ++
    number w16 (length f.records) ≡ log_front f []
log_start f = five_parts f.guest.digest (number w32 f.key.term) (number w32 f.key.place) (number w64 f.from) (number w64 f.to) (number w16 (length f.records))
    f.guest.harts f.key.hart

pub log_more : (text : Record → List ℕ) (f : FragmentParts) (rs : List Record) (i : ℕ) (d : Record) → i < length rs →
    log_front f (flat_map text (take i rs)) ++ text (get_or rs i d) ≡ log_front f (flat_map text (take (i + 1) rs))
log_more text f rs i d lt = log_front-append f (flat_map text (take i rs)) (text (get_or rs i d)) ∙
    ap (log_front f) (sym (ap (flat_map text) (take_more rs i d lt) ∙ flat_map-append text (take i rs) (get_or rs i d ∷ []) ∙
    ap (λ (x : List ℕ). flat_map text (take i rs) ++ x) (append-nil (text (get_or rs i d)))))

pub log_started : (f : FragmentParts) (g : GuestParts) (k : Key) (o0 o1 o2 o3 o4 : List ℕ) (from to n : ℕ) → o0 ≡ []
    → o1 ≡ o0 ++ (g.digest ++ (g.harts ∷ k.hart ∷ (number w32 k.term ++ number w32 k.place))) → o2 ≡ o1 ++ number w64 from → o3 ≡ o2 ++ number w64 to →
    o4 ≡ o3 ++ number w16 n
    → g ≡ f.guest → k ≡ f.key → from ≡ f.from → to ≡ f.to → n ≡ length f.records → o4 ≡ log_front f []
log_started f g k o0 o1 o2 o3 o4 from to n e0 e1 e2 e3 e4 eg ek ef et en =
    rw (e4, e3, e2, e1, e0, eg, ek, ef, et, en) (log_start f)

pub log_goes_on : (text : Record → List ℕ) (f : FragmentParts) (rs : List Record) (i : ℕ) (r : Record) (old new : List ℕ) → i < length rs → r ≡ get_or rs i r →
    new ≡ old ++ text r → old ≡ log_front f (flat_map text (take i rs)) → new ≡ log_front f (flat_map text (take (i + 1) rs))
log_goes_on text f rs i r old new lt is e h =
    e ∙ ap (λ (x : List ℕ). x ++ text r) h ∙ ap (λ (x : Record). log_front f (flat_map text (take i rs)) ++ text x) is ∙ log_more text f rs i r lt
