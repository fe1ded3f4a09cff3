-- Bytes begin with one line that hands a log over.
use Rattle.std.proofs.Common.{◌≡◌, ℕ, ◌^◌, ◌<◌, List, [], ◌∷◌, ◌++◌, length, refl, sym, ap, ◌∙◌, arith}
use Rattle.std.specs.Prelude.{decimal, codes}
use Rattle.std.proofs.lemmas.Fmt.{decimal_injective}
use Rattle.ft_types.specs.Guests.{GuestParts}
use Rattle.ft_types.specs.Text.{line, word}
use Rattle.wire.specs.Fields.{HasNone, ArePlain, spelling, fields_of}
use Rattle.wire.specs.Handed.{IsHanded, handed_fields, handed_text}
use Rattle.wire.specs.Seals.{seal}
use Rattle.wire.specs.declared.handed.Handed.{Handed}
use Rattle.wire.proofs.Plain.{decimal_plain, word_plain, name_plain, no_break, break-append}
use Rattle.wire.proofs.Reading.{sealed_same, spelled}
use Rattle.wire.proofs.Values.{handed_plain}
use Rattle.stations.specs.Handing.{HasLine, IsHandedTo}

-- texts without a line feed, each with one behind it, are the same where the bytes are
pub one_line : (text other rest more : List ℕ) → HasNone 10 text → HasNone 10 other → line text ++ rest ≡ line other ++ more → (text ≡ other) × (rest ≡ more)
one_line [] [] rest more one two same = (refl, (let e : rest ≡ more = cc in e))
one_line [] (b ∷ other) rest more one (not, two) same = absurd (not (let e : b ≡ 10 = cc in e))
one_line (a ∷ text) [] rest more (not, one) two same = absurd (not (let e : a ≡ 10 = cc in e))
one_line (a ∷ text) (b ∷ other) rest more (not, one) (nor, two) same =
    let head : a ≡ b = cc in
    let tail : line text ++ rest ≡ line other ++ more = cc in
    let p = one_line text other rest more one two tail in
    (ap (λ (x : ℕ). x ∷ text) head ∙ ap (λ (xs : List ℕ). b ∷ xs) p.0, p.1)

-- numbers that have a text of their own
abbrev AreSmall : Handed → Type 0
AreSmall h = (h.term < 2 ^ 64) × (h.keeper < 2 ^ 64) × (h.length < 2 ^ 64)

small_plain : (h : Handed) → AreSmall h → ArePlain (handed_fields h)
small_plain h small = (decimal_plain h.term small.0, (decimal_plain h.keeper small.1, (decimal_plain h.length small.2, tt)))

handed_no_break : (guest : GuestParts) (h : Handed) → AreSmall h → HasNone 10 (handed_text guest h)
handed_no_break guest h small =
    let fields = codes "handed" ∷ handed_fields h in
    break-append (spelling fields) (32 ∷ word (seal guest (spelling fields))) (no_break fields (name_plain (codes "handed") refl, small_plain h small))
    ((λ e. omega arith), (word_plain (seal guest (spelling fields))).1)

abbrev handed : ℕ → ℕ → ℕ → Handed
handed term keeper length = record { term = term; keeper = keeper; length = length }

-- one text says one thing
same_text : (guest : GuestParts) (a b : Handed) → AreSmall a → IsHanded b → handed_text guest a ≡ handed_text guest b → b ≡ a
same_text guest a b small is e =
    let texts = sealed_same guest (spelling (codes "handed" ∷ handed_fields a)) (spelling (codes "handed" ∷ handed_fields b)) e in
    let name = name_plain (codes "handed") refl in
    let fields : codes "handed" ∷ handed_fields a ≡ codes "handed" ∷ handed_fields b =
    sym (spelled (codes "handed") (handed_fields a) name (small_plain a small)) ∙ ap fields_of texts
    ∙ spelled (codes "handed") (handed_fields b) name (handed_plain b is) in
    let terms : decimal b.term ≡ decimal a.term = cc in
    let keepers : decimal b.keeper ≡ decimal a.keeper = cc in
    let lengths : decimal b.length ≡ decimal a.length = cc in
    let term : b.term ≡ a.term = decimal_injective b.term a.term (omega (arith, is.term.1)) small.0 terms in
    let keeper : b.keeper ≡ a.keeper = decimal_injective b.keeper a.keeper (omega (arith, is.keeper)) small.1 keepers in
    let length : b.length ≡ a.length = decimal_injective b.length a.length (omega (arith, is.length)) small.2 lengths in
    ap (λ (t : ℕ). handed t b.keeper b.length) term ∙ ap (λ (k : ℕ). handed a.term k b.length) keeper ∙ ap (λ (n : ℕ). handed a.term a.keeper n) length

-- so frames behind their line are read as they are
pub handed_to : (guest : GuestParts) (keeper term : ℕ) (frames bytes : List ℕ) → term < 2 ^ 64 → length frames < 2 ^ 64 →
    bytes ≡ line (handed_text guest (record { term = term; keeper = keeper; length = length frames })) ++ frames → IsHandedTo guest keeper term frames bytes
handed_to guest keeper term frames bytes t l parts =
    let said = handed term keeper (length frames) in
    record {
      parts = parts;
      read = λ k h rest has.
          let small : AreSmall said = (t, omega (arith, k), l) in
          let p = one_line (handed_text guest said) has.text frames rest (handed_no_break guest said small) has.one (sym parts ∙ has.parts) in
          (same_text guest said h small has.says.0 (p.0 ∙ has.says.1), sym p.1);
    }
