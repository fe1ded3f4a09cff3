-- What a packet's body says is what was put into it.
use Rattle.std.proofs.Common.{◌≡◌, ℕ, ◌+◌, ◌<◌, ◌==◌, inl, inr, false, List, [], ◌∷◌, ◌++◌, length, take, drop, refl, ap, sym, ◌∙◌, arith, length-append}
use Rattle.std.proofs.lemmas.Bool.{cases_eq, ne_eqb}
use Rattle.std.proofs.Math.Seq.{take-append_seam}
use Rattle.hex.specs.Hex.{encode_with}
use Rattle.gdb_packets.specs.Packets.{is_escaped, escape, body, sum_text, spelling, IsPacket}
use Rattle.gdb_packets.specs.machinery.Unescaped.{unescaped}

-- of a byte that stands as itself
plain_said : (b : ℕ) (rest : List ℕ) → is_escaped b ≡ false → (b == 125) ≡ false → unescaped false (escape b ++ rest) ≡ b ∷ unescaped false rest
plain_said b rest plain other = rw (plain, other) refl

-- of one byte
said_of : (b : ℕ) (rest : List ℕ) → unescaped false (escape b ++ rest) ≡ b ∷ unescaped false rest
said_of b rest =
    elim (cases_eq b 35) [
      | inl is ↦ rw is refl
      | inr not_hash ↦ elim (cases_eq b 36) [
        | inl is ↦ rw is refl
        | inr not_dollar ↦ elim (cases_eq b 42) [
          | inl is ↦ rw is refl
          | inr not_star ↦ elim (cases_eq b 125) [
            | inl is ↦ rw is refl
            | inr not_brace ↦ plain_said b rest (rw (ne_eqb b 35 not_hash, ne_eqb b 36 not_dollar, ne_eqb b 42 not_star, ne_eqb b 125 not_brace) refl) (ne_eqb b 125 not_brace)
          ]
        ]
      ]
    ]

pub said_of_body : (bytes : List ℕ) → unescaped false (body bytes) ≡ bytes
said_of_body [] = refl
said_of_body (b ∷ bytes) = said_of b (body bytes) ∙ ap (λ (t : List ℕ). b ∷ t) (said_of_body bytes)

-- a sum has two digits
pub sum_length : (bytes : List ℕ) → length (sum_text bytes) ≡ 2
unfolding encode_with
sum_length bytes = refl

pub spelling_length : (bytes : List ℕ) → length (spelling bytes) ≡ length (body bytes) + 4
spelling_length bytes = omega (arith, length-append (body bytes) (35 ∷ sum_text (body bytes)), sum_length (body bytes))

-- the body stands behind '$', and before '#' and the sum
pub body_inside : (bytes : List ℕ) (n : ℕ) → n ≡ length (body bytes) → take n (drop 1 (spelling bytes)) ≡ body bytes
body_inside bytes n is = rw is (take-append_seam (body bytes) (35 ∷ sum_text (body bytes)))

-- what is shorter than a packet is none
pub too_short : (text bytes : List ℕ) → length text < 4 → IsPacket text bytes → ⊥
too_short text bytes short packet = omega (arith, ap length packet.1, spelling_length bytes, short)

-- where the bytes that a text's body says are spelled otherwise, the text is no packet
pub not_said : (text said bytes : List ℕ) (n : ℕ) → n + 4 ≡ length text → said ≡ unescaped false (take n (drop 1 text)) → (spelling said ≡ text → ⊥) →
    IsPacket text bytes → ⊥
not_said text said bytes n long is other packet =
    let inside : take n (drop 1 text) ≡ body bytes =
    ap (λ (t : List ℕ). take n (drop 1 t)) packet.1 ∙ body_inside bytes n (omega (arith, long, ap length packet.1, spelling_length bytes)) in
    let same : said ≡ bytes = is ∙ ap (λ (t : List ℕ). unescaped false t) inside ∙ said_of_body bytes in
    other (ap (λ (t : List ℕ). spelling t) same ∙ sym packet.1)
