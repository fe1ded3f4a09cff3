-- What is said by fields is one thing.
use Rattle.std.proofs.Common.{◌≡◌, ℕ, ◌^◌, ◌<◌, List, [], ◌∷◌, map, refl, ap, ◌∙◌, arith}
use Rattle.std.specs.Prelude.{decimal}
use Rattle.std.specs.List.{AllByRecursion}
use Rattle.std.proofs.lemmas.Fmt.{decimal_injective}
use Rattle.ft_types.specs.Counts.{IsCount}
use Rattle.wire.specs.Fields.{ArePlain}
use Rattle.wire.specs.Acknowledgements.{IsAcknowledgement, acknowledgement_fields}
use Rattle.wire.specs.Handed.{IsHanded, handed_fields}
use Rattle.wire.specs.declared.acknowledgements.Acknowledgement.{Acknowledgement}
use Rattle.wire.specs.declared.handed.Handed.{Handed}
use Rattle.wire.proofs.Plain.{decimal_plain, counts_plain}

-- ---- one number

pub number_plain : (n : ℕ) → n < 2 ^ 64 → ArePlain (decimal n ∷ [])
number_plain n h = (decimal_plain n h, tt)

pub number_same : (m n : ℕ) → m < 2 ^ 64 → n < 2 ^ 64 → ◌≡◌ {A = List (List ℕ)} (decimal m ∷ []) (decimal n ∷ []) → m ≡ n
number_same m n p q e = let texts : decimal m ≡ decimal n = cc in decimal_injective m n p q texts

pub counts_same : (ms ns : List ℕ) → AllByRecursion IsCount ms → AllByRecursion IsCount ns → map decimal ms ≡ map decimal ns → ms ≡ ns
counts_same [] [] p q e = refl
counts_same [] (n ∷ ns) p q e = absurd cc
counts_same (m ∷ ms) [] p q e = absurd cc
counts_same (m ∷ ms) (n ∷ ns) p q e =
    let texts : decimal m ≡ decimal n = cc in
    let tails : map decimal ms ≡ map decimal ns = cc in
    let heads : m ≡ n = decimal_injective m n (omega (arith, p.0)) (omega (arith, q.0)) texts in
    rw (heads, counts_same ms ns p.1 q.1 tails) refl

-- ---- acknowledgements

pub acknowledgement_plain : (harts : ℕ) (a : Acknowledgement) → IsAcknowledgement harts a → ArePlain (acknowledgement_fields a)
acknowledgement_plain harts a is = (
  decimal_plain a.term (omega (arith, is.term.1)),
  (decimal_plain a.keeper (omega (arith, is.keeper)), counts_plain a.counts is.counts),
)

abbrev acknowledged : ℕ → ℕ → List ℕ → Acknowledgement
acknowledged term keeper counts = record { term = term; keeper = keeper; counts = counts }

pub acknowledgement_same : (harts : ℕ) (a b : Acknowledgement) → IsAcknowledgement harts a → IsAcknowledgement harts b →
    acknowledgement_fields a ≡ acknowledgement_fields b → a ≡ b
acknowledgement_same harts a b p q e =
    let terms : decimal a.term ≡ decimal b.term = cc in
    let keepers : decimal a.keeper ≡ decimal b.keeper = cc in
    let rows : map decimal a.counts ≡ map decimal b.counts = cc in
    let term : a.term ≡ b.term = decimal_injective a.term b.term (omega (arith, p.term.1)) (omega (arith, q.term.1)) terms in
    let keeper : a.keeper ≡ b.keeper = decimal_injective a.keeper b.keeper (omega (arith, p.keeper)) (omega (arith, q.keeper)) keepers in
    let counts : a.counts ≡ b.counts = counts_same a.counts b.counts p.counts q.counts rows in
    ap (λ (t : ℕ). acknowledged t a.keeper a.counts) term ∙ ap (λ (k : ℕ). acknowledged b.term k a.counts) keeper
    ∙ ap (λ (cs : List ℕ). acknowledged b.term b.keeper cs) counts

-- ---- what is handed out

pub handed_plain : (h : Handed) → IsHanded h → ArePlain (handed_fields h)
handed_plain h is = (
  decimal_plain h.term (omega (arith, is.term.1)),
  (decimal_plain h.keeper (omega (arith, is.keeper)), (decimal_plain h.length (omega (arith, is.length)), tt)),
)

abbrev handed : ℕ → ℕ → ℕ → Handed
handed term keeper length = record { term = term; keeper = keeper; length = length }

pub handed_same : (a b : Handed) → IsHanded a → IsHanded b → handed_fields a ≡ handed_fields b → a ≡ b
handed_same a b p q e =
    let terms : decimal a.term ≡ decimal b.term = cc in
    let keepers : decimal a.keeper ≡ decimal b.keeper = cc in
    let lengths : decimal a.length ≡ decimal b.length = cc in
    let term : a.term ≡ b.term = decimal_injective a.term b.term (omega (arith, p.term.1)) (omega (arith, q.term.1)) terms in
    let keeper : a.keeper ≡ b.keeper = decimal_injective a.keeper b.keeper (omega (arith, p.keeper)) (omega (arith, q.keeper)) keepers in
    let length : a.length ≡ b.length = decimal_injective a.length b.length (omega (arith, p.length)) (omega (arith, q.length)) lengths in
    ap (λ (t : ℕ). handed t a.keeper a.length) term ∙ ap (λ (k : ℕ). handed b.term k a.length) keeper ∙ ap (λ (n : ℕ). handed b.term b.keeper n) length
