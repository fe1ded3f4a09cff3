-- Bells that wait, with their numbers.
use Rattle.std.proofs.Common.{◌≡◌, ◌≢◌, ◌==◌, ◌⊎◌, eq-eqb, ne_eqb, inl, inr, ℕ, zero, suc, ◌+◌, ◌<◌, ◌≤◌, Bool, true, false, List, [], ◌∷◌, ◌++◌, length}
use Rattle.std.proofs.Common.{replicate, map, Contains, refl, ap, sym, subst, ◌∙◌, arith, cond, true≢false, if◌then◌else◌}
use Rattle.std.specs.List.{count_by, take_while, prefix_len}
use Rattle.std.specs.Prelude.{nat_le}
use Rattle.std.proofs.lemmas.List.{length-append, length-replicate}
use Rattle.std.proofs.lemmas.List.Elements.{All-head, All-tail, All-take, Contains-append_right, filter-append}
use Rattle.std.proofs.lemmas.List.Sums.{sum_by-cons, sum_by-append}
use Rattle.interleaving.proofs.Put.{same_or_not}
use Rattle.interleaving.proofs.Cuts.{here_or_later, here}
use Rattle.input_log.specs.declared.Input.{Input}
use Rattle.input_log.specs.declared.Input.TheVariants.{Timer, Word, Bell}
use Rattle.input_log.specs.declared.WaitingBell.{WaitingBell}
use Rattle.input_log.specs.declared.WaitingInput.{WaitingInput}
use Rattle.input_log.specs.Inputs.{is_bell}
use Rattle.input_log.specs.Waiting.{AreOthers, bells_going, others_going, room_beside, going}
use Rattle.edge_log.specs.declared.Edge.{Edge}
use Rattle.rv32_hart.specs.Bells.{is_bell_from}
use Rattle.book_modes.specs.Dues.{bell_edges}
use Rattle.book_modes.specs.Hearings.{bells_from, AreNumbered, AreNext}

pub numbered_more : (P Q : ℕ → WaitingBell → Type 0) → ((k : ℕ) (b : WaitingBell) → P k b → Q k b) → (k : ℕ) (bells : List WaitingBell) →
    AreNumbered P k bells → AreNumbered Q k bells
numbered_more P Q f k [] all = tt
numbered_more P Q f k (b ∷ bells) all = (f k b all.0, numbered_more P Q f (k + 1) bells all.1)

numbered_append : (P : ℕ → WaitingBell → Type 0) (k : ℕ) (front rest : List WaitingBell) → AreNumbered P k front →
    AreNumbered P (k + length front) rest → AreNumbered P k (front ++ rest)
numbered_append P k [] rest p q = subst (λ n. AreNumbered P n rest) (omega arith) q
numbered_append P k (b ∷ front) rest p q = (p.0, numbered_append P (k + 1) front rest p.1 (subst (λ n. AreNumbered P n rest) (omega arith) q))

numbered_front : (P : ℕ → WaitingBell → Type 0) (k : ℕ) (front rest : List WaitingBell) → AreNumbered P k (front ++ rest) → AreNumbered P k front
numbered_front P k [] rest all = tt
numbered_front P k (b ∷ front) rest all = (all.0, numbered_front P (k + 1) front rest all.1)

numbered_rest : (P : ℕ → WaitingBell → Type 0) (k : ℕ) (front rest : List WaitingBell) → AreNumbered P k (front ++ rest) →
    AreNumbered P (k + length front) rest
numbered_rest P k [] rest all = subst (λ n. AreNumbered P n rest) (omega arith) all
numbered_rest P k (b ∷ front) rest all = subst (λ n. AreNumbered P n rest) (omega arith) (numbered_rest P (k + 1) front rest all.1)

numbered_at : (P : ℕ → WaitingBell → Type 0) (k : ℕ) (bells : List WaitingBell) (n : ℕ) → AreNumbered P k bells → k ≤ n → n < k + length bells →
    (b : WaitingBell) × Contains bells b × P n b
numbered_at P k [] n all from below = absurd (omega (arith, from, below))
numbered_at P k (b ∷ bells) n all from below =
    elim (same_or_not k n) [
      | inl same ↦ (b, here b bells, subst (λ m. P m b) same all.0)
      | inr ne ↦
          let (c, is_in, is) = numbered_at P (k + 1) bells n all.1 (omega (arith, from, ne)) (omega (arith, below)) in (
            c,
            Contains-append_right (b ∷ []) bells c is_in,
            is,
          )
    ]

-- each has a number below that of the first that is not among them
pub numbered_each : (P : ℕ → WaitingBell → Type 0) (k : ℕ) (bells : List WaitingBell) → ((n : ℕ) (b : WaitingBell) → n < k + length bells → P n b) →
    AreNumbered P k bells
numbered_each P k [] p = tt
numbered_each P k (b ∷ bells) p = (p k b (omega arith), numbered_each P (k + 1) bells (λ n c below. p n c (omega (arith, below))))

numbered_same : (P : ℕ → WaitingBell → Type 0) (k many : ℕ) (b : WaitingBell) → ((n : ℕ) → k ≤ n → n < k + many → P n b) → AreNumbered P k (replicate many b)
numbered_same P k zero b p = tt
numbered_same P k (suc many) b p =
    (p k (omega arith) (omega arith), numbered_same P (k + 1) many b (λ n from below. p n (omega (arith, from)) (omega (arith, below))))

-- The bells that are next.

pub next_more : (P Q : ℕ → WaitingBell → Type 0) → ((k : ℕ) (b : WaitingBell) → P k b → Q k b) → (heard rung : ℕ) (bells : List WaitingBell) →
    AreNext P heard rung bells → AreNext Q heard rung bells
next_more P Q f heard rung bells n = record { many = n.many; each = numbered_more P Q f heard bells n.each }

-- those at the front are heard
pub next_heard : (P : ℕ → WaitingBell → Type 0) (heard rung : ℕ) (front rest : List WaitingBell) → AreNext P heard rung (front ++ rest) →
    AreNext P (heard + length front) rung rest
next_heard P heard rung front rest n =
    record { many = omega (arith, n.many, length-append front rest); each = numbered_rest P heard front rest n.each }

-- one of them
pub next_at : (P : ℕ → WaitingBell → Type 0) (heard rung : ℕ) (front rest : List WaitingBell) (n : ℕ) → AreNext P heard rung (front ++ rest) →
    heard ≤ n → n < heard + length front → (b : WaitingBell) × Contains front b × P n b
next_at P heard rung front rest n all from below = numbered_at P heard front n (numbered_front P heard front rest all.each) from below

-- and more are rung
pub next_rung : (P : ℕ → WaitingBell → Type 0) (heard rung many : ℕ) (bells : List WaitingBell) (b : WaitingBell) → AreNext P heard rung bells →
    ((n : ℕ) → rung ≤ n → n < rung + many → P n b) → AreNext P heard (rung + many) (bells ++ replicate many b)
next_rung P heard rung many bells b n p =
    record {
      many = omega (arith, n.many, length-append bells (replicate many b), length-replicate {A = WaitingBell} many b);
      each =
          numbered_append P heard bells (replicate many b) n.each
          (numbered_same P (heard + length bells) many b (λ k from below. p k (omega (arith, from, n.many)) (omega (arith, below, n.many))));
    }

-- Bells of one source.

pub from_append : (source : ℕ) (front rest : List WaitingBell) → bells_from source (front ++ rest) ≡ bells_from source front ++ bells_from source rest
from_append source front rest = filter-append (λ b. b.source == source) front rest

pub from_same : (source many : ℕ) (b : WaitingBell) → b.source ≡ source → bells_from source (replicate many b) ≡ replicate many b
from_same source zero b same = refl
from_same source (suc many) b same = rw (eq-eqb b.source source same) (ap (λ bs. b ∷ bs) (from_same source many b same))

pub from_other : (source many : ℕ) (b : WaitingBell) → b.source ≢ source → bells_from source (replicate many b) ≡ []
from_other source zero b ne = refl
from_other source (suc many) b ne = rw (ne_eqb b.source source ne) (from_other source many b ne)

-- is of that source, and among all
pub from_is : (source : ℕ) (bells : List WaitingBell) (b : WaitingBell) → Contains (bells_from source bells) b → (b.source ≡ source) × Contains bells b
from_is source [] b (k, below, is) = absurd (omega (arith, below))
from_is source (c ∷ bells) b i =
    elim (same_or_not c.source source) [
      | inl same ↦
          elim (here_or_later c (bells_from source bells) b (subst (λ t. Contains (cond t (c ∷ bells_from source bells) (bells_from source bells)) b)
          (eq-eqb c.source source same) i)) [
            | inl is ↦ (ap (λ (x : WaitingBell). x.source) (sym is) ∙ same, subst (Contains (c ∷ bells)) is (here c bells))
            | inr later ↦ let (own, is_in) = from_is source bells b later in (own, Contains-append_right (c ∷ []) bells b is_in)
          ]
      | inr ne ↦
          let (own, is_in) =
          from_is source bells b (subst (λ t. Contains (cond t (c ∷ bells_from source bells) (bells_from source bells)) b) (ne_eqb c.source source ne) i) in
          (own, Contains-append_right (c ∷ []) bells b is_in)
    ]

-- another hart's bell among them has its edge
pub has_its_edge : (hart count : ℕ) (bells : List WaitingBell) (b : WaitingBell) → Contains bells b → b.source ≢ hart →
    Contains (bell_edges hart count bells) (record { hart = hart; at = count; other = b.source; after = b.after })
has_its_edge hart count [] b (k, below, is) ne = absurd (omega (arith, below))
has_its_edge hart count (c ∷ bells) b i ne = of (c.source == hart) refl (here_or_later c bells b i) (λ later. has_its_edge hart count bells b later ne)
  where
    edge : WaitingBell → Edge
    edge b = record { hart = hart; at = count; other = b.source; after = b.after }

    of : (own : Bool) → (c.source == hart) ≡ own → (c ≡ b) ⊎ Contains bells b → (Contains bells b → Contains (bell_edges hart count bells) (edge b)) →
        Contains (if own then bell_edges hart count bells else edge c ∷ bell_edges hart count bells) (edge b)
    of true e (inl is) rest = absurd (true≢false (sym e ∙ (ap (λ (x : WaitingBell). x.source == hart) is ∙ ne_eqb b.source hart ne)))
    of false e (inl is) rest = subst (λ x. Contains (edge c ∷ bell_edges hart count bells) (edge x)) is (here (edge c) (bell_edges hart count bells))
    of true e (inr later) rest = rest later
    of false e (inr later) rest = Contains-append_right (edge c ∷ []) (bell_edges hart count bells) (edge b) (rest later)

-- The bells among inputs.

bells_told : (source : ℕ) (bells : List WaitingBell) → count_by (is_bell_from source) (map (λ b. Bell b.source) bells) ≡ length (bells_from source bells)
bells_told source [] = refl
bells_told source (b ∷ bells) =
    let rest = bells_told source bells in
    let more : count_by (is_bell_from source) (Bell b.source ∷ map (λ b. Bell b.source) bells) ≡ cond (b.source == source) 1 0 + count_by (is_bell_from source)
    (map (λ b. Bell b.source) bells) =
    sum_by-cons (λ i. cond (is_bell_from source i) 1 0) (Bell b.source) (map (λ b. Bell b.source) bells) in
    more ∙ of (b.source == source) rest
  where
    of : (own : Bool) → count_by (is_bell_from source) (map (λ b. Bell b.source) bells) ≡ length (bells_from source bells) →
        cond own 1 0 + count_by (is_bell_from source) (map (λ b. Bell b.source) bells) ≡ length (cond own (b ∷ bells_from source bells)
        (bells_from source bells))
    of true rest = omega (arith, rest)
    of false rest = omega (arith, rest)

no_bell : (source : ℕ) (i : Input) → is_bell i ≡ false → is_bell_from source i ≡ false
no_bell source Timer other = refl
no_bell source (Word w) other = refl
no_bell source (Bell b) other = absurd (true≢false other)

others_silent : (source : ℕ) (others : List WaitingInput) → AreOthers others → count_by (is_bell_from source) (map (λ w. w.input) others) ≡ 0
others_silent source [] none = refl
others_silent source (w ∷ others) none =
    sum_by-cons (λ i. cond (is_bell_from source i) 1 0) w.input (map (λ w. w.input) others) ∙
    (ap (λ b. cond b 1 0 + count_by (is_bell_from source) (map (λ w. w.input) others))
    (no_bell source w.input (All-head (λ w. is_bell w.input ≡ false) w others none)) ∙
    omega (arith, others_silent source others (All-tail (λ w. is_bell w.input ≡ false) w others none)))

pub going_told : (source count : ℕ) (bells : List WaitingBell) (others : List WaitingInput) → AreOthers others →
    count_by (is_bell_from source) (going count bells others) ≡ length (bells_from source (bells_going bells))
going_told source count bells others none =
    sum_by-append (λ i. cond (is_bell_from source i) 1 0) (map (λ b. Bell b.source) (bells_going bells))
    (map (λ w. w.input) (others_going count (room_beside bells) others)) ∙
    omega (
      arith,
      bells_told source (bells_going bells),
      others_silent source (others_going count (room_beside bells) others) (All-take (λ w. is_bell w.input ≡ false) (room_beside bells)
          (take_while (λ w. nat_le w.not_before count) others)
          (All-take (λ w. is_bell w.input ≡ false) (prefix_len (λ w. nat_le w.not_before count) others) others none)),
    )
