-- A history that goes on with one more term.
use Rattle.std.proofs.Common.{◌≡◌, ◌≢◌, ◌<◌, ◌⊎◌, ◌++◌, ℕ, zero, suc, Bool, true, false, List, [], ◌∷◌, slice_get, nat_lt, Option, Some, None, refl, sym}
use Rattle.std.proofs.Common.{ap, subst, ◌∙◌, inl, inr, arith}
use Rattle.std.specs.Prelude.{if◌then◌else◌}
use Rattle.std.proofs.lemmas.Bool.{lt-ltb, ltb-true}
use Rattle.interleaving.specs.Lists.{put}
use Rattle.interleaving.specs.Machine.{Machine, System}
use Rattle.interleaving.proofs.Put.{same_or_not, put_same, put_other}
use Rattle.input_log.specs.declared.Input.{Input}
use Rattle.log_join.specs.Cells.{Cell, Absent, One, Clash}
use Rattle.log_join.specs.Stores.{opening_at, fragment_at}
use Rattle.log_join.specs.Families.{Past, Family, opening_of, piece_of}
use Rattle.log_join.proofs.Families.{granted_opening, granted_piece, opening_granted, piece_granted, honest_stay}
use Rattle.hart_replay.specs.Histories.{TermHistory, History, IsPlace, machine_in, IsTerm}
use Rattle.hart_replay.specs.Failovers.{NewTermsGrow, NewPiecesGrow, before, HistoriesGoOn, StoresStay, LaterTermsAreNew}

-- ---- families

-- what was granted stays where a term is added that was not
stays : {Told : Type 0} (terms : Family Told) (number : ℕ) (past : Past Told) → terms number ≡ None → (term : ℕ) (q : Past Told) → terms term ≡ Some q →
    (number ≢ term) × (put terms number (Some past) term ≡ Some q)
stays terms number past new term q at =
    let other : number ≢ term = λ same. let no : None ≡ Some q = sym new ∙ ap terms same ∙ at in cc in
    (other, put_other terms number term (Some past) other ∙ at)

pub new_terms_grow : (Told : Type 0) → NewTermsGrow Told
new_terms_grow Told terms number past new =
    record {
      openings = λ term o one.
          let (q, at, same) = granted_opening terms term o one in
          opening_granted (put terms number (Some past)) term q (stays terms number past new term q at).1 ∙ ap One same;
      fragments = λ key piece one.
          let (q, at, placed) = granted_piece terms key piece one in
          piece_granted (put terms number (Some past)) key q piece (stays terms number past new key.term q at).1 placed;
    }

pub slice_left : {A : Type 0} (xs ys : List A) (k : ℕ) (x : A) → slice_get xs k ≡ Some x → slice_get (xs ++ ys) k ≡ Some x
slice_left [] ys k x at = let no : None ≡ Some x = at in cc
slice_left (y ∷ xs) ys zero x at = at
slice_left (y ∷ xs) ys (suc k) x at = slice_left xs ys k x at

pub new_pieces_grow : (Told : Type 0) → NewPiecesGrow Told
new_pieces_grow Told terms number past told more =
    record {
      openings = λ term o one. elim (same_or_not number term) [
        | inl same ↦ ap opening_of (put_same terms number term (Some longer) same) ∙ sym (ap opening_of (put_same terms number term (Some past) same)) ∙ one
        | inr ne ↦ ap opening_of (put_other terms number term (Some longer) ne ∙ sym (put_other terms number term (Some past) ne)) ∙ one
      ];
      fragments = λ key piece one. elim (same_or_not number key.term) [
        | inl same ↦
            let (q, at, placed) = granted_piece (put terms number (Some past)) key piece one in
            let is : Some past ≡ Some q = sym (put_same terms number key.term (Some past) same) ∙ at in
            let its : q ≡ past = cc in
            piece_granted (put terms number (Some longer)) key longer piece (put_same terms number key.term (Some longer) same)
            (slice_left (past.pieces key.hart) (more key.hart) key.place piece
            (subst (λ (q : Past Told). slice_get (q.pieces key.hart) key.place ≡ Some piece) its placed))
        | inr ne ↦
            ap (λ (q : Option (Past Told)). piece_of q key.hart key.place)
            (put_other terms number key.term (Some longer) ne ∙ sym (put_other terms number key.term (Some past) ne)) ∙ one
      ];
    }
  where
    longer : Past Told
    longer = record { opening = past.opening; pieces = λ hart. past.pieces hart ++ more hart; told = told }

-- ---- the terms below a number

below_is : {Told : Type 0} (number : ℕ) (terms : Family Told) (term : ℕ) → term < number → before number terms term ≡ terms term
below_is number terms term less = rw (lt-ltb term number less) refl

pub below_was : {Told : Type 0} (number : ℕ) (terms : Family Told) (term : ℕ) (q : Past Told) → before number terms term ≡ Some q →
    (term < number) × (terms term ≡ Some q)
below_was {Told} number terms term q at = of (nat_lt term number) refl at
  where
    of : (b : Bool) → nat_lt term number ≡ b → (if b then terms term else None) ≡ Some q → (term < number) × (terms term ≡ Some q)
    of true less is = (ltb-true term number less, is)
    of false not is = let no : None ≡ Some q = is in cc

module _ {Hart Page : Type 0} (system : System Hart Page (List Input)) (boot : Machine Hart Page) (history : History Hart Page) where
  -- a place of a term is one wherever that term is granted
  same_place : (more : History Hart Page) (term : ℕ) (cut : ℕ → ℕ) →
      ((q : Past (TermHistory Hart Page)) → history term ≡ Some q → more term ≡ Some q) → IsPlace history term cut → IsPlace more term cut
  same_place more term cut there (inl boot_is) = inl boot_is
  same_place more term cut there (inr (q, at, is)) = inr (q, there q at, is)

  -- a term is one in each history that has the same parent
  same_term : (more : History Hart Page) (number : ℕ) (q : Past (TermHistory Hart Page)) → more q.opening.parent ≡ history q.opening.parent →
      IsTerm system boot history number q → IsTerm system boot more number q
  same_term more number q same its =
      record {
        older = its.older;
        base = its.base;
        start = its.start ∙ ap (λ (p : Option (Past (TermHistory Hart Page))). machine_in system boot p q.told.log.start) (sym same);
        place = same_place more q.opening.parent q.told.log.start (λ p at. same ∙ at) its.place;
        honest = its.honest;
        pieces = its.pieces;
      }

  module _ (number : ℕ) (past : Past (TermHistory Hart Page)) (new : history number ≡ None) (some : 0 < number) where
    -- no term goes on from one that was not granted
    apart : (term : ℕ) (cut : ℕ → ℕ) → IsPlace history term cut → number ≢ term
    apart term cut (inl boot_is) same = omega (arith, boot_is, same, some)
    apart term cut (inr (q, at, is)) same = (stays history number past new term q at).0 same

    term_stays : (n : ℕ) (q : Past (TermHistory Hart Page)) → IsTerm system boot history n q → IsTerm system boot (put history number (Some past)) n q
    term_stays n q its =
        same_term (put history number (Some past)) n q
        (put_other history number q.opening.parent (Some past) (apart q.opening.parent q.told.log.start its.place)) its

pub histories_go_on : {Hart Page : Type 0} (system : System Hart Page (List Input)) → HistoriesGoOn system
histories_go_on {Hart} {Page} system boot history number past its new term =
    record {
      none = put_other history number 0 (Some past) (λ same. omega (arith, some, same)) ∙ its.none;
      terms = λ n q at. elim (same_or_not number n) [
        | inl same ↦
            let is : Some past ≡ Some q = sym (put_same history number n (Some past) same) ∙ at in
            let own : past ≡ q = cc in
            subst (λ (q : Past (TermHistory Hart Page)). IsTerm system boot (put history number (Some past)) n q) own
            (subst (λ (n : ℕ). IsTerm system boot (put history number (Some past)) n past) same
            (term_stays system boot history number past new some number past term))
        | inr ne ↦ term_stays system boot history number past new some n q (its.terms n q (sym (put_other history number n (Some past) ne) ∙ at))
      ];
    }
  where
    some : 0 < number
    some = let older = term.older in omega (arith, older)

pub stores_stay : {Hart Page : Type 0} (system : System Hart Page (List Input)) → StoresStay system
stores_stay system boot history number past store new term honest =
    record {
      is_history = histories_go_on system boot history number past honest.is_history new term;
      honest = honest_stay _ history (put history number (Some past)) store (new_terms_grow _ history number past new) honest.honest;
    }

-- a cell is nothing, or something
seen : {X : Type 0} (c : Cell X) → (c ≡ Absent) ⊎ (c ≢ Absent)
seen Absent = inl refl
seen (One x) = inr (λ e. cc)
seen Clash = inr (λ e. cc)

pub later_terms_are_new : {Hart Page : Type 0} (system : System Hart Page (List Input)) → LaterTermsAreNew system
later_terms_are_new {Hart} {Page} system boot history store last number its is_last less = (
  record {
    is_history =
        record {
          none = zero_none (nat_lt 0 number);
          terms = λ n q at.
              let (under, was) = below_was number history n q at in
              let term = its.is_history.terms n q was in
              let older = term.older in
              same_term system boot history (before number history) n q (below_is number history q.opening.parent (omega (arith, older, under))) term;
        };
    honest =
        record {
          openings = λ term. elim (seen (opening_at store term)) [
            | inl none ↦ inl none
            | inr some ↦ elim (its.honest.openings term) [
              | inl none ↦ inl none
              | inr is ↦
                  let upto = is_last.openings term some in
                  inr (is ∙ ap opening_of (sym (below_is number history term (omega (arith, upto, less)))))
            ]
          ];
          fragments = λ key. elim (seen (fragment_at store key)) [
            | inl none ↦ inl none
            | inr some ↦ elim (its.honest.fragments key) [
              | inl none ↦ inl none
              | inr is ↦
                  let upto = is_last.fragments key some in
                  inr (is ∙ ap (λ (q : Option (Past (TermHistory Hart Page))). piece_of q key.hart key.place)
                  (sym (below_is number history key.term (omega (arith, upto, less)))))
            ]
          ];
        };
  },
  itself (nat_lt number number) refl,
)
  where
    zero_none : (b : Bool) → (if b then history 0 else None) ≡ None
    zero_none true = its.is_history.none
    zero_none false = refl

    itself : (b : Bool) → nat_lt number number ≡ b → (if b then history number else None) ≡ None
    itself true less = let no = ltb-true number number less in absurd (omega (arith, no))
    itself false not = refl
