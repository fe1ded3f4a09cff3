-- What a hart keeps of a right while others leave, are lowered or are given it, and who stands in whose way.
use Rattle.std.proofs.Common.{◌≡◌, ◌≢◌, inl, inr, ℕ, ◌==◌, ◌≤◌, not, nat_lt, Bool, true, false, if◌then◌else◌, Some, refl, sym, ◌∙◌, le_trans, le_refl, eq-eqb}
use Rattle.std.proofs.Common.{eqb-true, true≢false}
use Rattle.std.proofs.lemmas.Bool.{and_parts, and_from, ne_eqb}
use Rattle.ft_types.specs.declared.names.Want.{Want}
use Rattle.ft_types.specs.declared.names.Want.TheVariants.{Read, Write}
use Rattle.interleaving.specs.Lists.{put}
use Rattle.interleaving.proofs.Put.{same_or_not, put_same, put_other}
use Rattle.crew_pages.specs.Rights.{Right, Shared, Exclusive, nobody, holds, owns, stands, is_against, IsFree, has_it, given, give_up, lower}
use Rattle.crew_pages.specs.Page.{at_of}
use Rattle.lease_ledger.specs.Calls.{Keep, All, Readable, Nothing, kept}

-- the hart keeps what it has of the right
pub record Stays (h : ℕ) (r now : Right) : Type 0 where
  pub held : holds r h ≡ true → holds now h ≡ true
  pub owned : owns r h ≡ true → owns now h ≡ true
  pub at : owns r h ≡ true → at_of now ≤ at_of r

pub stays : (h : ℕ) (r : Right) → Stays h r r
stays h r = record { held = λ e. e; owned = λ e. e; at = λ e. le_refl (at_of r) }

pub stays_on : (h : ℕ) (r s t : Right) → Stays h r s → Stays h s t → Stays h r t
stays_on h r s t a b =
    record { held = λ e. b.held (a.held e); owned = λ e. b.owned (a.owned e); at = λ e. le_trans (b.at (a.owned e)) (a.at e) }

-- beside an owner no other hart has anything to keep
not_beside : (h g owner : ℕ) → h ≢ g → (owner == g) ≡ true → (owner == h) ≡ true → ⊥
not_beside h g owner ne is_g is_h = ne (sym (eqb-true owner h is_h) ∙ eqb-true owner g is_g)

-- another hart leaves
pub stays_give_up : (h g c : ℕ) (r : Right) → h ≢ g → holds r g ≡ true → Stays h r (give_up r g c)
stays_give_up h g c (Shared since readers left) ne held =
    record {
      held = λ e. put_other readers g h false (λ s. ne (sym s)) ∙ e;
      owned = λ e. e;
      at = λ e. le_refl 0;
    }
stays_give_up h g c (Exclusive owner at since left) ne held =
    record {
      held = λ e. absurd (not_beside h g owner ne held e);
      owned = λ e. absurd (not_beside h g owner ne held e);
      at = λ e. absurd (not_beside h g owner ne held e);
    }

-- another hart is lowered
stays_lower : (h g c : ℕ) (r : Right) → h ≢ g → owns r g ≡ true → Stays h r (lower r g c)
stays_lower h g c (Shared since readers left) ne held = stays h (Shared since readers left)
stays_lower h g c (Exclusive owner at since left) ne held =
    record {
      held = λ e. absurd (not_beside h g owner ne held e);
      owned = λ e. absurd (not_beside h g owner ne held e);
      at = λ e. absurd (not_beside h g owner ne held e);
    }

-- another hart keeps what it is told
pub stays_kept : (h g c : ℕ) (keep : Keep) (r : Right) → h ≢ g → Stays h r (kept keep r g c)
stays_kept h g c All r ne = stays h r
stays_kept h g c Readable r ne = go (owns r g) refl
  where
    go : (b : Bool) → owns r g ≡ b → Stays h r (if b then lower r g c else r)
    go true e = stays_lower h g c r ne e
    go false e = stays h r
stays_kept h g c Nothing r ne = go (holds r g) refl
  where
    go : (b : Bool) → holds r g ≡ b → Stays h r (if b then give_up r g c else r)
    go true e = stays_give_up h g c r ne e
    go false e = stays h r

-- a right is given, to this hart or another
pub stays_given : (h g n : ℕ) (want : Want) (r : Right) → IsFree r g want → Stays h r (given r g want n)
stays_given h g n want (Exclusive owner at since left) free = stays h (Exclusive owner at since left)
stays_given h g n Read (Shared since readers left) free =
    record {
      held = λ e. elim (same_or_not g h) [ inl same ↦ put_same readers g h true same | inr ne ↦ put_other readers g h true ne ∙ e ];
      owned = λ e. e;
      at = λ e. le_refl 0;
    }
stays_given h g n Write (Shared since readers left) free =
    record {
      held =
          λ e.
          elim (same_or_not g h) [
            | inl same ↦ eq-eqb g h same
            | inr ne ↦ absurd (true≢false (sym (rw (ne_eqb g h ne) e) ∙ free h))
          ];
      owned = λ e. absurd (true≢false (sym e));
      at = λ e. absurd (true≢false (sym e));
    }

-- a hart that leaves holds nothing
pub gone : (r : Right) (h c : ℕ) → holds r h ≡ true → holds (give_up r h c) h ≡ true → ⊥
gone (Shared since readers left) h c held e = true≢false (sym e ∙ put_same readers h h false refl)
gone (Exclusive owner at since left) h c held e = go (nat_lt at c) e
  where
    go : (b : Bool) →
        holds
        (if b
        then Shared (Some (record { hart = owner; count = c })) (λ other. false) nobody
        else Shared since (λ other. false) (put left owner (Some c)))
        h ≡ true → ⊥
    go true f = true≢false (sym f)
    go false f = true≢false (sym f)

-- whoever leaves makes nobody hold the page
pub held_before : (r : Right) (g c h : ℕ) → holds (give_up r g c) h ≡ true → holds r h ≡ true
held_before (Shared since readers left) g c h e =
    elim (same_or_not g h) [
      | inl same ↦ absurd (true≢false (sym e ∙ put_same readers g h false same))
      | inr ne ↦ sym (put_other readers g h false ne) ∙ e
    ]
held_before (Exclusive owner at since left) g c h e = absurd (go (nat_lt at c) e)
  where
    go : (b : Bool) →
        holds
        (if b
        then Shared (Some (record { hart = owner; count = c })) (λ other. false) nobody
        else Shared since (λ other. false) (put left owner (Some c)))
        h ≡ true → ⊥
    go true f = true≢false (sym f)
    go false f = true≢false (sym f)

-- whoever stands against an asker is another hart, and holds a right
pub stands_holds : (r : Right) (h : ℕ) (want : Want) (g : ℕ) → stands r h want g ≡ true → holds r g ≡ true
stands_holds (Shared since readers left) h Read g e = absurd (true≢false (sym (and_parts (not (h == g)) false e).1))
stands_holds (Shared since readers left) h Write g e = (and_parts (not (h == g)) (readers g) e).1
stands_holds (Exclusive owner at since left) h want g e = (and_parts (not (h == g)) (owner == g) e).1

-- a hart that lacks what it asks for, and has it once it is given, did not have it before: to read
pub lacks_to_read : (r : Right) (h : ℕ) → IsFree r h Read → has_it r h Read ≡ false → holds r h ≡ false
lacks_to_read (Shared since readers left) h free lacks = lacks
lacks_to_read (Exclusive owner at since left) h free lacks = lacks

pub lacks_to_write : (r : Right) (h : ℕ) → has_it r h Write ≡ false → owns r h ≡ false
lacks_to_write (Shared since readers left) h lacks = refl
lacks_to_write (Exclusive owner at since left) h lacks = lacks

-- who was given what it asked for may read, and write if it asked to
pub given_holds : (r : Right) (h : ℕ) (want : Want) → has_it r h want ≡ true → holds r h ≡ true
given_holds (Shared since readers left) h Read has = has
given_holds (Shared since readers left) h Write has = absurd (true≢false (sym has))
given_holds (Exclusive owner at since left) h want has = has

pub given_owns : (r : Right) (h : ℕ) → has_it r h Write ≡ true → owns r h ≡ true
given_owns (Shared since readers left) h has = absurd (true≢false (sym has))
given_owns (Exclusive owner at since left) h has = has

-- nobody owns by asking to read
pub reading_owns_nothing : (r : Right) (h n : ℕ) → owns (given r h Read n) h ≡ true → owns r h ≡ true
reading_owns_nothing (Shared since readers left) h n o = o
reading_owns_nothing (Exclusive owner at since left) h n o = o

-- an owner that is given a right got it by then
pub at_given : (r : Right) (h n : ℕ) (want : Want) → (owns r h ≡ true → at_of r ≤ n) → owns (given r h want n) h ≡ true →
    at_of (given r h want n) ≤ n
at_given (Shared since readers left) h n Read le o = absurd (true≢false (sym o))
at_given (Shared since readers left) h n Write le o = le_refl n
at_given (Exclusive owner at since left) h n want le o = le o

-- whoever stands against an asker stood against it before another left
pub stood_against : (r : Right) (h : ℕ) (want : Want) (g c other : ℕ) → stands (give_up r g c) h want other ≡ true → stands r h want other ≡ true
stood_against (Shared since readers left) h Read g c other e = e
stood_against (Shared since readers left) h Write g c other e =
    let p = and_parts (not (h == other)) (put readers g false other) e in
    and_from (not (h == other)) (readers other) p.0 (held_before (Shared since readers left) g c other p.1)
stood_against (Exclusive owner at since left) h want g c other e =
    let r : Right = Exclusive owner at since left in
    and_from (not (h == other)) (owner == other) (and_parts (not (h == other)) (is_against (give_up r g c) want other) e).0
    (held_before r g c other (stands_holds (give_up r g c) h want other e))

-- and stands against it when another has left
pub still_against : (r : Right) (h : ℕ) (want : Want) (g c other : ℕ) → g ≢ other → holds r g ≡ true → stands r h want other ≡ true →
    stands (give_up r g c) h want other ≡ true
still_against (Shared since readers left) h Read g c other ne held e = e
still_against (Shared since readers left) h Write g c other ne held e =
    let p = and_parts (not (h == other)) (readers other) e in
    and_from (not (h == other)) (put readers g false other) p.0 (put_other readers g other false ne ∙ p.1)
still_against (Exclusive owner at since left) h want g c other ne held e =
    absurd
    (ne (sym (eqb-true owner g held) ∙ eqb-true owner other (and_parts (not (h == other)) (owner == other) e).1))
