-- Rights that are changed page by page.
use Rattle.std.proofs.Common.{◌≡◌, ◌≢◌, inl, inr, ℕ, ◌+◌, ◌<◌, ◌≤◌, List, length, get_or, slice_get, slice_set, Some, refl, sym, ap, ◌∙◌, arith, length-set}
use Rattle.std.proofs.lemmas.Option.{slice_get-get_or}
use Rattle.interleaving.proofs.Put.{same_or_not, put_same, put_other}
use Rattle.interleaving.proofs.Lists.{get_set}
use Rattle.crew_pages.specs.declared.right.PageRight.{PageRight}
use Rattle.crew_pages.specs.Rights.{Right, right_of}
use Rattle.book_modes.specs.Recordings.{right_at, right_stored}

-- the rights of the first n pages have changed so
pub record AreChanged (change : ℕ → Right → Right) (old new : List PageRight) (n : ℕ) : Type 0 where
  pub many : length new ≡ length old
  pub first : (page : ℕ) → page < n → right_at new page ≡ change page (right_at old page)
  pub others : (page : ℕ) → n ≤ page → right_at new page ≡ right_at old page

pub right_there : (rights : List PageRight) (page : ℕ) (d : PageRight) → page < length rights → right_at rights page ≡ right_of (get_or rights page d)
right_there rights page d lt = ap right_stored (slice_get-get_or rights page d lt)

pub right_set : (rights : List PageRight) (page : ℕ) (made : PageRight) → page < length rights → right_at (slice_set rights page made) page ≡ right_of made
right_set rights page made lt =
    ap (λ (f : ℕ → _). right_stored (f page)) (get_set rights page made lt) ∙ ap right_stored (put_same (slice_get rights) page page (Some made) refl)

pub right_left : (rights : List PageRight) (page : ℕ) (made : PageRight) (other : ℕ) → page < length rights → page ≢ other →
    right_at (slice_set rights page made) other ≡ right_at rights other
right_left rights page made other lt ne =
    ap (λ (f : ℕ → _). right_stored (f other)) (get_set rights page made lt) ∙
    ap right_stored (put_other (slice_get rights) page other (Some made) ne)

module _ (change : ℕ → Right → Right) (old : List PageRight) where
  pub changed_none : AreChanged change old old 0
  changed_none = record { many = refl; first = λ page lt. absurd (omega arith); others = λ page le. refl }

  module _ (now : List PageRight) (n : ℕ) (so_far : AreChanged change old now n) where
    -- the page's right is put
    pub changed_more : (made : PageRight) → n < length old → right_of made ≡ change n (right_at now n) → AreChanged change old (slice_set now n made) (n + 1)
    changed_more made lt is =
        let within : n < length now = omega (arith, lt, so_far.many) in
        record {
          many = length-set now n made ∙ so_far.many;
          first = λ page below.
              elim (same_or_not n page) [
                | inl same ↦
                    rw (← same) (right_set now n made within ∙ (is ∙ ap (change n) (so_far.others n (omega arith))))
                | inr ne ↦
                    let before : page < n = omega (arith, below, ne) in
                    right_left now n made page within ne ∙ so_far.first page before
              ];
          others = λ page le.
              let ne : n ≢ page = omega arith in
              right_left now n made page within ne ∙ so_far.others page (omega arith);
        }

    -- or stays, where the change leaves it
    pub changed_same : change n (right_at old n) ≡ right_at old n → AreChanged change old now (n + 1)
    changed_same is =
        record {
          many = so_far.many;
          first = λ page below.
              elim (same_or_not n page) [
                | inl same ↦ rw (← same) (so_far.others n (omega arith) ∙ sym is)
                | inr ne ↦
                    let before : page < n = omega (arith, below, ne) in
                    so_far.first page before
              ];
          others = λ page le. so_far.others page (omega arith);
        }
