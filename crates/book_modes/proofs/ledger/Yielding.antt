-- Harts that yield to an asker.
use Rattle.std.proofs.Common.{◌≡◌, ◌≢◌, ℕ, zero, suc, ◌+◌, ◌↔◌, ◌<◌, ◌≤◌, List, [], ◌∷◌, length, slice_set, slice_index_or, inl, inr, Bool, true, false}
use Rattle.std.proofs.Common.{if◌then◌else◌, length-set, refl, sym, ap, subst, ◌∙◌, arith, true≢false}
use Rattle.std.proofs.lemmas.Bool.{cases_eq, cases_lt}
use Rattle.std.proofs.lemmas.List.{get_or-set_same, get_or-set_other}
use Rattle.ft_types.specs.Sets.{IsMember}
use Rattle.ft_types.specs.declared.names.TheConstants.{HART_LIMIT}
use Rattle.crew_pages.specs.Rights.{Right, stands, holds, given, give_up, IsFree}
use Rattle.lease_ledger.proofs.Laws.{leaves_the_way}
use Rattle.lease_ledger.proofs.Stays.{stands_holds}
use Rattle.hart_lease.specs.declared.asked.Asked.{Asked}
use Rattle.crew_pages.specs.declared.right.PageRight.{PageRight}
use Rattle.crew_pages.specs.Rights.{right_of}
use Rattle.book_modes.specs.machinery.Yielding.{yielded}
use Rattle.book_modes.specs.Recordings.{RecordingView, IsGiven, right_at, right_met}
use Rattle.book_modes.proofs.ledger.MetRights.{met_is}

untrue : (b : Bool) → (b ≡ true → ⊥) → b ≡ false
untrue true not = absurd (not refl)
untrue false not = refl

-- where nobody stands in the asker's way, nobody yields
pub none_yields : (asked : Asked) (settled : ℕ → ℕ) (n : ℕ) (right : Right) → ((g : ℕ) → stands right asked.hart asked.want g ≡ true → ⊥) →
    yielded asked settled n right ≡ right
none_yields asked settled zero right free = refl
none_yields asked settled (suc n) right free =
    rw (none_yields asked settled n right free) (rw (untrue (stands right asked.hart asked.want n) (free n)) refl)

next : (n other : ℕ) → n ≤ other → n ≢ other → suc n ≤ other
next n other le ne =
    elim (cases_lt n other) [
      | inl lt ↦ omega (arith, lt)
      | inr ge ↦ absurd (ne (omega (arith, le, ge)))
    ]

module _ (asked : Asked) (settled : ℕ → ℕ) (right : Right) where
  -- a hart that still stands in the way once the first n have yielded is none of these, and stood there before
  pub record StoodBefore (n other : ℕ) : Type 0 where
    pub later : n ≤ other
    pub stood : stands right asked.hart asked.want other ≡ true

  pub still : (n other : ℕ) → stands (yielded asked settled n right) asked.hart asked.want other ≡ true → StoodBefore n other
  still zero other e = record { later = omega arith; stood = e }
  still (suc n) other e = of (still n other) (stands (yielded asked settled n right) asked.hart asked.want n) refl
    where
      before : Right
      before = yielded asked settled n right

      of : (stands before asked.hart asked.want other ≡ true → StoodBefore n other) → (b : Bool) → stands before asked.hart asked.want n ≡ b →
          StoodBefore (suc n) other
      of earlier true here =
          let way = leaves_the_way before asked.hart asked.want n (settled n) other (stands_holds before asked.hart asked.want n here)
          (subst (λ b. stands (if b then give_up before n (settled n) else before) asked.hart asked.want other ≡ true) here e) in
          let old = earlier way.1 in
          record { later = next n other old.later way.0; stood = old.stood }
      of earlier false here =
          let there = subst (λ b. stands (if b then give_up before n (settled n) else before) asked.hart asked.want other ≡ true) here e in
          let old = earlier there in
          record {
            later = next n other old.later (λ same. true≢false (sym there ∙ (ap (stands before asked.hart asked.want) (sym same) ∙ here)));
            stood = old.stood;
          }

  -- so once all have, nobody does
  pub nobody_stands : ((other : ℕ) → holds right other ≡ true → other < HART_LIMIT) → IsFree (yielded asked settled HART_LIMIT right) asked.hart asked.want
  nobody_stands few other = of (stands (yielded asked settled HART_LIMIT right) asked.hart asked.want other) refl
    where
      of : (b : Bool) → stands (yielded asked settled HART_LIMIT right) asked.hart asked.want other ≡ b → stands (yielded asked settled HART_LIMIT right) asked.hart asked.want
          other ≡ false
      of false e = e
      of true e =
          let old = still HART_LIMIT other e in
          let lt = few other (stands_holds right asked.hart asked.want other old.stood) in
          absurd (omega (arith, old.later, lt))

-- a right in its place
pub right_there : (rights : List PageRight) (page : ℕ) (d : PageRight) → page < length rights → right_at rights page ≡ right_of (slice_index_or rights page d)
right_there [] page d lt = absurd (omega arith)
right_there (x ∷ rights) zero d lt = refl
right_there (x ∷ rights) (suc page) d lt = right_there rights page d (omega arith)

pub right_set : (rights : List PageRight) (page : ℕ) (new : PageRight) → page < length rights → right_at (slice_set rights page new) page ≡ right_of new
right_set [] page new lt = absurd (omega arith)
right_set (x ∷ rights) zero new lt = refl
right_set (x ∷ rights) (suc page) new lt = right_set rights page new (omega arith)

pub right_stays : (rights : List PageRight) (page : ℕ) (new : PageRight) (other : ℕ) → page ≢ other →
    right_at (slice_set rights page new) other ≡ right_at rights other
right_stays [] page new other ne = refl
right_stays (x ∷ rights) zero new zero ne = absurd (ne refl)
right_stays (x ∷ rights) zero new (suc other) ne = refl
right_stays (x ∷ rights) (suc page) new zero ne = refl
right_stays (x ∷ rights) (suc page) new (suc other) ne = right_stays rights page new other (λ e. ne (ap suc e))

-- members found so far, with one more or without it
pub one_more : (P : ℕ → Type 0) (flags : List Bool) (n : ℕ) → n < length flags → P n → ((g : ℕ) → IsMember flags g ↔ ((g < n) × P g)) →
    (g : ℕ) → IsMember (slice_set flags n true) g ↔ ((g < n + 1) × P g)
one_more P flags n lt holds so_far g =
    elim (cases_eq n g) [
      | inl same ↦ (
        λ m. (omega (arith, same), subst P same holds),
        λ h. ap (λ k. slice_index_or (slice_set flags n true) k false) (sym same) ∙ get_or-set_same flags n true false lt,
      )
      | inr ne ↦
          let other : slice_index_or (slice_set flags n true) g false ≡ slice_index_or flags g false = get_or-set_other flags n g true false
          (λ e. ne (sym e)) in (
            λ m. let old = (so_far g).0 (sym other ∙ m) in (omega (arith, old.0), old.1),
            λ h. other ∙ (so_far g).1 (before n g h.0 ne, h.1),
          )
    ]
  where
    before : (n g : ℕ) → g < n + 1 → n ≢ g → g < n
    before n g lt ne = elim (cases_lt g n) [ inl below ↦ below | inr ge ↦ absurd (ne (omega (arith, lt, ge))) ]

pub none_more : (P : ℕ → Type 0) (flags : List Bool) (n : ℕ) → (P n → ⊥) → ((g : ℕ) → IsMember flags g ↔ ((g < n) × P g)) →
    (g : ℕ) → IsMember flags g ↔ ((g < n + 1) × P g)
none_more P flags n lacks so_far g = (
  λ m. let old = (so_far g).0 m in (omega (arith, old.0), old.1),
  λ h. elim (cases_lt g n) [
    | inl below ↦ (so_far g).1 (below, h.1)
    | inr ge ↦ absurd
        (lacks (subst P (let same : g ≡ n = omega (arith, h.0, ge) in same) h.1))
  ],
)

-- a right that was read at an index
pub right_read : (rights inside : List PageRight) (page index : ℕ) (x : PageRight) → inside ≡ rights → index ≡ page → page < length rights →
    x ≡ slice_index_or inside index x → right_of x ≡ right_at rights page
right_read rights inside page index x same at lt e =
    ap right_of (e ∙ (λ i. slice_index_or (same i) (at i) x)) ∙ sym (right_there rights page x lt)

-- what the asker meets, from a right that was read at an index
pub met_read : (r : RecordingView) (settled : ℕ → ℕ) (asked : Asked) (inside : RecordingView) (index : ℕ) (x y : PageRight) → inside ≡ r →
    index ≡ asked.page → asked.page < length r.rights → x ≡ slice_index_or inside.rights index x → right_of y ≡ yielded asked settled HART_LIMIT (right_of x) →
    ((other : ℕ) → holds (right_at r.rights asked.page) other ≡ true → other < HART_LIMIT) → right_of y ≡ right_met r settled asked
met_read r settled asked inside index x y same at lt read is few =
    is ∙ (ap (yielded asked settled HART_LIMIT) (right_read r.rights inside.rights asked.page index x (ap (λ (v : RecordingView). v.rights) same) at lt read) ∙
    sym (met_is r settled asked few))

-- a right that was written at an index is what the asker is given
pub given_there : (r : RecordingView) (settled : ℕ → ℕ) (asked : Asked) (inside : RecordingView) (index : ℕ) (x : PageRight) → inside ≡ r →
    index ≡ asked.page → asked.page < length r.rights → right_of x ≡ given (right_met r settled asked) asked.hart asked.want asked.count →
    IsGiven r settled asked (record inside { rights = slice_set inside.rights index x })
given_there r settled asked inside index x same at lt is =
    subst (λ (v : RecordingView). IsGiven r settled asked (record v { rights = slice_set v.rights index x })) (sym same)
    (subst (λ (page : ℕ). IsGiven r settled asked (record r { rights = slice_set r.rights page x })) (sym at)
    (record {
      rest = refl;
      many = length-set r.rights asked.page x;
      page = right_set r.rights asked.page x lt ∙ is;
      others = λ page ne. right_stays r.rights asked.page x page ne;
    }))
