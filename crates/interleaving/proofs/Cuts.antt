-- Closed cuts: the greater of two, the greatest below a bound; edges that say nothing new.
use Rattle.std.proofs.Common.{◌≡◌, ◌⊎◌, inl, inr, ℕ, zero, suc, ◌+◌, ◌<◌, ◌≤◌, true, false, cond, List, [], ◌∷◌, Contains, nat_lt, refl, sym, ap, subst, ◌∙◌}
use Rattle.std.proofs.Common.{arith, le_trans, lt-ltb, le-ltb}
use Rattle.std.proofs.lemmas.Bool.{cases_lt}
use Rattle.std.proofs.lemmas.List.Elements.{Contains-append_cases, Contains-append_left, Contains-append_right}
use Rattle.interleaving.specs.Lists.{IsWithin}
use Rattle.interleaving.specs.Log.{Edge, Place, Before, Own, Across, Through, IsClosed, IsMet, Begins, bump}
use Rattle.interleaving.specs.Cuts.{StartIsClosed, GreaterIsClosed, IsGreatest, IsBroken, ClosedOrBroken, IsLowering, LoweringKeeps, lowered, IsEnough}
use Rattle.interleaving.specs.Cuts.{ImpliedMayGo}
use Rattle.interleaving.proofs.Put.{same_or_not, put_same, put_other, bump_le}
use Rattle.interleaving.proofs.Order.{before_inside, bump_closed}

pub start_closed : StartIsClosed
start_closed edges start later e is_edge below = let h : start e.hart ≤ e.step = later e is_edge in absurd (omega arith)

pub greater_closed : GreaterIsClosed
greater_closed edges a b ca cb e is_edge below =
    elim (cases_lt e.step (a e.hart)) [
      | inl less ↦ let h : e.count ≤ a e.other = ca e is_edge less in omega arith
      | inr more ↦
          let less : e.step < b e.hart = omega arith in
          let h : e.count ≤ b e.other = cb e is_edge less in omega arith
    ]

-- an edge of x ∷ xs
pub here_or_later : {A : Type 0} (x : A) (xs : List A) (y : A) → Contains (x ∷ xs) y → (x ≡ y) ⊎ Contains xs y
here_or_later x xs y h =
    elim (Contains-append_cases (x ∷ []) xs y h) [ inl one ↦ inl (only one) | inr later ↦ inr later ]
  where
    only : Contains (x ∷ []) y → x ≡ y
    only (zero, below, is) = is
    only (suc k, below, is) = absurd (omega arith)

pub here : {A : Type 0} (x : A) (xs : List A) → Contains (x ∷ xs) x
here x xs = Contains-append_left (x ∷ []) xs x (0, (omega arith), refl)

pub find_broken : ClosedOrBroken
find_broken [] cut = inl (λ e (k, below, is). absurd (omega arith))
find_broken (x ∷ edges) cut =
    elim (find_broken edges cut) [
      | inr (e, is_edge, broken) ↦ inr (e, Contains-append_right (x ∷ []) edges e is_edge, broken)
      | inl closed ↦
          elim (cases_lt x.step (cut x.hart)) [
            | inr above ↦
                inl
                (λ e is_edge below.
                elim (here_or_later x edges e is_edge) [
                  | inl is ↦
                      let h : cut e.hart ≤ e.step = subst (λ x. cut x.hart ≤ x.step) is above in absurd (omega arith)
                  | inr later ↦ closed e later below
                ])
            | inl below ↦
                elim (cases_lt (cut x.other) x.count) [
                  | inl short ↦ inr (x, here x edges, (below, short))
                  | inr met ↦
                      inl
                      (λ e is_edge below.
                      elim (here_or_later x edges e is_edge) [
                        | inl is ↦ subst
                            (λ x. x.count ≤ cut x.other) is met
                        | inr later ↦ closed e later below
                      ])
                ]
          ]
    ]

-- how many edges ask something of the cut
abbrev asked : List Edge → (ℕ → ℕ) → ℕ
asked [] cut = 0
asked (x ∷ edges) cut = cond (nat_lt x.step (cut x.hart)) (1 + asked edges cut) (asked edges cut)

asked_more : (x : Edge) (edges : List Edge) (cut : ℕ → ℕ) → asked edges cut ≤ asked (x ∷ edges) cut
asked_more x edges cut =
    elim (nat_lt x.step (cut x.hart)) as
    (λ b. asked edges cut ≤ cond b (1 + asked edges cut) (asked edges cut)) [ true ↦ omega arith | false ↦ omega arith ]

asked_le : (edges : List Edge) (cut lower : ℕ → ℕ) → ((hart : ℕ) → lower hart ≤ cut hart) →
    asked edges lower ≤ asked edges cut
asked_le [] cut lower le = omega arith
asked_le (x ∷ edges) cut lower le =
    let ih : asked edges lower ≤ asked edges cut = asked_le edges cut lower le in
    elim (cases_lt x.step (lower x.hart)) [
      | inl less ↦
          let l : lower x.hart ≤ cut x.hart = le x.hart in
          let more : x.step < cut x.hart = omega arith in
          rw (lt-ltb x.step (lower x.hart) less, lt-ltb x.step (cut x.hart) more) (omega arith)
      | inr over ↦ rw (le-ltb x.step (lower x.hart) over) (le_trans ih (asked_more x edges cut))
    ]

asked_less : (edges : List Edge) (cut lower : ℕ → ℕ) → ((hart : ℕ) → lower hart ≤ cut hart) → (e : Edge) →
    Contains edges e → e.step < cut e.hart →
    lower e.hart ≤ e.step → asked edges lower < asked edges cut
asked_less [] cut lower le e (k, less, is) was now = absurd (omega arith)
asked_less (x ∷ edges) cut lower le e is_edge was now =
    elim (here_or_later x edges e is_edge) [
      | inl is ↦
          let was_x : x.step < cut x.hart = subst (λ e. e.step < cut e.hart) (sym is) was in
          let now_x : lower x.hart ≤ x.step = subst (λ e. lower e.hart ≤ e.step) (sym is) now in
          let ih : asked edges lower ≤ asked edges cut = asked_le edges cut lower le in
          rw (le-ltb x.step (lower x.hart) now_x, lt-ltb x.step (cut x.hart) was_x) (omega arith)
      | inr later ↦
          let ih : asked edges lower < asked edges cut = asked_less edges cut lower le e later was now in
          elim (cases_lt x.step (lower x.hart)) [
            | inl less ↦
                let l : lower x.hart ≤ cut x.hart = le x.hart in
                let more : x.step < cut x.hart = omega arith in
                rw (lt-ltb x.step (lower x.hart) less, lt-ltb x.step (cut x.hart) more) (omega arith)
            | inr over ↦ rw (le-ltb x.step (lower x.hart) over) (le_trans ih (asked_more x edges cut))
          ]
    ]

pub lowering : LoweringKeeps
lowering edges bound e is_edge (step, short) =
    record { less = less; below = falls; keeps = under; greatest = passed_on }
  where
    at_hart : (h : ℕ) → e.hart ≡ h → lowered bound e h ≡ e.step
    at_hart h = put_same bound e.hart h e.step

    less : lowered bound e e.hart < bound e.hart
    less = let f : lowered bound e e.hart ≡ e.step = at_hart e.hart refl in omega (arith, step)

    falls : (h : ℕ) → lowered bound e h ≤ bound h
    falls h =
        elim (same_or_not e.hart h) [
          | inl same ↦
              let f : lowered bound e h ≡ e.step = at_hart h same in
              let k : bound e.hart ≡ bound h = ap bound same in
              omega (arith, step)
          | inr ne ↦ let f : lowered bound e h ≡ bound h = put_other bound e.hart h e.step ne in omega arith
        ]

    under : (cut : ℕ → ℕ) → IsClosed edges cut → IsWithin cut bound → IsWithin cut (lowered bound e)
    under cut closed below h =
        elim (same_or_not e.hart h) [
          | inl same ↦
              let f : lowered bound e h ≡ e.step = at_hart h same in
              let k : cut e.hart ≡ cut h = ap cut same in
              omega (arith, not_past)
          | inr ne ↦
              let f : lowered bound e h ≡ bound h = put_other bound e.hart h e.step ne in
              let b : cut h ≤ bound h = below h in
              omega arith
        ]
      where
        not_past : cut e.hart ≤ e.step
        not_past =
            elim (cases_lt e.step (cut e.hart)) [
              | inl past ↦
                  let c : e.count ≤ cut e.other = closed e is_edge past in
                  let d : cut e.other ≤ bound e.other = below e.other in
                  absurd (omega (arith, short))
              | inr fine ↦ fine
            ]

    passed_on : (cut : ℕ → ℕ) → IsGreatest edges (lowered bound e) cut → IsGreatest edges bound cut
    passed_on cut g =
        record {
          closed = g.closed;
          below = λ h. le_trans (g.below h) (falls h);
          greatest = λ other closed below. g.greatest other closed (under other closed below);
        }

-- the greatest below the lowered bound, which fewer edges ask something of
lower_one : (edges : List Edge) (bound : ℕ → ℕ) (e : Edge) → Contains edges e → IsBroken bound e →
    (asked edges (lowered bound e) < asked edges bound → (cut : ℕ → ℕ) × IsGreatest edges (lowered bound e) cut) →
    (cut : ℕ → ℕ) × IsGreatest edges bound cut
lower_one edges bound e is_edge (step, short) rec = (found.0, low.greatest found.0 found.1)
  where
    low : IsLowering edges bound e
    low = lowering edges bound e is_edge (step, short)

    found : (cut : ℕ → ℕ) × IsGreatest edges (lowered bound e) cut
    found =
        rec
        (asked_less edges bound (lowered bound e) low.below e is_edge step
        (let f : lowered bound e e.hart ≡ e.step = put_same bound e.hart e.hart e.step refl in omega arith))

greatest_by : (fuel : ℕ) (edges : List Edge) (bound : ℕ → ℕ) → asked edges bound ≤ fuel →
    IsClosed edges bound ⊎ ((e : Edge) × Contains edges e × IsBroken bound e) →
    (cut : ℕ → ℕ) × IsGreatest edges bound cut
greatest_by fuel edges bound enough (inl closed) =
    (bound, record { closed = closed; below = λ h. omega arith; greatest = λ other c under. under })
greatest_by zero edges bound enough (inr (e, is_edge, broken)) =
    lower_one edges bound e is_edge broken (λ less. absurd (omega arith))
greatest_by (suc fuel) edges bound enough (inr (e, is_edge, broken)) =
    lower_one edges bound e is_edge broken
    (λ less. greatest_by fuel edges (lowered bound e) (omega arith) (find_broken edges (lowered bound e)))

pub greatest : (edges : List Edge) (bound : ℕ → ℕ) → (cut : ℕ → ℕ) × IsGreatest edges bound cut
greatest edges bound = greatest_by (asked edges bound) edges bound (omega arith) (find_broken edges bound)

before_among : (few all : List Edge) → ((e : Edge) → Contains few e → Contains all e) → {a b : Place} →
    Before few a b → Before all a b
before_among few all among (Own same less) = Own same less
before_among few all among (Across e is_edge other less hart from) = Across e (among e is_edge) other less hart from
before_among few all among (Through p q) = Through (before_among few all among p) (before_among few all among q)

few_closed : (few all : List Edge) (start : ℕ → ℕ) → IsEnough few all start → (cut : ℕ → ℕ) →
    ((hart : ℕ) → start hart ≤ cut hart) → IsClosed few cut → IsClosed all cut
few_closed few all start enough cut from_start closed e is_edge below =
    elim (enough.implied e is_edge) [
      | inl early ↦ le_trans early (from_start e.other)
      | inr (by, is_by, hart, other, step, count) ↦
          let f : cut by.hart ≡ cut e.hart = ap cut hart in
          let g : cut by.other ≡ cut e.other = ap cut other in
          let c : by.count ≤ cut by.other = closed by is_by (omega arith) in
          omega arith
    ]

before_few : (few all : List Edge) (start : ℕ → ℕ) → IsEnough few all start → {a b : Place} → Before all a b →
    start a.hart ≤ a.step → Before few a b
before_few few all start enough (Own same less) from = Own same less
before_few few all start enough (Across {a = a} {b = b} e is_edge other less hart behind) from =
    elim (enough.implied e is_edge) [
      | inl early ↦ let f : start a.hart ≡ start e.other = ap start other in absurd (omega arith)
      | inr (by, is_by, by_hart, by_other, step, count) ↦
          Across by is_by (other ∙ sym by_other) (omega arith) (hart ∙ sym by_hart) (omega arith)
    ]
before_few few all start enough (Through {a = a} {b = b} {c = c} p q) from =
    Through (before_few few all start enough p from)
    (
    before_few few all start enough q
    (elim (cases_lt b.step (start b.hart)) [
      | inl early ↦
          let h : a.step < start a.hart =
          before_inside all start
          (few_closed few all start enough start (λ h. omega arith) enough.start_closed) p early in
          absurd (omega arith)
      | inr fine ↦ fine
    ])
    )

few_met : (few all : List Edge) (start : ℕ → ℕ) → IsEnough few all start → (now : ℕ → ℕ) (hart : ℕ) →
    ((other : ℕ) → start other ≤ now other) → IsClosed few now →
    IsMet few now hart → IsMet all now hart
few_met few all start enough now hart from_start closed met e is_edge here_is stands =
    elim (enough.implied e is_edge) [
      | inl early ↦ le_trans early (from_start e.other)
      | inr (by, is_by, by_hart, by_other, step, count) ↦
          let g : now by.other ≡ now e.other = ap now by_other in
          let k : now by.hart ≡ now hart = ap now (by_hart ∙ here_is) in
          elim (cases_lt by.step (now by.hart)) [
            | inl below ↦ let c : by.count ≤ now by.other = closed by is_by below in omega arith
            | inr at ↦ let c : by.count ≤ now by.other = met by is_by (by_hart ∙ here_is) (omega arith) in omega arith
          ]
    ]

begins_few : (few all : List Edge) (start : ℕ → ℕ) → IsEnough few all start → (cut now : ℕ → ℕ) (order : List ℕ) →
    IsWithin start now → IsClosed few now → Begins few cut now order → Begins all cut now order
begins_few few all start enough cut now [] from closed begins = tt
begins_few few all start enough cut now (hart ∷ order) from closed begins = (
  (begins.0.0, few_met few all start enough now hart from closed begins.0.1),
  begins_few few all start enough cut (bump now hart) order (λ i. le_trans (from i) (bump_le now hart i))
      (bump_closed few now hart closed begins.0.1) begins.1,
)

begins_among : (few all : List Edge) → ((e : Edge) → Contains few e → Contains all e) →
    (cut now : ℕ → ℕ) (order : List ℕ) →
    Begins all cut now order → Begins few cut now order
begins_among few all among cut now [] begins = tt
begins_among few all among cut now (hart ∷ order) begins = (
  (begins.0.0, λ e is_edge here_is stands. begins.0.1 e (among e is_edge) here_is stands),
  begins_among few all among cut (bump now hart) order begins.1,
)

pub same_order : ImpliedMayGo
same_order few all start enough =
    record {
      cuts =
          λ cut from. (
            few_closed few all start enough cut from,
            λ closed e is_edge below. closed e
                (enough.among e is_edge) below,
          );
      before = λ a b from. (before_among few all enough.among, λ p. before_few few all start enough p from);
      met =
          λ now hart from closed. (
            few_met few all start enough now hart from closed,
            λ met e is_edge here_is stands. met e
                (enough.among e is_edge) here_is stands,
          );
      schedules =
          λ cut order. (
            begins_few few all start enough cut start order (λ i. omega arith) enough.start_closed,
            begins_among few all enough.among cut start order,
          );
    }
